-- The deltas that left their targets, as the program keeps them.
use Rattle.std.specs.Prelude.{◌≡◌, ◌==◌, ◌&&◌, ◌||◌, ◌+◌, ℕ, Bool, true, false, List, Option, Some, None}
use Rattle.std.specs.Str.{bytes_eq}
use Rattle.std.specs.BTreeMap.{get}
use Rattle.array_journal.specs.declared.at.At.{At}
use Rattle.array_journal.specs.declared.entry.Entry.{Entry}
use Rattle.array_journal.specs.declared.event.Event.{Event}
use Rattle.array_journal.specs.declared.event.Event.TheVariants.{Diff, Take}
use Rattle.array_journal.specs.declared.setting.Setting.{Setting}
use Rattle.array_journal.specs.Deltas.{delta_at}
use Rattle.array_journal.specs.Entries.{entry_at}
use Rattle.array_journal.specs.May.{is_under_way}
use Rattle.journal_index.specs.Keys.{pair_cmp}
use Rattle.run_check.specs.declared.deltas.SentDeltas.{SentDeltas}
use Rattle.run_check.specs.Plain.{same_found}

-- the event is a diff that sent its delta or handed it back
abbrev pub sends_away : Event → Bool
sends_away (Diff command opened cdb row bytes sent dropped back) = sent || back
sends_away _ = false

-- there is an event, and it is such a diff
abbrev pub was_sent : Option Event → Bool
was_sent None = false
was_sent (Some event) = sends_away event

-- what is kept for a name
abbrev pub kept_delta : SentDeltas → At → Option (List ℕ)
kept_delta deltas name = get pair_cmp deltas.kept (name.stamp, name.lock)

-- the first, where there is one
abbrev pub first_of : {A : Type 0} → Option A → Option A → Option A
first_of (Some x) other = Some x
first_of None other = other

-- for the name of each such diff its delta is kept
abbrev pub KeepsDeltas : Setting → List Entry → SentDeltas → Type 0
KeepsDeltas s past deltas = (i : ℕ) (name : At) → name.lock ≡ i + 1 → was_sent (entry_at name past) ≡ true → kept_delta deltas name ≡ delta_at s i name past

-- what a fold may rest on, by the delta that is kept
abbrev pub kept_source : Setting → SentDeltas → ℕ → At → List ℕ → Option Event → Bool
kept_source s deltas c name bytes (Some (Take command opened cdb row taken)) = (command == c) && bytes_eq taken bytes
kept_source s deltas c name bytes (Some (Diff command opened cdb row written sent dropped back)) =
    is_under_way s.mode sent dropped back && (command == c) && same_found bytes (kept_delta deltas name)
kept_source s deltas c name bytes _ = false
