-- What a target holds of a command, to the byte. past is a run so far, with the newest entry first.
use Rattle.std.specs.Prelude.{◌≡◌, ◌+◌, ℕ, Bool, true, false, List, Some}
use Rattle.stripe_layout.specs.Modes.{takes_delta}
use Rattle.sbc_cdbs.specs.declared.descriptor.Cdb.{Cdb}
use Rattle.array_journal.specs.declared.at.At.{At}
use Rattle.array_journal.specs.declared.entry.Entry.{Entry}
use Rattle.array_journal.specs.declared.event.Event.TheVariants.{Diff, Hold}
use Rattle.array_journal.specs.declared.setting.Setting.{Setting}
use Rattle.array_journal.specs.Entries.{entry_at, some_at}
use Rattle.xor_buffers.specs.Held.{AreAmong}
use Rattle.array_journal.specs.Media.{held}
use Rattle.array_journal.specs.Deltas.{delta_at}
use Rattle.array_journal.specs.Run.{Grows, IsSetting}
use Rattle.array_journal.specs.Laws.{releases}

-- target i holds these bytes for a command, from a row on
abbrev pub AreHeldThere : Setting → ℕ → List Entry → ℕ → ℕ → List ℕ → Type 0
AreHeldThere s i past c row bytes = AreAmong (record { owner = c; row = row; bytes = bytes }) (held s i past)

-- A delta that the controller is to take is held, as it was made and from the row that was written, until its command
-- takes it, or is shut there, or an entry that names the command discards it.
abbrev pub DeltaHeldExactlyLaw : Type 0
DeltaHeldExactlyLaw =
    (s : Setting) (i c row : ℕ) (name opened : At) (cdb : Cdb) (bytes : List ℕ) (sent dropped back : Bool) (past : List Entry) → IsSetting s →
    takes_delta s.mode ≡ true → Grows s past → name.lock ≡ i + 1 → entry_at name past ≡ Some (Diff c opened cdb row bytes sent dropped back) →
    some_at (i + 1) (releases c) past ≡ false → (delta : List ℕ) × ((delta_at s i name past ≡ Some delta) × AreHeldThere s i past c row delta)

-- and so is what a target gathered and kept
abbrev pub GatheredHeldExactlyLaw : Type 0
GatheredHeldExactlyLaw =
    (s : Setting) (i c row : ℕ) (name opened : At) (cdb : Cdb) (bytes : List ℕ) (names : List At) (back : Bool) (past : List Entry) → IsSetting s →
    Grows s past → name.lock ≡ i + 1 → entry_at name past ≡ Some (Hold c opened cdb row bytes true names back) →
    some_at (i + 1) (releases c) past ≡ false → AreHeldThere s i past c row bytes
