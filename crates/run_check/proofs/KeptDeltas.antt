-- What is kept of deltas stays right as entries are read.
use Rattle.std.proofs.Common.{◌≡◌, ◌==◌, ◌&&◌, ◌||◌, ℕ, zero, suc, ◌+◌, ◌<◌, ◌≤◌, not, Bool, true, false, List, ◌∷◌, Option, Some, None, refl, sym, ap, ◌∙◌, arith, if◌then◌else◌}
use Rattle.std.proofs.lemmas.Bool.{false≢true}
use Rattle.std.proofs.lemmas.Bool.Decides.{Decides-and, Decides-eqb}
use Rattle.stripe_layout.specs.declared.mode.Mode.{Mode}
use Rattle.stripe_layout.specs.Modes.{sends_delta, hands_delta_back}
use Rattle.array_journal.specs.declared.at.At.{At}
use Rattle.array_journal.specs.declared.entry.Entry.{Entry}
use Rattle.array_journal.specs.declared.event.Event.{Event}
use Rattle.array_journal.specs.declared.event.Event.TheVariants.{Diff, Take}
use Rattle.array_journal.specs.declared.setting.Setting.{Setting}
use Rattle.array_journal.specs.declared.task.Task.{Task}
use Rattle.array_journal.specs.Deltas.{delta_in, delta_at}
use Rattle.array_journal.specs.Entries.{entry_at, name_of, same_at}
use Rattle.array_journal.specs.May.{May, MayAt, is_under_way}
use Rattle.run_check.specs.declared.deltas.SentDeltas.{SentDeltas}
use Rattle.run_check.specs.Plain.{same_found}
use Rattle.run_check.specs.FoldTest.{is_source}
use Rattle.run_check.specs.SentDeltas.{sends_away, was_sent, kept_delta, first_of, KeepsDeltas, kept_source}

lock-in-range : (s : Setting) (past : List Entry) (stamp lock : ℕ) (event : Event) → MayAt s past stamp lock event → lock ≤ s.geometry.targets
lock-in-range s past stamp zero event m = omega arith
lock-in-range s past stamp (suc i) event m = let h : i < s.geometry.targets = m.0 in omega (arith, h)

-- an entry that may follow is the book's or a target's
pub may-in-range : (s : Setting) (past : List Entry) (e : Entry) → May s past e → e.lock ≤ s.geometry.targets
may-in-range s past e m = lock-in-range s past e.stamp e.lock e.event m.1

-- the delta of an event that sends it away is there
taken-first : (s : Setting) (i : ℕ) (past : List Entry) (event : Event) (other : Option (List ℕ)) →
    sends_away event ≡ true → first_of (delta_in s i past event) other ≡ delta_in s i past event
taken-first s i past (Diff command opened cdb row bytes sent dropped back) other h = refl
taken-first s i past _ other h = absurd (false≢true h)

same-lock : (a b : At) → same_at a b ≡ true → a.lock ≡ b.lock
same-lock a b h = ((Decides-and _ _ (Decides-eqb a.stamp b.stamp) (Decides-eqb a.lock b.lock)).0 h).1

-- What is kept for each name, once one more entry is read: its own delta for the entry's name.
pub kept-more : (s : Setting) (past : List Entry) (e : Entry) (sent : Option (List ℕ)) (old new : At → Option (List ℕ)) →
    ((i : ℕ) → e.lock ≡ i + 1 → sends_away e.event ≡ true → sent ≡ delta_in s i past e.event) →
    ((name : At) → new name ≡ (if same_at name (name_of e) then first_of sent (old name) else old name)) →
    ((i : ℕ) (name : At) → name.lock ≡ i + 1 → was_sent (entry_at name past) ≡ true → old name ≡ delta_at s i name past) →
    (i : ℕ) (name : At) → name.lock ≡ i + 1 → was_sent (entry_at name (e ∷ past)) ≡ true → new name ≡ delta_at s i name (e ∷ past)
kept-more s past e sent old new own changed kept i name at was =
    changed name ∙ by_name (same_at name (name_of e)) (λ h. same-lock name (name_of e) h) was
  where
    by_name : (b : Bool) → (b ≡ true → name.lock ≡ e.lock) → was_sent (if b then Some e.event else entry_at name past) ≡ true →
        (if b then first_of sent (old name) else old name) ≡ (if b then delta_in s i past e.event else delta_at s i name past)
    by_name true lock h = ap (λ o. first_of o (old name)) (own i (sym (lock refl) ∙ at) h) ∙ taken-first s i past e.event (old name) h
    by_name false lock h = kept i name at h

-- a delta that is on its way left its target
under-way-sent : (mode : Mode) (sent dropped back : Bool) → is_under_way mode sent dropped back ≡ true → (sent || back) ≡ true
under-way-sent mode sent dropped back h = by_answers (sends_delta mode) (hands_delta_back mode) sent dropped back h
  where
    by_answers : (sends hands sent dropped back : Bool) → ((sends && sent && not dropped) || (hands && back)) ≡ true → (sent || back) ≡ true
    by_answers sends hands true dropped back h = refl
    by_answers sends hands false dropped true h = refl
    by_answers true true false dropped false h = h
    by_answers true false false dropped false h = h
    by_answers false true false dropped false h = h
    by_answers false false false dropped false h = h

-- what a fold may rest on is the same by the delta that is kept
pub source-kept : (s : Setting) (past : List Entry) (deltas : SentDeltas) (c : ℕ) (task : Task) (name : At) (bytes : List ℕ) →
    KeepsDeltas s past deltas → name.lock ≡ task.target + 1 →
    kept_source s deltas c name bytes (entry_at name past) ≡ is_source s past c task name bytes (entry_at name past)
source-kept s past deltas c task name bytes kept at = by_event (entry_at name past) (λ was. kept task.target name at was)
  where
    by_way : (way : Bool) (command : ℕ) → (way ≡ true → kept_delta deltas name ≡ delta_at s task.target name past) →
        (way && (command == c) && same_found bytes (kept_delta deltas name)) ≡ (way && (command == c) && same_found bytes (delta_at s task.target name past))
    by_way true command found = ap (λ o. (command == c) && same_found bytes o) (found refl)
    by_way false command found = refl

    by_event : (o : Option Event) → (was_sent o ≡ true → kept_delta deltas name ≡ delta_at s task.target name past) →
        kept_source s deltas c name bytes o ≡ is_source s past c task name bytes o
    by_event (Some (Take command opened cdb row taken)) found = refl
    by_event (Some (Diff command opened cdb row written sent dropped back)) found =
        by_way (is_under_way s.mode sent dropped back) command (λ way. found (under-way-sent s.mode sent dropped back way))
    by_event (Some _) found = refl
    by_event None found = refl
