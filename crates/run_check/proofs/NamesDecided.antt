-- The tests of named entries decide what is asked of them.
use Rattle.std.proofs.Common.{◌==◌, ℕ, ◌+◌, ◌&&◌, nat_lt, Bool, List, [], ◌∷◌, Some, None, refl}
use Rattle.std.specs.Bool.{Decides}
use Rattle.std.proofs.lemmas.Bool.{false≢true}
use Rattle.std.proofs.lemmas.Bool.Decides.{Decides-and, Decides-eqb, Decides-ltb}
use Rattle.array_journal.specs.declared.at.At.{At}
use Rattle.array_journal.specs.declared.entry.Entry.{Entry}
use Rattle.array_journal.specs.declared.event.Event.{Event}
use Rattle.array_journal.specs.Entries.{at_lt, entry_at}
use Rattle.array_journal.specs.May.{passes, Names, NamesAt, Rise}
use Rattle.run_check.proofs.PlainDecided.{Decides-true}
use Rattle.run_check.specs.NameTests.{names, names_at, rise_after}

pub names-decided : (past : List Entry) (stamp : ℕ) (name : At) (test : Event → Bool) → Decides (names past stamp name test) (Names past stamp name test)
names-decided past stamp name test =
    Decides-and (passes test (entry_at name past)) (nat_lt name.stamp stamp) (Decides-true (passes test (entry_at name past))) (Decides-ltb name.stamp stamp)

pub names_at-decided : (past : List Entry) (stamp : ℕ) (targets : List ℕ) (test : Event → Bool) (list : List At) → Decides (names_at past stamp targets test list) (NamesAt past stamp targets test list)
names_at-decided past stamp [] test [] = (λ h. tt, λ h. refl)
names_at-decided past stamp [] test (name ∷ rest) = (λ h. absurd (false≢true h), λ h. absurd h)
names_at-decided past stamp (i ∷ targets) test [] = (λ h. absurd (false≢true h), λ h. absurd h)
names_at-decided past stamp (i ∷ targets) test (name ∷ rest) =
    Decides-and ((name.lock == i + 1) && names past stamp name test) (names_at past stamp targets test rest)
    (Decides-and (name.lock == i + 1) (names past stamp name test) (Decides-eqb name.lock (i + 1)) (names-decided past stamp name test))
    (names_at-decided past stamp targets test rest)

rise-decided_after : (last : At) (list : List At) → Decides (rise_after (Some last) list) (Rise (last ∷ list))
rise-decided_after last [] = (λ h. tt, λ h. refl)
rise-decided_after last (name ∷ rest) =
    Decides-and (at_lt last name) (rise_after (Some name) rest) (Decides-true (at_lt last name)) (rise-decided_after name rest)

pub rise-decided : (list : List At) → Decides (rise_after None list) (Rise list)
rise-decided [] = (λ h. tt, λ h. refl)
rise-decided (name ∷ rest) = rise-decided_after name rest
