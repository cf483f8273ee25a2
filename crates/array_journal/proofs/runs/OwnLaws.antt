-- Own entries of a command or call.
use Rattle.std.specs.List.{AllByRecursion}
use Rattle.std.specs.Prelude.{◌≡◌, ◌==◌, ◌&&◌, ◌||◌, not, ℕ, Bool, true, false, List, [], ◌∷◌, ◌++◌, map, Some, None}
use Rattle.std.proofs.Common.{refl, ap, sym, ◌∙◌, cond, subst}
use Rattle.std.proofs.lemmas.Bool.{and_right, eqb-true}
use Rattle.std.proofs.lemmas.Map.Keys.{IsDistinct-head, IsDistinct-tail}
use Rattle.array_journal.specs.declared.at.At.{At}
use Rattle.array_journal.specs.declared.entry.Entry.{Entry}
use Rattle.array_journal.specs.declared.event.Event.{Event}
use Rattle.array_journal.specs.declared.event.Event.TheVariants.{Open, Close, Spoil}
use Rattle.array_journal.specs.Entries.{name_of, same_at, entry_at, some_at}
use Rattle.array_journal.specs.Commands.{opens_command, ends_command, task_given, task_of, first_task}
use Rattle.array_journal.specs.Merge.{HaveOwnNames}
use Rattle.array_journal.proofs.runs.Steps.{task_of-quiet}
use Rattle.array_journal.specs.OwnEntries.{Owner, OfCommand, carries, mine, OthersLeaveMine, OwnEntriesStand, IsOwnTest, OwnTestsAgree, CommandsSeenInOwn}

pub others-leave_mine : OthersLeaveMine
others-leave_mine owner [] past h = refl
others-leave_mine owner (e ∷ others) past h =
    ap (λ b. cond b (e ∷ mine owner (others ++ past)) (mine owner (others ++ past))) h.0 ∙ others-leave_mine owner others past h.1

-- of an entry and the owner's entries after it, by whether it carries the owner
own_step : {A : Type 0} (owner : Owner) (e : Entry) (past : List Entry) (f : List Entry → A) (g : A) →
    (carries owner e.event ≡ true → f (e ∷ mine owner past) ≡ g) → (carries owner e.event ≡ false → f (mine owner past) ≡ g) → f (mine owner (e ∷ past)) ≡ g
own_step owner e past f g there other = by_case (carries owner e.event) there other
  where
    by_case : (b : Bool) → (b ≡ true → f (e ∷ mine owner past) ≡ g) → (b ≡ false → f (mine owner past) ≡ g) → f (cond b (e ∷ mine owner past) (mine owner past)) ≡ g
    by_case true h k = h refl
    by_case false h k = k refl

-- an event that an owner doesn't carry passes none of its tests
fails : (b : Bool) → (b ≡ true → false ≡ true) → b ≡ false
fails true h = sym (h refl)
fails false h = refl

tests-step : (owner : Owner) (lock : ℕ) (test : Event → Bool) (e : Entry) (past : List Entry) → IsOwnTest owner test →
    some_at lock test past ≡ some_at lock test (mine owner past) → some_at lock test (e ∷ past) ≡ some_at lock test (mine owner (e ∷ past))
tests-step owner lock test e past own rest = sym (own_step owner e past (some_at lock test) (some_at lock test (e ∷ past)) there other)
  where
    there : carries owner e.event ≡ true → some_at lock test (e ∷ mine owner past) ≡ some_at lock test (e ∷ past)
    there h = ap (λ b. ((e.lock == lock) && test e.event) || b) (sym rest)

    never : carries owner e.event ≡ false → ((e.lock == lock) && test e.event) ≡ false
    never h = and_right (e.lock == lock) (test e.event) (fails (test e.event) (λ k. sym h ∙ own e.event k))

    other : carries owner e.event ≡ false → some_at lock test (mine owner past) ≡ some_at lock test (e ∷ past)
    other h = sym rest ∙ sym (ap (λ b. b || some_at lock test past) (never h))

pub own_tests-agree : OwnTestsAgree
own_tests-agree owner lock test [] own = refl
own_tests-agree owner lock test (e ∷ past) own = tests-step owner lock test e past own (own_tests-agree owner lock test past own)

-- no entry has the name
absent_name : (owner : Owner) (name : At) (past : List Entry) → AllByRecursion (λ (y : At). same_at name y ≡ false) (map name_of past) →
    entry_at name (mine owner past) ≡ None
absent_name owner name [] h = refl
absent_name owner name (e ∷ past) h =
    own_step owner e past (entry_at name) None
    (λ k. ap (λ b. cond b (Some e.event) (entry_at name (mine owner past))) h.0 ∙ absent_name owner name past h.1)
    (λ k. absent_name owner name past h.1)

entry_at-own : (owner : Owner) (name : At) (e : Entry) (past : List Entry) →
    entry_at name (mine owner (e ∷ past))
    ≡ cond (carries owner e.event) (cond (same_at name (name_of e)) (Some e.event) (entry_at name (mine owner past))) (entry_at name (mine owner past))
entry_at-own owner name e past = by_case (carries owner e.event)
  where
    by_case : (k : Bool) → entry_at name (cond k (e ∷ mine owner past) (mine owner past))
        ≡ cond k (entry_at name (e ∷ mine owner past)) (entry_at name (mine owner past))
    by_case true = refl
    by_case false = refl

-- one entry more, by whether it has the name and whether it carries the owner
own-more : (owner : Owner) (name : At) (event : Event) (e : Entry) (past : List Entry) → carries owner event ≡ true →
    (entry_at name past ≡ Some event → entry_at name (mine owner past) ≡ Some event) → (b k : Bool) → carries owner e.event ≡ k →
    cond b (Some e.event) (entry_at name past) ≡ Some event →
    cond k (cond b (Some e.event) (entry_at name (mine owner past))) (entry_at name (mine owner past)) ≡ Some event
own-more owner name event e past own rest true true c g = g
own-more owner name event e past own rest true false c g = cc
own-more owner name event e past own rest false true c g = rest g
own-more owner name event e past own rest false false c g = rest g

stands-in_own : (owner : Owner) (name : At) (event : Event) → carries owner event ≡ true → (past : List Entry) →
    entry_at name past ≡ Some event → entry_at name (mine owner past) ≡ Some event
stands-in_own owner name event own [] h = h
stands-in_own owner name event own (e ∷ past) h =
    entry_at-own owner name e past
    ∙ own-more owner name event e past own (stands-in_own owner name event own past) (same_at name (name_of e)) (carries owner e.event) refl h

-- one name
same-name : (a b : At) → same_at a b ≡ true → a ≡ b
same-name a b h =
    let first : ℕ → At = λ s. record { stamp = s; lock = a.lock } in
    let second : ℕ → At = λ l. record { stamp = b.stamp; lock = l } in
    ap first (eqb-true a.stamp b.stamp (left (a.stamp == b.stamp) (a.lock == b.lock) h))
    ∙ ap second (eqb-true a.lock b.lock (right (a.stamp == b.stamp) (a.lock == b.lock) h))
  where
    left : (x y : Bool) → (x && y) ≡ true → x ≡ true
    left true y h = refl
    left false y h = h

    right : (x y : Bool) → (x && y) ≡ true → y ≡ true
    right true y h = h
    right false y h = cc

-- where an entry has the name, none of the others has it
others-differ : (name : At) (e : Entry) (past : List Entry) → HaveOwnNames (e ∷ past) → same_at name (name_of e) ≡ true →
    AllByRecursion (λ (y : At). same_at name y ≡ false) (map name_of past)
others-differ name e past apart h =
    subst (λ (n : At). AllByRecursion (λ (y : At). same_at n y ≡ false) (map name_of past)) (sym (same-name name (name_of e) h))
    (IsDistinct-head same_at (name_of e) (map name_of past) apart)

all-more : (owner : Owner) (name : At) (event : Event) (e : Entry) (past : List Entry) → HaveOwnNames (e ∷ past) →
    (entry_at name (mine owner past) ≡ Some event → entry_at name past ≡ Some event) → (b k : Bool) → same_at name (name_of e) ≡ b →
    cond k (cond b (Some e.event) (entry_at name (mine owner past))) (entry_at name (mine owner past)) ≡ Some event →
    cond b (Some e.event) (entry_at name past) ≡ Some event
all-more owner name event e past apart rest true true c g = g
all-more owner name event e past apart rest true false c g =
    let none : entry_at name (mine owner past) ≡ None = absent_name owner name past (others-differ name e past apart c) in cc
all-more owner name event e past apart rest false true c g = rest g
all-more owner name event e past apart rest false false c g = rest g

stands-in_all : (owner : Owner) (name : At) (event : Event) → (past : List Entry) → HaveOwnNames past →
    entry_at name (mine owner past) ≡ Some event → entry_at name past ≡ Some event
stands-in_all owner name event [] apart h = h
stands-in_all owner name event (e ∷ past) apart h =
    all-more owner name event e past apart (stands-in_all owner name event past (IsDistinct-tail same_at (name_of e) (map name_of past) apart))
    (same_at name (name_of e)) (carries owner e.event) refl (sym (entry_at-own owner name e past) ∙ h)

pub own_entries-stand : OwnEntriesStand
own_entries-stand owner past name event apart own = record {
  in_own = stands-in_own owner name event own past;
  in_all = stands-in_all owner name event past apart;
}

not_given : (c : ℕ) (e : Event) → carries (OfCommand c) e ≡ false → task_given c e ≡ None
not_given c (Open command task) h = ap (λ b. cond b (Some task) None) h
not_given c _ h = refl

task_seen : (c : ℕ) (past : List Entry) → task_of c past ≡ task_of c (mine (OfCommand c) past)
task_seen c [] = refl
task_seen c (e ∷ past) =
    sym (own_step (OfCommand c) e past (task_of c) (task_of c (e ∷ past))
    (λ h. ap (first_task (cond (e.lock == 0) (task_given c e.event) None)) (sym (task_seen c past)))
    (λ h. sym (task_seen c past) ∙ sym (task_of-quiet c e past (not_given c e.event h))))

opens_own : (c : ℕ) → IsOwnTest (OfCommand c) (opens_command c)
opens_own c (Open command task) h = h
opens_own c _ h = cc

ends_own : (c : ℕ) → IsOwnTest (OfCommand c) (ends_command c)
ends_own c (Close command done names cause bytes) h = h
ends_own c (Spoil command diff loss shut) h = h
ends_own c _ h = cc

pub commands-seen_in_own : CommandsSeenInOwn
commands-seen_in_own c past = record {
  task = task_seen c past;
  openness =
      ap (λ b. b && not (some_at 0 (ends_command c) past)) (own_tests-agree (OfCommand c) 0 (opens_command c) past (opens_own c))
      ∙ ap (λ b. some_at 0 (opens_command c) (mine (OfCommand c) past) && not b) (own_tests-agree (OfCommand c) 0 (ends_command c) past (ends_own c));
}
