-- Commands in a run: each number is opened once, and what a name says of an opening is the command's task.
use Rattle.std.specs.Prelude.{◌≡◌, ◌==◌, ◌<◌, ◌≤◌, ◌⊎◌, not, ℕ, suc, true, false, List, [], ◌∷◌, Option, Some, None}
use Rattle.std.proofs.Common.{refl, ap, sym, ◌∙◌, cond, arith, subst, inl, inr}
use Rattle.std.proofs.lemmas.Bool.{eq-eqb, ne_eqb, eqb-true, cases_eq, cases_Bool, and_from, and_parts, not-true, both_ways, false≢true}
use Rattle.array_journal.specs.declared.at.At.{At}
use Rattle.array_journal.specs.declared.entry.Entry.{Entry}
use Rattle.array_journal.specs.declared.event.Event.{Event}
use Rattle.array_journal.specs.declared.event.Event.TheVariants.{Open, Close, Spoil}
use Rattle.array_journal.specs.declared.setting.Setting.{Setting}
use Rattle.array_journal.specs.declared.task.Task.{Task}
use Rattle.array_journal.specs.Entries.{entry_at, some_at}
use Rattle.array_journal.specs.Commands.{opens, opens_command, ends_command, open_count, is_open, task_given, task_of, first_task}
use Rattle.array_journal.specs.May.{May, MayBook}
use Rattle.array_journal.specs.Run.{Grows}
use Rattle.array_journal.proofs.runs.Steps.{task_of-quiet}
use Rattle.array_journal.proofs.runs.Standing.{may-book, some_at-cases, some_at-more, some_at-newest, count_at-here, count_at-more, IsNameOf, entry_at-cases, passes-said, some-named}

-- a command has one task
pub one_task : (x y : Task) → Some x ≡ Some y → x ≡ y
one_task x y k = cc

-- an opening has the number of those before it
pub opens-number : (s : Setting) (past : List Entry) (stamp c : ℕ) (event : Event) → MayBook s past stamp event → opens_command c event ≡ true →
    (c ≡ open_count past) × (opens event ≡ true)
opens-number s past stamp c (Open command task) m h = (sym (eqb-true command c h) ∙ m.numbered, refl)
opens-number s past stamp c _ m h = absurd (false≢true h)

-- a command that was opened has a number below the count
pub opened-number : (s : Setting) (c : ℕ) (past : List Entry) → Grows s past → some_at 0 (opens_command c) past ≡ true → c < open_count past
opened-number s c [] g h = absurd (false≢true h)
opened-number s c (e ∷ past) g h = elim (some_at-cases 0 (opens_command c) e past h) [
  | inl here ↦ newest here.0 (opens-number s past e.stamp c e.event (may-book s past e.stamp e.lock e.event here.0 g.0.1.1) here.1)
  | inr older ↦ let a : c < open_count past = opened-number s c past g.1 older in
      let b : open_count past ≤ open_count (e ∷ past) = count_at-more 0 opens e past in omega arith
]
  where
    newest : e.lock ≡ 0 → (c ≡ open_count past) × (opens e.event ≡ true) → c < open_count (e ∷ past)
    newest book number =
        let q : open_count (e ∷ past) ≡ suc (open_count past) =
        count_at-here 0 opens e past book ∙ ap (λ b. cond b (suc (open_count past)) (open_count past)) number.1 in
        let r : c ≡ open_count past = number.0 in omega arith

-- no entry opens a command a second time
pub opened-once : (s : Setting) (c : ℕ) (e : Entry) (past : List Entry) → Grows s past → May s past e → e.lock ≡ 0 → some_at 0 (opens_command c) past ≡ true →
    opens_command c e.event ≡ false
opened-once s c e past g m book h = elim (cases_Bool (opens_command c e.event)) [
  | inl again ↦
      let a : c < open_count past = opened-number s c past g h in
      let b : (c ≡ open_count past) × (opens e.event ≡ true) = opens-number s past e.stamp c e.event (may-book s past e.stamp e.lock e.event book m.1) again in
      let f : c ≡ open_count past = b.0 in absurd (omega arith)
  | inr none ↦ none
]

pub no_task : (c : ℕ) (event : Event) → opens_command c event ≡ false → task_given c event ≡ None
no_task c (Open command task) h = ap (λ b. cond b (Some task) None) h
no_task c _ h = refl

-- a command with a task was opened
given-opens : (c : ℕ) (event : Event) (task : Task) → task_given c event ≡ Some task → opens_command c event ≡ true
given-opens c (Open command other) task h = elim (cases_Bool (command == c)) [
  | inl same ↦ same
  | inr differs ↦ let e : cond (command == c) (Some other) None ≡ None = ap (λ b. cond b (Some other) None) differs in absurd cc
]
given-opens c _ task h = absurd cc

pub task-opened : (c : ℕ) (past : List Entry) (task : Task) → task_of c past ≡ Some task → some_at 0 (opens_command c) past ≡ true
task-opened c [] task h = absurd cc
task-opened c (e ∷ past) task h = elim (cases_eq e.lock 0) [
  | inl book ↦ newest (λ q. task-opened c past task q) book (task_given c e.event) refl
  | inr other ↦ some_at-more 0 (opens_command c) e past (task-opened c past task (sym (elsewhere other) ∙ h))
]
  where
    elsewhere : (e.lock ≡ 0 → ⊥) → task_of c (e ∷ past) ≡ task_of c past
    elsewhere other = ap (λ b. first_task (cond b (task_given c e.event) None) (task_of c past)) (ne_eqb e.lock 0 other)

    here : e.lock ≡ 0 → task_of c (e ∷ past) ≡ first_task (task_given c e.event) (task_of c past)
    here book = ap (λ b. first_task (cond b (task_given c e.event) None) (task_of c past)) (eq-eqb e.lock 0 book)

    newest : (task_of c past ≡ Some task → some_at 0 (opens_command c) past ≡ true) → e.lock ≡ 0 → (given : Option Task) → task_given c e.event ≡ given → some_at 0 (opens_command c) (e ∷ past) ≡ true
    newest before book (Some found) q = some_at-newest 0 (opens_command c) e past book (given-opens c e.event found q)
    newest before book None q =
        some_at-more 0 (opens_command c) e past (before (sym (here book ∙ ap (λ o. first_task o (task_of c past)) q) ∙ h))

-- and keeps it
pub task_of-more : (s : Setting) (c : ℕ) (e : Entry) (past : List Entry) (task : Task) → Grows s past → May s past e → task_of c past ≡ Some task →
    task_of c (e ∷ past) ≡ Some task
task_of-more s c e past task g m h = elim (cases_eq e.lock 0) [
  | inl book ↦ task_of-quiet c e past (no_task c e.event (opened-once s c e past g m book (task-opened c past task h))) ∙ h
  | inr other ↦ ap (λ b. first_task (cond b (task_given c e.event) None) (task_of c past)) (ne_eqb e.lock 0 other) ∙ h
]

-- the task in the opening of a command that is named is the command's
pub named-task : (s : Setting) (opened : At) (c : ℕ) (task : Task) (past : List Entry) → Grows s past → opened.lock ≡ 0 → entry_at opened past ≡ Some (Open c task) →
    task_of c past ≡ Some task
named-task s opened c task [] g book h = absurd cc
named-task s opened c task (e ∷ past) g book h = elim (entry_at-cases opened e past (Open c task) h) [
  | inl here ↦ ap (λ b. first_task (cond b (task_given c e.event) None) (task_of c past)) (eq-eqb e.lock 0 (sym here.0.1 ∙ book))
      ∙ ap (λ (x : Event). first_task (task_given c x) (task_of c past)) here.1
      ∙ ap (λ b. first_task (cond b (Some task) None) (task_of c past)) (eq-eqb c c refl)
  | inr older ↦ task_of-more s c e past task g.1 g.0.1 (named-task s opened c task past g.1 book older)
]

-- a command that ended was opened
end-opened : (s : Setting) (past : List Entry) (stamp c : ℕ) (event : Event) → MayBook s past stamp event → ends_command c event ≡ true →
    is_open c past ≡ true
end-opened s past stamp c (Close command done names cause bytes) m h = subst (λ (d : ℕ). is_open d past ≡ true) (eqb-true command c h) m.1.0.0
end-opened s past stamp c (Spoil command diff loss shut) m h = subst (λ (d : ℕ). is_open d past ≡ true) (eqb-true command c h) m.1.0.0
end-opened s past stamp c _ m h = absurd (false≢true h)

-- what ends a command finds it open
pub ends-open : (s : Setting) (c : ℕ) (e : Entry) (past : List Entry) → May s past e → e.lock ≡ 0 → ends_command c e.event ≡ true → is_open c past ≡ true
ends-open s c e past m book h = end-opened s past e.stamp c e.event (may-book s past e.stamp e.lock e.event book m.1) h

pub open-opened : (c : ℕ) (past : List Entry) → is_open c past ≡ true → some_at 0 (opens_command c) past ≡ true
open-opened c past h = (and_parts (some_at 0 (opens_command c) past) (not (some_at 0 (ends_command c) past)) h).0

pub open-not_ended : (c : ℕ) (past : List Entry) → is_open c past ≡ true → some_at 0 (ends_command c) past ≡ false
open-not_ended c past h = not-true (some_at 0 (ends_command c) past) (and_parts (some_at 0 (opens_command c) past) (not (some_at 0 (ends_command c) past)) h).1

pub opened-open : (c : ℕ) (past : List Entry) → some_at 0 (opens_command c) past ≡ true → some_at 0 (ends_command c) past ≡ false → is_open c past ≡ true
opened-open c past h k = and_from (some_at 0 (opens_command c) past) (not (some_at 0 (ends_command c) past)) h (ap not k)

pub ended-opened : (s : Setting) (c : ℕ) (past : List Entry) → Grows s past → some_at 0 (ends_command c) past ≡ true → some_at 0 (opens_command c) past ≡ true
ended-opened s c [] g h = absurd (false≢true h)
ended-opened s c (e ∷ past) g h = elim (some_at-cases 0 (ends_command c) e past h) [
  | inl here ↦ some_at-more 0 (opens_command c) e past (open-opened c past (ends-open s c e past g.0.1 here.0 here.1))
  | inr older ↦ some_at-more 0 (opens_command c) e past (ended-opened s c past g.1 older)
]

-- an opening that is named was made
pub named-opened : (opened : At) (c : ℕ) (task : Task) (past : List Entry) → opened.lock ≡ 0 → entry_at opened past ≡ Some (Open c task) →
    some_at 0 (opens_command c) past ≡ true
named-opened opened c task past book h = some-named 0 (opens_command c) opened past book (passes-said (opens_command c) opened past (Open c task) h (eq-eqb c c refl))

same-names : (a b : At) → a.stamp ≡ b.stamp → a.lock ≡ b.lock → a ≡ b
same-names a b p q = ap (λ (n : ℕ). record { stamp = n; lock = a.lock }) p ∙ ap (λ (n : ℕ). record { stamp = b.stamp; lock = n }) q

-- one entry opens a command
pub opened-one : (s : Setting) (a b : At) (c : ℕ) (t u : Task) (past : List Entry) → Grows s past → a.lock ≡ 0 → b.lock ≡ 0 →
    entry_at a past ≡ Some (Open c t) → entry_at b past ≡ Some (Open c u) → a ≡ b
opened-one s a b c t u [] g p q h k = absurd cc
opened-one s a b c t u (e ∷ past) g p q h k = both (entry_at-cases a e past (Open c t) h) (entry_at-cases b e past (Open c u) k)
    (λ x y. opened-one s a b c t u past g.1 p q x y)
  where
    again : (name : At) (task other : Task) → name.lock ≡ 0 → IsNameOf name e × (e.event ≡ Open c task) → (old : At) → old.lock ≡ 0 → entry_at old past ≡ Some (Open c other) → ⊥
    again name task other book here old old_book older =
        both_ways (opens_command c e.event) (opened-once s c e past g.1 g.0.1 (sym here.0.1 ∙ book) (named-opened old c other past old_book older))
        (ap (opens_command c) here.1 ∙ eq-eqb c c refl)

    both : (IsNameOf a e × (e.event ≡ Open c t)) ⊎ (entry_at a past ≡ Some (Open c t)) → (IsNameOf b e × (e.event ≡ Open c u)) ⊎ (entry_at b past ≡ Some (Open c u)) →
        (entry_at a past ≡ Some (Open c t) → entry_at b past ≡ Some (Open c u) → a ≡ b) → a ≡ b
    both (inl x) (inl y) rec = same-names a b (x.0.0 ∙ sym y.0.0) (p ∙ sym q)
    both (inl x) (inr y) rec = absurd (again a t u p x b q y)
    both (inr x) (inl y) rec = absurd (again b u t q y a p x)
    both (inr x) (inr y) rec = rec x y
