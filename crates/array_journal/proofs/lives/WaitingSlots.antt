-- A slot of an open command isn't swapped, and what is known of its disk stays.
use Rattle.std.specs.Prelude.{◌≡◌, ◌==◌, ◌&&◌, ℕ, suc, Bool, true, false, List, [], ◌∷◌, ◌++◌, Option, Some, None}
use Rattle.std.proofs.Common.{refl, ap, sym, ◌∙◌, cond, inl, inr}
use Rattle.std.proofs.lemmas.Bool.{cases_eq, eqb-true, eq-eqb, ne_eqb, and_from, both_ways}
use Rattle.array_journal.specs.declared.entry.Entry.{Entry}
use Rattle.array_journal.specs.declared.event.Event.{Event}
use Rattle.array_journal.specs.declared.event.Event.TheVariants.{Open, Swap}
use Rattle.array_journal.specs.declared.setting.Setting.{Setting}
use Rattle.array_journal.specs.declared.task.Task.{Task}
use Rattle.array_journal.specs.Entries.{some_at}
use Rattle.array_journal.specs.Commands.{ends_command, is_open, task_given, task_of, first_task}
use Rattle.array_journal.specs.Acts.{is_target}
use Rattle.array_journal.specs.Lives.{is_note_of, is_swap_of, swap_count, is_unfitted}
use Rattle.array_journal.specs.May.{May, MayBook, opens_at}
use Rattle.array_journal.specs.Run.{Grows}
use Rattle.array_journal.specs.Waiting.{StaysUnfitted, SlotsWaitLaw}
use Rattle.array_journal.proofs.runs.Standing.{may-book, some_at-newest, some_at-more, some_at-older, count_at-else}
use Rattle.array_journal.proofs.runs.CommandLaws.{task-opened, task_of-more, open-not_ended, opened-open}
use Rattle.array_journal.proofs.lives.LifeLaws.{is_unfitted-else, is_unfitted-here}

-- the opening of an open command names its slots
given-at : (s : Setting) (whole : List Entry) (i c : ℕ) (task : Task) (event : Event) → task_given c event ≡ Some task → is_open c whole ≡ true →
    is_target s task i ≡ true → opens_at s whole i event ≡ true
given-at s whole i c task (Open command its) q o t = choose (command == c) refl q
  where
    choose : (b : Bool) → (command == c) ≡ b → cond b (Some its) None ≡ Some task → (is_open command whole && is_target s its i) ≡ true
    choose true same k =
        let one : its ≡ task = cc in
        and_from (is_open command whole) (is_target s its i) (ap (λ (n : ℕ). is_open n whole) (eqb-true command c same) ∙ o) (ap (λ (x : Task). is_target s x i) one ∙ t)
    choose false other k = cc
given-at s whole i c task _ q o t = cc

open-at : (s : Setting) (whole : List Entry) (i c : ℕ) (task : Task) (past : List Entry) → is_open c whole ≡ true → is_target s task i ≡ true →
    task_of c past ≡ Some task → some_at 0 (opens_at s whole i) past ≡ true
open-at s whole i c task [] o t h = cc
open-at s whole i c task (e ∷ past) o t h = elim (cases_eq e.lock 0) [
  | inl book ↦ newest book (open-at s whole i c task past o t) (task_given c e.event) refl
      (sym (ap (λ b. first_task (cond b (task_given c e.event) None) (task_of c past)) (eq-eqb e.lock 0 book)) ∙ h)
  | inr other ↦ some_at-more 0 (opens_at s whole i) e past
      (open-at s whole i c task past o t (sym (ap (λ b. first_task (cond b (task_given c e.event) None) (task_of c past)) (ne_eqb e.lock 0 other)) ∙ h))
]
  where
    newest : e.lock ≡ 0 → (task_of c past ≡ Some task → some_at 0 (opens_at s whole i) past ≡ true) → (given : Option Task) → task_given c e.event ≡ given →
        first_task given (task_of c past) ≡ Some task → some_at 0 (opens_at s whole i) (e ∷ past) ≡ true
    newest book older (Some its) q k = some_at-newest 0 (opens_at s whole i) e past book (given-at s whole i c task e.event (q ∙ k) o t)
    newest book older None q k = some_at-more 0 (opens_at s whole i) e past (older k)

-- no swap of such a slot may follow
unswapped : (s : Setting) (past : List Entry) (stamp i c : ℕ) (task : Task) (event : Event) → MayBook s past stamp event → is_open c past ≡ true →
    task_of c past ≡ Some task → is_target s task i ≡ true → is_swap_of i event ≡ false
unswapped s past stamp i c task (Swap slot call) m o h t = choose (slot == i) refl
  where
    choose : (b : Bool) → (slot == i) ≡ b → b ≡ false
    choose true same =
        absurd (both_ways (some_at 0 (opens_at s past slot) past) m.1.idle
        (open-at s past slot c task past o (ap (is_target s task) (eqb-true slot i same) ∙ t) h))
    choose false other = refl
unswapped s past stamp i c task _ m o h t = refl

pub one-waits : (s : Setting) (i c : ℕ) (task : Task) (e : Entry) (past : List Entry) → May s past e → is_open c past ≡ true →
    task_of c past ≡ Some task → is_target s task i ≡ true → StaysUnfitted i (e ∷ []) past
one-waits s i c task e past m o h t = elim (cases_eq e.lock 0) [
  | inl book ↦ at_book book (unswapped s past e.stamp i c task e.event (may-book s past e.stamp e.lock e.event book m.1) o h t)
  | inr other ↦ record {
    unfitted = λ known. is_unfitted-else i e past other ∙ known;
    swaps = count_at-else 0 (is_swap_of i) e past other;
  }
]
  where
    noted : (b : Bool) → is_unfitted i past ≡ true → cond b true (cond false false (is_unfitted i past)) ≡ true
    noted true known = refl
    noted false known = known

    at_book : e.lock ≡ 0 → is_swap_of i e.event ≡ false → StaysUnfitted i (e ∷ []) past
    at_book book none = record {
      unfitted = λ known.
          is_unfitted-here i e past book ∙ ap (λ b. cond (is_note_of i e.event) true (cond b false (is_unfitted i past))) none ∙ noted (is_note_of i e.event) known;
      swaps = ap (λ b. cond ((e.lock == 0) && b) (suc (swap_count i past)) (swap_count i past)) none ∙ unswapped_count (e.lock == 0);
    }
      where
        unswapped_count : (b : Bool) → cond (b && false) (suc (swap_count i past)) (swap_count i past) ≡ swap_count i past
        unswapped_count true = refl
        unswapped_count false = refl

-- a command that is open after more entries, and whose task is known, was open before them
pub open-before : (c : ℕ) (e : Entry) (past : List Entry) (task : Task) → task_of c past ≡ Some task → is_open c (e ∷ past) ≡ true → is_open c past ≡ true
open-before c e past task h o =
    opened-open c past (task-opened c past task h) (some_at-older 0 (ends_command c) e past (open-not_ended c (e ∷ past) o))

task-after : (s : Setting) (c : ℕ) (newer past : List Entry) (task : Task) → Grows s (newer ++ past) → task_of c past ≡ Some task → task_of c (newer ++ past) ≡ Some task
task-after s c [] past task g h = h
task-after s c (e ∷ newer) past task g h = task_of-more s c e (newer ++ past) task g.1 g.0.1 (task-after s c newer past task g.1 h)

pub slots-wait : SlotsWaitLaw
slots-wait s i c task [] past g o h t = record { unfitted = λ known. known; swaps = refl }
slots-wait s i c task (e ∷ newer) past g o h t =
    let its : task_of c (newer ++ past) ≡ Some task = task-after s c newer past task g.1 h in
    let before : is_open c (newer ++ past) ≡ true = open-before c e (newer ++ past) task its o in
    let older : StaysUnfitted i newer past = slots-wait s i c task newer past g.1 before h t in
    let one : StaysUnfitted i (e ∷ []) (newer ++ past) = one-waits s i c task e (newer ++ past) g.0.1 before its t in
    record { unfitted = λ known. one.unfitted (older.unfitted known); swaps = one.swaps ∙ older.swaps }
