-- What is said of held blocks: they are of an opened command that takes its task's rows here, neither taken nor shut, and
-- held since its disk came; so their owner is open, and they stand beside what another takes.
use Rattle.std.specs.Prelude.{◌≡◌, ◌&&◌, ◌<◌, ◌≤◌, ◌⊎◌, nat_le, ℕ, ◌+◌, ◌-◌, ◌*◌, Bool, true, false, List, ◌∷◌, Some, length}
use Rattle.std.specs.List.{AllByRecursion}
use Rattle.std.proofs.Common.{ap, sym, ◌∙◌, arith, subst, inl, inr}
use Rattle.std.proofs.lemmas.Bool.{cases_eq, cases_Bool, or_from, both_ways, false≢true}
use Rattle.array_journal.specs.declared.at.At.{At}
use Rattle.array_journal.specs.declared.entry.Entry.{Entry}
use Rattle.array_journal.specs.declared.event.Event.{Event}
use Rattle.array_journal.specs.declared.event.Event.TheVariants.{Open}
use Rattle.array_journal.specs.declared.setting.Setting.{Setting}
use Rattle.array_journal.specs.declared.task.Task.{Task}
use Rattle.array_journal.specs.Entries.{entry_at, some_at, count_before, stamps_below}
use Rattle.array_journal.specs.Commands.{ends_command, is_open, task_of}
use Rattle.array_journal.specs.declared.act.Act.TheVariants.{Takes}
use Rattle.array_journal.specs.Acts.{has_act, is_act, shuts_command, task_bytes}
use Rattle.xor_buffers.specs.declared.held.HeldBlocks.{HeldBlocks}
use Rattle.xor_buffers.specs.Held.{has_owner}
use Rattle.xor_buffers.proofs.HeldLists.{IsBesideTaken}
use Rattle.array_journal.specs.Media.{held}
use Rattle.array_journal.specs.Lives.{is_gone, life_of, is_swap_of}
use Rattle.array_journal.specs.May.{IsTask, swapped_since, freshes_after}
use Rattle.array_journal.specs.Run.{Grows}
use Rattle.array_journal.proofs.runs.Standing.{some_at-here, some_at-else, entry_at-more}
use Rattle.array_journal.proofs.runs.CommandLaws.{named-task, named-opened, opened-open}
use Rattle.array_journal.proofs.lives.LifeLaws.{working-loss}
use Rattle.array_journal.proofs.held.HeldOwners.{gone-holds_nothing, discarded-lacks}
use Rattle.array_journal.proofs.owed.ActBars.{Bar, made, is_shut, is_lost, is_emptied}
use Rattle.array_journal.proofs.owed.EndedCommands.{ended-barred}
use Rattle.array_journal.proofs.lives.OpenedSwaps.{fresh-le_before}
use Rattle.array_journal.proofs.lives.DoneRebuilds.{task-sound}
use Rattle.array_journal.proofs.held.TakersApart.{AreApart, open-takers-apart, beside-rows}

-- Held blocks: of an opened command that takes its task's rows here, neither taken nor shut, and held since its disk
-- came.
pub record IsHeld (s : Setting) (i : ℕ) (past : List Entry) (h : HeldBlocks) : Type 0 where
  pub opened : At
  pub task : Task
  pub in_book : opened.lock ≡ 0
  pub opening : entry_at opened past ≡ Some (Open h.owner task)
  pub takes : has_act s Takes task i ≡ true
  pub from_row : h.row ≡ task.row
  pub whole : length h.bytes ≡ task_bytes s task
  pub not_taken : some_at (i + 1) (is_act Takes h.owner) past ≡ false
  pub not_shut : some_at (i + 1) (shuts_command h.owner) past ≡ false
  pub same_life : freshes_after i opened past ≡ false

abbrev pub AllHeld : Setting → ℕ → List Entry → List HeldBlocks → Type 0
AllHeld s i past hs = AllByRecursion (IsHeld s i past) hs

-- where blocks are held, more entries leave them so
pub held-more : (s : Setting) (i : ℕ) (e : Entry) (past : List Entry) (h : HeldBlocks) → stamps_below e.lock e.stamp past ≡ true →
    ((opened : At) → e.lock ≡ i + 1 → (is_act Takes h.owner e.event ≡ false) × (shuts_command h.owner e.event ≡ false) × (swapped_since opened e.event ≡ false)) →
    IsHeld s i past h → IsHeld s i (e ∷ past) h
held-more s i e past h b quiet p = record {
  opened = p.opened;
  task = p.task;
  in_book = p.in_book;
  opening = entry_at-more p.opened e past (Open h.owner p.task) b p.opening;
  takes = p.takes;
  from_row = p.from_row;
  whole = p.whole;
  not_taken = still (is_act Takes h.owner) (λ k. (quiet p.opened k).0) p.not_taken;
  not_shut = still (shuts_command h.owner) (λ k. (quiet p.opened k).1) p.not_shut;
  same_life = still (swapped_since p.opened) (λ k. (quiet p.opened k).2) p.same_life;
}
  where
    still : (test : Event → Bool) → (e.lock ≡ i + 1 → test e.event ≡ false) → some_at (i + 1) test past ≡ false → some_at (i + 1) test (e ∷ past) ≡ false
    still test q n = elim (cases_eq e.lock (i + 1)) [
      | inl here ↦ some_at-here (i + 1) test e past here ∙ or_from (test e.event) (some_at (i + 1) test past) (q here) n
      | inr other ↦ some_at-else (i + 1) test e past other ∙ n
    ]

-- a target that holds blocks has a disk that works
pub holder-works : (s : Setting) (i c : ℕ) (past : List Entry) → Grows s past → has_owner c (held s i past) ≡ true → is_gone i past ≡ false
holder-works s i c past g h = elim (cases_Bool (is_gone i past)) [
  | inl lost ↦ absurd (false≢true (sym (ap (has_owner c) (gone-holds_nothing s i past g lost)) ∙ h))
  | inr works ↦ works
]

-- the owner of held blocks is open
pub holder-open : (s : Setting) (i : ℕ) (past : List Entry) (h : HeldBlocks) → Grows s past → has_owner h.owner (held s i past) ≡ true → IsHeld s i past h →
    is_open h.owner past ≡ true
holder-open s i past h g owned p = elim (cases_Bool (some_at 0 (ends_command h.owner) past)) [
  | inl ended ↦ absurd (barred (ended-barred s h.owner past g ended i Takes p.opened p.task p.in_book p.opening p.takes))
  | inr open_still ↦ opened-open h.owner past (named-opened p.opened h.owner p.task past p.in_book p.opening) open_still
]
  where
    barred : Bar h.owner i (count_before 0 (is_swap_of i) p.opened.stamp past) Takes past → ⊥
    barred (made b) = both_ways (some_at (i + 1) (is_act Takes h.owner) past) p.not_taken b
    barred (is_shut b) = both_ways (some_at (i + 1) (shuts_command h.owner) past) p.not_shut b
    barred (is_lost b) =
        let x : count_before 0 (is_swap_of i) p.opened.stamp past < life_of i past =
        working-loss s i (count_before 0 (is_swap_of i) p.opened.stamp past) past g (holder-works s i h.owner past g owned) b in
        let y : life_of i past ≤ count_before 0 (is_swap_of i) p.opened.stamp past = fresh-le_before s i p.opened past g p.same_life in omega arith
    barred (is_emptied q b) = discarded-lacks s i h.owner past g b owned

-- what is held stands beside what an open command takes
pub held-beside : (s : Setting) (i c : ℕ) (past : List Entry) (t : Task) (row len : ℕ) (h : HeldBlocks) → 1 ≤ s.geometry.block → Grows s past →
    is_open c past ≡ true → task_of c past ≡ Some t → has_act s Takes t i ≡ true → row ≡ t.row → len ≡ task_bytes s t →
    has_owner h.owner (held s i past) ≡ true → IsHeld s i past h → IsBesideTaken c s.geometry.block row len h
held-beside s i c past t row len h b g oc q takes at_row whole owned p = record {
  its_own = λ e. own (subst (λ (n : ℕ). task_of n past ≡ Some p.task) e its);
  others = λ other. ap (λ (n : ℕ). nat_le h.row n && nat_le ((n - h.row) * s.geometry.block + len) (length h.bytes)) at_row ∙ rows other;
}
  where
    its : task_of h.owner past ≡ Some p.task
    its = named-task s p.opened h.owner p.task past g p.in_book p.opening

    own : task_of c past ≡ Some p.task → (h.row ≡ row) × (length h.bytes ≡ len)
    own r =
        let same : p.task ≡ t = one p.task t (sym r ∙ q) in
        (p.from_row ∙ ap (λ (x : Task). x.row) same ∙ sym at_row, p.whole ∙ ap (λ (x : Task). task_bytes s x) same ∙ sym whole)
      where
        one : (x y : Task) → Some x ≡ Some y → x ≡ y
        one x y k = cc

    between : AreApart t p.task → (h.row + p.task.count ≤ t.row) ⊎ (t.row + t.count ≤ h.row)
    between (inl before) = let e : h.row ≡ p.task.row = p.from_row in inr (omega arith)
    between (inr after) = let e : h.row ≡ p.task.row = p.from_row in inl (omega arith)

    rows : (h.owner ≡ c → ⊥) → (nat_le h.row t.row && nat_le ((t.row - h.row) * s.geometry.block + len) (length h.bytes)) ≡ false
    rows other =
        let sound : IsTask s t = task-sound s c t past g q in
        beside-rows s.geometry.block h.row p.task.count t.row t.count len (length h.bytes) b sound.some_rows whole p.whole
        (between (open-takers-apart s i c h.owner t p.task past g (λ e. other (sym e)) oc (holder-open s i past h g owned p) q its takes p.takes))
