-- Whose the deltas are that parity doesn't have yet: each is the delta of an update that covers the row and has folded
-- nothing.
use Rattle.std.specs.Prelude.{◌≡◌, ◌==◌, ◌&&◌, not, ℕ, ◌+◌, ◌-◌, Bool, true, false, List, [], ◌∷◌, length, Some}
use Rattle.std.specs.List.{AllByRecursion}
use Rattle.std.proofs.Common.{refl, ap, sym, ◌∙◌, cond, arith, subst, inl, inr}
use Rattle.std.proofs.lemmas.Bool.{eq-eqb, cases_eq, and_parts, both_ways, not-true, cond_both}
use Rattle.stripe_layout.specs.Layout.{parity_of}
use Rattle.sbc_cdbs.specs.declared.descriptor.Cdb.{Cdb}
use Rattle.array_journal.specs.declared.at.At.{At}
use Rattle.array_journal.specs.declared.entry.Entry.{Entry}
use Rattle.array_journal.specs.declared.event.Event.{Event}
use Rattle.array_journal.specs.declared.event.Event.TheVariants.{Diff}
use Rattle.array_journal.specs.declared.setting.Setting.{Setting}
use Rattle.array_journal.specs.declared.task.Kind.TheVariants.{Update}
use Rattle.array_journal.specs.declared.task.Task.{Task}
use Rattle.blocks_core.specs.Lists.{block_at}
use Rattle.array_journal.specs.Entries.{some_at}
use Rattle.array_journal.specs.Commands.{task_of}
use Rattle.array_journal.specs.declared.act.Act.TheVariants.{Diffs, Folds}
use Rattle.array_journal.specs.Acts.{is_act, task_bytes}
use Rattle.array_journal.specs.Deltas.{Delta, covers, delta_of, has_acted, puts_row, with_delta, outstanding_in}
use Rattle.array_journal.specs.May.{MayTarget}
use Rattle.array_journal.specs.Run.{Grows}
use Rattle.array_journal.proofs.runs.Standing.{may-here, some_at-newest, some_at-more}
use Rattle.array_journal.proofs.runs.CommandLaws.{named-task, task_of-more}
use Rattle.array_journal.proofs.owed.DeltaLaws.{differs-update, diff_delta, delta_made, delta_made-newest, delta_made-more}
use Rattle.array_journal.proofs.owed.OwedLists.{all-deltas}

-- a delta on a row, of entries past, whose command folded nothing in whole
pub record IsItem (s : Setting) (whole past : List Entry) (r : ℕ) (d : Delta) : Type 0 where
  pub task : Task
  pub its_task : task_of d.command past ≡ Some task
  pub update : task.kind ≡ Update
  pub hit : covers s.geometry.block task.row (task_bytes s task) r ≡ true
  pub differed : some_at (task.target + 1) (is_act Diffs d.command) past ≡ true
  pub unfolded : has_acted Folds d.command whole ≡ false
  pub its_block : d.block ≡ block_at s.geometry.block (delta_made s task.target d.command past) (r - task.row)

item-more : (s : Setting) (whole : List Entry) (e : Entry) (past : List Entry) (r : ℕ) (d : Delta) → Grows s (e ∷ past) → IsItem s whole past r d → IsItem s whole (e ∷ past) r d
item-more s whole e past r d g p = record {
  task = p.task;
  its_task = task_of-more s d.command e past p.task g.1 g.0.1 p.its_task;
  update = p.update;
  hit = p.hit;
  differed = some_at-more (p.task.target + 1) (is_act Diffs d.command) e past p.differed;
  unfolded = p.unfolded;
  its_block = p.its_block
      ∙ ap (λ (x : List ℕ). block_at s.geometry.block x (r - p.task.row)) (sym (delta_made-more s p.task.target d.command e past g p.differed));
}

-- the delta of a new diff
new-item : (s : Setting) (whole : List Entry) (i : ℕ) (e : Entry) (past : List Entry) (r command : ℕ) (opened : At) (cdb : Cdb) (row : ℕ) (bytes : List ℕ) (sent dropped back : Bool) →
    Grows s (e ∷ past) → e.lock ≡ i + 1 → e.event ≡ Diff command opened cdb row bytes sent dropped back → covers s.geometry.block row (length bytes) r ≡ true →
    has_acted Folds command whole ≡ false →
    IsItem s whole (e ∷ past) r (record { command = command; block = block_at s.geometry.block (delta_of s i past row bytes) (r - row) })
new-item s whole i e past r command opened cdb row bytes sent dropped back g here q hit unfolded = record {
  task = m.0;
  its_task = task_of-more s command e past m.0 g.1 g.0.1 (named-task s opened command m.0 past g.1 m.1.act.in_book m.1.act.opening.0);
  update = u.0;
  hit = subst (λ (n : ℕ). covers s.geometry.block m.0.row n r ≡ true) m.1.act.whole
      (subst (λ (n : ℕ). covers s.geometry.block n (length bytes) r ≡ true) m.1.act.at_row hit);
  differed = some_at-newest (m.0.target + 1) (is_act Diffs command) e past (here ∙ ap (λ (n : ℕ). n + 1) u.1) acts_so;
  unfolded = unfolded;
  its_block = ap (λ (n : ℕ). block_at s.geometry.block (delta_of s i past row bytes) (r - n)) m.1.act.at_row
      ∙ ap (λ (x : List ℕ). block_at s.geometry.block x (r - m.0.row))
      (sym (ap (λ (n : ℕ). delta_made s n command (e ∷ past)) (sym u.1) ∙ delta_made-newest s i command e past here acts_so ∙ ap (diff_delta s i past) q));
}
  where
    m : MayTarget s past e.stamp i (Diff command opened cdb row bytes sent dropped back)
    m = subst (λ (x : Event). MayTarget s past e.stamp i x) q (may-here s past e.stamp e.lock i e.event here g.0.1.1)

    u : (m.0.kind ≡ Update) × (i ≡ m.0.target)
    u = differs-update s m.0 i m.1.act.of_task

    acts_so : is_act Diffs command e.event ≡ true
    acts_so = ap (is_act Diffs command) q ∙ eq-eqb command command refl

with-items : (s : Setting) (whole : List Entry) (i : ℕ) (e : Entry) (past : List Entry) (r : ℕ) (event : Event) (older : List Delta) →
    Grows s (e ∷ past) → e.lock ≡ i + 1 → e.event ≡ event → AllByRecursion (IsItem s whole (e ∷ past) r) older →
    AllByRecursion (IsItem s whole (e ∷ past) r) (with_delta s whole i past r event older)
with-items s whole i e past r (Diff command opened cdb row bytes sent dropped back) older g here q p =
    cond_both (covers s.geometry.block row (length bytes) r && not (has_acted Folds command whole))
    (record { command = command; block = block_at s.geometry.block (delta_of s i past row bytes) (r - row) } ∷ older) older
    (λ (l : List Delta). AllByRecursion (IsItem s whole (e ∷ past) r) l)
    (λ h. added (and_parts (covers s.geometry.block row (length bytes) r) (not (has_acted Folds command whole)) h)) (λ h. p)
  where
    added : (covers s.geometry.block row (length bytes) r ≡ true) × (not (has_acted Folds command whole) ≡ true) →
        AllByRecursion (IsItem s whole (e ∷ past) r) (record { command = command; block = block_at s.geometry.block (delta_of s i past row bytes) (r - row) } ∷ older)
    added both =
        (new-item s whole i e past r command opened cdb row bytes sent dropped back g here q both.0 (not-true (has_acted Folds command whole) both.1), p)
with-items s whole i e past r _ older g here q p = p

-- each outstanding delta is so
pub items : (s : Setting) (whole : List Entry) (stripe r : ℕ) (past : List Entry) → Grows s past →
    AllByRecursion (IsItem s whole past r) (outstanding_in s whole stripe r past)
items s whole stripe r [] g = tt
items s whole stripe r (e ∷ past) g = step (items s whole stripe r past g.1)
  where
    older : List Delta
    older = outstanding_in s whole stripe r past

    place : (e.lock ≡ 0 → ⊥) → e.lock ≡ e.lock - 1 + 1
    place other = elim (cases_eq (e.lock - 1 + 1) e.lock) [
      | inl same ↦ sym same
      | inr differs ↦ absurd (other (omega arith))
    ]

    step : AllByRecursion (IsItem s whole past r) (outstanding_in s whole stripe r past) →
        AllByRecursion (IsItem s whole (e ∷ past) r) (outstanding_in s whole stripe r (e ∷ past))
    step p =
        cond_both ((e.lock == parity_of s.geometry stripe + 1) && puts_row s r e.event) []
        (cond (e.lock == 0) older (with_delta s whole (e.lock - 1) past r e.event older))
        (λ (l : List Delta). AllByRecursion (IsItem s whole (e ∷ past) r) l) (λ h. tt)
        (λ h. cond_both (e.lock == 0) older (with_delta s whole (e.lock - 1) past r e.event older)
        (λ (l : List Delta). AllByRecursion (IsItem s whole (e ∷ past) r) l) (λ k. moved)
        (λ k. with-items s whole (e.lock - 1) e past r e.event older g (place (λ zero_lock. both_ways (e.lock == 0) k (eq-eqb e.lock 0 zero_lock))) refl moved))
      where
        moved : AllByRecursion (IsItem s whole (e ∷ past) r) older
        moved = all-deltas (IsItem s whole past r) (IsItem s whole (e ∷ past) r) older (λ d x. item-more s whole e past r d g x) p
