-- The delta of an open update that has its diff and no fold yet is owed once.
use Rattle.std.specs.Prelude.{◌≡◌, ◌&&◌, not, ℕ, ◌+◌, ◌-◌, Bool, true, false, List, [], ◌∷◌, length, Some}
use Rattle.std.specs.List.{AllByRecursion}
use Rattle.std.proofs.Common.{refl, ap, sym, ◌∙◌, cond, arith, subst, inl, inr}
use Rattle.std.proofs.lemmas.Bool.{eq-eqb, eqb-true, cases_eq, and_from, both_ways, false≢true, cond-true, cond_both}
use Rattle.stripe_layout.specs.Layout.{parity_of, IsRowOf}
use Rattle.array_journal.specs.declared.entry.Entry.{Entry}
use Rattle.array_journal.specs.declared.event.Event.{Event}
use Rattle.array_journal.specs.declared.event.Event.TheVariants.{Diff}
use Rattle.array_journal.specs.declared.setting.Setting.{Setting}
use Rattle.array_journal.specs.declared.task.Kind.TheVariants.{Update}
use Rattle.array_journal.specs.declared.task.Task.{Task}
use Rattle.blocks_core.specs.Lists.{block_at}
use Rattle.array_journal.specs.Entries.{some_at}
use Rattle.array_journal.specs.Commands.{opens_command, is_open, task_of, is_shared}
use Rattle.array_journal.specs.declared.act.Act.{Act}
use Rattle.array_journal.specs.declared.act.Act.TheVariants.{Diffs, Folds}
use Rattle.array_journal.specs.Acts.{is_act, task_bytes}
use Rattle.array_journal.specs.Deltas.{Delta, covers, delta_of, has_acted, puts_row, with_delta, outstanding_in}
use Rattle.array_journal.specs.May.{MayTarget}
use Rattle.array_journal.specs.Run.{Grows, IsSetting}
use Rattle.array_journal.proofs.runs.Standing.{may-here, some_at-cases}
use Rattle.array_journal.proofs.runs.CommandLaws.{named-task, task_of-more, opened-once, task-opened, one_task}
use Rattle.array_journal.proofs.held.HeldOwners.{act-asks, HasAct, acted-has}
use Rattle.array_journal.proofs.owed.EndedCommands.{act-opened}
use Rattle.array_journal.proofs.windows.WindowLaws.{older-open, older-task}
use Rattle.array_journal.proofs.owed.DeltaLaws.{differs-update, diff-once, diff_delta, delta_made, delta_made-newest, delta_made-more}
use Rattle.array_journal.proofs.owed.OwedLists.{has_command, OwesOnce, lacks-command, outstanding_in-here, outstanding_in-book}
use Rattle.array_journal.proofs.owed.OwedItems.{IsItem, items}
use Rattle.array_journal.proofs.owed.LonePuts.{no-put_beside}

-- a command that made an act was opened before any entry after the opening, so the newest entry doesn't open it
pub acted-before : (s : Setting) (i c : ℕ) (act : Act) (e : Entry) (past : List Entry) → Grows s (e ∷ past) → some_at (i + 1) (is_act act c) (e ∷ past) ≡ true →
    (e.lock ≡ 0) × (opens_command c e.event ≡ true) → ⊥
acted-before s i c act e past g h both =
    both_ways (opens_command c e.event) (opened-once s c e past g.1 g.0.1 both.0 opened) both.1
  where
    opened : some_at 0 (opens_command c) past ≡ true
    opened = elim (some_at-cases (i + 1) (is_act act c) e past h) [
      | inl here ↦ act-opened s past e.stamp i c act
          (act-asks s past e.stamp i c act e.event (may-here s past e.stamp e.lock i e.event here.0 g.0.1.1) here.1)
      | inr older ↦ let a : HasAct s past i c act = acted-has s i c act past g.1 older in task-opened c past a.0 a.1.0
    ]

-- an update's delta on a row
abbrev pub update_block : Setting → List Entry → ℕ → Task → ℕ → List ℕ
update_block s past c task r = block_at s.geometry.block (delta_made s task.target c past) (r - task.row)

-- an open update that has its diff and covers the row
pub record Owes (s : Setting) (stripe r c : ℕ) (task : Task) (past : List Entry) : Type 0 where
  pub opened : is_open c past ≡ true
  pub its_task : task_of c past ≡ Some task
  pub differed : some_at (task.target + 1) (is_act Diffs c) past ≡ true
  pub hit : covers s.geometry.block task.row (task_bytes s task) r ≡ true
  pub of_stripe : task.stripe ≡ stripe

-- a diff that stands after an entry that isn't one stood before
pub older-acted : (k c : ℕ) (act : Act) (e : Entry) (past : List Entry) → (e.lock ≡ k → is_act act c e.event ≡ false) → some_at k (is_act act c) (e ∷ past) ≡ true →
    some_at k (is_act act c) past ≡ true
older-acted k c act e past other h = elim (some_at-cases k (is_act act c) e past h) [
  | inl newest ↦ absurd (both_ways (is_act act c e.event) (other newest.0) newest.1)
  | inr stands ↦ stands
]

-- the same delta, after an entry that isn't the command's diff
once-more : (s : Setting) (r c : ℕ) (task : Task) (e : Entry) (past : List Entry) (ds : List Delta) → Grows s (e ∷ past) → some_at (task.target + 1) (is_act Diffs c) past ≡ true →
    OwesOnce c (update_block s past c task r) ds → OwesOnce c (update_block s (e ∷ past) c task r) ds
once-more s r c task e past ds g before p =
    subst (λ (x : List ℕ). OwesOnce c (block_at s.geometry.block x (r - task.row)) ds) (sym (delta_made-more s task.target c e past g before)) p

-- the newest diff, or an older one
with-once : (s : Setting) (whole : List Entry) (stripe r c i : ℕ) (task : Task) (e : Entry) (past : List Entry) (event : Event) (older : List Delta) → Grows s (e ∷ past) →
    Owes s stripe r c task (e ∷ past) → has_acted Folds c whole ≡ false → e.lock ≡ i + 1 → e.event ≡ event →
    AllByRecursion (IsItem s whole past r) older →
    (some_at (task.target + 1) (is_act Diffs c) past ≡ true → OwesOnce c (update_block s past c task r) older) →
    OwesOnce c (update_block s (e ∷ past) c task r) (with_delta s whole i past r event older)
with-once s whole stripe r c i task e past (Diff command opened cdb row bytes sent dropped back) older g o unfolded here q p rec = elim (cases_eq command c) [
  | inl own ↦ mine own
  | inr other ↦ others other
]
  where
    hit : Bool
    hit = covers s.geometry.block row (length bytes) r && not (has_acted Folds command whole)

    item : Delta
    item = record { command = command; block = block_at s.geometry.block (delta_of s i past row bytes) (r - row) }

    mine : command ≡ c → OwesOnce c (update_block s (e ∷ past) c task r) (cond hit (item ∷ older) older)
    mine own =
        subst (OwesOnce c (update_block s (e ∷ past) c task r))
        (sym (cond-true hit (item ∷ older) older
        (and_from (covers s.geometry.block row (length bytes) r) (not (has_acted Folds command whole)) row_hit
        (ap not (ap (λ (n : ℕ). has_acted Folds n whole) own ∙ unfolded)))))
        (inl (own, block, none))
      where
        m : MayTarget s past e.stamp i (Diff command opened cdb row bytes sent dropped back)
        m = subst (λ (x : Event). MayTarget s past e.stamp i x) q (may-here s past e.stamp e.lock i e.event here g.0.1.1)

        u : (m.0.kind ≡ Update) × (i ≡ m.0.target)
        u = differs-update s m.0 i m.1.act.of_task

        same : m.0 ≡ task
        same = one_task m.0 task (sym (task_of-more s c e past m.0 g.1 g.0.1
            (subst (λ (n : ℕ). task_of n past ≡ Some m.0) own (named-task s opened command m.0 past g.1 m.1.act.in_book m.1.act.opening.0))) ∙ o.its_task)

        acts_so : is_act Diffs c e.event ≡ true
        acts_so = ap (is_act Diffs c) q ∙ eq-eqb command c own

        at_row : row ≡ task.row
        at_row = m.1.act.at_row ∙ ap (λ (t : Task). t.row) same

        at_target : i ≡ task.target
        at_target = u.1 ∙ ap (λ (t : Task). t.target) same

        row_hit : covers s.geometry.block row (length bytes) r ≡ true
        row_hit =
            ap (λ (n : ℕ). covers s.geometry.block n (length bytes) r) at_row
            ∙ ap (λ (n : ℕ). covers s.geometry.block task.row n r) (m.1.act.whole ∙ ap (λ (t : Task). task_bytes s t) same) ∙ o.hit

        block : block_at s.geometry.block (delta_of s i past row bytes) (r - row) ≡ update_block s (e ∷ past) c task r
        block =
            ap (λ (n : ℕ). block_at s.geometry.block (delta_of s i past row bytes) (r - n)) at_row
            ∙ ap (λ (x : List ℕ). block_at s.geometry.block x (r - task.row))
            (sym (ap (λ (n : ℕ). delta_made s n c (e ∷ past)) (sym at_target) ∙ delta_made-newest s i c e past here acts_so ∙ ap (diff_delta s i past) q))

        none : has_command c older ≡ false
        none = lacks-command (IsItem s whole past r) c older p never
          where
            never : (d : Delta) → d.command ≡ c → IsItem s whole past r d → ⊥
            never d its x =
                let t : task_of c past ≡ Some x.task = subst (λ (n : ℕ). task_of n past ≡ Some x.task) its x.its_task in
                let one : x.task ≡ task = one_task x.task task (sym (task_of-more s c e past x.task g.1 g.0.1 t) ∙ o.its_task) in
                both_ways (is_act Diffs c e.event)
                (diff-once s i c e past g
                (subst (λ (n : ℕ). some_at (n + 1) (is_act Diffs c) past ≡ true) (ap (λ (y : Task). y.target) one ∙ sym at_target)
                (subst (λ (n : ℕ). some_at (x.task.target + 1) (is_act Diffs n) past ≡ true) its x.differed)) here) acts_so

    others : (command ≡ c → ⊥) → OwesOnce c (update_block s (e ∷ past) c task r) (cond hit (item ∷ older) older)
    others other =
        subst (λ (x : List ℕ). OwesOnce c (block_at s.geometry.block x (r - task.row)) (cond hit (item ∷ older) older))
        (sym (delta_made-more s task.target c e past g before))
        (cond_both hit (item ∷ older) older (OwesOnce c (update_block s past c task r)) (λ h. inr (other, rec before)) (λ h. rec before))
      where
        before : some_at (task.target + 1) (is_act Diffs c) past ≡ true
        before = elim (some_at-cases (task.target + 1) (is_act Diffs c) e past o.differed) [
          | inl newest ↦ absurd (other (eqb-true command c (sym (ap (is_act Diffs c) q) ∙ newest.1)))
          | inr stands ↦ stands
        ]
with-once s whole stripe r c i task e past _ older g o unfolded here q p rec =
    let before : some_at (task.target + 1) (is_act Diffs c) past ≡ true = older-acted (task.target + 1) c Diffs e past (λ k. ap (is_act Diffs c) q) o.differed in
    once-more s r c task e past older g before (rec before)

-- the delta of an open update is owed once, until it is folded
pub owed-once : (s : Setting) (whole : List Entry) (stripe r c : ℕ) (task : Task) (past : List Entry) → IsSetting s → Grows s past → IsRowOf s.geometry stripe r →
    task.kind ≡ Update → has_acted Folds c whole ≡ false → Owes s stripe r c task past →
    OwesOnce c (update_block s past c task r) (outstanding_in s whole stripe r past)
owed-once s whole stripe r c task [] set g at update unfolded o = absurd (false≢true o.differed)
owed-once s whole stripe r c task (e ∷ past) set g at update unfolded o =
    step (λ before. owed-once s whole stripe r c task past set g.1 at update unfolded (older_owes before))
  where
    not_opens : (e.lock ≡ 0) × (opens_command c e.event ≡ true) → ⊥
    not_opens = acted-before s task.target c Diffs e past g o.differed

    open_before : is_open c past ≡ true
    open_before = older-open c e past not_opens o.opened

    its_before : task_of c past ≡ Some task
    its_before = sym (older-task c e past not_opens) ∙ o.its_task

    older_owes : some_at (task.target + 1) (is_act Diffs c) past ≡ true → Owes s stripe r c task past
    older_owes before = record { opened = open_before; its_task = its_before; differed = before; hit = o.hit; of_stripe = o.of_stripe }

    leaves : e.lock ≡ parity_of s.geometry stripe + 1 → puts_row s r e.event ≡ false
    leaves = no-put_beside s stripe r c task e past set g at open_before its_before o.of_stripe (ap is_shared update)

    place : (e.lock ≡ 0 → ⊥) → e.lock ≡ e.lock - 1 + 1
    place other = elim (cases_eq (e.lock - 1 + 1) e.lock) [
      | inl same ↦ sym same
      | inr differs ↦ absurd (other (omega arith))
    ]

    step : (some_at (task.target + 1) (is_act Diffs c) past ≡ true → OwesOnce c (update_block s past c task r) (outstanding_in s whole stripe r past)) →
        OwesOnce c (update_block s (e ∷ past) c task r) (outstanding_in s whole stripe r (e ∷ past))
    step rec = elim (cases_eq e.lock 0) [
      | inl book ↦ subst (OwesOnce c (update_block s (e ∷ past) c task r)) (sym (outstanding_in-book s whole stripe r e past book)) (in_book book)
      | inr other ↦ subst (OwesOnce c (update_block s (e ∷ past) c task r)) (sym (outstanding_in-here s whole stripe r (e.lock - 1) e past (place other) leaves))
          (with-once s whole stripe r c (e.lock - 1) task e past e.event (outstanding_in s whole stripe r past) g o unfolded (place other) refl (items s whole stripe r past g.1) rec)
    ]
      where
        in_book : e.lock ≡ 0 → OwesOnce c (update_block s (e ∷ past) c task r) (outstanding_in s whole stripe r past)
        in_book book =
            let before : some_at (task.target + 1) (is_act Diffs c) past ≡ true =
            older-acted (task.target + 1) c Diffs e past (λ k. absurd (omega arith)) o.differed in
            once-more s r c task e past (outstanding_in s whole stripe r past) g before (rec before)
