-- A supervised update over a quiet journal: its entries go on the run.
use Rattle.std.specs.Prelude.{◌≡◌, ◌==◌, ◌<◌, ◌≤◌, ℕ, suc, ◌+◌, ◌*◌, true, false, List, [], ◌∷◌, ◌++◌, Option, Some, length}
use Rattle.std.proofs.Common.{refl, ap, sym, ◌∙◌, arith, subst}
use Rattle.std.proofs.lemmas.Bool.{eq-eqb}
use Rattle.blocks_core.specs.Xor.{xor}
use Rattle.blocks_core.proofs.XorLaws.{length-xor}
use Rattle.stripe_layout.specs.declared.mode.Mode.TheVariants.{Supervised}
use Rattle.stripe_layout.specs.Modes.{sends_delta, hands_delta_back}
use Rattle.sbc_cdbs.specs.declared.descriptor.Cdb.{Cdb}
use Rattle.sbc_cdbs.specs.Cdbs.{SpellsCdb, cdb_bytes}
use Rattle.array_journal.specs.declared.at.At.{At}
use Rattle.array_journal.specs.declared.entry.Entry.{Entry}
use Rattle.array_journal.specs.declared.event.Event.{Event}
use Rattle.array_journal.specs.declared.event.Event.TheVariants.{Open}
use Rattle.array_journal.specs.declared.setting.Setting.{Setting}
use Rattle.array_journal.specs.declared.task.Kind.{Kind}
use Rattle.array_journal.specs.declared.task.Kind.TheVariants.{Update}
use Rattle.array_journal.specs.declared.task.Task.{Task}
use Rattle.blocks_core.specs.Lists.{slice}
use Rattle.array_journal.specs.Entries.{entry_at, some_at}
use Rattle.array_journal.specs.Commands.{open_count, is_open, task_of}
use Rattle.array_journal.specs.declared.act.Act.{Act}
use Rattle.array_journal.specs.declared.act.Act.TheVariants.{Fetches, Puts, Diffs, Takes, Folds, Holds}
use Rattle.array_journal.specs.Acts.{acts_at, is_act, task_bytes, cdb_of}
use Rattle.xor_buffers.specs.declared.held.HeldBlocks.{HeldBlocks}
use Rattle.xor_buffers.specs.Held.{rows_held}
use Rattle.xor_buffers.proofs.HeldLists.{own_blocks, rows_held-own}
use Rattle.array_journal.specs.Media.{media, held, rows_on}
use Rattle.array_journal.specs.May.{May, MayDiff, MayTake, MayFold, IsFoldSource, IsTask, IsTaskOfKind, NamesActs, AllNamed, EachOwn, closed_bytes}
use Rattle.array_journal.specs.Run.{IsSetting, Grows}
use Rattle.array_journal.specs.Serving.{next_name, open_entry, opened_name, diff_entry, update_delta, take_entry, fold_entry, close_update_entry, update_entries}
use Rattle.array_journal.specs.Calm.{Quiet}
use Rattle.array_journal.proofs.runs.Steps.{entry_at-here, entry_at-else, media-quiet, held-here, held-quiet, some_at-quiet, is_open-quiet, task_of-quiet}
use Rattle.array_journal.proofs.calm.CalmEntries.{AllCalm}
use Rattle.array_journal.proofs.calm.CalmCommands.{stamps_below-calm, calm-no_diffs, calm-no_takes, calm-no_folds, room-calm}
use Rattle.array_journal.proofs.calm.ActSteps.{calm-next, stamp_lt, act-calm, may-target, has-there, all_named-none, all_named-one, named-here, named-later, own-diffs, own-takes, own-folds, names-own}
use Rattle.array_journal.proofs.calm.Opening.{opened_past, opened-calm, opened-stands, opened-once, opened-task, opened-open, opened-grows, update-decided}
use Rattle.array_journal.proofs.calm.ReadRuns.{length-rows_on}

-- an update of a supervised array over a quiet journal
pub record CanUpdate (s : Setting) (past : List Entry) (task : Task) : Type 0 where
  pub supervised : s.mode ≡ Supervised
  pub quiet : Quiet s past
  pub sound : IsTask s task
  pub kind : task.kind ≡ Update

-- its target isn't the parity target, and its bytes fill its blocks
pub update-task : (s : Setting) (past : List Entry) (task : Task) → CanUpdate s past task → IsTaskOfKind s task Update
update-task s past task u = subst (λ (k : Kind). IsTaskOfKind s task k) u.kind u.sound.by_kind

pub length-old_rows : (s : Setting) (past : List Entry) (task : Task) → CanUpdate s past task →
    length (rows_on s task.target past task.row (length task.bytes)) ≡ length task.bytes
length-old_rows s past task u =
    let bytes : length task.bytes ≡ task_bytes s task = (update-task s past task u).1 in
    ap (λ (n : ℕ). length (rows_on s task.target past task.row n)) bytes ∙ length-rows_on s past task task.target u.quiet u.sound ∙ sym bytes

pub length-update_delta : (s : Setting) (past : List Entry) (task : Task) → CanUpdate s past task → length (update_delta s past task) ≡ task_bytes s task
length-update_delta s past task u =
    length-xor (rows_on s task.target past task.row (length task.bytes)) task.bytes (length-old_rows s past task u)
    ∙ length-old_rows s past task u ∙ (update-task s past task u).1

-- the journal after the diff, after the take and after the fold
abbrev pub diffed_past : List Entry → Task → Cdb → List Entry
diffed_past past task diff = diff_entry past task diff ∷ opened_past past task

abbrev pub taken_past : Setting → List Entry → Task → Cdb → Cdb → List Entry
taken_past s past task diff take = take_entry s past task take ∷ diffed_past past task diff

abbrev pub folded_past : Setting → List Entry → Task → Cdb → Cdb → Cdb → List Entry
folded_past s past task diff take fold = fold_entry s past task fold ∷ taken_past s past task diff take

abbrev pub diff_name : List Entry → Task → At
diff_name past task = next_name past 2 (task.target + 1)

abbrev pub take_name : List Entry → Task → At
take_name past task = next_name past 3 (task.target + 1)

abbrev pub fold_name : List Entry → Task → At
fold_name past task = next_name past 4 (task.parity + 1)

pub diffed-calm : (s : Setting) (past : List Entry) (task : Task) (diff : Cdb) → Quiet s past →
    AllCalm (length past + 2) (suc (open_count past)) (diffed_past past task diff)
diffed-calm s past task diff q =
    calm-next (length past + 1) (length past + 2) (suc (open_count past)) (suc (open_count past)) (diff_entry past task diff) (opened_past past task)
    (omega arith) (omega arith) (omega arith) (omega arith, refl) (opened-calm s past task q)

pub taken-calm : (s : Setting) (past : List Entry) (task : Task) (diff take : Cdb) → Quiet s past →
    AllCalm (length past + 3) (suc (open_count past)) (taken_past s past task diff take)
taken-calm s past task diff take q =
    calm-next (length past + 2) (length past + 3) (suc (open_count past)) (suc (open_count past)) (take_entry s past task take) (diffed_past past task diff)
    (omega arith) (omega arith) (omega arith) (omega arith) (diffed-calm s past task diff q)

pub folded-calm : (s : Setting) (past : List Entry) (task : Task) (diff take fold : Cdb) → Quiet s past →
    AllCalm (length past + 4) (suc (open_count past)) (folded_past s past task diff take fold)
folded-calm s past task diff take fold q =
    calm-next (length past + 3) (length past + 4) (suc (open_count past)) (suc (open_count past)) (fold_entry s past task fold)
    (taken_past s past task diff take) (omega arith) (omega arith) (omega arith) (omega arith) (taken-calm s past task diff take q)

-- the blocks are written, and their delta is held
pub may-diff : (s : Setting) (past : List Entry) (task : Task) (diff : Cdb) → CanUpdate s past task →
    SpellsCdb (cdb_bytes diff) (cdb_of s task 0 Diffs) → May s (opened_past past task) (diff_entry past task diff)
may-diff s past task diff u spelt = (
  stamps_below-calm (task.target + 1) (length past + 2) (length past + 1) (suc (open_count past)) (opened_past past task) (omega arith)
      (opened-calm s past task u.quiet),
  may-target s (opened_past past task) (length past + 2) task.target (diff_entry past task diff).event u.sound.target (task, found),
)
  where
    found : MayDiff s (opened_past past task) (length past + 2) task.target (open_count past) (opened_name past) diff task.row task.bytes false false false task
    found = record {
      act = act-calm s (opened_past past task) (length past + 2) task.target (open_count past) (length past + 1) (suc (open_count past)) (opened_name past)
          diff (length task.bytes) task Diffs (opened-calm s past task u.quiet) (opened-stands past task) (omega arith) refl
          (has-there s Diffs task Update Supervised task.target u.kind u.supervised u.sound.target (eq-eqb task.target task.target refl))
          (opened-once s past task (task.target + 1) (is_act Diffs (open_count past)) u.quiet refl (calm-no_diffs (open_count past)))
          (update-task s past task u).1 spelt;
      written = refl;
      sent_by_mode = sym (ap sends_delta u.supervised);
      back_by_mode = sym (ap hands_delta_back u.supervised);
      dropped_when_due = refl;
    }

pub held-diffed : (s : Setting) (past : List Entry) (task : Task) (diff : Cdb) → Quiet s past →
    held s task.target (diffed_past past task diff) ≡ own_blocks (open_count past) task.row (update_delta s past task) ∷ []
held-diffed s past task diff q =
    held-here s task.target (diff_entry past task diff) (opened_past past task) refl
    ∙ ap (λ (h : List HeldBlocks). h ++ own_blocks (open_count past) task.row (delta_over (media s task.target (opened_past past task))) ∷ [])
    (held-quiet s task.target (open_entry past task) past (λ m old. refl) ∙ q.none_held task.target)
    ∙ ap (λ (m : List ℕ). own_blocks (open_count past) task.row (delta_over m) ∷ [])
    (media-quiet s task.target (open_entry past task) past (λ old. refl))
  where
    delta_over : List ℕ → List ℕ
    delta_over m = xor (slice m (task.row * s.geometry.block) (length task.bytes)) task.bytes

diffed-opened : (past : List Entry) (task : Task) (diff : Cdb) → entry_at (opened_name past) (diffed_past past task diff) ≡ Some (Open (open_count past) task)
diffed-opened past task diff =
    entry_at-else (opened_name past) (diff_entry past task diff) (opened_past past task) (λ k. omega arith) ∙ opened-stands past task

-- the delta is had as it is held
pub may-take : (s : Setting) (past : List Entry) (task : Task) (diff take : Cdb) → CanUpdate s past task →
    SpellsCdb (cdb_bytes take) (cdb_of s task 0 Takes) → May s (diffed_past past task diff) (take_entry s past task take)
may-take s past task diff take u spelt = (
  stamps_below-calm (task.target + 1) (length past + 3) (length past + 2) (suc (open_count past)) (diffed_past past task diff) (omega arith)
      (diffed-calm s past task diff u.quiet),
  may-target s (diffed_past past task diff) (length past + 3) task.target (take_entry s past task take).event u.sound.target (task, found),
)
  where
    once : some_at (task.target + 1) (is_act Takes (open_count past)) (diffed_past past task diff) ≡ false
    once = some_at-quiet (task.target + 1) (is_act Takes (open_count past)) (diff_entry past task diff) (opened_past past task) refl
        ∙ opened-once s past task (task.target + 1) (is_act Takes (open_count past)) u.quiet refl (calm-no_takes (open_count past))

    found : MayTake s (diffed_past past task diff) (length past + 3) task.target (open_count past) (opened_name past) take task.row (update_delta s past task) task
    found = record {
      act = act-calm s (diffed_past past task diff) (length past + 3) task.target (open_count past) (length past + 2) (suc (open_count past)) (opened_name past)
          take (length (update_delta s past task)) task Takes (diffed-calm s past task diff u.quiet) (diffed-opened past task diff) (omega arith) refl
          (has-there s Takes task Update Supervised task.target u.kind u.supervised u.sound.target (eq-eqb task.target task.target refl)) once
          (length-update_delta s past task u) spelt;
      taken = ap (λ (h : List HeldBlocks). rows_held s.geometry.block (open_count past) task.row (length (update_delta s past task)) h)
          (held-diffed s past task diff u.quiet)
          ∙ rows_held-own s.geometry.block (open_count past) task.row (update_delta s past task);
    }

taken-opened : (s : Setting) (past : List Entry) (task : Task) (diff take : Cdb) →
    entry_at (opened_name past) (taken_past s past task diff take) ≡ Some (Open (open_count past) task)
taken-opened s past task diff take =
    entry_at-else (opened_name past) (take_entry s past task take) (diffed_past past task diff) (λ k. omega arith) ∙ diffed-opened past task diff

taken-stands : (s : Setting) (past : List Entry) (task : Task) (diff take : Cdb) →
    entry_at (take_name past task) (taken_past s past task diff take) ≡ Some (take_entry s past task take).event
taken-stands s past task diff take = entry_at-here (take_name past task) (take_entry s past task take) (diffed_past past task diff) refl refl

-- the parity unit's target is a target
parity-target : (s : Setting) (task : Task) → IsTask s task → task.parity < s.geometry.targets
parity-target s task sound = omega (arith, sound.parity, sound.target)

-- the delta that was taken is folded
pub may-fold : (s : Setting) (past : List Entry) (task : Task) (diff take fold : Cdb) → CanUpdate s past task →
    SpellsCdb (cdb_bytes fold) (cdb_of s task 0 Folds) → May s (taken_past s past task diff take) (fold_entry s past task fold)
may-fold s past task diff take fold u spelt = (
  stamps_below-calm (task.parity + 1) (length past + 4) (length past + 3) (suc (open_count past)) (taken_past s past task diff take) (omega arith)
      (taken-calm s past task diff take u.quiet),
  may-target s (taken_past s past task diff take) (length past + 4) task.parity (fold_entry s past task fold).event (parity-target s task u.sound)
      (task, (take_name past task, found)),
)
  where
    once : some_at (task.parity + 1) (is_act Folds (open_count past)) (taken_past s past task diff take) ≡ false
    once = some_at-quiet (task.parity + 1) (is_act Folds (open_count past)) (take_entry s past task take) (diffed_past past task diff) refl
        ∙ some_at-quiet (task.parity + 1) (is_act Folds (open_count past)) (diff_entry past task diff) (opened_past past task) refl
        ∙ opened-once s past task (task.parity + 1) (is_act Folds (open_count past)) u.quiet refl (calm-no_folds (open_count past))

    found : MayFold s (taken_past s past task diff take) (length past + 4) task.parity (open_count past) (opened_name past) fold task.row
        (update_delta s past task) (take_name past task ∷ []) task (take_name past task)
    found = record {
      act = act-calm s (taken_past s past task diff take) (length past + 4) task.parity (open_count past) (length past + 3) (suc (open_count past))
          (opened_name past) fold (length (update_delta s past task)) task Folds (taken-calm s past task diff take u.quiet)
          (taken-opened s past task diff take) (omega arith) refl
          (has-there s Folds task Update Supervised task.parity u.kind u.supervised (parity-target s task u.sound) (eq-eqb task.parity task.parity refl)) once
          (length-update_delta s past task u) spelt;
      one = refl;
      at_source = refl;
      earlier = omega arith;
      source = subst (λ (o : Option Event). IsFoldSource s (taken_past s past task diff take) (open_count past) task (take_name past task)
          (update_delta s past task) o) (sym (taken-stands s past task diff take)) (refl, refl);
    }

folded-diff : (s : Setting) (past : List Entry) (task : Task) (diff take fold : Cdb) →
    entry_at (diff_name past task) (folded_past s past task diff take fold) ≡ Some (diff_entry past task diff).event
folded-diff s past task diff take fold =
    entry_at-else (diff_name past task) (fold_entry s past task fold) (taken_past s past task diff take) (λ k. omega arith)
    ∙ entry_at-else (diff_name past task) (take_entry s past task take) (diffed_past past task diff) (λ k. omega arith)
    ∙ entry_at-here (diff_name past task) (diff_entry past task diff) (opened_past past task) refl refl

folded-take : (s : Setting) (past : List Entry) (task : Task) (diff take fold : Cdb) →
    entry_at (take_name past task) (folded_past s past task diff take fold) ≡ Some (take_entry s past task take).event
folded-take s past task diff take fold =
    entry_at-else (take_name past task) (fold_entry s past task fold) (taken_past s past task diff take) (λ k. omega arith)
    ∙ taken-stands s past task diff take

folded-fold : (s : Setting) (past : List Entry) (task : Task) (diff take fold : Cdb) →
    entry_at (fold_name past task) (folded_past s past task diff take fold) ≡ Some (fold_entry s past task fold).event
folded-fold s past task diff take fold = entry_at-here (fold_name past task) (fold_entry s past task fold) (taken_past s past task diff take) refl refl

-- the names of an update's acts
abbrev pub update_names : List Entry → Task → List At
update_names past task = diff_name past task ∷ take_name past task ∷ fold_name past task ∷ []

update-own : (s : Setting) (past : List Entry) (task : Task) (diff take fold : Cdb) → CanUpdate s past task →
    EachOwn s (folded_past s past task diff take fold) (length past + 5) (open_count past) task (update_names past task)
update-own s past task diff take fold u = (
  names-own s whole (length past + 5) (open_count past) task task.target (diff_name past task) (diff_entry past task diff).event refl (omega arith)
      (folded-diff s past task diff take fold)
      (own-diffs s (open_count past) task task.target (diff_entry past task diff).event
      (has-there s Diffs task Update Supervised task.target u.kind u.supervised u.sound.target (eq-eqb task.target task.target refl)) same),
  (
    names-own s whole (length past + 5) (open_count past) task task.target (take_name past task) (take_entry s past task take).event refl (omega arith)
        (folded-take s past task diff take fold)
        (own-takes s (open_count past) task task.target (take_entry s past task take).event
        (has-there s Takes task Update Supervised task.target u.kind u.supervised u.sound.target (eq-eqb task.target task.target refl)) same),
    (
      names-own s whole (length past + 5) (open_count past) task task.parity (fold_name past task) (fold_entry s past task fold).event refl (omega arith)
          (folded-fold s past task diff take fold)
          (own-folds s (open_count past) task task.parity (fold_entry s past task fold).event
          (has-there s Folds task Update Supervised task.parity u.kind u.supervised (parity-target s task u.sound) (eq-eqb task.parity task.parity refl)) same),
      tt,
    ),
  ),
)
  where
    whole : List Entry
    whole = folded_past s past task diff take fold

    same : (open_count past == open_count past) ≡ true
    same = eq-eqb (open_count past) (open_count past) refl

update-acts : (s : Setting) (past : List Entry) (task : Task) (diff take fold : Cdb) → CanUpdate s past task →
    NamesActs s (folded_past s past task diff take fold) (length past + 5) (open_count past) task (update_names past task)
update-acts s past task diff take fold u = record {
  in_order = (stamp_lt (diff_name past task) (take_name past task) (omega arith), (stamp_lt (take_name past task) (fold_name past task) (omega arith), tt));
  only = update-own s past task diff take fold u;
  fetches = unnamed Fetches (λ i. refl);
  puts = unnamed Puts (λ i. refl);
  diffs = all_named-one s (folded_past s past task diff take fold) (open_count past) task Diffs (update_names past task) Update Supervised task.target
      u.kind u.supervised (λ i. refl)
      (named-here (folded_past s past task diff take fold) (open_count past) Diffs task.target (diff_name past task)
      (take_name past task ∷ fold_name past task ∷ []) (diff_entry past task diff).event refl (folded-diff s past task diff take fold)
      (eq-eqb (open_count past) (open_count past) refl));
  takes = all_named-one s (folded_past s past task diff take fold) (open_count past) task Takes (update_names past task) Update Supervised task.target
      u.kind u.supervised (λ i. refl)
      (named-later (folded_past s past task diff take fold) (open_count past) Takes task.target (diff_name past task)
      (take_name past task ∷ fold_name past task ∷ [])
      (named-here (folded_past s past task diff take fold) (open_count past) Takes task.target (take_name past task)
      (fold_name past task ∷ []) (take_entry s past task take).event refl (folded-take s past task diff take fold)
      (eq-eqb (open_count past) (open_count past) refl)));
  holds = unnamed Holds (λ i. refl);
}
  where
    unnamed : (act : Act) → ((i : ℕ) → acts_at Supervised act Update task i ≡ false) →
        AllNamed s (folded_past s past task diff take fold) (open_count past) task act (update_names past task)
    unnamed act never =
        all_named-none s (folded_past s past task diff take fold) (open_count past) task act (update_names past task) Update Supervised u.kind u.supervised never

update-folds : (s : Setting) (past : List Entry) (task : Task) (diff take fold : Cdb) → CanUpdate s past task →
    AllNamed s (folded_past s past task diff take fold) (open_count past) task Folds (update_names past task)
update-folds s past task diff take fold u =
    all_named-one s whole (open_count past) task Folds (update_names past task) Update Supervised task.parity u.kind u.supervised (λ i. refl)
    (named-later whole (open_count past) Folds task.parity (diff_name past task) (take_name past task ∷ fold_name past task ∷ [])
    (named-later whole (open_count past) Folds task.parity (take_name past task) (fold_name past task ∷ [])
    (named-here whole (open_count past) Folds task.parity (fold_name past task) [] (fold_entry s past task fold).event refl
    (folded-fold s past task diff take fold) (eq-eqb (open_count past) (open_count past) refl))))
  where
    whole : List Entry
    whole = folded_past s past task diff take fold

pub folded-task : (s : Setting) (past : List Entry) (task : Task) (diff take fold : Cdb) →
    task_of (open_count past) (folded_past s past task diff take fold) ≡ Some task
folded-task s past task diff take fold =
    task_of-quiet (open_count past) (fold_entry s past task fold) (taken_past s past task diff take) refl
    ∙ task_of-quiet (open_count past) (take_entry s past task take) (diffed_past past task diff) refl
    ∙ task_of-quiet (open_count past) (diff_entry past task diff) (opened_past past task) refl ∙ opened-task past task

folded-open : (s : Setting) (past : List Entry) (task : Task) (diff take fold : Cdb) → Quiet s past →
    is_open (open_count past) (folded_past s past task diff take fold) ≡ true
folded-open s past task diff take fold q =
    is_open-quiet (open_count past) (fold_entry s past task fold) (taken_past s past task diff take) refl refl
    ∙ is_open-quiet (open_count past) (take_entry s past task take) (diffed_past past task diff) refl refl
    ∙ is_open-quiet (open_count past) (diff_entry past task diff) (opened_past past task) refl refl ∙ opened-open s past task q

pub may-close_update : (s : Setting) (past : List Entry) (task : Task) (diff take fold : Cdb) → CanUpdate s past task →
    May s (folded_past s past task diff take fold) (close_update_entry past task)
may-close_update s past task diff take fold u = (
  stamps_below-calm 0 (length past + 5) (length past + 4) (suc (open_count past)) (folded_past s past task diff take fold) (omega arith)
      (folded-calm s past task diff take fold u.quiet),
  (
    task,
    (
      (folded-open s past task diff take fold u.quiet, folded-task s past task diff take fold),
      record {
        acts = update-acts s past task diff take fold u;
        folds = update-folds s past task diff take fold u;
        no_cause = refl;
        answer = sym (ap (λ (k : Kind). closed_bytes s (folded_past s past task diff take fold) task (update_names past task) k) u.kind);
      },
    ),
  ),
)

-- the entries of an update go on the run
pub update-grows : (s : Setting) (past : List Entry) (task : Task) (diff take fold : Cdb) → IsSetting s → s.mode ≡ Supervised →
    Quiet s past → Grows s past → IsTask s task → task.kind ≡ Update → task.count ≤ s.buffer →
    SpellsCdb (cdb_bytes diff) (cdb_of s task 0 Diffs) → SpellsCdb (cdb_bytes take) (cdb_of s task 0 Takes) → SpellsCdb (cdb_bytes fold) (cdb_of s task 0 Folds) →
    Grows s (update_entries s past task diff take fold)
update-grows s past task diff take fold setting supervised q grows sound kind fits by_diff by_take by_fold = (
  (stamp_lt (fold_name past task) (next_name past 5 0) (omega arith), may-close_update s past task diff take fold u),
  (
    (stamp_lt (take_name past task) (fold_name past task) (omega arith), may-fold s past task diff take fold u by_fold),
    (
      (stamp_lt (diff_name past task) (take_name past task) (omega arith), may-take s past task diff take u by_take),
      (
        (stamp_lt (opened_name past) (diff_name past task) (omega arith), may-diff s past task diff u by_diff),
        opened-grows s past task q grows sound (update-decided s past task q kind) (room-calm s task past q.none_open fits),
      ),
    ),
  ),
)
  where
    u : CanUpdate s past task
    u = record { supervised = supervised; quiet = q; sound = sound; kind = kind }
