-- A supervised update over a quiet journal leaves it quiet.
use Rattle.std.specs.Prelude.{◌≡◌, ◌==◌, ℕ, suc, ◌+◌, ◌*◌, List, [], ◌∷◌, length}
use Rattle.std.proofs.Common.{refl, ap, sym, ◌∙◌, arith, subst, inl, inr}
use Rattle.std.proofs.lemmas.Bool.{eq-eqb, ne_eqb, cases_eq, or_left}
use Rattle.blocks_core.specs.Xor.{xor}
use Rattle.blocks_core.proofs.XorLaws.{length-xor}
use Rattle.stripe_layout.specs.declared.mode.Mode.TheVariants.{Supervised}
use Rattle.sbc_cdbs.specs.declared.descriptor.Cdb.{Cdb}
use Rattle.stripe_layout.specs.Layout.{rows_of}
use Rattle.array_journal.specs.declared.entry.Entry.{Entry}
use Rattle.array_journal.specs.declared.setting.Setting.{Setting}
use Rattle.array_journal.specs.declared.task.Kind.TheVariants.{Update}
use Rattle.array_journal.specs.declared.task.Task.{Task}
use Rattle.blocks_core.specs.Lists.{slice, put}
use Rattle.blocks_core.proofs.BlockLists.{length-slice, length-put}
use Rattle.array_journal.specs.Entries.{some_at}
use Rattle.array_journal.specs.Commands.{opens, ends_command, open_count}
use Rattle.array_journal.specs.Acts.{task_bytes}
use Rattle.xor_buffers.specs.declared.held.HeldBlocks.{HeldBlocks}
use Rattle.xor_buffers.specs.Held.{take_rows}
use Rattle.xor_buffers.proofs.HeldLists.{take_rows-own}
use Rattle.array_journal.specs.Media.{media, medium_after, held}
use Rattle.array_journal.specs.May.{IsTask}
use Rattle.array_journal.specs.Run.{NoneOpen}
use Rattle.array_journal.specs.Serving.{open_entry, diff_entry, update_delta, take_entry, fold_entry, close_update_entry, update_entries}
use Rattle.array_journal.specs.Calm.{Quiet}
use Rattle.array_journal.proofs.runs.Steps.{chosen_length, media-quiet, held-here, held-else, held-quiet, is_open-quiet, is_open-ended, count_at-quiet}
use Rattle.array_journal.proofs.calm.CalmEntries.{AllCalm}
use Rattle.array_journal.proofs.held.TaskPlaces.{rows-fit_bytes}
use Rattle.array_journal.proofs.calm.ActSteps.{calm-next}
use Rattle.array_journal.proofs.calm.Opening.{opened_past}
use Rattle.array_journal.proofs.calm.UpdateRuns.{CanUpdate, update-task, length-update_delta, diffed_past, taken_past, folded_past, folded-calm, held-diffed}

pub update-count : (s : Setting) (past : List Entry) (task : Task) (diff take fold : Cdb) →
    open_count (update_entries s past task diff take fold) ≡ suc (open_count past)
update-count s past task diff take fold =
    count_at-quiet 0 opens (fold_entry s past task fold) (taken_past s past task diff take) refl
    ∙ count_at-quiet 0 opens (take_entry s past task take) (diffed_past past task diff) refl
    ∙ count_at-quiet 0 opens (diff_entry past task diff) (opened_past past task) refl

pub update-calm : (s : Setting) (past : List Entry) (task : Task) (diff take fold : Cdb) → Quiet s past →
    AllCalm (length (update_entries s past task diff take fold)) (open_count (update_entries s past task diff take fold)) (update_entries s past task diff take fold)
update-calm s past task diff take fold q =
    subst (λ (d : ℕ). AllCalm (length (update_entries s past task diff take fold)) d (update_entries s past task diff take fold))
    (sym (update-count s past task diff take fold))
    (calm-next (length past + 4) (suc (suc (suc (suc (suc (length past)))))) (suc (open_count past)) (suc (open_count past)) (close_update_entry past task)
    (folded_past s past task diff take fold) (omega arith) (omega arith) (omega arith) (omega arith, refl) (folded-calm s past task diff take fold q))

-- the update is closed, and other commands are as they were
pub update-none_open : (s : Setting) (past : List Entry) (task : Task) (diff take fold : Cdb) → NoneOpen past →
    NoneOpen (update_entries s past task diff take fold)
update-none_open s past task diff take fold none d = elim (cases_eq (open_count past) d) [
  | inl e ↦ is_open-ended d (update_entries s past task diff take fold)
      (or_left (open_count past == d) (some_at 0 (ends_command d) (folded_past s past task diff take fold)) (eq-eqb (open_count past) d e))
  | inr h ↦ is_open-quiet d (close_update_entry past task) (folded_past s past task diff take fold) refl (ne_eqb (open_count past) d h)
      ∙ is_open-quiet d (fold_entry s past task fold) (taken_past s past task diff take) refl refl
      ∙ is_open-quiet d (take_entry s past task take) (diffed_past past task diff) refl refl
      ∙ is_open-quiet d (diff_entry past task diff) (opened_past past task) refl refl
      ∙ is_open-quiet d (open_entry past task) past (ne_eqb (open_count past) d h) refl ∙ none d
]

-- what the target held is taken, and the others hold nothing
pub update-none_held : (s : Setting) (past : List Entry) (task : Task) (diff take fold : Cdb) → Quiet s past → (i : ℕ) →
    held s i (update_entries s past task diff take fold) ≡ []
update-none_held s past task diff take fold q i =
    held-quiet s i (close_update_entry past task) (folded_past s past task diff take fold) (λ m old. refl)
    ∙ held-quiet s i (fold_entry s past task fold) (taken_past s past task diff take) (λ m old. refl)
    ∙ elim (cases_eq task.target i) as (λ x. held s i (taken_past s past task diff take) ≡ []) [
      | inl e ↦ subst (λ (j : ℕ). held s j (taken_past s past task diff take) ≡ []) e at_target
      | inr h ↦ held-else s i (take_entry s past task take) (diffed_past past task diff) (λ k. h (omega arith))
          ∙ held-else s i (diff_entry past task diff) (opened_past past task) (λ k. h (omega arith))
          ∙ held-quiet s i (open_entry past task) past (λ m old. refl) ∙ q.none_held i
    ]
  where
    at_target : held s task.target (taken_past s past task diff take) ≡ []
    at_target = held-here s task.target (take_entry s past task take) (diffed_past past task diff) refl
        ∙ ap (λ (h : List HeldBlocks). take_rows s.geometry.block task.row (length (update_delta s past task)) h) (held-diffed s past task diff q)
        ∙ take_rows-own s.geometry.block (open_count past) task.row (update_delta s past task)

-- an entry that keeps the medium's length
length-media : (s : Setting) (i : ℕ) (e : Entry) (past : List Entry) →
    length (medium_after s e.event (media s i past)) ≡ length (media s i past) → length (media s i (e ∷ past)) ≡ length (media s i past)
length-media s i e past h = chosen_length (e.lock == i + 1) (medium_after s e.event (media s i past)) (media s i past) h

-- bytes of a task's length, put or folded over its rows, keep the medium's length
rows-put : (s : Setting) (task : Task) (old bytes : List ℕ) → IsTask s task → length old ≡ rows_of s.geometry * s.geometry.block →
    length bytes ≡ task_bytes s task → length (put old (task.row * s.geometry.block) bytes) ≡ length old
rows-put s task old bytes sound size e =
    length-put old (task.row * s.geometry.block) bytes (omega (arith, rows-fit_bytes s task sound))

rows-folded : (s : Setting) (task : Task) (old bytes : List ℕ) → IsTask s task → length old ≡ rows_of s.geometry * s.geometry.block →
    length bytes ≡ task_bytes s task → length (xor (slice old (task.row * s.geometry.block) (length bytes)) bytes) ≡ task_bytes s task
rows-folded s task old bytes sound size e =
    let there : length (slice old (task.row * s.geometry.block) (length bytes)) ≡ length bytes =
    length-slice old (task.row * s.geometry.block) (length bytes) (omega (arith, rows-fit_bytes s task sound)) in
    length-xor (slice old (task.row * s.geometry.block) (length bytes)) bytes there ∙ there ∙ e

pub length-media-diffed : (s : Setting) (past : List Entry) (task : Task) (diff : Cdb) → CanUpdate s past task → (i : ℕ) →
    length (media s i (diffed_past past task diff)) ≡ rows_of s.geometry * s.geometry.block
length-media-diffed s past task diff u i =
    length-media s i (diff_entry past task diff) (opened_past past task)
    (rows-put s task (media s i (opened_past past task)) task.bytes u.sound opened (update-task s past task u).1) ∙ opened
  where
    opened : length (media s i (opened_past past task)) ≡ rows_of s.geometry * s.geometry.block
    opened = ap length (media-quiet s i (open_entry past task) past (λ old. refl)) ∙ u.quiet.media_size i

pub length-media-taken : (s : Setting) (past : List Entry) (task : Task) (diff take : Cdb) → CanUpdate s past task → (i : ℕ) →
    length (media s i (taken_past s past task diff take)) ≡ rows_of s.geometry * s.geometry.block
length-media-taken s past task diff take u i =
    ap length (media-quiet s i (take_entry s past task take) (diffed_past past task diff) (λ old. refl)) ∙ length-media-diffed s past task diff u i

pub update-media_size : (s : Setting) (past : List Entry) (task : Task) (diff take fold : Cdb) → CanUpdate s past task → (i : ℕ) →
    length (media s i (update_entries s past task diff take fold)) ≡ rows_of s.geometry * s.geometry.block
update-media_size s past task diff take fold u i =
    ap length (media-quiet s i (close_update_entry past task) (folded_past s past task diff take fold) (λ old. refl))
    ∙ length-media s i (fold_entry s past task fold) (taken_past s past task diff take)
    (rows-put s task old new u.sound size (rows-folded s task old (update_delta s past task) u.sound size (length-update_delta s past task u)))
    ∙ size
  where
    old : List ℕ
    old = media s i (taken_past s past task diff take)

    new : List ℕ
    new = xor (slice old (task.row * s.geometry.block) (length (update_delta s past task))) (update_delta s past task)

    size : length old ≡ rows_of s.geometry * s.geometry.block
    size = length-media-taken s past task diff take u i

-- the journal is quiet again
pub update-quiet : (s : Setting) (past : List Entry) (task : Task) (diff take fold : Cdb) → s.mode ≡ Supervised →
    Quiet s past → IsTask s task → task.kind ≡ Update → Quiet s (update_entries s past task diff take fold)
update-quiet s past task diff take fold supervised q sound kind = record {
  entries = update-calm s past task diff take fold q;
  stamped = (omega arith, (omega arith, (omega arith, (omega arith, (omega arith, q.stamped)))));
  none_open = update-none_open s past task diff take fold q.none_open;
  none_held = update-none_held s past task diff take fold q;
  media_size = update-media_size s past task diff take fold u;
}
  where
    u : CanUpdate s past task
    u = record { supervised = supervised; quiet = q; sound = sound; kind = kind }
