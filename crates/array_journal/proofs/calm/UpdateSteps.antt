-- What the entries of an update leave of the media.
use Rattle.std.proofs.Common.{◌≡◌, ℕ, ◌*◌, List, length, refl, ap, sym, ◌∙◌, arith}
use Rattle.std.specs.Prelude.{◌≢◌}
use Rattle.blocks_core.specs.Xor.{xor}
use Rattle.sbc_cdbs.specs.declared.descriptor.Cdb.{Cdb}
use Rattle.array_journal.specs.declared.entry.Entry.{Entry}
use Rattle.array_journal.specs.declared.setting.Setting.{Setting}
use Rattle.array_journal.specs.declared.task.Task.{Task}
use Rattle.blocks_core.specs.Lists.{slice, put}
use Rattle.array_journal.specs.Media.{media}
use Rattle.array_journal.specs.Serving.{open_entry, diff_entry, update_delta, take_entry, fold_entry, close_update_entry, update_entries}
use Rattle.array_journal.proofs.runs.Steps.{media-here, media-else, media-quiet}
use Rattle.array_journal.proofs.calm.Opening.{opened_past}
use Rattle.array_journal.proofs.calm.UpdateRuns.{diffed_past, taken_past, folded_past}

pub open-media : (s : Setting) (past : List Entry) (task : Task) (i : ℕ) → media s i (opened_past past task) ≡ media s i past
open-media s past task i = media-quiet s i (open_entry past task) past (λ old. refl)

pub diff-medium : (s : Setting) (past : List Entry) (task : Task) (diff : Cdb) →
    media s task.target (diffed_past past task diff) ≡ put (media s task.target past) (task.row * s.geometry.block) task.bytes
diff-medium s past task diff =
    media-here s task.target (diff_entry past task diff) (opened_past past task) refl
    ∙ ap (λ m. put m (task.row * s.geometry.block) task.bytes) (open-media s past task task.target)

pub diff-other : (s : Setting) (past : List Entry) (task : Task) (diff : Cdb) (i : ℕ) → i ≢ task.target →
    media s i (diffed_past past task diff) ≡ media s i past
diff-other s past task diff i other =
    media-else s i (diff_entry past task diff) (opened_past past task) (λ e. other (omega arith)) ∙ open-media s past task i

pub take-media : (s : Setting) (past : List Entry) (task : Task) (diff take : Cdb) (i : ℕ) →
    media s i (taken_past s past task diff take) ≡ media s i (diffed_past past task diff)
take-media s past task diff take i = media-quiet s i (take_entry s past task take) (diffed_past past task diff) (λ old. refl)

-- the parity of the task's rows with its delta
abbrev pub folded : Setting → List Entry → Task → List ℕ
folded s past task =
    xor (slice (media s task.parity past) (task.row * s.geometry.block) (length (update_delta s past task))) (update_delta s past task)

pub fold-medium : (s : Setting) (past : List Entry) (task : Task) (diff take fold : Cdb) → task.target ≢ task.parity →
    media s task.parity (folded_past s past task diff take fold)
    ≡ put (media s task.parity past) (task.row * s.geometry.block) (folded s past task)
fold-medium s past task diff take fold other =
    media-here s task.parity (fold_entry s past task fold) (taken_past s past task diff take) refl
    ∙ ap (λ m. put m (task.row * s.geometry.block)
    (xor (slice m (task.row * s.geometry.block) (length (update_delta s past task))) (update_delta s past task)))
    (take-media s past task diff take task.parity ∙ diff-other s past task diff task.parity (λ e. other (sym e)))

pub fold-other : (s : Setting) (past : List Entry) (task : Task) (diff take fold : Cdb) (i : ℕ) → i ≢ task.parity →
    media s i (folded_past s past task diff take fold) ≡ media s i (diffed_past past task diff)
fold-other s past task diff take fold i other =
    media-else s i (fold_entry s past task fold) (taken_past s past task diff take) (λ e. other (omega arith)) ∙ take-media s past task diff take i

pub close-media : (s : Setting) (past : List Entry) (task : Task) (diff take fold : Cdb) (i : ℕ) →
    media s i (update_entries s past task diff take fold) ≡ media s i (folded_past s past task diff take fold)
close-media s past task diff take fold i =
    media-quiet s i (close_update_entry past task) (folded_past s past task diff take fold) (λ old. refl)
