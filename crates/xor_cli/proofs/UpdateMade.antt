-- What the steps of an update come to.
use Rattle.std.proofs.lemmas.List.{length-set}
use Rattle.std.proofs.Common.{◌≡◌, ◌≢◌, ℕ, ◌+◌, ◌*◌, ◌<◌, ◌^◌, true, false, List, [], ◌∷◌, length, reverse, None, refl, ap, sym, ◌∙◌, subst, arith}
use Rattle.blocks_core.specs.Xor.{xor}
use Rattle.sbc_cdbs.specs.declared.descriptor.Cdb.{Cdb}
use Rattle.stripe_layout.specs.declared.mode.Mode.{Mode}
use Rattle.stripe_layout.specs.declared.mode.Mode.TheVariants.{Supervised}
use Rattle.array_journal.specs.declared.at.At.{At}
use Rattle.array_journal.specs.declared.event.Event.TheVariants.{Diff, Take, Fold, Close}
use Rattle.array_journal.specs.declared.setting.Setting.{Setting}
use Rattle.array_journal.specs.declared.task.Task.{Task}
use Rattle.array_journal.specs.declared.task.Kind.TheVariants.{Update}
use Rattle.blocks_core.specs.Lists.{slice}
use Rattle.stripe_layout.specs.Layout.{parity_of}
use Rattle.sbc_cdbs.specs.Cdbs.{Fits}
use Rattle.array_journal.specs.declared.act.Act.TheVariants.{Diffs}
use Rattle.array_journal.specs.Acts.{task_bytes, diff_command, cdb_of}
use Rattle.array_journal.specs.May.{IsTask}
use Rattle.array_journal.specs.Serving.{update_delta}
use Rattle.array_journal.proofs.calm.UpdateRuns.{CanUpdate, update-task, length-update_delta}
use Rattle.array_journal.proofs.sums.LayoutLaws.{parity_of-below}
use Rattle.xor_cli.specs.Arrays.{Array}
use Rattle.xor_cli.specs.declared.array.controller.Served.{Served}
use Rattle.xor_cli.specs.Disks.{Disk, disk_of, IsOnDisk, with_diff, with_take, with_fold}
use Rattle.xor_cli.specs.Serving.{next_at, with_next}
use Rattle.xor_cli.specs.Rest.{IsAtRest, IsServable}
use Rattle.xor_cli.proofs.ServedReads.{served_of, opened, closed}
use Rattle.xor_cli.proofs.ServedUpdates.{IsUpdated}
use Rattle.xor_cli.proofs.Updates.{disk-same, disk-other}
use Rattle.xor_cli.proofs.TaskRanges.{rows-on_disk}

-- the opening, the diff and the take of an update
pub record IsTaken (old m1 m2 m3 : Array) (task : Task) (v : Served) (diff take : Cdb) (bytes delta : List ℕ) (differed taken : At) : Type 0 where
  pub served : v ≡ served_of old task
  pub opening : m1 ≡ opened old task
  pub blocks : bytes ≡ task.bytes
  pub differed_at : differed ≡ next_at m1.journal (task.target + 1)
  pub diffed : m2 ≡ record m1 {
    journal = with_next m1.journal (task.target + 1) (Diff v.command v.opened diff v.row bytes false false false);
    disks = with_diff m1.disks task.target (v.row * m1.setting.geometry.block) bytes;
  }
  pub taken_at : taken ≡ next_at m2.journal (task.target + 1)
  pub delta_is : delta ≡ (disk_of m2.disks task.target).held
  pub taken_out : m3 ≡ record m2 {
    journal = with_next m2.journal (task.target + 1) (Take v.command v.opened take v.row (disk_of m2.disks task.target).held);
    disks = with_take m2.disks task.target;
  }

pub able : (old : Array) (task : Task) → IsAtRest old → IsServable old.setting task → task.kind ≡ Update → CanUpdate old.setting (reverse old.journal) task
able old task rest can kind = record { supervised = rest.supervised; quiet = rest.calm.quiet; sound = can.sound; kind = kind }

pub parity-below : (s : Setting) (task : Task) (old : Array) → s ≡ old.setting → IsAtRest old → IsTask s task → task.parity < s.geometry.targets
parity-below s task old e rest sound =
    let P : ℕ → Type 0 = λ p. p < s.geometry.targets in
    subst P (sym sound.parity) (subst (λ (t : Setting). parity_of t.geometry task.stripe < t.geometry.targets) (sym e) (parity_of-below old.setting task.stripe rest.setting))

-- the data target has the rows of the diff
pub diff-on_disk : (old m : Array) (task : Task) (v : Served) (bytes : List ℕ) → IsAtRest old → IsServable old.setting task → task.kind ≡ Update →
    v ≡ served_of old task → m ≡ opened old task → bytes ≡ task.bytes → IsOnDisk m.disks task.target (v.row * m.setting.geometry.block) (length bytes)
diff-on_disk old m task v bytes rest can kind hv hm hb =
    let on_disk : IsOnDisk old.disks task.target (task.row * old.setting.geometry.block) (task_bytes old.setting task) =
    rows-on_disk old task task.target rest can.sound can.sound.target in
    let len : task_bytes old.setting task ≡ length bytes = sym (ap length hb ∙ (update-task old.setting (reverse old.journal) task (able old task rest can kind)).1) in
    let P : Array → Type 0 = λ x. IsOnDisk x.disks task.target (v.row * x.setting.geometry.block) (length bytes) in
    let Q : Served → Type 0 = λ w. IsOnDisk old.disks task.target (w.row * old.setting.geometry.block) (length bytes) in
    let R : ℕ → Type 0 = λ n. IsOnDisk old.disks task.target (task.row * old.setting.geometry.block) n in
    subst P (sym hm) (subst Q (sym hv) (subst R len on_disk))

-- what was taken is the update's delta
pub taken-delta : (old m1 m2 m3 : Array) (task : Task) (v : Served) (diff take : Cdb) (bytes delta : List ℕ) (differed taken : At) →
    IsAtRest old → IsServable old.setting task → task.kind ≡ Update → IsTaken old m1 m2 m3 task v diff take bytes delta differed taken →
    delta ≡ update_delta old.setting (reverse old.journal) task
taken-delta old m1 m2 m3 task v diff take bytes delta differed taken rest can kind t =
    let on_disk : IsOnDisk old.disks task.target (task.row * old.setting.geometry.block) (task_bytes old.setting task) =
    rows-on_disk old task task.target rest can.sound can.sound.target in
    let D : Served → List ℕ → Array → List Disk = λ w bs m. with_diff m.disks task.target (w.row * m.setting.geometry.block) bs in
    let diffed : m2.disks ≡ D (served_of old task) task.bytes (opened old task) =
    ap (λ (m : Array). m.disks) t.diffed ∙ ap (λ w. D w bytes m1) t.served ∙ ap (λ bs. D (served_of old task) bs m1) t.blocks ∙ ap (D (served_of old task) task.bytes) t.opening in
    t.delta_is
    ∙ ap (λ (ds : List Disk). (disk_of ds task.target).held) diffed
    ∙ ap (λ (d : Disk). d.held) (disk-same old.disks task.target _ on_disk.0)
    ∙ ap (λ m. xor (slice m (task.row * old.setting.geometry.block) (length task.bytes)) task.bytes) (rest.targets.media task.target can.sound.target)

pub same_setting : (old m1 m2 m3 : Array) (task : Task) (v : Served) (diff take : Cdb) (bytes delta : List ℕ) (differed taken : At) →
    IsTaken old m1 m2 m3 task v diff take bytes delta differed taken → m3.setting ≡ old.setting
same_setting old m1 m2 m3 task v diff take bytes delta differed taken t =
    ap (λ (m : Array). m.setting) t.taken_out ∙ ap (λ (m : Array). m.setting) t.diffed ∙ ap (λ (m : Array). m.setting) t.opening

-- the disks after the take
taken-disks : (old m1 m2 m3 : Array) (task : Task) (v : Served) (diff take : Cdb) (bytes delta : List ℕ) (differed taken : At) →
    IsTaken old m1 m2 m3 task v diff take bytes delta differed taken →
    m3.disks ≡ with_take (with_diff old.disks task.target (task.row * old.setting.geometry.block) task.bytes) task.target
taken-disks old m1 m2 m3 task v diff take bytes delta differed taken t =
    let D : Served → List ℕ → Array → List Disk = λ w bs m. with_diff m.disks task.target (w.row * m.setting.geometry.block) bs in
    ap (λ (m : Array). m.disks) t.taken_out ∙ ap (λ (ds : List Disk). with_take ds task.target)
    (ap (λ (m : Array). m.disks) t.diffed ∙ ap (λ w. D w bytes m1) t.served ∙ ap (λ bs. D (served_of old task) bs m1) t.blocks ∙ ap (D (served_of old task) task.bytes) t.opening)

-- the parity target has the rows of the fold
pub fold-on_disk : (old m1 m2 m3 : Array) (task : Task) (v : Served) (diff take : Cdb) (bytes delta : List ℕ) (differed taken : At) →
    IsAtRest old → IsServable old.setting task → task.kind ≡ Update → IsTaken old m1 m2 m3 task v diff take bytes delta differed taken →
    IsOnDisk m3.disks task.parity (v.row * m3.setting.geometry.block) (length delta)
fold-on_disk old m1 m2 m3 task v diff take bytes delta differed taken rest can kind t =
    let can_update : CanUpdate old.setting (reverse old.journal) task = able old task rest can kind in
    let other : task.parity ≢ task.target = λ e. (update-task old.setting (reverse old.journal) task can_update).0 (sym e) in
    let below : task.parity < old.setting.geometry.targets = parity-below old.setting task old refl rest can.sound in
    let on_disk : IsOnDisk old.disks task.parity (task.row * old.setting.geometry.block) (task_bytes old.setting task) =
    rows-on_disk old task task.parity rest can.sound below in
    let len : length delta ≡ task_bytes old.setting task =
    ap length (taken-delta old m1 m2 m3 task v diff take bytes delta differed taken rest can kind t)
    ∙ length-update_delta old.setting (reverse old.journal) task can_update in
    let first : List Disk = with_diff old.disks task.target (task.row * old.setting.geometry.block) task.bytes in
    let disks : m3.disks ≡ with_take first task.target = taken-disks old m1 m2 m3 task v diff take bytes delta differed taken t in
    let same : disk_of (with_take first task.target) task.parity ≡ disk_of old.disks task.parity =
    disk-other first task.target task.parity _ other ∙ disk-other old.disks task.target task.parity _ other in
    let size : length (with_take first task.target) ≡ length old.disks = length-set first task.target _ ∙ length-set old.disks task.target _ in
    let medium : length (disk_of (with_take first task.target) task.parity).medium ≡ length (disk_of old.disks task.parity).medium =
    ap (λ (d : Disk). length d.medium) same in
    let there : IsOnDisk (with_take first task.target) task.parity (task.row * old.setting.geometry.block) (length delta) =
    (omega (arith, on_disk.0), omega (arith, on_disk.1)) in
    let P : Setting → ℕ → List Disk → Type 0 = λ s row ds. IsOnDisk ds task.parity (row * s.geometry.block) (length delta) in
    subst (λ (s : Setting). P s v.row m3.disks) (sym (same_setting old m1 m2 m3 task v diff take bytes delta differed taken t))
    (subst (λ row. P old.setting row m3.disks) (sym (ap (λ (w : Served). w.row) t.served)) (subst (P old.setting task.row) (sym disks) there))

-- the fold and the close of an update
pub record IsFinished (m3 m4 new : Array) (task : Task) (v : Served) (fold : Cdb) (delta : List ℕ) (differed taken folded : At) (names : List At) : Type 0 where
  pub folded_at : folded ≡ next_at m3.journal (task.parity + 1)
  pub folded_in : m4 ≡ record m3 {
    journal = with_next m3.journal (task.parity + 1) (Fold v.command v.opened fold v.row delta (taken ∷ []));
    disks = with_fold m3.disks task.parity (v.row * m3.setting.geometry.block) delta;
  }
  pub named : names ≡ differed ∷ taken ∷ folded ∷ []
  pub closing : new ≡ closed m4 v names

pub update-made : (old m1 m2 m3 m4 new : Array) (task : Task) (v : Served) (diff take fold : Cdb) (bytes delta : List ℕ) (differed taken folded : At) (names : List At) →
    IsAtRest old → IsServable old.setting task → task.kind ≡ Update → IsTaken old m1 m2 m3 task v diff take bytes delta differed taken →
    IsFinished m3 m4 new task v fold delta differed taken folded names →
    IsUpdated old new task diff take fold m1.journal m2.journal m3.journal m4.journal differed taken folded delta
update-made old m1 m2 m3 m4 new task v diff take fold bytes delta differed taken folded names rest can kind t f =
    let hc : v.command ≡ old.commands = ap (λ (w : Served). w.command) t.served in
    let ho : v.opened ≡ next_at old.journal 0 = ap (λ (w : Served). w.opened) t.served in
    let hr : v.row ≡ task.row = ap (λ (w : Served). w.row) t.served in
    let hb : bytes ≡ task.bytes = t.blocks in
    let hd : delta ≡ (disk_of m2.disks task.target).held = t.delta_is in
    let hn : names ≡ differed ∷ taken ∷ folded ∷ [] = f.named in
    let h2 : m2.journal ≡ with_next m1.journal (task.target + 1) (Diff v.command v.opened diff v.row bytes false false false) = ap (λ (m : Array). m.journal) t.diffed in
    let h3 : m3.journal ≡ with_next m2.journal (task.target + 1) (Take v.command v.opened take v.row (disk_of m2.disks task.target).held) = ap (λ (m : Array). m.journal) t.taken_out in
    let h4 : m4.journal ≡ with_next m3.journal (task.parity + 1) (Fold v.command v.opened fold v.row delta (taken ∷ [])) = ap (λ (m : Array). m.journal) f.folded_in in
    let setting : m3.setting ≡ old.setting = same_setting old m1 m2 m3 task v diff take bytes delta differed taken t in
    record {
      setting = ap (λ (m : Array). m.setting) f.closing ∙ ap (λ (m : Array). m.setting) f.folded_in ∙ setting;
      commands = ap (λ (m : Array). m.commands) f.closing ∙ ap (λ (m : Array). m.commands) f.folded_in ∙ ap (λ (m : Array). m.commands) t.taken_out ∙ ap (λ (m : Array). m.commands) t.diffed ∙ ap (λ (m : Array). m.commands) t.opening;
      opening = ap (λ (m : Array). m.journal) t.opening;
      diffing = cc;
      taking = cc;
      folding = cc;
      closing = ap (λ (m : Array). m.journal) f.closing ∙ ap (λ ns. with_next m4.journal 0 (Close v.command true ns None [])) hn
          ∙ ap (λ k. with_next m4.journal 0 (Close k true (differed ∷ taken ∷ folded ∷ []) None [])) hc;
      differed_at = t.differed_at;
      taken_at = t.taken_at;
      folded_at = f.folded_at;
      delta_is = taken-delta old m1 m2 m3 task v diff take bytes delta differed taken rest can kind t;
      disks = ap (λ (m : Array). m.disks) f.closing ∙ ap (λ (m : Array). m.disks) f.folded_in
          ∙ ap (λ (s : Setting). with_fold m3.disks task.parity (v.row * s.geometry.block) delta) setting
          ∙ ap (λ row. with_fold m3.disks task.parity (row * old.setting.geometry.block) delta) hr
          ∙ ap (λ (ds : List Disk). with_fold ds task.parity (task.row * old.setting.geometry.block) delta) (taken-disks old m1 m2 m3 task v diff take bytes delta differed taken t);
    }

-- in supervised mode the numbers of a diff's command fit where the task's do
pub diff-fits : (s : Setting) (task : Task) → s.mode ≡ Supervised → (task.row < 2 ^ 32) × (task.count < 2 ^ 16) → Fits (cdb_of s task 0 Diffs)
diff-fits s task supervised fits =
    let P : Mode → Type 0 = λ mode. Fits (diff_command mode task) in
    subst P (sym supervised) fits
