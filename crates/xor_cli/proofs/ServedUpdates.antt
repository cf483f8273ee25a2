-- A controller that served an update.
use Rattle.std.proofs.Common.{◌≡◌, ◌≢◌, ℕ, ◌+◌, ◌*◌, ◌<◌, List, [], ◌∷◌, length, reverse, refl, ap, sym, ◌∙◌, subst, arith, add-one, inl, inr}
use Rattle.std.proofs.lemmas.Bool.{cases_eq}
use Rattle.blocks_core.specs.Xor.{xor}
use Rattle.sbc_cdbs.specs.declared.descriptor.Cdb.{Cdb}
use Rattle.sbc_cdbs.specs.Cdbs.{cdb_bytes, SpellsCdb}
use Rattle.array_journal.specs.declared.at.At.{At}
use Rattle.array_journal.specs.declared.entry.Entry.{Entry}
use Rattle.array_journal.specs.declared.setting.Setting.{Setting}
use Rattle.array_journal.specs.declared.task.Task.{Task}
use Rattle.array_journal.specs.declared.task.Kind.TheVariants.{Update}
use Rattle.blocks_core.specs.Lists.{slice, put}
use Rattle.array_journal.specs.Commands.{open_count}
use Rattle.array_journal.specs.declared.act.Act.TheVariants.{Diffs, Takes, Folds}
use Rattle.array_journal.specs.Acts.{cdb_of}
use Rattle.array_journal.specs.Media.{media}
use Rattle.array_journal.specs.Calm.{Calm}
use Rattle.array_journal.specs.Serving.{update_entries, update_delta}
use Rattle.array_journal.proofs.calm.UpdateSteps.{diff-medium, diff-other, fold-medium, fold-other, close-media}
use Rattle.array_journal.proofs.calm.UpdateRuns.{CanUpdate, update-task, length-update_delta}
use Rattle.array_journal.proofs.calm.UpdateQuiet.{update-count}
use Rattle.array_journal.proofs.sums.LayoutLaws.{parity_of-below}
use Rattle.array_journal.proofs.calm.CalmServed.{calm-update}
use Rattle.xor_cli.specs.Arrays.{Array}
use Rattle.xor_cli.specs.Disks.{Disk, disk_of}
use Rattle.xor_cli.specs.Serving.{next_at}
use Rattle.xor_cli.specs.Rest.{HasMedia, IsRest, IsAtRest, IsServable, IsServed}
use Rattle.xor_cli.proofs.Updates.{opened_journal, diffed_journal, taken_journal, folded_journal, closed_journal, update-appended, updated_disks, length-updated, updated-target, updated-other, updated-parity}

-- the media of the entries of an update are those of the disks
updated-media : (s : Setting) (disks : List Disk) (past : List Entry) (task : Task) (diff take fold : Cdb) → HasMedia s disks past → CanUpdate s past task →
    task.parity < s.geometry.targets → (i : ℕ) → i < s.geometry.targets →
    (disk_of (updated_disks disks task.target task.parity (task.row * s.geometry.block) task.bytes (update_delta s past task)) i).medium
    ≡ media s i (update_entries s past task diff take fold)
updated-media s disks past task diff take fold has can below i h =
    let other : task.target ≢ task.parity = (update-task s past task can).0 in
    let other' : task.parity ≢ task.target = λ e. other (sym e) in
    let delta : List ℕ = update_delta s past task in
    let at : ℕ = task.row * s.geometry.block in
    let D : List Disk = updated_disks disks task.target task.parity at task.bytes delta in
    let M : ℕ → List ℕ = λ j. media s j (update_entries s past task diff take fold) in
    let written : (disk_of D task.target).medium ≡ M task.target =
    updated-target disks task.target task.parity at task.bytes delta (omega (arith, has.count, can.sound.target)) other
    ∙ ap (λ m. put m at task.bytes) (has.media task.target can.sound.target)
    ∙ sym (close-media s past task diff take fold task.target ∙ fold-other s past task diff take fold task.target other ∙ diff-medium s past task diff) in
    let len : length delta ≡ length task.bytes = length-update_delta s past task can ∙ sym (update-task s past task can).1 in
    let parity : (disk_of D task.parity).medium ≡ M task.parity =
    updated-parity disks task.target task.parity at task.bytes delta (omega (arith, has.count, below)) other'
    ∙ ap (λ m. put m at (xor (slice m at (length delta)) delta)) (has.media task.parity below)
    ∙ sym (close-media s past task diff take fold task.parity ∙ fold-medium s past task diff take fold other) in
    elim (cases_eq i task.target) as (λ x. (disk_of D i).medium ≡ M i) [
      | inl e ↦ subst (λ (j : ℕ). (disk_of D j).medium ≡ M j) (sym e) written
      | inr n ↦ elim (cases_eq i task.parity) as (λ x. (disk_of D i).medium ≡ M i) [
        | inl e ↦ subst (λ (j : ℕ). (disk_of D j).medium ≡ M j) (sym e) parity
        | inr k ↦ updated-other disks task.target task.parity at i task.bytes delta n k ∙ has.media i h
            ∙ sym (close-media s past task diff take fold i ∙ fold-other s past task diff take fold i k ∙ diff-other s past task diff i n)
      ]
    ]

-- the steps of a controller are those of an update
pub record IsUpdated (old new : Array) (task : Task) (diff take fold : Cdb) (j1 j2 j3 j4 : List Entry) (differed taken folded : At) (delta : List ℕ) : Type 0 where
  pub setting : new.setting ≡ old.setting
  pub commands : new.commands ≡ old.commands + 1
  pub opening : j1 ≡ opened_journal old.journal old.commands task
  pub diffing : j2 ≡ diffed_journal j1 old.commands (next_at old.journal 0) task diff
  pub taking : j3 ≡ taken_journal j2 old.commands (next_at old.journal 0) task take delta
  pub folding : j4 ≡ folded_journal j3 old.commands (next_at old.journal 0) task fold delta taken
  pub closing : new.journal ≡ closed_journal j4 old.commands (differed ∷ taken ∷ folded ∷ [])
  pub differed_at : differed ≡ next_at j1 (task.target + 1)
  pub taken_at : taken ≡ next_at j2 (task.target + 1)
  pub folded_at : folded ≡ next_at j3 (task.parity + 1)
  pub delta_is : delta ≡ update_delta old.setting (reverse old.journal) task
  pub disks : new.disks ≡ updated_disks old.disks task.target task.parity (task.row * old.setting.geometry.block) task.bytes delta

pub record AreSpelt (s : Setting) (task : Task) (diff take fold : Cdb) : Type 0 where
  pub diffs : SpellsCdb (cdb_bytes diff) (cdb_of s task 0 Diffs)
  pub takes : SpellsCdb (cdb_bytes take) (cdb_of s task 0 Takes)
  pub folds : SpellsCdb (cdb_bytes fold) (cdb_of s task 0 Folds)

-- the controller is at rest again
pub update-served : (old new : Array) (task : Task) (diff take fold : Cdb) (j1 j2 j3 j4 : List Entry) (differed taken folded : At) (delta : List ℕ) →
    IsAtRest old → IsServable old.setting task → task.kind ≡ Update → AreSpelt old.setting task diff take fold →
    IsUpdated old new task diff take fold j1 j2 j3 j4 differed taken folded delta → IsServed old new task
update-served old new task diff take fold j1 j2 j3 j4 differed taken folded delta rest can kind spelt u =
    let s : Setting = old.setting in
    let past : List Entry = reverse old.journal in
    let entries : reverse new.journal ≡ update_entries s past task diff take fold =
    update-appended s old.journal j1 j2 j3 j4 new.journal task diff take fold old.commands (next_at old.journal 0) differed taken folded delta
    u.opening u.diffing u.taking u.folding u.closing rest.counted refl u.differed_at u.taken_at u.folded_at u.delta_is in
    let able : CanUpdate s past task = record { supervised = rest.supervised; quiet = rest.calm.quiet; sound = can.sound; kind = kind } in
    let below : task.parity < s.geometry.targets =
    let P : ℕ → Type 0 = λ p. p < s.geometry.targets in subst P (sym can.sound.parity) (parity_of-below s task.stripe rest.setting) in
    let calm : Calm s (update_entries s past task diff take fold) =
    calm-update s past task diff take fold rest.setting rest.supervised rest.calm can.sound kind can.fits spelt.diffs spelt.takes spelt.folds in
    let counted : old.commands + 1 ≡ open_count (update_entries s past task diff take fold) =
    ap (λ n. n + 1) rest.counted ∙ add-one (open_count past) ∙ sym (update-count s past task diff take fold) in
    let has : HasMedia s (updated_disks old.disks task.target task.parity (task.row * s.geometry.block) task.bytes (update_delta s past task)) (update_entries s past task diff take fold) = record {
      count = length-updated old.disks task.target task.parity (task.row * s.geometry.block) task.bytes (update_delta s past task) ∙ rest.targets.count;
      media = updated-media s old.disks past task diff take fold rest.targets able below;
    } in
    let C : Setting → List Entry → Type 0 = λ t es. Calm t es in
    let H : Setting → List Disk → List Entry → Type 0 = λ t ds es. HasMedia t ds es in
    let disks : new.disks ≡ updated_disks old.disks task.target task.parity (task.row * s.geometry.block) task.bytes (update_delta s past task) =
    u.disks ∙ ap (updated_disks old.disks task.target task.parity (task.row * s.geometry.block) task.bytes) u.delta_is in
    let resting : IsRest s new.commands new.journal new.disks = record {
      setting = rest.setting;
      supervised = rest.supervised;
      calm = subst (C s) (sym entries) calm;
      counted = u.commands ∙ counted ∙ ap open_count (sym entries);
      targets = subst (H s new.disks) (sym entries) (subst (λ (ds : List Disk). HasMedia s ds (update_entries s past task diff take fold)) (sym disks) has);
    } in
    record {
      rest = subst (λ (t : Setting). IsRest t new.commands new.journal new.disks) (sym u.setting) resting;
      setting = u.setting;
      answered = inr (diff, (take, (fold, entries)));
    }
