-- The calls of a script that can be run so far are served at once.
use Rattle.std.specs.Prelude.{◌/◌, ◌%◌}
use Rattle.std.proofs.Common.{◌≡◌, ◌≢◌, ℕ, suc, ◌+◌, ◌*◌, ◌<◌, ◌≤◌, List, [], ◌∷◌, length, refl, ap, sym, ◌∙◌, subst, arith, add-zero, get_or, zero, replicate}
use Rattle.std.specs.List.{AllByRecursion}
use Rattle.std.proofs.lemmas.List.{get_or-replicate, length-replicate}
use Rattle.blocks_core.specs.Xor.{zeros}
use Rattle.std.proofs.lemmas.Nat.{div-add-mod'}
use Rattle.stripe_layout.specs.declared.geometry.Geometry.{Geometry}
use Rattle.stripe_layout.specs.Layout.{rows_of, capacity_of, stripe_of, unit_of, target_of, parity_of, room_in_unit}
use Rattle.host_scripts.specs.declared.script.Script.{Script}
use Rattle.host_scripts.specs.declared.script.Call.{Call}
use Rattle.host_scripts.specs.declared.script.Action.{Action}
use Rattle.host_scripts.specs.declared.script.Action.TheVariants as actions
use Rattle.host_scripts.specs.Scripts.{IsScript, IsCall, IsAction}
use Rattle.array_journal.specs.declared.setting.Setting.{Setting}
use Rattle.array_journal.specs.declared.task.Kind.{Kind}
use Rattle.array_journal.specs.declared.task.Kind.TheVariants.{Read, Update}
use Rattle.array_journal.specs.May.{IsTask, IsTaskOfKind}
use Rattle.array_journal.specs.declared.entry.Entry.{Entry}
use Rattle.array_journal.specs.Run.{IsSetting}
use Rattle.array_journal.proofs.calm.CalmServed.{calm-none}
use Rattle.stripe_layout.proofs.PlaceLaws.{unit_of-below, offset-below, room-is, row_of-stripe}
use Rattle.stripe_layout.proofs.PlaceRuns.{most-room, target_of-below, target_of-other}
use Rattle.xor_cli.specs.Tasks.{task_at, CanServe}
use Rattle.xor_cli.proofs.Today.{CanRun, CanCall, CanDo}
use Rattle.xor_cli.specs.Disks.{Disk}
use Rattle.xor_cli.specs.Rest.{IsRest}
use Rattle.host_requests.specs.Settings.{setting_of}
use Rattle.xor_cli.specs.Headline.{IsStart}

-- what a task at a block of the array owes besides its kind
pub task-sound : (s : Setting) (number : ℕ) (kind : Kind) (lba count : ℕ) (bytes : List ℕ) → IsSetting s → lba < capacity_of s.geometry → 1 ≤ count →
    count ≤ room_in_unit s.geometry lba → IsTaskOfKind s (task_at s.geometry number kind lba count bytes) kind →
    IsTask s (task_at s.geometry number kind lba count bytes)
task-sound s number kind lba count bytes setting below some fits by_kind =
    let g : Geometry = s.geometry in
    let row = row_of-stripe g lba setting.array below in
    record {
      in_array = row.in_array;
      parity = refl;
      target = target_of-below g (stripe_of g lba) (unit_of g lba) setting.array (unit_of-below g lba setting.array below);
      some_rows = some;
      from_stripe = row.first;
      to_stripe = omega (arith, fits, room-is g lba setting.array below, offset-below g lba setting.array below);
      by_kind = by_kind;
    }

-- blocks in one unit fit in the buffer
unit-fits : (s : Setting) (lba count : ℕ) → IsSetting s → lba < capacity_of s.geometry → count ≤ room_in_unit s.geometry lba → count ≤ s.buffer
unit-fits s lba count setting below fits = omega (arith, fits, most-room s.geometry lba setting.array below, setting.least_buffer)

pub script_setting : (script : Script) → IsScript script → IsSetting (setting_of script)
script_setting script is = record { array = is.geometry; least_buffer = is.least_buffer; most_buffer = is.most_buffer }

-- a block's target isn't its parity target
target-apart : (script : Script) (lba : ℕ) → target_of script.geometry lba ≢ parity_of script.geometry (stripe_of script.geometry lba)
target-apart script lba = target_of-other script.geometry (stripe_of script.geometry lba) (unit_of script.geometry lba)

-- whole blocks are as many as their bytes have
pub whole-blocks : (len block : ℕ) → 0 < block → len % block ≡ 0 → len ≡ len / block * block
whole-blocks len block h k = sym (div-add-mod' len block) ∙ ap (λ r. len / block * block + r) k ∙ add-zero (len / block * block)

-- a read or a write of one piece can be served at once
pub can-serve : (script : Script) (number : ℕ) (action : Action) → IsScript script → IsAction script.geometry action → CanDo script action →
    CanServe (setting_of script) number action
can-serve script number (actions.Read lba count) is whole can = (
  omega (arith, can.within, can.some),
  record {
    sound = task-sound (setting_of script) number Read lba count [] (script_setting script is) (omega (arith, can.within, can.some)) can.some can.in_unit
        (target-apart script lba, refl);
    fits = unit-fits (setting_of script) lba count (script_setting script is) (omega (arith, can.within, can.some)) can.in_unit;
  },
)
can-serve script number (actions.Write lba bytes) is whole can =
    let blocks : length bytes ≡ length bytes / script.geometry.block * script.geometry.block =
    whole-blocks (length bytes) script.geometry.block is.geometry.least_block whole.2.0.1 in (
      omega (arith, can.within, can.some),
      record {
        sound = task-sound (setting_of script) number Update lba (length bytes / script.geometry.block) bytes (script_setting script is) (omega (arith, can.within, can.some))
            can.some can.in_unit (target-apart script lba, blocks);
        fits = unit-fits (setting_of script) lba (length bytes / script.geometry.block) (script_setting script is) (omega (arith, can.within, can.some)) can.in_unit;
      },
    )
can-serve script number _ is whole can = absurd can

-- what holds of each element holds of the one at a place
pub all-get_or : {X : Type 0} (P : X → Type 0) (xs : List X) (i : ℕ) (d : X) → AllByRecursion P xs → i < length xs → P (get_or xs i d)
all-get_or P [] i d h k = absurd (omega arith)
all-get_or P (x ∷ xs) zero d h k = h.0
all-get_or P (x ∷ xs) (suc i) d h k = all-get_or P xs i d h.1 (omega arith)

-- a call of such a script can be served at once
pub call-served : (script : Script) (s : Setting) (place number : ℕ) (call : Call) → CanRun script → s ≡ setting_of script →
    place < length script.calls → call ≡ get_or script.calls place call → CanServe s number call.action
call-served script s place number call can same below is =
    let C : Call → Type 0 = λ x. CanServe (setting_of script) number x.action in
    let x : Call = get_or script.calls place call in
    let own : CanCall script x = all-get_or (CanCall script) script.calls place call can.calls below in
    let spelt : IsCall script x = all-get_or (IsCall script) script.calls place call can.in_range.calls below in
    subst (λ (t : Setting). CanServe t number call.action) (sym same)
    (subst C (sym is) (can-serve script number x.action can.in_range spelt.1 own.1))

-- a controller that starts is at rest
pub start-rest : (s : Setting) (disks : List Disk) (journal : List Entry) → IsStart s →
    disks ≡ replicate s.geometry.targets (record { medium = zeros (rows_of s.geometry * s.geometry.block); held = [] }) → journal ≡ [] →
    IsRest s 0 journal disks
start-rest s disks journal start blank empty =
    let x : Disk = record { medium = zeros (rows_of s.geometry * s.geometry.block); held = [] } in
    let none : IsRest s 0 [] (replicate s.geometry.targets x) = record {
      setting = start.0;
      supervised = start.1;
      calm = calm-none s;
      counted = refl;
      targets = record {
        count = length-replicate s.geometry.targets x;
        media = λ i h. ap (λ (d : Disk). d.medium) (get_or-replicate s.geometry.targets i x (record { medium = []; held = [] }) h);
      };
    } in
    subst (λ (j : List Entry). IsRest s 0 j disks) (sym empty) (subst (λ (ds : List Disk). IsRest s 0 [] ds) (sym blank) none)
