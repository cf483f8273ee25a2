-- The rows of a plan's task fit the fields of the CDBs of its acts.
use Rattle.std.specs.Prelude.{◌≡◌, ◌&&◌, ◌+◌, ◌*◌, ◌^◌, ◌<◌, not, ℕ, Bool, true, false}
use Rattle.std.proofs.Common.{refl, sym, subst, ap, arith, cond}
use Rattle.stripe_layout.specs.declared.mode.Mode.{Mode}
use Rattle.stripe_layout.specs.declared.mode.Mode.TheVariants.{Supervised, ThirdParty, Readback}
use Rattle.stripe_layout.specs.Layout.{IsArray}
use Rattle.stripe_layout.specs.Modes.{target_gathers}
use Rattle.stripe_layout.proofs.StripeLaws.{most-rows, most-unit_rows, most-greatest, parity_of-below}
use Rattle.sbc_cdbs.specs.declared.commands.Command.TheVariants as sbc
use Rattle.sbc_cdbs.specs.Cdbs.{Fits}
use Rattle.array_journal.specs.declared.act.Act.{Act}
use Rattle.array_journal.specs.declared.act.Act.TheVariants.{Fetches, Puts, Diffs, Takes, Folds, Holds}
use Rattle.array_journal.specs.declared.setting.Setting.{Setting}
use Rattle.array_journal.specs.declared.task.Kind.{Kind}
use Rattle.array_journal.specs.declared.task.Kind.TheVariants.{Read, Update}
use Rattle.array_journal.specs.declared.task.Task.{Task}
use Rattle.array_journal.specs.Acts.{cdb_of, list_length, is_data_only, is_degraded_write, diff_command, task_bytes}
use Rattle.array_journal.specs.May.{IsTask}
use Rattle.array_journal.proofs.held.TaskPlaces.{rows-fit}
use Rattle.unit_plans.specs.Plans.{PlanState, IsPlan, IsPlanned, setting_of}

pub record AreSmall (task : Task) : Type 0 where
  pub row : task.row < 2 ^ 32
  pub count : task.count < 2 ^ 16
  pub parity : task.parity < 256

pub task-small : (s : Setting) (task : Task) → IsArray s.geometry → IsTask s task → AreSmall task
task-small s task array sound = record {
  row = omega (arith, sound.some_rows, rows-fit s task sound, most-rows s.geometry array);
  count = omega (arith, sound.from_stripe, sound.to_stripe, most-unit_rows s.geometry task.stripe sound.in_array, most-greatest s.geometry array);
  parity =
      let below = parity_of-below s.geometry task.stripe array in
      let few = array.most_targets in
      let is = sound.parity in omega (arith, below, few, is);
}

diff-fits : (mode : Mode) (task : Task) → AreSmall task → Fits (diff_command mode task)
diff-fits Supervised task small = (small.row, small.count)
diff-fits ThirdParty task small = let c = small.count in (small.row, small.row, omega arith, small.parity)
diff-fits Readback task small = (small.row, small.count)

-- a list of no sources is short, but for that of a degraded write, which isn't planned
list-short : (s : Setting) (task : Task) (mode : Mode) → IsPlanned mode task.kind → list_length s task 0 < 2 ^ 32
list-short s task mode planned = let e = plain task.kind planned in subst (λ (n : ℕ). n < 2 ^ 32) (sym (ap (λ (b : Bool). 4 + 16 * 0 + cond b (task_bytes s task) 0) e)) (omega arith)
  where
    plain : (kind : Kind) → IsPlanned mode kind → is_degraded_write kind ≡ false
    plain Read h = refl
    plain Update h = refl
    plain _ h = absurd h

put-fits : (s : Setting) (task : Task) (mode : Mode) → IsPlanned mode task.kind → AreSmall task → Fits (cdb_of s task 0 Puts)
put-fits s task mode planned small = by (target_gathers s.mode && not (is_data_only task.kind))
  where
    by : (b : Bool) → Fits (cond b (sbc.Rebuild false false (is_degraded_write task.kind) task.row task.count (list_length s task 0)) (sbc.Write false false task.row task.count))
    by true = let c = small.count in (small.row, omega arith, list-short s task mode planned)
    by false = (small.row, small.count)

act-fits : (s : Setting) (task : Task) (mode : Mode) (act : Act) → IsPlanned mode task.kind → AreSmall task → Fits (cdb_of s task 0 act)
act-fits s task mode Fetches planned small = (small.row, small.count)
act-fits s task mode Puts planned small = put-fits s task mode planned small
act-fits s task mode Diffs planned small = diff-fits s.mode task small
act-fits s task mode Takes planned small = (small.row, small.count)
act-fits s task mode Folds planned small = (small.row, small.count)
act-fits s task mode Holds planned small = let c = small.count in (small.row, omega arith, list-short s task mode planned)

pub plan-fits : (p : PlanState) (act : Act) → IsPlan p → Fits (cdb_of (setting_of p) p.task 0 act)
plan-fits p act plan = act-fits (setting_of p) p.task p.mode act plan.planned (task-small (setting_of p) p.task plan.array plan.sound)
