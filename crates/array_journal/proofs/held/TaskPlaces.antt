-- The rows of a task are rows of the medium.
use Rattle.std.specs.Prelude.{◌≤◌, ◌+◌, ◌*◌}
use Rattle.std.proofs.Common.{arith}
use Rattle.std.proofs.Math.Nat.{mul-le-mul_right, add-mul}
use Rattle.stripe_layout.specs.Layout.{rows_of}
use Rattle.stripe_layout.proofs.StripeLaws.{stripe-below}
use Rattle.array_journal.specs.declared.setting.Setting.{Setting}
use Rattle.array_journal.specs.declared.task.Task.{Task}
use Rattle.array_journal.specs.Acts.{task_bytes}
use Rattle.array_journal.specs.May.{IsTask}

-- the rows of a task are rows of the targets
pub rows-fit : (s : Setting) (task : Task) → IsTask s task → task.row + task.count ≤ rows_of s.geometry
rows-fit s task h = omega (arith, h.to_stripe, stripe-below s.geometry task.stripe h.in_array)

-- its bytes are bytes of the medium
pub rows-fit_bytes : (s : Setting) (task : Task) → IsTask s task →
    task.row * s.geometry.block + task_bytes s task ≤ rows_of s.geometry * s.geometry.block
rows-fit_bytes s task h =
    let part : (task.row + task.count) * s.geometry.block ≤ rows_of s.geometry * s.geometry.block =
    mul-le-mul_right s.geometry.block (rows-fit s task h) in
    omega (arith, add-mul task.row task.count s.geometry.block)
