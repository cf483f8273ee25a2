use Rattle.std.proofs.Common.{◌≡◌, ◌-◌, drop, take, length, false}
use Rattle.std.specs.List.{AllByRecursion}
use Rattle.xor_buffers.specs.Runs.{blocks_in, run_holds}
use Rattle.xor_buffers.proofs.buffer.table.find_in.Given as goal

abbrev pub invariant-loop-done : goal.invariant-loop-done
invariant-loop-done l =
    (l.front ≡ blocks_in (take l.done l.runs)) × (l.at ≡ blocks_in (take (length l.runs - l.done) l.runs)) × AllByRecursion (λ e. run_holds l.row l.count e ≡ false) (drop (length l.runs - l.done) l.runs)
