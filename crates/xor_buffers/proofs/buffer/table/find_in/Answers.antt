use Rattle.std.proofs.Common.{◌≡◌, arith, false, sym, ◌∙◌}
use Rattle.xor_buffers.specs.declared.buffer.table.Run.{Run}
use Rattle.xor_buffers.specs.Runs.{run_holds}
use Rattle.xor_buffers.proofs.TableSteps.{behind-less, behind-more, blocks_in-more, front-inside, none-more, placed, placed-front}
use Rattle.xor_buffers.proofs.buffer.table.find_in.Goals as goal

abbrev none : Run
none = record { owner = 0; row = 0; count = 0 }

pub returns-then-contains : goal.returns-then-contains
returns-then-contains c =
    placed-front c.args.row c.args.count c.args.runs.now c.loop-done.done c.loop-done.front none c.loop-done-test.true c.loop-done.invariant.0
    (sym c.contains.ensures ∙ c.if-contains.true)

pub overflow_add-front : goal.overflow_add-front
overflow_add-front c =
    omega (arith, front-inside c.args.runs.now c.loop-done.done none c.loop-done-test.true, c.loop-done.invariant.0, c.requires.used)

pub overflow_sub-at : goal.overflow_sub-at
overflow_sub-at c = omega (arith, behind-more c.args.runs.now c.loop-done.done c.loop-done.at none c.loop-done-test.true c.loop-done.invariant.1)

pub returns-then-contains-2 : goal.returns-then-contains-2
returns-then-contains-2 c =
    placed c.args.row c.args.count c.args.runs.now c.loop-done.done c.loop-done.at none c.loop-done-test.true c.loop-done.invariant.1
    (sym c.contains-in-loop-done.ensures ∙ c.if-contains-2.true)

pub loop-done-preserved : goal.loop-done-preserved
loop-done-preserved c = (
  omega (arith, blocks_in-more c.args.runs.now c.loop-done.done none c.loop-done-test.true, c.loop-done.invariant.0),
  behind-less c.args.runs.now c.loop-done.done c.loop-done.at none c.loop-done-test.true c.loop-done.invariant.1,
  none-more (λ e. run_holds c.args.row c.args.count e ≡ false) c.args.runs.now c.loop-done.done none c.loop-done-test.true
      (sym c.contains-in-loop-done.ensures ∙ c.if-contains-2.false) c.loop-done.invariant.2,
)
