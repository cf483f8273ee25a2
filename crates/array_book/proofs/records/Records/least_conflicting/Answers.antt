use Rattle.std.specs.BTreeSet.{contains}
use Rattle.std.specs.Ordering.{nat_cmp}
use Rattle.std.proofs.Common.{sym, ◌∙◌}
use Rattle.array_book.specs.OpenIndexes.{conflicts_with}
use Rattle.array_book.proofs.Scans.{passed-over, left-sorted, first-least}
use Rattle.array_book.proofs.records.Records.least_conflicting.Goals as goal

pub returns-then-does_conflict : goal.returns-then-does_conflict
returns-then-does_conflict c =
    first-least (conflicts_with c.args.self.now c.args.task.now) (contains nat_cmp c.args.commands.now) c.loop-command.command-iterator c.next.new.self c.in-Some.command.now
    c.in-Some.ensures.steps c.loop-command.invariant.sorted c.loop-command.invariant.left (sym c.does_conflict.ensures ∙ c.if-does_conflict.true)

pub loop-command-preserved : goal.loop-command-preserved
loop-command-preserved c = record {
  sorted = left-sorted c.loop-command.command-iterator c.next.new.self c.in-Some.command.now c.in-Some.ensures.steps c.loop-command.invariant.sorted;
  left = passed-over (conflicts_with c.args.self.now c.args.task.now) (contains nat_cmp c.args.commands.now) c.loop-command.command-iterator c.next.new.self c.in-Some.command.now
      c.in-Some.ensures.steps (sym c.does_conflict.ensures ∙ c.if-does_conflict.false) c.loop-command.invariant.left;
}
