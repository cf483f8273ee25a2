use Rattle.std.proofs.Common.{◌++◌, ◌+◌, List, take, drop, ap, sym, ◌∙◌}
use Rattle.xor_buffers.specs.declared.buffer.table.Run.{Run}
use Rattle.xor_buffers.proofs.TableSteps.{replaced, rest-before}
use Rattle.xor_buffers.proofs.buffer.table.cut_end.Goals as goal

pub returns-else-start-eq0-clause-items : goal.returns-else-start-eq0-clause-items
returns-else-start-eq0-clause-items c =
    replaced c.args.runs.now.items c.args.index (record { owner = c.args.run.owner; row = c.args.run.row; count = c.args.start }) c.requires.inside
    ∙ ap (λ (l : List Run). take c.args.index c.args.runs.now.items ++ (l ++ drop (c.args.index + 1) c.args.runs.now.items))
    (sym (rest-before c.args.start c.args.run c.if-start-eq0.false))
