use Rattle.std.proofs.Common.{◌++◌, ◌+◌, ◌∷◌, [], List, take, drop, ap, sym, ◌∙◌}
use Rattle.xor_buffers.specs.declared.buffer.table.Run.{Run}
use Rattle.xor_buffers.proofs.TableSteps.{replaced, rest-behind}
use Rattle.xor_buffers.proofs.buffer.table.cut.Goals as goal

pub returns-then-start-eq0-clause-items : goal.returns-then-start-eq0-clause-items
returns-then-start-eq0-clause-items c =
    replaced c.args.runs.now.items c.args.index c.rest_behind.result c.requires.inside
    ∙ ap (λ (l : List Run). take c.args.index c.args.runs.now.items ++ (l ++ drop (c.args.index + 1) c.args.runs.now.items))
    (ap (λ (e : Run). e ∷ []) c.rest_behind.ensures ∙ sym (rest-behind c.args.start c.args.count c.args.run c.if-start-eq0.true c.if-behind-run.false))
