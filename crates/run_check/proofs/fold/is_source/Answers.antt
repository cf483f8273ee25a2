use Rattle.std.proofs.Common.{sym, ap, ◌+◌, ◌∙◌}
use Rattle.run_check.proofs.KeptDeltas.{source-kept}
use Rattle.run_check.proofs.fold.is_source.Goals as goal

pub returns : goal.returns
returns c = λ task target.
    c.is_kept_source.ensures
    ∙ source-kept c.args.context.now.setting.now c.args.context.now.past.now c.args.deltas.now c.args.fields.now.command task c.args.name c.args.fields.now.bytes.now
    c.requires.deltas (c.requires.at ∙ ap (λ n. n + 1) (sym target))
