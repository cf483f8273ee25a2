use Rattle.std.proofs.Common.{sym, ap, ◌∙◌}
use Rattle.journal_index.specs.Stamps.{is_above}
use Rattle.journal_index.proofs.StampLaws.{below-greatest}
use Rattle.journal_index.proofs.stamps.Stamps.are_below.Goals as goal

pub returns : goal.returns
returns c = λ past keeps.
    c.is_above.ensures
    ∙ ap (λ o. is_above o c.args.stamp) (c.copied.ensures ∙ c.get.ensures.value ∙ keeps c.args.lock)
    ∙ sym (below-greatest c.args.lock c.args.stamp past)
