use Rattle.std.proofs.Common.{sym, ap, ◌∙◌, ◌+◌}
use Rattle.journal_index.specs.Disks.{reaches}
use Rattle.journal_index.proofs.DiskLaws.{swapped-disk}
use Rattle.journal_index.proofs.disks.Disks.is_swapped_since.Goals as goal

pub returns : goal.returns
returns c = λ past keeps.
    c.reaches.ensures
    ∙ ap (λ d. reaches d.swap c.args.opened.stamp) (c.at.ensures ∙ keeps (c.args.target + 1))
    ∙ sym (swapped-disk (c.args.target + 1) c.args.opened past)
