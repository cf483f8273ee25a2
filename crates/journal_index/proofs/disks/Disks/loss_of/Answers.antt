use Rattle.std.proofs.Common.{sym, ap, ◌∙◌, ◌+◌}
use Rattle.journal_index.proofs.DiskLaws.{loss_of-disk}
use Rattle.journal_index.proofs.disks.Disks.loss_of.Goals as goal

pub returns : goal.returns
returns c = λ past keeps. ap (λ d. d.loss) (c.at.ensures ∙ keeps (c.args.target + 1)) ∙ sym (loss_of-disk c.args.target past)
