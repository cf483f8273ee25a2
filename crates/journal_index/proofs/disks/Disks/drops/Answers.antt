use Rattle.std.proofs.Common.{sym, ap, ◌∙◌, ◌+◌}
use Rattle.journal_index.proofs.DiskLaws.{drops-disk}
use Rattle.journal_index.proofs.disks.Disks.drops.Goals as goal

pub returns : goal.returns
returns c = λ past keeps. ap (λ d. d.drops) (c.at.ensures ∙ keeps (c.args.target + 1)) ∙ sym (drops-disk c.args.target past)
