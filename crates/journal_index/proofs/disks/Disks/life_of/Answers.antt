use Rattle.std.proofs.Common.{sym, ap, ◌∙◌, ◌+◌}
use Rattle.journal_index.proofs.DiskLaws.{life_of-disk}
use Rattle.journal_index.proofs.disks.Disks.life_of.Goals as goal

pub returns : goal.returns
returns c = λ past keeps. ap (λ d. d.life) (c.at.ensures ∙ keeps (c.args.target + 1)) ∙ sym (life_of-disk c.args.target past)
