use Rattle.std.proofs.lemmas.Bool.Decides.{Decides-at}
use Rattle.run_check.proofs.EntryDecided.{may-decided}
use Rattle.run_check.proofs.entry.may_follow.Goals as goal

pub returns : goal.returns
returns c = Decides-at _ _ c.in_ok-follows.ensures (may-decided _ _ _)
