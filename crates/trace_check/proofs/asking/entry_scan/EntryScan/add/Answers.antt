use Rattle.std.proofs.Common.{refl}
use Rattle.std.proofs.lemmas.Bool.Decides.{Decides-and}
use Rattle.trace_check.proofs.StepsRead.{entry_steps-put}
use Rattle.trace_check.proofs.asking.entry_scan.EntryScan.add.Goals as goal

pub returns : goal.returns
returns c = λ before. record {
  entry_steps = entry_steps-put _ _ _ c.args.past.now c.args.entry.now c.in_ok-push.ensures.items c.entry_step_of-entry_step.ensures before.entry_steps;
  decided = rw c.both-self.ensures (Decides-and c.is_decided-decided.result _ c.is_decided-decided.ensures before.decided);
  owned = rw (c.both-self-2.ensures, c.is_owned-owned.ensures _ c.entry_step_of-entry_step.ensures.of_call, before.owned) refl;
}
