use Rattle.std.proofs.Common.{refl}
use Rattle.stripe_check.proofs.reports.found_in.Goals as goal

pub returns : goal.returns
returns c = record {
  stands = c.in_ok-media.ensures;
  told = c.in_ok-story.ensures;
  lost = c.in_ok-losses.ensures c.args.setting.now refl (rw c.deref.ensures.value c.in_ok-story.ensures.commands);
}
