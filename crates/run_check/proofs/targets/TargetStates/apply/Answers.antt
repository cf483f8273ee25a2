use Rattle.run_check.proofs.KeptDeltas.{may-in-range}
use Rattle.run_check.proofs.targets.TargetStates.apply.Goals as goal

pub returns : goal.returns
returns c = λ past may states. record {
  of_media = c.in_ok-write_entry.ensures.ok past states.of_media;
  of_buffers = c.in_ok-hold_entry.ensures past (rw c.as_slice-before.ensures.value states.of_media) states.of_buffers;
  of_deltas = c.in_ok-add.ensures past (may-in-range c.args.setting.now past c.args.entry.now may) (rw c.as_slice-before.ensures.value states.of_media) states.of_deltas;
}
