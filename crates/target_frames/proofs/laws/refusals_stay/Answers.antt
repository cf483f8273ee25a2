use Rattle.std.proofs.Common.{None}
use Rattle.target_frames.proofs.Streams.{stays_refused}
use Rattle.target_frames.proofs.laws.refusals_stay.Goals as goal

pub returns : goal.returns
returns c = stays_refused None 0
