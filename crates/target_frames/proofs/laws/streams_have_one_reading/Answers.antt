use Rattle.std.proofs.Common.{None}
use Rattle.target_frames.proofs.Streams.{one_reading}
use Rattle.target_frames.proofs.laws.streams_have_one_reading.Goals as goal

pub returns : goal.returns
returns c = one_reading None 0
