use Rattle.target_frames.proofs.Streams.{no_other}
use Rattle.target_frames.proofs.laws.no_item_begins_another.Goals as goal

pub returns : goal.returns
returns c = no_other
