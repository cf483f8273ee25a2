use Rattle.target_frames.proofs.Streams.{sound_items}
use Rattle.target_frames.proofs.laws.sound_items_are_read.Goals as goal

pub returns : goal.returns
returns c = sound_items
