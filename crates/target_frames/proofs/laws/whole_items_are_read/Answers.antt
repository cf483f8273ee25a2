use Rattle.std.proofs.Common.{◌++◌, None, refl}
use Rattle.target_frames.specs.Frames.{spellings}
use Rattle.target_frames.proofs.Beginnings.{are_read}
use Rattle.target_frames.proofs.laws.whole_items_are_read.Goals as goal

pub returns : goal.returns
returns c items all more end sound r = are_read None 0 (spellings items ++ more) more items all end sound refl r
