use Rattle.stripe_layout.proofs.PlaceLaws.{row_of-stripe, unit_of-below, lba_at-place, lba_at-stands}
use Rattle.stripe_layout.proofs.PlaceRuns.{target_of-other}
use Rattle.stripe_layout.proofs.laws.blocks_and_places_undo_each_other.Goals as goal

pub returns : goal.returns
returns c = record {
  block = λ g lba is h. (row_of-stripe g lba is h, unit_of-below g lba is h, lba_at-place g lba is h);
  place = lba_at-stands;
  beside_parity = target_of-other;
}
