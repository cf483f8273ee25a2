use Rattle.stripe_layout.proofs.PlaceLaws.{lba_at-stands}
use Rattle.stripe_layout.proofs.geometry.Geometry.lba_at.Goals as goal

pub returns-clause-in_range : goal.returns-clause-in_range
returns-clause-in_range c =
    let stands = lba_at-stands c.args.self.now c.args.stripe c.args.unit c.args.row c.requires.array c.requires.unit c.requires.row in
    rw (c.stripe_rows-rows.ensures.first, c.stripe_rows-rows.ensures.count, c.from-data_units.ensures, c.from.ensures) stands.below
