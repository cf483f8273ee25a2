use Rattle.stripe_layout.proofs.PlaceLaws.{some-unit, in-stripe, unit_of-below}
use Rattle.stripe_layout.proofs.geometry.Geometry.stripe_offset.Goals as goal

pub overflow_sub-result : goal.overflow_sub-result
overflow_sub-result c =
    let within = in-stripe c.args.self.now c.args.lba c.requires.array c.requires.in_range in
    rw (c.stripe_rows-rows.ensures.first, c.stripe_of_row-stripe.ensures.value, c.from-data_units.ensures) within.0

pub returns-clause-some : goal.returns-clause-some
returns-clause-some c =
    rw (c.stripe_rows-rows.ensures.count, c.stripe_of_row-stripe.ensures.value, c.from-data_units.ensures)
    (some-unit c.args.self.now c.args.lba c.requires.array c.requires.in_range)

pub returns-clause-unit : goal.returns-clause-unit
returns-clause-unit c =
    rw (c.stripe_rows-rows.ensures.first, c.stripe_rows-rows.ensures.count, c.stripe_of_row-stripe.ensures.value, c.from-data_units.ensures)
    (unit_of-below c.args.self.now c.args.lba c.requires.array c.requires.in_range)
