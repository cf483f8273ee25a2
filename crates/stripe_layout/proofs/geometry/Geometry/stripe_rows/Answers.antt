use Rattle.std.proofs.Common.{arith}
use Rattle.stripe_layout.proofs.AreaRows.{first-within, unit-most}
use Rattle.stripe_layout.proofs.StripeLaws.{most-rows, most-greatest}
use Rattle.stripe_layout.proofs.geometry.Geometry.stripe_rows.Goals as goal

pub rows_of_stripe-requires : goal.rows_of_stripe-requires
rows_of_stripe-requires c = rw c.as_slice.ensures (omega (arith, most-rows c.args.self.now c.requires))

pub returns-clause-within : goal.returns-clause-within
returns-clause-within c = rw (c.rows_of_stripe.ensures.first, c.as_slice.ensures) (first-within c.args.self.now.areas c.args.stripe)

pub returns-clause-low : goal.returns-clause-low
returns-clause-low c =
    rw (c.rows_of_stripe.ensures.first, c.as_slice.ensures)
    (omega (arith, first-within c.args.self.now.areas c.args.stripe, most-rows c.args.self.now c.requires))

pub returns-clause-few : goal.returns-clause-few
returns-clause-few c =
    rw (c.rows_of_stripe.ensures.count, c.as_slice.ensures)
    (omega (arith, unit-most c.args.self.now.areas c.args.stripe, most-greatest c.args.self.now c.requires))
