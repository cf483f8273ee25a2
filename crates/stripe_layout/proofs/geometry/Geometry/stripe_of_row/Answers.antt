use Rattle.std.proofs.Common.{arith}
use Rattle.stripe_layout.proofs.StripeLaws.{most-rows, most-stripes, row-stripe}
use Rattle.stripe_layout.proofs.geometry.Geometry.stripe_of_row.Goals as goal

pub stripe_of_row-requires-clause-rows : goal.stripe_of_row-requires-clause-rows
stripe_of_row-requires-clause-rows c = rw c.as_slice.ensures (omega (arith, most-rows c.args.self.now c.requires.array))

pub stripe_of_row-requires-clause-stripes : goal.stripe_of_row-requires-clause-stripes
stripe_of_row-requires-clause-stripes c = rw c.as_slice.ensures (omega (arith, most-stripes c.args.self.now c.requires.array))

pub returns-clause-in_array : goal.returns-clause-in_array
returns-clause-in_array c =
    let at = row-stripe c.args.self.now c.args.row c.requires.array c.requires.in_range in
    rw (c.stripe_of_row.ensures, c.as_slice.ensures) at.in_array
