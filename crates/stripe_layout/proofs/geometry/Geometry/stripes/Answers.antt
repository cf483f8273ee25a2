use Rattle.std.proofs.Common.{arith}
use Rattle.stripe_layout.proofs.StripeLaws.{some-stripes, most-stripes}
use Rattle.stripe_layout.proofs.geometry.Geometry.stripes.Goals as goal

pub all_stripes-requires : goal.all_stripes-requires
all_stripes-requires c = rw c.as_slice.ensures (omega (arith, most-stripes c.args.self.now c.requires))

pub returns-clause-some : goal.returns-clause-some
returns-clause-some c = rw (c.all_stripes.ensures, c.as_slice.ensures) (some-stripes c.args.self.now c.requires)

pub returns-clause-few : goal.returns-clause-few
returns-clause-few c = rw (c.all_stripes.ensures, c.as_slice.ensures) (most-stripes c.args.self.now c.requires)
