use Rattle.stripe_layout.proofs.StripeLaws.{some-greatest, most-greatest}
use Rattle.stripe_layout.proofs.geometry.Geometry.greatest_unit.Goals as goal

pub returns-clause-some : goal.returns-clause-some
returns-clause-some c = rw (c.greatest_unit.ensures, c.as_slice.ensures) (some-greatest c.args.self.now c.requires)

pub returns-clause-few : goal.returns-clause-few
returns-clause-few c = rw (c.greatest_unit.ensures, c.as_slice.ensures) (most-greatest c.args.self.now c.requires)
