use Rattle.std.proofs.Common.{arith}
use Rattle.stripe_layout.proofs.StripeLaws.{some-rows, most-rows}
use Rattle.stripe_layout.proofs.geometry.Geometry.rows.Goals as goal

pub all_rows-requires : goal.all_rows-requires
all_rows-requires c = rw c.as_slice.ensures (omega (arith, most-rows c.args.self.now c.requires))

pub returns-clause-some : goal.returns-clause-some
returns-clause-some c = rw (c.all_rows.ensures, c.as_slice.ensures) (some-rows c.args.self.now c.requires)

pub returns-clause-few : goal.returns-clause-few
returns-clause-few c = rw (c.all_rows.ensures, c.as_slice.ensures) (most-rows c.args.self.now c.requires)
