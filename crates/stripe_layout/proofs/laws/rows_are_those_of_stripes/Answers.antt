use Rattle.stripe_layout.proofs.StripeLaws.{row-stripe, one-stripe, row-below}
use Rattle.stripe_layout.proofs.laws.rows_are_those_of_stripes.Goals as goal

pub returns : goal.returns
returns c = record { placed = row-stripe; alone = one-stripe; below = row-below }
