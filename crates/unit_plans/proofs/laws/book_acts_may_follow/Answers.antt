use Rattle.unit_plans.proofs.BookFollows.{book-follows}
use Rattle.unit_plans.proofs.laws.book_acts_may_follow.Goals as goal

pub returns : goal.returns
returns c = book-follows
