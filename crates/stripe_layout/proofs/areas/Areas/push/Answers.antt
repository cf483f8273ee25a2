use Rattle.stripe_layout.proofs.AreaLists.{kept-more, shorter}
use Rattle.stripe_layout.proofs.areas.Areas.push.Goals as goal

pub invariant_of-self : goal.invariant_of-self
invariant_of-self c = kept-more c.self.inside c.from.result c.args.area c.self.invariant (shorter c.self.inside c.args.self.now c.self.invariant c.self.view_is c.requires) c.from.ensures
