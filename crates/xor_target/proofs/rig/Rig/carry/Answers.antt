use Rattle.std.proofs.Common.{◌≡◌, sym, subst, ◌∙◌}
use Rattle.xor_target.specs.declared.answer.Answer.{Answer}
use Rattle.xor_target.specs.declared.answer.Answer.TheVariants.{Memory}
use Rattle.xor_target.specs.Rigs.{IsAsked, IsHanded, Returns, AskedWants, SenderWants}
use Rattle.xor_target.proofs.RigSteps.{nothing-back, other-left, memory-left}
use Rattle.xor_target.proofs.rig.Rig.carry.Goals as goal

pub returns-in_default-clause-carried : goal.returns-in_default-clause-carried
returns-in_default-clause-carried g c =
    let never = g.M.Medium.NEVER_FAILS in
    let request = c.args.request.now in
    let asked = c.ask-said.new.self in
    let memory : c.ask-said.result ≡ Memory = nothing-back c.ask-said.result c.ask-said.ensures.last (sym c.handed_back.ensures ∙ c.in_default.is) in
    AskedWants c.give_up.ensures.handed.0 asked (subst (λ (said : Answer). IsAsked never request said c.args.self.now asked) memory c.ask-said.ensures.asked) c.give_up.ensures.handed.1
    c.give_up.ensures.says

pub returns-in-Memory-clause-carried : goal.returns-in-Memory-clause-carried
returns-in-Memory-clause-carried g c =
    let never = g.M.Medium.NEVER_FAILS in
    let request = c.args.request.now in
    let asked = c.ask-said.new.self in
    let wants = subst (λ (answer : Answer). IsHanded never request c.in-Some.back answer asked c.hand.new.self) c.in-Memory.is c.hand.ensures.handed in
    SenderWants c.ask-said.result c.in-Some.back c.give_up-in-Memory.ensures.handed.0 asked c.hand.new.self c.ask-said.ensures.asked (sym c.handed_back.ensures ∙ c.in-Some.is) wants
    c.give_up-in-Memory.ensures.handed.1 c.give_up-in-Memory.ensures.says

pub returns : goal.returns
returns g c =
    let request = c.args.request.now in
    record {
      carried = Returns c.ask-said.result c.in-Some.back c.ask-said.new.self c.ask-said.ensures.asked (sym c.handed_back.ensures ∙ c.in-Some.is) c.hand.ensures.handed c.in_default-hand.not-Memory;
      left = other-left request c.in-Some.back c.hand.result c.hand.new.self c.in_default-hand.not-Memory c.hand.ensures.left;
    }

pub returns-in_default-clause-left : goal.returns-in_default-clause-left
returns-in_default-clause-left g c = memory-left c.args.request.now.order.owner c.give_up.result c.give_up.new.self c.give_up.ensures.says c.give_up.ensures.idle

pub returns-in-Memory-clause-left : goal.returns-in-Memory-clause-left
returns-in-Memory-clause-left g c =
    memory-left c.args.request.now.order.owner c.give_up-in-Memory.result c.give_up-in-Memory.new.self c.give_up-in-Memory.ensures.says c.give_up-in-Memory.ensures.idle

pub hand-requires-clause-fits : goal.hand-requires-clause-fits
hand-requires-clause-fits g c = c.ask-said.ensures.fits c.in-Some.back (sym c.handed_back.ensures ∙ c.in-Some.is)
