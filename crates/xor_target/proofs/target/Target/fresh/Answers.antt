use Rattle.std.proofs.Common.{ap, sym, ◌∙◌, subst, refl, List, [], Result, None}
use Rattle.array_journal.specs.declared.at.At.{At}
use Rattle.xor_target.specs.declared.answer.Answer.TheVariants.{Good, Gone}
use Rattle.xor_target.specs.declared.answer.GoneAt.{GoneAt}
use Rattle.xor_target.specs.State.{TargetState, IsTarget, state_of}
use Rattle.xor_target.specs.Acts.{IsUnitRenewed}
use Rattle.xor_target.specs.Befalls.{IsRenewed, WantsMemory, Renews, Fails}
use Rattle.xor_target.proofs.KeptStates.{struck-target}
use Rattle.xor_target.proofs.KeptBefalls.{fresh-target}
use Rattle.xor_target.proofs.target.Target.fresh.Goals as goal

pub invariant_of-self : goal.invariant_of-self
invariant_of-self g c =
    let inside = c.self.inside in
    let unit = inside.unit.logged in
    let new = c.renew.new.self in
    let before = state_of inside.targets inside.first inside.page inside.unit.waiting.list unit.disk unit.log in
    let after = state_of inside.targets inside.first inside.first new.waiting.list new.logged.disk new.logged.log in
    let renewed = subst (λ (r : Result (List At) GoneAt). IsUnitRenewed g.M.Medium.NEVER_FAILS inside.targets inside.first inside.page inside.unit.waiting.list unit.disk unit.log c.args.call c.args.swap c.args.stamp new.waiting.list new.logged.disk new.logged.log r)
    c.in-Ok-Ok.field-0-is (c.in-Ok-Ok.ensures.renewed inside.targets inside.first inside.page) in
    fresh-target before c.args.call c.args.swap c.args.stamp after c.self.invariant renewed.1

pub invariant_of-self-in-Ok-Err : goal.invariant_of-self-in-Ok-Err
invariant_of-self-in-Ok-Err g c =
    let inside = c.self.inside in
    let unit = inside.unit.logged in
    let new = c.renew.new.self in
    let before = state_of inside.targets inside.first inside.page inside.unit.waiting.list unit.disk unit.log in
    let after = state_of inside.targets inside.first inside.page new.waiting.list new.logged.disk new.logged.log in
    let renewed = subst (λ (r : Result (List At) GoneAt). IsUnitRenewed g.M.Medium.NEVER_FAILS inside.targets inside.first inside.page inside.unit.waiting.list unit.disk unit.log c.args.call c.args.swap c.args.stamp new.waiting.list new.logged.disk new.logged.log r)
    c.in-Ok-Err.field-0-is (c.in-Ok-Err.ensures.renewed inside.targets inside.first inside.page) in
    struck-target g.M.Medium.NEVER_FAILS before c.args.stamp after c.self.invariant c.in-Ok-Err.ensures.few renewed.1

pub invariant_of-self-in-Err : goal.invariant_of-self-in-Err
invariant_of-self-in-Err g c =
    let inside = c.self.inside in
    subst (λ (t : TargetState). IsTarget t) (sym (c.in-Err.ensures.memory inside.targets inside.first inside.page)) c.self.invariant

pub returns-in-Ok-Ok : goal.returns-in-Ok-Ok
returns-in-Ok-Ok g c =
    let never = g.M.Medium.NEVER_FAILS in
    let inside = c.self.inside in
    let unit = inside.unit.logged in
    let new = c.renew.new.self in
    let after = state_of inside.targets inside.first inside.first new.waiting.list new.logged.disk new.logged.log in
    let renewed = subst (λ (r : Result (List At) GoneAt). IsUnitRenewed never inside.targets inside.first inside.page inside.unit.waiting.list unit.disk unit.log c.args.call c.args.swap c.args.stamp new.waiting.list new.logged.disk new.logged.log r)
    c.in-Ok-Ok.field-0-is (c.in-Ok-Ok.ensures.renewed inside.targets inside.first inside.page) in
    subst (λ (t : TargetState). IsRenewed never t c.args.call c.args.swap c.args.stamp (Good c.new.result c.in-Ok-Ok.made) after) c.self.view_is
    (Renews renewed.1 (ap (λ b. Good b c.in-Ok-Ok.made) c.new.ensures ∙ ap (λ names. Good [] names) renewed.0))

pub returns-in-Ok-Err : goal.returns-in-Ok-Err
returns-in-Ok-Err g c =
    let never = g.M.Medium.NEVER_FAILS in
    let inside = c.self.inside in
    let unit = inside.unit.logged in
    let new = c.renew.new.self in
    let after = state_of inside.targets inside.first inside.page new.waiting.list new.logged.disk new.logged.log in
    let renewed = subst (λ (r : Result (List At) GoneAt). IsUnitRenewed never inside.targets inside.first inside.page inside.unit.waiting.list unit.disk unit.log c.args.call c.args.swap c.args.stamp new.waiting.list new.logged.disk new.logged.log r)
    c.in-Ok-Err.field-0-is (c.in-Ok-Err.ensures.renewed inside.targets inside.first inside.page) in
    subst (λ (t : TargetState). IsRenewed never t c.args.call c.args.swap c.args.stamp (Gone c.in-Ok-Err.field-0-0.at c.in-Ok-Err.field-0-0.life None) after) c.self.view_is
    (Fails renewed.1 (ap (λ (x : GoneAt). Gone x.at x.life None) renewed.0))

pub returns-in-Err : goal.returns-in-Err
returns-in-Err g c =
    let inside = c.self.inside in
    WantsMemory refl (c.in-Err.ensures.memory inside.targets inside.first inside.page ∙ c.self.view_is)
