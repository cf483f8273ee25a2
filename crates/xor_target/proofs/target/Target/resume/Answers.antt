use Rattle.std.proofs.Common.{subst, sym}
use Rattle.xor_target.specs.declared.answer.PeerBack.{PeerBack}
use Rattle.xor_target.specs.Resumes.{IsResumed}
use Rattle.xor_target.proofs.target.Target.resume.Goals as goal

pub returns-in-Good : goal.returns-in-Good
returns-in-Good g c =
    subst (λ (b : PeerBack). IsResumed g.M.Medium.NEVER_FAILS c.args.self.now c.args.owner b c.args.stamp c.answered.result c.answered.new.self) (sym c.in-Good.is)
    c.answered.ensures

pub returns-in-Failed : goal.returns-in-Failed
returns-in-Failed g c =
    subst (λ (b : PeerBack). IsResumed g.M.Medium.NEVER_FAILS c.args.self.now c.args.owner b c.args.stamp c.refused.result c.refused.new.self) (sym c.in-Failed.is)
    (c.refused.ensures c.args.stamp)
