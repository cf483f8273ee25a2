use Rattle.std.proofs.Common.{ap}
use Rattle.xor_target.specs.Logs.{Logged}
use Rattle.xor_target.proofs.LogLaws.{kept-rise, kept-lock}
use Rattle.xor_target.proofs.log.TargetLog.into_entries.Goals as goal

pub returns-clause-of_lock : goal.returns-clause-of_lock
returns-clause-of_lock c =
    kept-lock c.self.inside.number c.args.self.number c.self.inside.entries.list c.self.invariant.of_lock (ap (λ (l : Logged). l.number) c.self.view_is)

pub returns-clause-rise : goal.returns-clause-rise
returns-clause-rise c = kept-rise c.self.inside.entries.list c.self.invariant.falls
