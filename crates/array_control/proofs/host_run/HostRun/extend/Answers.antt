use Rattle.std.proofs.Common.{◌+◌, ◌++◌, ap, sym, ◌∙◌, length, drop}
use Rattle.array_control.specs.HostCalls.{HostCalls, left_of, calls_from}
use Rattle.array_control.proofs.HostCalls.{extended-place, extended-left}
use Rattle.array_control.proofs.host_run.HostRun.extend.Goals as goal

pub invariant_of-self : goal.invariant_of-self
invariant_of-self c =
    extended-place c.self.inside.host c.self.inside.next (length c.self.inside.replies.items) c.self.inside.calls.now c.requires.begins.0 c.args.calls.now
    c.self.invariant
    (c.requires.begins.1 ∙ ap (λ (r : HostCalls). r.calls ++ c.requires.begins.0) (sym c.self.view_is)) c.requires.short

pub returns-clause-follow : goal.returns-clause-follow
returns-clause-follow c =
    extended-left c.self.inside.host (length c.self.inside.replies.items) c.self.inside.calls.now c.requires.begins.0 c.args.calls.now
    (c.requires.begins.1 ∙ ap (λ (r : HostCalls). r.calls ++ c.requires.begins.0) (sym c.self.view_is)) c.self.invariant.answered
    ∙ ap (λ (r : HostCalls). left_of r ++ calls_from r.host (length r.calls + 1) (drop (length r.calls) c.args.calls.now)) c.self.view_is
