use Rattle.std.proofs.Common.{ap, sym, ◌∙◌, drop}
use Rattle.array_control.proofs.HostCalls.{own-here}
use Rattle.array_control.proofs.host_run.place_behind.Goals as goal

pub returns-in-Some-clause-left : goal.returns-in-Some-clause-left
returns-in-Some-clause-left c =
    let found = c.in-Some.ensures in
    sym (ap (drop 1) (found.4 ∙ own-here c.args.host c.in-Some.place c.args.calls.now found.0 found.2 found.3))
