use Rattle.std.proofs.Common.{ap, sym, subst, ◌∙◌}
use Rattle.unit_plans.specs.Buses.{merged}
use Rattle.array_control.specs.HostCalls.{HostCalls}
use Rattle.array_control.specs.Turns.{StandsAt}
use Rattle.array_calls.proofs.FirstCalls.{first-stands}
use Rattle.array_calls.proofs.runs.serve_script.Goals as goal

pub take_turns-requires-clause-stands : goal.take_turns-requires-clause-stands
take_turns-requires-clause-stands g c =
    let journal = merged (g.B.Bus.history c.new-array.result.bus c.args.pass) in
    let Stands : HostCalls → Type 0 = λ run. StandsAt (g.B.Bus.setting c.new-array.result.bus) run journal in
    subst Stands (sym c.in_ok-run.ensures.run)
    (first-stands _ 0 c.args.script.now.calls journal c.requires.hosts (ap (λ a. merged (g.B.Bus.history a.bus c.args.pass)) c.new-array.ensures ∙ c.requires.first))
