use Rattle.std.proofs.Common.{◌≡◌}
use Rattle.unit_plans.specs.Buses.{merged}
use Rattle.array_control.proofs.Executing.{Executes}
use Rattle.array_control.proofs.array.Array.serve_all.Given as goal

abbrev pub invariant-loop : goal.invariant-loop
invariant-loop g l =
    g.B.Bus.IsPass l.self.bus l.pass × (g.B.Bus.setting l.self.bus ≡ g.B.Bus.setting l.fn.self.bus) × (l.self ≡ record l.fn.self { bus = l.self.bus })
    × Executes g.B.Bus.alone g.B.Bus.reliable (g.B.Bus.setting l.fn.self.bus) l.fn.call l.call (merged (g.B.Bus.history l.fn.self.bus l.fn.pass))
    (merged (g.B.Bus.history l.self.bus l.pass))
