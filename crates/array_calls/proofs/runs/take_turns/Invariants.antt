-- between two turns the host stands in the journal, and the bus is calm
use Rattle.unit_plans.specs.Buses.{merged}
use Rattle.array_control.specs.Arrays.{IsArrayOf, IsCalm}
use Rattle.array_control.specs.Turns.{StandsAt}
use Rattle.array_calls.proofs.runs.take_turns.Given as goal

abbrev pub invariant-loop : goal.invariant-loop
invariant-loop g l = record {
  array : IsArrayOf (g.B.Bus.setting l.array.bus) l.array.geometry l.array.mode l.array.max;
  pass : g.B.Bus.IsPass l.array.bus l.pass;
  calm : IsCalm g.B.Bus.alone g.B.Bus.reliable (g.B.Bus.setting l.array.bus) (merged (g.B.Bus.history l.array.bus l.pass));
  stands : StandsAt (g.B.Bus.setting l.array.bus) l.run (merged (g.B.Bus.history l.array.bus l.pass));
}
