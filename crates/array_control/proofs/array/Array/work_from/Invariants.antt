-- Nothing is to be done for the calls before the place, and those from there on are still of a host.
use Rattle.std.proofs.Common.{◌≡◌, ◌+◌, drop}
use Rattle.array_control.specs.HostCalls.{calls_from}
use Rattle.array_control.specs.Turns.{AreOfHosts, upcoming}
use Rattle.array_control.proofs.array.Array.work_from.Given as goal

abbrev pub invariant-loop-place : goal.invariant-loop-place
invariant-loop-place g l =
    (upcoming (g.B.Bus.setting l.self.bus) (calls_from l.host (l.from + 1) (drop l.from l.calls))
    ≡ upcoming (g.B.Bus.setting l.self.bus) (calls_from l.host (l.place + 1) (drop l.place l.calls)))
    × AreOfHosts (g.B.Bus.setting l.self.bus) (calls_from l.host (l.place + 1) (drop l.place l.calls))
