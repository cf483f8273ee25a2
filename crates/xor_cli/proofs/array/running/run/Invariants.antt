-- the calls so far were served, and the controller is at rest
use Rattle.std.proofs.Common.{◌≡◌, ◌+◌, [], reverse}
use Rattle.xor_cli.specs.Arrays.{array_of, IsKept}
use Rattle.xor_cli.specs.Rest.{IsAtRest}
use Rattle.host_requests.specs.Settings.{setting_of}
use Rattle.xor_cli.proofs.Going.{Going}
use Rattle.xor_cli.proofs.array.running.run.Given as goal

abbrev pub invariant-loop-place : goal.invariant-loop-place
invariant-loop-place l = record {
  kept : IsKept l.controller;
  rest : IsAtRest (array_of l.controller);
  setting : l.controller.setting ≡ setting_of l.script;
  going : Going l.script (l.place + 1) [] (reverse (array_of l.controller).journal);
}
