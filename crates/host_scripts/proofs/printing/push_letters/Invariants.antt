use Rattle.std.proofs.Common.{◌≡◌, ◌++◌, drop, map}
use Rattle.host_scripts.specs.Scripts.{letter}
use Rattle.host_scripts.proofs.printing.push_letters.Given as goal

abbrev pub invariant-loop-host : goal.invariant-loop-host
invariant-loop-host l = l.text ++ map letter (drop l.host-index l.hosts) ≡ l.initial.text ++ map letter l.hosts
