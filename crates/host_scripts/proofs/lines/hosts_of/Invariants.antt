use Rattle.std.proofs.Common.{◌≡◌, ◌-◌, ◌++◌, drop, map}
use Rattle.host_scripts.proofs.lines.hosts_of.Given as goal

abbrev pub invariant-loop-letter : goal.invariant-loop-letter
invariant-loop-letter l = l.hosts ++ map (λ c. c - 65) (drop l.letter-index l.letters) ≡ map (λ c. c - 65) l.letters
