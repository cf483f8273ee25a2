use Rattle.std.proofs.Common.{◌≡◌, ◌++◌, drop, []}
use Rattle.worked_cases.specs.Told.{lines_told}
use Rattle.worked_cases.proofs.telling.push_lines.Given as goal

-- what is told, and what the rest will tell, is what all tells
abbrev pub invariant-loop-byte : goal.invariant-loop-byte
invariant-loop-byte l = l.text ++ lines_told l.name l.begun (drop l.byte-index l.written) ≡ l.initial.text ++ lines_told l.name [] l.written
