-- Blocks and cases as parts of a list.
use Rattle.std.specs.Prelude.{ℕ, List}
use Rattle.worked_cases.specs.declared.lists.Part.{Part}
use Rattle.worked_cases.specs.Lines.{IsLine, AreLines}

-- the line with the part's name, and the lines behind it, are lines of the list
pub record IsPart (text : List ℕ) (part : Part) : Type 0 where
  pub named : (line : List ℕ) × IsLine text part.number line
  pub lines : AreLines text part.lines.now
