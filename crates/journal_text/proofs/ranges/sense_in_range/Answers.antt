use Rattle.std.proofs.Common.{arith}
use Rattle.journal_text.proofs.InRange.{told-pointer}
use Rattle.journal_text.proofs.ranges.sense_in_range.Goals as goal

pub returns-in-Some : goal.returns-in-Some
returns-in-Some c = record {
  uninformed = c.requires.uninformed;
  unspecific = c.requires.unspecific;
  asc = omega arith;
  ascq = omega arith;
  no_unit = c.requires.no_unit;
  pointer = told-pointer c.args.sense.now.pointer c.in-Some.pointer c.in-Some.is c.requires.pointer c.pointer_in_range.ensures;
}
