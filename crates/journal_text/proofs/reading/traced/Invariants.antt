use Rattle.std.proofs.Common.{length}
use Rattle.journal_text.proofs.TraceLaws.{IsRead}
use Rattle.journal_text.proofs.reading.traced.Given as goal

abbrev pub invariant-loop-rest : goal.invariant-loop-rest
invariant-loop-rest l = IsRead l.bytes l.journal l.last l.rest

abbrev pub decreases-loop-rest : goal.decreases-loop-rest
decreases-loop-rest l = length l.rest
