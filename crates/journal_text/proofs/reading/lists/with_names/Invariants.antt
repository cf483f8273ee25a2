use Rattle.std.proofs.Common.{◌≡◌, length}
use Rattle.journal_text.specs.Words.{at_of}
use Rattle.journal_text.specs.Lists.{with_front, all_of, next_of}
use Rattle.journal_text.proofs.reading.lists.with_names.Given as goal

abbrev pub invariant-loop-rest : goal.invariant-loop-rest
invariant-loop-rest l = with_front l.names (all_of (next_of at_of) (length l.rest) l.rest) ≡ with_front l.initial.names (all_of (next_of at_of) (length l.text) l.text)

abbrev pub decreases-loop-rest : goal.decreases-loop-rest
decreases-loop-rest l = length l.rest
