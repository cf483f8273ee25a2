use Rattle.std.proofs.Common.{◌≡◌, length}
use Rattle.text_fields.specs.Reading.{number_of}
use Rattle.journal_text.specs.Lists.{with_front, all_of, next_of}
use Rattle.journal_text.proofs.reading.lists.with_owners.Given as goal

abbrev pub invariant-loop-rest : goal.invariant-loop-rest
invariant-loop-rest l = with_front l.owners (all_of (next_of (number_of 4294967295)) (length l.rest) l.rest) ≡ with_front l.initial.owners (all_of (next_of (number_of 4294967295)) (length l.text) l.text)

abbrev pub decreases-loop-rest : goal.decreases-loop-rest
decreases-loop-rest l = length l.rest
