use Rattle.std.proofs.Common.{◌≡◌, ◌≤◌, length, reverse}
use Rattle.std.specs.Prelude.{filter}
use Rattle.array_journal.specs.Lists.{numbers}
use Rattle.array_journal.specs.Lives.{is_missing}
use Rattle.array_book.proofs.state.BookState.missing_count.Given as goal

abbrev pub invariant-loop-target : goal.invariant-loop-target
invariant-loop-target l = record {
  count : l.count ≡ length (filter (λ i. is_missing i l.stripe (reverse l.entries)) (numbers 0 l.target));
  small : l.count ≤ l.target;
}
