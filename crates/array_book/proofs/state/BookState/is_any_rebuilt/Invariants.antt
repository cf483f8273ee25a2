use Rattle.std.proofs.Common.{◌≡◌, drop, reverse}
use Rattle.std.specs.List.{list_any}
use Rattle.array_journal.specs.Lives.{has_rebuilt}
use Rattle.array_book.proofs.state.BookState.is_any_rebuilt.Given as goal

abbrev pub invariant-loop-command : goal.invariant-loop-command
invariant-loop-command l =
    list_any (has_rebuilt (reverse l.entries) l.target l.stripe) l.commands ≡ list_any (has_rebuilt (reverse l.entries) l.target l.stripe) (drop l.command-index l.commands)
