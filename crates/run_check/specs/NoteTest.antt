-- Whether a loss may be noted, as a test.
use Rattle.std.specs.Prelude.{◌==◌, ◌&&◌, ◌+◌, not, ℕ, Bool, List}
use Rattle.array_journal.specs.declared.at.At.{At}
use Rattle.array_journal.specs.declared.entry.Entry.{Entry}
use Rattle.array_journal.specs.Lives.{swap_count, is_unfitted}
use Rattle.array_journal.specs.May.{is_loss_in}
use Rattle.run_check.specs.NameTests.{names}

abbrev pub may_note : List Entry → ℕ → ℕ → At → Bool
may_note past stamp i lost =
    (lost.lock == i + 1) && names past stamp lost (is_loss_in (swap_count i past)) && not (is_unfitted i past)
