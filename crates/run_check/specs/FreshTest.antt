-- Whether a fresh disk may be put in, as a test.
use Rattle.std.specs.Prelude.{◌==◌, ◌&&◌, nat_lt, ℕ, Bool, false, List, Option, Some}
use Rattle.array_journal.specs.declared.at.At.{At}
use Rattle.array_journal.specs.declared.entry.Entry.{Entry}
use Rattle.array_journal.specs.declared.event.Event.{Event}
use Rattle.array_journal.specs.declared.event.Event.TheVariants.{Swap}
use Rattle.array_journal.specs.Entries.{entry_at, count_before}
use Rattle.array_journal.specs.Lives.{life_of, is_swap_of}

abbrev pub is_swap_for : ℕ → ℕ → Option Event → Bool
is_swap_for i call (Some (Swap slot its_call)) = (slot == i) && (its_call == call)
is_swap_for i call _ = false

abbrev pub may_freshen : List Entry → ℕ → ℕ → ℕ → At → Bool
may_freshen past stamp i call swap =
    is_swap_for i call (entry_at swap past) && nat_lt swap.stamp stamp && (swap.lock == 0)
    && (count_before 0 (is_swap_of i) swap.stamp past == life_of i past)
