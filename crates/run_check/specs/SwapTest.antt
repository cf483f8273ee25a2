-- Whether a slot's disk may be swapped, as a test.
use Rattle.std.specs.Prelude.{◌&&◌, not, ℕ, Bool, List}
use Rattle.array_journal.specs.declared.entry.Entry.{Entry}
use Rattle.array_journal.specs.declared.setting.Setting.{Setting}
use Rattle.array_journal.specs.Entries.{some_at}
use Rattle.array_journal.specs.Lives.{is_unfitted}
use Rattle.array_journal.specs.May.{opens_at}

abbrev pub may_swap : Setting → List Entry → ℕ → Bool
may_swap s past i = is_unfitted i past && not (some_at 0 (opens_at s past i) past)
