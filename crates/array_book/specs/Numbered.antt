-- Values by the numbers of commands.
use Rattle.std.specs.Prelude.{ℕ, Option, slice_get}
use Rattle.std.specs.BTreeMap.{get}
use Rattle.std.specs.Option.{option_or}
use Rattle.std.specs.Ordering.{nat_cmp}
use Rattle.array_book.specs.declared.commands.by_number.ByNumber.{ByNumber}

-- the value of a number
abbrev pub value_of : {A : Type 0} → ByNumber A → ℕ → Option A
value_of m c = option_or (slice_get m.row.items c) (get nat_cmp m.others c)
