-- Causes of refusals by number.
use Rattle.std.specs.Prelude.{ℕ, Bool, true, false}
use Rattle.array_journal.specs.declared.event.Why.{Why}
use Rattle.array_journal.specs.declared.event.Why.TheVariants.{Illegal, Medium, NotReady, Unfitted, Present, Listed, Second, Clean, Absent, NotLost}

abbrev pub number_of : Why → ℕ
number_of (Illegal sense) = 0
number_of Medium = 1
number_of NotReady = 2
number_of Unfitted = 3
number_of Present = 4
number_of Listed = 5
number_of Second = 6
number_of Clean = 7
number_of Absent = 8
number_of NotLost = 9

-- the cause has no sense
abbrev pub is_plain : Why → Bool
is_plain (Illegal sense) = false
is_plain Medium = true
is_plain NotReady = true
is_plain Unfitted = true
is_plain Present = true
is_plain Listed = true
is_plain Second = true
is_plain Clean = true
is_plain Absent = true
is_plain NotLost = true
