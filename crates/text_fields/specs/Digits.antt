-- When a text is pairs of hexadecimal digits.
use Rattle.std.specs.Prelude.{ℕ, ◌%◌, ◌==◌, ◌&&◌, ◌||◌, nat_le, Bool, List, length}
use Rattle.std.specs.List.{list_all}

-- a hexadecimal digit in lower case
abbrev pub is_digit : ℕ → Bool
is_digit c = (nat_le 48 c && nat_le c 57) || (nat_le 97 c && nat_le c 102)

-- an even number of them
abbrev pub is_hex : List ℕ → Bool
is_hex text = (length text % 2 == 0) && list_all is_digit text
