-- How numbers and bytes are spelt, as lists of bytes. Bytes have lower-case digits, checks and codes upper-case ones.
use Rattle.std.specs.Prelude.{ℕ, zero, suc, ◌+◌, ◌/◌, ◌%◌, ◌<◌, nat_lt, if◌then◌else◌, List, [], ◌∷◌, ◌++◌, map}
use Rattle.std.specs.List.{AllByRecursion}
use Rattle.std.specs.Fmt.{decimal}
use Rattle.std.specs.Int.Digits.{digits_of}

-- text, and the byte that ends a line
abbrev pub line : List ℕ → List ℕ
line text = text ++ 10 ∷ []

-- the one numeral of a number of any size: its digits, none in front of them, and `0` for 0
unfoldable pub numeral : ℕ → List ℕ
numeral zero = 48 ∷ []
numeral (suc n) = map (λ d. 48 + d) (digits_of 10 (suc n))

-- a word, a space and a number, and what stands behind them
abbrev pub counted : List ℕ → ℕ → List ℕ → List ℕ
counted word n rest = word ++ (32 ∷ (decimal n ++ rest))

-- each is a byte
abbrev pub AreBytes : List ℕ → Type 0
AreBytes bytes = AllByRecursion (λ b. b < 256) bytes

-- one hexadecimal digit, in lower case
abbrev pub nibble : ℕ → ℕ
nibble n = if nat_lt n 10 then 48 + n else 87 + n

-- each byte as two digits, the high four bits first
abbrev pub hex : List ℕ → List ℕ
hex [] = []
hex (b ∷ bytes) = nibble (b / 16) ∷ nibble (b % 16) ∷ hex bytes

-- bytes in a line: no bytes are a dash
abbrev pub hex_or_dash : List ℕ → List ℕ
hex_or_dash [] = 45 ∷ []
hex_or_dash (b ∷ bytes) = hex (b ∷ bytes)

-- one hexadecimal digit, in upper case
abbrev pub upper_nibble : ℕ → ℕ
upper_nibble n = if nat_lt n 10 then 48 + n else 55 + n

-- a byte as two of them
abbrev pub upper_byte : ℕ → List ℕ
upper_byte b = upper_nibble (b / 16) ∷ upper_nibble (b % 16) ∷ []
