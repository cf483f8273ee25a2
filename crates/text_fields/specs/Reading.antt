-- Parts of a text as they are read: what stands before a mark or behind a keyword, words, numerals, hexadecimal.
use Rattle.std.specs.Prelude.{ℕ, ◌≡◌, ◌-◌, ◌+◌, ◌*◌, ◌==◌, ◌&&◌, ◌||◌, nat_lt, nat_le, Bool, false, if◌then◌else◌, List, [], ◌∷◌, length, take, drop, position, min, Option, Some, None, Result, Ok, Err}
use Rattle.std.specs.List.{position_or_len}
use Rattle.std.specs.Str.{all_ascii_digits, bytes_eq}
use Rattle.std.specs.Str.Parse.{digits_value}

-- the second step, where the first gave a value
infixl 10 ◌>>=◌
abbrev pub ◌>>=◌ : {A B : Type 0} → Option A → (A → Option B) → Option B
(Some x) >>= f = f x
None >>= f = None

-- what a function returned, seen by view, is what reading gives
abbrev pub Reads : {X Y : Type 0} → (X → Y) → Option X → Option Y → Type 0
Reads view (Some x) read = read ≡ Some (view x)
Reads view None read = read ≡ None

-- what a function that may want memory returned is what reading gives
abbrev pub Spelt : {X E : Type 0} → Result (Option X) E → Option X → Type 0
Spelt (Ok value) read = read ≡ value
Spelt (Err e) read = Unit {0}

-- ---- where a text is cut

-- the bytes before the first such byte, and those after it
unfoldable pub cut_at : ℕ → List ℕ → Option (List ℕ × List ℕ)
cut_at mark bytes = position (λ b. b == mark) bytes >>= λ k. Some (take k bytes, drop 1 (drop k bytes))

-- the bytes behind a text
unfoldable pub stripped : List ℕ → List ℕ → Option (List ℕ)
stripped text bytes = if bytes_eq (take (length text) bytes) text then Some (drop (length text) bytes) else None

-- a space, the end of a line, or another control: no word has one
abbrev pub is_mark : ℕ → Bool
is_mark b = nat_lt b 33

-- the word at the front, and what stands after it
unfoldable pub front_at : List ℕ → List ℕ × List ℕ
front_at bytes = (take (position_or_len is_mark bytes) bytes, drop (position_or_len is_mark bytes) bytes)

-- the word behind a space, and what stands after it
unfoldable pub word_at : List ℕ → Option (List ℕ × List ℕ)
word_at [] = None
word_at (b ∷ bytes) = if b == 32 then Some (front_at bytes) else None

-- ---- numbers

-- digits that are `0` or don't begin with it
abbrev pub is_numeral : List ℕ → Bool
is_numeral [] = false
is_numeral (d ∷ ds) = all_ascii_digits (d ∷ ds) && (nat_lt 48 d || length ds == 0)

-- the number that a numeral spells, of any size
unfoldable pub numeral_of : List ℕ → Option ℕ
numeral_of text = if is_numeral text then Some (digits_value 10 text) else None

-- the same, or the cap where it is greater
unfoldable pub capped_of : ℕ → List ℕ → Option ℕ
capped_of cap text = if is_numeral text then Some (min (digits_value 10 text) cap) else None

-- a number that is at most so great
unfoldable pub number_of : ℕ → List ℕ → Option ℕ
number_of most text = do
  n ← numeral_of text
  if nat_le n most then Some n else None

-- ---- bytes

-- the value of one hexadecimal digit, in lower case
abbrev pub nibble_of : ℕ → Option ℕ
nibble_of c =
    if nat_le 48 c && nat_le c 57 then Some (c - 48)
    else if nat_le 97 c && nat_le c 102 then Some (c - 87)
    else None

-- the byte of two digits
unfoldable pub byte_of : ℕ → ℕ → Option ℕ
byte_of high low = do
  h ← nibble_of high
  l ← nibble_of low
  Some (h * 16 + l)

-- the bytes of pairs of digits
unfoldable pub hex_of : List ℕ → Option (List ℕ)
hex_of [] = Some []
hex_of (digit ∷ []) = None
hex_of (high ∷ low ∷ rest) = do
  byte ← byte_of high low
  bytes ← hex_of rest
  Some (byte ∷ bytes)

-- the bytes of at least one pair of digits
unfoldable pub filled_of : List ℕ → Option (List ℕ)
filled_of [] = None
filled_of (c ∷ rest) = hex_of (c ∷ rest)

-- the bytes of a dash or of at least one pair of digits
unfoldable pub data_of : List ℕ → Option (List ℕ)
data_of [] = None
data_of (c ∷ []) = if c == 45 then Some [] else None
data_of (c ∷ d ∷ rest) = hex_of (c ∷ d ∷ rest)

-- the byte of just one pair of digits
unfoldable pub one_byte_of : List ℕ → Option ℕ
one_byte_of [] = None
one_byte_of (c ∷ []) = None
one_byte_of (c ∷ d ∷ []) = byte_of c d
one_byte_of (c ∷ d ∷ e ∷ rest) = None
