-- What is read is what is spelt: each text of a value is read as this value, and nothing else is read as it.
use Rattle.std.specs.Prelude.{ℕ, ◌≡◌, ◌≤◌, ◌<◌, ◌==◌, ◌↔◌, not, Bool, true, List, [], ◌∷◌, ◌++◌, length, Some}
use Rattle.std.specs.List.{list_all}
use Rattle.text_fields.specs.Spelling.{AreBytes, numeral, hex, hex_or_dash}
use Rattle.text_fields.specs.Reading.{cut_at, stripped, is_mark, word_at, numeral_of, number_of, hex_of, filled_of, data_of, one_byte_of}

-- no byte of a text passes the test
abbrev pub lacks_any : (ℕ → Bool) → List ℕ → Bool
lacks_any test text = list_all (λ b. not (test b)) text

-- no byte of a text is the mark
abbrev pub lacks : ℕ → List ℕ → Bool
lacks mark text = lacks_any (λ b. b == mark) text

-- there is no byte, or the first passes
abbrev pub starts : (ℕ → Bool) → List ℕ → Bool
starts test [] = true
starts test (b ∷ bytes) = test b

-- a number of any size has one numeral
abbrev pub NumeralsAreExact : Type 0
NumeralsAreExact = (text : List ℕ) (n : ℕ) → (numeral_of text ≡ Some n) ↔ (text ≡ numeral n)

-- the same of numbers that are at most so great
abbrev pub NumbersAreExact : Type 0
NumbersAreExact = (most : ℕ) (text : List ℕ) (n : ℕ) → (number_of most text ≡ Some n) ↔ ((text ≡ numeral n) × (n ≤ most))

-- bytes have one spelling
abbrev pub HexIsExact : Type 0
HexIsExact = (text bytes : List ℕ) → (hex_of text ≡ Some bytes) ↔ ((text ≡ hex bytes) × AreBytes bytes)

-- the same of at least one byte, of just one, and of bytes of which none are a dash
abbrev pub FilledIsExact : Type 0
FilledIsExact = (text bytes : List ℕ) → (filled_of text ≡ Some bytes) ↔ ((text ≡ hex bytes) × AreBytes bytes × (1 ≤ length bytes))

abbrev pub OneByteIsExact : Type 0
OneByteIsExact = (text : List ℕ) (b : ℕ) → (one_byte_of text ≡ Some b) ↔ ((text ≡ hex (b ∷ [])) × (b < 256))

abbrev pub DataIsExact : Type 0
DataIsExact = (text bytes : List ℕ) → (data_of text ≡ Some bytes) ↔ ((text ≡ hex_or_dash bytes) × AreBytes bytes)

-- what stands before the first mark, and what stands after it
abbrev pub CutsAreExact : Type 0
CutsAreExact = (mark : ℕ) (bytes front rest : List ℕ) → (cut_at mark bytes ≡ Some (front, rest)) ↔ ((bytes ≡ front ++ mark ∷ rest) × (lacks mark front ≡ true))

-- what stands behind a text
abbrev pub StripsAreExact : Type 0
StripsAreExact = (text bytes rest : List ℕ) → (stripped text bytes ≡ Some rest) ↔ (bytes ≡ text ++ rest)

-- a word behind a space ends before the first mark, or with the text
abbrev pub WordsAreExact : Type 0
WordsAreExact = (bytes word rest : List ℕ) → (word_at bytes ≡ Some (word, rest)) ↔ ((bytes ≡ 32 ∷ (word ++ rest)) × (lacks_any is_mark word ≡ true) × (starts is_mark rest ≡ true))
