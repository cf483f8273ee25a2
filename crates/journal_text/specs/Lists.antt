-- Values one after the other.
use Rattle.std.specs.Prelude.{ℕ, zero, suc, ◌==◌, if◌then◌else◌, List, [], ◌∷◌, ◌++◌, length, take, drop, Option, Some, None, codes}
use Rattle.std.specs.List.{position_or_len}
use Rattle.std.specs.Str.{bytes_eq}
use Rattle.text_fields.specs.Reading.{◌>>=◌}

-- what stands before the first comma, and what stands from it on
unfoldable pub item_at : List ℕ → List ℕ × List ℕ
item_at bytes = (take (position_or_len (λ b. b == 44) bytes) bytes, drop (position_or_len (λ b. b == 44) bytes) bytes)

-- a value before the first comma
unfoldable pub first_of : {A : Type 0} → (List ℕ → Option A) → List ℕ → Option (A × List ℕ)
first_of read bytes = read (item_at bytes).0 >>= λ value. Some (value, (item_at bytes).1)

-- a value behind a comma
unfoldable pub next_of : {A : Type 0} → (List ℕ → Option A) → List ℕ → Option (A × List ℕ)
next_of read [] = None
next_of read (b ∷ bytes) = if b == 44 then first_of read bytes else None

-- at most so many values, to the last byte
unfoldable pub all_of : {A : Type 0} → (List ℕ → Option (A × List ℕ)) → ℕ → List ℕ → Option (List A)
all_of next n [] = Some []
all_of next zero (b ∷ bytes) = None
all_of next (suc n) (b ∷ bytes) = do
  first ← next (b ∷ bytes)
  others ← all_of next n first.1
  Some (first.0 ∷ others)

-- values with commas between them
unfoldable pub some_of : {A : Type 0} → (List ℕ → Option A) → List ℕ → Option (List A)
some_of read word = do
  first ← first_of read word
  others ← all_of (next_of read) (length first.1) first.1
  Some (first.0 ∷ others)

-- the same, or a dash for none
unfoldable pub listed_of : {A : Type 0} → (List ℕ → Option A) → List ℕ → Option (List A)
listed_of read word = if bytes_eq word (codes "-") then Some [] else some_of read word

-- what was read before, and what is still read
abbrev pub with_front : {A : Type 0} → List A → Option (List A) → Option (List A)
with_front front read = read >>= λ more. Some (front ++ more)
