-- A list of a known length is its elements, and numbers of four and of two bytes among them.
use Rattle.std.proofs.Common.{◌≡◌, ℕ, zero, suc, ◌+◌, ◌^◌, ◌<◌, List, [], ◌∷◌, length, get_or, drop, refl, ap, ◌∙◌, arith}
use Rattle.std.proofs.Math.Seq.{drop-cons}
use Rattle.std.proofs.lemmas.List.{drop_all}
use Rattle.std.proofs.lemmas.Nat.{be_bytes_4, be_bytes_2}
use Rattle.std.specs.Int.{w16, w32, to_be_bytes}
use Rattle.byteorder.specs.Endian.{big_number}

-- the n elements from a place on
abbrev pub cells : ℕ → ℕ → List ℕ → List ℕ
cells i zero xs = []
cells i (suc n) xs = get_or xs i 0 ∷ cells (suc i) n xs

pub cells_from : (n i : ℕ) (xs : List ℕ) → length xs ≡ i + n → drop i xs ≡ cells i n xs
cells_from zero i xs e = drop_all i xs (omega arith)
cells_from (suc n) i xs e =
    drop-cons xs i 0 (omega arith) ∙ ap (λ l. get_or xs i 0 ∷ l) (cells_from n (suc i) xs (omega arith))

pub whole : (n : ℕ) (xs : List ℕ) → length xs ≡ n → xs ≡ cells 0 n xs
whole n xs e = cells_from n 0 xs (omega arith)

-- four bytes are the bytes of their number
pub number_4 : (a b c d : ℕ) (rest : List ℕ) → a < 256 → b < 256 → c < 256 → d < 256 → to_be_bytes w32 (big_number 4 (a ∷ b ∷ c ∷ d ∷ rest)) ≡ a ∷ b ∷ c ∷ d ∷ []
number_4 a b c d rest ha hb hc hd = be_bytes_4 (a ∷ b ∷ c ∷ d ∷ []) (big_number 4 (a ∷ b ∷ c ∷ d ∷ rest)) refl small (omega arith)
  where
    small : (i : ℕ) → get_or (a ∷ b ∷ c ∷ d ∷ []) i 0 < 256
    small zero = ha
    small (suc zero) = hb
    small (suc (suc zero)) = hc
    small (suc (suc (suc zero))) = hd
    small (suc (suc (suc (suc n)))) = omega arith

pub number_2 : (a b : ℕ) (rest : List ℕ) → a < 256 → b < 256 → to_be_bytes w16 (big_number 2 (a ∷ b ∷ rest)) ≡ a ∷ b ∷ []
number_2 a b rest ha hb = be_bytes_2 (a ∷ b ∷ []) (big_number 2 (a ∷ b ∷ rest)) refl small (omega arith)
  where
    small : (i : ℕ) → get_or (a ∷ b ∷ []) i 0 < 256
    small zero = ha
    small (suc zero) = hb
    small (suc (suc n)) = omega arith

-- they are below 2 ^ 32 and 2 ^ 16
pub number_4_fits : (a b c d : ℕ) (rest : List ℕ) → a < 256 → b < 256 → c < 256 → d < 256 → big_number 4 (a ∷ b ∷ c ∷ d ∷ rest) < 2 ^ 32
number_4_fits a b c d rest ha hb hc hd = omega arith

pub number_2_fits : (a b : ℕ) (rest : List ℕ) → a < 256 → b < 256 → big_number 2 (a ∷ b ∷ rest) < 2 ^ 16
number_2_fits a b rest ha hb = omega arith
