-- Exclusive-or of lists of bytes, by place.
use Rattle.std.specs.Prelude.{ℕ, Bool, ◌==◌, List, [], ◌∷◌, bit_xor, replicate}
use Rattle.std.specs.List.{list_all}

-- the exclusive-or of two lists by place; where one is longer, its rest stands as it is
abbrev pub xor : List ℕ → List ℕ → List ℕ
xor [] ys = ys
xor (x ∷ xs) [] = x ∷ xs
xor (x ∷ xs) (y ∷ ys) = bit_xor x y ∷ xor xs ys

-- so many zero bytes
abbrev pub zeros : ℕ → List ℕ
zeros n = replicate n 0

-- the exclusive-or of any number of blocks of n bytes; of none it is zeros
abbrev pub xor_all : ℕ → List (List ℕ) → List ℕ
xor_all n [] = zeros n
xor_all n (b ∷ bs) = xor b (xor_all n bs)

-- all bytes are zero
abbrev pub is_zero : List ℕ → Bool
is_zero bytes = list_all (λ b. b == 0) bytes
