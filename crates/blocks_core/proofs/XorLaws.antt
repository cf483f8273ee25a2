-- The laws of the exclusive-or of lists.
use Rattle.std.proofs.Common.{◌≡◌, ℕ, zero, suc, ◌<◌, ◌≤◌, List, [], ◌∷◌, ◌++◌, length, get_or, take, drop, min, set, refl, ap, sym, ◌∙◌, arith}
use Rattle.std.specs.Prelude.{bit_xor}
use Rattle.std.specs.Int.Bits.{xor_assoc, xor_self, xor_zero_l, xor_zero_r}
use Rattle.std.proofs.lemmas.Nat.{xor_comm}
use Rattle.std.proofs.lemmas.List.{append-nil, length-replicate}
use Rattle.blocks_core.specs.Xor.{xor, zeros, xor_all}

-- nothing with a list is the list
pub xor-nil_r : (a : List ℕ) → xor a [] ≡ a
xor-nil_r [] = refl
xor-nil_r (x ∷ a) = refl

pub xor-assoc : (a b c : List ℕ) → xor (xor a b) c ≡ xor a (xor b c)
xor-assoc [] b c = refl
xor-assoc (x ∷ a) [] c = refl
xor-assoc (x ∷ a) (y ∷ b) [] = refl
xor-assoc (x ∷ a) (y ∷ b) (z ∷ c) =
    ap (λ h. h ∷ xor (xor a b) c) (xor_assoc x y z) ∙ ap (λ t. bit_xor x (bit_xor y z) ∷ t) (xor-assoc a b c)

pub xor-comm : (a b : List ℕ) → xor a b ≡ xor b a
xor-comm [] [] = refl
xor-comm [] (y ∷ b) = refl
xor-comm (x ∷ a) [] = refl
xor-comm (x ∷ a) (y ∷ b) =
    ap (λ h. h ∷ xor a b) (xor_comm x y) ∙ ap (λ t. bit_xor y x ∷ t) (xor-comm a b)

pub xor-self : (a : List ℕ) → xor a a ≡ zeros (length a)
xor-self [] = refl
xor-self (x ∷ a) = ap (λ h. h ∷ xor a a) (xor_self x) ∙ ap (λ t. 0 ∷ t) (xor-self a)

-- zeros that are no longer than the list change nothing
pub xor-zeros_r : (a : List ℕ) → xor a (zeros (length a)) ≡ a
xor-zeros_r [] = refl
xor-zeros_r (x ∷ a) = ap (λ h. h ∷ xor a (zeros (length a))) (xor_zero_r x) ∙ ap (λ t. x ∷ t) (xor-zeros_r a)

pub xor-undone : (a b : List ℕ) → length a ≡ length b → xor (xor a b) b ≡ a
xor-undone a b e =
    xor-assoc a b b ∙ ap (xor a) (xor-self b ∙ ap zeros (sym e)) ∙ xor-zeros_r a

pub length-xor : (a b : List ℕ) → length a ≡ length b → length (xor a b) ≡ length a
length-xor [] [] e = refl
length-xor [] (y ∷ b) e = sym e
length-xor (x ∷ a) [] e = refl
length-xor (x ∷ a) (y ∷ b) e = ap suc (length-xor a b (omega arith))

-- the byte at a place is the exclusive-or of the bytes there
pub get_or-xor : (a b : List ℕ) (k : ℕ) → get_or (xor a b) k 0 ≡ bit_xor (get_or a k 0) (get_or b k 0)
get_or-xor [] [] k = sym (xor_zero_l 0)
get_or-xor [] (y ∷ b) k = sym (xor_zero_l (get_or (y ∷ b) k 0))
get_or-xor (x ∷ a) [] k = sym (xor_zero_r (get_or (x ∷ a) k 0))
get_or-xor (x ∷ a) (y ∷ b) zero = refl
get_or-xor (x ∷ a) (y ∷ b) (suc k) = get_or-xor a b k

-- one more place of a loop that folds a list into another
pub xor-one_more : (s t : List ℕ) (i : ℕ) → i < length s → length s ≡ length t →
    take (suc i) (set s i (bit_xor (get_or s i 0) (get_or t i 0))) ++ xor (drop (suc i) (set s i (bit_xor (get_or s i 0) (get_or t i 0)))) (drop (suc i) t)
    ≡ take i s ++ xor (drop i s) (drop i t)
xor-one_more [] t i h e = absurd (omega arith)
xor-one_more (x ∷ s) [] i h e = absurd (omega arith)
xor-one_more (x ∷ s) (y ∷ t) zero h e = refl
xor-one_more (x ∷ s) (y ∷ t) (suc i) h e = ap (λ l. x ∷ l) (xor-one_more s t i (omega arith) (omega arith))

-- zeros of the same length change nothing
pub xor-zeros : (b : ℕ) (x : List ℕ) → length x ≡ b → xor x (zeros b) ≡ x
xor-zeros b x h = ap (λ n. xor x (zeros n)) (sym h) ∙ xor-zeros_r x

pub xor-zeros_l : (b : ℕ) (x : List ℕ) → length x ≡ b → xor (zeros b) x ≡ x
xor-zeros_l b x h = xor-comm (zeros b) x ∙ xor-zeros b x h

pub zeros-zeros : (b : ℕ) → xor (zeros b) (zeros b) ≡ zeros b
zeros-zeros b = xor-zeros b (zeros b) (length-replicate b 0)

-- what two lists differ by, put onto the first, gives the second
pub xor-delta : (b : ℕ) (old new : List ℕ) → length old ≡ b → length new ≡ b → xor old (xor old new) ≡ new
xor-delta b old new h k = sym (xor-assoc old old new) ∙ ap (λ z. xor z new) (xor-self old ∙ ap zeros h) ∙ xor-zeros_l b new k

-- the order of a change and the rest is free
pub xor-swap : (x y z : List ℕ) → xor (xor x y) z ≡ xor (xor x z) y
xor-swap x y z = xor-assoc x y z ∙ ap (xor x) (xor-comm y z) ∙ sym (xor-assoc x z y)

-- zeros that are no longer than the list, before it
pub xor-zeros_front : (n : ℕ) (a : List ℕ) → n ≤ length a → xor (zeros n) a ≡ a
xor-zeros_front zero a le = refl
xor-zeros_front (suc n) [] le = let no : ⊥ = omega arith in absurd no
xor-zeros_front (suc n) (x ∷ a) le = ap (λ h. h ∷ xor (zeros n) a) (xor_zero_l x) ∙ ap (λ t. x ∷ t) (xor-zeros_front n a (omega arith))

-- what stands behind the shorter list stays
pub xor-front : (a b : List ℕ) → length b ≤ length a → xor (take (length b) a) b ++ drop (length b) a ≡ xor a b
xor-front a [] le = sym (xor-nil_r a)
xor-front [] (y ∷ b) le = let no : ⊥ = omega arith in absurd no
xor-front (x ∷ a) (y ∷ b) le = ap (λ t. bit_xor x y ∷ t) (xor-front a b (omega arith))

-- what reaches past the end may be put behind it first
pub xor-late : (a b : List ℕ) (within : ℕ) → within ≡ min (length b) (length a) → xor (a ++ drop within b) (take within b) ≡ xor a b
xor-late [] b zero e = xor-nil_r b
xor-late [] b (suc n) e = let no : ⊥ = omega arith in absurd no
xor-late (x ∷ a) [] zero e = ap (λ t. x ∷ t) (append-nil a)
xor-late (x ∷ a) [] (suc n) e = let no : ⊥ = omega arith in absurd no
xor-late (x ∷ a) (y ∷ b) zero e = let no : ⊥ = omega arith in absurd no
xor-late (x ∷ a) (y ∷ b) (suc n) e = ap (λ t. bit_xor x y ∷ t) (xor-late a b n (omega arith))

-- the longer of two lists tells the length
pub length-xor_le : (a b : List ℕ) → length a ≤ length b → length (xor a b) ≡ length b
length-xor_le [] b le = refl
length-xor_le (x ∷ a) [] le = let no : ⊥ = omega arith in absurd no
length-xor_le (x ∷ a) (y ∷ b) le = ap suc (length-xor_le a b (omega arith))

pub length-xor_front : (a b : List ℕ) → length b ≤ length a → length (xor a b) ≡ length a
length-xor_front [] [] le = refl
length-xor_front [] (y ∷ b) le = let no : ⊥ = omega arith in absurd no
length-xor_front (x ∷ a) [] le = refl
length-xor_front (x ∷ a) (y ∷ b) le = ap suc (length-xor_front a b (omega arith))

length-xor_ge : (a b : List ℕ) → length b ≤ length (xor a b)
length-xor_ge [] b = omega arith
length-xor_ge (x ∷ a) [] = omega arith
length-xor_ge (x ∷ a) (y ∷ b) = let h = length-xor_ge a b in omega arith

length-zeros : (n : ℕ) → n ≤ length (zeros n)
length-zeros zero = omega arith
length-zeros (suc n) = let h = length-zeros n in omega arith

-- the exclusive-or of any number of blocks is no shorter than a block
pub length-xor_all : (n : ℕ) (bs : List (List ℕ)) → n ≤ length (xor_all n bs)
length-xor_all n [] = length-zeros n
length-xor_all n (b ∷ bs) = let h = length-xor_all n bs in let k = length-xor_ge b (xor_all n bs) in omega arith
