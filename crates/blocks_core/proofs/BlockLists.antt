-- Blocks within bytes: slices of slices, what a put leaves, and exclusive-or block by block.
use Rattle.std.proofs.Common.{◌≡◌, ℕ, zero, suc, ◌+◌, ◌-◌, ◌*◌, ◌<◌, ◌≤◌, ◌⊎◌, inl, inr, List, [], ◌∷◌, ◌++◌, length, take, drop, refl, ap, sym, ◌∙◌, arith}
use Rattle.std.specs.Prelude.{bit_xor}
use Rattle.std.proofs.Math.Nat.{add-mul, suc-mul}
use Rattle.std.proofs.lemmas.Nat.{mul-le}
use Rattle.std.proofs.Math.Seq.{take-add}
use Rattle.std.proofs.lemmas.List.{append_assoc, length-take-le, length-drop, length-append, drop-take, take-take, drop-drop, drop-append-le, take-append-le, drop_at, take-replicate, drop-replicate}
use Rattle.blocks_core.specs.Xor.{xor, zeros}
use Rattle.blocks_core.proofs.XorLaws.{xor-nil_r, xor-front, length-xor_front}
use Rattle.blocks_core.specs.Lists.{slice, put, block_at}

pub length-slice : (bytes : List ℕ) (at len : ℕ) → at + len ≤ length bytes → length (slice bytes at len) ≡ len
length-slice bytes at len h = length-take-le len (drop at bytes) (omega (arith, length-drop at bytes))

-- bytes put inside a list leave its length
pub length-put : (old : List ℕ) (at : ℕ) (bytes : List ℕ) → at + length bytes ≤ length old → length (put old at bytes) ≡ length old
length-put old at bytes h =
    let front : length (take at old ++ bytes) ≡ at + length bytes =
    length-append (take at old) bytes ∙ ap (λ n. n + length bytes) (length-take-le at old (omega arith)) in
    omega (arith, length-append (take at old ++ bytes) (drop (at + length bytes) old), front, length-drop (at + length bytes) old)

pub slice-slice : (l : List ℕ) (at n i k : ℕ) → i + k ≤ n → slice (slice l at n) i k ≡ slice l (at + i) k
slice-slice l at n i k h =
    ap (λ m. take k (drop i (take m (drop at l)))) whole
    ∙ ap (take k) (drop-take i (n - i) (drop at l))
    ∙ take-take k (n - i) (drop i (drop at l)) (omega arith)
    ∙ ap (take k) (drop-drop i at l)
  where
    whole : n ≡ i + (n - i)
    whole = omega arith

pub slice-zeros : (n at k : ℕ) → at + k ≤ n → slice (zeros n) at k ≡ zeros k
slice-zeros n at k h = ap (take k) (drop-replicate at n 0) ∙ take-replicate k (n - at) 0 (omega arith)

-- a slice before the bytes that were put
pub slice-put_before : (old : List ℕ) (at : ℕ) (bytes : List ℕ) (i k : ℕ) → at ≤ length old → i + k ≤ at →
    slice (put old at bytes) i k ≡ slice old i k
slice-put_before old at bytes i k h below =
    ap (λ l. take k (drop i l)) (append_assoc (take at old) bytes rest)
    ∙ ap (take k) (drop-append-le i (take at old) (bytes ++ rest) (omega (arith, front)))
    ∙ take-append-le k (drop i (take at old)) (bytes ++ rest) (omega (arith, front, length-drop i (take at old)))
    ∙ slice-slice old 0 at i k below ∙ ap (λ m. slice old m k) none
  where
    rest : List ℕ
    rest = drop (at + length bytes) old

    front : length (take at old) ≡ at
    front = length-take-le at old h

    none : 0 + i ≡ i
    none = omega arith

-- a slice of the bytes that were put
pub slice-put_in : (old : List ℕ) (at : ℕ) (bytes : List ℕ) (i k : ℕ) → at ≤ length old → i + k ≤ length bytes →
    slice (put old at bytes) (at + i) k ≡ slice bytes i k
slice-put_in old at bytes i k h within =
    ap (λ l. take k (drop (at + i) l)) (append_assoc (take at old) bytes rest)
    ∙ ap (take k) (sym (drop-drop i at (take at old ++ (bytes ++ rest))))
    ∙ ap (λ l. take k (drop i l)) (drop_at (take at old) (bytes ++ rest) at (length-take-le at old h))
    ∙ ap (take k) (drop-append-le i bytes rest (omega arith))
    ∙ take-append-le k (drop i bytes) rest (omega (arith, length-drop i bytes))
  where
    rest : List ℕ
    rest = drop (at + length bytes) old

-- a slice after them
pub slice-put_after : (old : List ℕ) (at : ℕ) (bytes : List ℕ) (i k : ℕ) → at ≤ length old → at + length bytes ≤ i →
    slice (put old at bytes) i k ≡ slice old i k
slice-put_after old at bytes i k h above =
    ap (λ n. take k (drop n (put old at bytes))) whole
    ∙ ap (take k) (sym (drop-drop (i - end) end (put old at bytes)))
    ∙ ap (λ l. take k (drop (i - end) l)) (drop_at (take at old ++ bytes) (drop end old) end (length-append (take at old) bytes ∙ ap (λ n. n + length bytes) (length-take-le at old h)))
    ∙ ap (take k) (drop-drop (i - end) end old)
    ∙ ap (λ n. take k (drop n old)) (sym whole)
  where
    end : ℕ
    end = at + length bytes

    whole : i ≡ at + length bytes + (i - (at + length bytes))
    whole = omega arith

pub take-xor : (k : ℕ) (x y : List ℕ) → take k (xor x y) ≡ xor (take k x) (take k y)
take-xor zero x y = refl
take-xor (suc k) [] y = refl
take-xor (suc k) (a ∷ x) [] = refl
take-xor (suc k) (a ∷ x) (b ∷ y) = ap (λ t. bit_xor a b ∷ t) (take-xor k x y)

pub drop-xor : (k : ℕ) (x y : List ℕ) → drop k (xor x y) ≡ xor (drop k x) (drop k y)
drop-xor zero x y = refl
drop-xor (suc k) [] y = refl
drop-xor (suc k) (a ∷ x) [] = sym (xor-nil_r (drop k x))
drop-xor (suc k) (a ∷ x) (b ∷ y) = drop-xor k x y

pub slice-xor : (x y : List ℕ) (at k : ℕ) → slice (xor x y) at k ≡ xor (slice x at k) (slice y at k)
slice-xor x y at k = ap (take k) (drop-xor at x y) ∙ take-xor k (drop at x) (drop at y)

pub block_at-xor : (b : ℕ) (x y : List ℕ) (k : ℕ) → block_at b (xor x y) k ≡ xor (block_at b x k) (block_at b y k)
block_at-xor b x y k = slice-xor x y (k * b) b

-- a block ends where the next one begins, at the latest where the bytes end
pub block_end : (b k n : ℕ) → k < n → k * b + b ≤ n * b
block_end b k n h = omega (arith, mul-le (k + 1) b n b (omega arith) (omega arith), add-mul k 1 b)

pub length-block_at : (b : ℕ) (l : List ℕ) (k n : ℕ) → n * b ≤ length l → k < n → length (block_at b l k) ≡ b
length-block_at b l k n h below = length-slice l (k * b) b (omega (arith, block_end b k n below))

pub block_at-zeros : (b n k : ℕ) → k < n → block_at b (zeros (n * b)) k ≡ zeros b
block_at-zeros b n k h = slice-zeros (n * b) (k * b) b (block_end b k n h)

-- a block of the bytes that were put, from block at on
pub block_at-put_in : (b : ℕ) (old : List ℕ) (at : ℕ) (bytes : List ℕ) (count j : ℕ) → at * b ≤ length old → length bytes ≡ count * b → j < count →
    block_at b (put old (at * b) bytes) (at + j) ≡ block_at b bytes j
block_at-put_in b old at bytes count j h len below =
    ap (λ n. slice (put old (at * b) bytes) n b) (add-mul at j b)
    ∙ slice-put_in old (at * b) bytes (j * b) b h (omega (arith, block_end b j count below))

-- a block beside them
pub block_at-put_out : (b : ℕ) (old : List ℕ) (at : ℕ) (bytes : List ℕ) (count k : ℕ) → at * b ≤ length old → length bytes ≡ count * b →
    ((k < at) ⊎ (at + count ≤ k)) → block_at b (put old (at * b) bytes) k ≡ block_at b old k
block_at-put_out b old at bytes count k h len (inl below) = slice-put_before old (at * b) bytes (k * b) b h (block_end b k at below)
block_at-put_out b old at bytes count k h len (inr above) =
    slice-put_after old (at * b) bytes (k * b) b h (omega (arith, add-mul at count b, mul-le (at + count) b k b above (omega arith)))

-- a block of a slice of whole blocks
pub block_at-slice : (b : ℕ) (l : List ℕ) (at count j : ℕ) → j < count → block_at b (slice l (at * b) (count * b)) j ≡ block_at b l (at + j)
block_at-slice b l at count j h =
    slice-slice l (at * b) (count * b) (j * b) b (block_end b j count h) ∙ ap (λ n. slice l n b) (sym (add-mul at j b))

-- one block and the blocks after it
slice-suc : (b count : ℕ) (l : List ℕ) (i : ℕ) → slice l (i * b) (suc count * b) ≡ block_at b l i ++ slice l ((i + 1) * b) (count * b)
slice-suc b count l i =
    ap (λ n. take n (drop (i * b) l)) size ∙ take-add b (count * b) (drop (i * b) l)
    ∙ ap (λ t. block_at b l i ++ take (count * b) t) (drop-drop b (i * b) l ∙ ap (λ n. drop n l) next)
  where
    size : suc count * b ≡ b + count * b
    size = omega (arith, suc-mul count b)

    next : i * b + b ≡ (i + 1) * b
    next = omega (arith, add-mul i 1 b)

-- slices of whole blocks are equal if their blocks are
pub slices_by_blocks : (b count : ℕ) (x y : List ℕ) (at to : ℕ) → ((j : ℕ) → j < count → block_at b x (at + j) ≡ block_at b y (to + j)) →
    slice x (at * b) (count * b) ≡ slice y (to * b) (count * b)
slices_by_blocks b zero x y at to same = ap (λ n. take n (drop (at * b) x)) none ∙ sym (ap (λ n. take n (drop (to * b) y)) none)
  where
    none : 0 * b ≡ 0
    none = omega arith
slices_by_blocks b (suc count) x y at to same =
    slice-suc b count x at
    ∙ ap (λ t. t ++ slice x ((at + 1) * b) (count * b)) (ap (block_at b x) (omega arith) ∙ same 0 (omega arith) ∙ ap (block_at b y) (omega arith))
    ∙ ap (λ t. block_at b y to ++ t)
    (slices_by_blocks b count x y (at + 1) (to + 1) (λ j h. ap (block_at b x) (omega arith) ∙ same (j + 1) (omega arith) ∙ ap (block_at b y) (omega arith)))
    ∙ sym (slice-suc b count y to)

-- an exclusive-or with the first bytes, put in their place
pub put-front : (a b : List ℕ) → length b ≤ length a → put a 0 (xor (slice a 0 (length b)) b) ≡ xor a b
put-front a b le =
    let taken : length (take (length b) a) ≡ length b = length-take-le (length b) a le in
    let len : 0 + length (xor (take (length b) a) b) ≡ length b = omega (arith, length-xor_front (take (length b) a) b (omega arith), taken) in
    rw len (xor-front a b le)
