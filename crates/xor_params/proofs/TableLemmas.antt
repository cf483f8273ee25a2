-- Descriptors as sixteen bytes each, against the bytes that they were cut from.
use Rattle.std.proofs.Common.{◌≡◌, ℕ, zero, suc, ◌+◌, ◌*◌, ◌<◌, Bool, List, [], ◌∷◌, length, get_or, take, drop, refl, sym, ap, ◌∙◌, arith}
use Rattle.std.specs.Prelude.{bit_and}
use Rattle.std.specs.Simd.{first_chunks}
use Rattle.std.specs.Int.{w32, to_be_bytes}
use Rattle.std.proofs.lemmas.List.{get_or-take, get_or-drop, length-drop, take-take, drop-take}
use Rattle.std.proofs.lemmas.Nat.{be_bytes_4}
use Rattle.cdb_fields.specs.Fields.{number_at}
use Rattle.xor_params.specs.ParameterLists.{descriptor, reserved_bits, wrong_bits, announced_sources, HasHead, due, OffendsFirst}
use Rattle.xor_params.specs.Tables.{HasPlaces, wrong_bits_at, IsClean, IsLowestOffence}
use Rattle.cdb_fields.proofs.Cells.{cells, cells_from, whole}
use Rattle.cdb_fields.proofs.Masks.{all_reserved}

-- so many pieces
pub length-chunks : (n k : ℕ) (xs : List ℕ) → length (first_chunks n k xs) ≡ k
length-chunks n zero xs = refl
length-chunks n (suc k) xs = ap suc (length-chunks n k (drop n xs))

-- what follows the pieces is nothing to them
pub chunks-of-front : (k : ℕ) (xs : List ℕ) → first_chunks 16 k (take (16 * k) xs) ≡ first_chunks 16 k xs
chunks-of-front zero xs = refl
chunks-of-front (suc k) xs =
    let sum : 16 + 16 * k ≡ 16 * suc k = omega arith in
    let first : take 16 (take (16 * suc k) xs) ≡ take 16 xs = take-take 16 (16 * suc k) xs (omega arith) in
    let others : drop 16 (take (16 * suc k) xs) ≡ take (16 * k) (drop 16 xs) = ap (λ m. drop 16 (take m xs)) (sym sum) ∙ drop-take 16 (16 * k) xs in
    ap (λ (t : List ℕ). t ∷ first_chunks 16 k (drop 16 (take (16 * suc k) xs))) first
    ∙ ap (λ (t : List (List ℕ)). take 16 xs ∷ t) (ap (λ (t : List ℕ). first_chunks 16 k t) others ∙ chunks-of-front k (drop 16 xs))

-- a byte of a piece stands behind the pieces before it
pub byte_of_piece : (n k i : ℕ) (xs : List ℕ) → k < n → i < 16 → get_or (get_or (first_chunks 16 n xs) k []) i 0 ≡ get_or xs (16 * k + i) 0
byte_of_piece zero k i xs h l = absurd (omega arith)
byte_of_piece (suc n) zero i xs h l =
    let same : i ≡ 16 * 0 + i = omega arith in
    get_or-take 16 xs i 0 l ∙ ap (λ j. get_or xs j 0) same
byte_of_piece (suc n) (suc k) i xs h l =
    let same : 16 + (16 * k + i) ≡ 16 * suc k + i = omega arith in
    byte_of_piece n k i (drop 16 xs) (omega arith) l ∙ get_or-drop 16 xs (16 * k + i) 0 ∙ ap (λ j. get_or xs j 0) same

-- the source that is read from sixteen bytes without a wrong bit is spelled by them
pub source_spells : (bytes : List ℕ) (target lba : ℕ) → length bytes ≡ 16 → ((i : ℕ) → get_or bytes i 0 < 256)
    → ((i : ℕ) → i < 16 → bit_and (get_or reserved_bits i 0) (get_or bytes i 0) ≡ 0)
    → target ≡ number_at 7 1 bytes → lba ≡ number_at 12 4 bytes
    → descriptor (record { target = target; lba = lba }) ≡ bytes
source_spells bytes target lba len fits clean t l =
    let zero_at = λ (i : ℕ) (h : i < 16) (e : get_or reserved_bits i 0 ≡ 255). all_reserved (get_or bytes i 0) (fits i) (ap (λ m. bit_and m (get_or bytes i 0)) (sym e) ∙ clean i h) in
    let z0 : get_or bytes 0 0 ≡ 0 = zero_at 0 (omega arith) refl in
    let z1 : get_or bytes 1 0 ≡ 0 = zero_at 1 (omega arith) refl in
    let z2 : get_or bytes 2 0 ≡ 0 = zero_at 2 (omega arith) refl in
    let z3 : get_or bytes 3 0 ≡ 0 = zero_at 3 (omega arith) refl in
    let z4 : get_or bytes 4 0 ≡ 0 = zero_at 4 (omega arith) refl in
    let z5 : get_or bytes 5 0 ≡ 0 = zero_at 5 (omega arith) refl in
    let z6 : get_or bytes 6 0 ≡ 0 = zero_at 6 (omega arith) refl in
    let target_is : get_or bytes 7 0 ≡ target = omega (arith, t, get_or-drop 7 bytes 0 0) in
    let z8 : get_or bytes 8 0 ≡ 0 = zero_at 8 (omega arith) refl in
    let z9 : get_or bytes 9 0 ≡ 0 = zero_at 9 (omega arith) refl in
    let z10 : get_or bytes 10 0 ≡ 0 = zero_at 10 (omega arith) refl in
    let z11 : get_or bytes 11 0 ≡ 0 = zero_at 11 (omega arith) refl in
    let tail : to_be_bytes w32 lba ≡ drop 12 bytes =
    be_bytes_4 (drop 12 bytes) lba (omega (arith, length-drop 12 bytes)) (λ j. rw get_or-drop (fits (12 + j))) (omega arith) in
    let last : to_be_bytes w32 lba ≡ cells 12 4 bytes = tail ∙ cells_from 4 12 bytes len in
    let all : bytes ≡ cells 0 16 bytes = whole 16 bytes len in
    cc

-- the same bits are wrong in the bytes and in the table cut from them
same_bits : (bytes : List ℕ) (table : List (List ℕ)) → HasPlaces bytes table → (k i : ℕ) → k < length table → i < 16 → wrong_bits_at table k i ≡ wrong_bits bytes k i
same_bits bytes table places k i h l = ap (λ b. bit_and (get_or reserved_bits i 0) b) (places k i h l)

pub bytes_are_clean : (bytes : List ℕ) (table : List (List ℕ)) → length table ≡ announced_sources bytes → HasPlaces bytes table → IsClean table
    → (k i : ℕ) → k < announced_sources bytes → i < 16 → wrong_bits bytes k i ≡ 0
bytes_are_clean bytes table len places clean k i h l =
    let inside : k < length table = omega (arith, len) in
    sym (same_bits bytes table places k i inside l) ∙ clean k i inside l

pub lowest_of_bytes : (bytes : List ℕ) (intdata : Bool) (wanted : ℕ) (table : List (List ℕ)) (at : ℕ) → HasHead bytes → length bytes ≡ due bytes intdata wanted
    → length table ≡ announced_sources bytes → HasPlaces bytes table → IsLowestOffence table at → OffendsFirst bytes intdata wanted (4 + at)
lowest_of_bytes bytes intdata wanted table at head whole len places low = record {
  head = head;
  whole = whole;
  number = low.number;
  inner = low.inner;
  within = omega (arith, len, low.within);
  inside = low.inside;
  at = omega (arith, low.place);
  offends = λ e. low.offends (same_bits bytes table places low.number low.inner low.within low.inside ∙ e);
  lowest = λ k i l h.
      let before : 16 * k + i < at = omega arith in
      let inside : k < length table = omega (arith, low.place, low.within, low.inside) in
      sym (same_bits bytes table places k i inside l) ∙ low.lowest k i l before;
}
