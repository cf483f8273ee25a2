-- Bytes put over a list from a place on, and behind it where they reach past its end.
use Rattle.std.proofs.Common.{◌≡◌, ℕ, zero, suc, ◌+◌, ◌-◌, ◌<◌, ◌≤◌, List, [], ◌∷◌, ◌++◌, length, take, drop, min, refl, ap, sym, ◌∙◌, arith, append_assoc, ⊎_elim, length-drop, length-take}
use Rattle.std.proofs.lemmas.List.{take_all, drop_all, take_min, drop_min, append-nil, drop-drop, take-append-le, drop-append-le}
use Rattle.std.proofs.lemmas.Bool.{cases_lt}
use Rattle.std.specs.Prelude.{bit_xor}
use Rattle.blocks_core.specs.Xor.{xor}
use Rattle.blocks_core.specs.Lists.{slice, put}
use Rattle.blocks_core.proofs.XorLaws.{length-xor_le}

-- what stands behind the shorter list stays
pub xor-longer : (a b : List ℕ) (k : ℕ) → k ≡ length a → length a ≤ length b → xor a (take k b) ++ drop k b ≡ xor a b
xor-longer [] b k e le = rw e refl
xor-longer (x ∷ a) [] k e le = let no : ⊥ = omega arith in absurd no
xor-longer (x ∷ a) (y ∷ b) zero e le = let no : ⊥ = omega arith in absurd no
xor-longer (x ∷ a) (y ∷ b) (suc k) e le = ap (λ t. bit_xor x y ∷ t) (xor-longer a b k (omega arith) (omega arith))

-- the exclusive-or with what stands there, and the bytes behind it
pub folded_and_behind : (back bytes : List ℕ) (k : ℕ) → k ≡ min (length bytes) (length back) →
    xor (take k back) (take k bytes) ++ drop k back ++ drop k bytes ≡ xor (take (length bytes) back) bytes ++ drop (length bytes) back
folded_and_behind back bytes k e = ⊎_elim longer within (cases_lt (length back) (length bytes))
  where
    longer : length back < length bytes → xor (take k back) (take k bytes) ++ drop k back ++ drop k bytes ≡ xor (take (length bytes) back) bytes ++ drop (length bytes) back
    longer lt =
        let k-is : k ≡ length back = omega (arith, e) in
        rw (
          take_all k back (omega arith),
          drop_all k back (omega arith),
          take_all (length bytes) back (omega arith),
          drop_all (length bytes) back (omega arith),
          append-nil (xor back (take k bytes)),
          append-nil (xor back bytes),
        )
        (xor-longer back bytes k k-is (omega arith))

    within : length bytes ≤ length back → xor (take k back) (take k bytes) ++ drop k back ++ drop k bytes ≡ xor (take (length bytes) back) bytes ++ drop (length bytes) back
    within le =
        let k-is : k ≡ length bytes = omega (arith, e) in
        rw (k-is, take_all (length bytes) bytes (omega arith), drop_all (length bytes) bytes (omega arith)) (append-nil _)

-- the parts of a fold that may reach past the end
pub fold-parts : (old bytes : List ℕ) (at start over : ℕ) → start ≡ min at (length old) → over ≡ min (length bytes) (length old - start) →
    put old start (xor (slice old start (length (take over bytes))) (take over bytes)) ++ drop over bytes ≡ put old at (xor (slice old at (length bytes)) bytes)
fold-parts old bytes at start over e f =
    let front : take at old ≡ take start old = sym (take_min at old) ∙ ap (λ n. take n old) (sym e) in
    let back : drop at old ≡ drop start old = sym (drop_min at old) ∙ ap (λ n. drop n old) (sym e) in
    let fits : over ≡ min (length bytes) (length (drop start old)) = omega (arith, length-drop start old) in
    let part_len : length (take over bytes) ≡ over = omega (arith, length-take over bytes) in
    let low_len : length (slice old start over) ≡ over = omega (arith, length-take over (drop start old), length-drop start old) in
    let small : length (xor (slice old start over) (take over bytes)) ≡ over = length-xor_le (slice old start over) (take over bytes) (omega arith) ∙ part_len in
    let whole : length (xor (slice old at (length bytes)) bytes) ≡ length bytes =
    length-xor_le (slice old at (length bytes)) bytes (omega (arith, length-take (length bytes) (drop at old))) in
    let low_end : drop (start + length (xor (slice old start over) (take over bytes))) old ≡ drop over (drop start old) = rw small (sym (drop-drop over start old)) in
    let high_end : drop (at + length (xor (slice old at (length bytes)) bytes)) old ≡ drop (length bytes) (drop start old) =
    rw whole (sym (drop-drop (length bytes) at old) ∙ ap (λ xs. drop (length bytes) xs) back) in
    let parts = folded_and_behind (drop start old) bytes over fits in
    rw (part_len, low_end, high_end, front, back) (simp append_assoc (ap (λ xs. take start old ++ xs) (simp append_assoc at parts)))

-- ---- what stands within a list stands in a longer one

slice-within : (old behind : List ℕ) (at len : ℕ) → at + len ≤ length old → slice (old ++ behind) at len ≡ slice old at len
slice-within old behind at len fits =
    ap (λ xs. take len xs) (drop-append-le at old behind (omega arith)) ∙ take-append-le len (drop at old) behind (omega (arith, length-drop at old))

put-within : (old behind bytes : List ℕ) (at : ℕ) → at + length bytes ≤ length old → put (old ++ behind) at bytes ≡ put old at bytes ++ behind
put-within old behind bytes at fits =
    rw (take-append-le at old behind (omega arith), drop-append-le (at + length bytes) old behind (omega arith)) (simp append_assoc refl)

-- a fold into bytes that others were put behind
pub fold-late : (old bytes : List ℕ) (at start over : ℕ) → start ≡ min at (length old) → over ≡ min (length bytes) (length old - start) →
    put (old ++ drop over bytes) start (xor (slice (old ++ drop over bytes) start (length (take over bytes))) (take over bytes))
    ≡ put old at (xor (slice old at (length bytes)) bytes)
fold-late old bytes at start over e f =
    let part_len : length (take over bytes) ≡ over = omega (arith, length-take over bytes) in
    let low_len : length (slice old start over) ≡ over = omega (arith, length-take over (drop start old), length-drop start old) in
    let small : length (xor (slice old start over) (take over bytes)) ≡ over = length-xor_le (slice old start over) (take over bytes) (omega arith) ∙ part_len in
    let read : slice (old ++ drop over bytes) start (length (take over bytes)) ≡ slice old start (length (take over bytes)) =
    slice-within old (drop over bytes) start (length (take over bytes)) (omega arith) in
    let within : start + length (xor (slice old start (length (take over bytes))) (take over bytes)) ≤ length old = rw part_len (omega arith) in
    ap (λ xs. put (old ++ drop over bytes) start (xor xs (take over bytes))) read
    ∙ put-within old (drop over bytes) (xor (slice old start (length (take over bytes))) (take over bytes)) start within
    ∙ fold-parts old bytes at start over e f
