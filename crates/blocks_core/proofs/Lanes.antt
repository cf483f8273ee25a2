-- Lanes of bytes: what is loaded, folded and stored again.
use Rattle.std.proofs.Common.{◌≡◌, ℕ, zero, suc, ◌+◌, ◌-◌, ◌≤◌, List, [], ◌∷◌, ◌++◌, length, take, drop, refl, ap, sym, ◌∙◌, arith}
use Rattle.std.specs.Prelude.{bit_xor}
use Rattle.std.specs.Simd.Lanes.{zip2, put_chunk}
use Rattle.std.proofs.lemmas.Simd.{put_chunk_is}
use Rattle.std.proofs.lemmas.List.{append_assoc, drop-drop, length-take-le, length-drop, drop_all, take_all, append-nil}
use borrow.Rule.Slice.PartMut.{put_mid}
use Rattle.blocks_core.specs.Xor.{xor}
use Rattle.blocks_core.specs.Lists.{slice, put}
use Rattle.blocks_core.proofs.XorLaws.{xor-nil_r, length-xor}
use Rattle.blocks_core.proofs.BlockLists.{put-front, length-slice}

-- two vectors are folded by place
zip2-xor : (a b : List ℕ) → length a ≡ length b → zip2 bit_xor a b ≡ xor a b
zip2-xor [] [] e = refl
zip2-xor [] (y ∷ b) e = let no : ⊥ = omega arith in absurd no
zip2-xor (x ∷ a) [] e = let no : ⊥ = omega arith in absurd no
zip2-xor (x ∷ a) (y ∷ b) e = ap (λ t. bit_xor x y ∷ t) (zip2-xor a b (omega arith))

-- what a lane is stored over is what was put there
put_chunk-put : (old : List ℕ) (at : ℕ) (lane : List ℕ) → at + length lane ≤ length old → put_chunk at old lane ≡ put old at lane
put_chunk-put old at lane h =
    put_chunk_is at old lane h ∙ ap (λ t. take at old ++ (lane ++ t)) (drop-drop (length lane) at old)
    ∙ sym (append_assoc (take at old) lane (drop (at + length lane) old))

pub stored-lane : (old from : List ℕ) (at lane : ℕ) → at + lane ≤ length old → at + lane ≤ length from →
    put_chunk at old (zip2 bit_xor (slice old at lane) (slice from at lane)) ≡ put old at (xor (slice old at lane) (slice from at lane))
stored-lane old from at lane h k =
    ap (put_chunk at old) (zip2-xor a b (la ∙ sym lb))
    ∙ put_chunk-put old at (xor a b) (omega (arith, length-xor a b (la ∙ sym lb), la))
  where
    a : List ℕ
    a = slice old at lane

    b : List ℕ
    b = slice from at lane

    la : length a ≡ lane
    la = length-slice old at lane h

    lb : length b ≡ lane
    lb = length-slice from at lane k

-- bytes that are put behind the first byte leave it
put-suc : (first : ℕ) (old : List ℕ) (at : ℕ) (bytes : List ℕ) → put (first ∷ old) (suc at) bytes ≡ first ∷ put old at bytes
put-suc first old at bytes = ap (λ n. take (suc at) (first ∷ old) ++ bytes ++ drop n (first ∷ old)) next
  where
    next : suc at + length bytes ≡ suc (at + length bytes)
    next = omega arith

-- one more lane of a loop that folds a list into another from the front
pub lanes-one_more : (a b : List ℕ) (at lane : ℕ) → at + lane ≤ length a → length a ≡ length b →
    put (xor a (take at b)) at (xor (slice (xor a (take at b)) at lane) (slice b at lane)) ≡ xor a (take (at + lane) b)
lanes-one_more a b zero lane h e =
    ap (λ l. put l 0 (xor (slice l 0 lane) (take lane b))) (xor-nil_r a)
    ∙ ap (λ n. put a 0 (xor (slice a 0 n) (take lane b))) (sym (length-take-le lane b (omega (arith, e))))
    ∙ put-front a (take lane b) (omega (arith, e, length-take-le lane b (omega (arith, e))))
    ∙ ap (λ n. xor a (take n b)) (omega arith)
lanes-one_more [] b (suc at) lane h e = let no : ⊥ = omega arith in absurd no
lanes-one_more (x ∷ a) [] (suc at) lane h e = let no : ⊥ = omega arith in absurd no
lanes-one_more (x ∷ a) (y ∷ b) (suc at) lane h e =
    put-suc (bit_xor x y) (xor a (take at b)) at (xor (slice (xor a (take at b)) at lane) (slice b at lane))
    ∙ ap (λ t. bit_xor x y ∷ t) (lanes-one_more a b at lane (omega arith) (omega arith))
    ∙ ap (λ n. xor (x ∷ a) (take n (y ∷ b))) next
  where
    next : suc (at + lane) ≡ suc at + lane
    next = omega arith

pub lanes-step : (a b done : List ℕ) (at lane : ℕ) → done ≡ xor a (take at b) → at + lane ≤ length a → length a ≡ length b →
    put done at (xor (slice done at lane) (slice b at lane)) ≡ xor a (take (at + lane) b)
lanes-step a b done at lane d h e = rw d (lanes-one_more a b at lane h e)

-- the lanes in front and the rest, which is put behind them
pub lanes-rest : (a b : List ℕ) (at : ℕ) → at ≤ length a → length a ≡ length b →
    take at (xor a (take at b)) ++ xor (drop at (xor a (take at b))) (drop at b) ≡ xor a b
lanes-rest a b zero h e = ap (λ l. xor l b) (xor-nil_r a)
lanes-rest [] b (suc at) h e = let no : ⊥ = omega arith in absurd no
lanes-rest (x ∷ a) [] (suc at) h e = let no : ⊥ = omega arith in absurd no
lanes-rest (x ∷ a) (y ∷ b) (suc at) h e = ap (λ t. bit_xor x y ∷ t) (lanes-rest a b at (omega arith) (omega arith))

-- the same of a slice whose part from a place on was written
pub lanes-then : (a b : List ℕ) (at : ℕ) (lanes rest : List ℕ) → at ≤ length a → length a ≡ length b →
    lanes ≡ xor a (take at b) → rest ≡ xor (take (length lanes - at) (drop at lanes)) (take (length b - at) (drop at b)) →
    put_mid at (length lanes - at) lanes rest ≡ xor a b
lanes-then a b at lanes rest h e d r =
    ap (λ t. take at lanes ++ (rest ++ t)) (drop_all (length lanes - at) (drop at lanes) (omega (arith, length-drop at lanes)))
    ∙ ap (λ t. take at lanes ++ t) (append-nil rest ∙ r ∙ ap (λ l. xor l (take (length b - at) (drop at b))) (whole lanes) ∙ ap (xor (drop at lanes)) (whole b))
    ∙ ap (λ l. take at l ++ xor (drop at l) (drop at b)) d ∙ lanes-rest a b at h e
  where
    whole : (l : List ℕ) → take (length l - at) (drop at l) ≡ drop at l
    whole l = take_all (length l - at) (drop at l) (omega (arith, length-drop at l))
