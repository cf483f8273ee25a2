-- Bytes that are read and written block by block: one more behind those so far.
use Rattle.std.proofs.Common.{◌≡◌, ℕ, ◌+◌, ◌-◌, ◌*◌, ◌≤◌, List, ◌++◌, length, take, drop, ap, sym, ◌∙◌, arith}
use Rattle.std.proofs.Math.Nat.{add-mul}
use Rattle.std.proofs.Math.Seq.{take-add}
use Rattle.std.proofs.lemmas.List.{append_assoc, length-take-le, length-drop, length-append, drop-drop, drop_at, take_at}
use Rattle.blocks_core.specs.Lists.{slice, put, block_at}

-- bytes put behind bytes that were put
pub put-put : (old : List ℕ) (at : ℕ) (x y : List ℕ) → at + length x + length y ≤ length old →
    put (put old at x) (at + length x) y ≡ put old at (x ++ y)
put-put old at x y h =
    ap (λ t. t ++ y ++ drop (at + length x + length y) (put old at x)) (take_at (take at old ++ x) (drop (at + length x) old) (at + length x) front)
    ∙ ap (λ t. take at old ++ x ++ y ++ t) rest
    ∙ ap (λ t. t ++ drop (at + length (x ++ y)) old) (append_assoc (take at old) x y)
  where
    front : length (take at old ++ x) ≡ at + length x
    front = length-append (take at old) x ∙ ap (λ n. n + length x) (length-take-le at old (omega arith))

    rest : drop (at + length x + length y) (put old at x) ≡ drop (at + length (x ++ y)) old
    rest =
        sym (drop-drop (length y) (at + length x) (put old at x))
        ∙ ap (drop (length y)) (drop_at (take at old ++ x) (drop (at + length x) old) (at + length x) front)
        ∙ drop-drop (length y) (at + length x) old ∙ ap (λ n. drop n old) (omega (arith, length-append x y))

-- a slice and the one behind it
pub slice-more : (l : List ℕ) (at m n : ℕ) → slice l at (m + n) ≡ slice l at m ++ slice l (at + m) n
slice-more l at m n = take-add m n (drop at l) ∙ ap (λ t. take m (drop at l) ++ take n t) (drop-drop m at l)

-- one more block of bytes read, behind those read so far
pub read-more : (b at done from : ℕ) (bytes into part after : List ℕ) → from ≡ done * b → from + b ≤ length into → length part ≡ b →
    take (done * b) into ≡ slice bytes (at * b) (done * b) → part ≡ block_at b bytes (at + done) → after ≡ take from into ++ (part ++ drop b (drop from into)) →
    (from + b ≡ (done + 1) * b) × (take ((done + 1) * b) after ≡ slice bytes (at * b) ((done + 1) * b))
read-more b at done from bytes into part after place le size before one is = (next, all)
  where
    next : from + b ≡ (done + 1) * b
    next = omega (arith, place, add-mul done 1 b)

    front : length (take from into ++ part) ≡ (done + 1) * b
    front = length-append (take from into) part ∙ omega (arith, length-take-le from into (omega (arith, le)), size, next)

    all : take ((done + 1) * b) after ≡ slice bytes (at * b) ((done + 1) * b)
    all =
        ap (take ((done + 1) * b)) (is ∙ sym (append_assoc (take from into) part (drop b (drop from into))))
        ∙ take_at (take from into ++ part) (drop b (drop from into)) ((done + 1) * b) front
        ∙ ap (λ m. take m into ++ part) place
        ∙ ap (λ t. t ++ part) before
        ∙ ap (λ t. slice bytes (at * b) (done * b) ++ t) (one ∙ ap (λ m. slice bytes m b) (add-mul at done b))
        ∙ sym (slice-more bytes (at * b) (done * b) b)
        ∙ ap (slice bytes (at * b)) (sym (omega (arith, add-mul done 1 b)))

-- and one more written
pub put-more : (b at done from : ℕ) (old bytes : List ℕ) → from ≡ done * b → from + b ≤ length bytes → at * b + length bytes ≤ length old →
    put (put old (at * b) (take (done * b) bytes)) ((at + done) * b) (take (from + b - from) (drop from bytes)) ≡ put old (at * b) (take ((done + 1) * b) bytes)
put-more b at done from old bytes place le inside =
    ap (λ m. put (put old (at * b) (take (done * b) bytes)) m (take (from + b - from) (drop from bytes))) where_to
    ∙ put-put old (at * b) (take (done * b) bytes) (take (from + b - from) (drop from bytes)) (omega (arith, inside, le, place, front, back))
    ∙ ap (put old (at * b)) joined
  where
    front : length (take (done * b) bytes) ≡ done * b
    front = length-take-le (done * b) bytes (omega (arith, le, place))

    back : length (take (from + b - from) (drop from bytes)) ≡ b
    back = ap (λ m. length (take m (drop from bytes))) (omega arith) ∙ length-take-le b (drop from bytes) (omega (arith, le, length-drop from bytes))

    where_to : (at + done) * b ≡ at * b + length (take (done * b) bytes)
    where_to = omega (arith, add-mul at done b, front)

    joined : take (done * b) bytes ++ take (from + b - from) (drop from bytes) ≡ take ((done + 1) * b) bytes
    joined =
        ap (λ m. take (done * b) bytes ++ take m (drop from bytes)) (omega arith)
        ∙ ap (λ m. take (done * b) bytes ++ take b (drop m bytes)) place
        ∙ sym (take-add (done * b) b bytes) ∙ ap (λ m. take m bytes) (omega (arith, add-mul done 1 b))
