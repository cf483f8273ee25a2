-- What runs hold: parts of a table, rows in it, and the rows that a cut leaves.
use Rattle.std.proofs.Common.{◌≡◌, ℕ, ◌+◌, ◌-◌, ◌*◌, ◌/◌, ◌<◌, ◌≤◌, List, [], ◌∷◌, ◌++◌, length, take, drop, inl, inr, refl, ap, sym, ◌∙◌, arith}
use Rattle.std.specs.Prelude.{nat_le}
use Rattle.std.proofs.Math.Nat.{add-mul, zero-mul}
use Rattle.std.proofs.lemmas.Nat.{mul-le, div-mul-add}
use Rattle.std.proofs.lemmas.Bool.{cases_lt, le-leb, lt-leb, and_from, and_left, and_right}
use Rattle.std.proofs.lemmas.List.{append_assoc, length-take-le, length-drop, length-append, drop-take, take-take, drop-drop, take_at, take-append-le, drop-append-le, take-append-drop}
use Rattle.blocks_core.specs.Lists.{slice}
use Rattle.xor_buffers.specs.declared.buffer.table.Run.{Run}
use Rattle.xor_buffers.specs.Held.{holds_rows, held_blocks}
use Rattle.xor_buffers.specs.Slots.{released}
use Rattle.xor_buffers.specs.Runs.{runs_of, blocks_in, run_holds}

-- runs hold the bytes that they cover, whatever stands behind
pub runs_of-same : (b : ℕ) (x y : List ℕ) (es : List Run) → take (blocks_in es * b) x ≡ take (blocks_in es * b) y → runs_of b x es ≡ runs_of b y es
runs_of-same b x y [] same = refl
runs_of-same b x y (e ∷ es) same =
    ap (λ l. record { owner = e.owner; row = e.row; bytes = l } ∷ runs_of b (drop (e.count * b) x) es) first
    ∙ ap (λ hs. record { owner = e.owner; row = e.row; bytes = take (e.count * b) y } ∷ hs) (runs_of-same b (drop (e.count * b) x) (drop (e.count * b) y) es rest)
  where
    sum : (e.count + blocks_in es) * b ≡ e.count * b + blocks_in es * b
    sum = add-mul e.count (blocks_in es) b

    first : take (e.count * b) x ≡ take (e.count * b) y
    first =
        sym (take-take (e.count * b) ((e.count + blocks_in es) * b) x (omega (arith, sum)))
        ∙ ap (take (e.count * b)) same ∙ take-take (e.count * b) ((e.count + blocks_in es) * b) y (omega (arith, sum))

    rest : take (blocks_in es * b) (drop (e.count * b) x) ≡ take (blocks_in es * b) (drop (e.count * b) y)
    rest =
        sym (drop-take (e.count * b) (blocks_in es * b) x) ∙ ap (λ n. drop (e.count * b) (take n x)) (sym sum)
        ∙ ap (drop (e.count * b)) same ∙ ap (λ n. drop (e.count * b) (take n y)) sum ∙ drop-take (e.count * b) (blocks_in es * b) y

pub runs_of-append : (b : ℕ) (bytes : List ℕ) (xs ys : List Run) → runs_of b bytes (xs ++ ys) ≡ runs_of b bytes xs ++ runs_of b (drop (blocks_in xs * b) bytes) ys
runs_of-append b bytes [] ys = ap (λ n. runs_of b (drop n bytes) ys) (sym (zero-mul b))
runs_of-append b bytes (e ∷ es) ys =
    ap (λ hs. record { owner = e.owner; row = e.row; bytes = take (e.count * b) bytes } ∷ hs)
    (runs_of-append b (drop (e.count * b) bytes) es ys
    ∙ ap (λ l. runs_of b (drop (e.count * b) bytes) es ++ runs_of b l ys) (drop-drop (blocks_in es * b) (e.count * b) bytes ∙ ap (λ n. drop n bytes) (sym (add-mul e.count (blocks_in es) b))))

pub div-whole : (b count : ℕ) → 1 ≤ b → count * b / b ≡ count
div-whole b count some = let none : count * b ≡ count * b + 0 = omega arith in ap (λ n. n / b) none ∙ div-mul-add count b 0 some

-- the blocks of a run
pub blocks_of_run : (b count : ℕ) (bytes : List ℕ) → 1 ≤ b → count * b ≤ length bytes → length (take (count * b) bytes) / b ≡ count
blocks_of_run b count bytes some h = ap (λ n. n / b) (length-take-le (count * b) bytes h) ∙ div-whole b count some

pub held_blocks-runs : (b : ℕ) (bytes : List ℕ) (es : List Run) → 1 ≤ b → blocks_in es * b ≤ length bytes → held_blocks b (runs_of b bytes es) ≡ blocks_in es
held_blocks-runs b bytes [] some h = refl
held_blocks-runs b bytes (e ∷ es) some h =
    omega (
      arith,
      blocks_of_run b e.count bytes some (omega (arith, add-mul e.count (blocks_in es) b, h)),
      held_blocks-runs b (drop (e.count * b) bytes) es some (omega (arith, add-mul e.count (blocks_in es) b, h, length-drop (e.count * b) bytes)),
    )

-- a run contains rows where its blocks do
pub holds-run : (b count row : ℕ) (e : Run) (bytes : List ℕ) → 1 ≤ b → length bytes ≡ e.count * b →
    holds_rows b row (count * b) (record { owner = e.owner; row = e.row; bytes = bytes }) ≡ run_holds row count e
holds-run b count row e bytes some len = elim (cases_lt row e.row) [
  | inl before ↦ and_left (nat_le e.row row) _ (lt-leb e.row row before) ∙ sym (and_left (nat_le e.row row) _ (lt-leb e.row row before))
  | inr from ↦ elim (cases_lt (e.row + e.count) (row + count)) [
    | inl past ↦
        and_right (nat_le e.row row) (nat_le ((row - e.row) * b + count * b) (length bytes)) (lt-leb ((row - e.row) * b + count * b) (length bytes) (more past from))
        ∙ sym (and_right (nat_le e.row row) (nat_le (row + count) (e.row + e.count)) (lt-leb (row + count) (e.row + e.count) past))
    | inr within ↦
        and_from (nat_le e.row row) (nat_le ((row - e.row) * b + count * b) (length bytes)) (le-leb e.row row from) (le-leb ((row - e.row) * b + count * b) (length bytes) (inside within from))
        ∙ sym (and_from (nat_le e.row row) (nat_le (row + count) (e.row + e.count)) (le-leb e.row row from) (le-leb (row + count) (e.row + e.count) within))
  ]
]
  where
    sum : (row - e.row + count) * b ≡ (row - e.row) * b + count * b
    sum = add-mul (row - e.row) count b

    more : e.row + e.count < row + count → e.row ≤ row → length bytes < (row - e.row) * b + count * b
    more past from = omega (arith, len, sum, mul-le (e.count + 1) b (row - e.row + count) b (omega arith) (omega arith), add-mul e.count 1 b, some)

    inside : row + count ≤ e.row + e.count → e.row ≤ row → (row - e.row) * b + count * b ≤ length bytes
    inside within from = omega (arith, len, sum, mul-le (row - e.row + count) b e.count b (omega arith) (omega arith))

-- bytes without some of them
abbrev pub cut_out : ℕ → ℕ → List ℕ → List ℕ
cut_out at len bytes = take at bytes ++ drop (at + len) bytes

-- where bytes are let go, those that stay in use are these
pub take-released : (at len used : ℕ) (bytes : List ℕ) → at + len ≤ used → used ≤ length bytes →
    take (used - len) (released at len used bytes) ≡ take (used - len) (cut_out at len bytes)
take-released at len used bytes within le =
    ap (take (used - len)) (append_assoc (take at bytes ++ kept) (slice bytes at len) (drop used bytes))
    ∙ take_at (take at bytes ++ kept) (slice bytes at len ++ drop used bytes) (used - len) size
    ∙ sym (take_at (take at bytes ++ kept) (drop used bytes) (used - len) size)
    ∙ ap (take (used - len)) (append_assoc (take at bytes) kept (drop used bytes) ∙ ap (λ t. take at bytes ++ t) joined)
  where
    kept : List ℕ
    kept = slice bytes (at + len) (used - (at + len))

    size : length (take at bytes ++ kept) ≡ used - len
    size = omega (
      arith,
      length-append (take at bytes) kept,
      length-take-le at bytes (omega (arith, within, le)),
      length-take-le (used - (at + len)) (drop (at + len) bytes) (omega (arith, length-drop (at + len) bytes, le)),
      within,
    )

    joined : kept ++ drop used bytes ≡ drop (at + len) bytes
    joined =
        ap (λ n. kept ++ drop n bytes) whole
        ∙ ap (λ t. kept ++ t) (sym (drop-drop (used - (at + len)) (at + len) bytes))
        ∙ take-append-drop (used - (at + len)) (drop (at + len) bytes)
      where
        whole : used ≡ at + len + (used - (at + len))
        whole = omega (arith, within)

pub drop-cut_out : (n at len : ℕ) (bytes : List ℕ) → n + at ≤ length bytes → drop n (cut_out (n + at) len bytes) ≡ cut_out at len (drop n bytes)
drop-cut_out n at len bytes h =
    drop-append-le n (take (n + at) bytes) (drop (n + at + len) bytes) (omega (arith, length-take-le (n + at) bytes h))
    ∙ ap (λ t. t ++ drop (n + at + len) bytes) (drop-take n at bytes)
    ∙ ap (λ t. take at (drop n bytes) ++ t) (ap (λ m. drop m bytes) sum ∙ sym (drop-drop (at + len) n bytes))
  where
    sum : n + at + len ≡ n + (at + len)
    sum = omega arith

pub take-cut_out : (n at len : ℕ) (bytes : List ℕ) → n ≤ at → at ≤ length bytes → take n (cut_out at len bytes) ≡ take n bytes
take-cut_out n at len bytes h le =
    take-append-le n (take at bytes) (drop (at + len) bytes) (omega (arith, length-take-le at bytes le, h)) ∙ take-take n at bytes h
