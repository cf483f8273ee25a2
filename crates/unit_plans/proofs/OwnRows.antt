-- In a run the first held blocks that contain what a command holds are the command's: no two held blocks share a row.
use Rattle.std.specs.Prelude.{◌≡◌, ◌==◌, ◌&&◌, ◌+◌, ◌-◌, ◌*◌, ◌/◌, ◌≤◌, nat_lt, nat_le, ℕ, Bool, true, false, List, [], ◌∷◌, length, Some}
use Rattle.std.specs.List.{AllByRecursion}
use Rattle.std.proofs.Common.{refl, ap, sym, ◌∙◌, cond, arith}
use Rattle.std.proofs.Math.Nat.{le-div_iff_mul-le}
use Rattle.std.proofs.lemmas.Bool.{eqb-true, lt-ltb, leb-true, and_parts, false≢true}
use Rattle.blocks_core.specs.Lists.{slice}
use Rattle.xor_buffers.specs.declared.held.HeldBlocks.{HeldBlocks}
use Rattle.xor_buffers.specs.Held.{holds_rows, holder_of, rows_held}
use Rattle.array_journal.specs.Deltas.{covers}
use Rattle.array_journal.specs.Laws.{shares_row, ShareNoRow}
use Rattle.array_journal.specs.Media.{held}
use Rattle.array_journal.proofs.held.NoRowTwice.{held-apart}
use Rattle.unit_plans.specs.Orders.{OwnRowsComeFirst}

-- held blocks that contain some blocks from a row on cover that row
holds-covers : (block row count : ℕ) (h : HeldBlocks) → 1 ≤ block → 1 ≤ count → holds_rows block row (count * block) h ≡ true → covers block h.row (length h.bytes) row ≡ true
holds-covers block row count h some more holds =
    let parts = and_parts (nat_le h.row row) (nat_le ((row - h.row) * block + count * block) (length h.bytes)) holds in
    let from : h.row ≤ row = leb-true h.row row parts.0 in
    let fits : (row - h.row) * block + count * block ≤ length h.bytes = leb-true ((row - h.row) * block + count * block) (length h.bytes) parts.1 in
    let one : ((row - h.row) + count) * block ≡ (row - h.row) * block + count * block = omega arith in
    let blocks : (row - h.row) + count ≤ length h.bytes / block = (le-div_iff_mul-le some).1 (omega (arith, one, fits)) in
    both (nat_le h.row row) (nat_lt row (h.row + length h.bytes / block)) parts.0 (lt-ltb row (h.row + length h.bytes / block) (omega (arith, from, blocks, more)))
  where
    both : (a b : Bool) → a ≡ true → b ≡ true → (a && b) ≡ true
    both true b h k = k
    both false b h k = absurd (false≢true h)

-- none of those that share no row with others that cover it contains it
none-holds : (block c row count : ℕ) (h : HeldBlocks) (hs : List HeldBlocks) (bytes : List ℕ) → 1 ≤ block → 1 ≤ count → covers block h.row (length h.bytes) row ≡ true →
    AllByRecursion (λ (x : HeldBlocks). (r : ℕ) → shares_row block h x r ≡ false) hs → rows_held block c row (count * block) hs ≡ Some bytes → ⊥
none-holds block c row count h [] bytes some more covered apart found = cc
none-holds block c row count h (x ∷ hs) bytes some more covered apart found =
    choose (x.owner == c) (holds_rows block row (count * block) x) refl found (none-holds block c row count h hs bytes some more covered apart.1)
  where
    shared : (a b : Bool) → a ≡ true → b ≡ true → (a && b) ≡ false → ⊥
    shared true b p q r = false≢true (sym r ∙ q)
    shared false b p q r = false≢true p

    choose : (own holds : Bool) → holds_rows block row (count * block) x ≡ holds →
        cond (own && holds) (Some (slice x.bytes ((row - x.row) * block) (count * block))) (rows_held block c row (count * block) hs) ≡ Some bytes →
        (rows_held block c row (count * block) hs ≡ Some bytes → ⊥) → ⊥
    choose true true e k older =
        shared (covers block h.row (length h.bytes) row) (covers block x.row (length x.bytes) row) covered (holds-covers block row count x some more e) (apart.0 row)
    choose true false e k older = older k
    choose false holds e k older = older k

first-own : (block c row count : ℕ) (hs : List HeldBlocks) (bytes : List ℕ) → 1 ≤ block → 1 ≤ count → ShareNoRow block hs →
    rows_held block c row (count * block) hs ≡ Some bytes → holder_of block row (count * block) hs ≡ Some c
first-own block c row count [] bytes some more apart found = absurd cc
first-own block c row count (h ∷ hs) bytes some more apart found =
    choose (h.owner == c) (holds_rows block row (count * block) h) refl refl found (first-own block c row count hs bytes some more apart.1)
  where
    choose : (own holds : Bool) → (h.owner == c) ≡ own → holds_rows block row (count * block) h ≡ holds →
        cond (own && holds) (Some (slice h.bytes ((row - h.row) * block) (count * block))) (rows_held block c row (count * block) hs) ≡ Some bytes →
        (rows_held block c row (count * block) hs ≡ Some bytes → holder_of block row (count * block) hs ≡ Some c) →
        cond holds (Some h.owner) (holder_of block row (count * block) hs) ≡ Some c
    choose true true own e k older = ap Some (eqb-true h.owner c own)
    choose false true own e k older = absurd (none-holds block c row count h hs bytes some more (holds-covers block row count h some more e) apart.0 k)
    choose true false own e k older = older k
    choose false false own e k older = older k

pub own-rows_first : OwnRowsComeFirst
own-rows_first s i c row count bytes past set more g found =
    first-own s.geometry.block c row count (held s i past) bytes set.array.least_block more (held-apart s i past set.array.least_block g) found
