-- Rows that are taken out of held blocks.
use Rattle.std.specs.Prelude.{◌≡◌, ◌==◌, ◌&&◌, ◌+◌, ◌-◌, ◌*◌, ◌≤◌, nat_lt, nat_le, ℕ, Bool, true, false, List, [], ◌∷◌, Option, Some, None, Result, Ok, Err, MatchResult, IfOk, IsOk, length, unwrap_or}
use Rattle.std.proofs.Common.{refl, ap, sym, ◌∙◌, cond}
use Rattle.std.proofs.lemmas.Bool.{eq-eqb, false≢true, leb-true, and_parts}
use Rattle.blocks_core.proofs.BlockLists.{length-slice}
use Rattle.blocks_core.specs.Lists.{slice}
use Rattle.xor_buffers.specs.declared.held.HeldBlocks.{HeldBlocks}
use Rattle.xor_buffers.specs.declared.fault.HoldFault.TheVariants.{Full}
use Rattle.xor_buffers.specs.Held.{holds_rows, holder_of, rows_held, overlap_of}
use Rattle.xor_buffers.specs.Holding.{Holding, hold_fault, fault_by, room_of}
use Rattle.xor_target.specs.Effects.{rows_taken}

-- the rows as the owner of the first blocks that contain them holds them are those of these blocks
pub taken-first : (block c row len : ℕ) (hs : List HeldBlocks) (bytes : List ℕ) → holder_of block row len hs ≡ Some c →
    rows_held block c row len hs ≡ Some bytes → rows_taken block row len hs ≡ Some bytes
taken-first block c row len [] bytes o p = absurd cc
taken-first block c row len (h ∷ hs) bytes o p = choose (holds_rows block row len h) (h.owner == c) refl o p (taken-first block c row len hs bytes)
  where
    choose : (b same : Bool) → (h.owner == c) ≡ same → cond b (Some h.owner) (holder_of block row len hs) ≡ Some c →
        cond (same && b) (Some (slice h.bytes ((row - h.row) * block) len)) (rows_held block c row len hs) ≡ Some bytes →
        (holder_of block row len hs ≡ Some c → rows_held block c row len hs ≡ Some bytes → rows_taken block row len hs ≡ Some bytes) →
        cond b (Some (slice h.bytes ((row - h.row) * block) len)) (rows_taken block row len hs) ≡ Some bytes
    choose true true e o p older = p
    choose true false e o p older =
        let own : h.owner ≡ c = cc in
        absurd (false≢true (sym e ∙ eq-eqb h.owner c own))
    choose false true e o p older = older o p
    choose false false e o p older = older o p

-- what answers the fault that there is, if any, is good where there is none
pub no-fault : {A E : Type 0} (r : Result A E) (o : Option E) → MatchResult r (λ _. o ≡ None) (λ f. o ≡ Some f) → o ≡ None → IsOk r
no-fault (Ok a) o m e = refl
no-fault (Err f) o m e = absurd cc

-- what a take of rows that are held answers
pub taken-rows : {E : Type 0} (block row len : ℕ) (hs : List HeldBlocks) (bytes : List ℕ) (r : Result ℕ E) → (holder_of block row len hs ≡ None → ⊥) →
    MatchResult r (λ owner. holder_of block row len hs ≡ Some owner) (λ _. holder_of block row len hs ≡ None) →
    IfOk r (λ owner. rows_held block owner row len hs ≡ Some bytes) → rows_taken block row len hs ≡ Some bytes
taken-rows block row len hs bytes (Ok owner) some o p = taken-first block owner row len hs bytes o p
taken-rows block row len hs bytes (Err e) some o p = absurd (some o)

-- there is none where the rows are free and there is room
pub no-fault-of : (h : Holding) (row count : ℕ) → overlap_of h.block row count h.list ≡ None → nat_lt (room_of h) count ≡ false →
    hold_fault h row count ≡ None
no-fault-of h row count free room =
    ap (λ o. fault_by o (room_of h) count) free ∙ ap (λ b. cond b (Some (Full (room_of h))) None) room

-- rows that are taken are as many as were asked for
pub taken-length : (block row len : ℕ) (hs : List HeldBlocks) (bytes : List ℕ) → rows_taken block row len hs ≡ Some bytes → length bytes ≡ len
taken-length block row len [] bytes p = absurd cc
taken-length block row len (h ∷ hs) bytes p = choose (holds_rows block row len h) refl p (taken-length block row len hs bytes)
  where
    choose : (b : Bool) → holds_rows block row len h ≡ b → cond b (Some (slice h.bytes ((row - h.row) * block) len)) (rows_taken block row len hs) ≡ Some bytes →
        (rows_taken block row len hs ≡ Some bytes → length bytes ≡ len) → length bytes ≡ len
    choose true e p older =
        let within : (row - h.row) * block + len ≤ length h.bytes = leb-true ((row - h.row) * block + len) (length h.bytes) (and_parts (nat_le h.row row) (nat_le ((row - h.row) * block + len) (length h.bytes)) e).1 in
        let same : slice h.bytes ((row - h.row) * block) len ≡ bytes = cc in
        ap length (sym same) ∙ length-slice h.bytes ((row - h.row) * block) len within
    choose false e p older = older p

-- rows that some held blocks contain can be taken
pub taken-some : (block row len : ℕ) (hs : List HeldBlocks) → (holder_of block row len hs ≡ None → ⊥) → rows_taken block row len hs ≡ Some (unwrap_or (rows_taken block row len hs) [])
taken-some block row len [] h = absurd (h refl)
taken-some block row len (x ∷ hs) h = choose (holds_rows block row len x) h (taken-some block row len hs)
  where
    choose : (b : Bool) → (cond b (Some x.owner) (holder_of block row len hs) ≡ None → ⊥) →
        ((holder_of block row len hs ≡ None → ⊥) → rows_taken block row len hs ≡ Some (unwrap_or (rows_taken block row len hs) [])) →
        cond b (Some (slice x.bytes ((row - x.row) * block) len)) (rows_taken block row len hs)
        ≡ Some (unwrap_or (cond b (Some (slice x.bytes ((row - x.row) * block) len)) (rows_taken block row len hs)) [])
    choose true h older = refl
    choose false h older = older h
