-- One who waits takes in the blocks of a source.
use Rattle.std.specs.Prelude.{◌≡◌, ◌<◌, ◌==◌, ℕ, zero, suc, Bool, true, false, List, [], ◌∷◌, length, Some, slice_index_or, slice_set}
use Rattle.std.specs.List.{AllByRecursion, position}
use Rattle.std.proofs.Common.{refl, ap, sym, ◌∙◌, cond, arith}
use Rattle.std.proofs.lemmas.List.Quantifiers.{position-Some}
use Rattle.array_journal.specs.declared.at.At.{At}
use Rattle.xor_target.specs.declared.waiting.Waiting.{Waiting}
use Rattle.xor_target.specs.Waits.{waiting_of, accepting, with_source}

set-first : (owner : ℕ) (made : List At) (bytes : List ℕ) (ws : List Waiting) (i : ℕ) (d : Waiting) → i < length ws → ((slice_index_or ws i d).owner == owner) ≡ true →
    ((k : ℕ) → k < i → ((slice_index_or ws k d).owner == owner) ≡ false) →
    slice_set ws i (accepting made bytes (slice_index_or ws i d)) ≡ with_source owner made bytes ws
set-first owner made bytes [] i d h own before = absurd (omega arith)
set-first owner made bytes (w ∷ ws) zero d h own before = sym (ap (λ c. cond c (accepting made bytes w ∷ ws) (w ∷ with_source owner made bytes ws)) own)
set-first owner made bytes (w ∷ ws) (suc i) d h own before =
    ap (λ rest. w ∷ rest) (set-first owner made bytes ws i d (omega arith) own (λ k l. before (suc k) (omega arith)))
    ∙ sym (ap (λ c. cond c (accepting made bytes w ∷ ws) (w ∷ with_source owner made bytes ws)) (before 0 (omega arith)))

-- the first of an owner, changed at its place
pub changed-first : (owner : ℕ) (made : List At) (bytes : List ℕ) (ws : List Waiting) (i : ℕ) (d : Waiting) → position (λ (w : Waiting). w.owner == owner) ws ≡ Some i →
    slice_set ws i (accepting made bytes (slice_index_or ws i d)) ≡ with_source owner made bytes ws
changed-first owner made bytes ws i d at =
    let h = position-Some (λ (w : Waiting). w.owner == owner) ws i d at in
    set-first owner made bytes ws i d h.0 h.1 h.2

-- what is true of all is true of all afterwards, if it is of the one that changed
pub all-with-source : (P : Waiting → Type 0) (owner : ℕ) (made : List At) (bytes : List ℕ) (ws : List Waiting) → AllByRecursion P ws →
    ((w : Waiting) → waiting_of owner ws ≡ Some w → P (accepting made bytes w)) → AllByRecursion P (with_source owner made bytes ws)
all-with-source P owner made bytes [] h changed = tt
all-with-source P owner made bytes (w ∷ ws) h changed = choose (w.owner == owner) refl (all-with-source P owner made bytes ws h.1)
  where
    choose : (b : Bool) → (w.owner == owner) ≡ b →
        (((x : Waiting) → waiting_of owner ws ≡ Some x → P (accepting made bytes x)) → AllByRecursion P (with_source owner made bytes ws)) →
        AllByRecursion P (cond b (accepting made bytes w ∷ ws) (w ∷ with_source owner made bytes ws))
    choose true own older = (changed w (ap (λ c. cond c (Some w) (waiting_of owner ws)) own), h.1)
    choose false own older = (h.0, older (λ x found. changed x (ap (λ c. cond c (Some w) (waiting_of owner ws)) own ∙ found)))
