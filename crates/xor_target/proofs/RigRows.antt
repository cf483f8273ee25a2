-- Rows of targets of which one comes to something else.
use Rattle.std.specs.Prelude.{◌≡◌, ◌≢◌, ℕ, zero, suc, true, false, List, [], ◌∷◌, length, Some, slice_get, slice_set, ◌⊎◌}
use Rattle.std.proofs.Common.{refl, ap, sym, subst, ◌∙◌, inl, inr, arith}
use Rattle.std.proofs.lemmas.Bool.{cases_eq}
use Rattle.std.proofs.lemmas.Option.{same_Some, slice_get_within}
use Rattle.std.proofs.lemmas.List.{length-set}
use Rattle.xor_target.specs.State.{TargetState, is_waiting}
use Rattle.xor_target.specs.Rigs.{IsPlaced, IsRow, NoneWaits, Turns, WaitsAlone}

got-same : {X : Type 0} (xs : List X) (k : ℕ) (x y : X) → slice_get xs k ≡ Some x → slice_get (slice_set xs k y) k ≡ Some y
got-same [] k x y h = absurd cc
got-same (z ∷ xs) zero x y h = refl
got-same (z ∷ xs) (suc k) x y h = got-same xs k x y h

got-other : {X : Type 0} (xs : List X) (k j : ℕ) (y : X) → j ≢ k → slice_get (slice_set xs k y) j ≡ slice_get xs j
got-other [] k j y h = refl
got-other (z ∷ xs) zero zero y h = absurd (h refl)
got-other (z ∷ xs) zero (suc j) y h = refl
got-other (z ∷ xs) (suc k) zero y h = refl
got-other (z ∷ xs) (suc k) (suc j) y h = got-other xs k j y (λ e. h (ap suc e))

-- after a turn: target k is what it came to, the others what they were, as many as before
pub turned : (k : ℕ) (comes_to : TargetState → TargetState → Type 0) (ts after : List TargetState) (turn : Turns k comes_to ts after) → slice_get after k ≡ Some turn.now
turned k comes_to ts after turn = ap (λ l. slice_get l k) turn.others ∙ got-same ts k turn.before turn.now turn.stands

pub kept : (k : ℕ) (comes_to : TargetState → TargetState → Type 0) (ts after : List TargetState) → Turns k comes_to ts after → (j : ℕ) → j ≢ k → slice_get after j ≡ slice_get ts j
kept k comes_to ts after turn j h = ap (λ l. slice_get l j) turn.others ∙ got-other ts k j turn.now h

pub as-many : (k : ℕ) (comes_to : TargetState → TargetState → Type 0) (ts after : List TargetState) → Turns k comes_to ts after → length after ≡ length ts
as-many k comes_to ts after turn = ap length turn.others ∙ length-set ts k turn.now

-- the target keeps its place
pub record IsUnmoved (t now : TargetState) : Type 0 where
  pub number : now.number ≡ t.number
  pub targets : now.targets ≡ t.targets
  pub block : now.block ≡ t.block

-- a row stays a row
pub row-kept : (k : ℕ) (comes_to : TargetState → TargetState → Type 0) (ts after : List TargetState) → IsRow ts → (turn : Turns k comes_to ts after) → IsUnmoved turn.before turn.now → IsRow after
row-kept k comes_to ts after row turn same = record { block = row.block; placed = λ j t got. placed j t got (cases_eq j k) }
  where
    long : length after ≡ length ts
    long = as-many k comes_to ts after turn

    placed : (j : ℕ) (t : TargetState) → slice_get after j ≡ Some t → (j ≡ k) ⊎ (j ≢ k) → IsPlaced t j (length after) row.block
    placed j t got (inr other) =
        let p = row.placed j t (sym (kept k comes_to ts after turn j other) ∙ got) in
        record { number = p.number; targets = p.targets ∙ sym long; block = p.block }
    placed j t got (inl is) =
        let p = row.placed k turn.before turn.stands in
        let at : slice_get after k ≡ Some t = subst (λ (i : ℕ). slice_get after i ≡ Some t) is got in
        let now : t ≡ turn.now = same_Some t turn.now (sym at ∙ turned k comes_to ts after turn) in
        subst (λ (u : TargetState). IsPlaced u j (length after) row.block) (sym now)
        (record { number = same.number ∙ p.number ∙ sym is; targets = same.targets ∙ p.targets ∙ sym long; block = same.block ∙ p.block })

-- none waits afterwards where the target that came to something else doesn't
pub idle-kept : (k owner : ℕ) (comes_to : TargetState → TargetState → Type 0) (ts after : List TargetState) → ((j : ℕ) (t : TargetState) → slice_get ts j ≡ Some t → j ≢ k → is_waiting t owner ≡ false) →
    (turn : Turns k comes_to ts after) → is_waiting turn.now owner ≡ false → NoneWaits owner after
idle-kept k owner comes_to ts after idle turn none j t got = at j t got (cases_eq j k)
  where
    at : (j : ℕ) (t : TargetState) → slice_get after j ≡ Some t → (j ≡ k) ⊎ (j ≢ k) → is_waiting t owner ≡ false
    at j t got (inr other) = idle j t (sym (kept k comes_to ts after turn j other) ∙ got) other
    at j t got (inl is) =
        let here : slice_get after k ≡ Some t = subst (λ (i : ℕ). slice_get after i ≡ Some t) is got in
        let now : t ≡ turn.now = same_Some t turn.now (sym here ∙ turned k comes_to ts after turn) in
        ap (λ (u : TargetState). is_waiting u owner) now ∙ none

-- the target that came to something else waits alone where it waits, and none did
pub alone-kept : (k owner : ℕ) (comes_to : TargetState → TargetState → Type 0) (ts after : List TargetState) → ((j : ℕ) (t : TargetState) → slice_get ts j ≡ Some t → j ≢ k → is_waiting t owner ≡ false) →
    (turn : Turns k comes_to ts after) → is_waiting turn.now owner ≡ true → WaitsAlone k owner after
alone-kept k owner comes_to ts after idle turn waits = record {
  within = slice_get_within after k turn.now (turned k comes_to ts after turn);
  waits = λ t got.
      let now : t ≡ turn.now = same_Some t turn.now (sym got ∙ turned k comes_to ts after turn) in
      ap (λ (u : TargetState). is_waiting u owner) now ∙ waits;
  others = λ j t got other. idle j t (sym (kept k comes_to ts after turn j other) ∙ got) other;
}

-- another target's turn leaves the one that waits waiting alone
pub alone-beside : (k i owner : ℕ) (comes_to : TargetState → TargetState → Type 0) (ts after : List TargetState) → k ≢ i → WaitsAlone k owner ts →
    (turn : Turns i comes_to ts after) → is_waiting turn.now owner ≡ false → WaitsAlone k owner after
alone-beside k i owner comes_to ts after apart alone turn none = record {
  within = omega (arith, as-many i comes_to ts after turn, alone.within);
  waits = λ t got. alone.waits t (sym (kept i comes_to ts after turn k apart) ∙ got);
  others = λ j t got other. at j t got other (cases_eq j i);
}
  where
    at : (j : ℕ) (t : TargetState) → slice_get after j ≡ Some t → j ≢ k → (j ≡ i) ⊎ (j ≢ i) → is_waiting t owner ≡ false
    at j t got other (inr elsewhere) = alone.others j t (sym (kept i comes_to ts after turn j elsewhere) ∙ got) other
    at j t got other (inl is) =
        let here : slice_get after i ≡ Some t = subst (λ (m : ℕ). slice_get after m ≡ Some t) is got in
        let now : t ≡ turn.now = same_Some t turn.now (sym here ∙ turned i comes_to ts after turn) in
        ap (λ (u : TargetState). is_waiting u owner) now ∙ none
