-- Where lines begin, one byte on; what two texts have in common, one byte on; and what stops a check.
use Rattle.std.proofs.Common.{◌≡◌, ℕ, ◌+◌, ◌-◌, ◌<◌, ◌≤◌, ◌==◌, ◌&&◌, cond, Bool, true, false, List, [], ◌∷◌, length, take, drop, get_or, Some, None, refl, sym, ap, ◌∙◌, length-drop, arith}
use Rattle.std.proofs.lemmas.List.{drop_more, at_drop_more, take_all}
use Rattle.trace_check.specs.declared.checking.parting.LineStart.{LineStart}
use Rattle.trace_check.specs.Inputs.{starts_line, place_from}
use Rattle.trace_check.specs.Findings.{common}

pub place-step : (start : LineStart) (place : ℕ) (begins : Bool) (bytes : List ℕ) → place < length bytes
    → place_from start place begins (drop place bytes) ≡ cond (begins && starts_line start (drop place bytes)) (Some place) (place_from start (place + 1) (get_or bytes place 0 == 10) (drop (place + 1) bytes))
place-step start place begins bytes h =
    at_drop_more (place_from start place begins) bytes place 0 h
    ∙ ap (λ x. cond (begins && starts_line start x) (Some place) (place_from start (place + 1) (get_or bytes place 0 == 10) (drop (place + 1) bytes))) (sym (drop_more bytes place 0 h))

pub place-end : (start : LineStart) (place : ℕ) (begins : Bool) (bytes : List ℕ) → length bytes ≤ place → place_from start place begins (drop place bytes) ≡ None
place-end start place begins bytes h = none (drop place bytes) (omega (arith, length-drop place bytes))
  where
    none : (xs : List ℕ) → length xs ≡ 0 → place_from start place begins xs ≡ None
    none [] e = refl
    none (x ∷ xs) e = absurd (omega (arith, e))

-- the rest of a list from a place on is all that stands there
pub rest-whole : (place : ℕ) (bytes : List ℕ) → take (length bytes - place) (drop place bytes) ≡ drop place bytes
rest-whole place bytes = take_all (length bytes - place) (drop place bytes) (omega (arith, length-drop place bytes))

-- behind the end of a text nothing is the same
pub common-end : (text other : List ℕ) (place : ℕ) → length other ≤ place → length (common text (drop place other)) ≡ 0
common-end text other place h = none text (drop place other) (omega (arith, length-drop place other))
  where
    none : (xs ys : List ℕ) → length ys ≡ 0 → length (common xs ys) ≡ 0
    none [] ys e = refl
    none (x ∷ xs) [] e = refl
    none (x ∷ xs) (y ∷ ys) e = absurd (omega (arith, e))

-- the bytes in common are the first of a text
pub common-front : (text other : List ℕ) → take (length (common text other)) text ≡ common text other
common-front [] other = refl
common-front (x ∷ text) [] = refl
common-front (x ∷ text) (y ∷ other) = go (x == y) (common-front text other)
  where
    go : (b : Bool) → take (length (common text other)) text ≡ common text other → take (length (cond b (x ∷ common text other) [])) (x ∷ text) ≡ cond b (x ∷ common text other) []
    go true e = ap (λ (t : List ℕ). x ∷ t) e
    go false e = refl
