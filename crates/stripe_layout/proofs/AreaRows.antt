-- Stripes follow one another on the rows of the areas, and fill them: over lists of areas, by the first of them and the
-- others.
use Rattle.std.proofs.Common.{◌≡◌, ℕ, ◌+◌, ◌-◌, ◌*◌, ◌/◌, ◌<◌, ◌≤◌, inl, inr, List, [], ◌∷◌, length, refl, ap, sym, ◌∙◌, subst, arith}
use Rattle.std.specs.List.{AllByRecursion}
use Rattle.std.proofs.Math.Nat.{add-mul}
use Rattle.std.proofs.lemmas.Nat.{mul-le, div_below, div-add-mod', mod_below}
use Rattle.std.proofs.lemmas.Bool.{cases_lt, lt-ltb, le-ltb}
use Rattle.stripe_layout.specs.declared.areas.Area.{Area}
use Rattle.stripe_layout.specs.Layout.{IsArea, stripes_in, rows_in, first_row_in, unit_rows_in, greatest_unit_in, stripe_of_row_in}

-- ---- what is said of the first area, and of the others

pub first-here : (a : Area) (more : List Area) (stripe : ℕ) → stripe < a.stripes → first_row_in (a ∷ more) stripe ≡ stripe * a.unit
first-here a more stripe h = rw (lt-ltb stripe a.stripes h) refl

pub first-more : (a : Area) (more : List Area) (stripe : ℕ) → a.stripes ≤ stripe →
    first_row_in (a ∷ more) stripe ≡ a.stripes * a.unit + first_row_in more (stripe - a.stripes)
first-more a more stripe h = rw (le-ltb stripe a.stripes h) refl

pub unit-here : (a : Area) (more : List Area) (stripe : ℕ) → stripe < a.stripes → unit_rows_in (a ∷ more) stripe ≡ a.unit
unit-here a more stripe h = rw (lt-ltb stripe a.stripes h) refl

pub unit-more : (a : Area) (more : List Area) (stripe : ℕ) → a.stripes ≤ stripe → unit_rows_in (a ∷ more) stripe ≡ unit_rows_in more (stripe - a.stripes)
unit-more a more stripe h = rw (le-ltb stripe a.stripes h) refl

pub row-here : (a : Area) (more : List Area) (row : ℕ) → row < a.stripes * a.unit → stripe_of_row_in (a ∷ more) row ≡ row / a.unit
row-here a more row h = rw (lt-ltb row (a.stripes * a.unit) h) refl

pub row-more : (a : Area) (more : List Area) (row : ℕ) → a.stripes * a.unit ≤ row →
    stripe_of_row_in (a ∷ more) row ≡ a.stripes + stripe_of_row_in more (row - a.stripes * a.unit)
row-more a more row h = rw (le-ltb row (a.stripes * a.unit) h) refl

-- ---- one stripe after another

one-row-more : (stripe stripes u : ℕ) → stripe < stripes → stripe * u + u ≤ stripes * u
one-row-more stripe stripes u h = omega (arith, add-mul stripe 1 u, mul-le (stripe + 1) u stripes u (omega arith) (omega arith))

pub first-none : (areas : List Area) → first_row_in areas 0 ≡ 0
first-none [] = refl
first-none (a ∷ more) = elim (cases_lt 0 a.stripes) [
  | inl some ↦ first-here a more 0 some ∙ omega arith
  | inr none ↦
      let nothing : a.stripes ≡ 0 = omega (arith, none) in
      first-more a more 0 none ∙ ap (λ n. n * a.unit + first_row_in more (0 - n)) nothing ∙ omega (arith, first-none more)
]

pub stripe-fits : (areas : List Area) (stripe : ℕ) → stripe < stripes_in areas → first_row_in areas stripe + unit_rows_in areas stripe ≤ rows_in areas
stripe-fits [] stripe h = absurd (omega (arith, h))
stripe-fits (a ∷ more) stripe h = elim (cases_lt stripe a.stripes) [
  | inl here ↦ omega (arith, first-here a more stripe here, unit-here a more stripe here, one-row-more stripe a.stripes a.unit here)
  | inr behind ↦ omega (arith, first-more a more stripe behind, unit-more a more stripe behind, stripe-fits more (stripe - a.stripes) (omega (arith, h, behind)))
]

pub first-apart : (areas : List Area) (x y : ℕ) → x < y → y < stripes_in areas → first_row_in areas x + unit_rows_in areas x ≤ first_row_in areas y
first-apart [] x y less h = absurd (omega (arith, h))
first-apart (a ∷ more) x y less h = elim (cases_lt x a.stripes) [
  | inl here ↦ elim (cases_lt y a.stripes) [
    | inl also ↦
        omega (arith, first-here a more x here, unit-here a more x here, first-here a more y also, one-row-more x y a.unit less)
    | inr behind ↦
        omega (arith, first-here a more x here, unit-here a more x here, first-more a more y behind, one-row-more x a.stripes a.unit here)
  ]
  | inr behind ↦
      omega (
        arith,
        first-more a more x behind,
        unit-more a more x behind,
        first-more a more y (omega (arith, behind, less)),
        first-apart more (x - a.stripes) (y - a.stripes) (omega (arith, behind, less)) (omega (arith, h, behind, less)),
      )
]

pub first-next : (areas : List Area) (stripe : ℕ) → stripe < stripes_in areas → first_row_in areas (stripe + 1) ≡ first_row_in areas stripe + unit_rows_in areas stripe
first-next [] stripe h = absurd (omega (arith, h))
first-next (a ∷ more) stripe h = elim (cases_lt stripe a.stripes) [
  | inl here ↦ elim (cases_lt (stripe + 1) a.stripes) [
    | inl also ↦ omega (arith, first-here a more stripe here, unit-here a more stripe here, first-here a more (stripe + 1) also, add-mul stripe 1 a.unit)
    | inr last ↦
        let all : stripe + 1 ≡ a.stripes = omega (arith, here, last) in
        let begins : first_row_in more (stripe + 1 - a.stripes) ≡ 0 = ap (first_row_in more) (nothing (stripe + 1) a.stripes all) ∙ first-none more in
        let rows : (stripe + 1) * a.unit ≡ a.stripes * a.unit = ap (λ n. n * a.unit) all in
        omega (arith, first-here a more stripe here, unit-here a more stripe here, first-more a more (stripe + 1) last, begins, rows, add-mul stripe 1 a.unit)
  ]
  | inr behind ↦
      let next : first_row_in more (stripe + 1 - a.stripes) ≡ first_row_in more (stripe - a.stripes + 1) = ap (first_row_in more) (moved stripe a.stripes behind) in
      omega (
        arith,
        first-more a more stripe behind,
        unit-more a more stripe behind,
        first-more a more (stripe + 1) (omega (arith, behind)),
        next,
        first-next more (stripe - a.stripes) (omega (arith, h, behind)),
      )
]
  where
    nothing : (x y : ℕ) → x ≡ y → x - y ≡ 0
    nothing x y e = omega arith

    moved : (x y : ℕ) → y ≤ x → x + 1 - y ≡ x - y + 1
    moved x y le = omega arith

pub first-end : (areas : List Area) → first_row_in areas (stripes_in areas) ≡ rows_in areas
first-end [] = refl
first-end (a ∷ more) =
    first-more a more (a.stripes + stripes_in more) (omega arith)
    ∙ ap (λ n. a.stripes * a.unit + first_row_in more n) (rest a.stripes (stripes_in more))
    ∙ ap (λ n. a.stripes * a.unit + n) (first-end more)
  where
    rest : (x y : ℕ) → x + y - x ≡ y
    rest x y = omega arith

pub first-within : (areas : List Area) (stripe : ℕ) → first_row_in areas stripe ≤ rows_in areas
first-within [] stripe = omega arith
first-within (a ∷ more) stripe = elim (cases_lt stripe a.stripes) [
  | inl here ↦ omega (arith, first-here a more stripe here, one-row-more stripe a.stripes a.unit here)
  | inr behind ↦ omega (arith, first-more a more stripe behind, first-within more (stripe - a.stripes))
]

-- ---- their sizes

pub unit-some : (areas : List Area) (stripe : ℕ) → AllByRecursion IsArea areas → stripe < stripes_in areas → 1 ≤ unit_rows_in areas stripe
unit-some [] stripe all h = absurd (omega (arith, h))
unit-some (a ∷ more) stripe all h = elim (cases_lt stripe a.stripes) [
  | inl here ↦ omega (arith, unit-here a more stripe here, all.0.least_unit)
  | inr behind ↦ omega (arith, unit-more a more stripe behind, unit-some more (stripe - a.stripes) all.1 (omega (arith, h, behind)))
]

pub unit-most : (areas : List Area) (stripe : ℕ) → unit_rows_in areas stripe ≤ greatest_unit_in areas
unit-most [] stripe = omega arith
unit-most (a ∷ more) stripe = elim (cases_lt stripe a.stripes) [
  | inl here ↦ omega (arith, unit-here a more stripe here)
  | inr behind ↦ omega (arith, unit-more a more stripe behind, unit-most more (stripe - a.stripes))
]

pub greatest-most : (areas : List Area) → AllByRecursion IsArea areas → greatest_unit_in areas ≤ 4096
greatest-most [] all = omega arith
greatest-most (a ∷ more) all = omega (arith, all.0.most_unit, greatest-most more all.1)

pub greatest-some : (areas : List Area) → AllByRecursion IsArea areas → 1 ≤ length areas → 1 ≤ greatest_unit_in areas
greatest-some [] all h = absurd (omega (arith, h))
greatest-some (a ∷ more) all h = omega (arith, all.0.least_unit)

pub stripes-most : (areas : List Area) → AllByRecursion IsArea areas → stripes_in areas ≤ length areas * 4096
stripes-most [] all = omega arith
stripes-most (a ∷ more) all = omega (arith, all.0.most_stripes, stripes-most more all.1)

pub stripes-some : (areas : List Area) → AllByRecursion IsArea areas → 1 ≤ length areas → 1 ≤ stripes_in areas
stripes-some [] all h = absurd (omega (arith, h))
stripes-some (a ∷ more) all h = omega (arith, all.0.least_stripes)

pub rows-most : (areas : List Area) → AllByRecursion IsArea areas → rows_in areas ≤ length areas * 16777216
rows-most [] all = omega arith
rows-most (a ∷ more) all = omega (arith, mul-le a.stripes a.unit 4096 4096 all.0.most_stripes all.0.most_unit, rows-most more all.1)

-- ---- the stripe of a row

pub record IsRowIn (areas : List Area) (stripe row : ℕ) : Type 0 where
  pub in_array : stripe < stripes_in areas
  pub first : first_row_in areas stripe ≤ row
  pub last : row < first_row_in areas stripe + unit_rows_in areas stripe

row-in-first : (a : Area) (more : List Area) (row : ℕ) → 1 ≤ a.unit → row < a.stripes * a.unit → IsRowIn (a ∷ more) (row / a.unit) row
row-in-first a more row some h =
    let here : row / a.unit < a.stripes = div_below row a.unit a.stripes some h in
    record {
      in_array = omega (arith, here);
      first = omega (arith, first-here a more (row / a.unit) here, div-add-mod' row a.unit);
      last = omega (arith, first-here a more (row / a.unit) here, unit-here a more (row / a.unit) here, div-add-mod' row a.unit, mod_below row a.unit some);
    }

row-in-more : (a : Area) (more : List Area) (row stripe : ℕ) → a.stripes * a.unit ≤ row → IsRowIn more stripe (row - a.stripes * a.unit) →
    IsRowIn (a ∷ more) (a.stripes + stripe) row
row-in-more a more row stripe le is =
    let rest : a.stripes + stripe - a.stripes ≡ stripe = omega arith in
    let first : first_row_in (a ∷ more) (a.stripes + stripe) ≡ a.stripes * a.unit + first_row_in more stripe =
    first-more a more (a.stripes + stripe) (omega arith) ∙ ap (λ n. a.stripes * a.unit + first_row_in more n) rest in
    let unit : unit_rows_in (a ∷ more) (a.stripes + stripe) ≡ unit_rows_in more stripe =
    unit-more a more (a.stripes + stripe) (omega arith) ∙ ap (unit_rows_in more) rest in
    record {
      in_array = omega (arith, is.in_array);
      first = omega (arith, first, is.first, le);
      last = omega (arith, first, unit, is.last, le);
    }

pub row-in : (areas : List Area) (row : ℕ) → AllByRecursion IsArea areas → row < rows_in areas → IsRowIn areas (stripe_of_row_in areas row) row
row-in [] row all h = absurd (omega (arith, h))
row-in (a ∷ more) row all h = elim (cases_lt row (a.stripes * a.unit)) [
  | inl here ↦ subst (λ n. IsRowIn (a ∷ more) n row) (sym (row-here a more row here)) (row-in-first a more row all.0.least_unit here)
  | inr behind ↦
      subst (λ n. IsRowIn (a ∷ more) n row) (sym (row-more a more row behind))
      (row-in-more a more row (stripe_of_row_in more (row - a.stripes * a.unit)) behind
      (row-in more (row - a.stripes * a.unit) all.1 (omega (arith, h, behind))))
]
