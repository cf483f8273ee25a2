-- Orders of slots: each slot stands once, below their number, also where parts change their places and where slots are added.
use Rattle.std.proofs.Common.{◌≡◌, ℕ, zero, suc, ◌+◌, ◌-◌, ◌<◌, ◌≤◌, ◌⊎◌, inl, inr, Bool, cond, List, [], ◌∷◌, ◌++◌, length, take, drop, get_or, refl, ap, sym, ◌∙◌, arith}
use Rattle.std.proofs.lemmas.Bool.{eq-eqb, ne_eqb, cases_eq, cases_lt}
use Rattle.std.proofs.lemmas.List.{length-take-le, length-drop, length-append, drop-drop, take-append-drop, drop_more}
use Rattle.xor_buffers.specs.Slots.{times_in, IsOrder, turned, numbers_from}

pub times_in-append : (s : ℕ) (xs ys : List ℕ) → times_in s (xs ++ ys) ≡ times_in s xs + times_in s ys
times_in-append s [] ys = omega arith
times_in-append s (x ∷ xs) ys = omega (arith, times_in-append s xs ys)

-- a slot of an order stands in it
pub stands : (order : List ℕ) (q d : ℕ) → q < length order → 1 ≤ times_in (get_or order q d) order
stands [] q d h = absurd (omega arith)
stands (x ∷ xs) zero d h = rw (eq-eqb x x refl) (omega arith)
stands (x ∷ xs) (suc q) d h = omega (arith, stands xs q d (omega arith))

-- slots below a number
abbrev pub AreBelow : ℕ → List ℕ → Type 0
AreBelow n order = (slot : ℕ) → n ≤ slot → times_in slot order ≡ 0

pub below_left : (n : ℕ) (xs ys : List ℕ) → AreBelow n (xs ++ ys) → AreBelow n xs
below_left n xs ys h = λ slot le. omega (arith, times_in-append slot xs ys, h slot le)

pub below_right : (n : ℕ) (xs ys : List ℕ) → AreBelow n (xs ++ ys) → AreBelow n ys
below_right n xs ys h = λ slot le. omega (arith, times_in-append slot xs ys, h slot le)

pub below_first : (n x : ℕ) (xs : List ℕ) → AreBelow n (x ∷ xs) → x < n
below_first n x xs h = elim (cases_lt x n) [
  | inl less ↦ less
  | inr more ↦ absurd (omega (arith, h x more, stands (x ∷ xs) 0 0 (omega arith)))
]

pub below_rest : (n x : ℕ) (xs : List ℕ) → AreBelow n (x ∷ xs) → AreBelow n xs
below_rest n x xs h = λ slot le. omega (arith, h slot le)

-- an order, parted at a place
pub parted : (order : List ℕ) (q d : ℕ) → q < length order → order ≡ take q order ++ get_or order q d ∷ drop (q + 1) order
parted order q d h = sym (take-append-drop q order) ∙ ap (λ t. take q order ++ t) (drop_more order q d h)

pub below_drop : (n q : ℕ) (order : List ℕ) → AreBelow n order → AreBelow n (drop q order)
below_drop n q order below = below_right n (take q order) (drop q order) (rw (take-append-drop q order) below)

-- an order in which parts changed their places
pub order-turned : (n : ℕ) (order : List ℕ) (at count used : ℕ) → at + count ≤ used → used ≤ length order → IsOrder n order →
    IsOrder n (take at order ++ (drop count (take (used - at) (drop at order)) ++ take count (take (used - at) (drop at order)) ++ drop used order))
order-turned n order at count used within le o = record {
  once = λ s. omega (arith, same s, o.once s);
  inside = λ s h. omega (arith, same s, o.inside s h);
}
  where
    mid : List ℕ
    mid = take (used - at) (drop at order)

    tail : drop used order ≡ drop (used - at) (drop at order)
    tail = sym (drop-drop (used - at) at order ∙ ap (λ m. drop m order) (omega (arith, within)))

    same : (s : ℕ) → times_in s (take at order ++ (drop count mid ++ take count mid ++ drop used order)) ≡ times_in s order
    same s =
        let whole : times_in s (take at order) + times_in s (drop at order) ≡ times_in s order =
        sym (times_in-append s (take at order) (drop at order)) ∙ ap (times_in s) (take-append-drop at order) in
        let part : times_in s mid + times_in s (drop used order) ≡ times_in s (drop at order) =
        ap (λ t. times_in s mid + times_in s t) tail ∙ sym (times_in-append s mid (drop (used - at) (drop at order)))
        ∙ ap (times_in s) (take-append-drop (used - at) (drop at order)) in
        let turned : times_in s (take count mid) + times_in s (drop count mid) ≡ times_in s mid =
        sym (times_in-append s (take count mid) (drop count mid)) ∙ ap (times_in s) (take-append-drop count mid) in
        omega (
          arith,
          times_in-append s (take at order) (drop count mid ++ take count mid ++ drop used order),
          times_in-append s (drop count mid ++ take count mid) (drop used order),
          times_in-append s (drop count mid) (take count mid),
          whole,
          part,
          turned,
        )

pub length-numbers_from : (first n : ℕ) → length (numbers_from first n) ≡ n
length-numbers_from first zero = refl
length-numbers_from first (suc n) = omega (arith, length-append (numbers_from first n) ((first + n) ∷ []), length-numbers_from first n)

numbered : (first n s : ℕ) → (times_in s (numbers_from first n) ≤ 1) × ((s < first) ⊎ (first + n ≤ s) → times_in s (numbers_from first n) ≡ 0)
numbered first zero s = (omega arith, λ _. refl)
numbered first (suc n) s =
    let all : times_in s (numbers_from first n ++ (first + n) ∷ []) ≡ times_in s (numbers_from first n) + times_in s ((first + n) ∷ []) =
    times_in-append s (numbers_from first n) ((first + n) ∷ []) in
    elim (cases_eq (first + n) s) [
      | inl e ↦
          let one : times_in s ((first + n) ∷ []) ≡ 1 = ap (λ (t : Bool). cond t 1 0 + 0) (eq-eqb (first + n) s e) in
          let none : times_in s (numbers_from first n) ≡ 0 = (numbered first n s).1 (inr (omega (arith, e))) in
          (omega (arith, all, one, none), λ out. elim out [ inl l ↦ absurd (omega (arith, l, e)) | inr g ↦ absurd (omega (arith, g, e)) ])
      | inr ne ↦
          let none : times_in s ((first + n) ∷ []) ≡ 0 = ap (λ (t : Bool). cond t 1 0 + 0) (ne_eqb (first + n) s ne) in (
            omega (arith, all, none, (numbered first n s).0),
            λ out. omega (arith, all, none, (numbered first n s).1 (elim out [ inl l ↦ inl l | inr g ↦ inr (omega (arith, g)) ])),
          )
    ]

-- an order with the numbers of more slots
pub order-longer : (n more : ℕ) (order : List ℕ) → IsOrder n order → IsOrder (n + more) (order ++ numbers_from n more)
order-longer n more order o = record {
  once = λ s. elim (cases_lt s n) [
    | inl less ↦ omega (arith, all s, o.once s, (numbered n more s).1 (inl less))
    | inr past ↦ omega (arith, all s, o.inside s past, (numbered n more s).0)
  ];
  inside = λ s h. omega (arith, all s, o.inside s (omega (arith, h)), (numbered n more s).1 (inr h));
}
  where
    all : (s : ℕ) → times_in s (order ++ numbers_from n more) ≡ times_in s order + times_in s (numbers_from n more)
    all s = times_in-append s order (numbers_from n more)

pub length-turned : (at count used : ℕ) (order : List ℕ) → at + count ≤ used → used ≤ length order → length (turned at count used order) ≡ length order
length-turned at count used order within le =
    omega (
      arith,
      length-append (take at order) (drop count mid ++ take count mid ++ drop used order),
      length-append (drop count mid ++ take count mid) (drop used order),
      length-append (drop count mid) (take count mid),
      length-take-le at order (omega arith),
      length-take-le (used - at) (drop at order) (omega (arith, length-drop at order)),
      length-take-le count mid (omega (arith, length-take-le (used - at) (drop at order) (omega (arith, length-drop at order)))),
      length-drop count mid,
      length-drop used order,
    )
  where
    mid : List ℕ
    mid = take (used - at) (drop at order)
