-- The lines of a version and of an array's shape tell which version and which shape they are of.
use Rattle.std.proofs.Common.{◌≡◌, ℕ, ◌+◌, ◌⊎◌, inl, inr, List, [], ◌∷◌, ◌++◌, length, map, get_or, drop, Some, refl, sym, ap, subst, ◌∙◌, arith}
use Rattle.std.specs.Prelude.{codes}
use Rattle.std.proofs.lemmas.List.{length-map}
use Rattle.std.proofs.lemmas.Option.{same_Some}
use Rattle.std.specs.Str.Parse.{digits_value}
use Rattle.stripe_layout.specs.declared.areas.Area.{Area}
use Rattle.stripe_layout.specs.declared.geometry.Geometry.{Geometry}
use Rattle.text_fields.specs.Spelling.{numeral}
use Rattle.text_fields.specs.Reading.{stripped, cut_at}
use Rattle.text_fields.proofs.NumeralLaws.{numeral-is, numeral-lacks}
use Rattle.text_fields.proofs.Cuts.{stripped-again, cut-again}
use Rattle.host_scripts.specs.Scripts.{version_text, area_text, single_texts, several_texts, areas_texts, shape_texts, IsVersion}
use Rattle.host_scripts.specs.Reading.{buffer_line}

-- ---- numbers

pub same-numeral : (m n : ℕ) → numeral m ≡ numeral n → m ≡ n
same-numeral m n e = sym (numeral-is m).value ∙ ap (digits_value 10) e ∙ (numeral-is n).value

pub same-number : (keyword : List ℕ) (m n : ℕ) → keyword ++ numeral m ≡ keyword ++ numeral n → m ≡ n
same-number keyword m n e = same-numeral m n (same_Some (numeral m) (numeral n) (sym (stripped-again keyword (numeral m)) ∙ ap (stripped keyword) e ∙ stripped-again keyword (numeral n)))

-- two lists that begin alike go on alike
pub same-head : (a b : List ℕ) (xs ys : List (List ℕ)) → a ∷ xs ≡ b ∷ ys → (a ≡ b) × (xs ≡ ys)
same-head a b xs ys e = (ap (λ (ts : List (List ℕ)). get_or ts 0 []) e, ap (λ (ts : List (List ℕ)). drop 1 ts) e)

-- ---- the version

-- one of the two that have a line
abbrev pub IsKnown : ℕ → Type 0
IsKnown version = (version ≡ 1) ⊎ (version ≡ 2)

pub known : (version : ℕ) (areas : List Area) → IsVersion version areas → IsKnown version
known version areas (inl one) = inl one.0
known version areas (inr two) = inr two

pub of-one-area : (version : ℕ) (a : Area) → IsKnown version → IsVersion version (a ∷ [])
of-one-area version a (inl one) = inl (one, refl)
of-one-area version a (inr two) = inr two

two-lines : version_text 1 ≡ version_text 2 → ⊥
two-lines e = let last : 49 ≡ 50 = ap (λ (t : List ℕ). get_or t 10 0) e in omega (arith, last)

pub same-version : (a b : ℕ) → IsKnown a → IsKnown b → version_text a ≡ version_text b → a ≡ b
same-version a b (inl f) (inl g) e = f ∙ sym g
same-version a b (inr f) (inr g) e = f ∙ sym g
same-version a b (inl f) (inr g) e = absurd (two-lines (sym (ap version_text f) ∙ e ∙ ap version_text g))
same-version a b (inr f) (inl g) e = absurd (two-lines (sym (ap version_text g) ∙ sym e ∙ ap version_text f))

-- ---- areas

abbrev pub no_area : Area
no_area = record { unit = 0; stripes = 0 }

abbrev pub first_area : List Area → Area
first_area [] = no_area
first_area (a ∷ more) = a

pub single-list : (areas : List Area) → length areas ≡ 1 → areas ≡ first_area areas ∷ []
single-list [] e = let no : ⊥ = omega arith in absurd no
single-list (a ∷ []) e = refl
single-list (a ∷ b ∷ more) e = let no : ⊥ = omega arith in absurd no

-- version 1 has one area
pub one-area : (version : ℕ) (areas : List Area) → IsVersion version areas → version ≡ 1 → areas ≡ first_area areas ∷ []
one-area version areas (inl one) e = single-list areas one.1
one-area version areas (inr two) e = let no : ⊥ = omega (arith, two, e) in absurd no

pub single-are : (version : ℕ) (areas : List Area) → IsVersion version areas → version ≡ 1
    → areas_texts version areas ≡ (codes "unit " ++ numeral (first_area areas).unit) ∷ (codes "stripes " ++ numeral (first_area areas).stripes) ∷ []
single-are version areas is e = ap (λ (v : ℕ). areas_texts v areas) e ∙ ap single_texts (one-area version areas is e)

pub several-are : (version : ℕ) (areas : List Area) → version ≡ 2 → areas_texts version areas ≡ several_texts areas
several-are version areas e = ap (λ (v : ℕ). areas_texts v areas) e

area-parts : (a : Area) → stripped (codes "area ") (area_text a) ≡ Some (numeral a.unit ++ 32 ∷ numeral a.stripes)
area-parts a = stripped-again (codes "area ") (numeral a.unit ++ 32 ∷ numeral a.stripes)

area-cut : (a : Area) → cut_at 32 (numeral a.unit ++ 32 ∷ numeral a.stripes) ≡ Some (numeral a.unit, numeral a.stripes)
area-cut a = cut-again 32 (numeral a.unit) (numeral a.stripes) (numeral-lacks 32 a.unit (omega arith))

area-of-parts : (a b : Area) → a.unit ≡ b.unit → a.stripes ≡ b.stripes → a ≡ b
area-of-parts a b e f =
    let make : ℕ → ℕ → Area = λ u s. record { unit = u; stripes = s } in
    ap (λ (u : ℕ). make u a.stripes) e ∙ ap (λ (s : ℕ). make b.unit s) f

pub same-area : (a b : Area) → area_text a ≡ area_text b → a ≡ b
same-area a b e =
    let numbers = same_Some (numeral a.unit ++ 32 ∷ numeral a.stripes) (numeral b.unit ++ 32 ∷ numeral b.stripes) (sym (area-parts a) ∙ ap (stripped (codes "area ")) e ∙ area-parts b) in
    let both = same_Some (numeral a.unit, numeral a.stripes) (numeral b.unit, numeral b.stripes) (sym (area-cut a) ∙ ap (cut_at 32) numbers ∙ area-cut b) in
    area-of-parts a b (same-numeral a.unit b.unit (ap (λ (p : List ℕ × List ℕ). p.0) both)) (same-numeral a.stripes b.stripes (ap (λ (p : List ℕ × List ℕ). p.1) both))

each-same : (xs ys : List Area) (x y : List (List ℕ)) → length xs ≡ length ys → map area_text xs ++ x ≡ map area_text ys ++ y → (xs ≡ ys) × (x ≡ y)
each-same [] [] x y len e = (refl, e)
each-same [] (b ∷ ys) x y len e = let no : ⊥ = omega arith in absurd no
each-same (a ∷ xs) [] x y len e = let no : ⊥ = omega arith in absurd no
each-same (a ∷ xs) (b ∷ ys) x y len e =
    let p = same-head (area_text a) (area_text b) (map area_text xs ++ x) (map area_text ys ++ y) e in
    let others = each-same xs ys x y (omega arith) p.1 in
    (ap (λ (c : Area). c ∷ xs) (same-area a b p.0) ∙ ap (λ (cs : List Area). b ∷ cs) others.0, others.1)

single-same : (a b : Area) (x y : List (List ℕ)) → single_texts (a ∷ []) ++ x ≡ single_texts (b ∷ []) ++ y → (a ≡ b) × (x ≡ y)
single-same a b x y e =
    let unit : codes "unit " ++ numeral a.unit ≡ codes "unit " ++ numeral b.unit = ap (λ (ts : List (List ℕ)). get_or ts 0 []) e in
    let stripes : codes "stripes " ++ numeral a.stripes ≡ codes "stripes " ++ numeral b.stripes = ap (λ (ts : List (List ℕ)). get_or ts 1 []) e in
    (area-of-parts a b (same-number (codes "unit ") a.unit b.unit unit) (same-number (codes "stripes ") a.stripes b.stripes stripes), ap (λ (ts : List (List ℕ)). drop 2 ts) e)

several-same : (xs ys : List Area) (x y : List (List ℕ)) → several_texts xs ++ x ≡ several_texts ys ++ y → (xs ≡ ys) × (x ≡ y)
several-same xs ys x y e =
    let p = same-head (codes "areas " ++ numeral (length xs)) (codes "areas " ++ numeral (length ys)) (map area_text xs ++ x) (map area_text ys ++ y) e in
    each-same xs ys x y (same-number (codes "areas ") (length xs) (length ys) p.0) p.1

areas-same : (version : ℕ) (xs ys : List Area) (x y : List (List ℕ)) → IsVersion version xs → IsVersion version ys → areas_texts version xs ++ x ≡ areas_texts version ys ++ y → (xs ≡ ys) × (x ≡ y)
areas-same version xs ys x y (inl f) (inl g) e =
    let a-is = single-list xs f.1 in
    let b-is = single-list ys g.1 in
    let texts : (cs : List Area) → length cs ≡ 1 → areas_texts version cs ≡ single_texts (first_area cs ∷ []) = λ cs len. ap (λ (v : ℕ). areas_texts v cs) f.0 ∙ ap single_texts (single-list cs len) in
    let lines : single_texts (first_area xs ∷ []) ++ x ≡ single_texts (first_area ys ∷ []) ++ y = ap (λ (ts : List (List ℕ)). ts ++ x) (sym (texts xs f.1)) ∙ e ∙ ap (λ (ts : List (List ℕ)). ts ++ y) (texts ys g.1) in
    let p = single-same (first_area xs) (first_area ys) x y lines in
    (a-is ∙ ap (λ (c : Area). c ∷ []) p.0 ∙ sym b-is, p.1)
areas-same version xs ys x y (inl f) (inr g) e = let no : ⊥ = omega (arith, f.0, g) in absurd no
areas-same version xs ys x y (inr f) (inl g) e = let no : ⊥ = omega (arith, f, g.0) in absurd no
areas-same version xs ys x y (inr f) (inr g) e =
    several-same xs ys x y (ap (λ (ts : List (List ℕ)). ts ++ x) (sym (several-are version xs f)) ∙ e ∙ ap (λ (ts : List (List ℕ)). ts ++ y) (several-are version ys f))

-- ---- the shape

geometry-same : (a b : Geometry) → a.targets ≡ b.targets → a.block ≡ b.block → a.areas ≡ b.areas → a ≡ b
geometry-same a b t k s =
    let make : ℕ → ℕ → List Area → Geometry = λ t k s. record { targets = t; block = k; areas = s } in
    ap (λ (x : ℕ). make x a.block a.areas) t ∙ ap (λ (x : ℕ). make b.targets x a.areas) k ∙ ap (λ (x : List Area). make b.targets b.block x) s

pub record SameShape (v w : ℕ) (g h : Geometry) (x y : List (List ℕ)) : Type 0 where
  pub version : v ≡ w
  pub geometry : g ≡ h
  pub behind : x ≡ y

pub same-shape : (v w : ℕ) (g h : Geometry) (x y : List (List ℕ)) → IsVersion v g.areas → IsVersion w h.areas → shape_texts v g ++ x ≡ shape_texts w h ++ y → SameShape v w g h x y
same-shape v w g h x y f k e =
    let first : version_text v ≡ version_text w = ap (λ (ts : List (List ℕ)). get_or ts 0 []) e in
    let version = same-version v w (known v g.areas f) (known w h.areas k) first in
    let targets = same-number (codes "targets ") g.targets h.targets (ap (λ (ts : List (List ℕ)). get_or ts 1 []) e) in
    let block = same-number (codes "block ") g.block h.block (ap (λ (ts : List (List ℕ)). get_or ts 2 []) e) in
    let others : areas_texts v g.areas ++ x ≡ areas_texts w h.areas ++ y = ap (λ (ts : List (List ℕ)). drop 3 ts) e in
    let is : IsVersion v h.areas = subst (λ (n : ℕ). IsVersion n h.areas) (sym version) k in
    let p = areas-same v g.areas h.areas x y f is (others ∙ ap (λ (n : ℕ). areas_texts n h.areas ++ y) (sym version)) in
    record { version = version; geometry = geometry-same g h targets block p.0; behind = p.1 }

-- the number of the line behind the shape
areas-count : (v : ℕ) (areas : List Area) → IsVersion v areas → buffer_line v areas ≡ length (areas_texts v areas) + 4
areas-count v areas (inl one) =
    let texts = ap (λ (ts : List (List ℕ)). length ts) (single-are v areas (inl one) one.0) in
    let line : buffer_line v areas ≡ 6 = ap (λ (n : ℕ). buffer_line n areas) one.0 in
    omega (arith, texts, line)
areas-count v areas (inr two) =
    let texts = ap (λ (ts : List (List ℕ)). length ts) (several-are v areas two) in
    let line : buffer_line v areas ≡ 5 + length areas = ap (λ (n : ℕ). buffer_line n areas) two in
    omega (arith, texts, line, length-map areas area_text)

pub shape-count : (v : ℕ) (g : Geometry) → IsVersion v g.areas → buffer_line v g.areas ≡ length (shape_texts v g) + 1
shape-count v g is = let n = areas-count v g.areas is in omega (arith, n)
