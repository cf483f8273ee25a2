-- The lines of a version and of an array's shape are read as these.
use Rattle.std.proofs.Common.{◌≡◌, ℕ, suc, ◌+◌, ◌≤◌, inl, inr, true, List, [], ◌∷◌, ◌++◌, length, map, Ok, refl, ap, ◌∙◌, arith}
use Rattle.std.specs.Prelude.{codes}
use Rattle.std.specs.List.{flat_map, AllByRecursion}
use Rattle.stripe_layout.specs.Layout.{IsArray, IsArea}
use Rattle.stripe_layout.specs.declared.areas.Area.{Area}
use Rattle.stripe_layout.specs.declared.geometry.Geometry.{Geometry}
use Rattle.text_fields.specs.Spelling.{line, numeral}
use Rattle.host_scripts.specs.Scripts.{version_text, area_text, single_texts, several_texts, areas_texts, shape_texts, most_targets, IsVersion}
use Rattle.host_scripts.specs.Loose.{version_of, area_of}
use Rattle.host_scripts.specs.Reading.{any, number_at, version_at, single_at, is_area, area_at, areas_at, several_at, version_areas_at, shape_at}
use Rattle.host_scripts.proofs.Rules.{line-again}
use Rattle.host_scripts.proofs.Texts.{version_rule}
use Rattle.host_scripts.proofs.AreaTexts.{kept_area, area_rule}
use Rattle.host_scripts.proofs.NumberLines.{cap-small, within-true, number-line}
use Rattle.host_scripts.proofs.ShapeTexts.{IsKnown, known}

-- the bytes of lines
abbrev rows : List (List ℕ) → List ℕ
rows texts = flat_map line texts

version-line : (version : ℕ) (after : List ℕ) → IsKnown version → version_at (line (version_text version) ++ after) ≡ Ok (version, after)
unfolding version_at
version-line version after is = line-again version_of version_text (λ w. w) IsKnown version_rule any any 1 version after is refl refl

pub area-true : (a : Area) → IsArea a → (is_area (kept_area a) ≡ true) × (kept_area a ≡ a)
area-true a is =
    let u = within-true 1 4096 a.unit (omega arith) is.least_unit is.most_unit in
    let s = within-true 1 4096 a.stripes (omega arith) is.least_stripes is.most_stripes in
    let most = is.most_unit in
    let many = is.most_stripes in
    (rw (u, s) refl, rw (cap-small a.unit (omega (arith, most)), cap-small a.stripes (omega (arith, many))) refl)

area-line : (n : ℕ) (a : Area) (after : List ℕ) → IsArea a → area_at n (line (area_text a) ++ after) ≡ Ok (a, after)
unfolding area_at
area-line n a after is =
    let tests = area-true a is in
    line-again area_of area_text kept_area (λ a. Unit {0}) area_rule is_area any n a after tt tests.0 refl ∙ ap (λ (b : Area). Ok (b, after)) tests.1

areas-step : (count n : ℕ) (bytes after rest : List ℕ) (a : Area) (areas : List Area) → area_at n bytes ≡ Ok (a, after) → areas_at count (n + 1) after ≡ Ok (areas, rest) → areas_at (suc count) n bytes ≡ Ok (a ∷ areas, rest)
unfolding areas_at
areas-step count n bytes after rest a areas e f = rw (e, f) refl

areas-none : (n : ℕ) (bytes : List ℕ) → areas_at 0 n bytes ≡ Ok ([], bytes)
unfolding areas_at
areas-none n bytes = refl

areas-again : (areas : List Area) (n : ℕ) (others : List (List ℕ)) → AllByRecursion IsArea areas → areas_at (length areas) n (rows (map area_text areas ++ others)) ≡ Ok (areas, rows others)
areas-again [] n others is = areas-none n (rows others)
areas-again (a ∷ areas) n others is =
    let after = rows (map area_text areas ++ others) in
    areas-step (length areas) n (line (area_text a) ++ after) after (rows others) a areas (area-line n a after is.0) (areas-again areas (n + 1) others is.1)

several-again : (areas : List Area) (others : List (List ℕ)) → 1 ≤ length areas → length areas ≤ 8 → AllByRecursion IsArea areas → several_at (rows (several_texts areas ++ others)) ≡ Ok (areas, rows others)
unfolding several_at
several-again areas others low high is =
    let after = rows (map area_text areas ++ others) in
    let count = number-line 4 (codes "areas ") 1 8 refl (omega arith) (rows (several_texts areas ++ others)) after (length areas) low high refl in
    rw (count, areas-again areas 5 others is) refl

single-again : (a : Area) (others : List (List ℕ)) → IsArea a → single_at (rows (single_texts (a ∷ []) ++ others)) ≡ Ok (a ∷ [], rows others)
unfolding single_at
single-again a others is =
    let rest = rows others in
    let after = line (codes "stripes " ++ numeral a.stripes) ++ rest in
    let unit = number-line 4 (codes "unit ") 1 4096 refl (omega arith) (rows (single_texts (a ∷ []) ++ others)) after a.unit is.least_unit is.most_unit refl in
    let stripes = number-line 5 (codes "stripes ") 1 4096 refl (omega arith) after rest a.stripes is.least_stripes is.most_stripes refl in
    rw (unit, stripes) refl

-- what is asked of the areas of a version
abbrev AreasAgain : ℕ → List Area → List (List ℕ) → Type 0
AreasAgain version areas others = version_areas_at version (rows (areas_texts version areas ++ others)) ≡ Ok (areas, rows others)

of-version : (version to : ℕ) (areas : List Area) (others : List (List ℕ)) → version ≡ to → AreasAgain to areas others → AreasAgain version areas others
of-version version to areas others e h = ap (λ (v : ℕ). version_areas_at v (rows (areas_texts v areas ++ others))) e ∙ h

one-again : (areas : List Area) (others : List (List ℕ)) → length areas ≡ 1 → AllByRecursion IsArea areas → AreasAgain 1 areas others
one-again [] others len is = let no : ⊥ = omega arith in absurd no
one-again (a ∷ []) others len is = single-again a others is.0
one-again (a ∷ b ∷ more) others len is = let no : ⊥ = omega arith in absurd no

version-areas-again : (version : ℕ) (areas : List Area) (others : List (List ℕ)) → IsVersion version areas → 1 ≤ length areas → length areas ≤ 8 → AllByRecursion IsArea areas → AreasAgain version areas others
version-areas-again version areas others (inl one) low high is = of-version version 1 areas others one.0 (one-again areas others one.1 is)
version-areas-again version areas others (inr two) low high is = of-version version 2 areas others two (several-again areas others low high is)

pub most-small : (version : ℕ) → IsKnown version → (3 ≤ most_targets version) × (most_targets version ≤ 32)
most-small version (inl one) = let e : most_targets version ≡ 16 = ap most_targets one in (omega (arith, e), omega (arith, e))
most-small version (inr two) = let e : most_targets version ≡ 32 = ap most_targets two in (omega (arith, e), omega (arith, e))

shape-parts : (version : ℕ) (g : Geometry) (b0 b1 b2 b3 rest : List ℕ) → version_at b0 ≡ Ok (version, b1) → number_at 2 (codes "targets ") 3 (most_targets version) b1 ≡ Ok (g.targets, b2) → number_at 3 (codes "block ") 1 4096 b2 ≡ Ok (g.block, b3)
    → version_areas_at version b3 ≡ Ok (g.areas, rest) → shape_at b0 ≡ Ok (version, g, rest)
unfolding shape_at
shape-parts version g b0 b1 b2 b3 rest v t b a = rw (v, t, b, a) refl

pub shape-again : (version : ℕ) (g : Geometry) (others : List (List ℕ)) → IsVersion version g.areas → IsArray g → g.targets ≤ most_targets version → shape_at (rows (shape_texts version g ++ others)) ≡ Ok (version, g, rows others)
shape-again version g others is array few =
    let b3 = rows (areas_texts version g.areas ++ others) in
    let b2 = line (codes "block " ++ numeral g.block) ++ b3 in
    let b1 = line (codes "targets " ++ numeral g.targets) ++ b2 in
    let k = known version g.areas is in
    let most = most-small version k in
    shape-parts version g (rows (shape_texts version g ++ others)) b1 b2 b3 (rows others) (version-line version b1 k)
    (number-line 2 (codes "targets ") 3 (most_targets version) refl (omega (arith, most)) b1 b2 g.targets array.least_targets few refl)
    (number-line 3 (codes "block ") 1 4096 refl (omega arith) b2 b3 g.block array.least_block array.most_block refl)
    (version-areas-again version g.areas others is array.least_areas array.most_areas array.areas)
