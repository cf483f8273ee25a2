-- The lines of the version and of the array's shape: what was read is spelt so, or the first of them that is refused.
use Rattle.std.proofs.Common.{◌≡◌, ℕ, ◌≤◌, inl, inr, List, [], ◌∷◌, ◌++◌, drop, refl, sym, ap, subst, ◌∙◌, arith}
use Rattle.std.specs.Prelude.{codes}
use Rattle.std.specs.List.{flat_map}
use Rattle.stripe_layout.specs.declared.geometry.Geometry.{Geometry}
use Rattle.text_fields.specs.Spelling.{line, numeral}
use Rattle.host_scripts.specs.Scripts.{version_text, shape_texts, script_lines, most_targets, IsScript}
use Rattle.host_scripts.specs.Loose.{version_of}
use Rattle.host_scripts.specs.Reading.{any, line_at, number_at, version_at, version_areas_at, shape_at}
use Rattle.host_scripts.specs.FirstRefusals.{Begins}
use Rattle.host_scripts.specs.Refusals.{script_grammar}
use Rattle.host_scripts.proofs.Outcomes.{Outcome, then}
use Rattle.host_scripts.proofs.Texts.{version_rule}
use Rattle.host_scripts.proofs.ShapeTexts.{IsKnown, known, of-one-area}
use Rattle.host_scripts.proofs.ShapeAgain.{most-small}
use Rattle.host_scripts.proofs.Places.{Near, IsPlace, Grown, NumberRead, placed, number-placed, outcome_map, ranged-formed}
use Rattle.host_scripts.proofs.ShapeScripts.{IsShape, plain, begins-is, begins-formed, Small, one-small, shaped, least, is-shape, one-shape, at-line, is-of, third_texts}
use Rattle.host_scripts.proofs.AreaWalk.{AreasRead, single-outcome, several-outcome}

-- ---- the first line

pub record VersionRead (bytes : List ℕ) (x : ℕ × List ℕ) : Type 0 where
  pub known_is : IsKnown x.0
  pub split : bytes ≡ flat_map line (version_text x.0 ∷ []) ++ x.1

version-outcome : (bytes : List ℕ) → Outcome (VersionRead bytes) (Near bytes) (version_at bytes)
unfolding version_at
version-outcome bytes =
    let kept : ℕ → ℕ = λ w. w in
    let g : Geometry = shaped 3 1 (least ∷ []) in
    let begins : Begins script_grammar IsScript [] = begins-is 1 g [] (script_lines (plain 1 g)) (one-shape 1 3 1 1 1 (inl refl) (omega arith) (omega arith) one-small one-small one-small) refl in
    let place : IsPlace version_text kept IsKnown any [] bytes = record {
      here = λ s text more after f e split. record { word = s.version; spelt = sym (at-line 0 s [] more text e); formed = known s.version s.geometry.areas f.version };
      formed = λ w k. begins-formed w g (version_text w ∷ []) (drop 1 (script_lines (plain w g))) (of-one-area w least k) refl;
      fits = λ s w more r f e. refl;
    } in
    outcome_map (Grown version_text kept IsKnown any any bytes []) (VersionRead bytes) (Near bytes) (Near bytes) (line_at 1 any any version_of bytes)
    (placed version_of version_text kept IsKnown version_rule any any bytes [] bytes 1 refl refl begins place (λ bad. absurd (bad.holds.1 refl)))
    (λ x r. record { known_is = subst IsKnown (sym r.value) r.formed; split = r.split ∙ ap (λ (w : ℕ). flat_map line (version_text w ∷ []) ++ x.1) (sym r.value) }) (λ m cause bad. bad)

-- ---- targets and blocks

abbrev first_texts : ℕ → List (List ℕ)
first_texts v = version_text v ∷ []

abbrev second_texts : ℕ → ℕ → List (List ℕ)
second_texts v t = version_text v ∷ (codes "targets " ++ numeral t) ∷ []

targets-outcome : (bytes rest : List ℕ) (v : ℕ) → IsKnown v → bytes ≡ flat_map line (first_texts v) ++ rest → Outcome (NumberRead (codes "targets ") 3 (most_targets v) bytes (first_texts v)) (Near bytes) (number_at 2 (codes "targets ") 3 (most_targets v) rest)
targets-outcome bytes rest v k e =
    let most = most-small v k in
    let g : ℕ → Geometry = λ m. shaped m 1 (least ∷ []) in
    let begins = begins-is v (g 3) (first_texts v) (drop 1 (script_lines (plain v (g 3)))) (one-shape v 3 1 1 1 k (omega arith) (omega (arith, most)) one-small one-small one-small) refl in
    number-placed (codes "targets ") 3 (most_targets v) refl (omega (arith, most)) (λ s. s.geometry.targets) bytes (first_texts v) rest 2 e refl begins
    (λ s text more f e. at-line 1 s (first_texts v) more text e)
    (λ m. begins-formed v (g m) (second_texts v m) (drop 2 (script_lines (plain v (g m)))) (of-one-area v least k) refl)
    (λ s text more r e. (r.geometry.least_targets, subst (λ (w : ℕ). s.geometry.targets ≤ most_targets w) (is-of v k s (text ∷ more) (ranged-formed s r) e) r.targets))

block-outcome : (bytes rest : List ℕ) (v t : ℕ) → IsKnown v → 3 ≤ t → t ≤ most_targets v → bytes ≡ flat_map line (second_texts v t) ++ rest → Outcome (NumberRead (codes "block ") 1 4096 bytes (second_texts v t)) (Near bytes) (number_at 3 (codes "block ") 1 4096 rest)
block-outcome bytes rest v t k t0 t1 e =
    let g : ℕ → Geometry = λ m. shaped t m (least ∷ []) in
    let begins = begins-is v (g 1) (second_texts v t) (drop 2 (script_lines (plain v (g 1)))) (one-shape v t 1 1 1 k t0 t1 one-small one-small one-small) refl in
    number-placed (codes "block ") 1 4096 refl (omega arith) (λ s. s.geometry.block) bytes (second_texts v t) rest 3 e refl begins
    (λ s text more f e. at-line 2 s (second_texts v t) more text e)
    (λ m. begins-formed v (g m) (third_texts v t m) (drop 3 (script_lines (plain v (g m)))) (of-one-area v least k) refl)
    (λ s text more r e. (r.geometry.least_block, r.geometry.most_block))

-- ---- the whole shape

version-areas-outcome : (bytes rest : List ℕ) (v t b : ℕ) → IsKnown v → 3 ≤ t → t ≤ most_targets v → Small b → bytes ≡ flat_map line (third_texts v t b) ++ rest → Outcome (AreasRead bytes v t b) (Near bytes) (version_areas_at v rest)
version-areas-outcome bytes rest v t b (inl one) t0 t1 hb e =
    let Goal : ℕ → Type 0 = λ w. t ≤ most_targets w → bytes ≡ flat_map line (third_texts w t b) ++ rest → Outcome (AreasRead bytes w t b) (Near bytes) (version_areas_at w rest) in
    subst Goal (sym one) (λ few split. single-outcome bytes rest t b t0 few hb split) t1 e
version-areas-outcome bytes rest v t b (inr two) t0 t1 hb e =
    let Goal : ℕ → Type 0 = λ w. t ≤ most_targets w → bytes ≡ flat_map line (third_texts w t b) ++ rest → Outcome (AreasRead bytes w t b) (Near bytes) (version_areas_at w rest) in
    subst Goal (sym two) (λ few split. several-outcome bytes rest t b t0 few hb split) t1 e

pub record ShapeRead (bytes : List ℕ) (x : ℕ × Geometry × List ℕ) : Type 0 where
  pub is : IsShape x.0 x.1
  pub split : bytes ≡ flat_map line (shape_texts x.0 x.1) ++ x.2

pub shape-outcome : (bytes : List ℕ) → Outcome (ShapeRead bytes) (Near bytes) (shape_at bytes)
unfolding shape_at
shape-outcome bytes =
    then (VersionRead bytes) (ShapeRead bytes) (Near bytes) (version_at bytes) _ (version-outcome bytes) (λ v gv.
    then (NumberRead (codes "targets ") 3 (most_targets v.0) bytes (first_texts v.0)) (ShapeRead bytes) (Near bytes) (number_at 2 (codes "targets ") 3 (most_targets v.0) v.1) _ (targets-outcome bytes v.1 v.0 gv.known_is gv.split) (λ t gt.
    then (NumberRead (codes "block ") 1 4096 bytes (second_texts v.0 t.0)) (ShapeRead bytes) (Near bytes) (number_at 3 (codes "block ") 1 4096 t.1) _ (block-outcome bytes t.1 v.0 t.0 gv.known_is gt.low gt.high gt.split) (λ b gb.
    then (AreasRead bytes v.0 t.0 b.0) (ShapeRead bytes) (Near bytes) (version_areas_at v.0 b.1) _ (version-areas-outcome bytes b.1 v.0 t.0 b.0 gv.known_is gt.low gt.high (gb.low, gb.high) gb.split) (λ a ga.
    record { is = is-shape v.0 t.0 b.0 a.0 ga.version_is gt.low gt.high (gb.low, gb.high) ga.low ga.high ga.areas; split = ga.split }))))
