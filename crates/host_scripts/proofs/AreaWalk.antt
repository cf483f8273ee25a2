-- The lines of the areas, in either version: what was read is spelt so, or the first of them that is refused.
use Rattle.std.proofs.Common.{◌≡◌, ℕ, zero, suc, ◌+◌, ◌<◌, ◌≤◌, inl, inr, ◌&&◌, Bool, true, false, List, [], ◌∷◌, ◌++◌, length, map, get_or, drop, replicate, refl, sym, ap, subst, ◌∙◌, append_assoc, length-append, arith}
use Rattle.std.specs.Prelude.{codes}
use Rattle.std.specs.List.{flat_map, AllByRecursion}
use Rattle.std.proofs.lemmas.List.{append-nil, length-replicate}
use Rattle.stripe_layout.specs.Layout.{IsArea}
use Rattle.stripe_layout.specs.declared.areas.Area.{Area}
use Rattle.stripe_layout.specs.declared.geometry.Geometry.{Geometry}
use Rattle.host_scripts.specs.declared.script.Script.{Script}
use Rattle.text_fields.specs.Spelling.{line, numeral}
use Rattle.host_scripts.specs.Scripts.{version_text, area_text, areas_texts, several_texts, shape_texts, start_texts, script_lines, IsVersion}
use Rattle.host_scripts.specs.Loose.{area_of}
use Rattle.host_scripts.specs.Reading.{any, within, line_at, number_at, single_at, is_area, area_at, areas_at, several_at}
use Rattle.host_scripts.specs.Refusals.{IsFormed}
use Rattle.host_scripts.proofs.Outcomes.{Outcome, then}
use Rattle.host_scripts.proofs.Texts.{cap}
use Rattle.host_scripts.proofs.AreaTexts.{kept_area, area_rule}
use Rattle.host_scripts.proofs.ShapeTexts.{first_area, single-are, several-are, same-area, same-head, same-number}
use Rattle.host_scripts.proofs.ShapeAgain.{area-true}
use Rattle.host_scripts.proofs.Places.{Near, IsPlace, Grown, NumberRead, placed, number-placed, outcome_map, ranged-formed, within-parts}
use Rattle.host_scripts.proofs.ShapeScripts.{IsShape, plain, begins-is, begins-formed, Small, one-small, shaped, area, least, is-area, least-is, is-shape, one-shape, behind_shape, at-line, is-of, third_texts}

pub record AreasRead (bytes : List ℕ) (v t b : ℕ) (x : List Area × List ℕ) : Type 0 where
  pub version_is : IsVersion v x.0
  pub low : 1 ≤ length x.0
  pub high : length x.0 ≤ 8
  pub areas : AllByRecursion IsArea x.0
  pub split : bytes ≡ flat_map line (shape_texts v (shaped t b x.0)) ++ x.1

-- ---- the one area of version 1

first-is : (areas : List Area) → 1 ≤ length areas → AllByRecursion IsArea areas → IsArea (first_area areas)
first-is [] low all = let no : ⊥ = omega arith in absurd no
first-is (a ∷ more) low all = all.0

-- the line of the unit, and the one of the stripes
single-at : (n : ℕ) (s : Script) (more : List (List ℕ)) → IsFormed s → script_lines s ≡ version_text 1 ∷ more
    → get_or ((codes "unit " ++ numeral (first_area s.geometry.areas).unit) ∷ (codes "stripes " ++ numeral (first_area s.geometry.areas).stripes) ∷ behind_shape s) n [] ≡ get_or (areas_texts s.version s.geometry.areas ++ behind_shape s) n []
single-at n s more f e =
    let texts = single-are s.version s.geometry.areas f.version (is-of 1 (inl refl) s more f e) in
    ap (λ (ts : List (List ℕ)). get_or (ts ++ behind_shape s) n []) (sym texts)

unit-outcome : (bytes rest : List ℕ) (t b : ℕ) → 3 ≤ t → t ≤ 16 → Small b → bytes ≡ flat_map line (third_texts 1 t b) ++ rest → Outcome (NumberRead (codes "unit ") 1 4096 bytes (third_texts 1 t b)) (Near bytes) (number_at 4 (codes "unit ") 1 4096 rest)
unit-outcome bytes rest t b t0 t1 hb e =
    let texts = third_texts 1 t b in
    let g : ℕ → Geometry = λ m. shaped t b (area m 1 ∷ []) in
    let begins = begins-is 1 (g 1) texts (drop 3 (script_lines (plain 1 (g 1)))) (one-shape 1 t b 1 1 (inl refl) t0 t1 hb one-small one-small) refl in
    number-placed (codes "unit ") 1 4096 refl (omega arith) (λ s. (first_area s.geometry.areas).unit) bytes texts rest 4 e refl begins
    (λ s text more f e. single-at 0 s (drop 1 (texts ++ text ∷ more)) f e ∙ at-line 3 s texts more text e)
    (λ m. begins-formed 1 (g m) (texts ++ (codes "unit " ++ numeral m) ∷ []) (drop 4 (script_lines (plain 1 (g m)))) (inl (refl, refl)) refl)
    (λ s text more r e. let is = first-is s.geometry.areas r.geometry.least_areas r.geometry.areas in (is.least_unit, is.most_unit))

stripes-outcome : (bytes rest : List ℕ) (t b u : ℕ) → 3 ≤ t → t ≤ 16 → Small b → Small u → bytes ≡ flat_map line (third_texts 1 t b ++ (codes "unit " ++ numeral u) ∷ []) ++ rest
    → Outcome (NumberRead (codes "stripes ") 1 4096 bytes (third_texts 1 t b ++ (codes "unit " ++ numeral u) ∷ [])) (Near bytes) (number_at 5 (codes "stripes ") 1 4096 rest)
stripes-outcome bytes rest t b u t0 t1 hb hu e =
    let texts = third_texts 1 t b ++ (codes "unit " ++ numeral u) ∷ [] in
    let g : ℕ → Geometry = λ m. shaped t b (area u m ∷ []) in
    let begins = begins-is 1 (g 1) texts (drop 4 (script_lines (plain 1 (g 1)))) (one-shape 1 t b u 1 (inl refl) t0 t1 hb hu one-small) refl in
    number-placed (codes "stripes ") 1 4096 refl (omega arith) (λ s. (first_area s.geometry.areas).stripes) bytes texts rest 5 e refl begins
    (λ s text more f e. single-at 1 s (drop 1 (texts ++ text ∷ more)) f e ∙ at-line 4 s texts more text e)
    (λ m. begins-formed 1 (g m) (texts ++ (codes "stripes " ++ numeral m) ∷ []) (drop 5 (script_lines (plain 1 (g m)))) (inl (refl, refl)) refl)
    (λ s text more r e. let is = first-is s.geometry.areas r.geometry.least_areas r.geometry.areas in (is.least_stripes, is.most_stripes))

pub single-outcome : (bytes rest : List ℕ) (t b : ℕ) → 3 ≤ t → t ≤ 16 → Small b → bytes ≡ flat_map line (third_texts 1 t b) ++ rest → Outcome (AreasRead bytes 1 t b) (Near bytes) (single_at rest)
unfolding single_at
single-outcome bytes rest t b t0 t1 hb e =
    let texts : ℕ → List (List ℕ) = λ u. third_texts 1 t b ++ (codes "unit " ++ numeral u) ∷ [] in
    then (NumberRead (codes "unit ") 1 4096 bytes (third_texts 1 t b)) (AreasRead bytes 1 t b) (Near bytes) (number_at 4 (codes "unit ") 1 4096 rest) _ (unit-outcome bytes rest t b t0 t1 hb e) (λ u gu.
    then (NumberRead (codes "stripes ") 1 4096 bytes (texts u.0)) (AreasRead bytes 1 t b) (Near bytes) (number_at 5 (codes "stripes ") 1 4096 u.1) _ (stripes-outcome bytes u.1 t b u.0 t0 t1 hb (gu.low, gu.high) gu.split) (λ s gs.
    record { version_is = inl (refl, refl); low = omega arith; high = omega arith; areas = (is-area u.0 s.0 (gu.low, gu.high) (gs.low, gs.high), tt); split = gs.split }))

-- ---- the areas of version 2

abbrev fourth_texts : ℕ → ℕ → ℕ → List (List ℕ)
fourth_texts t b count = third_texts 2 t b ++ (codes "areas " ++ numeral count) ∷ []

-- what stands behind the areas of a plain script
abbrev plain_starts : List (List ℕ)
plain_starts = start_texts (plain 2 (shaped 3 1 []))

map-append : (xs ys : List Area) → map area_text (xs ++ ys) ≡ map area_text xs ++ map area_text ys
map-append [] ys = refl
map-append (x ∷ xs) ys = ap (λ (ts : List (List ℕ)). area_text x ∷ ts) (map-append xs ys)

several-lines : (t b count : ℕ) (done others : List Area) → length (done ++ others) ≡ count
    → script_lines (plain 2 (shaped t b (done ++ others))) ≡ (fourth_texts t b count ++ map area_text done) ++ (map area_text others ++ plain_starts)
several-lines t b count done others len =
    let all = map area_text (done ++ others) ++ plain_starts in
    let grouped : all ≡ map area_text done ++ (map area_text others ++ plain_starts) = ap (λ (ts : List (List ℕ)). ts ++ plain_starts) (map-append done others) ∙ append_assoc (map area_text done) (map area_text others) plain_starts in
    ap (λ (n : ℕ). fourth_texts t b n ++ all) len ∙ ap (λ (ts : List (List ℕ)). fourth_texts t b count ++ ts) grouped

-- the number of areas
several-at : (s : Script) (more : List (List ℕ)) → IsFormed s → script_lines s ≡ version_text 2 ∷ more → areas_texts s.version s.geometry.areas ++ behind_shape s ≡ several_texts s.geometry.areas ++ behind_shape s
several-at s more f e = ap (λ (ts : List (List ℕ)). ts ++ behind_shape s) (several-are s.version s.geometry.areas (is-of 2 (inr refl) s more f e))

count-outcome : (bytes rest : List ℕ) (t b : ℕ) → 3 ≤ t → t ≤ 32 → Small b → bytes ≡ flat_map line (third_texts 2 t b) ++ rest → Outcome (NumberRead (codes "areas ") 1 8 bytes (third_texts 2 t b)) (Near bytes) (number_at 4 (codes "areas ") 1 8 rest)
count-outcome bytes rest t b t0 t1 hb e =
    let texts = third_texts 2 t b in
    let g : Geometry = shaped t b (least ∷ []) in
    let begins = begins-is 2 g texts (drop 3 (script_lines (plain 2 g))) (one-shape 2 t b 1 1 (inr refl) t0 t1 hb one-small one-small) refl in
    number-placed (codes "areas ") 1 8 refl (omega arith) (λ s. length s.geometry.areas) bytes texts rest 4 e refl begins
    (λ s text more f e. ap (λ (ts : List (List ℕ)). get_or ts 0 []) (sym (several-at s (drop 1 (texts ++ text ∷ more)) f e)) ∙ at-line 3 s texts more text e)
    (λ m. begins-formed 2 (shaped t b (replicate m least)) (fourth_texts t b m) (map area_text (replicate m least) ++ plain_starts) (inr refl) (several-lines t b m [] (replicate m least) (length-replicate m least)))
    (λ s text more r e. (r.geometry.least_areas, r.geometry.most_areas))

-- an area at the place behind those that are done
area-there : (P : Area → Type 0) (areas done : List Area) (tail more : List (List ℕ)) (text : List ℕ) → length done < length areas → AllByRecursion P areas → map area_text areas ++ tail ≡ map area_text done ++ text ∷ more → (a : Area) × P a × (text ≡ area_text a)
area-there P [] done tail more text lt all e = let no : ⊥ = omega arith in absurd no
area-there P (a ∷ areas) [] tail more text lt all e = (a, all.0, sym (ap (λ (xs : List (List ℕ)). get_or xs 0 []) e))
area-there P (a ∷ areas) (d ∷ done) tail more text lt all e = area-there P areas done tail more text (omega arith) all.1 (ap (λ (xs : List (List ℕ)). drop 1 xs) e)

any-area : (areas : List Area) → AllByRecursion (λ a. Unit {0}) areas
any-area [] = tt
any-area (a ∷ areas) = (tt, any-area areas)

script-area : (P : Area → Type 0) (t b count : ℕ) (done : List Area) (s : Script) (text : List ℕ) (more : List (List ℕ)) → length done < count → IsFormed s → AllByRecursion P s.geometry.areas
    → script_lines s ≡ (fourth_texts t b count ++ map area_text done) ++ text ∷ more → (a : Area) × P a × (text ≡ area_text a)
script-area P t b count done s text more lt f all e =
    let here = several-at s (drop 1 ((fourth_texts t b count ++ map area_text done) ++ text ∷ more)) f e in
    let lines : several_texts s.geometry.areas ++ behind_shape s ≡ (codes "areas " ++ numeral count) ∷ (map area_text done ++ text ∷ more) = sym here ∙ ap (λ (xs : List (List ℕ)). drop 3 xs) e in
    let p = same-head (codes "areas " ++ numeral (length s.geometry.areas)) (codes "areas " ++ numeral count) (map area_text s.geometry.areas ++ behind_shape s) (map area_text done ++ text ∷ more) lines in
    let len = same-number (codes "areas ") (length s.geometry.areas) count p.0 in
    area-there P s.geometry.areas done (behind_shape s) more text (omega (arith, lt, len)) all p.1

both : (a b : Bool) → (a && b) ≡ true → (a ≡ true) × (b ≡ true)
both true true h = (refl, refl)
both true false h = absurd cc
both false b h = absurd cc

area-from : (a : Area) → is_area (kept_area a) ≡ true → IsArea a × (kept_area a ≡ a)
area-from a h =
    let p = both (within 1 4096 (cap a.unit)) (within 1 4096 (cap a.stripes)) h in
    let u = within-parts 1 4096 a.unit (omega arith) p.0 in
    let s = within-parts 1 4096 a.stripes (omega arith) p.1 in
    (record { least_unit = u.0; most_unit = u.1; least_stripes = s.0; most_stripes = s.1 }, rw (u.2, s.2) refl)

-- what is read of an area's line
record AreaRead (bytes : List ℕ) (t b count : ℕ) (done : List Area) (x : Area × List ℕ) : Type 0 where
  area_is : IsArea x.0
  split : bytes ≡ flat_map line (fourth_texts t b count ++ map area_text (done ++ x.0 ∷ [])) ++ x.1

leasts-are : (left : ℕ) → AllByRecursion IsArea (replicate left least)
leasts-are zero = tt
leasts-are (suc left) = (least-is, leasts-are left)

all-append : (xs ys : List Area) → AllByRecursion IsArea xs → AllByRecursion IsArea ys → AllByRecursion IsArea (xs ++ ys)
all-append [] ys h k = k
all-append (x ∷ xs) ys h k = (h.0, all-append xs ys h.1 k)

-- the script with these areas, and least ones behind them
filled-shape : (t b left : ℕ) (done : List Area) → 3 ≤ t → t ≤ 32 → Small b → AllByRecursion IsArea done → length done + suc left ≤ 8 → IsShape 2 (shaped t b (done ++ replicate (suc left) least))
filled-shape t b left done t0 t1 hb all few =
    let areas = done ++ replicate (suc left) least in
    let len : length areas ≡ length done + suc left = length-append done (replicate (suc left) least) ∙ ap (λ (n : ℕ). length done + n) (length-replicate (suc left) least) in
    is-shape 2 t b areas (inr refl) t0 t1 hb (omega (arith, len)) (omega (arith, len, few)) (all-append done (replicate (suc left) least) all (leasts-are (suc left)))

area-outcome : (bytes rest : List ℕ) (t b left n : ℕ) (done : List Area) → 3 ≤ t → t ≤ 32 → Small b → AllByRecursion IsArea done → length done + suc left ≤ 8 → n ≡ 5 + length done
    → bytes ≡ flat_map line (fourth_texts t b (length done + suc left) ++ map area_text done) ++ rest → Outcome (AreaRead bytes t b (length done + suc left) done) (Near bytes) (area_at n rest)
unfolding area_at
area-outcome bytes rest t b left n done t0 t1 hb all few number e =
    let count = length done + suc left in
    let texts = fourth_texts t b count ++ map area_text done in
    let Formed : Area → Type 0 = λ a. Unit {0} in
    let leasts = replicate (suc left) least in
    let len : length (done ++ leasts) ≡ count = length-append done leasts ∙ ap (λ (n : ℕ). length done + n) (length-replicate (suc left) least) in
    let begins = begins-is 2 (shaped t b (done ++ leasts)) texts (map area_text leasts ++ plain_starts) (filled-shape t b left done t0 t1 hb all few) (several-lines t b count done leasts len) in
    let lt : length done < count = omega arith in
    let place : IsPlace area_text kept_area Formed is_area texts rest = record {
      here = λ s text more after f e split. let a = script-area (λ a. Unit {0}) t b count done s text more lt f (any-area s.geometry.areas) e in record { word = a.0; spelt = a.2; formed = tt };
      formed = λ w _.
          let others = w ∷ replicate left least in
          let wide : length (done ++ others) ≡ count = length-append done others ∙ ap (λ (n : ℕ). length done + suc n) (length-replicate left least) in
          let behind = map area_text (replicate left least) ++ plain_starts in
          begins-formed 2 (shaped t b (done ++ others)) (texts ++ area_text w ∷ []) behind (inr refl) (several-lines t b count done others wide ∙ sym (append_assoc texts (area_text w ∷ []) behind));
      fits = λ s w more r f e.
          let a = script-area IsArea t b count done s (area_text w) more lt (ranged-formed s r) r.geometry.areas e in
          let same : w ≡ a.0 = same-area w a.0 a.2 in
          subst (λ (c : Area). is_area (kept_area c) ≡ true) (sym same) (area-true a.0 a.1).0;
    } in
    let length-is : n ≡ length texts + 1 = omega (arith, number, length-append (fourth_texts t b count) (map area_text done), length-map-area done) in
    outcome_map (Grown area_text kept_area Formed is_area any bytes texts) (AreaRead bytes t b count done) (Near bytes) (Near bytes) (line_at n is_area any area_of rest)
    (placed area_of area_text kept_area Formed area_rule is_area any bytes texts rest n e length-is begins place (λ bad. absurd (bad.holds.1 refl)))
    (λ x r.
    let p = area-from r.word (subst (λ (c : Area). is_area c ≡ true) r.value r.ranged_is) in
    let same : r.word ≡ x.0 = sym (r.value ∙ p.1) in
    let grown : texts ++ area_text r.word ∷ [] ≡ fourth_texts t b count ++ map area_text (done ++ r.word ∷ []) = append_assoc (fourth_texts t b count) (map area_text done) (area_text r.word ∷ []) ∙ ap (λ (ts : List (List ℕ)). fourth_texts t b count ++ ts) (sym (map-append done (r.word ∷ []))) in
    let split : bytes ≡ flat_map line (fourth_texts t b count ++ map area_text (done ++ r.word ∷ [])) ++ x.1 = r.split ∙ ap (λ (ts : List (List ℕ)). flat_map line ts ++ x.1) grown in
    record { area_is = subst IsArea same p.0; split = subst (λ (c : Area). bytes ≡ flat_map line (fourth_texts t b count ++ map area_text (done ++ c ∷ [])) ++ x.1) same split }) (λ m cause bad. bad)
  where
    length-map-area : (xs : List Area) → length (map area_text xs) ≡ length xs
    length-map-area [] = refl
    length-map-area (x ∷ xs) = ap (λ (n : ℕ). suc n) (length-map-area xs)

-- what is read of all of them
record ListRead (bytes : List ℕ) (t b count left : ℕ) (done : List Area) (x : List Area × List ℕ) : Type 0 where
  counted : length x.0 ≡ left
  areas : AllByRecursion IsArea x.0
  split : bytes ≡ flat_map line (fourth_texts t b count ++ map area_text (done ++ x.0)) ++ x.1

areas-outcome : (bytes rest : List ℕ) (t b count left n : ℕ) (done : List Area) → 3 ≤ t → t ≤ 32 → Small b → AllByRecursion IsArea done → count ≤ 8 → length done + left ≡ count → n ≡ 5 + length done
    → bytes ≡ flat_map line (fourth_texts t b count ++ map area_text done) ++ rest → Outcome (ListRead bytes t b count left done) (Near bytes) (areas_at left n rest)
unfolding areas_at
areas-outcome bytes rest t b count zero n done t0 t1 hb all few is number e =
    record { counted = refl; areas = tt; split = e ∙ ap (λ (all : List Area). flat_map line (fourth_texts t b count ++ map area_text all) ++ rest) (sym (append-nil done)) }
areas-outcome bytes rest t b count (suc left) n done t0 t1 hb all few is number e =
    let first : Outcome (AreaRead bytes t b count done) (Near bytes) (area_at n rest) =
    subst (λ (c : ℕ). bytes ≡ flat_map line (fourth_texts t b c ++ map area_text done) ++ rest → Outcome (AreaRead bytes t b c done) (Near bytes) (area_at n rest)) is
    (area-outcome bytes rest t b left n done t0 t1 hb all (omega (arith, is, few)) number) e in
    then (AreaRead bytes t b count done) (ListRead bytes t b count (suc left) done) (Near bytes) (area_at n rest) _ first (λ a ga.
    let longer : length (done ++ a.0 ∷ []) ≡ length done + 1 = length-append done (a.0 ∷ []) in
    then (ListRead bytes t b count left (done ++ a.0 ∷ [])) (ListRead bytes t b count (suc left) done) (Near bytes) (areas_at left (n + 1) a.1) _
    (areas-outcome bytes a.1 t b count left (n + 1) (done ++ a.0 ∷ []) t0 t1 hb (all-append done (a.0 ∷ []) all (ga.area_is, tt)) few (omega (arith, longer, is)) (omega (arith, longer, number)) ga.split)
    (λ others go.
    let joined : (done ++ a.0 ∷ []) ++ others.0 ≡ done ++ a.0 ∷ others.0 = append_assoc done (a.0 ∷ []) others.0 in
    record { counted = ap (λ (k : ℕ). suc k) go.counted; areas = (ga.area_is, go.areas); split = go.split ∙ ap (λ (all : List Area). flat_map line (fourth_texts t b count ++ map area_text all) ++ others.1) joined }))

pub several-outcome : (bytes rest : List ℕ) (t b : ℕ) → 3 ≤ t → t ≤ 32 → Small b → bytes ≡ flat_map line (third_texts 2 t b) ++ rest → Outcome (AreasRead bytes 2 t b) (Near bytes) (several_at rest)
unfolding several_at
several-outcome bytes rest t b t0 t1 hb e =
    then (NumberRead (codes "areas ") 1 8 bytes (third_texts 2 t b)) (AreasRead bytes 2 t b) (Near bytes) (number_at 4 (codes "areas ") 1 8 rest) _ (count-outcome bytes rest t b t0 t1 hb e) (λ c gc.
    outcome_map (ListRead bytes t b c.0 c.0 []) (AreasRead bytes 2 t b) (Near bytes) (Near bytes) (areas_at c.0 5 c.1)
    (areas-outcome bytes c.1 t b c.0 c.0 5 [] t0 t1 hb tt gc.high (omega arith) refl gc.split)
    (λ x g. record {
      version_is = inr refl;
      low = omega (arith, g.counted, gc.low);
      high = omega (arith, g.counted, gc.high);
      areas = g.areas;
      split = g.split ∙ ap (λ (n : ℕ). flat_map line (fourth_texts t b n ++ map area_text x.0) ++ x.1) (sym g.counted);
    }) (λ m cause bad. bad))
