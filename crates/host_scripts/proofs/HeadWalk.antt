-- The lines that a script begins with: what was read is spelt so, or the first of them that is refused.
use Rattle.std.proofs.Common.{◌≡◌, ℕ, zero, suc, ◌+◌, ◌≤◌, inl, inr, ◌&&◌, nat_le, Bool, true, false, List, [], ◌∷◌, ◌++◌, length, get_or, take, drop, refl, sym, ap, subst, ◌∙◌, append_assoc, length-append, arith}
use Rattle.std.specs.Prelude.{codes}
use Rattle.std.specs.List.{flat_map}
use Rattle.std.proofs.lemmas.Bool.Decides.{nat_tests}
use Rattle.std.proofs.lemmas.List.{append-nil, take-append-drop}
use Rattle.std.proofs.lemmas.Option.{same_Some}
use Rattle.stripe_layout.specs.Layout.{greatest_unit}
use Rattle.stripe_layout.specs.declared.geometry.Geometry.{Geometry}
use Rattle.stripe_layout.specs.declared.mode.Mode.{Mode}
use Rattle.stripe_layout.specs.declared.mode.Mode.TheVariants.{Supervised}
use Rattle.stripe_layout.proofs.StripeLaws.{most-greatest}
use Rattle.host_scripts.specs.declared.script.Script.{Script}
use Rattle.host_scripts.specs.declared.script.Call.{Call}
use Rattle.text_fields.specs.Laws.{lacks}
use Rattle.text_fields.specs.Spelling.{line, numeral}
use Rattle.host_scripts.specs.Scripts.{mode_text, shape_texts, start_texts, script_lines, IsVersion, IsMaximum, IsScript}
use Rattle.host_scripts.specs.Loose.{maxima_of, mode_of}
use Rattle.host_scripts.specs.Reading.{any, is_maximum, are_maxima, line_at, number_at, shape_at, buffer_line, targets_at, hosts_at, Head, head_at}
use Rattle.host_scripts.specs.FirstRefusals.{Begins}
use Rattle.host_scripts.specs.Refusals.{IsFormed, IsRanged, script_grammar}
use Rattle.host_scripts.proofs.Outcomes.{Outcome, then}
use Rattle.host_scripts.proofs.Texts.{cap, kept_maxima, maxima_line, maxima_rule, mode_rule}
use Rattle.host_scripts.proofs.Again.{maxima-true, three-of}
use Rattle.host_scripts.proofs.Places.{Near, IsPlace, Grown, NumberRead, placed, number-placed, outcome_map, ranged-formed}
use Rattle.host_scripts.proofs.ShapeTexts.{SameShape, same-shape, shape-count}
use Rattle.host_scripts.proofs.ShapeScripts.{IsShape, behind_shape}
use Rattle.host_scripts.proofs.ShapeWalk.{ShapeRead, shape-outcome}

-- ---- headers with the values that are known so far

abbrev pub head : ℕ → Geometry → ℕ → List ℕ → Mode → ℕ → ℕ → Head
head v g bu ma mo se ho = record { version = v; geometry = g; buffer = bu; maxima = ma; mode = mo; seed = se; hosts = ho }

-- the script of a header, turns and calls
abbrev pub whole : Head → List ℕ → List Call → Script
whole h order calls = record { version = h.version; geometry = h.geometry; buffer = h.buffer; maxima = h.maxima; mode = h.mode; seed = h.seed; hosts = h.hosts; order = order; calls = calls }

pub record AreRanged (unit : ℕ) (maxima : List ℕ) : Type 0 where
  pub len : length maxima ≡ 3
  pub write_range : get_or maxima 0 0 ≤ 65535
  pub regenerate_range : IsMaximum unit (get_or maxima 1 0)
  pub rebuild_range : IsMaximum unit (get_or maxima 2 0)

pub record IsHead (h : Head) : Type 0 where
  pub shape : IsShape h.version h.geometry
  pub least_buffer : greatest_unit h.geometry ≤ h.buffer
  pub most_buffer : h.buffer ≤ 65536
  pub maxima : AreRanged (greatest_unit h.geometry) h.maxima
  pub seed : h.seed ≤ 4294967295
  pub least_hosts : 1 ≤ h.hosts
  pub most_hosts : h.hosts ≤ 26

pub starts : (h : Head) → IsHead h → IsScript (whole h [] [])
starts h is = record {
  version = is.shape.version_is;
  geometry = is.shape.array;
  targets = is.shape.targets;
  least_buffer = is.least_buffer;
  most_buffer = is.most_buffer;
  maxima = is.maxima.len;
  write_maximum = is.maxima.write_range;
  regenerate_maximum = is.maxima.regenerate_range;
  rebuild_maximum = is.maxima.rebuild_range;
  seed = omega (arith, is.seed);
  least_hosts = is.least_hosts;
  most_hosts = is.most_hosts;
  turns = omega arith;
  order = tt;
  calls = tt;
}

-- the lines behind those of the shape
abbrev pub start_of : Head → List (List ℕ)
start_of h = start_texts (whole h [] [])

-- the lines of a shape, and these behind them
abbrev so_far : ℕ → Geometry → List (List ℕ) → List (List ℕ)
so_far v g xs = shape_texts v g ++ xs

begun : (h : Head) → IsHead h → (n : ℕ) → Begins script_grammar IsScript (so_far h.version h.geometry (take n (start_of h)))
begun h is n =
    let shape = shape_texts h.version h.geometry in
    let lines : script_lines (whole h [] []) ≡ (shape ++ take n (start_of h)) ++ drop n (start_of h) = ap (λ (ts : List (List ℕ)). shape ++ ts) (sym (take-append-drop n (start_of h))) ∙ sym (append_assoc shape (take n (start_of h)) (drop n (start_of h))) in
    record { value = whole h [] []; kind = starts h is; more = drop n (start_of h); lines = lines }

formed : (h : Head) → IsVersion h.version h.geometry.areas → length h.maxima ≡ 3 → (xs more : List (List ℕ)) (text : List ℕ) → start_of h ≡ xs ++ text ∷ more → Begins script_grammar IsFormed (so_far h.version h.geometry xs ++ text ∷ [])
formed h is len xs more text e =
    let shape = shape_texts h.version h.geometry in
    let lines : script_lines (whole h [] []) ≡ ((shape ++ xs) ++ text ∷ []) ++ more =
    ap (λ (ts : List (List ℕ)). shape ++ ts) e ∙ sym (append_assoc shape xs (text ∷ more)) ∙ sym (append_assoc (shape ++ xs) (text ∷ []) more) in
    record { value = whole h [] []; kind = record { version = is; maxima = len; order = tt; calls = tt }; more = more; lines = lines }

-- a script that begins with the lines of a shape is of this shape, and these lines stand behind it
behind : (v : ℕ) (g : Geometry) → IsShape v g → (s : Script) (xs more : List (List ℕ)) (text : List ℕ) → IsFormed s → script_lines s ≡ so_far v g xs ++ text ∷ more → SameShape s.version v s.geometry g (behind_shape s) (xs ++ text ∷ more)
behind v g is s xs more text f e = same-shape s.version v s.geometry g (behind_shape s) (xs ++ text ∷ more) f.version is.version_is (e ∙ append_assoc (shape_texts v g) xs (text ∷ more))

-- the line at a place behind the shape
at-start : (n v : ℕ) (g : Geometry) → IsShape v g → (s : Script) (xs more : List (List ℕ)) (text : List ℕ) → IsFormed s → script_lines s ≡ so_far v g xs ++ text ∷ more → get_or (behind_shape s) n [] ≡ get_or (xs ++ text ∷ more) n []
at-start n v g is s xs more text f e = ap (λ (ts : List (List ℕ)). get_or ts n []) (behind v g is s xs more text f e).behind

same-unit : (v : ℕ) (g : Geometry) → IsShape v g → (s : Script) (xs more : List (List ℕ)) (text : List ℕ) → IsFormed s → script_lines s ≡ so_far v g xs ++ text ∷ more → greatest_unit s.geometry ≡ greatest_unit g
same-unit v g is s xs more text f e = ap (λ (x : Geometry). greatest_unit x) (behind v g is s xs more text f e).geometry

-- one more line behind the shape
regrown : (bytes rest : List ℕ) (v : ℕ) (g : Geometry) (xs : List (List ℕ)) (text : List ℕ) → bytes ≡ flat_map line (so_far v g xs ++ text ∷ []) ++ rest → bytes ≡ flat_map line (so_far v g (xs ++ text ∷ [])) ++ rest
regrown bytes rest v g xs text e = e ∙ ap (λ (ts : List (List ℕ)). flat_map line ts ++ rest) (append_assoc (shape_texts v g) xs (text ∷ []))

line-number : (v : ℕ) (g : Geometry) → IsShape v g → (xs : List (List ℕ)) → buffer_line v g.areas + length xs ≡ length (so_far v g xs) + 1
line-number v g is xs = let n = shape-count v g is.version_is in omega (arith, n, length-append (shape_texts v g) xs)

abbrev zeros : List ℕ
zeros = 0 ∷ 0 ∷ 0 ∷ []

no-maxima : (unit : ℕ) → AreRanged unit zeros
no-maxima unit = record { len = refl; write_range = omega arith; regenerate_range = inl refl; rebuild_range = inl refl }

-- a number of a line behind the shape: the header that has it, and what is known of it
number-behind : (v : ℕ) (g : Geometry) → IsShape v g → (keyword : List ℕ) (least most : ℕ) → lacks 10 keyword ≡ true → most ≤ 4294967295 → (field : Script → ℕ) (bytes rest : List ℕ) (xs : List (List ℕ)) (n : ℕ)
    → bytes ≡ flat_map line (so_far v g xs) ++ rest → n ≡ buffer_line v g.areas + length xs → Begins script_grammar IsScript (so_far v g xs)
    → ((s : Script) (ts : List (List ℕ)) (text : List ℕ) → behind_shape s ≡ xs ++ text ∷ ts → keyword ++ numeral (field s) ≡ text)
    → ((m : ℕ) → Begins script_grammar IsFormed (so_far v g xs ++ (keyword ++ numeral m) ∷ []))
    → ((s : Script) → IsRanged s → s.geometry ≡ g → (least ≤ field s) × (field s ≤ most))
    → Outcome (NumberRead keyword least most bytes (so_far v g xs)) (Near bytes) (number_at n keyword least most rest)
number-behind v g is keyword least most clean small field bytes rest xs n e number begins here formed fits =
    number-placed keyword least most clean small field bytes (so_far v g xs) rest n e (number ∙ line-number v g is xs) begins
    (λ s text ts f e. here s ts text (behind v g is s xs ts text f e).behind) formed
    (λ s text ts r e. fits s r (behind v g is s xs ts text (ranged-formed s r) e).geometry)

-- ---- what each target starts with

pub record StartRead (bytes : List ℕ) (v : ℕ) (g : Geometry) (x : ℕ × List ℕ × List ℕ) : Type 0 where
  pub low : greatest_unit g ≤ x.0
  pub high : x.0 ≤ 65536
  pub maxima : AreRanged (greatest_unit g) x.1
  pub split : bytes ≡ flat_map line (so_far v g (take 2 (start_of (head v g x.0 x.1 Supervised 0 1)))) ++ x.2

is-head : (v : ℕ) (g : Geometry) (bu : ℕ) (ma : List ℕ) (mo : Mode) (se ho : ℕ) → IsShape v g → greatest_unit g ≤ bu → bu ≤ 65536 → AreRanged (greatest_unit g) ma → se ≤ 4294967295 → 1 ≤ ho → ho ≤ 26 → IsHead (head v g bu ma mo se ho)
is-head v g bu ma mo se ho is low high m s h0 h1 = record { shape = is; least_buffer = low; most_buffer = high; maxima = m; seed = s; least_hosts = h0; most_hosts = h1 }

buffer-outcome : (bytes rest : List ℕ) (v : ℕ) (g : Geometry) → IsShape v g → bytes ≡ flat_map line (shape_texts v g) ++ rest
    → Outcome (NumberRead (codes "buffer ") (greatest_unit g) 65536 bytes (so_far v g [])) (Near bytes) (number_at (buffer_line v g.areas) (codes "buffer ") (greatest_unit g) 65536 rest)
buffer-outcome bytes rest v g is e =
    let h : ℕ → Head = λ m. head v g m zeros Supervised 0 1 in
    let most = most-greatest g is.array in
    let begins = begun (h 65536) (is-head v g 65536 zeros Supervised 0 1 is (omega (arith, most)) (omega arith) (no-maxima (greatest_unit g)) (omega arith) (omega arith) (omega arith)) 0 in
    number-behind v g is (codes "buffer ") (greatest_unit g) 65536 refl (omega arith) (λ s. s.buffer) bytes rest [] (buffer_line v g.areas)
    (e ∙ ap (λ (ts : List (List ℕ)). flat_map line ts ++ rest) (sym (append-nil (shape_texts v g)))) (omega arith) begins
    (λ s ts text b. ap (λ (xs : List (List ℕ)). get_or xs 0 []) b)
    (λ m. formed (h m) is.version_is refl [] (drop 1 (start_of (h m))) (codes "buffer " ++ numeral m) refl)
    (λ s r same. (subst (λ (x : Geometry). greatest_unit x ≤ s.buffer) same r.least_buffer, r.most_buffer))

maximum-is : (unit n : ℕ) → is_maximum unit (cap n) ≡ true → IsMaximum unit n × (cap n ≡ n)
maximum-is unit zero h = (inl refl, omega arith)
maximum-is unit (suc n) h =
    let range : (unit ≤ cap (suc n)) × (cap (suc n) ≤ 65535) = grind (arith, nat_tests, h) in
    let e : cap (suc n) ≡ suc n = omega (arith, range) in
    (inr (omega (arith, range, e), omega (arith, range, e)), e)

and-three : (a b c : Bool) → (a && b && c) ≡ true → (a ≡ true) × (b ≡ true) × (c ≡ true)
and-three true true true h = (refl, refl, refl)
and-three true true false h = absurd cc
and-three true false c h = absurd cc
and-three false b c h = absurd cc

maxima-are : (unit : ℕ) (m : List ℕ) → length m ≡ 3 → are_maxima unit (kept_maxima m) ≡ true → AreRanged unit m × (kept_maxima m ≡ m)
maxima-are unit m len h =
    let w = get_or m 0 0 in
    let p = and-three (nat_le (cap w) 65535) (is_maximum unit (cap (get_or m 1 0))) (is_maximum unit (cap (get_or m 2 0))) h in
    let low : cap w ≤ 65535 = grind (arith, nat_tests, p.0) in
    let e : cap w ≡ w = omega (arith, low) in
    let a = maximum-is unit (get_or m 1 0) p.1 in
    let b = maximum-is unit (get_or m 2 0) p.2 in
    (record { len = len; write_range = omega (arith, low, e); regenerate_range = a.0; rebuild_range = b.0 }, ap (λ (k : ℕ). k ∷ cap (get_or m 1 0) ∷ cap (get_or m 2 0) ∷ []) e ∙ ap (λ (k : ℕ). w ∷ k ∷ cap (get_or m 2 0) ∷ []) a.1 ∙ ap (λ (k : ℕ). w ∷ get_or m 1 0 ∷ k ∷ []) b.1 ∙ three-of m len)

same-maxima : (a b : List ℕ) → length a ≡ 3 → length b ≡ 3 → maxima_line a ≡ maxima_line b → kept_maxima a ≡ kept_maxima b
same-maxima a b f g e = same_Some (kept_maxima a) (kept_maxima b) (sym (maxima_rule.again a f) ∙ ap maxima_of e ∙ maxima_rule.again b g)

pub record MaximaRead (bytes : List ℕ) (v : ℕ) (g : Geometry) (bu : ℕ) (x : List ℕ × List ℕ) : Type 0 where
  pub maxima : AreRanged (greatest_unit g) x.0
  pub split : bytes ≡ flat_map line (so_far v g (take 2 (start_of (head v g bu x.0 Supervised 0 1)))) ++ x.1

maxima-outcome : (bytes rest : List ℕ) (v : ℕ) (g : Geometry) (bu n : ℕ) → IsShape v g → greatest_unit g ≤ bu → bu ≤ 65536 → n ≡ buffer_line v g.areas + 1 → bytes ≡ flat_map line (so_far v g (take 1 (start_of (head v g bu zeros Supervised 0 1)))) ++ rest
    → Outcome (MaximaRead bytes v g bu) (Near bytes) (line_at n (are_maxima (greatest_unit g)) any maxima_of rest)
maxima-outcome bytes rest v g bu n is low high number e =
    let unit = greatest_unit g in
    let h : List ℕ → Head = λ m. head v g bu m Supervised 0 1 in
    let xs = take 1 (start_of (h zeros)) in
    let texts = so_far v g xs in
    let Formed : List ℕ → Type 0 = λ m. length m ≡ 3 in
    let place : IsPlace maxima_line kept_maxima Formed (are_maxima unit) texts rest = record {
      here = λ s text more after f e split. record { word = s.maxima; spelt = sym (at-start 1 v g is s xs more text f e); formed = f.maxima };
      formed = λ m len. formed (h m) is.version_is len xs (drop 2 (start_of (h m))) (maxima_line m) refl;
      fits = λ s m more r len e.
          let line-is : maxima_line s.maxima ≡ maxima_line m = at-start 1 v g is s xs more (maxima_line m) (ranged-formed s r) e in
          let kept : kept_maxima s.maxima ≡ kept_maxima m = same-maxima s.maxima m r.maxima len line-is in
          let same = same-unit v g is s xs more (maxima_line m) (ranged-formed s r) e in
          let tests = maxima-true (greatest_unit s.geometry) (get_or s.maxima 0 0) (get_or s.maxima 1 0) (get_or s.maxima 2 0) r.write_maximum r.regenerate_maximum r.rebuild_maximum in
          let here : are_maxima unit (kept_maxima s.maxima) ≡ true = subst (λ (u : ℕ). are_maxima u (kept_maxima s.maxima) ≡ true) same tests.0 in
          subst (λ (k : List ℕ). are_maxima unit k ≡ true) kept here;
    } in
    let begins = begun (h zeros) (is-head v g bu zeros Supervised 0 1 is low high (no-maxima unit) (omega arith) (omega arith) (omega arith)) 1 in
    outcome_map (Grown maxima_line kept_maxima Formed (are_maxima unit) any bytes texts) (MaximaRead bytes v g bu) (Near bytes) (Near bytes) (line_at n (are_maxima unit) any maxima_of rest)
    (placed maxima_of maxima_line kept_maxima Formed maxima_rule (are_maxima unit) any bytes texts rest n e (number ∙ line-number v g is xs) begins place (λ bad. absurd (bad.holds.1 refl)))
    (λ x r.
    let p = maxima-are unit r.word r.formed (subst (λ (k : List ℕ). are_maxima unit k ≡ true) r.value r.ranged_is) in
    let same : r.word ≡ x.0 = sym (r.value ∙ p.1) in
    let split = regrown bytes x.1 v g xs (maxima_line r.word) r.split in
    record { maxima = subst (λ (m : List ℕ). AreRanged unit m) same p.0; split = subst (λ (m : List ℕ). bytes ≡ flat_map line (so_far v g (take 2 (start_of (h m)))) ++ x.1) same split })
    (λ m cause bad. bad)

pub targets-outcome : (bytes rest : List ℕ) (v : ℕ) (g : Geometry) → IsShape v g → bytes ≡ flat_map line (shape_texts v g) ++ rest → Outcome (StartRead bytes v g) (Near bytes) (targets_at (greatest_unit g) (buffer_line v g.areas) rest)
unfolding targets_at
targets-outcome bytes rest v g is e =
    let n = buffer_line v g.areas in
    then (NumberRead (codes "buffer ") (greatest_unit g) 65536 bytes (so_far v g [])) (StartRead bytes v g) (Near bytes) (number_at n (codes "buffer ") (greatest_unit g) 65536 rest) _ (buffer-outcome bytes rest v g is e) (λ b gb.
    then (MaximaRead bytes v g b.0) (StartRead bytes v g) (Near bytes) (line_at (n + 1) (are_maxima (greatest_unit g)) any maxima_of b.1) _
    (maxima-outcome bytes b.1 v g b.0 (n + 1) is gb.low gb.high refl (regrown bytes b.1 v g [] (codes "buffer " ++ numeral b.0) gb.split)) (λ m gm.
    record { low = gb.low; high = gb.high; maxima = gm.maxima; split = gm.split }))

-- ---- how the hosts run

-- what is known of a header before the lines of its hosts
record IsStarted (v : ℕ) (g : Geometry) (bu : ℕ) (ma : List ℕ) : Type 0 where
  shape : IsShape v g
  low : greatest_unit g ≤ bu
  high : bu ≤ 65536
  maxima : AreRanged (greatest_unit g) ma

hosted : (v : ℕ) (g : Geometry) (bu : ℕ) (ma : List ℕ) (mo : Mode) (se ho : ℕ) → IsStarted v g bu ma → se ≤ 4294967295 → 1 ≤ ho → ho ≤ 26 → IsHead (head v g bu ma mo se ho)
hosted v g bu ma mo se ho is s h0 h1 = is-head v g bu ma mo se ho is.shape is.low is.high is.maxima s h0 h1

mode-outcome : (bytes rest : List ℕ) (v : ℕ) (g : Geometry) (bu : ℕ) (ma : List ℕ) (n : ℕ) → IsStarted v g bu ma → n ≡ buffer_line v g.areas + 2 → bytes ≡ flat_map line (so_far v g (take 2 (start_of (head v g bu ma Supervised 0 1)))) ++ rest
    → Outcome (λ x. bytes ≡ flat_map line (so_far v g (take 3 (start_of (head v g bu ma x.0 0 1)))) ++ x.1) (Near bytes) (line_at n any any mode_of rest)
mode-outcome bytes rest v g bu ma n is number e =
    let h : Mode → Head = λ m. head v g bu ma m 0 1 in
    let xs = take 2 (start_of (h Supervised)) in
    let texts = so_far v g xs in
    let kept : Mode → Mode = λ mode. mode in
    let Formed : Mode → Type 0 = λ mode. Unit {0} in
    let place : IsPlace mode_text kept Formed any texts rest = record {
      here = λ s text more after f e split. record { word = s.mode; spelt = sym (at-start 2 v g is.shape s xs more text f e); formed = tt };
      formed = λ mode _. formed (h mode) is.shape.version_is is.maxima.len xs (drop 3 (start_of (h mode))) (mode_text mode) refl;
      fits = λ s mode more r f e. refl;
    } in
    let begins = begun (h Supervised) (hosted v g bu ma Supervised 0 1 is (omega arith) (omega arith) (omega arith)) 2 in
    outcome_map (Grown mode_text kept Formed any any bytes texts) (λ x. bytes ≡ flat_map line (so_far v g (take 3 (start_of (h x.0)))) ++ x.1) (Near bytes) (Near bytes) (line_at n any any mode_of rest)
    (placed mode_of mode_text kept Formed mode_rule any any bytes texts rest n e (number ∙ line-number v g is.shape xs) begins place (λ bad. absurd (bad.holds.1 refl)))
    (λ x r. subst (λ (mode : Mode). bytes ≡ flat_map line (so_far v g (take 3 (start_of (h mode)))) ++ x.1) (sym r.value) (regrown bytes x.1 v g xs (mode_text r.word) r.split)) (λ n cause bad. bad)

seed-outcome : (bytes rest : List ℕ) (v : ℕ) (g : Geometry) (bu : ℕ) (ma : List ℕ) (mo : Mode) (n : ℕ) → IsStarted v g bu ma → n ≡ buffer_line v g.areas + 3 → bytes ≡ flat_map line (so_far v g (take 3 (start_of (head v g bu ma mo 0 1)))) ++ rest
    → Outcome (NumberRead (codes "seed ") 0 4294967295 bytes (so_far v g (take 3 (start_of (head v g bu ma mo 0 1))))) (Near bytes) (number_at n (codes "seed ") 0 4294967295 rest)
seed-outcome bytes rest v g bu ma mo n is number e =
    let h : ℕ → Head = λ m. head v g bu ma mo m 1 in
    let xs = take 3 (start_of (h 0)) in
    number-behind v g is.shape (codes "seed ") 0 4294967295 refl (omega arith) (λ s. s.seed) bytes rest xs n e number (begun (h 0) (hosted v g bu ma mo 0 1 is (omega arith) (omega arith) (omega arith)) 3)
    (λ s ts text b. ap (λ (xs : List (List ℕ)). get_or xs 3 []) b)
    (λ m. formed (h m) is.shape.version_is is.maxima.len xs (drop 4 (start_of (h m))) (codes "seed " ++ numeral m) refl)
    (λ s r same. let small = r.seed in (omega arith, omega (arith, small)))

hosts-number : (bytes rest : List ℕ) (v : ℕ) (g : Geometry) (bu : ℕ) (ma : List ℕ) (mo : Mode) (se n : ℕ) → IsStarted v g bu ma → se ≤ 4294967295 → n ≡ buffer_line v g.areas + 4 → bytes ≡ flat_map line (so_far v g (take 4 (start_of (head v g bu ma mo se 1)))) ++ rest
    → Outcome (NumberRead (codes "hosts ") 1 26 bytes (so_far v g (take 4 (start_of (head v g bu ma mo se 1))))) (Near bytes) (number_at n (codes "hosts ") 1 26 rest)
hosts-number bytes rest v g bu ma mo se n is small number e =
    let h : ℕ → Head = λ m. head v g bu ma mo se m in
    let xs = take 4 (start_of (h 1)) in
    number-behind v g is.shape (codes "hosts ") 1 26 refl (omega arith) (λ s. s.hosts) bytes rest xs n e number (begun (h 1) (hosted v g bu ma mo se 1 is small (omega arith) (omega arith)) 4)
    (λ s ts text b. ap (λ (xs : List (List ℕ)). get_or xs 4 []) b)
    (λ m. formed (h m) is.shape.version_is is.maxima.len xs [] (codes "hosts " ++ numeral m) refl)
    (λ s r same. (r.least_hosts, r.most_hosts))

pub record HostsRead (bytes : List ℕ) (v : ℕ) (g : Geometry) (bu : ℕ) (ma : List ℕ) (x : Mode × ℕ × ℕ × List ℕ) : Type 0 where
  pub seed : x.1 ≤ 4294967295
  pub least_hosts : 1 ≤ x.2
  pub most_hosts : x.2 ≤ 26
  pub split : bytes ≡ flat_map line (so_far v g (start_of (head v g bu ma x.0 x.1 x.2))) ++ x.3

hosts-outcome : (bytes rest : List ℕ) (v : ℕ) (g : Geometry) (bu : ℕ) (ma : List ℕ) → IsStarted v g bu ma → bytes ≡ flat_map line (so_far v g (take 2 (start_of (head v g bu ma Supervised 0 1)))) ++ rest
    → Outcome (HostsRead bytes v g bu ma) (Near bytes) (hosts_at (buffer_line v g.areas + 2) rest)
unfolding hosts_at
hosts-outcome bytes rest v g bu ma is e =
    let n = buffer_line v g.areas + 2 in
    let xs : ℕ → Mode → ℕ → List (List ℕ) = λ k mo se. take k (start_of (head v g bu ma mo se 1)) in
    then (λ x. bytes ≡ flat_map line (so_far v g (xs 3 x.0 0)) ++ x.1) (HostsRead bytes v g bu ma) (Near bytes) (line_at n any any mode_of rest) _ (mode-outcome bytes rest v g bu ma n is refl e) (λ mo em.
    then (NumberRead (codes "seed ") 0 4294967295 bytes (so_far v g (xs 3 mo.0 0))) (HostsRead bytes v g bu ma) (Near bytes) (number_at (n + 1) (codes "seed ") 0 4294967295 mo.1) _ (seed-outcome bytes mo.1 v g bu ma mo.0 (n + 1) is (omega arith) em) (λ se es.
    then (NumberRead (codes "hosts ") 1 26 bytes (so_far v g (xs 4 mo.0 se.0))) (HostsRead bytes v g bu ma) (Near bytes) (number_at (n + 2) (codes "hosts ") 1 26 se.1) _
    (hosts-number bytes se.1 v g bu ma mo.0 se.0 (n + 2) is es.high (omega arith) (regrown bytes se.1 v g (xs 3 mo.0 0) (codes "seed " ++ numeral se.0) es.split)) (λ ho eh.
    record { seed = es.high; least_hosts = eh.low; most_hosts = eh.high; split = regrown bytes ho.1 v g (xs 4 mo.0 se.0) (codes "hosts " ++ numeral ho.0) eh.split })))

-- ---- all lines of a header

-- the lines of a header
abbrev pub head_texts : Head → List (List ℕ)
head_texts h = so_far h.version h.geometry (start_of h)

pub record HeadRead (bytes : List ℕ) (x : Head × List ℕ) : Type 0 where
  pub is : IsHead x.0
  pub split : bytes ≡ flat_map line (head_texts x.0) ++ x.1

pub head-outcome : (bytes : List ℕ) → Outcome (HeadRead bytes) (Near bytes) (head_at bytes)
unfolding head_at
head-outcome bytes =
    then (ShapeRead bytes) (HeadRead bytes) (Near bytes) (shape_at bytes) _ (shape-outcome bytes) (λ g eg.
    then (StartRead bytes g.0 g.1) (HeadRead bytes) (Near bytes) (targets_at (greatest_unit g.1) (buffer_line g.0 g.1.areas) g.2) _ (targets-outcome bytes g.2 g.0 g.1 eg.is eg.split) (λ t et.
    then (HostsRead bytes g.0 g.1 t.0 t.1) (HeadRead bytes) (Near bytes) (hosts_at (buffer_line g.0 g.1.areas + 2) t.2) _
    (hosts-outcome bytes t.2 g.0 g.1 t.0 t.1 (record { shape = eg.is; low = et.low; high = et.high; maxima = et.maxima }) et.split) (λ h eh.
    record { is = is-head g.0 g.1 t.0 t.1 h.0 h.1 h.2 eg.is et.low et.high et.maxima eh.seed eh.least_hosts eh.most_hosts; split = eh.split })))
