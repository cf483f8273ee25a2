-- The lines of a bench: what was read is spelt so, or the first of them that is refused.
use Rattle.std.proofs.Common.{◌≡◌, ℕ, ◌+◌, ◌<◌, ◌≤◌, true, List, [], ◌∷◌, ◌++◌, length, map, get_or, take, drop, refl, sym, ap, subst, ◌∙◌, length-append, arith}
use Rattle.std.specs.Prelude.{codes}
use Rattle.std.specs.List.{flat_map, AllByRecursion}
use Rattle.std.proofs.lemmas.Bool.Decides.{nat_tests}
use Rattle.std.proofs.lemmas.List.{append-nil}
use Rattle.std.proofs.lemmas.Option.{same_Some}
use Rattle.host_scripts.specs.declared.bench.Bench.{Bench}
use Rattle.host_scripts.specs.declared.bench.BenchLine.{BenchLine}
use Rattle.host_scripts.specs.declared.bench_header.BenchHeader.{BenchHeader}
use Rattle.host_scripts.specs.declared.script.Cause.{Cause}
use Rattle.text_fields.specs.Spelling.{line}
use Rattle.host_scripts.specs.Benches.{bench_line_text, bench_texts, bench_spelling, IsBenchLine, IsBench, SpellsBench}
use Rattle.host_scripts.specs.FirstRefusals.{Begins}
use Rattle.host_scripts.specs.BenchRefusals.{IsFormedBenchLine, bench_grammar}
use Rattle.host_scripts.specs.BenchLoose.{bench_version_of, bench_line_of}
use Rattle.host_scripts.specs.Reading.{any, line_at, number_at}
use Rattle.host_scripts.specs.BenchReading.{bench_head_at, is_on_bench, bench_line_at, bench_lines_at, bench_with, bench_at}
use Rattle.host_scripts.proofs.Outcomes.{Outcome, then}
use Rattle.host_scripts.proofs.Texts.{cap}
use Rattle.host_scripts.proofs.ShapeTexts.{same-number}
use Rattle.host_scripts.proofs.LinePlaces.{IsNested, NearIn, IsPlaceIn, Spelled, Grown, NumberRead, outcome_map, placed-in, number-placed-in}
use Rattle.host_scripts.proofs.EachLine.{each-outcome, item-after, map-append, all-append, shorter-by}
use Rattle.host_scripts.proofs.WholeReading.{IsReading}
use Rattle.host_scripts.proofs.BenchTexts.{first_text, first_kept, first_rule, kept_line, bench_line_rule}
use Rattle.host_scripts.proofs.BenchAgain.{IsOn, kept-ranged, bench-again}

-- what is asked of the lines of a bench in range, of those in form
lines-formed : (targets : ℕ) (lines : List BenchLine) → AllByRecursion (IsOn targets) lines → AllByRecursion IsFormedBenchLine lines
lines-formed targets [] h = tt
lines-formed targets (l ∷ lines) h = (h.0.1, lines-formed targets lines h.1)

pub bench_nested : IsNested bench_grammar
bench_nested = record { formed = λ b is. lines-formed b.targets b.lines is.lines; ranged = λ b is. is }

abbrev Near : List ℕ → ℕ → Cause → Type 0
Near bytes = NearIn bench_grammar bytes

-- ---- the lines that a bench begins with

record IsHeader (h : BenchHeader) : Type 0 where
  least_targets : 1 ≤ h.targets
  most_targets : h.targets ≤ 16
  least_block : 1 ≤ h.block
  most_block : h.block ≤ 4096
  least_rows : 1 ≤ h.rows
  most_rows : h.rows ≤ 65536
  most_buffer : h.buffer ≤ 65536

with-lines : (h : BenchHeader) (lines : List BenchLine) → IsHeader h → AllByRecursion (IsOn h.targets) lines → IsBench (bench_with h lines)
with-lines h lines is on = record {
  least_targets = is.least_targets;
  most_targets = is.most_targets;
  least_block = is.least_block;
  most_block = is.most_block;
  least_rows = is.least_rows;
  most_rows = is.most_rows;
  most_buffer = is.most_buffer;
  lines = on;
}

abbrev header : ℕ → ℕ → ℕ → ℕ → BenchHeader
header t b r u = record { targets = t; block = b; rows = r; buffer = u }

-- the bench of a header alone
abbrev bare : ℕ → ℕ → ℕ → ℕ → Bench
bare t b r u = bench_with (header t b r u) []

-- the lines of a header, as far as it is known
abbrev front : ℕ → ℕ → ℕ → ℕ → ℕ → List (List ℕ)
front n t b r u = take n (bench_texts (bare t b r u))

begun : (n t b r u : ℕ) → IsHeader (header t b r u) → (more : List (List ℕ)) → bench_texts (bare t b r u) ≡ front n t b r u ++ more → Begins bench_grammar IsBench (front n t b r u)
begun n t b r u is more e = record { value = bare t b r u; kind = with-lines (header t b r u) [] is tt; more = more; lines = e }

first-outcome : (bytes : List ℕ) → Outcome (λ x. bytes ≡ flat_map line (front 1 1 1 1 0) ++ x.1) (Near bytes) (line_at 1 any any bench_version_of bytes)
first-outcome bytes =
    let Formed : ℕ → Type 0 = λ w. Unit {0} in
    let place : IsPlaceIn bench_grammar first_text first_kept Formed any [] bytes = record {
      here = λ b text more after f e split. record { word = 1; spelt = sym (ap (λ (xs : List (List ℕ)). get_or xs 0 []) e); formed = tt };
      formed = λ w _. record { value = bare 1 1 1 0; kind = tt; more = drop 1 (bench_texts (bare 1 1 1 0)); lines = refl };
      fits = λ b w more r f e. refl;
    } in
    let least : IsHeader (header 1 1 1 0) = record { least_targets = omega arith; most_targets = omega arith; least_block = omega arith; most_block = omega arith; least_rows = omega arith; most_rows = omega arith; most_buffer = omega arith } in
    outcome_map (Grown first_text first_kept Formed any any bytes []) (λ x. bytes ≡ flat_map line (front 1 1 1 1 0) ++ x.1) (Near bytes) (Near bytes) (line_at 1 any any bench_version_of bytes)
    (placed-in bench_grammar bench_nested bench_version_of first_text first_kept Formed first_rule any any bytes [] bytes 1 refl refl (begun 0 1 1 1 0 least (bench_texts (bare 1 1 1 0)) refl) place (λ bad. absurd (bad.holds.1 refl)))
    (λ x r. r.split) (λ n cause bad. bad)

targets-outcome : (bytes rest : List ℕ) → bytes ≡ flat_map line (front 1 1 1 1 0) ++ rest → Outcome (NumberRead (codes "targets ") 1 16 bytes (front 1 1 1 1 0)) (Near bytes) (number_at 2 (codes "targets ") 1 16 rest)
targets-outcome bytes rest e =
    let least : IsHeader (header 1 1 1 0) = record { least_targets = omega arith; most_targets = omega arith; least_block = omega arith; most_block = omega arith; least_rows = omega arith; most_rows = omega arith; most_buffer = omega arith } in
    number-placed-in bench_grammar bench_nested (codes "targets ") 1 16 refl (omega arith) (λ b. b.targets) bytes (front 1 1 1 1 0) rest 2 e refl (begun 1 1 1 1 0 least (drop 1 (bench_texts (bare 1 1 1 0))) refl)
    (λ b text more f e. ap (λ (xs : List (List ℕ)). get_or xs 1 []) e)
    (λ m. record { value = bare m 1 1 0; kind = tt; more = drop 2 (bench_texts (bare m 1 1 0)); lines = refl })
    (λ b text more is e. (is.least_targets, is.most_targets))

block-outcome : (bytes rest : List ℕ) (t : ℕ) → 1 ≤ t → t ≤ 16 → bytes ≡ flat_map line (front 2 t 1 1 0) ++ rest → Outcome (NumberRead (codes "block ") 1 4096 bytes (front 2 t 1 1 0)) (Near bytes) (number_at 3 (codes "block ") 1 4096 rest)
block-outcome bytes rest t low high e =
    let is : IsHeader (header t 1 1 0) = record { least_targets = low; most_targets = high; least_block = omega arith; most_block = omega arith; least_rows = omega arith; most_rows = omega arith; most_buffer = omega arith } in
    number-placed-in bench_grammar bench_nested (codes "block ") 1 4096 refl (omega arith) (λ b. b.block) bytes (front 2 t 1 1 0) rest 3 e refl (begun 2 t 1 1 0 is (drop 2 (bench_texts (bare t 1 1 0))) refl)
    (λ b text more f e. ap (λ (xs : List (List ℕ)). get_or xs 2 []) e)
    (λ m. record { value = bare t m 1 0; kind = tt; more = drop 3 (bench_texts (bare t m 1 0)); lines = refl })
    (λ b text more is e. (is.least_block, is.most_block))

rows-outcome : (bytes rest : List ℕ) (t b : ℕ) → 1 ≤ t → t ≤ 16 → 1 ≤ b → b ≤ 4096 → bytes ≡ flat_map line (front 3 t b 1 0) ++ rest → Outcome (NumberRead (codes "rows ") 1 65536 bytes (front 3 t b 1 0)) (Near bytes) (number_at 4 (codes "rows ") 1 65536 rest)
rows-outcome bytes rest t b t0 t1 b0 b1 e =
    let is : IsHeader (header t b 1 0) = record { least_targets = t0; most_targets = t1; least_block = b0; most_block = b1; least_rows = omega arith; most_rows = omega arith; most_buffer = omega arith } in
    number-placed-in bench_grammar bench_nested (codes "rows ") 1 65536 refl (omega arith) (λ x. x.rows) bytes (front 3 t b 1 0) rest 4 e refl (begun 3 t b 1 0 is (drop 3 (bench_texts (bare t b 1 0))) refl)
    (λ x text more f e. ap (λ (xs : List (List ℕ)). get_or xs 3 []) e)
    (λ m. record { value = bare t b m 0; kind = tt; more = drop 4 (bench_texts (bare t b m 0)); lines = refl })
    (λ x text more is e. (is.least_rows, is.most_rows))

buffer-outcome : (bytes rest : List ℕ) (t b r : ℕ) → IsHeader (header t b r 0) → bytes ≡ flat_map line (front 4 t b r 0) ++ rest → Outcome (NumberRead (codes "buffer ") 0 65536 bytes (front 4 t b r 0)) (Near bytes) (number_at 5 (codes "buffer ") 0 65536 rest)
buffer-outcome bytes rest t b r is e =
    number-placed-in bench_grammar bench_nested (codes "buffer ") 0 65536 refl (omega arith) (λ x. x.buffer) bytes (front 4 t b r 0) rest 5 e refl (begun 4 t b r 0 is (drop 4 (bench_texts (bare t b r 0))) refl)
    (λ x text more f e. ap (λ (xs : List (List ℕ)). get_or xs 4 []) e)
    (λ m. record { value = bare t b r m; kind = tt; more = []; lines = refl })
    (λ x text more is e. (omega arith, is.most_buffer))

record HeaderRead (bytes : List ℕ) (x : BenchHeader × List ℕ) : Type 0 where
  is : IsHeader x.0
  split : bytes ≡ flat_map line (bench_texts (bench_with x.0 [])) ++ x.1

header-outcome : (bytes : List ℕ) → Outcome (HeaderRead bytes) (Near bytes) (bench_head_at bytes)
unfolding bench_head_at
header-outcome bytes =
    then (λ x. bytes ≡ flat_map line (front 1 1 1 1 0) ++ x.1) (HeaderRead bytes) (Near bytes) (line_at 1 any any bench_version_of bytes) _ (first-outcome bytes) (λ v ev.
    then (NumberRead (codes "targets ") 1 16 bytes (front 1 1 1 1 0)) (HeaderRead bytes) (Near bytes) (number_at 2 (codes "targets ") 1 16 v.1) _ (targets-outcome bytes v.1 ev) (λ t et.
    then (NumberRead (codes "block ") 1 4096 bytes (front 2 t.0 1 1 0)) (HeaderRead bytes) (Near bytes) (number_at 3 (codes "block ") 1 4096 t.1) _ (block-outcome bytes t.1 t.0 et.low et.high et.split) (λ b eb.
    then (NumberRead (codes "rows ") 1 65536 bytes (front 3 t.0 b.0 1 0)) (HeaderRead bytes) (Near bytes) (number_at 4 (codes "rows ") 1 65536 b.1) _ (rows-outcome bytes b.1 t.0 b.0 et.low et.high eb.low eb.high eb.split) (λ r er.
    let most : 0 ≤ 65536 = omega arith in
    let is : (u : ℕ) → u ≤ 65536 → IsHeader (header t.0 b.0 r.0 u) = λ u le. record { least_targets = et.low; most_targets = et.high; least_block = eb.low; most_block = eb.high; least_rows = er.low; most_rows = er.high; most_buffer = le } in
    then (NumberRead (codes "buffer ") 0 65536 bytes (front 4 t.0 b.0 r.0 0)) (HeaderRead bytes) (Near bytes) (number_at 5 (codes "buffer ") 0 65536 r.1) _ (buffer-outcome bytes r.1 t.0 b.0 r.0 (is 0 most) er.split) (λ u eu.
    record { is = is u.0 eu.high; split = eu.split })))))

-- ---- the lines behind them

-- a header and lines behind it
abbrev texts_with : BenchHeader → List BenchLine → List (List ℕ)
texts_with h done = bench_texts (bench_with h done)

texts-more : (h : BenchHeader) (done more : List BenchLine) → texts_with h (done ++ more) ≡ texts_with h done ++ map bench_line_text more
texts-more h done more =
    ap (λ (ts : List (List ℕ)). texts_with h [] ++ ts) (map-append bench_line_text done more)

grown-lines : (h : BenchHeader) (done : List BenchLine) (l : BenchLine) → texts_with h (done ++ l ∷ []) ≡ (texts_with h done ++ bench_line_text l ∷ []) ++ []
grown-lines h done l = texts-more h done (l ∷ []) ∙ sym (append-nil (texts_with h done ++ bench_line_text l ∷ []))

-- what is known behind some lines
record LineState (bytes : List ℕ) (h : BenchHeader) (done : List BenchLine) (n : ℕ) (rest : List ℕ) : Type 0 where
  is : IsHeader h
  on : AllByRecursion (IsOn h.targets) done
  split : bytes ≡ flat_map line (texts_with h done) ++ rest
  number : n ≡ length (texts_with h done) + 1

-- a bench that begins with these lines has a line next
line-there : (P : BenchLine → Type 0) (h : BenchHeader) (done : List BenchLine) (b : Bench) (text : List ℕ) (more : List (List ℕ)) → AllByRecursion P b.lines → bench_texts b ≡ texts_with h done ++ text ∷ more → Spelled bench_line_text P text
line-there P h done b text more all e = item-after bench_line_text P b.lines done text more all (ap (λ (xs : List (List ℕ)). drop 5 xs) e)

line-fits : (h : BenchHeader) (done : List BenchLine) (b : Bench) (w : BenchLine) (more : List (List ℕ)) → IsBench b → IsFormedBenchLine w → bench_texts b ≡ texts_with h done ++ bench_line_text w ∷ more → is_on_bench h.targets (kept_line w) ≡ true
line-fits h done b w more is f e =
    let a = line-there (IsBenchLine b) h done b (bench_line_text w) more is.lines e in
    let kept : kept_line a.word ≡ kept_line w = same_Some (kept_line a.word) (kept_line w) (sym (bench_line_rule.again a.word a.formed.1) ∙ ap bench_line_of (sym a.spelt) ∙ bench_line_rule.again w f) in
    let targets : b.targets ≡ h.targets = same-number (codes "targets ") b.targets h.targets (ap (λ (xs : List (List ℕ)). get_or xs 1 []) e) in
    let here : is_on_bench b.targets (kept_line a.word) ≡ true = (kept-ranged b.targets a.word is.most_targets a.formed.0).0 in
    subst (λ (l : BenchLine). is_on_bench h.targets l ≡ true) kept (subst (λ (t : ℕ). is_on_bench t (kept_line a.word) ≡ true) targets here)

-- a target in range is kept as it is
on-takes : (targets : ℕ) (l : BenchLine) → targets ≤ 16 → is_on_bench targets (kept_line l) ≡ true → (l.target < targets) × (kept_line l ≡ l)
on-takes targets l few h =
    let lt : cap l.target < targets = grind (arith, nat_tests, h) in
    let small : l.target < targets = omega (arith, lt, few) in
    (small, (kept-ranged targets l few small).1)

line-outcome : (bytes : List ℕ) (h : BenchHeader) (done : List BenchLine) (n : ℕ) (rest : List ℕ) → LineState bytes h done n rest
    → Outcome (λ x. LineState bytes h (done ++ x.0 ∷ []) (n + 1) x.1 × (length x.1 < length rest)) (Near bytes) (bench_line_at h.targets n rest)
unfolding bench_line_at
line-outcome bytes h done n rest s =
    let texts = texts_with h done in
    let ranged = is_on_bench h.targets in
    let place : IsPlaceIn bench_grammar bench_line_text kept_line IsFormedBenchLine ranged texts rest = record {
      here = λ b text more after f e split. line-there IsFormedBenchLine h done b text more f e;
      formed = λ w f. record { value = bench_with h (done ++ w ∷ []); kind = all-append IsFormedBenchLine done w (lines-formed h.targets done s.on) f; more = []; lines = grown-lines h done w };
      fits = line-fits h done;
    } in
    let begins : Begins bench_grammar IsBench texts = record { value = bench_with h done; kind = with-lines h done s.is s.on; more = []; lines = sym (append-nil texts) } in
    outcome_map (Grown bench_line_text kept_line IsFormedBenchLine ranged any bytes texts) (λ x. LineState bytes h (done ++ x.0 ∷ []) (n + 1) x.1 × (length x.1 < length rest)) (Near bytes) (Near bytes) (line_at n ranged any bench_line_of rest)
    (placed-in bench_grammar bench_nested bench_line_of bench_line_text kept_line IsFormedBenchLine bench_line_rule ranged any bytes texts rest n s.split s.number begins place (λ bad. absurd (bad.holds.1 refl)))
    (λ x r.
    let w = r.word in
    let p = on-takes h.targets w s.is.most_targets (subst (λ (l : BenchLine). ranged l ≡ true) r.value r.ranged_is) in
    let same : w ≡ x.0 = sym (r.value ∙ p.1) in
    let a = ap (λ (xs : List (List ℕ)). length xs) (texts-more h done (w ∷ [])) in
    let b = length-append texts (bench_line_text w ∷ []) in
    let next : LineState bytes h (done ++ w ∷ []) (n + 1) x.1 = record {
      is = s.is;
      on = all-append (IsOn h.targets) done w s.on (p.0, r.formed);
      split = r.split ∙ ap (λ (ts : List (List ℕ)). flat_map line ts ++ x.1) (sym (texts-more h done (w ∷ [])));
      number = omega (arith, a, b, s.number);
    } in
    (subst (λ (l : BenchLine). LineState bytes h (done ++ l ∷ []) (n + 1) x.1) same next, shorter-by bytes texts (bench_line_text w) rest x.1 s.split r.split)) (λ m cause bad. bad)

-- ---- the whole

spelt-so : (bytes : List ℕ) (b : Bench) → bytes ≡ flat_map line (bench_texts b) → bytes ≡ bench_spelling b
unfolding bench_spelling
spelt-so bytes b e = e

bench-outcome : (bytes : List ℕ) → Outcome (λ b. SpellsBench bytes b) (Near bytes) (bench_at bytes)
unfolding bench_at
bench-outcome bytes =
    then (HeaderRead bytes) (λ b. SpellsBench bytes b) (Near bytes) (bench_head_at bytes) _ (header-outcome bytes) (λ h eh.
    then (λ lines. (m : ℕ) × LineState bytes h.0 lines m []) (λ b. SpellsBench bytes b) (Near bytes) (bench_lines_at h.0.targets (length h.1) 6 h.1) _
    (each-outcome (bench_line_at h.0.targets) (Near bytes) (LineState bytes h.0) (line-outcome bytes h.0) (length h.1) [] 6 h.1 (omega arith) (record { is = eh.is; on = tt; split = eh.split; number = refl }))
    (λ lines s. (spelt-so bytes (bench_with h.0 lines) (s.1.split ∙ append-nil (flat_map line (texts_with h.0 lines))), with-lines h.0 lines s.1.is s.1.on)))

pub bench_reading : IsReading bench_grammar bench_at
bench_reading = record { again = bench-again; outcome = bench-outcome }
