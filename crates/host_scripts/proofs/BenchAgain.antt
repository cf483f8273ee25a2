-- What spells a bench is read as that bench.
use Rattle.std.proofs.Common.{◌≡◌, ℕ, ◌<◌, ◌≤◌, true, List, ◌++◌, length, map, Ok, refl, ap, ◌∙◌, arith}
use Rattle.std.specs.Prelude.{codes}
use Rattle.std.proofs.lemmas.Bool.{lt-ltb}
use Rattle.host_scripts.specs.declared.bench.Bench.{Bench}
use Rattle.host_scripts.specs.declared.bench.BenchLine.{BenchLine}
use Rattle.host_scripts.specs.declared.bench_header.BenchHeader.{BenchHeader}
use Rattle.text_fields.specs.Spelling.{line, numeral}
use Rattle.host_scripts.specs.Benches.{bench_line_text, bench_texts, bench_spelling, IsBenchAction, IsBench, SpellsBench}
use Rattle.host_scripts.specs.BenchRefusals.{IsFormedBenchLine}
use Rattle.host_scripts.specs.BenchLoose.{bench_version_of, bench_line_of}
use Rattle.host_scripts.specs.Reading.{any, line_at, number_at}
use Rattle.host_scripts.specs.BenchReading.{bench_head_at, is_on_bench, bench_line_at, bench_lines_at, bench_at}
use Rattle.host_scripts.proofs.Rules.{line-again}
use Rattle.host_scripts.proofs.NumberLines.{cap-small, number-line}
use Rattle.host_scripts.proofs.Loops.{Shortens, line-shortens}
use Rattle.host_scripts.proofs.EachLine.{rows, each-again}
use Rattle.host_scripts.proofs.BenchTexts.{first_text, first_kept, first_rule, kept_line, bench_line_rule}

-- a line is for one of so many targets, and says something
abbrev pub IsOn : ℕ → BenchLine → Type 0
IsOn targets l = (l.target < targets) × IsBenchAction l.action

-- what is in range is kept as it is
pub kept-ranged : (targets : ℕ) (l : BenchLine) → targets ≤ 16 → l.target < targets → (is_on_bench targets (kept_line l) ≡ true) × (kept_line l ≡ l)
kept-ranged targets l few lt =
    let e = cap-small l.target (omega (arith, lt, few)) in
    (rw e (lt-ltb l.target targets lt), ap (λ (n : ℕ). record { target = n; action = l.action }) e)

next-again : (targets n : ℕ) (l : BenchLine) (after : List ℕ) → targets ≤ 16 → IsOn targets l → bench_line_at targets n (line (bench_line_text l) ++ after) ≡ Ok (l, after)
unfolding bench_line_at
next-again targets n l after few is =
    let k = kept-ranged targets l few is.0 in
    line-again bench_line_of bench_line_text kept_line IsFormedBenchLine bench_line_rule (is_on_bench targets) any n l after is.1 k.0 refl ∙ ap (λ (x : BenchLine). Ok (x, after)) k.1

abbrev pub header_of : Bench → BenchHeader
header_of b = record { targets = b.targets; block = b.block; rows = b.rows; buffer = b.buffer }

head-parts : (b : Bench) (b0 b1 b2 b3 b4 rest : List ℕ) → line_at 1 any any bench_version_of b0 ≡ Ok (1, b1) → number_at 2 (codes "targets ") 1 16 b1 ≡ Ok (b.targets, b2) → number_at 3 (codes "block ") 1 4096 b2 ≡ Ok (b.block, b3)
    → number_at 4 (codes "rows ") 1 65536 b3 ≡ Ok (b.rows, b4) → number_at 5 (codes "buffer ") 0 65536 b4 ≡ Ok (b.buffer, rest) → bench_head_at b0 ≡ Ok (header_of b, rest)
unfolding bench_head_at
head-parts b b0 b1 b2 b3 b4 rest v t k r u = rw (v, t, k, r, u) refl

head-again : (b : Bench) → IsBench b → bench_head_at (rows (bench_texts b)) ≡ Ok (header_of b, rows (map bench_line_text b.lines))
head-again b is =
    let rest = rows (map bench_line_text b.lines) in
    let b4 = line (codes "buffer " ++ numeral b.buffer) ++ rest in
    let b3 = line (codes "rows " ++ numeral b.rows) ++ b4 in
    let b2 = line (codes "block " ++ numeral b.block) ++ b3 in
    let b1 = line (codes "targets " ++ numeral b.targets) ++ b2 in
    let b0 = line (codes "xorbench 1") ++ b1 in
    head-parts b b0 b1 b2 b3 b4 rest
    (line-again bench_version_of first_text first_kept (λ w. Unit {0}) first_rule any any 1 1 b1 tt refl refl)
    (number-line 2 (codes "targets ") 1 16 refl (omega arith) b1 b2 b.targets is.least_targets is.most_targets refl)
    (number-line 3 (codes "block ") 1 4096 refl (omega arith) b2 b3 b.block is.least_block is.most_block refl)
    (number-line 4 (codes "rows ") 1 65536 refl (omega arith) b3 b4 b.rows is.least_rows is.most_rows refl)
    (number-line 5 (codes "buffer ") 0 65536 refl (omega arith) b4 rest b.buffer (omega arith) is.most_buffer refl)

bench-parts : (b : Bench) (bytes rest : List ℕ) → bench_head_at bytes ≡ Ok (header_of b, rest) → bench_lines_at b.targets (length rest) 6 rest ≡ Ok b.lines → bench_at bytes ≡ Ok b
unfolding bench_at
bench-parts b bytes rest h l = rw (h, l) refl

pub bench-again : (bytes : List ℕ) (b : Bench) → SpellsBench bytes b → bench_at bytes ≡ Ok b
unfolding bench_spelling
bench-again bytes b spells =
    let is = spells.1 in
    let rest = rows (map bench_line_text b.lines) in
    bench-parts b bytes rest (ap bench_head_at spells.0 ∙ head-again b is)
    (each-again (bench_line_at b.targets) bench_line_text (IsOn b.targets) (λ n l after on. next-again b.targets n l after is.most_targets on) b.lines (length rest) 6 is.lines (omega arith))

-- what is read of the first line is all but what stands after it
pub line-shortens-bench : (targets : ℕ) → Shortens (bench_line_at targets)
unfolding bench_line_at
line-shortens-bench targets n bytes l after e = line-shortens bench_line_of (is_on_bench targets) any n bytes l after e
