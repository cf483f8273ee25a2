-- No line of a bench has an end of line in it.
use Rattle.std.proofs.Common.{ℕ, List, [], ◌∷◌, map, refl}
use Rattle.std.specs.Prelude.{codes}
use Rattle.std.specs.List.{AllByRecursion}
use Rattle.host_scripts.specs.declared.bench.BenchLine.{BenchLine}
use Rattle.host_scripts.specs.Benches.{bench_line_text}
use Rattle.host_scripts.specs.BenchRefusals.{bench_grammar}
use Rattle.host_scripts.proofs.OneFirstRefusal.{AreClean, HasCleanLines}
use Rattle.host_scripts.proofs.OneRefusal.{number-clean}
use Rattle.host_scripts.proofs.BenchTexts.{bench_line_rule}
use Rattle.host_scripts.proofs.BenchAgain.{IsOn}

lines-clean : (targets : ℕ) (lines : List BenchLine) → AllByRecursion (IsOn targets) lines → AreClean (map bench_line_text lines)
lines-clean targets [] h = tt
lines-clean targets (l ∷ lines) h = (bench_line_rule.clean l h.0.1, lines-clean targets lines h.1)

pub bench-clean : HasCleanLines bench_grammar
bench-clean b is = (
  refl,
  (number-clean (codes "targets ") b.targets refl, (number-clean (codes "block ") b.block refl, (number-clean (codes "rows ") b.rows refl, (number-clean (codes "buffer ") b.buffer refl, lines-clean b.targets b.lines is.lines)))),
)
