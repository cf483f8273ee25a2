-- What a bench within its limits has.
use Rattle.std.proofs.Common.{◌≡◌, ◌<◌, ◌^◌, ℕ, false, length, Some, None, inl, inr, arith}
use Rattle.std.specs.Prelude.{nat_lt}
use Rattle.std.proofs.lemmas.Bool.{ltb-false}
use Rattle.host_scripts.specs.declared.bench.Bench.{Bench}
use Rattle.host_scripts.specs.declared.script.Limit.TheVariants.{Calls}
use Rattle.host_scripts.specs.BenchLimits.{bench_limit_of}
use Rattle.xor_cli.proofs.WordLaws.{chosen}

few : (n : ℕ) → nat_lt 10000 n ≡ false → n < 2 ^ 32
few n h = omega (arith, ltb-false 10000 n h)

-- so few lines that each has a number
pub few-lines : (bench : Bench) → bench_limit_of bench ≡ None → length bench.lines < 2 ^ 32
few-lines bench none = elim (chosen (nat_lt 10000 (length bench.lines)) _ _ None none) [
  | inl many ↦ absurd (let no : Some Calls ≡ None = many.1 in cc no)
  | inr other ↦ few (length bench.lines) other.0
]
