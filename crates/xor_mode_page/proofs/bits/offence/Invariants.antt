-- the bytes before this one are fine
use Rattle.std.proofs.Common.{◌<◌, ℕ}
use Rattle.xor_mode_page.specs.Pages.{IsFine}
use Rattle.xor_mode_page.proofs.bits.offence.Given as goal

abbrev pub invariant-loop-place : goal.invariant-loop-place
invariant-loop-place l = (k : ℕ) → k < l.place → IsFine l.bits l.values l.bytes k
