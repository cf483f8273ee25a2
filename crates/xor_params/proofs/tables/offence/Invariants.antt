-- no descriptor before this one has a wrong bit
use Rattle.std.proofs.Common.{◌≡◌, ◌<◌, ℕ}
use Rattle.xor_params.specs.Tables.{wrong_bits_at}
use Rattle.xor_params.proofs.tables.offence.Given as goal

abbrev pub invariant-loop-number : goal.invariant-loop-number
invariant-loop-number l = (k i : ℕ) → k < l.number → i < 16 → wrong_bits_at l.table k i ≡ 0
