-- Steps through the pieces of a call.
use Rattle.std.proofs.Common.{◌≡◌, ◌<◌, ◌-◌, ℕ, zero, suc, Bool, List, ◌∷◌, ap, arith}
use Rattle.stripe_check.specs.Asked.{goes_through}
use Rattle.stripe_check.specs.Steps as asked

pub give-up : (fatal : Bool) (count next idle command : ℕ) (rest : List asked.Step) → 0 < idle
    → goes_through fatal count next idle (asked.Ends command asked.GivenUp ∷ rest) ≡ goes_through fatal count next (idle - 1) rest
give-up fatal count next zero command rest h = absurd (omega (arith, h))
give-up fatal count next (suc idle) command rest h = ap (λ n. goes_through fatal count next n rest) (omega arith)
