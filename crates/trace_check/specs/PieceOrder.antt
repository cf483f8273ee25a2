-- How steps go on through the pieces of a call.
use Rattle.std.specs.Prelude.{ℕ, zero, suc, ◌∷◌, if◌then◌else◌, Bool, false, List}
use Rattle.stripe_check.specs.Asked.{goes_through, is_end}
use Rattle.stripe_check.specs.Steps as asked
use Rattle.trace_check.specs.declared.asking.piece_order.PieceProgress.{PieceProgress}
use Rattle.trace_check.specs.declared.asking.piece_order.PieceProgress.TheVariants.{Before, Begun, Over, Wrong}

-- whether the steps that come are the rest of such a call's
abbrev pub after_progress : Bool → ℕ → PieceProgress → List asked.Step → Bool
after_progress fatal count (Before next idle) rest = goes_through fatal count next idle rest
after_progress fatal count (Begun next piece command) rest = goes_through fatal count next zero (asked.Begins piece command ∷ rest)
after_progress fatal count Over rest = is_end rest
after_progress fatal count Wrong rest = false

-- after a piece that failed
abbrev pub after_failure : Bool → ℕ → ℕ → List asked.Step → Bool
after_failure fatal count next rest = if fatal then is_end rest else goes_through fatal count (suc next) zero rest

-- how many commands are open
abbrev pub idle_of : PieceProgress → ℕ
idle_of (Before next idle) = idle
idle_of (Begun next piece command) = 1
idle_of Over = 0
idle_of Wrong = 0
