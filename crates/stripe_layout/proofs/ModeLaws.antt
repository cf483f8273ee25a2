-- How the questions that are asked of a mode exclude one another: a delta goes one way only.
use Rattle.std.specs.Prelude.{true, false}
use Rattle.std.proofs.Common.{◌≡◌, refl, sym}
use Rattle.std.proofs.lemmas.Bool.{false≢true}
use Rattle.stripe_layout.specs.declared.mode.Mode.{Mode}
use Rattle.stripe_layout.specs.declared.mode.Mode.TheVariants.{Supervised, ThirdParty, Readback}
use Rattle.stripe_layout.specs.Modes.{takes_delta, sends_delta, hands_delta_back, update_needs_room, target_gathers}

-- a delta that is taken wasn't sent
pub taken-unsent : (mode : Mode) → takes_delta mode ≡ true → sends_delta mode ≡ false
taken-unsent Supervised h = refl
taken-unsent ThirdParty h = absurd (false≢true h)
taken-unsent Readback h = refl

-- a delta that is taken wasn't handed back before
pub taken-unhanded : (mode : Mode) → takes_delta mode ≡ true → hands_delta_back mode ≡ false
taken-unhanded Supervised h = refl
taken-unhanded ThirdParty h = refl
taken-unhanded Readback h = absurd (false≢true h)

-- a delta that is neither sent nor handed back is taken
pub left-taken : (mode : Mode) → sends_delta mode ≡ false → hands_delta_back mode ≡ false → takes_delta mode ≡ true
left-taken Supervised h k = refl
left-taken ThirdParty h k = absurd (false≢true (sym h))
left-taken Readback h k = absurd (false≢true (sym k))

-- where updates take their deltas no target gathers
pub taken-ungathered : (mode : Mode) → takes_delta mode ≡ true → target_gathers mode ≡ false
taken-ungathered Supervised h = refl
taken-ungathered ThirdParty h = absurd (false≢true h)
taken-ungathered Readback h = refl

-- where deltas are taken, they lie in a buffer
pub taken-buffered : (mode : Mode) → takes_delta mode ≡ true → update_needs_room mode ≡ true
taken-buffered Supervised h = refl
taken-buffered ThirdParty h = absurd (false≢true h)
taken-buffered Readback h = absurd (false≢true h)
