-- What is asked of the mode of an array, one question each: what becomes of the delta of an update, and who
-- gathers the blocks of several targets.
use Rattle.std.specs.Prelude.{Bool, true, false}
use Rattle.stripe_layout.specs.declared.mode.Mode.{Mode}
use Rattle.stripe_layout.specs.declared.mode.Mode.TheVariants.{Supervised, ThirdParty, Readback}

-- the controller takes the delta from the target that holds it (XDWRITE, then XDREAD)
abbrev pub takes_delta : Mode → Bool
takes_delta Supervised = true
takes_delta ThirdParty = false
takes_delta Readback = false

-- the target that writes sends the delta to parity (XDWRITE EXTENDED)
abbrev pub sends_delta : Mode → Bool
sends_delta Supervised = false
sends_delta ThirdParty = true
sends_delta Readback = false

-- the target that writes answers the delta and keeps none of it (XDWRITEREAD)
abbrev pub hands_delta_back : Mode → Bool
hands_delta_back Supervised = false
hands_delta_back ThirdParty = false
hands_delta_back Readback = true

-- the delta lies in a buffer for a while, so the update waits until there is room
abbrev pub update_needs_room : Mode → Bool
update_needs_room Supervised = true
update_needs_room ThirdParty = false
update_needs_room Readback = false

-- a target reads the blocks of its peers (REBUILD, REGENERATE); else the controller reads them
abbrev pub target_gathers : Mode → Bool
target_gathers Supervised = false
target_gathers ThirdParty = true
target_gathers Readback = false
