-- What becomes of a delta, as the flags of an event say it.
use Rattle.std.specs.Prelude.{Bool, true, false}
use Rattle.xor_target.specs.declared.act_events.DeltaWay.{DeltaWay}
use Rattle.xor_target.specs.declared.act_events.DeltaWay.TheVariants.{Held, Back, Sent}

abbrev pub is_held : DeltaWay → Bool
is_held Held = true
is_held Back = false
is_held (Sent dropped) = false

abbrev pub is_sent : DeltaWay → Bool
is_sent Held = false
is_sent Back = false
is_sent (Sent dropped) = true

abbrev pub is_dropped : DeltaWay → Bool
is_dropped Held = false
is_dropped Back = false
is_dropped (Sent dropped) = dropped

abbrev pub is_back : DeltaWay → Bool
is_back Held = false
is_back Back = true
is_back (Sent dropped) = false
