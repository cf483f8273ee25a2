-- The definition of what is asked, tried on constant journals: those that the calls of a script ask for, and some that
-- differ from one of these in one place and aren't asked for.
use Rattle.std.specs.Prelude.{List, [], ◌∷◌, drop, reverse, Some, None}
use Rattle.sbc_cdbs.specs.declared.descriptor.Cdb.{Cdb}
use Rattle.array_journal.specs.declared.entry.Entry.{Entry}
use Rattle.array_journal.specs.declared.event.Event.TheVariants.{Gone, Wiped, Refuse}
use Rattle.array_journal.specs.declared.event.What.TheVariants.{Buffers}
use Rattle.array_journal.specs.declared.event.Why.{Why}
use Rattle.array_journal.specs.declared.event.Why.TheVariants.{Illegal, Medium, NotReady, NotLost}
use Rattle.array_journal.specs.declared.setting.Setting.{Setting}
use Rattle.array_journal.specs.Examples.{delta_wiped, rebuilt, gathered, tiny_third}
use Rattle.array_journal.specs.Readback.{tiny_readback, folded_back}
use Rattle.array_journal.specs.ExampleJournals.{small, tiny, entry, block, write_and_read, loss_meets_a_read, two_lost}
use Rattle.host_scripts.specs.declared.script.Action.{Action}
use Rattle.host_scripts.specs.declared.script.Action.TheVariants.{Read, Write, Raw, Lose, Reset, Replace, Rebuild}
use Rattle.host_scripts.specs.declared.script.Call.{Call}
use Rattle.host_scripts.specs.declared.script.Script.{Script}
use Rattle.stripe_check.specs.Asked.{IsAsked}
use Rattle.host_requests.specs.Requests.{illegal}

-- a script of these calls for two hosts, without maxima
abbrev pub script_of : Setting → List Call → Script
script_of s calls = record {
  version = 1;
  geometry = s.geometry;
  buffer = s.buffer;
  maxima = 0 ∷ 0 ∷ 0 ∷ [];
  mode = s.mode;
  seed = 1;
  hosts = 2;
  order = [];
  calls = calls;
}

-- a call of the first host, and of the second
abbrev pub first : Action → Call
first action = record { host = 0; action = action }

abbrev pub second : Action → Call
second action = record { host = 1; action = action }

-- a block is written and read back
abbrev pub write_then_read : Script
write_then_read = script_of small (first (Write 0 block) ∷ first (Read 0 1) ∷ [])

abbrev pub WriteAndReadAsked : Type 0
WriteAndReadAsked = (diff take fold fetch : Cdb) → IsAsked write_then_read (reverse (write_and_read diff take fold fetch))

-- Not so where its last entry is left out, where the second call reads another block, where the calls are the other way
-- round, or where there is a further call.
abbrev pub UnclosedUnasked : Type 0
UnclosedUnasked = (diff take fold fetch : Cdb) → IsAsked write_then_read (reverse (drop 1 (write_and_read diff take fold fetch))) → ⊥

abbrev pub OtherBlockUnasked : Type 0
OtherBlockUnasked =
    (diff take fold fetch : Cdb) → IsAsked (script_of small (first (Write 0 block) ∷ first (Read 1 1) ∷ [])) (reverse (write_and_read diff take fold fetch)) → ⊥

abbrev pub OtherOrderUnasked : Type 0
OtherOrderUnasked =
    (diff take fold fetch : Cdb) → IsAsked (script_of small (first (Read 0 1) ∷ first (Write 0 block) ∷ [])) (reverse (write_and_read diff take fold fetch)) → ⊥

abbrev pub UnservedUnasked : Type 0
UnservedUnasked =
    (diff take fold fetch : Cdb)
    → IsAsked (script_of small (first (Write 0 block) ∷ first (Read 0 1) ∷ first (Read 0 1) ∷ [])) (reverse (write_and_read diff take fold fetch)) → ⊥

-- a read meets the loss of its disk, is given up, and begun again
abbrev pub read_and_lose : Script
read_and_lose = script_of small (first (Read 0 1) ∷ second (Lose 0) ∷ [])

abbrev pub GivenUpAsked : Type 0
GivenUpAsked = (fetch other : Cdb) → IsAsked read_and_lose (reverse (loss_meets_a_read fetch other))

-- two disks are lost: a read is refused, and so is a new disk for a third slot
abbrev pub lose_two : List Call
lose_two = first (Lose 0) ∷ first (Lose 1) ∷ first (Read 0 1) ∷ first (Replace 2) ∷ []

abbrev pub refused_as : Why → List Entry
refused_as why = entry 6 0 (Refuse 4 0 NotLost) ∷ entry 5 0 (Refuse 3 0 why) ∷ two_lost

abbrev pub RefusedAsked : Type 0
RefusedAsked = IsAsked (script_of tiny lose_two) (reverse (refused_as NotReady))

-- not so for another reason
abbrev pub OtherReasonUnasked : Type 0
OtherReasonUnasked = IsAsked (script_of tiny lose_two) (reverse (refused_as Medium)) → ⊥

-- a disk is lost, replaced and rebuilt
abbrev pub lose_and_rebuild : Script
lose_and_rebuild = script_of tiny (first (Lose 0) ∷ first (Replace 0) ∷ first (Rebuild 0) ∷ [])

abbrev pub RebuiltAsked : Type 0
RebuiltAsked = (fetch other put : Cdb) → IsAsked lose_and_rebuild (reverse (rebuilt fetch other put))

-- an update is spoilt by a reset
abbrev pub write_and_reset : Script
write_and_reset = script_of tiny (first (Write 0 (1 ∷ [])) ∷ second (Reset 0) ∷ [])

abbrev pub SpoiltAsked : Type 0
SpoiltAsked = (diff : Cdb) → IsAsked write_and_reset (reverse (delta_wiped diff))

-- The same calls in readback mode: the reset finds no delta at the target, and the update is done.
abbrev pub hand_back_and_reset : Script
hand_back_and_reset = script_of tiny_readback (first (Write 0 (1 ∷ [])) ∷ second (Reset 0) ∷ [])

abbrev pub HandedBackAsked : Type 0
HandedBackAsked = (diff fold : Cdb) → IsAsked hand_back_and_reset (reverse (folded_back diff fold))

-- a lost unit is gathered and read
abbrev pub lose_and_read : Script
lose_and_read = script_of tiny_third (first (Lose 0) ∷ first (Read 0 1) ∷ [])

abbrev pub GatheredAsked : Type 0
GatheredAsked = (fetch hold take : Cdb) → IsAsked lose_and_read (reverse (gathered fetch hold take))

-- An XDWRITE, a READ(10) with a bit that must be zero, one that is too short, one beyond the capacity, and a WRITE(10)
-- with too few bytes are refused.
abbrev pub illegal_calls : List Call
illegal_calls =
    first (Raw (0x50 ∷ 0 ∷ 0 ∷ 0 ∷ 0 ∷ 0 ∷ 0 ∷ 0 ∷ 1 ∷ 0 ∷ []) block)
    ∷ first (Raw (0x28 ∷ 1 ∷ 0 ∷ 0 ∷ 0 ∷ 0 ∷ 0 ∷ 0 ∷ 1 ∷ 0 ∷ []) [])
    ∷ second (Raw (0x28 ∷ 0 ∷ 0 ∷ 0 ∷ 0 ∷ 0 ∷ 0 ∷ 0 ∷ 1 ∷ []) [])
    ∷ second (Raw (0x28 ∷ 0 ∷ 0 ∷ 0 ∷ 0 ∷ 3 ∷ 0 ∷ 0 ∷ 2 ∷ 0 ∷ []) [])
    ∷ second (Raw (0x2a ∷ 0 ∷ 0 ∷ 0 ∷ 0 ∷ 0 ∷ 0 ∷ 0 ∷ 1 ∷ 0 ∷ []) (1 ∷ []))
    ∷ second (Read 4 0) ∷ []

abbrev pub illegal_refusals : List Entry
illegal_refusals =
    entry 5 0 (Refuse 5 0 (Illegal (illegal 0x1a None)))
    ∷ entry 4 0 (Refuse 4 0 (Illegal (illegal 0x21 None)))
    ∷ entry 3 0 (Refuse 3 0 (Illegal (illegal 0x24 None)))
    ∷ entry 2 0 (Refuse 2 0 (Illegal (illegal 0x24 (Some 1))))
    ∷ entry 1 0 (Refuse 1 0 (Illegal (illegal 0x20 None))) ∷ []

abbrev pub IllegalAsked : Type 0
IllegalAsked = IsAsked (script_of small illegal_calls) (reverse illegal_refusals)

-- two calls are refused, the second before the first: so two hosts may ask, and not one
abbrev pub unknown_command : Action
unknown_command = Raw (0x50 ∷ 0 ∷ 0 ∷ 0 ∷ 0 ∷ 0 ∷ 0 ∷ 0 ∷ 1 ∷ 0 ∷ []) []

abbrev pub second_refused_first : List Entry
second_refused_first = entry 2 0 (Refuse 1 0 (Illegal (illegal 0x20 None))) ∷ entry 1 0 (Refuse 2 0 (Illegal (illegal 0x20 None))) ∷ []

abbrev pub both_hosts : Script
both_hosts = script_of small (first unknown_command ∷ second unknown_command ∷ [])

abbrev pub EitherHostFirst : Type 0
EitherHostFirst = IsAsked both_hosts (reverse second_refused_first)

abbrev pub OutOfTurnUnasked : Type 0
OutOfTurnUnasked = IsAsked (script_of small (first unknown_command ∷ first unknown_command ∷ [])) (reverse second_refused_first) → ⊥

-- a disk is lost by a call and its loss isn't noted; by no call; a target is reset by a call that the script doesn't have
abbrev pub UnnotedUnasked : Type 0
UnnotedUnasked = IsAsked (script_of tiny (first (Lose 0) ∷ [])) (entry 1 1 (Gone 0 1 []) ∷ []) → ⊥

abbrev pub LossAllowed : Type 0
LossAllowed = IsAsked (script_of tiny []) (entry 1 1 (Gone 0 0 []) ∷ [])

abbrev pub StrangerUnasked : Type 0
StrangerUnasked = IsAsked (script_of tiny []) (entry 1 1 (Wiped Buffers 1 []) ∷ []) → ⊥
