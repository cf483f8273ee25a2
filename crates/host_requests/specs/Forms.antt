-- What calls ask, by the names that the program has for it.
use Rattle.std.specs.Prelude.{ℕ, ◌+◌, ◌≤◌, List, Some, None, replicate}
use Rattle.stripe_layout.specs.declared.geometry.Geometry.{Geometry}
use Rattle.stripe_layout.specs.Layout.{capacity_of}
use Rattle.sense_data.specs.declared.senses.Sense.{Sense}
use Rattle.array_journal.specs.declared.decision.Want.{Want}
use Rattle.host_requests.specs.Begins as begins
use Rattle.host_requests.specs.Begins.{begin_aim, task_of_piece}
use Rattle.host_requests.specs.Requests as requests
use Rattle.host_requests.specs.Requests.{illegal}
use Rattle.host_requests.specs.declared.aims.Aim.{Aim}
use Rattle.host_requests.specs.declared.begins.Begin.{Begin}
use Rattle.host_requests.specs.declared.begins.Begin.TheVariants.{Opening, Refusal, Swapping}
use Rattle.host_requests.specs.declared.faults.RequestFault.{RequestFault}
use Rattle.host_requests.specs.declared.faults.RequestFault.TheVariants.{OpCode, Length, Bits, Range, Size}
use Rattle.host_requests.specs.declared.payloads.Payload.{Payload}
use Rattle.host_requests.specs.declared.payloads.Payload.TheVariants.{Given, Repeated}
use Rattle.host_requests.specs.declared.requests.Request.{Request}
use Rattle.host_requests.specs.declared.requests.Request.TheVariants.{Illegal, Blocks, Lose, Wipe, Replace, Rebuild, Resync}
use Rattle.host_requests.specs.declared.requests.Transfer.{Transfer}

-- the sense that a host is told of a test that its call fails
abbrev pub sense_of : RequestFault → Sense
sense_of OpCode = illegal 0x20 None
sense_of Length = illegal 0x24 None
sense_of (Bits byte) = illegal 0x24 (Some byte)
sense_of Range = illegal 0x21 None
sense_of Size = illegal 0x1a None

abbrev pub payload_bytes : Payload → List ℕ
payload_bytes (Given bytes) = bytes.now
payload_bytes (Repeated byte len) = replicate len byte

abbrev pub transfer_of : Want → ℕ → ℕ → Payload → requests.Transfer
transfer_of wanted lba count bytes = record { want = wanted; lba = lba; count = count; bytes = payload_bytes bytes }

abbrev pub transfer_as : Transfer → requests.Transfer
transfer_as t = transfer_of t.wanted t.lba t.count t.bytes

abbrev pub request_as : Request → requests.Request
request_as (Illegal fault) = requests.Fails (sense_of fault)
request_as (Blocks transfer) = requests.Moves (transfer_as transfer)
request_as (Lose target) = requests.Loses target
request_as (Wipe target what) = requests.Wipes target what
request_as (Replace slot) = requests.Replaces slot
request_as (Rebuild slot) = requests.Rebuilds slot
request_as Resync = requests.Resyncs

-- blocks to be moved are within the capacity
abbrev pub IsWithin : Geometry → Request → Type 0
IsWithin g (Blocks transfer) = transfer.lba + transfer.count ≤ capacity_of g
IsWithin g _ = Unit {0}

abbrev pub aim_as : Aim → begins.Aim
aim_as aim = record {
  want = aim.rows.want;
  stripe = aim.rows.stripe;
  target = aim.rows.target;
  row = aim.rows.row;
  count = aim.rows.count;
  bytes = payload_bytes aim.bytes;
}

abbrev pub begin_as : Geometry → ℕ → ℕ → Begin → begins.Begin
begin_as g call piece (Opening aim kind) = begins.Opening (task_of_piece g call piece (aim_as aim) kind)
begin_as g call piece (Refusal why) = begins.Refusal why
begin_as g call piece (Swapping slot) = begins.Swapping slot
