-- What each call of a script asks of the array, and which calls of hosts are answered ILLEGAL REQUEST: those that fail
-- one of four tests (SBC, READ(10) and WRITE(10)).
use Rattle.std.specs.Prelude.{ℕ, zero, suc, ◌+◌, ◌*◌, ◌/◌, ◌==◌, ◌||◌, Bool, nat_lt, if◌then◌else◌, List, [], ◌∷◌, length, replicate, slice_index, slice_get, Option, Some, None, option_map}
use Rattle.cdb_fields.specs.Fields.{number_at}
use Rattle.sbc_cdbs.specs.Faults.{reserved_bits, first_offending}
use Rattle.sense_data.specs.Illegal as senses
use Rattle.sense_data.specs.Illegal.{in_cdb}
use Rattle.sense_data.specs.declared.senses.Sense.{Sense}
use Rattle.stripe_layout.specs.declared.geometry.Geometry.{Geometry}
use Rattle.stripe_layout.specs.Layout.{capacity_of}
use Rattle.array_journal.specs.declared.event.What.{What}
use Rattle.array_journal.specs.declared.event.What.TheVariants as whats
use Rattle.array_journal.specs.declared.decision.Want.{Want}
use Rattle.array_journal.specs.declared.decision.Want.TheVariants.{Read as WantsRead, Write as WantsWrite}
use Rattle.host_scripts.specs.declared.script.Action.{Action}
use Rattle.host_scripts.specs.declared.script.Action.TheVariants as actions
use Rattle.host_scripts.specs.declared.script.Call.{Call}

-- blocks to be read or written, and the bytes that came with the command
pub record Transfer : Type 0 where
  pub want : Want
  pub lba : ℕ
  pub count : ℕ
  pub bytes : List ℕ

-- ---- the sense of a refused command

-- ILLEGAL REQUEST with an additional sense code, and perhaps a pointer at a byte of the CDB
abbrev pub illegal : ℕ → Option ℕ → Sense
illegal asc byte = senses.illegal asc 0 (option_map in_cdb byte)

-- ---- the tests, in their order

-- A CDB of this code and these reserved bits has another length (no pointer), or such a bit.
abbrev pub field_fault : Option (List ℕ) → List ℕ → Option Sense
field_fault None cdb = None
field_fault (Some mask) cdb =
    if length cdb == length mask then option_map (λ byte. illegal 0x24 (Some byte)) (first_offending 0 mask cdb)
    else Some (illegal 0x24 None)

-- First and second test: the operation code is READ(10)'s or WRITE(10)'s; the CDB has its length and no bit in it that
-- must be zero. A CDB of no byte has no code, and the wrong length.
abbrev pub cdb_fault : List ℕ → Option Sense
cdb_fault [] = Some (illegal 0x24 None)
cdb_fault (code ∷ cdb) =
    if code == 0x28 || code == 0x2a then field_fault (reserved_bits code) (code ∷ cdb) else Some (illegal 0x20 None)

-- the bytes that come with a command: a write's blocks, and none with a read
abbrev pub bytes_due : Geometry → Want → ℕ → ℕ
bytes_due g WantsWrite count = count * g.block
bytes_due g _ count = 0

-- Third and fourth test: the blocks are within the capacity; as many bytes came as are due.
abbrev pub transfer_fault : Geometry → Transfer → Option Sense
transfer_fault g t =
    if nat_lt (capacity_of g) (t.lba + t.count) then Some (illegal 0x21 None)
    else if length t.bytes == bytes_due g t.want t.count then None
    else Some (illegal 0x1a None)

-- ---- calls

-- what a call asks of the array
pub data Request : Type 0 where
  -- a host's call that fails a test
  Fails : Sense → Request
  -- a host's call that passes all
  Moves : Transfer → Request
  -- the operator's calls, at a target
  Loses : ℕ → Request
  Wipes : ℕ → What → Request
  Replaces : ℕ → Request
  Rebuilds : ℕ → Request
  Resyncs : Request

abbrev pub unless : Option Sense → Request → Request
unless None job = job
unless (Some sense) job = Fails sense

abbrev pub moved : Geometry → Transfer → Request
moved g t = unless (transfer_fault g t) (Moves t)

abbrev pub reading : ℕ → ℕ → List ℕ → Transfer
reading lba count bytes = record { want = WantsRead; lba = lba; count = count; bytes = bytes }

abbrev pub writing : ℕ → ℕ → List ℕ → Transfer
writing lba count bytes = record { want = WantsWrite; lba = lba; count = count; bytes = bytes }

-- a CDB writes, by its operation code, that of WRITE(10)
abbrev pub is_write : List ℕ → Bool
is_write cdb = slice_index cdb 0 == 0x2a

-- what a READ(10) or WRITE(10) asks by its CDB: bytes 2 to 5 are the first block, bytes 7 and 8 how many
abbrev pub raw_transfer : List ℕ → List ℕ → Transfer
raw_transfer cdb bytes =
    if slice_index cdb 0 == 0x28 then reading (number_at 2 4 cdb) (number_at 7 2 cdb) bytes
    else writing (number_at 2 4 cdb) (number_at 7 2 cdb) bytes

-- The job of each kind of call line: a read is a READ(10), a write and a fill a WRITE(10), with no flag set.
abbrev pub request_of : Geometry → Action → Request
request_of g (actions.Read lba count) = moved g (reading lba count [])
request_of g (actions.Write lba bytes) = moved g (writing lba (length bytes / g.block) bytes)
request_of g (actions.Fill lba count byte) = moved g (writing lba count (replicate (count * g.block) byte))
request_of g (actions.Raw cdb bytes) = unless (cdb_fault cdb) (moved g (raw_transfer cdb bytes))
request_of g (actions.Lose target) = Loses target
request_of g (actions.Reset target) = Wipes target whats.Buffers
request_of g (actions.DropNext target) = Wipes target whats.Request
request_of g (actions.Replace target) = Replaces target
request_of g (actions.Rebuild target) = Rebuilds target
request_of g actions.Resync = Resyncs

-- the call of a number, from 1
abbrev pub call_at : List Call → ℕ → Option Call
call_at calls zero = None
call_at calls (suc place) = slice_get calls place
