-- What the tests of a CDB say of what its decoder answers.
use Rattle.std.specs.Prelude.{ℕ, ◌==◌, ◌||◌, not, Bool, false, List, [], ◌∷◌, Option, Some, None}
use Rattle.sbc_cdbs.specs.declared.commands.Command.{Command}
use Rattle.sbc_cdbs.specs.declared.commands.Command.TheVariants.{Read, Write, XdWrite, XpWrite, XdRead, XdWriteRead, ModeSelect, ModeSense, XdWriteExtended, Rebuild, Regenerate}
use Rattle.sbc_cdbs.specs.declared.decoding.CdbFault.{CdbFault}
use Rattle.sbc_cdbs.specs.declared.decoding.CdbFault.TheVariants as cdb_faults
use Rattle.host_requests.specs.Requests.{Transfer, reading, writing}
use Rattle.host_requests.specs.declared.faults.RequestFault.{RequestFault}
use Rattle.host_requests.specs.declared.faults.RequestFault.TheVariants.{OpCode, Length, Bits}

-- the operation code is neither READ(10)'s nor WRITE(10)'s
abbrev pub has_other_code : List ℕ → Bool
has_other_code [] = false
has_other_code (code ∷ cdb) = not (code == 0x28 || code == 0x2a)

-- what a command asks of the array, with the bytes that came with it: of all commands it serves READ(10) and WRITE(10)
abbrev pub asked_by : Command → List ℕ → Option Transfer
asked_by (Read dpo fua lba count) bytes = Some (reading lba count bytes)
asked_by (Write dpo fua lba count) bytes = Some (writing lba count bytes)
asked_by (XdWrite dpo fua disable lba count) bytes = None
asked_by (XpWrite dpo fua lba count) bytes = None
asked_by (XdRead lba count) bytes = None
asked_by (XdWriteRead dpo fua disable lba count) bytes = None
asked_by (ModeSelect pf sp list) bytes = None
asked_by (ModeSense dbd pc page allocation) bytes = None
asked_by (XdWriteExtended dpo fua disable lba second count address) bytes = None
asked_by (Rebuild dpo fua intdata lba count list) bytes = None
asked_by (Regenerate dpo fua intdata lba count list) bytes = None

-- the test that a READ(10) or WRITE(10) fails by such a fault
abbrev pub fault_by : CdbFault → RequestFault
fault_by (cdb_faults.OpCode code) = OpCode
fault_by (cdb_faults.Length want got) = Length
fault_by (cdb_faults.Bits byte) = Bits byte
