-- What the decoder's answer decides of the rows of a CDB.
use Rattle.std.specs.Prelude.{ℕ, ◌&&◌, Bool, false, List, [], ◌∷◌, Some, None}
use Rattle.sense_data.specs.declared.senses.Sense.{Sense}
use Rattle.sense_data.specs.Illegal.{illegal, in_cdb}
use Rattle.sbc_cdbs.specs.declared.decoding.CdbFault.{CdbFault}
use Rattle.sbc_cdbs.specs.declared.decoding.CdbFault.TheVariants.{OpCode, Length, Bits}
use Rattle.sbc_cdbs.specs.Kinds.{is_xor_code}
use Rattle.xor_mode_page.specs.declared.pages.XorPage.{XorPage}

-- the page forbids the code
abbrev pub is_shut_out : XorPage → List ℕ → Bool
is_shut_out page [] = false
is_shut_out page (code ∷ cdb) = page.xordis && is_xor_code code

-- the sense of a fault of a CDB
abbrev pub fault_sense : CdbFault → Sense
fault_sense (OpCode code) = illegal 0x20 0 None
fault_sense (Length want got) = illegal 0x24 0 None
fault_sense (Bits byte) = illegal 0x24 0 (Some (in_cdb byte))
