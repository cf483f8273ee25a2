-- Which value bytes spell in each format, and which fault they have first.
use Rattle.std.specs.Prelude.{ℕ, ◌≡◌, Bool, List, Result, Err, IfOk, IfErr, MatchResult}
use Rattle.sbc_cdbs.specs.declared.commands.Command.{Command}
use Rattle.sbc_cdbs.specs.declared.decoding.CdbFault.TheVariants as cdb_faults
use Rattle.sbc_cdbs.specs.Cdbs as cdbs
use Rattle.sbc_cdbs.specs.Faults as cdb_rules
use Rattle.sense_data.specs.declared.senses.Sense.{Sense}
use Rattle.sense_data.specs.declared.decoding.SenseFault.TheVariants as sense_faults
use Rattle.sense_data.specs.Senses as senses
use Rattle.sense_data.specs.Faults as sense_rules
use Rattle.xor_mode_page.specs.declared.pages.XorPage.{XorPage}
use Rattle.xor_mode_page.specs.declared.pages.PageFault.TheVariants as page_faults
use Rattle.xor_mode_page.specs.Pages as pages
use Rattle.xor_params.specs.declared.lists.Params.{Params}
use Rattle.xor_params.specs.declared.lists.ParamFault.TheVariants as list_faults
use Rattle.xor_params.specs.ParameterLists as lists
use Rattle.xor_cli.specs.declared.decoding.faults.DecodeFault.{DecodeFault}
use Rattle.xor_cli.specs.declared.decoding.faults.DecodeFault.TheVariants.{OpCode, Length, Bits, Code, Field}
use Rattle.xor_cli.specs.declared.decoding.values.Format.{Format}
use Rattle.xor_cli.specs.declared.decoding.values.Format.TheVariants as formats
use Rattle.xor_cli.specs.declared.decoding.values.DecodedValue.{DecodedValue}
use Rattle.xor_cli.specs.declared.decoding.values.DecodedValue.TheVariants as values
use Rattle.xor_cli.specs.declared.decoding.values.Undecoded.{Undecoded}
use Rattle.xor_cli.specs.declared.decoding.values.Undecoded.TheVariants as undecoded

-- the bytes spell this value
abbrev pub IsValue : Format → List ℕ → DecodedValue → Type 0
IsValue formats.Cdb bytes value = (command : Command) × (cdbs.SpellsCdb bytes command × (value ≡ values.Cdb command))
IsValue formats.Sense bytes value = (sense : Sense) × (senses.SpellsSense bytes sense × (value ≡ values.Sense sense))
IsValue formats.Page bytes value = (page : XorPage) × (pages.SpellsPage bytes page × (value ≡ values.Page page))
IsValue (formats.Params intdata wanted) bytes value =
    (params : Params) × (lists.SpellsParams bytes intdata wanted params × (value ≡ values.Params params))

-- the first fault of bytes that are no command descriptor block
abbrev pub IsCdbFault : List ℕ → DecodeFault → Type 0
IsCdbFault bytes (OpCode code) = cdb_rules.IsFault bytes (cdb_faults.OpCode code)
IsCdbFault bytes (Length want got) = cdb_rules.IsFault bytes (cdb_faults.Length want got)
IsCdbFault bytes (Bits byte) = cdb_rules.IsFault bytes (cdb_faults.Bits byte)
IsCdbFault bytes (Code got) = ⊥
IsCdbFault bytes (Field byte) = ⊥

-- the first fault of bytes that are no sense data, which is 18 bytes long
abbrev pub IsSenseFault : List ℕ → DecodeFault → Type 0
IsSenseFault bytes (OpCode code) = ⊥
IsSenseFault bytes (Length want got) = (want ≡ 18) × sense_rules.IsFault bytes (sense_faults.Length got)
IsSenseFault bytes (Bits byte) = sense_rules.IsFault bytes (sense_faults.Bits byte)
IsSenseFault bytes (Code got) = sense_rules.IsFault bytes (sense_faults.Code got)
IsSenseFault bytes (Field byte) = ⊥

-- the first fault of bytes that are no page
abbrev pub IsPageFault : List ℕ → DecodeFault → Type 0
IsPageFault bytes (OpCode code) = ⊥
IsPageFault bytes (Length want got) = pages.IsPageFault bytes (page_faults.Length want got)
IsPageFault bytes (Bits byte) = ⊥
IsPageFault bytes (Code got) = ⊥
IsPageFault bytes (Field byte) = pages.IsPageFault bytes (page_faults.Field byte)

-- the first fault of bytes that are no parameter list
abbrev pub IsListFault : List ℕ → Bool → ℕ → DecodeFault → Type 0
IsListFault bytes intdata wanted (OpCode code) = ⊥
IsListFault bytes intdata wanted (Length want got) = lists.IsRefused bytes intdata wanted (list_faults.Length want got)
IsListFault bytes intdata wanted (Bits byte) = ⊥
IsListFault bytes intdata wanted (Code got) = ⊥
IsListFault bytes intdata wanted (Field byte) = lists.IsRefused bytes intdata wanted (list_faults.Field byte)

-- the bytes spell no value, and this is their first fault
abbrev pub IsFault : Format → List ℕ → DecodeFault → Type 0
IsFault formats.Cdb bytes fault = IsCdbFault bytes fault
IsFault formats.Sense bytes fault = IsSenseFault bytes fault
IsFault formats.Page bytes fault = IsPageFault bytes fault
IsFault (formats.Params intdata wanted) bytes fault = IsListFault bytes intdata wanted fault

-- why there is no value: a fault that the bytes have, or want of memory for a value that they spell
abbrev pub IsReason : Format → List ℕ → Undecoded → Type 0
IsReason format bytes (undecoded.Faulty fault) = IsFault format bytes fault
IsReason format bytes undecoded.Memory = (value : DecodedValue) × IsValue format bytes value

-- what a decoder answers: the value that is spelt, or else the first fault
pub record IsAnswer (format : Format) (bytes : List ℕ) (answer : Result DecodedValue Undecoded) : Type 0 where
  pub found : IfOk answer (IsValue format bytes)
  pub only : (value : DecodedValue) → IsValue format bytes value → MatchResult answer (λ v. v ≡ value) (λ reason. reason ≡ undecoded.Memory)
  pub refused : IfErr answer (IsReason format bytes)
  pub fault : (first : DecodeFault) → IsFault format bytes first → answer ≡ Err (undecoded.Faulty first)
