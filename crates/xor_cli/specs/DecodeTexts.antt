-- The texts of decoded values, and of the first fault where there is none: a line each. Flags are 0 or 1, numbers decimal.
use Rattle.std.specs.Prelude.{ℕ, Bool, List, [], ◌∷◌, ◌++◌, length, codes, if◌then◌else◌, Option, Some, None}
use Rattle.std.specs.List.{flat_map}
use Rattle.std.specs.Fmt.{decimal}
use Rattle.text_fields.specs.Spelling.{line, hex, upper_nibble, upper_byte}
use Rattle.sbc_cdbs.specs.declared.commands.Command.{Command}
use Rattle.sbc_cdbs.specs.declared.commands.Command.TheVariants.{Read, Write, XdWrite, XpWrite, XdRead, XdWriteRead, ModeSelect, ModeSense, XdWriteExtended, Rebuild, Regenerate}
use Rattle.sense_data.specs.declared.senses.Pointer.{Pointer}
use Rattle.sense_data.specs.declared.senses.Sense.{Sense}
use Rattle.xor_mode_page.specs.declared.pages.XorPage.{XorPage}
use Rattle.xor_params.specs.declared.sources.Descriptor.{Descriptor}
use Rattle.xor_params.specs.declared.lists.Params.{Params}
use Rattle.xor_cli.specs.declared.decoding.faults.DecodeFault.{DecodeFault}
use Rattle.xor_cli.specs.declared.decoding.faults.DecodeFault.TheVariants.{OpCode, Length, Bits, Code, Field}
use Rattle.xor_cli.specs.declared.decoding.values.DecodedValue.{DecodedValue}
use Rattle.xor_cli.specs.declared.decoding.values.DecodedValue.TheVariants as values

-- a word and a number, behind a space
unfoldable pub field : List ℕ → ℕ → List ℕ
field word n = 32 ∷ (word ++ (32 ∷ decimal n))

-- a word and a flag
unfoldable pub flag : List ℕ → Bool → List ℕ
flag word one = field word (if one then 1 else 0)

-- a number where there is one, or a dash
abbrev pub optional : Option ℕ → List ℕ
optional None = 45 ∷ []
optional (Some n) = decimal n

-- ---- commands

-- the flags of caches
unfoldable pub caching : Bool → Bool → List ℕ
caching dpo fua = flag (codes "dpo") dpo ++ flag (codes "fua") fua

-- the blocks that a command is about
unfoldable pub extent : ℕ → ℕ → List ℕ
extent lba count = field (codes "lba") lba ++ field (codes "length") count

abbrev pub transfer_text : List ℕ → Bool → Bool → ℕ → ℕ → List ℕ
transfer_text name dpo fua lba count = name ++ (caching dpo fua ++ extent lba count)

-- a name with the flags of caches and one more flag
unfoldable pub flagged : List ℕ → Bool → Bool → List ℕ → Bool → List ℕ
flagged name dpo fua word one = name ++ (caching dpo fua ++ flag word one)

-- where an XDWRITE EXTENDED sends what it makes
unfoldable pub sending : ℕ → ℕ → ℕ → ℕ → List ℕ
sending lba second count address =
    field (codes "lba") lba ++ (field (codes "second") second ++ (field (codes "length") count ++ field (codes "address") address))

-- what a REBUILD or a REGENERATE makes, and how long its parameter list is
unfoldable pub gathering : ℕ → ℕ → ℕ → List ℕ
gathering lba count list = extent lba count ++ field (codes "list") list

-- MODE SELECT with its flags
unfoldable pub selecting : Bool → Bool → List ℕ
selecting pf sp = codes "MODE SELECT" ++ (flag (codes "pf") pf ++ flag (codes "sp") sp)

abbrev pub select_text : Bool → Bool → ℕ → List ℕ
select_text pf sp list = selecting pf sp ++ field (codes "list") list

abbrev pub mode_sense_text : Bool → ℕ → ℕ → ℕ → List ℕ
mode_sense_text dbd pc page allocation =
    codes "MODE SENSE"
    ++ (flag (codes "dbd") dbd ++ (field (codes "pc") pc ++ (field (codes "page") page ++ field (codes "allocation") allocation)))

abbrev pub cdb_text : Command → List ℕ
cdb_text (Read dpo fua lba count) = transfer_text (codes "READ") dpo fua lba count
cdb_text (Write dpo fua lba count) = transfer_text (codes "WRITE") dpo fua lba count
cdb_text (XdWrite dpo fua disable lba count) = flagged (codes "XDWRITE") dpo fua (codes "disable") disable ++ extent lba count
cdb_text (XpWrite dpo fua lba count) = transfer_text (codes "XPWRITE") dpo fua lba count
cdb_text (XdRead lba count) = codes "XDREAD" ++ extent lba count
cdb_text (XdWriteRead dpo fua disable lba count) = flagged (codes "XDWRITEREAD") dpo fua (codes "disable") disable ++ extent lba count
cdb_text (ModeSelect pf sp list) = select_text pf sp list
cdb_text (ModeSense dbd pc page allocation) = mode_sense_text dbd pc page allocation
cdb_text (XdWriteExtended dpo fua disable lba second count address) =
    flagged (codes "XDWRITE EXTENDED") dpo fua (codes "disable") disable ++ sending lba second count address
cdb_text (Rebuild dpo fua intdata lba count list) = flagged (codes "REBUILD") dpo fua (codes "intdata") intdata ++ gathering lba count list
cdb_text (Regenerate dpo fua intdata lba count list) = flagged (codes "REGENERATE") dpo fua (codes "intdata") intdata ++ gathering lba count list

-- ---- sense data

-- what a pointer points into
abbrev pub block_name : Bool → List ℕ
block_name command = if command then codes "cdb" else codes "list"

unfoldable pub pointer_text : Option Pointer → List ℕ
pointer_text None = 45 ∷ []
pointer_text (Some p) = block_name p.command ++ (field (codes "byte") p.byte ++ (codes " bit " ++ optional p.bit))

-- the additional sense code and its qualifier
unfoldable pub codes_text : ℕ → ℕ → List ℕ
codes_text asc ascq = codes " asc " ++ (upper_byte asc ++ (codes " ascq " ++ upper_byte ascq))

-- the numbers that go with a sense
unfoldable pub details_text : Option ℕ → ℕ → ℕ → List ℕ
details_text information specific fru =
    codes " info " ++ (optional information ++ (field (codes "specific") specific ++ field (codes "fru") fru))

unfoldable pub key_text : ℕ → List ℕ
key_text key = codes "sense key " ++ (upper_nibble key ∷ [])

unfoldable pub place_text : Option Pointer → List ℕ
place_text pointer = codes " pointer " ++ pointer_text pointer

abbrev pub sense_text : Sense → List ℕ
sense_text s = key_text s.key ++ (codes_text s.asc s.ascq ++ (details_text s.information s.specific s.fru ++ place_text s.pointer))

-- ---- pages and lists

abbrev pub page_text : XorPage → List ℕ
page_text p =
    codes "page"
    ++ (flag (codes "xordis") p.xordis
    ++ (field (codes "write") p.max_write
    ++ (field (codes "regenerate") p.max_regenerate
    ++ (field (codes "rebuild") p.max_rebuild
    ++ field (codes "delay") p.delay))))

-- a source: its target, and the block that it begins at
unfoldable pub source_text : Descriptor → List ℕ
source_text d = field (codes "source") d.target ++ field (codes "lba") d.lba

-- the number of sources, and how many bytes the pad and the intermediate data have
unfoldable pub lengths_text : Params → List ℕ
lengths_text p =
    field (codes "sources") (length p.sources) ++ (field (codes "pad") (length p.pad) ++ field (codes "intermediate") (length p.intermediate))

abbrev pub params_text : Params → List ℕ
params_text p = codes "params" ++ (lengths_text p ++ flat_map source_text p.sources)

-- ---- lines

abbrev pub value_text : DecodedValue → List ℕ
value_text (values.Cdb command) = cdb_text command
value_text (values.Sense sense) = sense_text sense
value_text (values.Page page) = page_text page
value_text (values.Params params) = params_text params

-- a code is two hexadecimal digits in lower case
abbrev pub fault_text : DecodeFault → List ℕ
fault_text (OpCode code) = codes "fault opcode " ++ hex (code ∷ [])
fault_text (Length want got) = codes "fault length" ++ (field (codes "want") want ++ field (codes "got") got)
fault_text (Bits byte) = codes "fault bits" ++ field (codes "byte") byte
fault_text (Code got) = codes "fault code " ++ hex (got ∷ [])
fault_text (Field byte) = codes "fault field" ++ field (codes "byte") byte

abbrev pub value_line : DecodedValue → List ℕ
value_line value = line (value_text value)

abbrev pub fault_line : DecodeFault → List ℕ
fault_line fault = line (fault_text fault)
