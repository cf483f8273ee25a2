-- What a target refuses before it looks at its own state: the rows of one table, in the order in which they are tested
-- (SBC, the XOR commands; SPC, the MODE commands).
use Rattle.std.specs.Prelude.{◌≡◌, ◌≤◌, ◌++◌, ℕ, ◌+◌, ◌*◌, ◌==◌, ◌||◌, ◌&&◌, not, Bool, nat_lt, List, [], ◌∷◌, length, slice_index, Option, Some, None, option_map, is_none, unwrap_or, if◌then◌else◌}
use Rattle.std.specs.Bool.{then_some}
use Rattle.sense_data.specs.declared.senses.Sense.{Sense}
use Rattle.sense_data.specs.Illegal.{illegal, in_cdb, in_list}
use Rattle.sbc_cdbs.specs.declared.commands.Command.{Command}
use Rattle.sbc_cdbs.specs.declared.commands.Command.TheVariants.{Read, Write, XdWrite, XpWrite, XdRead, XdWriteRead, ModeSelect, ModeSense, XdWriteExtended, Rebuild, Regenerate}
use Rattle.sbc_cdbs.specs.Faults.{reserved_bits, mask_of, wanted_length, first_offending}
use Rattle.sbc_cdbs.specs.Kinds.{is_xor_code, first_block, block_count, count_place}
use Rattle.sbc_cdbs.specs.Reading.{command_of}
use Rattle.xor_mode_page.specs.declared.pages.XorPage.{XorPage}
use Rattle.xor_mode_page.specs.declared.pages.PageFault.{PageFault}
use Rattle.xor_mode_page.specs.declared.pages.PageFault.TheVariants as page_faults
use Rattle.xor_mode_page.specs.Pages.{list_fault}
use Rattle.xor_params.specs.declared.lists.ParamFault.{ParamFault}
use Rattle.xor_params.specs.declared.lists.ParamFault.TheVariants as param_faults
use Rattle.xor_params.specs.Contents.{HasRoom, stranger_in}
use Rattle.xor_params.specs.ListFaults as params
use Rattle.xor_target.specs.declared.limits.TargetLimits.{TargetLimits}

-- the first row that answers
abbrev pub first_some : List (Option Sense) → Option Sense
first_some [] = None
first_some (Some sense ∷ rows) = Some sense
first_some (None ∷ rows) = first_some rows

-- the command that a CDB's fields give, by its operation code
abbrev pub command_in : List ℕ → Command
command_in cdb = command_of (slice_index cdb 0) cdb

-- the first row that a command is about, and how many rows: none of a MODE command
abbrev pub row_of : Command → ℕ
row_of command = unwrap_or (first_block command) 0

abbrev pub count_of : Command → ℕ
count_of command = unwrap_or (block_count command) 0

-- ---- the operation code: INVALID COMMAND OPERATION CODE

-- a target doesn't know the code, or its page forbids the XOR commands (XORDIS) and it is one of theirs
abbrev pub is_refused_code : XorPage → ℕ → Bool
is_refused_code page code = is_none (reserved_bits code) || (page.xordis && is_xor_code code)

abbrev pub refused_code : XorPage → List ℕ → Option Sense
refused_code page [] = None
refused_code page (code ∷ cdb) = then_some (is_refused_code page code) (illegal 0x20 0 None)

-- ---- the CDB: INVALID FIELD IN CDB, mostly with a pointer at the field

-- It isn't as long as its operation code asks for. A CDB of no byte has no code, and the wrong length.
abbrev pub wrong_length : List ℕ → Option Sense
wrong_length cdb = then_some (not (unwrap_or (wanted_length cdb) (length cdb) == length cdb)) (illegal 0x24 0 None)

-- a bit that must be zero is one: the lowest byte with such a bit
abbrev pub reserved_bit : List ℕ → Option Sense
reserved_bit cdb = option_map (λ byte. illegal 0x24 0 (Some (in_cdb byte))) (first_offending 0 (unwrap_or (mask_of cdb) []) cdb)

-- the most blocks of a command by the target's page; zero is no maximum
abbrev pub maximum_of : XorPage → Command → ℕ
maximum_of page (Read dpo fua lba count) = 0
maximum_of page (Write dpo fua lba count) = 0
maximum_of page (XdWrite dpo fua disable lba count) = page.max_write
maximum_of page (XpWrite dpo fua lba count) = page.max_write
maximum_of page (XdRead lba count) = 0
maximum_of page (XdWriteRead dpo fua disable lba count) = page.max_write
maximum_of page (ModeSelect pf sp list) = 0
maximum_of page (ModeSense dbd pc page_code allocation) = 0
maximum_of page (XdWriteExtended dpo fua disable lba second count address) = page.max_write
maximum_of page (Rebuild dpo fua intdata lba count list) = page.max_rebuild
maximum_of page (Regenerate dpo fua intdata lba count list) = page.max_regenerate

-- more blocks than this maximum
abbrev pub is_over : ℕ → ℕ → Bool
is_over maximum count = not (maximum == 0) && nat_lt maximum count

-- More blocks than the page allows the command, or than the CDB of a request to another target could hold.
abbrev pub too_long : XorPage → Command → Option Sense
too_long page command =
    then_some (is_over (maximum_of page command) (count_of command) || nat_lt 65535 (count_of command))
    (illegal 0x24 0 (option_map in_cdb (count_place command)))

-- the secondary address is no target, or this one
abbrev pub wrong_secondary : TargetLimits → Command → Option Sense
wrong_secondary limits (XdWriteExtended dpo fua disable lba second count address) =
    then_some (not (nat_lt address limits.targets) || address == limits.number) (illegal 0x24 0 (Some (in_cdb 14)))
wrong_secondary limits command = None

-- a MODE SELECT of vendor specific pages (PF zero), or one that asks to save them (SP)
abbrev pub wrong_select : Command → Option Sense
wrong_select (ModeSelect pf sp list) = then_some (not pf || sp) (illegal 0x24 0 (Some (in_cdb 1)))
wrong_select command = None

-- a MODE SENSE of saved values, which aren't kept: SAVING PARAMETERS NOT SUPPORTED
abbrev pub saved_values : Command → Option Sense
saved_values (ModeSense dbd pc page_code allocation) = then_some (pc == 3) (illegal 0x39 0 None)
saved_values command = None

-- a MODE SENSE of another page than 10h, by its own code or by that of all pages
abbrev pub unknown_page : Command → Option Sense
unknown_page (ModeSense dbd pc page_code allocation) = then_some (not (page_code == 0x10 || page_code == 0x3f)) (illegal 0x24 0 (Some (in_cdb 2)))
unknown_page command = None

-- ---- the blocks: LOGICAL BLOCK ADDRESS OUT OF RANGE

abbrev pub out_of_range : TargetLimits → Command → Option Sense
out_of_range limits command = then_some (nat_lt limits.rows (row_of command + count_of command)) (illegal 0x21 0 None)

-- ---- the data: PARAMETER LIST LENGTH ERROR, INVALID FIELD IN PARAMETER LIST

-- How many bytes come with a command: the blocks that it writes or folds, or its parameter list.
abbrev pub data_due : ℕ → Command → ℕ
data_due block (Read dpo fua lba count) = 0
data_due block (Write dpo fua lba count) = count * block
data_due block (XdWrite dpo fua disable lba count) = count * block
data_due block (XpWrite dpo fua lba count) = count * block
data_due block (XdRead lba count) = 0
data_due block (XdWriteRead dpo fua disable lba count) = count * block
data_due block (ModeSelect pf sp list) = list
data_due block (ModeSense dbd pc page_code allocation) = 0
data_due block (XdWriteExtended dpo fua disable lba second count address) = count * block
data_due block (Rebuild dpo fua intdata lba count list) = list
data_due block (Regenerate dpo fua intdata lba count list) = list

abbrev pub wrong_amount : TargetLimits → Command → List ℕ → Option Sense
wrong_amount limits command bytes = then_some (not (length bytes == data_due limits.block command)) (illegal 0x1a 0 None)

-- a field in error of a list
abbrev pub wrong_in_list : ℕ → Sense
wrong_in_list byte = illegal 0x26 0 (Some (in_list byte))

-- the sense of a fault of a MODE SELECT list
abbrev pub page_sense : PageFault → Sense
page_sense (page_faults.Length want got) = illegal 0x1a 0 None
page_sense (page_faults.Field byte) = wrong_in_list byte

-- The sense of a fault of a list of sources. Want of memory is none of the list's.
abbrev pub param_sense : Option ParamFault → Option Sense
param_sense None = None
param_sense (Some (param_faults.Length want got)) = Some (illegal 0x1a 0 None)
param_sense (Some (param_faults.Field byte)) = Some (wrong_in_list byte)
param_sense (Some param_faults.Memory) = None

-- The fault of the list that came with a REBUILD or a REGENERATE of so many blocks: the first of the list itself, then the
-- first source that is no target, or this one. With no blocks to make, what the list says isn't looked at.
abbrev pub wrong_sources : TargetLimits → Bool → ℕ → List ℕ → Option Sense
wrong_sources limits intdata count bytes =
    if count == 0 then None
    else first_some
    (param_sense (params.list_fault bytes intdata (count * limits.block))
    ∷ option_map wrong_in_list (stranger_in limits.targets limits.number bytes)
    ∷ [])

abbrev pub wrong_list : TargetLimits → Command → List ℕ → Option Sense
wrong_list limits (ModeSelect pf sp list) bytes = option_map page_sense (list_fault bytes)
wrong_list limits (Rebuild dpo fua intdata lba count list) bytes = wrong_sources limits intdata count bytes
wrong_list limits (Regenerate dpo fua intdata lba count list) bytes = wrong_sources limits intdata count bytes
wrong_list limits command bytes = None

-- ---- the table

-- the rows that a CDB decides alone
abbrev pub cdb_rows : XorPage → List ℕ → List (Option Sense)
cdb_rows page cdb = refused_code page cdb ∷ wrong_length cdb ∷ reserved_bit cdb ∷ []

-- the rows that ask for the command's fields
abbrev pub command_rows : TargetLimits → XorPage → Command → List ℕ → List (Option Sense)
command_rows limits page command bytes =
    too_long page command
    ∷ wrong_secondary limits command
    ∷ wrong_select command
    ∷ saved_values command
    ∷ unknown_page command
    ∷ out_of_range limits command
    ∷ wrong_amount limits command bytes
    ∷ wrong_list limits command bytes
    ∷ []

-- The sense of the first row that refuses a CDB and the bytes that came with it, at a target with this page; none where
-- they are admitted.
abbrev pub refusal_of : TargetLimits → XorPage → List ℕ → List ℕ → Option Sense
refusal_of limits page cdb bytes = first_some (cdb_rows page cdb ++ command_rows limits page (command_in cdb) bytes)

-- ---- what else is known of an admitted command

-- a MODE SENSE asks for values that are kept
abbrev pub AsksForKept : Command → Type 0
AsksForKept (ModeSense dbd pc page_code allocation) = pc ≤ 2
AsksForKept command = Unit {0}

-- the bytes are a list for a command of so many blocks, and its sources are other targets
pub record HasSources (limits : TargetLimits) (intdata : Bool) (count : ℕ) (bytes : List ℕ) : Type 0 where
  pub sound : params.list_fault bytes intdata (count * limits.block) ≡ None
  pub room : HasRoom bytes
  pub known : stranger_in limits.targets limits.number bytes ≡ None

-- the bytes that came with a MODE SELECT, and with a REBUILD or a REGENERATE of some blocks, are a list of it
abbrev pub HasSoundList : TargetLimits → Command → List ℕ → Type 0
HasSoundList limits (ModeSelect pf sp list) bytes = list_fault bytes ≡ None
HasSoundList limits (Rebuild dpo fua intdata lba count list) bytes = 1 ≤ count → HasSources limits intdata count bytes
HasSoundList limits (Regenerate dpo fua intdata lba count list) bytes = 1 ≤ count → HasSources limits intdata count bytes
HasSoundList limits command bytes = Unit {0}
