-- Questions about commands: which are of the XOR ones, and what blocks they are about (SBC).
use Rattle.std.specs.Prelude.{ℕ, ◌==◌, ◌||◌, Bool, true, false, Option, Some, None}
use Rattle.sbc_cdbs.specs.declared.commands.Command.{Command}
use Rattle.sbc_cdbs.specs.declared.commands.Command.TheVariants.{Read, Write, XdWrite, XpWrite, XdRead, XdWriteRead, ModeSelect, ModeSense, XdWriteExtended, Rebuild, Regenerate}

-- the operation code of one of the seven XOR commands: XDWRITE, XPWRITE, XDREAD, XDWRITEREAD, XDWRITE EXTENDED, REBUILD
-- and REGENERATE
abbrev pub is_xor_code : ℕ → Bool
is_xor_code code = code == 0x50 || code == 0x51 || code == 0x52 || code == 0x53 || code == 0x80 || code == 0x81 || code == 0x82

-- the first block; the MODE commands are about none
abbrev pub first_block : Command → Option ℕ
first_block (Read dpo fua lba count) = Some lba
first_block (Write dpo fua lba count) = Some lba
first_block (XdWrite dpo fua disable lba count) = Some lba
first_block (XpWrite dpo fua lba count) = Some lba
first_block (XdRead lba count) = Some lba
first_block (XdWriteRead dpo fua disable lba count) = Some lba
first_block (ModeSelect pf sp list) = None
first_block (ModeSense dbd pc page allocation) = None
first_block (XdWriteExtended dpo fua disable lba second count address) = Some lba
first_block (Rebuild dpo fua intdata lba count list) = Some lba
first_block (Regenerate dpo fua intdata lba count list) = Some lba

-- how many blocks
abbrev pub block_count : Command → Option ℕ
block_count (Read dpo fua lba count) = Some count
block_count (Write dpo fua lba count) = Some count
block_count (XdWrite dpo fua disable lba count) = Some count
block_count (XpWrite dpo fua lba count) = Some count
block_count (XdRead lba count) = Some count
block_count (XdWriteRead dpo fua disable lba count) = Some count
block_count (ModeSelect pf sp list) = None
block_count (ModeSense dbd pc page allocation) = None
block_count (XdWriteExtended dpo fua disable lba second count address) = Some count
block_count (Rebuild dpo fua intdata lba count list) = Some count
block_count (Regenerate dpo fua intdata lba count list) = Some count

-- the first byte of the field with the number of blocks
abbrev pub count_place : Command → Option ℕ
count_place (Read dpo fua lba count) = Some 7
count_place (Write dpo fua lba count) = Some 7
count_place (XdWrite dpo fua disable lba count) = Some 7
count_place (XpWrite dpo fua lba count) = Some 7
count_place (XdRead lba count) = Some 7
count_place (XdWriteRead dpo fua disable lba count) = Some 7
count_place (ModeSelect pf sp list) = None
count_place (ModeSense dbd pc page allocation) = None
count_place (XdWriteExtended dpo fua disable lba second count address) = Some 10
count_place (Rebuild dpo fua intdata lba count list) = Some 6
count_place (Regenerate dpo fua intdata lba count list) = Some 6

-- the command's blocks are kept in the target's buffer when it ends, for an XDREAD
abbrev pub is_kept : Command → Bool
is_kept (Read dpo fua lba count) = false
is_kept (Write dpo fua lba count) = false
is_kept (XdWrite dpo fua disable lba count) = true
is_kept (XpWrite dpo fua lba count) = false
is_kept (XdRead lba count) = false
is_kept (XdWriteRead dpo fua disable lba count) = false
is_kept (ModeSelect pf sp list) = false
is_kept (ModeSense dbd pc page allocation) = false
is_kept (XdWriteExtended dpo fua disable lba second count address) = false
is_kept (Rebuild dpo fua intdata lba count list) = false
is_kept (Regenerate dpo fua intdata lba count list) = true
