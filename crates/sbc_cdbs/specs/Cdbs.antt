-- Command descriptor blocks (SBC, SPC): the list of bytes that spells each command. All numbers of several
-- bytes are big endian, and each bit that is not named is zero.
use Rattle.std.specs.Prelude.{◌≡◌, ◌+◌, ◌<◌, ◌≤◌, ◌*◌, ◌^◌, ℕ, List, [], ◌∷◌, ◌++◌, take}
use Rattle.std.specs.Int.{w16, w32, to_be_bytes}
use Rattle.cdb_fields.specs.Fields.{flag}
use Rattle.sbc_cdbs.specs.declared.descriptor.Cdb.{Cdb}
use Rattle.sbc_cdbs.specs.declared.commands.Command.{Command}
use Rattle.sbc_cdbs.specs.declared.commands.Command.TheVariants.{Read, Write, XdWrite, XpWrite, XdRead, XdWriteRead, ModeSelect, ModeSense, XdWriteExtended, Rebuild, Regenerate}

-- The bytes that spell a command: its operation code, byte 1 with its flags, and its numbers. CONTROL is
-- the last byte.
abbrev pub spelling : Command → List ℕ
spelling (Read dpo fua lba count) =
    0x28 ∷ (flag 4 dpo + flag 3 fua) ∷ to_be_bytes w32 lba ++ 0 ∷ to_be_bytes w16 count ++ 0 ∷ []
spelling (Write dpo fua lba count) =
    0x2a ∷ (flag 4 dpo + flag 3 fua) ∷ to_be_bytes w32 lba ++ 0 ∷ to_be_bytes w16 count ++ 0 ∷ []
spelling (XdWrite dpo fua disable lba count) =
    0x50 ∷ (flag 4 dpo + flag 3 fua + flag 2 disable) ∷ to_be_bytes w32 lba ++ 0 ∷ to_be_bytes w16 count ++ 0 ∷ []
spelling (XpWrite dpo fua lba count) =
    0x51 ∷ (flag 4 dpo + flag 3 fua) ∷ to_be_bytes w32 lba ++ 0 ∷ to_be_bytes w16 count ++ 0 ∷ []
spelling (XdRead lba count) =
    0x52 ∷ 0 ∷ to_be_bytes w32 lba ++ 0 ∷ to_be_bytes w16 count ++ 0 ∷ []
spelling (XdWriteRead dpo fua disable lba count) =
    0x53 ∷ (flag 4 dpo + flag 3 fua + flag 2 disable) ∷ to_be_bytes w32 lba ++ 0 ∷ to_be_bytes w16 count ++ 0 ∷ []
spelling (ModeSelect pf sp list) =
    0x55 ∷ (flag 4 pf + flag 0 sp) ∷ 0 ∷ 0 ∷ 0 ∷ 0 ∷ 0 ∷ to_be_bytes w16 list ++ 0 ∷ []
spelling (ModeSense dbd pc page allocation) =
    0x5a ∷ flag 3 dbd ∷ (pc * 64 + page) ∷ 0 ∷ 0 ∷ 0 ∷ 0 ∷ to_be_bytes w16 allocation ++ 0 ∷ []
spelling (XdWriteExtended dpo fua disable lba second count address) =
    0x80 ∷ (flag 4 dpo + flag 3 fua + flag 2 disable) ∷ to_be_bytes w32 lba ++ to_be_bytes w32 second ++ to_be_bytes w32 count
    ++ address ∷ 0 ∷ []
spelling (Rebuild dpo fua intdata lba count list) =
    0x81 ∷ (flag 4 dpo + flag 3 fua + flag 2 intdata) ∷ to_be_bytes w32 lba ++ to_be_bytes w32 count ++ to_be_bytes w32 list
    ++ 0 ∷ 0 ∷ []
spelling (Regenerate dpo fua intdata lba count list) =
    0x82 ∷ (flag 4 dpo + flag 3 fua + flag 2 intdata) ∷ to_be_bytes w32 lba ++ to_be_bytes w32 count ++ to_be_bytes w32 list
    ++ 0 ∷ 0 ∷ []

-- each number of a command fits its field
abbrev pub Fits : Command → Type 0
Fits (Read dpo fua lba count) = (lba < 2 ^ 32) × (count < 2 ^ 16)
Fits (Write dpo fua lba count) = (lba < 2 ^ 32) × (count < 2 ^ 16)
Fits (XdWrite dpo fua disable lba count) = (lba < 2 ^ 32) × (count < 2 ^ 16)
Fits (XpWrite dpo fua lba count) = (lba < 2 ^ 32) × (count < 2 ^ 16)
Fits (XdRead lba count) = (lba < 2 ^ 32) × (count < 2 ^ 16)
Fits (XdWriteRead dpo fua disable lba count) = (lba < 2 ^ 32) × (count < 2 ^ 16)
Fits (ModeSelect pf sp list) = list < 2 ^ 16
Fits (ModeSense dbd pc page allocation) = (pc ≤ 3) × (page ≤ 63) × (allocation < 2 ^ 16)
Fits (XdWriteExtended dpo fua disable lba second count address) =
    (lba < 2 ^ 32) × (second < 2 ^ 32) × (count < 2 ^ 32) × (address < 256)
Fits (Rebuild dpo fua intdata lba count list) = (lba < 2 ^ 32) × (count < 2 ^ 32) × (list < 2 ^ 32)
Fits (Regenerate dpo fua intdata lba count list) = (lba < 2 ^ 32) × (count < 2 ^ 32) × (list < 2 ^ 32)

-- the bytes spell the command
abbrev pub SpellsCdb : List ℕ → Command → Type 0
SpellsCdb bytes command = (bytes ≡ spelling command) × Fits command

-- what encode takes: page control and page code of a MODE SENSE fit their bits
abbrev pub CanEncode : Command → Type 0
CanEncode (ModeSense dbd pc page allocation) = (pc ≤ 3) × (page ≤ 63)
CanEncode (Read dpo fua lba count) = Unit {0}
CanEncode (Write dpo fua lba count) = Unit {0}
CanEncode (XdWrite dpo fua disable lba count) = Unit {0}
CanEncode (XpWrite dpo fua lba count) = Unit {0}
CanEncode (XdRead lba count) = Unit {0}
CanEncode (XdWriteRead dpo fua disable lba count) = Unit {0}
CanEncode (ModeSelect pf sp list) = Unit {0}
CanEncode (XdWriteExtended dpo fua disable lba second count address) = Unit {0}
CanEncode (Rebuild dpo fua intdata lba count list) = Unit {0}
CanEncode (Regenerate dpo fua intdata lba count list) = Unit {0}

-- the bytes of a CDB
abbrev pub cdb_bytes : Cdb → List ℕ
cdb_bytes cdb = take cdb.len cdb.bytes
