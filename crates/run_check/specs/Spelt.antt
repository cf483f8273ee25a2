-- Whether a CDB spells a command, as a test.
use Rattle.std.specs.Prelude.{◌&&◌, ◌^◌, nat_lt, nat_le, Bool}
use Rattle.std.specs.Str.{bytes_eq}
use Rattle.sbc_cdbs.specs.declared.descriptor.Cdb.{Cdb}
use Rattle.sbc_cdbs.specs.declared.commands.Command.{Command}
use Rattle.sbc_cdbs.specs.Cdbs.{spelling, cdb_bytes}
use Rattle.sbc_cdbs.specs.declared.commands.Command.TheVariants as sbc

-- each number of a command fits its field
abbrev pub fits : Command → Bool
fits (sbc.Read dpo fua lba count) = nat_lt lba (2 ^ 32) && nat_lt count (2 ^ 16)
fits (sbc.Write dpo fua lba count) = nat_lt lba (2 ^ 32) && nat_lt count (2 ^ 16)
fits (sbc.XdWrite dpo fua disable lba count) = nat_lt lba (2 ^ 32) && nat_lt count (2 ^ 16)
fits (sbc.XpWrite dpo fua lba count) = nat_lt lba (2 ^ 32) && nat_lt count (2 ^ 16)
fits (sbc.XdRead lba count) = nat_lt lba (2 ^ 32) && nat_lt count (2 ^ 16)
fits (sbc.XdWriteRead dpo fua disable lba count) = nat_lt lba (2 ^ 32) && nat_lt count (2 ^ 16)
fits (sbc.ModeSelect pf sp list) = nat_lt list (2 ^ 16)
fits (sbc.ModeSense dbd pc page allocation) = nat_le pc 3 && nat_le page 63 && nat_lt allocation (2 ^ 16)
fits (sbc.XdWriteExtended dpo fua disable lba second count address) =
    nat_lt lba (2 ^ 32) && nat_lt second (2 ^ 32) && nat_lt count (2 ^ 32) && nat_lt address 256
fits (sbc.Rebuild dpo fua intdata lba count list) = nat_lt lba (2 ^ 32) && nat_lt count (2 ^ 32) && nat_lt list (2 ^ 32)
fits (sbc.Regenerate dpo fua intdata lba count list) = nat_lt lba (2 ^ 32) && nat_lt count (2 ^ 32) && nat_lt list (2 ^ 32)

-- the CDB spells the command
abbrev pub is_spelt : Cdb → Command → Bool
is_spelt cdb command = bytes_eq (cdb_bytes cdb) (spelling command) && fits command
