-- The values of the fields of a block.
use Rattle.std.specs.Prelude.{ℕ, ◌==◌, List, get_or, if◌then◌else◌, slice_index, Option, Some, None}
use Rattle.std.specs.Str.{bytes_eq}
use Rattle.cdb_fields.specs.Fields.{bits, is_one, number_at}
use Rattle.sbc_cdbs.specs.Cdbs.{spelling}
use Rattle.sbc_cdbs.specs.declared.commands.Command.{Command}
use Rattle.sbc_cdbs.specs.declared.commands.Command.TheVariants.{Read, Write, XdWrite, XpWrite, XdRead, XdWriteRead, ModeSelect, ModeSense, XdWriteExtended, Rebuild, Regenerate}

-- the command that the fields of a block give, by its operation code
abbrev pub command_of : ℕ → List ℕ → Command
command_of code b =
    if code == 0x28 then Read (is_one 1 4 b) (is_one 1 3 b) (number_at 2 4 b) (number_at 7 2 b)
    else if code == 0x2a then Write (is_one 1 4 b) (is_one 1 3 b) (number_at 2 4 b) (number_at 7 2 b)
    else if code == 0x50 then XdWrite (is_one 1 4 b) (is_one 1 3 b) (is_one 1 2 b) (number_at 2 4 b) (number_at 7 2 b)
    else if code == 0x51 then XpWrite (is_one 1 4 b) (is_one 1 3 b) (number_at 2 4 b) (number_at 7 2 b)
    else if code == 0x52 then XdRead (number_at 2 4 b) (number_at 7 2 b)
    else if code == 0x53 then XdWriteRead (is_one 1 4 b) (is_one 1 3 b) (is_one 1 2 b) (number_at 2 4 b) (number_at 7 2 b)
    else if code == 0x55 then ModeSelect (is_one 1 4 b) (is_one 1 0 b) (number_at 7 2 b)
    else if code == 0x5a then ModeSense (is_one 1 3 b) (bits 7 6 (slice_index b 2)) (bits 5 0 (slice_index b 2)) (number_at 7 2 b)
    else if code == 0x80 then
    XdWriteExtended (is_one 1 4 b) (is_one 1 3 b) (is_one 1 2 b) (number_at 2 4 b) (number_at 6 4 b) (number_at 10 4 b) (number_at 14 1 b)
    else if code == 0x81 then
    Rebuild (is_one 1 4 b) (is_one 1 3 b) (is_one 1 2 b) (number_at 2 4 b) (number_at 6 4 b) (number_at 10 4 b)
    else Regenerate (is_one 1 4 b) (is_one 1 3 b) (is_one 1 2 b) (number_at 2 4 b) (number_at 6 4 b) (number_at 10 4 b)

-- the command that bytes decode to: that of their fields, where they are its spelling
unfoldable pub decoded : List ℕ → Option Command
decoded bytes =
    if bytes_eq bytes (spelling (command_of (get_or bytes 0 0) bytes)) then Some (command_of (get_or bytes 0 0) bytes) else None
