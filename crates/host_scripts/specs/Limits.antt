-- What a script may have only so much of, and the first of these that it has too much of.
use Rattle.std.specs.Prelude.{ℕ, ◌*◌, ◌/◌, Bool, true, false, nat_lt, if◌then◌else◌, List, length, min, Option, Some, None}
use Rattle.std.specs.List.{sum_by, count_by}
use Rattle.sbc_cdbs.specs.Reading.{decoded}
use Rattle.sbc_cdbs.specs.declared.commands.Command.{Command}
use Rattle.sbc_cdbs.specs.declared.commands.Command.TheVariants as commands
use Rattle.stripe_layout.specs.Layout.{capacity_of, rows_of}
use Rattle.stripe_layout.specs.declared.geometry.Geometry.{Geometry}
use Rattle.host_scripts.specs.declared.script.Script.{Script}
use Rattle.host_scripts.specs.declared.script.Call.{Call}
use Rattle.host_scripts.specs.declared.script.Action.{Action}
use Rattle.host_scripts.specs.declared.script.Action.TheVariants.{Read, Write, Fill, Raw, Lose, Reset, DropNext, Replace, Rebuild, Resync}
use Rattle.host_scripts.specs.declared.script.Limit.{Limit}
use Rattle.host_scripts.specs.declared.script.Limit.TheVariants.{Calls, Blocks, Moved, Media, Passes}

-- the blocks that a READ(10) or a WRITE(10) moves; an array serves no other command of a host
abbrev pub transferred_by : Command → ℕ
transferred_by (commands.Read dpo fua lba count) = count
transferred_by (commands.Write dpo fua lba count) = count
transferred_by (commands.XdWrite dpo fua disable lba count) = 0
transferred_by (commands.XpWrite dpo fua lba count) = 0
transferred_by (commands.XdRead lba count) = 0
transferred_by (commands.XdWriteRead dpo fua disable lba count) = 0
transferred_by (commands.ModeSelect pf sp list) = 0
transferred_by (commands.ModeSense dbd pc page allocation) = 0
transferred_by (commands.XdWriteExtended dpo fua disable lba second count address) = 0
transferred_by (commands.Rebuild dpo fua intdata lba count list) = 0
transferred_by (commands.Regenerate dpo fua intdata lba count list) = 0

-- the same of a CDB, where it decodes to a command
abbrev pub transferred : Option Command → ℕ
transferred (Some command) = transferred_by command
transferred None = 0

-- how many blocks a call reads or writes
abbrev pub blocks_of : Geometry → Action → ℕ
blocks_of g (Read lba count) = count
blocks_of g (Write lba bytes) = length bytes / g.block
blocks_of g (Fill lba count byte) = count
blocks_of g (Raw cdb bytes) = transferred (decoded cdb)
blocks_of g (Lose target) = 0
blocks_of g (Reset target) = 0
blocks_of g (DropNext target) = 0
blocks_of g (Replace target) = 0
blocks_of g (Rebuild target) = 0
blocks_of g Resync = 0

-- the same of all calls, of each no more than there are blocks
abbrev pub all_blocks : Geometry → List Call → ℕ
all_blocks g calls = sum_by (λ call. min (blocks_of g call.action) (capacity_of g)) calls

-- the bytes of all the targets together
abbrev pub media_of : Geometry → ℕ
media_of g = g.targets * rows_of g * g.block

-- a call goes over all stripes
abbrev pub is_pass : Action → Bool
is_pass (Read lba count) = false
is_pass (Write lba bytes) = false
is_pass (Fill lba count byte) = false
is_pass (Raw cdb bytes) = false
is_pass (Lose target) = false
is_pass (Reset target) = false
is_pass (DropNext target) = false
is_pass (Replace target) = false
is_pass (Rebuild target) = true
is_pass Resync = true

abbrev pub passes_of : List Call → ℕ
passes_of calls = count_by (λ call. is_pass call.action) calls

-- the first limit that is passed
abbrev pub limit_of : Script → Option Limit
limit_of s =
    if nat_lt 10000 (length s.calls) then Some Calls
    else if nat_lt 100000 (all_blocks s.geometry s.calls) then Some Blocks
    else if nat_lt 16777216 (all_blocks s.geometry s.calls * s.geometry.block) then Some Moved
    else if nat_lt 16777216 (media_of s.geometry) then Some Media
    else if nat_lt 16 (passes_of s.calls) then Some Passes
    else None
