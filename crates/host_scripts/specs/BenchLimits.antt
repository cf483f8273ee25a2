-- What a bench may have only so much of, and the first of these that it has too much of.
use Rattle.std.specs.Prelude.{ℕ, ◌+◌, ◌*◌, nat_lt, if◌then◌else◌, List, length, get_or, min, Option, Some, None}
use Rattle.std.specs.List.{sum_by}
use Rattle.sbc_cdbs.specs.Kinds.{block_count}
use Rattle.sbc_cdbs.specs.Reading.{decoded}
use Rattle.sbc_cdbs.specs.declared.commands.Command.{Command}
use Rattle.sbc_cdbs.specs.declared.commands.Command.TheVariants as commands
use Rattle.host_scripts.specs.declared.bench.Bench.{Bench}
use Rattle.host_scripts.specs.declared.bench.BenchLine.{BenchLine}
use Rattle.host_scripts.specs.declared.bench.BenchAction.{BenchAction}
use Rattle.host_scripts.specs.declared.bench.BenchAction.TheVariants.{Raw, Lose, Reset, DropNext, Fresh}
use Rattle.host_scripts.specs.declared.script.Limit.{Limit}
use Rattle.host_scripts.specs.declared.script.Limit.TheVariants.{Calls, Moved, Media}

-- how many sources a command has by the first byte of its data, whether or not the list is one; without data it has none
abbrev pub sources_of : Command → List ℕ → ℕ
sources_of (commands.Read dpo fua lba count) bytes = 0
sources_of (commands.Write dpo fua lba count) bytes = 0
sources_of (commands.XdWrite dpo fua disable lba count) bytes = 0
sources_of (commands.XpWrite dpo fua lba count) bytes = 0
sources_of (commands.XdRead lba count) bytes = 0
sources_of (commands.XdWriteRead dpo fua disable lba count) bytes = 0
sources_of (commands.ModeSelect pf sp list) bytes = 0
sources_of (commands.ModeSense dbd pc page allocation) bytes = 0
sources_of (commands.XdWriteExtended dpo fua disable lba second count address) bytes = 0
sources_of (commands.Rebuild dpo fua intdata lba count list) bytes = get_or bytes 0 0
sources_of (commands.Regenerate dpo fua intdata lba count list) bytes = get_or bytes 0 0

-- the blocks of a command with this length, of no more than a medium has, and as many of each source
abbrev pub blocks_moved : ℕ → Option ℕ → ℕ → ℕ
blocks_moved rows (Some count) sources = min count rows * (1 + sources)
blocks_moved rows None sources = 0

-- the blocks that a CDB moves, where it decodes to a command
abbrev pub moved_by_cdb : ℕ → Option Command → List ℕ → ℕ
moved_by_cdb rows (Some command) bytes = blocks_moved rows (block_count command) (sources_of command bytes)
moved_by_cdb rows None bytes = 0

-- the blocks that a line moves
abbrev pub moved_by_action : ℕ → BenchAction → ℕ
moved_by_action rows (Raw cdb bytes) = moved_by_cdb rows (decoded cdb) bytes
moved_by_action rows Lose = 0
moved_by_action rows Reset = 0
moved_by_action rows DropNext = 0
moved_by_action rows Fresh = 0

-- those of all lines
abbrev pub blocks_moved_by : ℕ → List BenchLine → ℕ
blocks_moved_by rows lines = sum_by (λ l. moved_by_action rows l.action) lines

-- the bytes of all the targets together
abbrev pub bench_media : Bench → ℕ
bench_media b = b.targets * b.rows * b.block

-- the first limit that is passed
abbrev pub bench_limit_of : Bench → Option Limit
bench_limit_of b =
    if nat_lt 10000 (length b.lines) then Some Calls
    else if nat_lt 67108864 (blocks_moved_by b.rows b.lines * b.block) then Some Moved
    else if nat_lt 16777216 (bench_media b) then Some Media
    else None
