-- The acts of commands: which command acts at which target, how, and by which CDB (SBC, the XOR commands).
use Rattle.std.specs.Prelude.{◌==◌, ◌&&◌, ◌||◌, nat_lt, not, ℕ, ◌+◌, ◌*◌, Bool, true, false, List, filter, if◌then◌else◌}
use Rattle.stripe_layout.specs.declared.mode.Mode.{Mode}
use Rattle.stripe_layout.specs.declared.mode.Mode.TheVariants.{Supervised, ThirdParty, Readback}
use Rattle.stripe_layout.specs.Modes.{takes_delta, target_gathers}
use Rattle.sbc_cdbs.specs.declared.commands.Command.{Command}
use Rattle.sbc_cdbs.specs.declared.commands.Command.TheVariants as sbc
use Rattle.array_journal.specs.declared.act.Act.{Act}
use Rattle.array_journal.specs.declared.act.Act.TheVariants.{Fetches, Puts, Diffs, Takes, Folds, Holds}
use Rattle.array_journal.specs.declared.event.Event.{Event}
use Rattle.array_journal.specs.declared.event.Event.TheVariants.{Fetch, Put, Diff, Take, Fold, Hold, Shut}
use Rattle.array_journal.specs.declared.setting.Setting.{Setting}
use Rattle.array_journal.specs.declared.task.Kind.{Kind}
use Rattle.array_journal.specs.declared.task.Kind.TheVariants.{Read, Update, DataOnly, DegradedRead, DegradedWrite, Rebuild, Resync}
use Rattle.array_journal.specs.declared.task.Task.{Task}
use Rattle.array_journal.specs.Lists.{numbers}

-- the target that gathers for a degraded read, where a target does: the least one but the missing one
abbrev pub gatherer : Task → ℕ
gatherer task = if task.target == 0 then 1 else 0

-- Whether a command of this kind makes this act at a target i of an array of this mode. An update's delta is taken
-- only where the mode has it held. Where targets gather, a degraded read gathers at one of them, which holds what is
-- then taken from it.
abbrev pub acts_at : Mode → Act → Kind → Task → ℕ → Bool
acts_at mode Fetches Read task i = i == task.target
acts_at mode Fetches DegradedRead task i = not (i == task.target) && not (target_gathers mode && (i == gatherer task))
acts_at mode Fetches DegradedWrite task i = not (i == task.target) && not (i == task.parity)
acts_at mode Fetches Rebuild task i = not (i == task.target)
acts_at mode Fetches Resync task i = not (i == task.parity)
acts_at mode Fetches Update task i = false
acts_at mode Fetches DataOnly task i = false
acts_at mode Puts DataOnly task i = i == task.target
acts_at mode Puts DegradedWrite task i = i == task.parity
acts_at mode Puts Resync task i = i == task.parity
acts_at mode Puts Rebuild task i = i == task.target
acts_at mode Puts Read task i = false
acts_at mode Puts Update task i = false
acts_at mode Puts DegradedRead task i = false
acts_at mode Diffs Update task i = i == task.target
acts_at mode Diffs Read task i = false
acts_at mode Diffs DataOnly task i = false
acts_at mode Diffs DegradedRead task i = false
acts_at mode Diffs DegradedWrite task i = false
acts_at mode Diffs Rebuild task i = false
acts_at mode Diffs Resync task i = false
acts_at mode Takes Update task i = takes_delta mode && (i == task.target)
acts_at mode Takes DegradedRead task i = target_gathers mode && (i == gatherer task)
acts_at mode Takes Read task i = false
acts_at mode Takes DataOnly task i = false
acts_at mode Takes DegradedWrite task i = false
acts_at mode Takes Rebuild task i = false
acts_at mode Takes Resync task i = false
acts_at mode Folds Update task i = i == task.parity
acts_at mode Folds Read task i = false
acts_at mode Folds DataOnly task i = false
acts_at mode Folds DegradedRead task i = false
acts_at mode Folds DegradedWrite task i = false
acts_at mode Folds Rebuild task i = false
acts_at mode Folds Resync task i = false
acts_at mode Holds DegradedRead task i = target_gathers mode && (i == gatherer task)
acts_at mode Holds Read task i = false
acts_at mode Holds Update task i = false
acts_at mode Holds DataOnly task i = false
acts_at mode Holds DegradedWrite task i = false
acts_at mode Holds Rebuild task i = false
acts_at mode Holds Resync task i = false

-- a command with this task makes this act at target i
abbrev pub has_act : Setting → Act → Task → ℕ → Bool
has_act s act task i = nat_lt i s.geometry.targets && acts_at s.mode act task.kind task i

-- a command with this task acts at target i
abbrev pub is_target : Setting → Task → ℕ → Bool
is_target s task i =
    has_act s Fetches task i || has_act s Puts task i || has_act s Diffs task i
    || has_act s Takes task i || has_act s Folds task i || has_act s Holds task i

-- the targets of the array that pass, rising
abbrev pub targets_that : Setting → (ℕ → Bool) → List ℕ
targets_that s test = filter test (numbers 0 s.geometry.targets)

-- the bytes of a command's blocks
abbrev pub task_bytes : Setting → Task → ℕ
task_bytes s task = task.count * s.geometry.block

abbrev pub is_degraded_write : Kind → Bool
is_degraded_write DegradedWrite = true
is_degraded_write _ = false

abbrev pub is_data_only : Kind → Bool
is_data_only DataOnly = true
is_data_only _ = false

-- the length of a list of so many sources: its head, a descriptor each, and the new blocks of a degraded write
abbrev pub list_length : Setting → Task → ℕ → ℕ
list_length s task sources = 4 + 16 * sources + (if is_degraded_write task.kind then task_bytes s task else 0)

-- the command that writes the blocks of an update and makes its delta
abbrev pub diff_command : Mode → Task → Command
diff_command Supervised task = sbc.XdWrite false false false task.row task.count
diff_command ThirdParty task = sbc.XdWriteExtended false false false task.row task.row task.count task.parity
diff_command Readback task = sbc.XdWriteRead false false false task.row task.count

-- the CDB of an act that rests on so many fetches, with DPO and FUA zero
abbrev pub cdb_of : Setting → Task → ℕ → Act → Command
cdb_of s task sources Fetches = sbc.Read false false task.row task.count
cdb_of s task sources Puts =
    if target_gathers s.mode && not (is_data_only task.kind)
    then sbc.Rebuild false false (is_degraded_write task.kind) task.row task.count (list_length s task sources)
    else sbc.Write false false task.row task.count
cdb_of s task sources Diffs = diff_command s.mode task
cdb_of s task sources Takes = sbc.XdRead task.row task.count
cdb_of s task sources Folds = sbc.XpWrite false false task.row task.count
cdb_of s task sources Holds = sbc.Regenerate false false false task.row task.count (list_length s task sources)

-- the event is this act of command c
abbrev pub is_act : Act → ℕ → Event → Bool
is_act Fetches c (Fetch command opened cdb row bytes) = command == c
is_act Puts c (Put command opened cdb row bytes names) = command == c
is_act Diffs c (Diff command opened cdb row bytes sent dropped back) = command == c
is_act Takes c (Take command opened cdb row bytes) = command == c
is_act Folds c (Fold command opened cdb row bytes names) = command == c
is_act Holds c (Hold command opened cdb row bytes kept names back) = command == c
is_act _ c _ = false

-- the event shuts command c at a target
abbrev pub shuts_command : ℕ → Event → Bool
shuts_command c (Shut command opened acted lost) = command == c
shuts_command c _ = false

-- the event is an act of command c that changes a medium
abbrev pub changes_medium : ℕ → Event → Bool
changes_medium c e = is_act Puts c e || is_act Diffs c e || is_act Folds c e
