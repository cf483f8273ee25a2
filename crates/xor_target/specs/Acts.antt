-- What a disk and its log are while a command is at work there, and how it comes to a stop.
use Rattle.std.specs.Prelude.{◌≡◌, ◌≤◌, ◌<◌, ◌+◌, ◌-◌, ◌*◌, ◌^◌, nat_lt, ℕ, Bool, true, false, List, [], ◌∷◌, length, None, Some, IfSome, Result, Ok, Err}
use Rattle.blocks_core.specs.Lists.{slice}
use Rattle.sbc_cdbs.specs.Cdbs.{cdb_bytes}
use Rattle.sbc_cdbs.specs.declared.commands.Command.{Command}
use Rattle.sbc_cdbs.specs.declared.commands.Command.TheVariants.{Read, Write, XdWrite, XpWrite, XdRead, XdWriteRead, ModeSelect, ModeSense, XdWriteExtended, Rebuild, Regenerate}
use Rattle.sbc_cdbs.specs.Kinds.{is_kept}
use Rattle.xor_buffers.specs.Held.{owners_of, holder_of, overlap_of, held_blocks}
use Rattle.xor_mode_page.specs.declared.pages.XorPage.{XorPage}
use Rattle.array_journal.specs.declared.at.At.{At}
use Rattle.array_journal.specs.declared.entry.Entry.{Entry}
use Rattle.array_journal.specs.Lives.{life_of}
use Rattle.xor_target.specs.declared.act.BlockAct.{BlockAct}
use Rattle.xor_target.specs.declared.act.Prepared.{Prepared}
use Rattle.xor_target.specs.declared.act.ActStop.{ActStop}
use Rattle.xor_target.specs.declared.act.ActStop.TheVariants.{Memory, Failed}
use Rattle.xor_target.specs.declared.order.Order.{Order}
use Rattle.xor_target.specs.declared.answer.Answer.{Answer}
use Rattle.xor_target.specs.declared.answer.Answer.TheVariants.{Good, Check, Gone, Shut, Peer}
use Rattle.xor_target.specs.declared.answer.Answer.TheVariants as answers
use Rattle.xor_target.specs.declared.answer.GoneAt.{GoneAt}
use Rattle.xor_target.specs.Answers.{next_stamp, next_name, IsStruck}
use Rattle.xor_target.specs.Befalls.{IsFresh}
use Rattle.xor_target.specs.Disks.{DiskState, HasFailed}
use Rattle.xor_target.specs.declared.admission.Admitted.{Admitted}
use Rattle.xor_target.specs.Admission.{command_in, row_of, count_of, data_due, AsksForKept, HasSoundList}
use Rattle.xor_target.specs.declared.waiting.Waiting.{Waiting}
use Rattle.xor_params.specs.Contents.{HasRoom, intermediate_in}
use Rattle.regen_rebuild.specs.Gatherings.{size}
use Rattle.xor_target.specs.Gathers.{GatheringState, IsGatherer, IsUnderWay}
use Rattle.xor_target.specs.Waits.{waiting_of, without_gatherings}
use Rattle.xor_target.specs.State.{TargetState, state_of, limits_of}
use Rattle.xor_target.specs.Table.{is_take, early_answer}
use Rattle.xor_target.specs.Effects.{Effect, effect_of, rewritten}
use Rattle.xor_target.specs.Logs.{Logged, drops_next}

-- all that the entry of a command needs is there, or that of a loss
pub record IsPrepared (never_fails : Bool) (disk : DiskState) (log : Logged) (seen : ℕ) (ready : Prepared) : Type 0 where
  pub room : 1 ≤ log.room
  pub seats : 1 ≤ log.seats
  pub loss_seats : length ready.owners ≤ log.seats
  pub stamp : ready.stamp ≡ next_stamp log.past seen
  pub made : ready.made ≡ record { stamp = ready.stamp; lock = log.number + 1 } ∷ []
  pub owners : never_fails ≡ false → ready.owners ≡ owners_of disk.buffer.list

-- a command's act can be done: it is about some rows of the disk, its CDB is that of the order, and its entry has its stamp
-- and takes no memory
pub record IsAct (disk : DiskState) (log : Logged) (order : Order) (act : BlockAct) : Type 0 where
  pub sent : cdb_bytes act.cdb ≡ order.cdb
  pub some : 1 ≤ act.count
  pub within : act.row + act.count ≤ disk.rows
  pub fits : act.row + act.count ≤ 2 ^ 32
  pub stamp : act.stamp ≡ next_stamp log.past order.stamp
  pub room : 1 ≤ log.room
  pub seats : 1 ≤ log.seats

-- the disk but for the medium's bytes, its count of failures, and the slots of the buffer
pub record IsSteady (before now : DiskState) : Type 0 where
  pub same : now ≡ record before { contents = now.contents; faults = now.faults; buffer = record before.buffer { slots = now.buffer.slots } }

-- Want of memory leaves the disk as it was, but for the slots of the buffer, and the log; a failure of the medium leaves
-- what is held, and the log.
abbrev pub IsStopped : Bool → DiskState → Logged → DiskState → Logged → ActStop → Type 0
IsStopped never_fails disk log disk_after log_after Memory =
    (disk_after ≡ record disk { buffer = record disk.buffer { slots = disk_after.buffer.slots } }) × (log_after ≡ log)
IsStopped never_fails disk log disk_after log_after Failed =
    IsSteady disk disk_after × HasFailed never_fails disk.faults disk_after.faults × (log_after ≡ log)

-- A command was done by its effect, which goes by the bytes that stood on its rows: these are read, what it writes is put
-- over them, what it holds is held, and its entry is made. Nothing else is changed, but slots of the buffer.
pub record HasEffect (disk : DiskState) (log : Logged) (act : BlockAct) (effect_by : List ℕ → Effect) (bytes : List ℕ) (disk_after : DiskState) (log_after : Logged) : Type 0 where
  pub old : List ℕ
  pub stood : IfSome disk.contents (λ told. old ≡ slice told (act.row * disk.block) (act.count * disk.block))
  pub written : disk_after.contents ≡ rewritten disk.block act.row (effect_by old).written disk.contents
  pub answers : bytes ≡ (effect_by old).answer
  pub counted : disk.faults ≤ disk_after.faults
  pub kept : disk_after ≡ record disk {
    contents = disk_after.contents;
    faults = disk_after.faults;
    buffer = record disk.buffer { slots = disk_after.buffer.slots; list = (effect_by old).held };
  }
  pub logged : log_after.past ≡ record { stamp = act.stamp; lock = log.number + 1; event = (effect_by old).event } ∷ log.past
  pub number : log_after.number ≡ log.number

-- a command of blocks that is served
abbrev pub MovesBlocks : Command → Type 0
MovesBlocks (Read dpo fua lba count) = Unit {0}
MovesBlocks (Write dpo fua lba count) = Unit {0}
MovesBlocks (XdWrite dpo fua disable lba count) = Unit {0}
MovesBlocks (XpWrite dpo fua lba count) = Unit {0}
MovesBlocks (XdRead lba count) = Unit {0}
MovesBlocks (XdWriteRead dpo fua disable lba count) = Unit {0}
MovesBlocks (ModeSelect pf sp list) = ⊥
MovesBlocks (ModeSense dbd pc page allocation) = ⊥
MovesBlocks (XdWriteExtended dpo fua disable lba second count address) = Unit {0}
MovesBlocks (Rebuild dpo fua intdata lba count list) = Unit {0}
MovesBlocks (Regenerate dpo fua intdata lba count list) = Unit {0}

-- it comes with its own data, if it has any, and gathers none
abbrev pub BringsBlocks : Command → Type 0
BringsBlocks (Rebuild dpo fua intdata lba count list) = ⊥
BringsBlocks (Regenerate dpo fua intdata lba count list) = ⊥
BringsBlocks command = MovesBlocks command

-- how many bytes come with a command, or have been gathered for it
abbrev pub bytes_due : ℕ → Command → ℕ
bytes_due block (Read dpo fua lba count) = 0
bytes_due block (Write dpo fua lba count) = count * block
bytes_due block (XdWrite dpo fua disable lba count) = count * block
bytes_due block (XpWrite dpo fua lba count) = count * block
bytes_due block (XdRead lba count) = 0
bytes_due block (XdWriteRead dpo fua disable lba count) = count * block
bytes_due block (ModeSelect pf sp list) = list
bytes_due block (ModeSense dbd pc page allocation) = 0
bytes_due block (XdWriteExtended dpo fua disable lba second count address) = count * block
bytes_due block (Rebuild dpo fua intdata lba count list) = count * block
bytes_due block (Regenerate dpo fua intdata lba count list) = count * block

-- A command of blocks can be done on a disk: it has some blocks, within the rows, as much data came as is due, what it would
-- hold is free and finds room, and what it would take is held.
pub record IsPossible (disk : DiskState) (order : Order) (command : Command) : Type 0 where
  pub blocks : MovesBlocks command
  pub some : 1 ≤ count_of command
  pub within : row_of command + count_of command ≤ disk.rows
  pub fits : row_of command + count_of command ≤ 2 ^ 32
  pub due : length order.bytes ≡ bytes_due disk.block command
  pub free : is_kept command ≡ true → overlap_of disk.block (row_of command) (count_of command) disk.buffer.list ≡ None
  pub room : is_kept command ≡ true → nat_lt (disk.buffer.capacity - held_blocks disk.block disk.buffer.list) (count_of command) ≡ false
  pub held : is_take command ≡ true → holder_of disk.block (row_of command) (count_of command * disk.block) disk.buffer.list ≡ None → ⊥

-- an order with a sound list begins to gather what its command needs
pub record IsGatherable (disk : DiskState) (order : Order) (admitted : Admitted) : Type 0 where
  pub gathers : IsGatherer admitted.command
  pub sent : cdb_bytes admitted.cdb ≡ order.cdb
  pub list : HasRoom order.bytes
  pub some : 1 ≤ count_of admitted.command
  pub counted : count_of admitted.command ≤ 65535
  pub within : row_of admitted.command + count_of admitted.command ≤ disk.rows
  pub fits : row_of admitted.command + count_of admitted.command ≤ 2 ^ 32
  pub sized : length (intermediate_in order.bytes) ≤ count_of admitted.command * disk.block
  pub free : is_kept admitted.command ≡ true → overlap_of disk.block (row_of admitted.command) (count_of admitted.command) disk.buffer.list ≡ None
  pub room : is_kept admitted.command ≡ true → nat_lt (disk.buffer.capacity - held_blocks disk.block disk.buffer.list) (count_of admitted.command) ≡ false

-- an owner's command gathers, and so many bytes are those of the source that it asked
pub record IsGathering (disk : DiskState) (owner len : ℕ) (ws : List Waiting) : Type 0 where
  pub waiting : Waiting
  pub gathering : GatheringState
  pub waits : waiting_of owner ws ≡ Some waiting
  pub gathers : waiting.gathering ≡ Some gathering
  pub under_way : IsUnderWay disk.block disk.rows gathering
  pub own : gathering.order.owner ≡ owner
  pub size : len ≡ size gathering.gather
  pub free : is_kept gathering.admitted.command ≡ true → overlap_of disk.block (row_of gathering.admitted.command) (count_of gathering.admitted.command) disk.buffer.list ≡ None
  pub room : is_kept gathering.admitted.command ≡ true → nat_lt (disk.buffer.capacity - held_blocks disk.block disk.buffer.list) (count_of gathering.admitted.command) ≡ false

-- the act is on the rows of a command
pub record IsActOf (command : Command) (act : BlockAct) : Type 0 where
  pub row : act.row ≡ row_of command
  pub count : act.count ≡ count_of command

-- a command was done by its effect
pub record IsPerformed (disk : DiskState) (log : Logged) (order : Order) (command : Command) (act : BlockAct) (bytes : List ℕ) (disk_after : DiskState) (log_after : Logged) : Type 0 where
  pub effect_by : List ℕ → Effect
  pub does : (old : List ℕ) → effect_of disk.block order act.cdb disk.buffer.list old (drops_next log.number log.past) command ≡ Some (effect_by old)
  pub done : HasEffect disk log act effect_by bytes disk_after log_after

-- an order is to be done: nothing is said to it before, and its command is sound
pub record IsAdmitted (t : TargetState) (order : Order) (admitted : Admitted) : Type 0 where
  pub early : early_answer t order ≡ None
  pub command : admitted.command ≡ command_in order.cdb
  pub sent : cdb_bytes admitted.cdb ≡ order.cdb
  pub within : row_of admitted.command + count_of admitted.command ≤ t.rows
  pub fits : row_of admitted.command + count_of admitted.command ≤ 2 ^ 32
  pub due : length order.bytes ≡ data_due t.block admitted.command
  pub counted : count_of admitted.command ≤ 65535
  pub kept : AsksForKept admitted.command
  pub listed : HasSoundList (limits_of t) admitted.command order.bytes

-- a fresh disk came, or the medium failed at it; the mode page isn't the disk's
abbrev pub IsRenewedAs : Bool → ℕ → XorPage → XorPage → List Waiting → DiskState → Logged → ℕ → At → ℕ → DiskState → Logged → Result (List At) GoneAt → Type 0
IsRenewedAs never_fails targets first page waiting disk log call swap seen disk_after log_after (Ok made) =
    (made ≡ next_name (state_of targets first page waiting disk log) seen ∷ [])
    × IsFresh (state_of targets first page waiting disk log) call swap seen (state_of targets first first waiting disk_after log_after)
IsRenewedAs never_fails targets first page waiting disk log call swap seen disk_after log_after (Err gone) =
    (gone ≡ record { at = next_name (state_of targets first page waiting disk log) seen; life = life_of log.number log.past })
    × IsStruck never_fails (state_of targets first page waiting disk log) seen (state_of targets first page (without_gatherings waiting) disk_after log_after)

-- the same of a logical unit, which knows who waits
abbrev pub IsUnitRenewed : Bool → ℕ → XorPage → XorPage → List Waiting → DiskState → Logged → ℕ → At → ℕ → List Waiting → DiskState → Logged → Result (List At) GoneAt → Type 0
IsUnitRenewed never_fails targets first page waiting disk log call swap seen waiting_after disk_after log_after (Ok made) =
    (made ≡ next_name (state_of targets first page waiting disk log) seen ∷ [])
    × IsFresh (state_of targets first page waiting disk log) call swap seen (state_of targets first first waiting_after disk_after log_after)
IsUnitRenewed never_fails targets first page waiting disk log call swap seen waiting_after disk_after log_after (Err gone) =
    (gone ≡ record { at = next_name (state_of targets first page waiting disk log) seen; life = life_of log.number log.past })
    × IsStruck never_fails (state_of targets first page waiting disk log) seen (state_of targets first page waiting_after disk_after log_after)

-- who waits after an answer: none of those that gather, where the disk is answered to be lost
abbrev pub waiting_left : Answer → List Waiting → List Waiting
waiting_left (Gone at life loss) ws = without_gatherings ws
waiting_left (Good bytes made) ws = ws
waiting_left (Check sense made loss) ws = ws
waiting_left (Shut at) ws = ws
waiting_left (Peer request made) ws = ws
waiting_left answers.Memory ws = ws

-- where a disk is answered to be lost, a log has fewer entries than a count of failures can tell
abbrev pub IsFewWhereGone : List Entry → Answer → Type 0
IsFewWhereGone past (Gone at life loss) = length past < 2 ^ 63
IsFewWhereGone past answer = Unit {0}
