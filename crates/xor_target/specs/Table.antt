-- What a target says to an order before it does anything: the rows of one table, in the order in which they are tested.
use Rattle.std.specs.Prelude.{◌==◌, ◌&&◌, ◌||◌, ◌-◌, ◌*◌, nat_lt, ℕ, Bool, true, false, List, [], ◌∷◌, Option, Some, None, option_map, is_none, is_some}
use Rattle.std.specs.Bool.{then_some}
use Rattle.sense_data.specs.declared.senses.Sense.{Sense}
use Rattle.sense_data.specs.Illegal.{illegal, in_cdb}
use Rattle.sbc_cdbs.specs.declared.commands.Command.{Command}
use Rattle.sbc_cdbs.specs.declared.commands.Command.TheVariants.{Read, Write, XdWrite, XpWrite, XdRead, XdWriteRead, ModeSelect, ModeSense, XdWriteExtended, Rebuild, Regenerate}
use Rattle.sbc_cdbs.specs.Kinds.{block_count, is_kept}
use Rattle.xor_buffers.specs.Held.{overlap_of, holder_of, held_blocks}
use Rattle.array_journal.specs.declared.at.At.{At}
use Rattle.array_journal.specs.Lives.{loss_of, life_of}
use Rattle.array_journal.specs.Owners.{shut_at, discarded_at}
use Rattle.xor_target.specs.declared.order.Order.{Order}
use Rattle.xor_target.specs.declared.answer.Answer.{Answer}
use Rattle.xor_target.specs.declared.answer.Answer.TheVariants.{Good, Check, Gone, Shut}
use Rattle.xor_target.specs.Admission.{refusal_of, command_in, row_of, count_of}
use Rattle.xor_target.specs.Waits.{overlaps_aside, aside_blocks}
use Rattle.xor_target.specs.State.{TargetState, limits_of}

-- the first answer there is
abbrev pub first_answer : List (Option Answer) → Option Answer
first_answer [] = None
first_answer (Some answer ∷ rows) = Some answer
first_answer (None ∷ rows) = first_answer rows

-- a command that takes blocks out of the buffer
abbrev pub is_take : Command → Bool
is_take (XdRead lba count) = true
is_take (Read dpo fua lba count) = false
is_take (Write dpo fua lba count) = false
is_take (XdWrite dpo fua disable lba count) = false
is_take (XpWrite dpo fua lba count) = false
is_take (XdWriteRead dpo fua disable lba count) = false
is_take (ModeSelect pf sp list) = false
is_take (ModeSense dbd pc page allocation) = false
is_take (XdWriteExtended dpo fua disable lba second count address) = false
is_take (Rebuild dpo fua intdata lba count list) = false
is_take (Regenerate dpo fua intdata lba count list) = false

-- there is a number of blocks, and it is zero
abbrev pub is_no_blocks : Option ℕ → Bool
is_no_blocks None = false
is_no_blocks (Some count) = count == 0

-- the newest entry that discarded blocks of an owner
abbrev pub loss_for : TargetState → ℕ → Option At
loss_for t owner = discarded_at t.number owner t.past

-- CHECK CONDITION; nothing was made
abbrev pub check : TargetState → Order → Sense → Answer
check t order sense = Check sense [] (loss_for t order.owner)

-- the CDB, or the data that came with it, is refused whatever the target's state
abbrev pub refused_row : TargetState → Order → Option Answer
refused_row t order = option_map (check t order) (refusal_of (limits_of t) t.page order.cdb order.bytes)

-- the owner was shut here
abbrev pub shut_row : TargetState → ℕ → Option Answer
shut_row t owner = option_map Shut (shut_at t.number owner t.past)

-- the disk was lost, and no fresh one came
abbrev pub gone_row : TargetState → ℕ → Option Answer
gone_row t owner = option_map (λ at. Gone at (life_of t.number t.past) (loss_for t owner)) (loss_of t.number t.past)

-- A command of no blocks is good, and nothing is done. The MODE commands have no number of blocks, and do their work behind
-- this row.
abbrev pub idle_row : Command → Option Answer
idle_row command = then_some (is_no_blocks (block_count command)) (Good [] [])

-- a command that would hold rows of which one is held or set aside: COMMAND SEQUENCE ERROR
abbrev pub overlap_row : TargetState → Order → Command → Option Answer
overlap_row t order command =
    then_some
    (is_kept command && (is_some (overlap_of t.block (row_of command) (count_of command) t.held) || overlaps_aside (row_of command) (count_of command) t.waiting))
    (check t order (illegal 0x2c 0 None))

-- a command that would hold more blocks than there is room for that isn't set aside: SYSTEM BUFFER FULL
abbrev pub room_row : TargetState → Order → Command → Option Answer
room_row t order command =
    then_some (is_kept command && nat_lt (t.buffer - held_blocks t.block t.held - aside_blocks t.waiting) (count_of command)) (check t order (illegal 0x55 1 None))

-- an XDREAD of rows that no one held piece contains: INVALID FIELD IN CDB, at the LBA
abbrev pub unheld_row : TargetState → Order → Command → Option Answer
unheld_row t order command =
    then_some (is_take command && is_none (holder_of t.block (row_of command) (count_of command * t.block) t.held)) (check t order (illegal 0x24 0 (Some (in_cdb 2))))

-- What a target says to an order before it does anything; nothing where it then does what the command says.
abbrev pub early_answer : TargetState → Order → Option Answer
early_answer t order =
    first_answer
    (refused_row t order
    ∷ shut_row t order.owner
    ∷ gone_row t order.owner
    ∷ idle_row (command_in order.cdb)
    ∷ overlap_row t order (command_in order.cdb)
    ∷ room_row t order (command_in order.cdb)
    ∷ unheld_row t order (command_in order.cdb)
    ∷ [])
