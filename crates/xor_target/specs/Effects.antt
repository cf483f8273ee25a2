-- What each command does at a target: what it writes, what the buffer then holds, what it answers, and the event of its
-- entry (SBC, the XOR commands). The old bytes are the medium's rows before it.
use Rattle.std.specs.Prelude.{◌*◌, ◌-◌, ℕ, Bool, true, false, List, [], ◌∷◌, ◌++◌, Option, Some, None, option_map, if◌then◌else◌}
use Rattle.std.specs.Option.{unwrap_or}
use Rattle.blocks_core.specs.Lists.{slice, put}
use Rattle.blocks_core.specs.Xor.{xor}
use Rattle.sbc_cdbs.specs.declared.descriptor.Cdb.{Cdb}
use Rattle.sbc_cdbs.specs.declared.commands.Command.{Command}
use Rattle.sbc_cdbs.specs.declared.commands.Command.TheVariants.{Read, Write, XdWrite, XpWrite, XdRead, XdWriteRead, ModeSelect, ModeSense, XdWriteExtended, Rebuild, Regenerate}
use Rattle.xor_buffers.specs.declared.held.HeldBlocks.{HeldBlocks}
use Rattle.xor_buffers.specs.Held.{holds_rows, take_rows}
use Rattle.array_journal.specs.declared.event.Event.{Event}
use Rattle.array_journal.specs.declared.event.Event.TheVariants.{Fetch, Put, Diff, Take, Fold, Hold}
use Rattle.xor_target.specs.declared.order.Order.{Order}

-- what a command does: the event of its entry, the bytes that it writes over its rows, if it writes, what is held
-- afterwards, and the bytes that it answers
pub record Effect : Type 0 where
  pub event : Event
  pub written : Option (List ℕ)
  pub held : List HeldBlocks
  pub answer : List ℕ

-- the rows as they stand in the first held blocks that contain them, whoever's these are
abbrev pub rows_taken : ℕ → ℕ → ℕ → List HeldBlocks → Option (List ℕ)
rows_taken block row len [] = None
rows_taken block row len (h ∷ hs) = if holds_rows block row len h then Some (slice h.bytes ((row - h.row) * block) len) else rows_taken block row len hs

-- the same, and no bytes where no held blocks contain them
abbrev pub bytes_taken : ℕ → ℕ → ℕ → List HeldBlocks → List ℕ
bytes_taken block row len hs = unwrap_or (rows_taken block row len hs) []

-- what is held, and behind it blocks of an owner from a row on
abbrev pub holding : List HeldBlocks → Order → ℕ → List ℕ → List HeldBlocks
holding held order row bytes = held ++ record { owner = order.owner; row = row; bytes = bytes } ∷ []

-- READ answers the rows
abbrev pub read_effect : Order → Cdb → List HeldBlocks → List ℕ → ℕ → Effect
read_effect order cdb held old lba = record {
  event = Fetch order.owner order.opened cdb lba old;
  written = None;
  held = held;
  answer = old;
}

-- WRITE writes the data sent, and REBUILD what was gathered
abbrev pub write_effect : Order → Cdb → List HeldBlocks → ℕ → Effect
write_effect order cdb held lba = record {
  event = Put order.owner order.opened cdb lba order.bytes order.names;
  written = Some order.bytes;
  held = held;
  answer = [];
}

-- XDWRITE writes the data sent, and holds the old data exclusive-or them
abbrev pub xdwrite_effect : Order → Cdb → List HeldBlocks → List ℕ → ℕ → Effect
xdwrite_effect order cdb held old lba = record {
  event = Diff order.owner order.opened cdb lba order.bytes false false false;
  written = Some order.bytes;
  held = holding held order lba (xor old order.bytes);
  answer = [];
}

-- with DISABLE WRITE it holds the same, and writes nothing; REGENERATE holds the old data exclusive-or what was gathered
abbrev pub xdwrite_disabled_effect : Order → Cdb → List HeldBlocks → List ℕ → ℕ → Effect
xdwrite_disabled_effect order cdb held old lba = record {
  event = Hold order.owner order.opened cdb lba (xor old order.bytes) true order.names false;
  written = None;
  held = holding held order lba (xor old order.bytes);
  answer = [];
}

-- XDWRITEREAD writes the data sent, answers the old data exclusive-or them, and holds nothing
abbrev pub xdwriteread_effect : Order → Cdb → List HeldBlocks → List ℕ → ℕ → Effect
xdwriteread_effect order cdb held old lba = record {
  event = Diff order.owner order.opened cdb lba order.bytes false false true;
  written = Some order.bytes;
  held = held;
  answer = xor old order.bytes;
}

-- with DISABLE WRITE it answers the same, and writes nothing
abbrev pub xdwriteread_disabled_effect : Order → Cdb → List HeldBlocks → List ℕ → ℕ → Effect
xdwriteread_disabled_effect order cdb held old lba = record {
  event = Hold order.owner order.opened cdb lba (xor old order.bytes) false order.names true;
  written = None;
  held = held;
  answer = xor old order.bytes;
}

-- XDWRITE EXTENDED writes the data sent; the old data exclusive-or them go to the secondary target, unless they are dropped
abbrev pub xdwrite_extended_effect : Order → Cdb → List HeldBlocks → List ℕ → Bool → ℕ → Effect
xdwrite_extended_effect order cdb held old dropped lba = record {
  event = Diff order.owner order.opened cdb lba order.bytes true dropped false;
  written = Some order.bytes;
  held = held;
  answer = xor old order.bytes;
}

-- with DISABLE WRITE the same go there, and nothing is written
abbrev pub xdwrite_extended_disabled_effect : Order → Cdb → List HeldBlocks → List ℕ → ℕ → Effect
xdwrite_extended_disabled_effect order cdb held old lba = record {
  event = Hold order.owner order.opened cdb lba (xor old order.bytes) false order.names false;
  written = None;
  held = held;
  answer = xor old order.bytes;
}

-- XPWRITE writes the old data exclusive-or the data sent
abbrev pub xpwrite_effect : Order → Cdb → List HeldBlocks → List ℕ → ℕ → Effect
xpwrite_effect order cdb held old lba = record {
  event = Fold order.owner order.opened cdb lba order.bytes order.names;
  written = Some (xor old order.bytes);
  held = held;
  answer = [];
}

-- XDREAD answers held rows, and holds them no longer
abbrev pub xdread_effect : ℕ → Order → Cdb → List HeldBlocks → ℕ → ℕ → Effect
xdread_effect block order cdb held lba len = record {
  event = Take order.owner order.opened cdb lba (bytes_taken block lba len held);
  written = None;
  held = take_rows block lba len held;
  answer = bytes_taken block lba len held;
}

-- What a command does with its blocks, where a request of it would be dropped or not; the order of a REBUILD or
-- REGENERATE has by then what was gathered. The MODE commands have no blocks.
abbrev pub effect_of : ℕ → Order → Cdb → List HeldBlocks → List ℕ → Bool → Command → Option Effect
effect_of block order cdb held old dropped (Read dpo fua lba count) = Some (read_effect order cdb held old lba)
effect_of block order cdb held old dropped (Write dpo fua lba count) = Some (write_effect order cdb held lba)
effect_of block order cdb held old dropped (XdWrite dpo fua false lba count) = Some (xdwrite_effect order cdb held old lba)
effect_of block order cdb held old dropped (XdWrite dpo fua true lba count) = Some (xdwrite_disabled_effect order cdb held old lba)
effect_of block order cdb held old dropped (XdWriteRead dpo fua false lba count) = Some (xdwriteread_effect order cdb held old lba)
effect_of block order cdb held old dropped (XdWriteRead dpo fua true lba count) = Some (xdwriteread_disabled_effect order cdb held old lba)
effect_of block order cdb held old dropped (XpWrite dpo fua lba count) = Some (xpwrite_effect order cdb held old lba)
effect_of block order cdb held old dropped (XdRead lba count) =
    Some (xdread_effect block order cdb held lba (count * block))
effect_of block order cdb held old dropped (ModeSelect pf sp list) = None
effect_of block order cdb held old dropped (ModeSense dbd pc page allocation) = None
effect_of block order cdb held old dropped (XdWriteExtended dpo fua false lba second count address) =
    Some (xdwrite_extended_effect order cdb held old dropped lba)
effect_of block order cdb held old dropped (XdWriteExtended dpo fua true lba second count address) =
    Some (xdwrite_extended_disabled_effect order cdb held old lba)
effect_of block order cdb held old dropped (Rebuild dpo fua intdata lba count list) = Some (write_effect order cdb held lba)
effect_of block order cdb held old dropped (Regenerate dpo fua intdata lba count list) =
    Some (xdwrite_disabled_effect order cdb held old lba)

-- how many bytes a command answers, or sends to another target: its blocks, where it answers any
abbrev pub bytes_back : ℕ → Command → ℕ
bytes_back block (Read dpo fua lba count) = count * block
bytes_back block (Write dpo fua lba count) = 0
bytes_back block (XdWrite dpo fua disable lba count) = 0
bytes_back block (XpWrite dpo fua lba count) = 0
bytes_back block (XdRead lba count) = count * block
bytes_back block (XdWriteRead dpo fua disable lba count) = count * block
bytes_back block (ModeSelect pf sp list) = 0
bytes_back block (ModeSense dbd pc page allocation) = 0
bytes_back block (XdWriteExtended dpo fua disable lba second count address) = count * block
bytes_back block (Rebuild dpo fua intdata lba count list) = 0
bytes_back block (Regenerate dpo fua intdata lba count list) = 0

-- a medium's bytes, where they are told, with what an effect writes from a row on
abbrev pub rewritten : ℕ → ℕ → Option (List ℕ) → Option (List ℕ) → Option (List ℕ)
rewritten block row None contents = contents
rewritten block row (Some blocks) contents = option_map (λ told. put told (row * block) blocks) contents
