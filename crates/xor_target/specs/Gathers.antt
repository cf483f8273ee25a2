-- What REBUILD and REGENERATE gather from other targets (SBC).
use Rattle.std.specs.Prelude.{◌≡◌, ◌<◌, ◌≤◌, ◌+◌, ◌*◌, ◌^◌, ℕ, false, List, [], ◌++◌, length, Option, Some, None}
use Rattle.blocks_core.specs.Xor.{xor}
use Rattle.sbc_cdbs.specs.Cdbs.{cdb_bytes, spelling}
use Rattle.sbc_cdbs.specs.declared.commands.Command.{Command}
use Rattle.sbc_cdbs.specs.declared.commands.Command.TheVariants as sbc
use Rattle.array_journal.specs.declared.at.At.{At}
use Rattle.xor_params.specs.declared.sources.Descriptor.{Descriptor}
use Rattle.xor_params.specs.Contents.{sources_in, intermediate_in}
use Rattle.regen_rebuild.specs.Gatherings.{Gathering, Awaits, accepted_one, fresh}
use Rattle.xor_target.specs.declared.admission.Admitted.{Admitted}
use Rattle.xor_target.specs.declared.order.Order.{Order}
use Rattle.xor_target.specs.declared.order.PeerRequest.{PeerRequest}
use Rattle.xor_target.specs.Admission.{row_of, count_of}

-- A gathering: its order, with the intermediate data in place of the list; the order's command and CDB; the sources, how many
-- of them have answered, and the exclusive-or of their blocks.
pub record GatheringState : Type 0 where
  pub order : Order
  pub admitted : Admitted
  pub sources : List Descriptor
  pub answered : ℕ
  pub gather : Gathering

-- those that haven't answered are awaited
pub record AwaitsRest (answered : ℕ) (sources : List Descriptor) (gather : Gathering) : Type 0 where
  pub few : length sources ≤ 255
  pub some : answered ≤ length sources
  pub rest : (k : ℕ) → answered ≤ k → k < length sources → Awaits gather k

-- the gathering of an order, before any source has answered
pub record IsFirst (block : ℕ) (order : Order) (command : Command) (g : GatheringState) : Type 0 where
  pub of_order : g.order ≡ record order { bytes = intermediate_in order.bytes }
  pub of_command : g.admitted.command ≡ command
  pub sent : cdb_bytes g.admitted.cdb ≡ order.cdb
  pub sources : g.sources ≡ sources_in order.bytes
  pub answered : g.answered ≡ 0
  pub gather : g.gather ≡ fresh block (count_of command) (length (sources_in order.bytes))

-- the same with the blocks of the source that was asked
abbrev pub accepted : GatheringState → List ℕ → GatheringState
accepted g bytes = record g { answered = g.answered + 1; gather = accepted_one g.gather g.answered bytes }

-- The order with what was gathered: the blocks of all sources, of which these are those of the last one, exclusive-or the
-- intermediate data. Its entry rests on those that the sources were read by, too.
abbrev pub done_order : GatheringState → List At → List ℕ → ℕ → Order
done_order g made last stamp = record g.order { names = g.order.names ++ made; stamp = stamp; bytes = xor (xor g.gather.sum last) g.order.bytes }

-- The request that a source's blocks be read: a READ of as many blocks as the command has.
abbrev pub read_request : ℕ → ℕ → GatheringState → Descriptor → PeerRequest
read_request number stamp g source = record {
  from = number;
  to = source.target;
  order = record {
    owner = g.order.owner;
    opened = g.order.opened;
    names = [];
    stamp = stamp;
    cdb = spelling (sbc.Read false false source.lba (count_of g.admitted.command));
    bytes = [];
  };
}

-- the command gathers blocks from other targets
abbrev pub IsGatherer : Command → Type 0
IsGatherer (sbc.Read dpo fua lba count) = ⊥
IsGatherer (sbc.Write dpo fua lba count) = ⊥
IsGatherer (sbc.XdWrite dpo fua disable lba count) = ⊥
IsGatherer (sbc.XpWrite dpo fua lba count) = ⊥
IsGatherer (sbc.XdRead lba count) = ⊥
IsGatherer (sbc.XdWriteRead dpo fua disable lba count) = ⊥
IsGatherer (sbc.ModeSelect pf sp list) = ⊥
IsGatherer (sbc.ModeSense dbd pc page allocation) = ⊥
IsGatherer (sbc.XdWriteExtended dpo fua disable lba second count address) = ⊥
IsGatherer (sbc.Rebuild dpo fua intdata lba count list) = Unit {0}
IsGatherer (sbc.Regenerate dpo fua intdata lba count list) = Unit {0}

-- A gathering under way at a target: it still asks a source, and its command can be done on the target's rows with as many
-- bytes as it will have.
pub record IsUnderWay (block rows : ℕ) (g : GatheringState) : Type 0 where
  pub gathers : IsGatherer g.admitted.command
  pub sent : cdb_bytes g.admitted.cdb ≡ g.order.cdb
  pub asks : g.answered < length g.sources
  pub some : 1 ≤ count_of g.admitted.command
  pub counted : count_of g.admitted.command ≤ 65535
  pub within : row_of g.admitted.command + count_of g.admitted.command ≤ rows
  pub fits : row_of g.admitted.command + count_of g.admitted.command ≤ 2 ^ 32
  pub block_size : g.gather.block ≡ block
  pub block_count : g.gather.count ≡ count_of g.admitted.command
  pub sized : length g.order.bytes ≤ count_of g.admitted.command * block
  pub summed : length g.gather.sum ≡ count_of g.admitted.command * block

-- of an owner that waits for its sources
abbrev pub IsUnderWayIf : ℕ → ℕ → ℕ → Option GatheringState → Type 0
IsUnderWayIf block rows owner None = Unit {0}
IsUnderWayIf block rows owner (Some g) = (g.order.owner ≡ owner) × IsUnderWay block rows g
