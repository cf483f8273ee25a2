-- the descriptors so far are read
use Rattle.std.proofs.Common.{◌≡◌, map, take}
use Rattle.xor_params.specs.Contents.{source_in}
use Rattle.xor_params.proofs.tables.sources_of.Given as goal

abbrev pub invariant-loop-descriptor : goal.invariant-loop-descriptor
invariant-loop-descriptor l = l.sources ≡ map source_in (take l.descriptor-index l.table)
