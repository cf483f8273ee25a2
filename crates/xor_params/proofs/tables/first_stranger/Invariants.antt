-- no source before this one is a stranger
use Rattle.std.proofs.Common.{◌≡◌, map, drop}
use Rattle.xor_params.specs.Contents.{source_in, first_stranger}
use Rattle.xor_params.proofs.tables.first_stranger.Given as goal

abbrev pub invariant-loop-k : goal.invariant-loop-k
invariant-loop-k l = first_stranger 0 l.targets l.number (map source_in l.table) ≡ first_stranger l.k l.targets l.number (map source_in (drop l.k l.table))
