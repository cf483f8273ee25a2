-- what is written and what the other sources will add are the whole
use Rattle.std.proofs.Common.{◌≡◌, ◌<◌, ◌^◌, ℕ, ◌++◌, drop, get_or}
use Rattle.std.specs.List.{flat_map}
use Rattle.xor_params.specs.declared.sources.Descriptor.{Descriptor}
use Rattle.xor_params.specs.ParameterLists.{descriptor}
use Rattle.xor_params.proofs.encoding.push_sources.Given as goal

abbrev pub invariant-loop-source : goal.invariant-loop-source
invariant-loop-source l = record {
  whole : l.bytes ++ flat_map descriptor (drop l.source-index l.sources) ≡ l.initial.bytes ++ flat_map descriptor l.sources;
  addresses : (k : ℕ) (d : Descriptor) → k < l.source-index → (get_or l.sources k d).lba < 2 ^ 32;
}
