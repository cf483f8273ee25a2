use Rattle.std.proofs.Common.{◌≡◌, ◌++◌, drop}
use Rattle.std.specs.Io.{StartsWith}
use Rattle.std.specs.List.{flat_map}
use Rattle.xor_cli.specs.DecodeTexts.{source_text}
use Rattle.xor_cli.proofs.decoding.params.push_sources.Given as goal

abbrev pub invariant-loop-source : goal.invariant-loop-source
invariant-loop-source l = record {
  rest : l.text ++ flat_map source_text (drop l.source-index l.sources) ≡ l.initial.text ++ flat_map source_text l.sources;
  front : StartsWith l.text l.initial.text;
}
