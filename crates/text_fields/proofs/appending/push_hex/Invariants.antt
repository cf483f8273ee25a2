use Rattle.std.proofs.Common.{◌≡◌, ◌++◌, drop}
use Rattle.std.specs.Io.{StartsWith}
use Rattle.text_fields.specs.Spelling.{hex}
use Rattle.text_fields.proofs.appending.push_hex.Given as goal

abbrev pub invariant-loop-byte : goal.invariant-loop-byte
invariant-loop-byte l = record {
  rest : l.text ++ hex (drop l.byte-index l.bytes) ≡ l.initial.text ++ hex l.bytes;
  front : StartsWith l.text l.initial.text;
}
