use Rattle.text_fields.proofs.HexLaws.{hex-none, hex-found, hex-is_some}
use Rattle.text_fields.proofs.hexadecimal.hex_bytes.Goals as goal

pub returns-then-not-is_hex-clause-value : goal.returns-then-not-is_hex-clause-value
returns-then-not-is_hex-clause-value c = hex-none _ _ c.is_hex.ensures c.if-not-is_hex.true

pub returns-in-Ok-clause-value : goal.returns-in-Ok-clause-value
returns-in-Ok-clause-value c = hex-found _ _ _ _ c.is_hex.ensures c.if-not-is_hex.false c.in-Ok.ensures.ok c.from_vec.ensures

pub returns-in-Err-clause-memory : goal.returns-in-Err-clause-memory
returns-in-Err-clause-memory c = hex-is_some _ _ c.is_hex.ensures c.if-not-is_hex.false
