use Rattle.cdb_fields.proofs.Bits.{with_bits_read, with_bits_others}
use Rattle.cdb_fields.proofs.bit_fields.bits_law.Goals as goal

pub returns-clause-read : goal.returns-clause-read
returns-clause-read c = with_bits_read

pub returns-clause-others : goal.returns-clause-others
returns-clause-others c = with_bits_others
