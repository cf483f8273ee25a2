use Rattle.std.proofs.Common.{arith}
use Rattle.text_fields.proofs.NumeralLaws.{capped-none, capped-lower}
use Rattle.text_fields.proofs.numerals.capped_number.Goals as goal

pub returns-in_err-number : goal.returns-in_err-number
returns-in_err-number c = rw c.from_residual.ensures (capped-none 18446744073709551616 c.args.cap c.args.text.now c.in_err-number.ensures)

pub returns : goal.returns
returns c =
    rw (c.min.ensures, c.from.ensures) (capped-lower 18446744073709551616 c.args.cap c.args.text.now c.in_ok-number.number (omega arith) c.in_ok-number.ensures)
