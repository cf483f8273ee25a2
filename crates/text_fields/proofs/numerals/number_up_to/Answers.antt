use Rattle.std.proofs.Common.{arith}
use Rattle.text_fields.proofs.NumeralLaws.{number-none, number-within, number-past}
use Rattle.text_fields.proofs.numerals.number_up_to.Goals as goal

pub returns-in_err-number-clause-value : goal.returns-in_err-number-clause-value
returns-in_err-number-clause-value c = rw c.from_residual.ensures (number-none 18446744073709551616 c.args.most c.args.text.now c.in_err-number.ensures)

pub returns-then-number-from-clause-value : goal.returns-then-number-from-clause-value
returns-then-number-from-clause-value c =
    number-within 18446744073709551616 c.args.most c.args.text.now c.in_ok-number.number c.in_ok-number.ensures (omega arith) (omega arith)

pub returns-else-number-from-clause-value : goal.returns-else-number-from-clause-value
returns-else-number-from-clause-value c =
    number-past 18446744073709551616 c.args.most c.args.text.now c.in_ok-number.number c.in_ok-number.ensures (omega arith) (omega arith)
