use Rattle.std.proofs.Common.{rules, arith}
use Rattle.text_fields.proofs.NumeralLaws.{numeral-decimal}
use Rattle.host_scripts.proofs.printing.push_number.Goals as goal

pub returns : goal.returns
returns c = rw (numeral-decimal c.args.number (omega arith)) (search rules)
