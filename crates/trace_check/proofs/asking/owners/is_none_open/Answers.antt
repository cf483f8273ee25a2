use Rattle.array_book.proofs.OpenOnes.{none-open}
use Rattle.trace_check.proofs.asking.owners.is_none_open.Goals as goal

pub returns : goal.returns
returns c = none-open c.args.past.now c.open_len.result c.open_len.ensures
