use Rattle.std.proofs.Common.{◌∙◌, sym, ap, Some}
use Rattle.xor_target.proofs.CdbRows.{refuses}
use Rattle.xor_target.proofs.admission.decoded.Goals as goal

pub returns-in-Err-clause-refused : goal.returns-in-Err-clause-refused
returns-in-Err-clause-refused c =
    refuses c.args.page.now c.args.cdb.now c.in-Err.fault (sym c.is_shut_out.ensures ∙ c.if-is_shut_out.false) c.in-Err.ensures.fault
    ∙ ap Some (sym c.fault_sense.ensures)
