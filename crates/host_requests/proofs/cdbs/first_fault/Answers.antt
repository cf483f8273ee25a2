use Rattle.std.proofs.Common.{◌∙◌, sym}
use Rattle.host_requests.proofs.CdbTests.{fault-fails}
use Rattle.host_requests.proofs.cdbs.first_fault.Goals as goal

pub returns-else-has_other_code : goal.returns-else-has_other_code
returns-else-has_other_code c =
    rw c.fault_by.ensures
    (fault-fails c.args.cdb.now c.args.fault c.requires (sym c.has_other_code.ensures ∙ c.if-has_other_code.false))
