use Rattle.std.proofs.Common.{◌∙◌, sym, ap}
use Rattle.sbc_cdbs.proofs.Decoded.{spelt_decodes, faulty_decodes}
use Rattle.host_scripts.specs.Limits.{transferred}
use Rattle.host_scripts.proofs.limits.cdb_blocks.Goals as goal

pub returns-in-Ok : goal.returns-in-Ok
returns-in-Ok c = c.command_blocks.ensures ∙ sym (ap transferred (spelt_decodes c.args.cdb.now c.in-Ok.command c.in-Ok.ensures.spelt))

pub returns-in-Err : goal.returns-in-Err
returns-in-Err c = sym (ap transferred (faulty_decodes c.args.cdb.now c.in-Err.field-0 c.in-Err.ensures.fault))
