use Rattle.std.proofs.Common.{◌∙◌, sym, ap}
use Rattle.sbc_cdbs.proofs.Decoded.{spelt_decodes, faulty_decodes}
use Rattle.host_scripts.specs.BenchLimits.{moved_by_cdb}
use Rattle.host_scripts.proofs.bench_limits.cdb_blocks.Goals as goal

pub returns-in-Ok-clause-value : goal.returns-in-Ok-clause-value
returns-in-Ok-clause-value c = c.command_blocks.ensures.value ∙ sym (ap (λ o. moved_by_cdb c.args.rows o c.args.bytes.now) (spelt_decodes c.args.cdb.now c.in-Ok.command c.in-Ok.ensures.spelt))

pub returns-in-Err-clause-value : goal.returns-in-Err-clause-value
returns-in-Err-clause-value c = sym (ap (λ o. moved_by_cdb c.args.rows o c.args.bytes.now) (faulty_decodes c.args.cdb.now c.in-Err.field-0 c.in-Err.ensures.fault))
