use Rattle.sbc_cdbs.proofs.Decoded.{spelt_decodes, faulty_decodes}
use Rattle.sbc_cdbs.proofs.decoding.decoding_law.Goals as goal

pub returns-clause-spelt : goal.returns-clause-spelt
returns-clause-spelt c = spelt_decodes

pub returns-clause-faulty : goal.returns-clause-faulty
returns-clause-faulty c = faulty_decodes
