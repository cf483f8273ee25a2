use Rattle.xor_cli.proofs.Answering.{cdb-answers, sense-answers, page-answers, params-answers}
use Rattle.xor_cli.proofs.decoding.values.value_of.Goals as goal

pub returns-in-Cdb : goal.returns-in-Cdb
returns-in-Cdb c =
    let says = c.decode.ensures in
    rw (c.in-Cdb.is, c.cdb_answer.ensures) (cdb-answers _ _ says.spelt says.read says.fault says.refused)

pub returns-in-Sense : goal.returns-in-Sense
returns-in-Sense c =
    let says = c.decode-in-Sense.ensures in
    rw (c.in-Sense.is, c.sense_answer.ensures) (sense-answers _ _ says.spelt says.read says.fault says.refused)

pub returns-in-Page : goal.returns-in-Page
returns-in-Page c =
    let says = c.decode_page.ensures in
    rw (c.in-Page.is, c.page_answer.ensures) (page-answers _ _ says.found says.only says.fault says.refused)

pub returns-in-Params : goal.returns-in-Params
returns-in-Params c =
    let says = c.decode-in-Params.ensures in
    rw (c.in-Params.is, c.params_answer.ensures, ← c.from.ensures)
    (params-answers _ _ _ _ says.found says.only says.fault
    (record { short = says.short; reserved = says.reserved; crowded = says.crowded; wrong = says.length; offends = says.offends }))
