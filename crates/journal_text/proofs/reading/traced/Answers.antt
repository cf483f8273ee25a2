use Rattle.std.proofs.Common.{◌<◌, length, arith}
use Rattle.std.proofs.lemmas.Result.{err_from_is_err_and}
use Rattle.journal_text.proofs.Loops.{is-empty, is-filled}
use Rattle.journal_text.proofs.TraceLaws.{read-start, read-more, read-shorter, read-stops, read-all}
use Rattle.journal_text.proofs.reading.traced.Goals as goal

pub loop-rest-init : goal.loop-rest-init
loop-rest-init c = rw c.new-journal.ensures (read-start c.args.bytes.now)

pub returns-in_err-entry : goal.returns-in_err-entry
returns-in_err-entry c =
    let p = err_from_is_err_and c.from_residual.result c.from_residual.ensures.1 in
    let long : 0 < length c.loop-rest.rest.now = is-filled (length c.loop-rest.rest.now) c.is_empty.result c.is_empty.ensures c.loop-rest-test.true in
    rw (p.1, p.2) (read-stops c.args.bytes.now c.loop-rest.journal c.loop-rest.last c.loop-rest.rest.now _ c.in_err-entry.field-0.0 c.loop-rest.invariant long (omega arith) c.in_err-entry.ensures)

pub loop-rest-preserved : goal.loop-rest-preserved
loop-rest-preserved c =
    rw c.in_ok-push.ensures.ok (read-more c.args.bytes.now c.loop-rest.journal c.loop-rest.last c.loop-rest.rest.now c.in_ok-entry.entry c.in_ok-entry.after.now c.loop-rest.invariant c.in_ok-entry.ensures)

pub loop-rest-smaller : goal.loop-rest-smaller
loop-rest-smaller c = read-shorter c.loop-rest.last c.loop-rest.rest.now c.in_ok-entry.entry c.in_ok-entry.after.now c.in_ok-entry.ensures

pub returns : goal.returns
returns c = read-all c.args.bytes.now c.loop-rest.journal c.loop-rest.last c.loop-rest.rest.now c.loop-rest.invariant (is-empty (length c.loop-rest.rest.now) c.is_empty.result c.is_empty.ensures c.loop-rest-test.false)
