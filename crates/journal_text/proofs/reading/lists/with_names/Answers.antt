use Rattle.std.proofs.Common.{◌<◌, length}
use Rattle.journal_text.specs.Words.{at_of}
use Rattle.journal_text.specs.Lists.{with_front, all_of, next_of}
use Rattle.journal_text.proofs.Loops.{is-empty, is-filled, value-read, value-broken, values-done, next-shortens}
use Rattle.journal_text.proofs.reading.lists.with_names.Goals as goal

pub returns-in_default : goal.returns-in_default
returns-in_default c =
    let long : 0 < length c.loop-rest.rest.now = is-filled (length c.loop-rest.rest.now) c.is_empty.result c.is_empty.ensures c.loop-rest-test.true in
    value-broken (next_of at_of) c.loop-rest.names c.loop-rest.rest.now (with_front c.args.names (all_of (next_of at_of) (length c.args.text.now) c.args.text.now)) long c.in_default.ensures.value c.loop-rest.invariant

pub loop-rest-preserved : goal.loop-rest-preserved
loop-rest-preserved c =
    let long : 0 < length c.loop-rest.rest.now = is-filled (length c.loop-rest.rest.now) c.is_empty.result c.is_empty.ensures c.loop-rest-test.true in
    rw c.in_ok-push.ensures.ok (value-read (next_of at_of) (next-shortens at_of) c.loop-rest.names c.loop-rest.rest.now c.in-Some.next.0 c.in-Some.next.1.now (with_front c.args.names (all_of (next_of at_of) (length c.args.text.now) c.args.text.now)) long c.in-Some.ensures.value c.loop-rest.invariant)

pub returns : goal.returns
returns c = values-done (next_of at_of) c.loop-rest.names c.loop-rest.rest.now (with_front c.args.names (all_of (next_of at_of) (length c.args.text.now) c.args.text.now)) (is-empty (length c.loop-rest.rest.now) c.is_empty.result c.is_empty.ensures c.loop-rest-test.false) c.loop-rest.invariant
