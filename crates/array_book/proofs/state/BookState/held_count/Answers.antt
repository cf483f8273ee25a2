use Rattle.std.proofs.Common.{◌≡◌, ◌<◌, ◌≤◌, length, reverse, sym, arith, ◌∙◌}
use Rattle.array_book.specs.OpenCommands.{open_tasks}
use Rattle.array_book.proofs.OpenLaws.{held-open}
use Rattle.array_book.proofs.OpenOnes.{held-more, held-whole}
use Rattle.array_book.proofs.state.BookState.held_count.Goals as goal

pub loop-place-preserved : goal.loop-place-preserved
loop-place-preserved c =
    let past = reverse c.args.entries.now in
    let tasks = open_tasks past in
    let lt : c.loop-place.place < length tasks = rw (← c.open_len-place-end.ensures past c.requires) c.loop-place-test.true in
    let more = held-more c.args.setting.now c.args.target tasks c.loop-place.place lt in
    record {
      value = omega (arith, more, c.loop-place.invariant.value, c.held_by-more.ensures.value);
      small = omega (arith, c.loop-place.invariant.small, c.held_by-more.ensures.small);
    }

pub returns-clause-value : goal.returns-clause-value
returns-clause-value c =
    let past = reverse c.args.entries.now in
    let tasks = open_tasks past in
    let count : c.open_len-place-end.result ≡ length tasks = c.open_len-place-end.ensures past c.requires in
    let le : length tasks ≤ c.loop-place.place = omega (arith, c.loop-place-test.false, count) in
    c.loop-place.invariant.value ∙ held-whole c.args.setting.now c.args.target tasks c.loop-place.place le ∙ sym (held-open c.args.setting.now past c.args.target)
