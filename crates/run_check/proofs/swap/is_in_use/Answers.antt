use Rattle.std.proofs.Common.{◌<◌, ◌≤◌, length, sym, arith, ◌∙◌}
use Rattle.std.proofs.lemmas.Grind.{common_steps}
use Rattle.array_journal.specs.Acts.{is_target}
use Rattle.array_book.specs.OpenCommands.{open_tasks}
use Rattle.array_book.proofs.OpenLaws.{used-open}
use Rattle.array_book.proofs.OpenOnes.{any-more, any-whole}
use Rattle.run_check.proofs.swap.is_in_use.Goals as goal

pub loop-place-preserved : goal.loop-place-preserved
loop-place-preserved c =
    let tasks = open_tasks c.args.past.now in
    let lt : c.loop-place.place < length tasks = rw (← c.open_len-place-end.ensures) c.loop-place-test.true in
    rw (any-more (λ task. is_target c.args.setting.now task c.args.slot) tasks c.loop-place.place lt) (grind (arith, common_steps))

pub returns : goal.returns
returns c =
    let past = c.args.past.now in
    let tasks = open_tasks past in
    let le : length tasks ≤ c.loop-place.place = omega (arith, c.loop-place-test.false, c.open_len-place-end.ensures) in
    c.loop-place.invariant ∙ any-whole (λ task. is_target c.args.setting.now task c.args.slot) tasks c.loop-place.place le ∙ sym (used-open c.args.setting.now past c.args.slot)
