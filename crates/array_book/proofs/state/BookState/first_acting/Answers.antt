use Rattle.std.proofs.Common.{◌≡◌, ◌<◌, ◌≤◌, true, false, length, reverse, sym, arith, ◌∙◌}
use Rattle.std.specs.Prelude.{slice_get}
use Rattle.array_journal.specs.declared.task.Task.{Task}
use Rattle.array_journal.specs.Acts.{is_target}
use Rattle.array_book.specs.OpenCommands.{open_commands, open_tasks}
use Rattle.array_book.specs.OpenTasks.{passes_task}
use Rattle.array_book.proofs.FirstOpen.{first-here, first-else, first-none}
use Rattle.array_book.proofs.OpenPlaces.{length-open_tasks}
use Rattle.array_book.proofs.state.BookState.first_acting.Goals as goal

pub returns-then-does_act_at : goal.returns-then-does_act_at
returns-then-does_act_at c =
    let past = reverse c.args.entries.now in
    let test = λ (task : Task). is_target c.args.setting.now task c.args.target in
    let here : passes_task test (slice_get (open_tasks past) c.loop-place.place) ≡ true = sym c.does_act_at.ensures ∙ c.if-does_act_at.true in
    c.open_command.ensures past c.requires
    ∙ sym (c.loop-place.invariant ∙ first-here test (open_commands past) (open_tasks past) c.loop-place.place (length-open_tasks past) here)

pub loop-place-preserved : goal.loop-place-preserved
loop-place-preserved c =
    let past = reverse c.args.entries.now in
    let test = λ (task : Task). is_target c.args.setting.now task c.args.target in
    let lt : c.loop-place.place < length (open_tasks past) = rw (← c.open_len-place-end.ensures past c.requires) c.loop-place-test.true in
    let other : passes_task test (slice_get (open_tasks past) c.loop-place.place) ≡ false = sym c.does_act_at.ensures ∙ c.if-does_act_at.false in
    c.loop-place.invariant ∙ first-else test (open_commands past) (open_tasks past) c.loop-place.place (length-open_tasks past) lt other

pub returns : goal.returns
returns c =
    let past = reverse c.args.entries.now in
    let test = λ (task : Task). is_target c.args.setting.now task c.args.target in
    let count : c.open_len-place-end.result ≡ length (open_tasks past) = c.open_len-place-end.ensures past c.requires in
    let le : length (open_tasks past) ≤ c.loop-place.place = omega (arith, c.loop-place-test.false, count) in
    sym (c.loop-place.invariant ∙ first-none test (open_commands past) (open_tasks past) c.loop-place.place (length-open_tasks past) le)
