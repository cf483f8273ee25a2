use Rattle.std.proofs.Common.{◌-◌, ◌<◌, length, sym, ap, arith, ◌∙◌}
use Rattle.std.proofs.lemmas.List.{get_or_read}
use Rattle.array_journal.specs.Commands.{task_of}
use Rattle.array_journal.specs.Entries.{some_at}
use Rattle.array_journal.specs.Lives.{closes_done, is_loss, puts_rebuilt}
use Rattle.stripe_check.specs.Folds.{briefly_rebuilt}
use Rattle.stripe_check.proofs.Remade.{remade, rebuilt-briefly}
use Rattle.stripe_check.proofs.absent_units.keep_loss.Goals as goal

pub returns-in-Some : goal.returns-in-Some
returns-in-Some c = λ s whole past a here was.
    let i = c.from-lock.result - 1 in
    let number = c.in-Put.command in
    let made = c.args.losses.now.made.items in
    let within : i < length made = omega arith in
    let known = ap (λ k. briefly_rebuilt k i) (sym (c.command_at.ensures ∙ a.each number)) ∙ sym c.in-Some.ensures in
    rw c.set.ensures
    (remade s whole past c.args.entry.now c.args.losses.now.lost.items made c.index_mut-in-Some.result.now i c.in-Some.stripe c.args.place
    (omega arith) within (get_or_read made i c.index_mut-in-Some.result.now within c.index_mut-in-Some.ensures.value _) here
    (ap is_loss c.in-Put.is)
    (λ str. ap (λ e. puts_rebuilt whole i str e) c.in-Put.is
    ∙ rebuilt-briefly (task_of number whole) (some_at 0 (closes_done number) whole) i c.in-Some.stripe str known)
    was)
