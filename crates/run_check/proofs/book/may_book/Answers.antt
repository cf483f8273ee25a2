use Rattle.std.proofs.Common.{ℕ, ap, ◌∙◌}
use Rattle.std.proofs.lemmas.Bool.Decides.{Decides-ltb}
use Rattle.run_check.specs.NoteTest.{may_note}
use Rattle.run_check.proofs.book.may_book.Goals as goal

pub returns-in-Open : goal.returns-in-Open
returns-in-Open c = rw c.in-Open.is c.may_open.ensures

pub returns-then-slot-setting : goal.returns-then-slot-setting
returns-then-slot-setting c =
    rw (c.in-Note.is, (Decides-ltb _ _).1 c.if-slot-setting.true)
    (c.may_note.ensures ∙ ap (λ (i : ℕ). may_note c.args.context.now.past.now c.args.context.now.stamp i c.in-Note.gone) c.from.ensures)
