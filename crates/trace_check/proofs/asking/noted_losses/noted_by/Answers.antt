use Rattle.std.proofs.Common.{◌==◌, ◌&&◌, Bool, ap, ◌∙◌}
use Rattle.array_journal.specs.Entries.{entry_at}
use Rattle.stripe_check.specs.Asked.{is_loss_in}
use Rattle.trace_check.proofs.LossesNoted.{slot-stands}
use Rattle.trace_check.proofs.asking.noted_losses.noted_by.Goals as goal

pub returns-in-Note : goal.returns-in-Note
returns-in-Note c = λ target life.
    rw (c.if-entry-ne0.false, c.in-Note.is)
    (c.with_slot.ensures target life
    ∙ ap (λ (b : Bool). (c.in-Note.slot == target) && b) (c.life_noted.ensures life)
    ∙ slot-stands c.in-Note.slot target c.in-Note.gone.lock (is_loss_in life (entry_at c.in-Note.gone c.args.past.now)))
