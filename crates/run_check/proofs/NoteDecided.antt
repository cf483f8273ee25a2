-- The test of a note decides whether it may follow.
use Rattle.std.proofs.Common.{ℕ, ◌+◌, List}
use Rattle.std.specs.Bool.{Decides}
use Rattle.std.proofs.lemmas.Bool.Decides.{Decides-and, Decides-eqb, Decides-like}
use Rattle.array_journal.specs.declared.at.At.{At}
use Rattle.array_journal.specs.declared.entry.Entry.{Entry}
use Rattle.array_journal.specs.Lives.{swap_count, is_unfitted}
use Rattle.array_journal.specs.May.{MayNote, is_loss_in}
use Rattle.run_check.proofs.PlainDecided.{Decides-false}
use Rattle.run_check.proofs.NamesDecided.{names-decided}
use Rattle.run_check.specs.NoteTest.{may_note}

pub note-decided : (past : List Entry) (stamp i : ℕ) (lost : At) → Decides (may_note past stamp i lost) (MayNote past stamp i lost)
note-decided past stamp i lost =
    Decides-like (may_note past stamp i lost)
    (λ p. record { at_target = p.0.0; names_loss = p.0.1; not_known = p.1 })
    (λ (m : MayNote past stamp i lost). ((m.at_target, m.names_loss), m.not_known))
    (Decides-and _ _ (Decides-and _ _ (Decides-eqb lost.lock (i + 1)) (names-decided past stamp lost (is_loss_in (swap_count i past))))
    (Decides-false (is_unfitted i past)))
