-- Slots whose disk is lost: which note and which swap may follow a journal, and the loss that is the cause of an end.
use Rattle.std.specs.Prelude.{◌≡◌, ◌==◌, ◌&&◌, ℕ, ◌+◌, Bool, true, false, List}
use Rattle.array_journal.specs.declared.at.At.{At}
use Rattle.array_journal.specs.declared.entry.Entry.{Entry}
use Rattle.array_journal.specs.declared.event.Event.{Event}
use Rattle.array_journal.specs.declared.event.Event.TheVariants.{Gone, Open}
use Rattle.array_journal.specs.declared.setting.Setting.{Setting}
use Rattle.array_journal.specs.Entries.{some_at}
use Rattle.array_journal.specs.Commands.{is_open}
use Rattle.array_journal.specs.Acts.{is_target}
use Rattle.array_journal.specs.Lives.{swap_count, is_unfitted}
use Rattle.array_journal.specs.May.NamedEntries.{Names}

-- the event is a loss in this life
abbrev pub is_loss_in : ℕ → Event → Bool
is_loss_in life (Gone its_life call commands) = its_life == life
is_loss_in life _ = false

-- a loss at target i in the life that the book has swapped so often, and the slot is known to be without a disk
pub record IsCauseOfLoss (past : List Entry) (stamp i : ℕ) (cause : At) : Type 0 where
  pub at_target : cause.lock ≡ i + 1
  pub lost : Names past stamp cause (is_loss_in (swap_count i past))
  pub known : is_unfitted i past ≡ true

-- Note: it names a loss of the slot in a life that was swapped so often, and the slot isn't known to be without a
-- disk.
pub record MayNote (past : List Entry) (stamp i : ℕ) (lost : At) : Type 0 where
  pub at_target : lost.lock ≡ i + 1
  pub names_loss : Names past stamp lost (is_loss_in (swap_count i past))
  pub not_known : is_unfitted i past ≡ false

-- the event opens a command that is open after all these entries and has a slot among its targets
abbrev pub opens_at : Setting → List Entry → ℕ → Event → Bool
opens_at s whole i (Open command task) = is_open command whole && is_target s task i
opens_at s whole i _ = false

-- Swap: the slot is known to be without a disk, and no open command acts there.
pub record MaySwap (s : Setting) (past : List Entry) (i : ℕ) : Type 0 where
  pub known : is_unfitted i past ≡ true
  pub idle : some_at 0 (opens_at s past i) past ≡ false
