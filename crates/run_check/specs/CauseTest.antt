-- Whether an entry is a cause for which a command ends without effect, as a test.
use Rattle.std.specs.Prelude.{◌==◌, ◌&&◌, ◌||◌, ◌+◌, ◌-◌, nat_lt, ℕ, suc, zero, Bool, false, List}
use Rattle.array_journal.specs.declared.at.At.{At}
use Rattle.array_journal.specs.declared.entry.Entry.{Entry}
use Rattle.array_journal.specs.declared.setting.Setting.{Setting}
use Rattle.array_journal.specs.declared.task.Kind.{Kind}
use Rattle.array_journal.specs.declared.task.Kind.TheVariants.{DegradedRead, Rebuild}
use Rattle.array_journal.specs.declared.task.Task.{Task}
use Rattle.array_journal.specs.Acts.{is_target}
use Rattle.array_journal.specs.Lives.{swap_count, is_unfitted}
use Rattle.array_journal.specs.May.{is_loss_in, is_wipe_of}
use Rattle.run_check.specs.NameTests.{names}

abbrev pub cause_of_loss : List Entry → ℕ → ℕ → At → Bool
cause_of_loss past stamp i cause =
    (cause.lock == i + 1) && names past stamp cause (is_loss_in (swap_count i past)) && is_unfitted i past

-- a cause of a rebuild alone: a loss of its slot in the life before
abbrev pub cause_before : List Entry → ℕ → ℕ → At → Bool
cause_before past stamp i cause =
    nat_lt 0 (swap_count i past) && (cause.lock == i + 1) && names past stamp cause (is_loss_in (swap_count i past - 1))

abbrev pub cause_of_kind : List Entry → ℕ → ℕ → Task → At → Kind → Bool
cause_of_kind past stamp c task cause Rebuild = cause_before past stamp task.target cause
cause_of_kind past stamp c task cause DegradedRead = names past stamp cause (is_wipe_of c)
cause_of_kind past stamp c task cause _ = false

-- a loss at the target of a lock, which is one of the command's
abbrev pub cause_at : Setting → List Entry → ℕ → Task → At → ℕ → Bool
cause_at s past stamp task cause zero = false
cause_at s past stamp task cause (suc i) = is_target s task i && cause_of_loss past stamp i cause

abbrev pub is_cause : Setting → List Entry → ℕ → ℕ → Task → At → Bool
is_cause s past stamp c task cause =
    cause_at s past stamp task cause cause.lock || cause_of_kind past stamp c task cause task.kind
