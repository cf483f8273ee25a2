-- Stripes that are listed dirty: an update lost its delta, so that parity can't be trusted.
use Rattle.std.specs.Prelude.{◌==◌, ◌&&◌, not, ℕ, Bool, true, false, List, [], ◌∷◌, Option, Some, None, is_some, if◌then◌else◌}
use Rattle.std.specs.List.{filter_map}
use Rattle.stripe_layout.specs.Layout.{stripes_of}
use Rattle.array_journal.specs.declared.entry.Entry.{Entry}
use Rattle.array_journal.specs.declared.event.Event.{Event}
use Rattle.array_journal.specs.declared.event.Event.TheVariants.{Close, Spoil}
use Rattle.array_journal.specs.declared.setting.Setting.{Setting}
use Rattle.array_journal.specs.declared.task.Kind.{Kind}
use Rattle.array_journal.specs.declared.task.Kind.TheVariants.{Rebuild, Resync}
use Rattle.array_journal.specs.declared.task.Task.{Task}
use Rattle.array_journal.specs.Commands.{task_of}
use Rattle.array_journal.specs.Lists.{numbers}

-- a command of this kind and task makes parity anew
abbrev pub makes_parity : Kind → Task → Bool
makes_parity Resync task = true
makes_parity Rebuild task = task.target == task.parity
makes_parity _ task = false

-- a command with this task makes the parity of a stripe anew
abbrev pub renews_parity : ℕ → Option Task → Bool
renews_parity stripe None = false
renews_parity stripe (Some task) = (task.stripe == stripe) && makes_parity task.kind task

abbrev pub has_stripe : ℕ → Option Task → Bool
has_stripe stripe None = false
has_stripe stripe (Some task) = task.stripe == stripe

-- The command that a stripe is listed for, after an event of the book over the entries before it: a spoil
-- lists its stripe unless it is listed, and a resync or a rebuild of its parity that is closed as done takes it
-- from the list.
abbrev pub listed_after : List Entry → ℕ → Event → Option ℕ → Option ℕ
listed_after past stripe (Spoil command diff loss shut) old =
    if has_stripe stripe (task_of command past) && not (is_some old) then Some command else old
listed_after past stripe (Close command done names cause bytes) old =
    if done && renews_parity stripe (task_of command past) then None else old
listed_after past stripe _ old = old

-- the command that a stripe is listed for
abbrev pub listed_for : ℕ → List Entry → Option ℕ
listed_for stripe [] = None
listed_for stripe (e ∷ past) = if e.lock == 0 then listed_after past stripe e.event (listed_for stripe past) else listed_for stripe past

abbrev pub is_listed : ℕ → List Entry → Bool
is_listed stripe past = is_some (listed_for stripe past)

-- the listed stripes, rising, each with its command
pub record Dirty : Type 0 where
  pub stripe : ℕ
  pub command : ℕ

abbrev pub dirty_stripe : ℕ → Option ℕ → Option Dirty
dirty_stripe stripe None = None
dirty_stripe stripe (Some command) = Some (record { stripe = stripe; command = command })

abbrev pub dirty : Setting → List Entry → List Dirty
dirty s past = filter_map (λ stripe. dirty_stripe stripe (listed_for stripe past)) (numbers 0 (stripes_of s.geometry))
