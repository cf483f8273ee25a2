-- One act of a bus of one caller: what is asked of its target or its book beforehand, and what comes of it. A list called past has
-- the newest entry first.
use Rattle.std.specs.Prelude.{◌≡◌, ◌≢◌, ℕ, Bool, false, max, reverse, Some, None, IfSome, slice_get, slice_set}
use Rattle.array_journal.specs.Merge.{Rises}
use Rattle.array_journal.specs.Owners.{shut_at}
use Rattle.array_book.specs.Asks.{IsWant}
use Rattle.array_book.specs.Ledgers.{Ledger, AreInOrder, newest_stamp}
use Rattle.array_book.specs.declared.answers.Begun.{Begun}
use Rattle.array_book.specs.declared.answers.Begun.TheVariants as begun
use Rattle.array_book.specs.declared.answers.Noted.{Noted}
use Rattle.array_book.specs.declared.answers.Noted.TheVariants as noted
use Rattle.array_book.specs.declared.answers.Swapped.{Swapped}
use Rattle.array_book.specs.declared.answers.Swapped.TheVariants as swapped
use Rattle.xor_target.specs.declared.answer.Answer.{Answer}
use Rattle.xor_target.specs.declared.answer.Answer.TheVariants as answers
use Rattle.xor_target.specs.Logs.{last_stamp}
use Rattle.xor_target.specs.State.{TargetState, IsRecorded, is_waiting}
use Rattle.unit_plans.specs.declared.acts.Act.{Act}
use Rattle.unit_plans.specs.declared.acts.Act.TheVariants.{Run, Back, Shut, Lose, Wipe, DropNext, Fresh}
use Rattle.unit_plans.specs.declared.acts.Acted.{Acted}
use Rattle.unit_plans.specs.declared.acts.Acted.TheVariants as acted
use Rattle.unit_plans.specs.declared.acts.BookAct.{BookAct}
use Rattle.unit_plans.specs.declared.acts.BookAct.TheVariants.{Begin, Close, Spoil, Note, Swap}
use Rattle.unit_plans.specs.declared.acts.BookActed.{BookActed}
use Rattle.unit_plans.specs.declared.acts.BookActed.TheVariants as booked
use Rattle.unit_plans.specs.Effects.{HasActed, HasBooked}
use Rattle.history_locks.specs.PlainBuses.{PlainState}

-- ---- at a target

-- What a target asks of an act: no order of the owner waits, no owner is shut twice, a loss is for a call. Nothing is handed back.
abbrev pub IsReadyFor : TargetState → Act → Type 0
IsReadyFor t (Run order) = is_waiting t order.owner ≡ false
IsReadyFor t (Back _ _) = ⊥
IsReadyFor t (Shut owner _) = shut_at t.number owner t.past ≡ None
IsReadyFor t (Lose call) = call ≢ 0
IsReadyFor t (Wipe _) = Unit {0}
IsReadyFor t (DropNext _) = Unit {0}
IsReadyFor t (Fresh _ _) = Unit {0}

-- an answer that isn't want of memory is told
abbrev pub IsTold : Answer → Acted → Type 0
IsTold answer came = (came ≡ acted.Answer answer) × (answer ≢ answers.Memory)

-- the names of a target's entries rise, and where its medium tells its bytes, what it keeps is what they say
pub record IsTelling (t : TargetState) : Type 0 where
  pub recorded : IfSome t.contents (IsRecorded t)
  pub rise : Rises (reverse t.past)

-- Target k acted, by who has seen stamps up to this one; the newest stamp is then that of its newest entry, or the one that was seen.
pub record ActsAt (never_fails : Bool) (bus : PlainState) (k seen : ℕ) (act : Act) (answer : Acted) (newest : ℕ) (after : PlainState) : Type 0 where
  pub before : TargetState
  pub now : TargetState
  pub stands : slice_get bus.targets k ≡ Some before
  pub does : HasActed never_fails before act seen answer now
  pub telling : IsTelling now
  pub newest_is : newest ≡ max seen (last_stamp now.past)
  pub others : after ≡ record bus { targets = slice_set bus.targets k now }

-- ---- in the book

-- what the book asks of an act: what is begun is of the array
abbrev pub IsReadyIn : Ledger → BookAct → Type 0
IsReadyIn book (Begin ask) = IsWant book.setting ask.want
IsReadyIn book (Close _ _) = Unit {0}
IsReadyIn book (Spoil _ _ _ _) = Unit {0}
IsReadyIn book (Note _ _ _) = Unit {0}
IsReadyIn book (Swap _ _) = Unit {0}

abbrev pub IsBegun : Begun → BookActed → Type 0
IsBegun answer came = (came ≡ booked.Begun answer) × (answer ≢ begun.Memory)

abbrev pub IsNoted : Noted → BookActed → Type 0
IsNoted answer came = (came ≡ booked.Noted answer) × (answer ≢ noted.Memory)

abbrev pub IsSwapped : Swapped → BookActed → Type 0
IsSwapped answer came = (came ≡ booked.Swapped answer) × (answer ≢ swapped.Memory)

-- the book acted
pub record ActsInBook (bus : PlainState) (seen : ℕ) (act : BookAct) (answer : BookActed) (newest : ℕ) (after : PlainState) : Type 0 where
  pub now : Ledger
  pub does : HasBooked bus.book act seen answer now
  pub same_setting : now.setting ≡ bus.book.setting
  pub in_order : AreInOrder now.past
  pub newest_is : newest ≡ max seen (newest_stamp now.past)
  pub others : after ≡ record bus { book = now }
