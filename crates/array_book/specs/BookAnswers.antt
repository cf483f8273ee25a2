-- What the calls of the book answer, and what they leave.
use Rattle.std.specs.Prelude.{◌≡◌, ◌≢◌, ℕ, true, false, List}
use Rattle.array_journal.specs.declared.at.At.{At}
use Rattle.array_journal.specs.declared.decision.Decision.TheVariants.{Opens, Refuses}
use Rattle.array_journal.specs.declared.entry.Entry.{Entry}
use Rattle.array_journal.specs.declared.event.Event.TheVariants.{Open, Note, Swap, Refuse}
use Rattle.array_journal.specs.declared.event.Why.{Why}
use Rattle.array_journal.specs.declared.event.Why.TheVariants.{NotLost}
use Rattle.array_journal.specs.declared.setting.Setting.{Setting}
use Rattle.array_journal.specs.declared.task.Kind.{Kind}
use Rattle.array_journal.specs.declared.task.Task.{Task}
use Rattle.array_journal.specs.Commands.{opens_command}
use Rattle.array_journal.specs.Entries.{some_at}
use Rattle.array_journal.specs.Lives.{swap_count, is_unfitted}
use Rattle.array_journal.specs.May.{IsTask, MaySwap}
use Rattle.array_journal.specs.Parts.{FoundOpen}
use Rattle.array_book.specs.declared.answers.Begun.{Begun}
use Rattle.array_book.specs.declared.answers.Begun.TheVariants as begun
use Rattle.array_book.specs.declared.answers.Noted.{Noted}
use Rattle.array_book.specs.declared.answers.Noted.TheVariants as noted
use Rattle.array_book.specs.declared.answers.Swapped.{Swapped}
use Rattle.array_book.specs.declared.answers.Swapped.TheVariants as swapped
use Rattle.array_book.specs.declared.asks.Ask.{Ask}
use Rattle.array_book.specs.Asks.{decided, IsTaskFor}
use Rattle.array_book.specs.Ledgers.{Ledger, next_name, with_event}
use Rattle.array_book.specs.Waits.{WaitsFor, SwapWaitsFor}

-- ---- begin

-- what is asked may be opened, and its command has to wait for this one
pub record HasToWait (s : Setting) (past : List Entry) (ask : Ask) (by : ℕ) : Type 0 where
  pub kind : Kind
  pub task : Task
  pub decided_so : decided s past ask.want ≡ Opens kind
  pub task_is : IsTaskFor s.geometry ask kind task
  pub waits : WaitsFor s past task by

-- a command is opened, with the task of what is asked and a number that no command has
pub record HasOpened (old : Ledger) (ask : Ask) (stamp : ℕ) (new : Ledger) (at : At) (command : ℕ) (task : Task) : Type 0 where
  pub decided_so : decided old.setting old.past ask.want ≡ Opens task.kind
  pub task_is : IsTaskFor old.setting.geometry ask task.kind task
  pub asked : IsTask old.setting task
  pub found : FoundOpen old.setting old.past command task
  pub is_new : some_at 0 (opens_command command) old.past ≡ false
  pub name : at ≡ next_name old stamp
  pub made : new ≡ with_event old stamp (Open command task)

-- what is asked is refused
pub record HasRefused (old : Ledger) (ask : Ask) (stamp : ℕ) (new : Ledger) (at : At) (why : Why) : Type 0 where
  pub decided_so : decided old.setting old.past ask.want ≡ Refuses why
  pub name : at ≡ next_name old stamp
  pub made : new ≡ with_event old stamp (Refuse ask.call ask.piece why)

-- a piece is begun
abbrev pub HasBegun : Ledger → Ask → ℕ → Ledger → Begun → Type 0
HasBegun old ask stamp new (begun.Opened at command task) = HasOpened old ask stamp new at command task
HasBegun old ask stamp new (begun.Again by) = HasToWait old.setting old.past ask by × (new ≡ old)
HasBegun old ask stamp new (begun.Refused at why) = HasRefused old ask stamp new at why
HasBegun old ask stamp new begun.Memory = new ≡ old

-- ---- note

-- the loss of the disk that a slot has is noted, since it wasn't known
pub record HasNoted (old : Ledger) (slot : ℕ) (gone : At) (life stamp : ℕ) (new : Ledger) (at : At) : Type 0 where
  pub not_known : is_unfitted slot old.past ≡ false
  pub in_life : life ≡ swap_count slot old.past
  pub name : at ≡ next_name old stamp
  pub made : new ≡ with_event old stamp (Note slot gone)

-- the loss is known; else it is one of another life than the slot's
abbrev pub IsNoteAnswer : Ledger → ℕ → At → ℕ → ℕ → Ledger → Noted → Type 0
IsNoteAnswer old slot gone life stamp new (noted.Made at) = HasNoted old slot gone life stamp new at
IsNoteAnswer old slot gone life stamp new noted.Already = (is_unfitted slot old.past ≡ true) × (new ≡ old)
IsNoteAnswer old slot gone life stamp new (noted.Stale swaps) =
    (is_unfitted slot old.past ≡ false) × ((swaps ≡ swap_count slot old.past) × ((life ≢ swaps) × (new ≡ old)))
IsNoteAnswer old slot gone life stamp new noted.Memory = new ≡ old

-- ---- swap

-- a slot may be swapped, and has to wait for this command
abbrev pub HasToWaitForSwap : Setting → List Entry → ℕ → ℕ → Type 0
HasToWaitForSwap s past slot by = (is_unfitted slot past ≡ true) × SwapWaitsFor s past slot by

-- a slot gets a new disk
pub record HasSwapped (old : Ledger) (slot call stamp : ℕ) (new : Ledger) (at : At) : Type 0 where
  pub found : MaySwap old.setting old.past slot
  pub name : at ≡ next_name old stamp
  pub made : new ≡ with_event old stamp (Swap slot call)

-- a slot that isn't noted, or has a new disk already, is refused one
pub record HasRefusedSwap (old : Ledger) (slot call stamp : ℕ) (new : Ledger) (at : At) (why : Why) : Type 0 where
  pub not_lost : is_unfitted slot old.past ≡ false
  pub because : why ≡ NotLost
  pub name : at ≡ next_name old stamp
  pub made : new ≡ with_event old stamp (Refuse call 0 NotLost)

abbrev pub IsSwapAnswer : Ledger → ℕ → ℕ → ℕ → Ledger → Swapped → Type 0
IsSwapAnswer old slot call stamp new (swapped.Made at) = HasSwapped old slot call stamp new at
IsSwapAnswer old slot call stamp new (swapped.Again by) = HasToWaitForSwap old.setting old.past slot by × (new ≡ old)
IsSwapAnswer old slot call stamp new (swapped.Refused at why) = HasRefusedSwap old slot call stamp new at why
IsSwapAnswer old slot call stamp new swapped.Memory = new ≡ old
