-- What becomes of a piece.
use Rattle.std.specs.Prelude.{◌≡◌, ℕ, Option, Some, None, Ok}
use Rattle.array_journal.specs.declared.decision.Decision.TheVariants.{Opens, Refuses}
use Rattle.array_journal.specs.declared.task.Kind.{Kind}
use Rattle.array_journal.specs.declared.task.Task.{Task}
use Rattle.array_book.specs.declared.asks.Aim.{Aim}
use Rattle.array_book.specs.declared.asks.Ask.{Ask}
use Rattle.array_book.specs.declared.beginning.Verdict.{Verdict}
use Rattle.array_book.specs.declared.beginning.Verdict.TheVariants.{Open, Wait, Refuse}
use Rattle.array_book.specs.Asks.{aim_of, bytes_of, decided, task_at}
use Rattle.array_book.specs.BookAnswers.{HasToWait}
use Rattle.array_book.specs.Ledgers.{Ledger}
use Rattle.array_book.specs.Waits.{IsFree, WaitsFor}

-- the task of a command of a kind for what is asked, at some rows
abbrev pub asked_task : Ledger → Ask → Kind → Aim → Task
asked_task book ask kind aim = task_at book.setting.geometry ask.call ask.piece kind aim (bytes_of ask.want)

-- a task waits for none
pub record WaitsForNone (book : Ledger) (task : Task) : Type 0 where
  pub free : IsFree book.setting book.past task
  pub for_none : (by : ℕ) → WaitsFor book.setting book.past task by → ⊥

-- a command of this kind at these rows waits for none, or for this one
abbrev pub MayBegin : Ledger → Ask → Kind → Aim → Verdict → Type 0
MayBegin book ask kind aim (Open kind_of rows) = ((kind_of ≡ kind) × (rows ≡ aim)) × WaitsForNone book (asked_task book ask kind aim)
MayBegin book ask kind aim (Wait by) = WaitsFor book.setting book.past (asked_task book ask kind aim) by
MayBegin book ask kind aim (Refuse why) = ⊥

-- the book decides to open such a command for what is asked, and it waits for none
pub record IsToOpen (book : Ledger) (ask : Ask) (kind : Kind) (aim : Aim) : Type 0 where
  pub at_rows : aim_of book.setting.geometry ask.want ≡ Ok aim
  pub decided_so : decided book.setting book.past ask.want ≡ Opens kind
  pub waits : WaitsForNone book (asked_task book ask kind aim)

abbrev pub IsVerdict : Ledger → Ask → Verdict → Type 0
IsVerdict book ask (Open kind aim) = IsToOpen book ask kind aim
IsVerdict book ask (Wait by) = HasToWait book.setting book.past ask by
IsVerdict book ask (Refuse why) = decided book.setting book.past ask.want ≡ Refuses why

-- the command that a piece has to wait for
abbrev pub wait_of : Verdict → Option ℕ
wait_of (Open kind aim) = None
wait_of (Wait by) = Some by
wait_of (Refuse why) = None
