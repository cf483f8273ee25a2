-- What the caller of a bus answers for, over the journal that it has seen and the entries that it has made itself. Both have the
-- newest entry first.
use Rattle.std.specs.Prelude.{◌≡◌, ◌≢◌, ◌<◌, ◌≤◌, ◌+◌, ◌&&◌, not, ℕ, true, false, List, [], Some}
use Rattle.stripe_layout.specs.Modes.{sends_delta, target_gathers}
use Rattle.array_journal.specs.declared.act.Act.TheVariants.{Fetches, Takes}
use Rattle.array_journal.specs.declared.at.At.{At}
use Rattle.array_journal.specs.declared.entry.Entry.{Entry}
use Rattle.array_journal.specs.declared.event.Event.{Event}
use Rattle.array_journal.specs.declared.event.Event.TheVariants.{Close, Spoil, Swap}
use Rattle.array_journal.specs.declared.setting.Setting.{Setting}
use Rattle.array_journal.specs.declared.task.Task.{Task}
use Rattle.array_journal.specs.Acts.{is_data_only}
use Rattle.array_journal.specs.Commands.{opens_command, is_open}
use Rattle.array_journal.specs.Entries.{entry_at, some_at, count_before}
use Rattle.array_journal.specs.Lives.{is_swap_of, life_of}
use Rattle.array_journal.specs.May.{is_loss_in}
use Rattle.array_journal.specs.OwnEntries.{OfCommand, mine}
use Rattle.array_journal.specs.Parts.{AskedShut, AskedFresh, AskedBook, FoundBook, Named}
use Rattle.array_book.specs.declared.answers.End.{End}
use Rattle.array_book.specs.Asks.{IsWant}
use Rattle.xor_target.specs.declared.order.Order.{Order}
use Rattle.xor_target.specs.Logs.{last_stamp}
use Rattle.unit_plans.specs.declared.acts.Act.{Act}
use Rattle.unit_plans.specs.declared.acts.Act.TheVariants.{Run, Back, Shut, Lose, Wipe, DropNext, Fresh}
use Rattle.unit_plans.specs.declared.acts.BookAct.{BookAct}
use Rattle.unit_plans.specs.declared.acts.BookAct.TheVariants as books
use Rattle.unit_plans.specs.Orders.{AskedOrder, AskedPutOrder, AskedDiffOrder, AskedFoldOrder}

-- the command was opened by this caller, and is open still
pub record IsOwn (journal made : List Entry) (c : ℕ) : Type 0 where
  pub opened_here : some_at 0 (opens_command c) made ≡ true
  pub open_still : is_open c journal ≡ true

-- of a command that a caller opened, what it has seen are the entries that it has made
abbrev pub SeesOwn : List Entry → List Entry → Type 0
SeesOwn journal made = (c : ℕ) → some_at 0 (opens_command c) made ≡ true → mine (OfCommand c) journal ≡ mine (OfCommand c) made

-- a bus gives each order the greatest stamp that its caller has seen
abbrev pub stamped : List Entry → Order → Order
stamped journal order = record order { stamp = last_stamp journal }

-- What is asked of an order by the act that it is sent for: what it names, and facts of its command's task. Whether the target
-- holds what is to be taken is the target's to find. No order asks anything of another target: none gathers, and none sends its
-- delta.
pub data IsSentFor (s : Setting) (past : List Entry) (i : ℕ) (order : Order) : Type 0 where
  Fetching : (task : Task) → AskedOrder s past i order 0 task Fetches → order.bytes ≡ [] → IsSentFor s past i order
  Putting : (task : Task) → AskedPutOrder s past i order task → (target_gathers s.mode && not (is_data_only task.kind)) ≡ false → IsSentFor s past i order
  Diffing : (task : Task) → AskedDiffOrder s past i order task → sends_delta s.mode ≡ false → IsSentFor s past i order
  Taking : (task : Task) → AskedOrder s past i order 0 task Takes → order.bytes ≡ [] → IsSentFor s past i order
  Folding : (task : Task) (name : At) → AskedFoldOrder s past i order task name → IsSentFor s past i order

-- a command may be shut at a target by its opener
pub record CanShut (s : Setting) (journal made : List Entry) (i owner : ℕ) (opened : At) : Type 0 where
  pub own : IsOwn journal made owner
  pub task : Task
  pub asked : AskedShut s journal i owner opened task
  pub seen : opened.stamp ≤ last_stamp journal

-- a fresh disk may come for a swap that this caller made: it has as many swaps of the slot before it as fresh disks came
pub record CanRenew (journal made : List Entry) (i call : ℕ) (swap : At) : Type 0 where
  pub own : entry_at swap made ≡ Some (Swap i call)
  pub asked : AskedFresh journal i call swap
  pub next : count_before 0 (is_swap_of i) swap.stamp journal ≡ life_of i journal
  pub seen : swap.stamp ≤ last_stamp journal

-- This may be asked of target i. Nothing is handed back, since no order asks another target.
abbrev pub CanAct : Setting → List Entry → List Entry → ℕ → Act → Type 0
CanAct s journal made i (Run order) = IsOwn journal made order.owner × IsSentFor s journal i (stamped journal order)
CanAct s journal made i (Back owner peer) = ⊥
CanAct s journal made i (Shut owner opened) = CanShut s journal made i owner opened
CanAct s journal made i (Lose call) = call ≢ 0
CanAct s journal made i (Wipe call) = Unit {0}
CanAct s journal made i (DropNext call) = Unit {0}
CanAct s journal made i (Fresh call swap) = CanRenew journal made i call swap

-- a command may be ended so by its opener: the end is asked for, and what the book finds at it is so
pub record CanEndBy (s : Setting) (journal made : List Entry) (c : ℕ) (end : Event) : Type 0 where
  pub own : IsOwn journal made c
  pub asked : AskedBook s journal end
  pub found : FoundBook s journal end

-- a loss may be noted that was seen, in the life that is told
pub record CanNote (s : Setting) (journal : List Entry) (slot : ℕ) (gone : At) (life : ℕ) : Type 0 where
  pub of_array : slot < s.geometry.targets
  pub at_target : gone.lock ≡ slot + 1
  pub lost : Named journal gone (is_loss_in life)

-- the entry by which a command is closed
abbrev pub closing : ℕ → End → Event
closing c end = Close c end.done end.names end.cause end.bytes

-- this may be asked of the book; what it tests itself is not asked
abbrev pub CanBook : Setting → List Entry → List Entry → BookAct → Type 0
CanBook s journal made (books.Begin ask) = IsWant s ask.want
CanBook s journal made (books.Close command end) = CanEndBy s journal made command (closing command end)
CanBook s journal made (books.Spoil command diff loss shut) = CanEndBy s journal made command (Spoil command diff loss shut)
CanBook s journal made (books.Note slot gone life) = CanNote s journal slot gone life
CanBook s journal made (books.Swap slot call) = slot < s.geometry.targets
