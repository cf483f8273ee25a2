-- What an act on a bus comes to: what the target or the book answers, the entries that it makes, and what its caller sees then.
-- A journal has the newest entry first here.
use Rattle.std.specs.Prelude.{◌≡◌, ◌≢◌, ◌≤◌, ◌++◌, ◌+◌, ℕ, Bool, true, List, length}
use Rattle.array_journal.specs.declared.entry.Entry.{Entry}
use Rattle.array_journal.specs.declared.event.Event.{Event}
use Rattle.array_journal.specs.declared.event.Event.TheVariants.{Spoil}
use Rattle.array_journal.specs.Laws.{lane}
use Rattle.array_journal.specs.Run.{Grows}
use Rattle.array_book.specs.BookAnswers.{HasBegun, IsNoteAnswer, IsSwapAnswer}
use Rattle.array_book.specs.declared.answers.Begun.TheVariants as begun
use Rattle.array_book.specs.declared.answers.Noted.TheVariants as noted
use Rattle.array_book.specs.declared.answers.Swapped.TheVariants as swapped
use Rattle.array_book.specs.Ledgers.{Ledger, next_name, with_event}
use Rattle.xor_target.specs.declared.answer.Answer.TheVariants as answers
use Rattle.xor_target.specs.Answers.{IsAnswered}
use Rattle.xor_target.specs.Befalls.{IsShut, IsLost, IsReset, IsDropping, IsRenewed}
use Rattle.xor_target.specs.Logs.{last_stamp}
use Rattle.xor_target.specs.State.{TargetState}
use Rattle.unit_plans.specs.declared.acts.Act.{Act}
use Rattle.unit_plans.specs.declared.acts.Act.TheVariants.{Run, Shut, Lose, Wipe, DropNext, Fresh}
use Rattle.unit_plans.specs.declared.acts.Acted.{Acted}
use Rattle.unit_plans.specs.declared.acts.Acted.TheVariants as acted
use Rattle.unit_plans.specs.declared.acts.BookAct.{BookAct}
use Rattle.unit_plans.specs.declared.acts.BookAct.TheVariants as books
use Rattle.unit_plans.specs.declared.acts.BookActed.{BookActed}
use Rattle.unit_plans.specs.declared.acts.BookActed.TheVariants as booked
use Rattle.unit_plans.specs.Buses.{BusSetting, StandsOn, Outgrows}
use Rattle.unit_plans.specs.Conditions.{closing}

-- What a target answers to an act whose caller has seen stamps up to this one, and what it is afterwards. Want of memory is no
-- answer: the bus stops.
abbrev pub HasActed : Bool → TargetState → Act → ℕ → Acted → TargetState → Type 0
HasActed never_fails t (Run order) seen (acted.Answer answer) after =
    IsAnswered never_fails t (record order { stamp = seen }) answer after × (answer ≢ answers.Memory)
HasActed never_fails t (Shut owner opened) seen (acted.Shut answer) after = IsShut t owner opened seen answer after
HasActed never_fails t (Lose call) seen (acted.Gone answer) after = IsLost t call seen answer after
HasActed never_fails t (Wipe call) seen (acted.Made at) after = IsReset t call seen at after
HasActed never_fails t (DropNext call) seen (acted.Made at) after = IsDropping t call seen at after
HasActed never_fails t (Fresh call swap) seen (acted.Answer answer) after = IsRenewed never_fails t call swap seen answer after × (answer ≢ answers.Memory)
HasActed never_fails t _ seen _ after = ⊥

-- a command was ended by this event
pub record HasEnded (old : Ledger) (end : Event) (seen : ℕ) (new : Ledger) : Type 0 where
  pub made : new ≡ with_event old seen end

-- What the book answers, and what it is afterwards.
abbrev pub HasBooked : Ledger → BookAct → ℕ → BookActed → Ledger → Type 0
HasBooked old (books.Begin ask) seen (booked.Begun answer) new = HasBegun old ask seen new answer × (answer ≢ begun.Memory)
HasBooked old (books.Close command end) seen (booked.Closed at) new = (at ≡ next_name old seen) × HasEnded old (closing command end) seen new
HasBooked old (books.Spoil command diff loss shut) seen (booked.Spoilt at) new = (at ≡ next_name old seen) × HasEnded old (Spoil command diff loss shut) seen new
HasBooked old (books.Note slot gone life) seen (booked.Noted answer) new = IsNoteAnswer old slot gone life seen new answer × (answer ≢ noted.Memory)
HasBooked old (books.Swap slot call) seen (booked.Swapped answer) new = IsSwapAnswer old slot call seen new answer × (answer ≢ swapped.Memory)
HasBooked old _ seen _ new = ⊥

-- What a caller sees and has made, before an act and after it: the act came over a journal that has what the caller had seen, and
-- is a run where that is. Then come the act's entries, at most one, all at this lock, where nothing newer is seen; and the caller
-- has made no other.
pub record HasCome (alone : Bool) (array_grows : List Entry → Type 0) (lock : ℕ) (over entries seen made now now_made : List Entry) : Type 0 where
  pub before : Outgrows over seen
  pub run : array_grows seen → array_grows over
  pub one : length entries ≤ 1
  pub here : lane lock now ≡ entries ++ lane lock over
  pub others : Outgrows now over
  pub mine : now_made ≡ entries ++ made
  pub at_once : alone ≡ true → over ≡ seen
  pub alone_after : alone ≡ true → now ≡ entries ++ over

-- an act was done at target i: what it answers, and what its caller sees afterwards
pub record IsDoneAt (alone never_fails : Bool) (b : BusSetting) (i : ℕ) (act : Act) (answer : Acted) (seen made now now_made : List Entry) : Type 0 where
  pub over : List Entry
  pub entries : List Entry
  pub target : TargetState
  pub after : TargetState
  pub number : target.number ≡ i
  pub stands : StandsOn b target over
  pub does : HasActed never_fails target act (last_stamp seen) answer after
  pub grown : after.past ≡ entries ++ target.past
  pub come : HasCome alone (Grows b.array) (i + 1) over entries seen made now now_made

-- the same in the book
pub record IsDoneInBook (alone : Bool) (b : BusSetting) (act : BookAct) (answer : BookActed) (seen made now now_made : List Entry) : Type 0 where
  pub over : List Entry
  pub entries : List Entry
  pub book : Ledger
  pub after : Ledger
  pub of_array : book.setting ≡ b.array
  pub stands : lane 0 over ≡ book.past
  pub does : HasBooked book act (last_stamp seen) answer after
  pub grown : after.past ≡ entries ++ book.past
  pub come : HasCome alone (Grows b.array) 0 over entries seen made now now_made
