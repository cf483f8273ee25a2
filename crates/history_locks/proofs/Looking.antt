-- Which command another waits for is told by the book's entries alone.
use Rattle.std.specs.Prelude.{◌≡◌, ℕ, Bool, List, Option, Some, None, Result, Ok, Err, MatchOption}
use Rattle.std.proofs.Common.{refl, ap, sym, subst, ◌∙◌, inl, inr}
use Rattle.sense_data.specs.declared.senses.Sense.{Sense}
use Rattle.array_journal.specs.declared.entry.Entry.{Entry}
use Rattle.array_journal.specs.declared.setting.Setting.{Setting}
use Rattle.array_journal.specs.declared.task.Task.{Task}
use Rattle.array_journal.specs.Acts.{is_target}
use Rattle.array_journal.specs.Commands.{is_open, task_of, tasks_conflict}
use Rattle.array_journal.specs.Decision.{opens_conflict, has_room, holder_of}
use Rattle.array_journal.specs.Entries.{some_at}
use Rattle.array_journal.specs.Laws.{lane}
use Rattle.array_journal.specs.Lives.{is_unfitted}
use Rattle.array_journal.proofs.runs.BookLanes.{decision-lane, conflict-lane, room-lane}
use Rattle.array_journal.proofs.runs.LaneLaws.{is_open-lane, task_of-lane, is_unfitted-lane}
use Rattle.array_book.specs.declared.asks.Aim.{Aim}
use Rattle.array_book.specs.declared.asks.Ask.{Ask}
use Rattle.array_book.specs.declared.asks.Want.{Want}
use Rattle.array_book.specs.Asks.{aim_of, decided, decided_at}
use Rattle.array_book.specs.BookAnswers.{HasToWait, HasToWaitForSwap}
use Rattle.array_book.specs.Ledgers.{Ledger}
use Rattle.array_book.specs.OpenTasks.{passes_task}
use Rattle.array_book.specs.Waits.{IsOpenSo, IsLeastOpen, WaitsFor, fills}

-- two lists of entries tell the same of what is open and of the slots
record SaysSame (s : Setting) (past other : List Entry) : Type 0 where
  opened : (c : ℕ) → is_open c past ≡ is_open c other
  tasks : (c : ℕ) → task_of c past ≡ task_of c other
  conflict : (task : Task) → some_at 0 (opens_conflict past task) past ≡ some_at 0 (opens_conflict other task) other
  room : (task : Task) → has_room s task past ≡ has_room s task other
  decides : (want : Want) → decided s past want ≡ decided s other want
  unfitted : (slot : ℕ) → is_unfitted slot past ≡ is_unfitted slot other

turned : (s : Setting) (past other : List Entry) → SaysSame s past other → SaysSame s other past
turned s past other h = record {
  opened = λ c. sym (h.opened c);
  tasks = λ c. sym (h.tasks c);
  conflict = λ task. sym (h.conflict task);
  room = λ task. sym (h.room task);
  decides = λ want. sym (h.decides want);
  unfitted = λ slot. sym (h.unfitted slot);
}

-- a journal says the same as its entries of lock 0
says-lane : (s : Setting) (past : List Entry) → SaysSame s past (lane 0 past)
says-lane s past = record {
  opened = λ c. is_open-lane c past;
  tasks = λ c. task_of-lane c past;
  conflict = λ task. conflict-lane task past;
  room = λ task. room-lane s task past;
  decides = λ want. at_aim (aim_of s.geometry want);
  unfitted = λ slot. is_unfitted-lane slot past;
}
  where
    at_aim : (aim : Result Aim Sense) → decided_at s past aim ≡ decided_at s (lane 0 past) aim
    at_aim (Ok aim) = decision-lane s aim.want aim.stripe aim.target past
    at_aim (Err sense) = refl

module _ (s : Setting) (past other : List Entry) (h : SaysSame s past other) where
  open-so : (test : Task → Bool) (c : ℕ) → IsOpenSo past test c → IsOpenSo other test c
  open-so test c is = record { open_still = sym (h.opened c) ∙ is.open_still; passes = ap (passes_task test) (sym (h.tasks c)) ∙ is.passes }

  open-back : (test : Task → Bool) (c : ℕ) → IsOpenSo other test c → IsOpenSo past test c
  open-back test c is = record { open_still = h.opened c ∙ is.open_still; passes = ap (passes_task test) (h.tasks c) ∙ is.passes }

  least-so : (test : Task → Bool) (by : ℕ) → IsLeastOpen past test by → IsLeastOpen other test by
  least-so test by is = record { one = open-so test by is.one; least = λ c so. is.least c (open-back test c so) }

  waits-so : (task : Task) (by : ℕ) → WaitsFor s past task by → WaitsFor s other task by
  waits-so task by (inl is) = inl (least-so (tasks_conflict task) by is)
  waits-so task by (inr is) = inr (record {
    alone = sym (h.conflict task) ∙ is.alone;
    full = sym (h.room task) ∙ is.full;
    least = least-so (fills s (holder_of s task.kind task)) by is.least;
  })

  has-to-wait : (ask : Ask) (by : ℕ) → HasToWait s past ask by → HasToWait s other ask by
  has-to-wait ask by is = record {
    kind = is.kind;
    task = is.task;
    decided_so = sym (h.decides ask.want) ∙ is.decided_so;
    task_is = is.task_is;
    waits = waits-so is.task by is.waits;
  }

  has-to-wait-for-swap : (slot by : ℕ) → HasToWaitForSwap s past slot by → HasToWaitForSwap s other slot by
  has-to-wait-for-swap slot by is = (sym (h.unfitted slot) ∙ is.0, least-so (λ task. is_target s task slot) by is.1)

-- what is found over the book's entries is found over the journal
same-found : (P Q : ℕ → Type 0) (o : Option ℕ) → ((by : ℕ) → P by → Q by) → ((by : ℕ) → Q by → P by) → MatchOption o ((by : ℕ) → P by → ⊥) P →
    MatchOption o ((by : ℕ) → Q by → ⊥) Q
same-found P Q None to back none = λ by q. none by (back by q)
same-found P Q (Some by) to back is = to by is

says-book : (s : Setting) (book journal : List Entry) → lane 0 journal ≡ book → SaysSame s book journal
says-book s book journal own = subst (λ (p : List Entry). SaysSame s p journal) own (turned s journal (lane 0 journal) (says-lane s journal))

-- what the book tells of a piece, and of a slot
abbrev pub Looked : Ledger → Ask → Option ℕ → Type 0
Looked book ask o = MatchOption o ((by : ℕ) → HasToWait book.setting book.past ask by → ⊥) (λ by. HasToWait book.setting book.past ask by)

abbrev pub LookedSwap : Ledger → ℕ → Option ℕ → Type 0
LookedSwap book slot o = MatchOption o ((by : ℕ) → HasToWaitForSwap book.setting book.past slot by → ⊥) (λ by. HasToWaitForSwap book.setting book.past slot by)

pub looked : (book : Ledger) (journal : List Entry) (ask : Ask) (o : Option ℕ) → lane 0 journal ≡ book.past → Looked book ask o →
    MatchOption o ((by : ℕ) → HasToWait book.setting journal ask by → ⊥) (λ by. HasToWait book.setting journal ask by)
looked book journal ask o own =
    let s = book.setting in
    let same = says-book s book.past journal own in
    same-found (HasToWait s book.past ask) (HasToWait s journal ask) o (has-to-wait s book.past journal same ask)
    (has-to-wait s journal book.past (turned s book.past journal same) ask)

pub looked-swap : (book : Ledger) (journal : List Entry) (slot : ℕ) (o : Option ℕ) → lane 0 journal ≡ book.past → LookedSwap book slot o →
    MatchOption o ((by : ℕ) → HasToWaitForSwap book.setting journal slot by → ⊥) (λ by. HasToWaitForSwap book.setting journal slot by)
looked-swap book journal slot o own =
    let s = book.setting in
    let same = says-book s book.past journal own in
    same-found (HasToWaitForSwap s book.past slot) (HasToWaitForSwap s journal slot) o (has-to-wait-for-swap s book.past journal same slot)
    (has-to-wait-for-swap s journal book.past (turned s book.past journal same) slot)
