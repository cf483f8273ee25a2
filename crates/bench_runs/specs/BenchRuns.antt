-- What the lines of a bench do, one after the other, each at its target at once, with the requests that come of it.
use Rattle.std.specs.Prelude.{◌≡◌, ◌*◌, ◌++◌, ℕ, suc, max, true, false, List, [], ◌∷◌, map, reverse, Some}
use Rattle.blocks_core.specs.Xor.{zeros}
use Rattle.xor_mode_page.specs.declared.pages.XorPage.{XorPage}
use Rattle.array_journal.specs.declared.at.At.{At}
use Rattle.array_journal.specs.declared.entry.Entry.{Entry}
use Rattle.array_journal.specs.Calm.{IsStamped}
use Rattle.array_journal.specs.Lists.{numbers}
use Rattle.array_journal.specs.OneJournal.{journal_of}
use Rattle.host_scripts.specs.declared.bench.Bench.{Bench}
use Rattle.host_scripts.specs.declared.bench.BenchLine.{BenchLine}
use Rattle.host_scripts.specs.declared.bench.BenchAction.{BenchAction}
use Rattle.host_scripts.specs.declared.bench.BenchAction.TheVariants.{Raw, Lose, Reset, DropNext, Fresh}
use Rattle.xor_target.specs.declared.order.Order.{Order}
use Rattle.xor_target.specs.declared.answer.Answer.{Answer}
use Rattle.xor_target.specs.declared.answer.GoneAt.{GoneAt}
use Rattle.xor_target.specs.Logs.{last_stamp}
use Rattle.xor_target.specs.State.{TargetState}
use Rattle.xor_target.specs.Befalls.{IsLost, IsReset, IsDropping, IsFresh}
use Rattle.xor_target.specs.Rigs.{Turns, IsRigAnswer}
use Rattle.bench_runs.specs.declared.line_answer.LineAnswer.{LineAnswer}
use Rattle.bench_runs.specs.declared.line_answer.LineAnswer.TheVariants.{Answered, Done}
use Rattle.bench_runs.specs.Answers.{told_text, numbered}

-- ---- before the first line

-- the page of each target: no maxima, no delay, and the XOR commands are served
abbrev pub first_page : XorPage
first_page = record { xordis = false; max_write = 0; max_regenerate = 0; max_rebuild = 0; delay = 0 }

-- a target to which nothing happened: its medium is zeros and never failed
abbrev pub first_target : Bench → ℕ → TargetState
first_target bench number = record {
  number = number;
  targets = bench.targets;
  block = bench.block;
  rows = bench.rows;
  buffer = bench.buffer;
  first = first_page;
  page = first_page;
  past = [];
  held = [];
  contents = Some (zeros (bench.rows * bench.block));
  faults = 0;
  waiting = [];
}

-- the targets of a bench before its first line
abbrev pub first_targets : Bench → List TargetState
first_targets bench = map (first_target bench) (numbers 0 bench.targets)

-- the greatest stamp that an entry of some targets has, 0 where there is none
abbrev pub newest_stamp : List TargetState → ℕ
newest_stamp [] = 0
newest_stamp (t ∷ ts) = max (last_stamp t.past) (newest_stamp ts)

-- ---- one line

-- the name of no entry: no book opens what a bench asks
abbrev pub no_entry : At
no_entry = record { stamp = 0; lock = 0 }

-- The order of a line, whose owner is its number. It goes by the greatest stamp so far.
abbrev pub line_order : ℕ → ℕ → List ℕ → List ℕ → Order
line_order number stamp cdb bytes = record { owner = number; opened = no_entry; names = []; stamp = stamp; cdb = cdb; bytes = bytes }

-- What is asked of target k by the line with a number is done, and it comes to this. A command is done by the row, which carries
-- the requests that come of it; the rest is done by the target alone. No medium ever fails.
abbrev pub IsDoneBy : ℕ → List TargetState → ℕ → BenchAction → List TargetState → LineAnswer → Type 0
IsDoneBy number ts k (Raw cdb bytes) after came =
    (answer : Answer) × (IsRigAnswer true ts k (line_order number (newest_stamp ts) cdb bytes) answer after × (came ≡ Answered answer))
IsDoneBy number ts k Lose after came = Turns k (λ t next. (answer : GoneAt) × IsLost t number (newest_stamp ts) answer next) ts after × (came ≡ Done)
IsDoneBy number ts k Reset after came = Turns k (λ t next. (at : At) × IsReset t number (newest_stamp ts) at next) ts after × (came ≡ Done)
IsDoneBy number ts k DropNext after came = Turns k (λ t next. (at : At) × IsDropping t number (newest_stamp ts) at next) ts after × (came ≡ Done)
IsDoneBy number ts k Fresh after came = Turns k (λ t next. IsFresh t number no_entry (newest_stamp ts) next) ts after × (came ≡ Done)

-- the line with a number is done at the target that it names, and comes to this
abbrev pub IsStep : ℕ → List TargetState → BenchLine → List TargetState → LineAnswer → Type 0
IsStep number ts l after came = IsDoneBy number ts l.target l.action after came

-- ---- all lines

-- A line is done, and this is told of what it came to; so that wasn't want of memory, which isn't told.
pub record IsToldStep (number : ℕ) (ts : List TargetState) (l : BenchLine) (after : List TargetState) (told : List ℕ) : Type 0 where
  pub came : LineAnswer
  pub step : IsStep number ts l after came
  pub tells : told_text came ≡ Some told

-- the lines, numbered from this one on, are done in turn; a line of text for each
abbrev pub AreDone : ℕ → List TargetState → List BenchLine → List TargetState → List ℕ → Type 0
AreDone number ts [] after text = (after ≡ ts) × (text ≡ [])
AreDone number ts (l ∷ lines) after text =
    (next : List TargetState) × ((told : List ℕ) × ((rest : List ℕ) ×
    (IsToldStep number ts l next told × AreDone (suc number) next lines after rest × (text ≡ numbered number told ++ rest))))

-- the entries of each target, the oldest first, behind those of the book, which are none
abbrev pub lists_of : List TargetState → List (List Entry)
lists_of ts = [] ∷ map (λ t. reverse t.past) ts

-- A run of a bench: the text of its lines, and the entries of all targets in the order of their stamps, which are 1, 2, 3
-- and so on.
pub record IsBenchRun (bench : Bench) (journal : List Entry) (text : List ℕ) : Type 0 where
  pub after : List TargetState
  pub done : AreDone 1 (first_targets bench) bench.lines after text
  pub merged : journal ≡ journal_of (lists_of after)
  pub stamped : IsStamped (reverse journal)
