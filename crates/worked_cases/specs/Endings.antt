-- How a list of cases ends, and why.
use Rattle.std.specs.Prelude.{ℕ, ◌+◌, List, [], take, Option, IfSome}
use Rattle.std.specs.Io.KnownBytes.{Appends}
use Rattle.outer_io.specs.Outside.{input_limit}
use Rattle.program_status.specs.declared.status.Verdict.{Verdict}
use Rattle.program_status.specs.declared.status.Verdict.TheVariants.{Refused}
use Rattle.program_status.specs.declared.stops.ProgramStop.{ProgramStop}
use Rattle.program_status.specs.Endings.{Counts, GainsOne, HasCause, StopsBy, StopsReading}
use Rattle.worked_cases.specs.declared.faults.ListFault.TheVariants as faults
use Rattle.worked_cases.specs.declared.lists.CaseRun.{CaseRun}
use Rattle.worked_cases.specs.declared.top.NoList.{NoList}
use Rattle.worked_cases.specs.Faults.{fault_line}
use Rattle.worked_cases.specs.Lines.{IsFaultOf}
use Rattle.worked_cases.specs.Runs.{AreTold}

-- the text tells what the calls of runs answered
abbrev pub IsAnswered : List ℕ → Type 0
IsAnswered text = (runs : List CaseRun) × AreTold runs [] text

-- a list that is none is refused with this line
abbrev pub verdict_of : NoList → Verdict
verdict_of finding = Refused

abbrev pub no_list_line : NoList → List ℕ
no_list_line finding = fault_line finding.number finding.expected

-- the line that isn't taken is one of the list
abbrev pub IsNoLine : List ℕ → NoList → Type 0
IsNoLine list finding = IsFaultOf list (faults.Line finding.number finding.expected)

-- the same of the input, of which no more is read than one byte past the limit
abbrev pub IsNoLineOf : Option (List ℕ) → NoList → Type 0
IsNoLineOf input finding = IfSome input (λ bytes. IsNoLine (take (input_limit + 1) bytes) finding)

-- what there is in a list that stops it
abbrev pub StopsList : List ℕ → ProgramStop NoList → Type 0
StopsList list stop = StopsBy no_list_line (IsNoLine list) stop

-- what there is in the input and in the source's count of faults
abbrev pub StopsSource : Option (List ℕ) → ℕ → ℕ → ProgramStop NoList → Type 0
StopsSource input before after stop = StopsReading no_list_line (IsNoLineOf input) before after stop

-- the program has no words, and always reads its source
abbrev pub HasListCause : Counts → Counts → ℕ → Type 0
HasListCause before after status = HasCause ⊥ (Unit {0}) (Unit {0}) before after status

-- out has gained what the calls of runs answered
abbrev pub IsDone : Option (List ℕ) → Option (List ℕ) → Type 0
IsDone before after = GainsOne IsAnswered before after

-- notes have gained a line that names a line of the input
abbrev pub IsNoList : Option (List ℕ) → Option (List ℕ) → Option (List ℕ) → Type 0
IsNoList input before after = (finding : NoList) × (IsNoLineOf input finding × Appends before after (no_list_line finding))
