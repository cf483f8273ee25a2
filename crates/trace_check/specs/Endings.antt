-- How a check ends, and why.
use Rattle.std.specs.Prelude.{ℕ, ◌≡◌, List, [], ◌∷◌, length, codes, Option, IfSome}
use Rattle.std.specs.Io.KnownBytes.{Appends}
use Rattle.array_journal.specs.declared.entry.Entry.{Entry}
use Rattle.host_scripts.specs.declared.script.Script.{Script}
use Rattle.outer_io.specs.Outside.{AppendsPrefix}
use Rattle.program_status.specs.declared.status.Verdict.{Verdict}
use Rattle.program_status.specs.declared.status.Verdict.TheVariants.{Rejected, Refused, Exceeded}
use Rattle.program_status.specs.declared.stops.ProgramStop.{ProgramStop}
use Rattle.program_status.specs.Statuses.{verdict_code}
use Rattle.program_status.specs.Stops.{note_of}
use Rattle.program_status.specs.Endings as endings
use Rattle.program_status.specs.Endings.{StopsReading, StopsProgram, AfterReading, IsInputTaken, GainsOne, GainsPrefix}
use Rattle.trace_check.specs.declared.checking.findings.CheckFinding.{CheckFinding}
use Rattle.trace_check.specs.declared.checking.findings.CheckFinding.TheVariants as findings
use Rattle.trace_check.specs.Findings.{IsSound, IsFound}
use Rattle.trace_check.specs.Notes.{finding_line, accepted_line}

-- the words ask for a check
abbrev pub AsksCheck : List (List ℕ) → Type 0
AsksCheck words = words ≡ codes "check" ∷ []

-- what isn't a run's, a script that is refused, or a limit that is passed
abbrev pub verdict_of : CheckFinding → Verdict
verdict_of findings.TooLong = Exceeded
verdict_of (findings.Refused number cause) = Refused
verdict_of (findings.Over limit) = Exceeded
verdict_of (findings.TextLine number) = Rejected
verdict_of (findings.RunEntry number) = Rejected
verdict_of findings.Unasked = Rejected
verdict_of (findings.ReportLine number) = Rejected

-- 1, 2 and 7
abbrev pub finding_status : CheckFinding → ℕ
finding_status finding = verdict_code (verdict_of finding)

-- what stops a check of what is found to be so
abbrev pub StopsBy : (CheckFinding → Type 0) → ProgramStop CheckFinding → Type 0
StopsBy Is stop = endings.StopsBy finding_line Is stop

-- what there is in the input and the source's count of faults that stops a check
abbrev pub StopsCheck : Option (List ℕ) → ℕ → ℕ → ProgramStop CheckFinding → Type 0
StopsCheck input before after stop = StopsReading finding_line (λ finding. IfSome input (λ bytes. IsFound bytes finding)) before after stop

-- the words ask for a check, and this is found of the input where its bytes are known
abbrev pub IsFoundBy : List (List ℕ) → Option (List ℕ) → CheckFinding → Type 0
IsFoundBy words input finding = AsksCheck words × IfSome input (λ bytes. IsFound bytes finding)

-- what there is in the words besides
abbrev pub StopsFor : List (List ℕ) → Option (List ℕ) → ℕ → ℕ → ProgramStop CheckFinding → Type 0
StopsFor words input before after stop = StopsProgram (AsksCheck words → ⊥) (AsksCheck words) (AsksCheck words) finding_line (IsFoundBy words input) before after stop

-- the bytes are those of a run with so many entries
abbrev pub IsRunOf : List ℕ → ℕ → Type 0
IsRunOf bytes entries = (script : Script) × ((journal : List Entry) × (IsSound bytes script journal × (entries ≡ length journal)))

-- the words ask for a check, and the text says how many entries the run has
abbrev pub IsTold : List (List ℕ) → Option (List ℕ) → List ℕ → Type 0
IsTold words input text = AsksCheck words × ((entries : ℕ) × (IfSome input (λ bytes. IsRunOf bytes entries) × (text ≡ accepted_line entries)))

-- out has gained the line of an input that is accepted, or a beginning of it
abbrev pub IsDone : List (List ℕ) → Option (List ℕ) → Option (List ℕ) → Option (List ℕ) → Type 0
IsDone words input before after = GainsOne (IsTold words input) before after

abbrev pub IsCutShort : List (List ℕ) → Option (List ℕ) → Option (List ℕ) → Option (List ℕ) → Type 0
IsCutShort words input before after = GainsPrefix (IsTold words input) before after

-- notes have gained a beginning of the line that goes with what stops a check; where this was found in the input, the
-- input is taken
abbrev pub IsNoteCutShort : List (List ℕ) → Option (List ℕ) → Option (List ℕ) → ℕ → ℕ → Option (List ℕ) → Option (List ℕ) → Type 0
IsNoteCutShort words input left before after old new =
    (stop : ProgramStop CheckFinding) × (StopsFor words input before after stop × AfterReading (IsInputTaken input left) stop × AppendsPrefix old new (note_of stop))

-- notes have gained the line of a finding with this status
abbrev pub IsNoted : List (List ℕ) → Option (List ℕ) → ℕ → Option (List ℕ) → Option (List ℕ) → Type 0
IsNoted words input status before after =
    AsksCheck words
    × ((finding : CheckFinding) × (IfSome input (λ bytes. IsFound bytes finding) × ((finding_status finding ≡ status) × Appends before after (finding_line finding))))
