-- What stops a program before it has anything to write: with which status it ends then, and what it notes.
use Rattle.std.specs.Prelude.{ℕ, ◌≡◌, ◌⊎◌, ◌==◌, if◌then◌else◌, List, [], codes}
use Rattle.text_fields.specs.Spelling.{line}
use Rattle.outer_io.specs.declared.input.InputFault.{InputFault}
use Rattle.outer_io.specs.declared.input.InputFault.TheVariants as faults
use Rattle.program_status.specs.declared.status.Status.{Status}
use Rattle.program_status.specs.declared.status.Status.TheVariants as statuses
use Rattle.program_status.specs.declared.status.Verdict.{Verdict}
use Rattle.program_status.specs.declared.stops.ProgramStop.{ProgramStop}
use Rattle.program_status.specs.declared.stops.ProgramStop.TheVariants.{Usage, ReadFault, Found, Memory}

abbrev pub status_of : {F : Type 0} → (F → Verdict) → ProgramStop F → Status
status_of verdict Usage = statuses.Usage
status_of verdict ReadFault = statuses.ReadFault
status_of verdict (Found finding note) = statuses.Found (verdict finding)
status_of verdict Memory = statuses.NoMemory

-- the lines that aren't a finding's
abbrev pub usage_line : List ℕ
usage_line = line (codes "usage")

abbrev pub read_fault_line : List ℕ
read_fault_line = line (codes "read fault")

abbrev pub no_memory_line : List ℕ
no_memory_line = line (codes "no memory")

abbrev pub note_of : {F : Type 0} → ProgramStop F → List ℕ
note_of Usage = usage_line
note_of ReadFault = read_fault_line
note_of (Found finding note) = note
note_of Memory = no_memory_line

-- the line of notes that goes with a status that no finding has; none goes with success
abbrev pub noted_for : ℕ → List ℕ
noted_for status =
    if status == 64 then usage_line
    else if status == 3 then read_fault_line
    else if status == 5 then no_memory_line
    else []

-- what a fault of the input stops a program with
abbrev pub stop_of : {F : Type 0} → InputFault → ProgramStop F
stop_of faults.Failed = ReadFault
stop_of faults.Memory = Memory

-- want of memory, or this finding with its line
abbrev pub IsStopOf : {F : Type 0} → (F → List ℕ) → F → ProgramStop F → Type 0
IsStopOf line finding stop = (stop ≡ Found finding (line finding)) ⊎ (stop ≡ Memory)
