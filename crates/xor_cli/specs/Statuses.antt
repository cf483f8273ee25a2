-- What stops a command before it writes.
use Rattle.std.specs.Prelude.{ℕ, ◌≡◌, List, [], Option, Some, None, IfSome}
use Rattle.std.specs.Io.KnownBytes.{IsAtEnd}
use Rattle.host_scripts.specs.declared.script.Limit.{Limit}
use Rattle.array_journal.specs.declared.entry.Entry.{Entry}
use Rattle.outer_io.specs.Outside.{AppendsPrefix}
use Rattle.program_status.specs.declared.notes.Excess.TheVariants as excesses
use Rattle.program_status.specs.declared.status.Verdict.{Verdict}
use Rattle.program_status.specs.declared.status.Verdict.TheVariants as verdicts
use Rattle.program_status.specs.declared.stops.ProgramStop.{ProgramStop}
use Rattle.program_status.specs.declared.stops.ProgramStop.TheVariants.{Usage, ReadFault, Found, Memory}
use Rattle.program_status.specs.Notes.{excess_line}
use Rattle.program_status.specs.Stops as stops
use Rattle.program_status.specs.Stops.{note_of}
use Rattle.program_status.specs.Endings.{StopsBy, StopsReading, StopsProgram}
use Rattle.xor_cli.specs.declared.decoding.values.Format.{Format}
use Rattle.xor_cli.specs.declared.decoding.values.DecodedValue.{DecodedValue}
use Rattle.xor_cli.specs.declared.findings.ToolFinding.{ToolFinding}
use Rattle.xor_cli.specs.declared.findings.ToolFinding.TheVariants.{Refused, Exceeded, Undecodable}
use Rattle.xor_cli.specs.declared.refusals.Reason.TheVariants as reasons
use Rattle.xor_cli.specs.declared.refusals.Refusal.{Refusal}
use Rattle.xor_cli.specs.declared.words.RunCommand.{RunCommand}
use Rattle.xor_cli.specs.Words.{SpellsNoToolCommand, AskRun, AskReading, IsCommand}
use Rattle.xor_cli.specs.Decoding.{IsFault}
use Rattle.xor_cli.specs.DecodeTexts.{value_line, fault_line}
use Rattle.xor_cli.specs.RefusalTexts.{refusal_line}
use Rattle.xor_cli.specs.Inputs.{Subject, passed_limit, later_line, IsRefused, IsExcess}
use Rattle.xor_cli.specs.Endings.{HasFault}

-- ---- what is found, and how that is said

abbrev pub verdict_of : ToolFinding → Verdict
verdict_of (Refused refusal) = verdicts.Refused
verdict_of (Exceeded excess) = verdicts.Exceeded
verdict_of (Undecodable fault) = verdicts.Refused

abbrev pub finding_line : ToolFinding → List ℕ
finding_line (Refused refusal) = refusal_line refusal
finding_line (Exceeded excess) = excess_line excess
finding_line (Undecodable fault) = fault_line fault

-- want of memory, or this finding with its line
abbrev pub IsStopOf : ToolFinding → ProgramStop ToolFinding → Type 0
IsStopOf finding stop = stops.IsStopOf finding_line finding stop

-- the refusal of a line that can't be run yet
abbrev pub later_refusal : ℕ → Refusal
later_refusal number = record { line = number; reason = reasons.Later }

-- ---- of what this is found

-- of bytes that were to be run
abbrev pub IsFoundIn : RunCommand → List ℕ → ToolFinding → Type 0
IsFoundIn run bytes (Refused refusal) = IsRefused run bytes refusal
IsFoundIn run bytes (Exceeded excess) = IsExcess run bytes excess
IsFoundIn run bytes (Undecodable fault) = ⊥

-- of an input that was to be run, where its bytes are known
abbrev pub IsFoundAhead : RunCommand → Option (List ℕ) → ToolFinding → Type 0
IsFoundAhead run input (Refused refusal) = IfSome input (λ bytes. IsRefused run bytes refusal)
IsFoundAhead run input (Exceeded excess) = IfSome input (λ bytes. IsExcess run bytes excess)
IsFoundAhead run input (Undecodable fault) = ⊥

-- of what is spelt
abbrev pub IsFoundOf : (run : RunCommand) → Subject run → ToolFinding → Type 0
IsFoundOf run subject (Refused refusal) =
    (number : ℕ) × ((passed_limit run subject ≡ None) × (later_line run subject ≡ Some number) × (refusal ≡ later_refusal number))
IsFoundOf run subject (Exceeded excess) = (limit : Limit) × ((passed_limit run subject ≡ Some limit) × (excess ≡ excesses.Counted limit))
IsFoundOf run subject (Undecodable fault) = ⊥

-- of bytes to decode
abbrev pub IsFoundAs : Format → List ℕ → ToolFinding → Type 0
IsFoundAs format bytes (Refused refusal) = ⊥
IsFoundAs format bytes (Exceeded excess) = ⊥
IsFoundAs format bytes (Undecodable fault) = IsFault format bytes fault

-- of what the words ask for, and of the input where its bytes are known
abbrev pub IsFoundBy : List (List ℕ) → Option (List ℕ) → ToolFinding → Type 0
IsFoundBy words input (Refused refusal) = (run : RunCommand) × (AskRun run words × IfSome input (λ bytes. IsRefused run bytes refusal))
IsFoundBy words input (Exceeded excess) = (run : RunCommand) × (AskRun run words × IfSome input (λ bytes. IsExcess run bytes excess))
IsFoundBy words input (Undecodable fault) = (format : Format) × ((bytes : List ℕ) × HasFault words format bytes fault)

-- ---- what stops a command

-- a run of what the source gives
abbrev pub StopsSource : RunCommand → Option (List ℕ) → ℕ → ℕ → ProgramStop ToolFinding → Type 0
StopsSource run input before after stop = StopsReading finding_line (IsFoundAhead run input) before after stop

-- a run of bytes that were read
abbrev pub StopsRun : RunCommand → List ℕ → ProgramStop ToolFinding → Type 0
StopsRun run bytes stop = StopsBy finding_line (IsFoundIn run bytes) stop

-- a run of a script or a bench
abbrev pub StopsSubject : (run : RunCommand) → Subject run → ProgramStop ToolFinding → Type 0
StopsSubject run subject stop = StopsBy finding_line (IsFoundOf run subject) stop

-- the decoding of bytes
abbrev pub StopsDecode : Format → List ℕ → ProgramStop ToolFinding → Type 0
StopsDecode format bytes stop = StopsBy finding_line (IsFoundAs format bytes) stop

-- what the words ask for
abbrev pub StopsFor : List (List ℕ) → Option (List ℕ) → ℕ → ℕ → ProgramStop ToolFinding → Type 0
StopsFor words input before after stop = StopsProgram (SpellsNoToolCommand words) (IsCommand words) (AskReading words) finding_line (IsFoundBy words input) before after stop

-- what is left of the input of a run of which this was found: nothing, unless there was too much of it
abbrev pub IsLeftAt : ToolFinding → Option (List ℕ) → Type 0
IsLeftAt (Refused refusal) left = IsAtEnd left
IsLeftAt (Exceeded excesses.Input) left = Unit {0}
IsLeftAt (Exceeded (excesses.Counted limit)) left = IsAtEnd left
IsLeftAt (Undecodable fault) left = Unit {0}

-- what is left of it where the run is stopped so; where a read failed or memory ran out, that may be anything
abbrev pub IsLeftBy : ProgramStop ToolFinding → Option (List ℕ) → Type 0
IsLeftBy Usage left = Unit {0}
IsLeftBy ReadFault left = Unit {0}
IsLeftBy (Found finding note) left = IsLeftAt finding left
IsLeftBy Memory left = Unit {0}

-- notes have gained a beginning of the line that goes with what stops a command
abbrev pub IsNoteCutShort : List (List ℕ) → Option (List ℕ) → ℕ → ℕ → Option (List ℕ) → Option (List ℕ) → Type 0
IsNoteCutShort words input before after old new =
    (stop : ProgramStop ToolFinding) × (StopsFor words input before after stop × AppendsPrefix old new (note_of stop))

-- nothing was run, and the text is the line of the value
abbrev pub IsMadeOf : DecodedValue → List Entry → List ℕ → Type 0
IsMadeOf value journal text = (journal ≡ []) × (text ≡ value_line value)
