-- How a command ends, and why.
use Rattle.std.specs.Prelude.{ℕ, ◌≡◌, ◌⊎◌, Bool, true, false, List, [], ◌++◌, Option, IfSome}
use Rattle.std.specs.Io.KnownBytes.{Appends}
use Rattle.host_scripts.specs.declared.script.Script.{Script}
use Rattle.array_journal.specs.declared.entry.Entry.{Entry}
use Rattle.bench_runs.specs.BenchRuns.{IsBenchRun}
use Rattle.stripe_check.specs.Reports.{report_of}
use Rattle.journal_text.specs.Traces.{trace_of}
use Rattle.xor_cli.specs.declared.decoding.faults.DecodeFault.{DecodeFault}
use Rattle.xor_cli.specs.declared.decoding.values.Format.{Format}
use Rattle.xor_cli.specs.declared.decoding.values.DecodedValue.{DecodedValue}
use Rattle.xor_cli.specs.declared.refusals.Refusal.{Refusal}
use Rattle.program_status.specs.declared.notes.Excess.{Excess}
use Rattle.program_status.specs.Notes.{excess_line}
use Rattle.program_status.specs.Endings.{GainsOne, GainsPrefix}
use Rattle.xor_cli.specs.declared.words.RunCommand.{RunCommand}
use Rattle.xor_cli.specs.declared.words.RunCommand.TheVariants.{Step, Target}
use Rattle.xor_cli.specs.declared.words.ToolCommand.TheVariants.{Decode}
use Rattle.xor_cli.specs.Decoding.{IsValue, IsFault}
use Rattle.xor_cli.specs.DecodeTexts.{value_line, fault_line}
use Rattle.xor_cli.specs.RefusalTexts.{refusal_line}
use Rattle.xor_cli.specs.Inputs.{Subject, CanRunAs, IsAccepted, IsRefused, IsExcess}
use Rattle.xor_cli.specs.Words.{SpellsToolCommand, AskRun}
use Rattle.xor_cli.specs.Headline.{IsJournalOf}

-- ---- what is written

-- the report of a run, and where it is asked for the trace behind it
abbrev pub step_text : Bool → Script → List Entry → List ℕ
step_text false script journal = report_of script journal
step_text true script journal = report_of script journal ++ trace_of journal

-- a journal of a run of a script, and its report; the targets' entries of a bench, and its answers
abbrev pub IsMade : (run : RunCommand) → Subject run → List Entry → List ℕ → Type 0
IsMade (Step traced) script journal text = IsJournalOf script journal × (text ≡ step_text traced script journal)
IsMade Target bench journal text = IsBenchRun bench journal text

-- the words ask for this run, the input is this script or bench where its bytes are known, and journal and text are those of a run of it
pub record HasRun (words : List (List ℕ)) (run : RunCommand) (input : Option (List ℕ)) (subject : Subject run) (journal : List Entry) (text : List ℕ) : Type 0 where
  pub command : AskRun run words
  pub runnable : CanRunAs run subject
  pub spelt : IfSome input (λ bytes. IsAccepted run bytes subject)
  pub made : IsMade run subject journal text

-- the words ask what these bytes are in a format, the bytes spell this value, and nothing was run
pub record HasDecoded (words : List (List ℕ)) (format : Format) (bytes : List ℕ) (value : DecodedValue) (journal : List Entry) : Type 0 where
  pub command : SpellsToolCommand words (Decode format bytes)
  pub spelt : IsValue format bytes value
  pub run : journal ≡ []

-- the text is that of what was run
abbrev pub IsRunText : List (List ℕ) → Option (List ℕ) → List Entry → List ℕ → Type 0
IsRunText words input journal text =
    (run : RunCommand) × ((subject : Subject run) × HasRun words run input subject journal text)

-- the text is the line of a value that was decoded
abbrev pub IsValueLine : List (List ℕ) → List Entry → List ℕ → Type 0
IsValueLine words journal text =
    (format : Format) × ((bytes : List ℕ) × ((value : DecodedValue) × (HasDecoded words format bytes value journal × (text ≡ value_line value))))

-- the text is all that a command writes
abbrev pub IsOutput : List (List ℕ) → Option (List ℕ) → List Entry → List ℕ → Type 0
IsOutput words input journal text = IsRunText words input journal text ⊎ IsValueLine words journal text

-- out has gained it
abbrev pub IsDone : List (List ℕ) → Option (List ℕ) → Option (List ℕ) → Option (List ℕ) → List Entry → Type 0
IsDone words input before after journal = GainsOne (IsOutput words input journal) before after

-- out has gained a beginning of it
abbrev pub IsCutShort : List (List ℕ) → Option (List ℕ) → Option (List ℕ) → Option (List ℕ) → List Entry → Type 0
IsCutShort words input before after journal = GainsPrefix (IsOutput words input journal) before after

-- ---- what is noted

-- the words ask for a run, and the input is refused with this line where its bytes are known
abbrev pub IsRefusedRun : List (List ℕ) → Option (List ℕ) → List ℕ → Type 0
IsRefusedRun words input note =
    (run : RunCommand) × ((refusal : Refusal) × (AskRun run words × IfSome input (λ bytes. IsRefused run bytes refusal) × (note ≡ refusal_line refusal)))

-- the words ask what these bytes are in a format, and they spell no value; their first fault is this
pub record HasFault (words : List (List ℕ)) (format : Format) (bytes : List ℕ) (fault : DecodeFault) : Type 0 where
  pub command : SpellsToolCommand words (Decode format bytes)
  pub first : IsFault format bytes fault

abbrev pub IsFaultLine : List (List ℕ) → List ℕ → Type 0
IsFaultLine words note =
    (format : Format) × ((bytes : List ℕ) × ((fault : DecodeFault) × (HasFault words format bytes fault × (note ≡ fault_line fault))))

-- the line of notes of a refusal
abbrev pub IsRefusal : List (List ℕ) → Option (List ℕ) → List ℕ → Type 0
IsRefusal words input note = IsRefusedRun words input note ⊎ IsFaultLine words note

-- notes have gained it
abbrev pub IsRefusalNoted : List (List ℕ) → Option (List ℕ) → Option (List ℕ) → Option (List ℕ) → Type 0
IsRefusalNoted words input before after = (note : List ℕ) × (IsRefusal words input note × Appends before after note)

-- the words ask for a run, the input has too much of this where its bytes are known, and notes have gained its line
abbrev pub IsExcessNoted : List (List ℕ) → Option (List ℕ) → Option (List ℕ) → Option (List ℕ) → Type 0
IsExcessNoted words input before after =
    (run : RunCommand) × ((excess : Excess) × (AskRun run words × IfSome input (λ bytes. IsExcess run bytes excess) × Appends before after (excess_line excess)))
