-- Which inputs are accepted, and what the others are found to be.
use Rattle.std.specs.Prelude.{ℕ, ◌≡◌, ◌≤◌, ◌<◌, ◌+◌, ◌==◌, if◌then◌else◌, List, [], ◌∷◌, ◌++◌, length, Option, Some, None}
use Rattle.std.specs.List.{count_by}
use Rattle.array_journal.specs.Guarded.{IsGuarded}
use Rattle.array_journal.specs.declared.entry.Entry.{Entry}
use Rattle.array_journal.specs.declared.setting.Setting.{Setting}
use Rattle.array_journal.specs.Run.{Run, ConservedThroughout, IsLegal}
use Rattle.host_scripts.specs.declared.script.Script.{Script}
use Rattle.host_scripts.specs.declared.script.Cause.TheVariants.{Form}
use Rattle.host_scripts.specs.Scripts as scripts
use Rattle.host_scripts.specs.Scripts.{spelling, IsScript}
use Rattle.host_scripts.specs.Refusals.{IsRefusal}
use Rattle.host_scripts.specs.Limits.{limit_of}
use Rattle.outer_io.specs.Outside.{input_limit}
use Rattle.stripe_check.specs.Asked.{IsAsked}
use Rattle.host_requests.specs.Settings.{setting_of}
use Rattle.stripe_check.specs.Reports.{report_of}
use Rattle.journal_text.specs.Traces.{trace_of}
use Rattle.trace_check.specs.declared.checking.findings.CheckFinding.{CheckFinding}
use Rattle.trace_check.specs.declared.checking.findings.CheckFinding.TheVariants.{TooLong, Refused, Over, TextLine, RunEntry, Unasked, ReportLine}
use Rattle.trace_check.specs.Inputs.{Parts, parts_of, output_line}
use Rattle.journal_text.specs.Readable as readable
use Rattle.run_check.specs.Faults as faults

-- ---- numbers of lines

-- how many lines end
abbrev pub line_ends : List ℕ → ℕ
line_ends bytes = count_by (λ b. b == 10) bytes

-- the bytes at the front that two texts have in common
abbrev pub common : List ℕ → List ℕ → List ℕ
common [] other = []
common (b ∷ text) [] = []
common (b ∷ text) (c ∷ other) = if b == c then b ∷ common text other else []

-- the number of the first line in which two texts differ
abbrev pub differing_line : List ℕ → List ℕ → ℕ
differing_line text other = line_ends (common text other) + 1

-- ---- the input that is accepted

-- The input is within its limit. Its parts are a script that is within the limits, the report of a journal, and the trace
-- of that journal, which is a run and what the script's calls ask for.
pub record IsAccepted (input : List ℕ) (script : Script) (journal : List Entry) : Type 0 where
  pub short : length input ≤ input_limit
  pub parted : parts_of input ≡ Some (record { script = spelling script; report = report_of script journal; trace = trace_of journal })
  pub in_range : IsScript script
  pub within : limit_of script ≡ None
  pub readable : readable.IsTraced journal
  pub run : Run (setting_of script) journal
  pub asked : IsAsked script journal

-- The bytes of such an input; nothing is lost after any entry of the journal, and what hosts were told is what one plain
-- list of sectors says; commands that run alone are undisturbed, no act follows the end of its command, and absent units
-- are those missing or gone.
pub record IsSound (input : List ℕ) (script : Script) (journal : List Entry) : Type 0 where
  pub accepted : IsAccepted input script journal
  pub whole : input ≡ spelling script ++ (output_line ++ (report_of script journal ++ trace_of journal))
  pub conserved : ConservedThroughout (setting_of script) journal
  pub legal : IsLegal (setting_of script) journal
  pub guarded : IsGuarded journal

-- ---- what the others are found to be

-- the first part is this script, which is within the limits, and the last the trace of this journal
pub record HasJournal (parts : Parts) (script : Script) (journal : List Entry) : Type 0 where
  pub spelt : scripts.SpellsScript parts.script script
  pub within : limit_of script ≡ None
  pub traced : readable.SpellsTrace parts.trace journal

-- an entry may not follow those before
pub record IsNoRun (s : Setting) (journal : List Entry) (number : ℕ) : Type 0 where
  pub first : faults.IsFirstFault s journal number
  pub no_run : Run s journal → ⊥

-- the journal is what the calls ask for, but the report is another's
pub record IsMisreported (script : Script) (journal : List Entry) (report : List ℕ) (number : ℕ) : Type 0 where
  pub run : Run (setting_of script) journal
  pub asked : IsAsked script journal
  pub differs : report ≡ report_of script journal → ⊥
  pub first : number ≡ differing_line report (report_of script journal)

-- what a journal with a report is found to be
abbrev pub IsFoundOf : Script → List Entry → List ℕ → CheckFinding → Type 0
IsFoundOf script journal report TooLong = ⊥
IsFoundOf script journal report (Refused number cause) = ⊥
IsFoundOf script journal report (Over limit) = ⊥
IsFoundOf script journal report (TextLine number) = ⊥
IsFoundOf script journal report (RunEntry number) = IsNoRun (setting_of script) journal number
IsFoundOf script journal report Unasked = Run (setting_of script) journal × (IsAsked script journal → ⊥)
IsFoundOf script journal report (ReportLine number) = IsMisreported script journal report number

-- the same of the parts of an input, for a script that is within the limits
abbrev pub IsFoundFor : Parts → CheckFinding → Type 0
IsFoundFor parts finding = (script : Script) × ((journal : List Entry) × (HasJournal parts script journal × IsFoundOf script journal parts.report finding))

-- the trace has a first line that spells no entry that may stand behind those before; it is counted in the whole input
pub record IsUnspelt (parts : Parts) (script : Script) (number line : ℕ) : Type 0 where
  pub spelt : scripts.SpellsScript parts.script script
  pub within : limit_of script ≡ None
  pub first : readable.IsFirstFaultyLine parts.trace line
  pub counted : number ≡ line_ends parts.script + 1 + line_ends parts.report + line

-- the parts are those of a run
pub record IsRunIn (parts : Parts) (script : Script) (journal : List Entry) : Type 0 where
  pub has : HasJournal parts script journal
  pub run : Run (setting_of script) journal
  pub asked : IsAsked script journal
  pub report : parts.report ≡ report_of script journal

-- the journal is a run and what the script's calls ask for, this is its report, and it has so many entries
abbrev pub IsReported : Script → List Entry → List ℕ → ℕ → Type 0
IsReported script journal report entries =
    Run (setting_of script) journal × IsAsked script journal × (report ≡ report_of script journal) × (entries ≡ length journal)

abbrev pub IsJournalOf : List ℕ → List Entry → Type 0
IsJournalOf trace journal = readable.SpellsTrace trace journal

-- what a script's bytes are found to be
abbrev pub IsScriptFault : List ℕ → CheckFinding → Type 0
IsScriptFault bytes TooLong = ⊥
IsScriptFault bytes (Refused number cause) = IsRefusal bytes number cause
IsScriptFault bytes (Over limit) = (script : Script) × (scripts.SpellsScript bytes script × (limit_of script ≡ Some limit))
IsScriptFault bytes (TextLine number) = ⊥
IsScriptFault bytes (RunEntry number) = ⊥
IsScriptFault bytes Unasked = ⊥
IsScriptFault bytes (ReportLine number) = ⊥

-- what a trace behind so many lines is found to be
abbrev pub IsTraceFault : List ℕ → ℕ → CheckFinding → Type 0
IsTraceFault trace ahead TooLong = ⊥
IsTraceFault trace ahead (Refused number cause) = ⊥
IsTraceFault trace ahead (Over limit) = ⊥
IsTraceFault trace ahead (TextLine number) = (line : ℕ) × (readable.IsFirstFaultyLine trace line × (number ≡ ahead + line))
IsTraceFault trace ahead (RunEntry number) = ⊥
IsTraceFault trace ahead Unasked = ⊥
IsTraceFault trace ahead (ReportLine number) = ⊥

-- what the parts are found to be
abbrev pub IsFoundIn : Parts → CheckFinding → Type 0
IsFoundIn parts TooLong = ⊥
IsFoundIn parts (Refused number cause) = IsRefusal parts.script number cause
IsFoundIn parts (Over limit) = (script : Script) × (scripts.SpellsScript parts.script script × (limit_of script ≡ Some limit))
IsFoundIn parts (TextLine number) = (script : Script) × ((line : ℕ) × IsUnspelt parts script number line)
IsFoundIn parts (RunEntry number) = IsFoundFor parts (RunEntry number)
IsFoundIn parts Unasked = IsFoundFor parts Unasked
IsFoundIn parts (ReportLine number) = IsFoundFor parts (ReportLine number)

-- no line is `output`, or the parts are found to be this
abbrev pub IsFoundAt : Option Parts → CheckFinding → Type 0
IsFoundAt (Some parts) finding = IsFoundIn parts finding
IsFoundAt None TooLong = ⊥
IsFoundAt None (Refused number cause) = (number ≡ 0) × (cause ≡ Form)
IsFoundAt None (Over limit) = ⊥
IsFoundAt None (TextLine number) = ⊥
IsFoundAt None (RunEntry number) = ⊥
IsFoundAt None Unasked = ⊥
IsFoundAt None (ReportLine number) = ⊥

-- what an input is found to be, the first that applies
abbrev pub IsFound : List ℕ → CheckFinding → Type 0
IsFound input TooLong = input_limit < length input
IsFound input (Refused number cause) = (length input ≤ input_limit) × IsFoundAt (parts_of input) (Refused number cause)
IsFound input (Over limit) = (length input ≤ input_limit) × IsFoundAt (parts_of input) (Over limit)
IsFound input (TextLine number) = (length input ≤ input_limit) × IsFoundAt (parts_of input) (TextLine number)
IsFound input (RunEntry number) = (length input ≤ input_limit) × IsFoundAt (parts_of input) (RunEntry number)
IsFound input Unasked = (length input ≤ input_limit) × IsFoundAt (parts_of input) Unasked
IsFound input (ReportLine number) = (length input ≤ input_limit) × IsFoundAt (parts_of input) (ReportLine number)
