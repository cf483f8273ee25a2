-- The law of journals that a script's calls ask for, and what is printed of a run.
use Rattle.std.specs.Prelude.{ℕ, List, ◌++◌}
use Rattle.std.specs.List.{AllByRecursion}
use Rattle.array_journal.specs.declared.entry.Entry.{Entry}
use Rattle.host_scripts.specs.declared.script.Script.{Script}
use Rattle.host_scripts.specs.Scripts.{spelling}
use Rattle.stripe_check.specs.Asked.{IsAsked}
use Rattle.stripe_check.specs.Reports.{report_of}
use Rattle.journal_text.specs.Traces.{trace_of}
use Rattle.trace_check.specs.Inputs.{output_line}
use Rattle.journal_text.specs.Told.{IsToldEntry}

-- a trace tells all of each sense in a journal that a script's calls ask for
abbrev pub ToldJournalsLaw : Type 0
ToldJournalsLaw = (script : Script) (journal : List Entry) → IsAsked script journal → AllByRecursion IsToldEntry journal

-- a script, the line `output`, and the report and the trace of a journal
abbrev pub printed : Script → List Entry → List ℕ
printed script journal = spelling script ++ (output_line ++ (report_of script journal ++ trace_of journal))
