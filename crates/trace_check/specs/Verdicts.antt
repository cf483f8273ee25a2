-- What both judges find a journal to be.
use Rattle.std.specs.Prelude.{List}
use Rattle.array_journal.specs.declared.entry.Entry.{Entry}
use Rattle.array_journal.specs.Run.{Run}
use Rattle.host_scripts.specs.declared.script.Script.{Script}
use Rattle.host_requests.specs.Settings.{setting_of}
use Rattle.stripe_check.specs.Asked.{IsAsked}
use Rattle.trace_check.specs.Findings.{IsNoRun}
use Rattle.trace_check.specs.declared.judging.RunVerdict.{RunVerdict}
use Rattle.trace_check.specs.declared.judging.RunVerdict.TheVariants.{Faulty, Unasked, Asked}

abbrev pub IsVerdictOn : Script → List Entry → RunVerdict → Type 0
IsVerdictOn script journal (Faulty entry) = IsNoRun (setting_of script) journal entry
IsVerdictOn script journal Unasked = Run (setting_of script) journal × (IsAsked script journal → ⊥)
IsVerdictOn script journal Asked = Run (setting_of script) journal × IsAsked script journal
