-- What a walk over the entries of a journal finds. A list called past has the newest entry first.
use Rattle.std.specs.Prelude.{◌≡◌, ◌↔◌, IsTrue, ℕ, List, reverse}
use Rattle.array_journal.specs.declared.entry.Entry.{Entry}
use Rattle.array_journal.specs.Run.{Run}
use Rattle.host_scripts.specs.declared.script.Script.{Script}
use Rattle.host_requests.specs.Settings.{setting_of}
use Rattle.stripe_check.specs.Asked.{AreDecided, are_owned}
use Rattle.journal_index.specs.Indexes.{IsIndexOf}
use Rattle.trace_check.specs.EntrySteps.{AreStepsOf}
use Rattle.trace_check.specs.Findings.{IsNoRun}
use Rattle.trace_check.specs.declared.asking.entry_scan.EntryScan.{EntryScan}
use Rattle.trace_check.specs.declared.asking.entry_scan.ScannedEntries.{ScannedEntries}
use Rattle.trace_check.specs.declared.judging.RunScan.{RunScan}
use Rattle.trace_check.specs.declared.judging.RunScan.TheVariants.{Faulty, Run as WholeRun}

-- the steps are those of these entries, and the two answers are whether each is decided and owned
pub record IsScanOf (script : Script) (past : List Entry) (scan : EntryScan) : Type 0 where
  pub entry_steps : AreStepsOf (reverse scan.entry_steps.items) past
  pub decided : IsTrue scan.decided ↔ AreDecided script past
  pub owned : scan.owned ≡ are_owned script past

-- with the index of these entries
pub record AreScanned (script : Script) (past : List Entry) (scanned : ScannedEntries) : Type 0 where
  pub scan : IsScanOf script past scanned.scan
  pub index : IsIndexOf past scanned.index

-- the journal is no run, by its first entry that may not follow; or it is one, and its entries were scanned
abbrev pub IsRunScan : Script → List Entry → RunScan → Type 0
IsRunScan script journal (Faulty entry) = IsNoRun (setting_of script) journal entry
IsRunScan script journal (WholeRun scanned) = Run (setting_of script) journal × AreScanned script (reverse journal) scanned
