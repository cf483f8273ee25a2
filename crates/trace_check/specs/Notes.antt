-- The lines that say what an input is found to be.
use Rattle.std.specs.Prelude.{ℕ, List, codes}
use Rattle.text_fields.specs.Spelling.{line}
use Rattle.program_status.specs.declared.notes.Excess.TheVariants.{Input, Counted}
use Rattle.program_status.specs.Notes.{excess_line, cause_word, numbered_line, refused_line}
use Rattle.trace_check.specs.declared.checking.findings.CheckFinding.{CheckFinding}
use Rattle.trace_check.specs.declared.checking.findings.CheckFinding.TheVariants as findings

abbrev pub finding_line : CheckFinding → List ℕ
finding_line findings.TooLong = excess_line Input
finding_line (findings.Refused number cause) = refused_line number (cause_word cause)
finding_line (findings.Over limit) = excess_line (Counted limit)
finding_line (findings.TextLine number) = numbered_line (codes "rejected text line") number
finding_line (findings.RunEntry number) = numbered_line (codes "rejected run entry") number
finding_line findings.Unasked = line (codes "rejected asked")
finding_line (findings.ReportLine number) = numbered_line (codes "rejected report line") number

abbrev pub accepted_line : ℕ → List ℕ
accepted_line entries = numbered_line (codes "accepted entries") entries
