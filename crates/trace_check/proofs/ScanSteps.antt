-- A walk over the entries of a journal, one entry further.
use Rattle.std.proofs.Common.{◌≡◌, ℕ, ◌+◌, ◌<◌, List, ◌∷◌, length, take, get_or, reverse, sym, subst}
use Rattle.array_journal.specs.declared.entry.Entry.{Entry}
use Rattle.host_scripts.specs.declared.script.Script.{Script}
use Rattle.stripe_check.proofs.Journals.{read_more}
use Rattle.trace_check.specs.Scans.{IsScanOf}
use Rattle.trace_check.specs.declared.asking.entry_scan.EntryScan.{EntryScan}

-- what the entries read so far tell, once one more is read
pub scan-on : (script : Script) (entries : List Entry) (k : ℕ) (e : Entry) (past : List Entry) (scan grown : EntryScan) → k < length entries → get_or entries k e ≡ e
    → past ≡ reverse (take k entries) → (IsScanOf script past scan → IsScanOf script (e ∷ past) grown)
    → IsScanOf script (reverse (take k entries)) scan → IsScanOf script (reverse (take (k + 1) entries)) grown
scan-on script entries k e past scan grown lt here read step before =
    subst (λ (l : List Entry). IsScanOf script l grown) (sym (read_more entries k e lt here))
    (subst (λ (l : List Entry). IsScanOf script (e ∷ l) grown) read (step (subst (λ (l : List Entry). IsScanOf script l scan) (sym read) before)))
