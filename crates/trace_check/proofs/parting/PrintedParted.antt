-- What is printed of a run is parted back into a script, a report and a trace.
use Rattle.std.proofs.Common.{◌≡◌, ℕ, ◌+◌, true, List, ◌++◌, length, take, drop, Option, Some, refl, ap, ◌∙◌}
use Rattle.std.proofs.lemmas.List.{take_at, drop_at}
use Rattle.array_journal.specs.declared.entry.Entry.{Entry}
use Rattle.host_scripts.specs.declared.script.Script.{Script}
use Rattle.host_scripts.specs.Scripts.{spelling, IsScript}
use Rattle.stripe_check.specs.Reports.{report_of}
use Rattle.journal_text.specs.Traces.{trace_of}
use Rattle.trace_check.specs.declared.checking.parting.LineStart.TheVariants as starts
use Rattle.trace_check.specs.Inputs.{Parts, parts_of, parts_in, place_from, trace_place, output_line}
use Rattle.trace_check.specs.Laws.{printed}
use Rattle.text_fields.specs.Reading.{stripped, ◌>>=◌}
use Rattle.text_fields.proofs.Cuts.{stripped-again}
use Rattle.trace_check.proofs.parting.ScriptFound.{script-found}
use Rattle.trace_check.proofs.parting.ReportParted.{report-parted}

parts-again : (script report trace : List ℕ) → place_from starts.Output 0 true (script ++ (output_line ++ (report ++ trace))) ≡ Some (length script) → trace_place (report ++ trace) ≡ length report
    → parts_of (script ++ (output_line ++ (report ++ trace))) ≡ Some (record { script = script; report = report; trace = trace })
unfolding parts_of
parts-again script report trace first split =
    let output = report ++ trace in
    let input = script ++ (output_line ++ output) in
    let made : List ℕ → ℕ → Option Parts = λ t k. Some (record { script = t; report = take k output; trace = drop k output }) in
    let cut : stripped output_line (drop (length script) input) ≡ Some output = ap (stripped output_line) (drop_at script (output_line ++ output) (length script) refl) ∙ stripped-again output_line output in
    ap (λ (o : Option ℕ). o >>= λ place. stripped output_line (drop place input) >>= λ out. Some (parts_in (take place input) out)) first
    ∙ ap (λ (o : Option (List ℕ)). o >>= λ out. Some (parts_in (take (length script) input) out)) cut
    ∙ ap (λ (t : List ℕ). made t (trace_place output)) (take_at script (output_line ++ output) (length script) refl)
    ∙ ap (λ (k : ℕ). made script k) split
    ∙ rw (take_at report trace (length report) refl, drop_at report trace (length report) refl) refl

pub printed-parted : (script : Script) (journal : List Entry) → IsScript script → parts_of (printed script journal) ≡ Some (record { script = spelling script; report = report_of script journal; trace = trace_of journal })
printed-parted script journal is =
    parts-again (spelling script) (report_of script journal) (trace_of journal) (script-found script (report_of script journal ++ trace_of journal) is) (report-parted script journal)
