use Rattle.std.proofs.Common.{List, sym, subst}
use Rattle.array_journal.specs.declared.entry.Entry.{Entry}
use Rattle.stripe_check.proofs.Journals.{read_more}
use Rattle.journal_index.specs.Indexes.{IsIndexOf}
use Rattle.trace_check.proofs.ScanSteps.{scan-on}
use Rattle.trace_check.proofs.asking.entry_scan.scan_entries.Goals as goal

pub loop-place-init : goal.loop-place-init
loop-place-init c = record { scan = c.new-scan.ensures c.args.script.now; index = c.new-index.ensures }

pub loop-place-preserved : goal.loop-place-preserved
loop-place-preserved c =
    let entries = c.as_slice-entries.result.now in
    let place = c.loop-place.place in
    let entry = c.index-entries-place.result in
    let more = read_more entries place entry c.loop-place-test.true (sym c.index-entries-place.is) in
    record {
      scan = scan-on c.args.script.now entries place entry c.new-past.result _ c.add.new.self c.loop-place-test.true (sym c.index-entries-place.is) c.new-past.ensures c.in_ok-add.ensures c.loop-place.invariant.scan;
      index = subst (λ (l : List Entry). IsIndexOf l c.add-in-loop-place.new.self) (sym more) c.in_ok-add-2.ensures;
    }
