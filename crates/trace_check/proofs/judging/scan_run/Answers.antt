use Rattle.std.proofs.Common.{◌+◌, List, take, reverse, sym, subst, ◌∙◌}
use Rattle.std.proofs.lemmas.Bool.{false≢true}
use Rattle.array_journal.specs.declared.entry.Entry.{Entry}
use Rattle.array_journal.specs.declared.setting.Setting.{Setting}
use Rattle.array_journal.specs.May.{May}
use Rattle.array_journal.specs.Merge.{Rises}
use Rattle.host_requests.specs.Settings.{setting_of}
use Rattle.run_check.specs.RunStates.{IsRunState}
use Rattle.run_check.proofs.Faulty.{run-more, no-run, is-fault}
use Rattle.stripe_check.proofs.Journals.{read_more}
use Rattle.trace_check.specs.Findings.{IsNoRun}
use Rattle.trace_check.proofs.ScanSteps.{scan-on}
use Rattle.trace_check.proofs.judging.scan_run.Goals as goal

pub returns-then-not-follows : goal.returns-then-not-follows
returns-then-not-follows c =
    let script = c.args.script.now in
    let s = c.setting_of-setting.result in
    let entries = c.as_slice-entries.result.now in
    let place = c.loop-place.place in
    let entry = c.index-entries-place.result in
    let is = sym c.index-entries-place.is in
    let refused : May s (reverse (take place entries)) entry → ⊥
    = λ m. false≢true (sym c.if-not-follows.true ∙ c.in_ok-follows.ensures.may.1 m) in
    let found : IsNoRun s entries (place + 1) = record {
      first = is-fault s entries place entry c.loop-place-test.true is c.loop-place.invariant.run refused;
      no_run = no-run s entries place entry c.loop-place-test.true is refused;
    } in
    subst (λ (j : List Entry). IsNoRun (setting_of script) j (place + 1)) c.as_slice-entries.ensures
    (subst (λ (t : Setting). IsNoRun t entries (place + 1)) c.setting_of-setting.ensures.value found)

pub loop-place-init : goal.loop-place-init
loop-place-init c = record { run = tt; state = c.in_ok-state.ensures; scan = c.new-scan.ensures c.args.script.now }

pub loop-place-preserved : goal.loop-place-preserved
loop-place-preserved c =
    let s = c.setting_of-setting.result in
    let entries = c.as_slice-entries.result.now in
    let place = c.loop-place.place in
    let entry = c.index-entries-place.result in
    let is = sym c.index-entries-place.is in
    record {
      run = run-more s entries place entry (subst (λ (j : List Entry). Rises j) (sym c.as_slice-entries.ensures) c.requires.rises) c.loop-place-test.true is
          (c.in_ok-follows.ensures.may.0 c.if-not-follows.false) c.loop-place.invariant.run;
      state = subst (λ (j : List Entry). IsRunState s j c.follow.new.self) (sym (read_more entries place entry c.loop-place-test.true is))
          (c.in_ok-follows.ensures.kept c.if-not-follows.false);
      scan = scan-on c.args.script.now entries place entry c.new-past.result _ c.add.new.self c.loop-place-test.true is c.new-past.ensures c.in_ok-add.ensures c.loop-place.invariant.scan;
    }
