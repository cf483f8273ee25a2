use Rattle.std.proofs.Common.{◌+◌, List, take, reverse, sym, subst, ◌∙◌}
use Rattle.std.proofs.lemmas.Bool.{false≢true}
use Rattle.array_journal.specs.declared.entry.Entry.{Entry}
use Rattle.array_journal.specs.May.{May}
use Rattle.array_journal.specs.Merge.{Rises}
use Rattle.array_journal.specs.Run.{Run}
use Rattle.run_check.specs.Faults.{IsFirstFault}
use Rattle.run_check.specs.RunStates.{IsRunState}
use Rattle.run_check.proofs.Faulty.{run-more, no-run, is-fault}
use Rattle.stripe_check.proofs.Journals.{read_more}
use Rattle.run_check.proofs.faults.run_fault.Goals as goal

pub returns-then-not-follows-clause-run : goal.returns-then-not-follows-clause-run
returns-then-not-follows-clause-run c =
    let s = c.args.setting.now in
    let entries = c.as_slice-entries.result.now in
    let place = c.loop-place.place in
    let entry = c.index-entries-place.result in
    let refused : May s (reverse (take place entries)) entry → ⊥
    = λ m. false≢true (sym c.if-not-follows.true ∙ c.in_ok-follows.ensures.may.1 m) in (
      λ h. absurd (false≢true (sym h)),
      λ run. absurd (no-run s entries place entry c.loop-place-test.true (sym c.index-entries-place.is) refused (subst (Run s) (sym c.as_slice-entries.ensures) run)),
    )

pub returns-then-not-follows-clause-first : goal.returns-then-not-follows-clause-first
returns-then-not-follows-clause-first c =
    let s = c.args.setting.now in
    let entries = c.as_slice-entries.result.now in
    let place = c.loop-place.place in
    let entry = c.index-entries-place.result in
    let refused : May s (reverse (take place entries)) entry → ⊥
    = λ m. false≢true (sym c.if-not-follows.true ∙ c.in_ok-follows.ensures.may.1 m) in
    subst (λ (j : List Entry). IsFirstFault s j (place + 1)) c.as_slice-entries.ensures
    (is-fault s entries place entry c.loop-place-test.true (sym c.index-entries-place.is) c.loop-place.invariant.run refused)

pub loop-place-preserved : goal.loop-place-preserved
loop-place-preserved c =
    let s = c.args.setting.now in
    let entries = c.as_slice-entries.result.now in
    let place = c.loop-place.place in
    let entry = c.index-entries-place.result in
    record {
      run = run-more s entries place entry (subst (λ (j : List Entry). Rises j) (sym c.as_slice-entries.ensures) c.requires.rises) c.loop-place-test.true (sym c.index-entries-place.is)
          (c.in_ok-follows.ensures.may.0 c.if-not-follows.false) c.loop-place.invariant.run;
      state = subst (λ (j : List Entry). IsRunState s j c.follow.new.self) (sym (read_more entries place entry c.loop-place-test.true (sym c.index-entries-place.is)))
          (c.in_ok-follows.ensures.kept c.if-not-follows.false);
    }
