use Rattle.array_control.proofs.Passes.{pass-begins, unit-begins, unit-goes_on, unit-ends, given_up-stays, refused-passed, last-over, others-leave_passes, passes-told}
use Rattle.array_control.proofs.laws.passes_go_over_all.Goals as goal

pub returns : goal.returns
returns c = record {
  begins = pass-begins;
  unit_begins = unit-begins;
  goes_on = unit-goes_on;
  done = unit-ends;
  given_up = given_up-stays;
  refused = refused-passed;
  over = last-over;
  others = others-leave_passes;
  told = passes-told;
}
