-- How calls of the operator come through their pieces, entry by entry.
use Rattle.std.specs.Prelude.{◌≡◌, ◌==◌, ◌++◌, ◌&&◌, ℕ, Bool, true, false, List, [], ◌∷◌, Option, Some, None, cond, option_map}
use Rattle.std.specs.Fmt.{decimal}
use Rattle.std.proofs.Common.{refl, ap, sym, ◌∙◌, arith}
use Rattle.std.proofs.lemmas.List.{append-nil}
use Rattle.std.proofs.lemmas.Bool.{eq-eqb}
use Rattle.array_journal.specs.declared.entry.Entry.{Entry}
use Rattle.array_journal.specs.declared.event.Event.{Event}
use Rattle.array_journal.specs.declared.event.Event.TheVariants.{Close, Refuse}
use Rattle.array_journal.specs.declared.task.Task.{Task}
use Rattle.array_journal.specs.Calls.{IsNewCall}
use Rattle.array_journal.specs.Commands.{task_of}
use Rattle.text_fields.specs.Spelling.{line}
use Rattle.host_scripts.specs.Scripts.{letter}
use Rattle.stripe_check.specs.declared.command_summary.Tally.{Tally}
use Rattle.stripe_check.specs.Asked.{goes_through}
use Rattle.stripe_check.specs.Replies.{tally_text}
use Rattle.stripe_check.specs.Steps.{Step, Begins, Ends, Refused, Done, GivenUp, call_of, is_call, steps_of}
use Rattle.stripe_check.specs.Tallies.{is_left, is_of_call, more_done, more_left, untold, tally_after, tally_of}
use Rattle.array_control.specs.Passes.{tally_refused}
use Rattle.array_control.specs.PassLaws.{NewPassBegins, UnitBegins, UnitGoesOn, UnitEnds, GivenUpUnitStays, RefusedUnitIsPassed, LastUnitEnds, OthersLeavePasses, PassesAreTold, NewCallsHaveNoSteps, EntriesAddSteps, OthersAddNoSteps}
use Rattle.array_control.specs.Progress.{AreOfOthers, is_doing}
use Rattle.array_control.proofs.Entries.{steps-by, of-other, new-steps}
use Rattle.array_control.proofs.Progress.{same-call, joined, opened-its, is_next-so, done-goes, given_up-goes, its-call, others-steps, others-task, doing-adds_none, doing-opens_none}

-- ---- tallies

tally-by : (n : ℕ) (e : Entry) (past : List Entry) (event : Event) → e.event ≡ event → tally_of n (e ∷ past) ≡ tally_after n event past (tally_of n past)
tally-by n e past event q = ap (λ (x : Event). tally_after n x past (tally_of n past)) q

tally-other : (n : ℕ) (event : Event) (past : List Entry) (tally : Tally) → is_call n (call_of event past) ≡ false → tally_after n event past tally ≡ tally
tally-other n (Close command true names cause bytes) past tally other = by (task_of command past) other
  where
    by : (o : Option Task) → is_call n (option_map (λ (t : Task). t.call) o) ≡ false → cond (is_of_call n o) (more_done tally) tally ≡ tally
    by None h = refl
    by (Some task) h = ap (λ b. cond b (more_done tally) tally) h
tally-other n (Refuse call piece why) past tally other = by (is_left why)
  where
    by : (b : Bool) → cond (b && (call == n)) (more_left tally) tally ≡ tally
    by true = ap (λ b. cond b (more_left tally) tally) other
    by false = refl
tally-other n _ past tally other = refl

tally-doing : (n c : ℕ) (event : Event) (past : List Entry) (tally : Tally) → is_doing c event ≡ true → tally_after n event past tally ≡ tally
tally-doing n c (Close command true names cause bytes) past tally h = cc
tally-doing n c (Refuse call piece why) past tally h = cc
tally-doing n c _ past tally h = refl

new-tally : (n : ℕ) (past : List Entry) → IsNewCall n past → tally_of n past ≡ untold
new-tally n [] new = refl
new-tally n (e ∷ past) new = tally-other n e.event past (tally_of n past) (of-other n e.event past new.0 new.1) ∙ new-tally n past new.1

others-tally : (n : ℕ) (others past : List Entry) → AreOfOthers n others past → tally_of n (others ++ past) ≡ tally_of n past
others-tally n [] past h = refl
others-tally n (e ∷ others) past h = tally-other n e.event (others ++ past) (tally_of n (others ++ past)) h.0 ∙ others-tally n others past h.1

-- ---- pieces

pub pass-begins : NewPassBegins
pass-begins n count past new = record {
  in_count = omega arith;
  steps = λ rest. ap (λ (steps : List Step). goes_through false count 0 0 (steps ++ rest)) (new-steps n past new);
  counted = new-tally n past new;
}

pub unit-begins : UnitBegins
unit-begins n count piece tally c task e past passed within book q of_call of_piece = record {
  in_count = within;
  its_task = opened-its c task e past book q;
  of_call = of_call;
  steps = joined false count (steps_of n past) (Begins piece c ∷ []) (steps_of n (e ∷ past)) (goes_through false count piece 0) passed.steps
      (steps-by n e past _ q (same-call n task.call of_call) ∙ ap (λ p. steps_of n past ++ Begins p c ∷ []) of_piece);
  counted = tally-by n e past _ q ∙ passed.counted;
}

pub unit-goes_on : UnitGoesOn
unit-goes_on n count piece tally c task e past passing h = record {
  in_count = passing.in_count;
  its_task = others-task c (e ∷ []) past (λ book. doing-opens_none c e.event h, tt) ∙ passing.its_task;
  of_call = passing.of_call;
  steps = λ rest. ap (λ (steps : List Step). goes_through false count 0 0 (steps ++ rest))
      (doing-adds_none n c task e past h passing.its_task passing.of_call) ∙ passing.steps rest;
  counted = tally-doing n c e.event past (tally_of n past) h ∙ passing.counted;
}

pub unit-ends : UnitEnds
unit-ends n count piece tally c task names cause made e past passing q = record {
  in_count = omega (arith, passing.in_count);
  steps = λ rest. joined false count (steps_of n past) (Ends c Done ∷ []) (steps_of n (e ∷ past))
      (λ (steps : List Step). goes_through false count piece 0 (Begins piece c ∷ steps)) passing.steps
      (steps-by n e past _ q (its-call n c task past passing.its_task passing.of_call)) rest
      ∙ done-goes false count piece c rest passing.in_count;
  counted = tally-by n e past _ q
      ∙ ap (λ (o : Option Task). cond (is_of_call n o) (more_done (tally_of n past)) (tally_of n past)) passing.its_task
      ∙ ap (λ b. cond b (more_done (tally_of n past)) (tally_of n past)) (same-call n task.call passing.of_call)
      ∙ ap more_done passing.counted;
}

pub given_up-stays : GivenUpUnitStays
given_up-stays n count piece tally c task names cause made e past passing q = record {
  in_count = omega (arith, passing.in_count);
  steps = λ rest. joined false count (steps_of n past) (Ends c GivenUp ∷ []) (steps_of n (e ∷ past))
      (λ (steps : List Step). goes_through false count piece 0 (Begins piece c ∷ steps)) passing.steps
      (steps-by n e past _ q (its-call n c task past passing.its_task passing.of_call)) rest
      ∙ given_up-goes false count piece c rest passing.in_count;
  counted = tally-by n e past _ q ∙ passing.counted;
}

pub refused-passed : RefusedUnitIsPassed
refused-passed n count piece tally why e past passed within q = record {
  in_count = omega (arith, within);
  steps = λ rest. joined false count (steps_of n past) (Refused piece why ∷ []) (steps_of n (e ∷ past)) (goes_through false count piece 0) passed.steps
      (steps-by n e past _ q (same-call n n refl)) rest
      ∙ rw (is_next-so piece count within) refl;
  counted = tally-by n e past _ q
      ∙ ap (λ b. cond (is_left why && b) (more_left (tally_of n past)) (tally_of n past)) (same-call n n refl)
      ∙ either (is_left why) (tally_of n past)
      ∙ ap (tally_refused why) passed.counted;
}
  where
    either : (b : Bool) (t : Tally) → cond (b && true) (more_left t) t ≡ cond b (more_left t) t
    either true t = refl
    either false t = refl

pub last-over : LastUnitEnds
last-over n count tally past passed = record {
  steps = ap (goes_through false count 0 0) (sym (append-nil (steps_of n past))) ∙ passed.steps [] ∙ eq-eqb count count refl;
  counted = passed.counted;
}

pub others-leave_passes : OthersLeavePasses
others-leave_passes n count tally others past h = record {
  passed = λ piece passed. record {
    in_count = passed.in_count;
    steps = λ rest. ap (λ (steps : List Step). goes_through false count 0 0 (steps ++ rest)) (others-steps n others past h) ∙ passed.steps rest;
    counted = others-tally n others past h ∙ passed.counted;
  };
  passing = λ piece c task apart passing. record {
    in_count = passing.in_count;
    its_task = others-task c others past apart ∙ passing.its_task;
    of_call = passing.of_call;
    steps = λ rest. ap (λ (steps : List Step). goes_through false count 0 0 (steps ++ rest)) (others-steps n others past h) ∙ passing.steps rest;
    counted = others-tally n others past h ∙ passing.counted;
  };
  over = λ over. record {
    steps = ap (goes_through false count 0 0) (others-steps n others past h) ∙ over.steps;
    counted = others-tally n others past h ∙ over.counted;
  };
}

pub passes-told : PassesAreTold
passes-told script whole past n tally over = record {
  rebuild = λ slot. over.steps;
  resync = over.steps;
  rebuild_line = λ g host slot. ap (λ (t : Tally). line (decimal n ++ (32 ∷ letter host ∷ 32 ∷ tally_text t))) over.counted;
  resync_line = λ g host. ap (λ (t : Tally). line (decimal n ++ (32 ∷ letter host ∷ 32 ∷ tally_text t))) over.counted;
}

-- ---- steps

pub no-steps : NewCallsHaveNoSteps
no-steps = new-steps

pub entries-add : EntriesAddSteps
entries-add n e past q = steps-by n e past e.event refl (ap (is_call n) q ∙ same-call n n refl)

pub others-add_none : OthersAddNoSteps
others-add_none = others-steps
