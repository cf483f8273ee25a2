-- The steps of a journal, read entry by entry.
use Rattle.std.proofs.Common.{◌≡◌, ℕ, ◌+◌, ◌<◌, List, [], ◌∷◌, ◌++◌, length, take, get_or, reverse, refl, sym, ap, subst, ◌∙◌}
use Rattle.std.specs.Prelude.{Option}
use Rattle.std.proofs.lemmas.List.{take_more, reverse-append}
use Rattle.array_journal.specs.declared.entry.Entry.{Entry}
use Rattle.stripe_check.specs.Asked.{call_list, calls_seen}
use Rattle.stripe_check.specs.Steps.{call_of, steps_of, steps_by}
use Rattle.trace_check.specs.EntrySteps.{IsStepOf, AreStepsOf, steps_in, steps_with, calls_in}
use Rattle.trace_check.specs.declared.asking.entry_steps.EntryStep.{EntryStep}

pub read_step : (xs : List EntryStep) (k : ℕ) (e : EntryStep) → k < length xs → get_or xs k e ≡ e → reverse (take (k + 1) xs) ≡ e ∷ reverse (take k xs)
read_step xs k e lt h =
    ap reverse (take_more xs k e lt) ∙ reverse-append (take k xs) (get_or xs k e ∷ []) ∙ ap (λ x. x ∷ reverse (take k xs)) h

-- one more step at the end is that of one more entry
pub entry_steps-put : (ms grown : List EntryStep) (m : EntryStep) (past : List Entry) (e : Entry) → grown ≡ ms ++ m ∷ [] → IsStepOf m e past
    → AreStepsOf (reverse ms) past → AreStepsOf (reverse grown) (e ∷ past)
entry_steps-put ms grown m past e more entry_step before =
    subst (λ (l : List EntryStep). AreStepsOf (reverse l) (e ∷ past)) (sym more)
    (subst (λ (l : List EntryStep). AreStepsOf l (e ∷ past)) (sym (reverse-append ms (m ∷ []))) (entry_step, before))

-- the calls of a journal's steps are its calls
pub marked-calls : (entry_steps : List EntryStep) (past : List Entry) → AreStepsOf entry_steps past → calls_in entry_steps ≡ calls_seen past
marked-calls [] [] h = refl
marked-calls [] (e ∷ past) h = absurd h
marked-calls (entry_step ∷ entry_steps) [] h = absurd h
marked-calls (entry_step ∷ entry_steps) (e ∷ past) h =
    ap (λ (o : Option ℕ). call_list o ++ calls_in entry_steps) h.0.of_call ∙ ap (λ l. call_list (call_of e.event past) ++ l) (marked-calls entry_steps past h.1)

-- and the steps of a call are the same
pub marked-steps : (n : ℕ) (entry_steps : List EntryStep) (past : List Entry) → AreStepsOf entry_steps past → steps_in n entry_steps ≡ steps_of n past
marked-steps n [] [] h = refl
marked-steps n [] (e ∷ past) h = absurd h
marked-steps n (entry_step ∷ entry_steps) [] h = absurd h
marked-steps n (entry_step ∷ entry_steps) (e ∷ past) h =
    ap (λ l. l ++ steps_with n entry_step) (marked-steps n entry_steps past h.1)
    ∙ ap (λ l. steps_of n past ++ l) (same-with n entry_step e past h.0)
  where
    same-with : (n : ℕ) (entry_step : EntryStep) (e : Entry) (past : List Entry) → IsStepOf entry_step e past → steps_with n entry_step ≡ steps_by n e past
    same-with n entry_step e past h = rw h.of_call (rw h.of_step refl)
