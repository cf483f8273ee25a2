-- The steps of a journal: the call that each entry belongs to, and the step that it is. Lists called past, steps and
-- older have the newest first.
use Rattle.std.specs.Prelude.{◌≡◌, ℕ, if◌then◌else◌, List, [], ◌∷◌, ◌++◌, option_map}
use Rattle.array_journal.specs.declared.entry.Entry.{Entry}
use Rattle.array_journal.specs.Entries.{name_of}
use Rattle.stripe_check.specs.Steps as asked
use Rattle.stripe_check.specs.Steps.{call_of, step_by, step_list, is_call}
use Rattle.stripe_check.specs.Asked.{call_list}
use Rattle.trace_check.specs.declared.asking.entry_steps.CommandEnd.{CommandEnd}
use Rattle.trace_check.specs.declared.asking.entry_steps.CommandEnd.TheVariants.{Done, GivenUp, Spoilt}
use Rattle.trace_check.specs.declared.asking.entry_steps.EntryStep.{EntryStep}
use Rattle.trace_check.specs.declared.asking.entry_steps.Step.{Step}
use Rattle.trace_check.specs.declared.asking.entry_steps.Step.TheVariants.{Begins, Ends, Refused, Lost, WipedAt, Swapped, Renewed}

abbrev pub ending_of : CommandEnd → asked.CommandEnding
ending_of Done = asked.Done
ending_of GivenUp = asked.GivenUp
ending_of Spoilt = asked.Spoilt

-- the step of a name
abbrev pub step_of : Step → asked.Step
step_of (Begins piece command) = asked.Begins piece command
step_of (Ends command ending) = asked.Ends command (ending_of ending)
step_of (Refused piece why) = asked.Refused piece why
step_of (Lost lock life) = asked.Lost lock life
step_of (WipedAt lock what) = asked.WipedAt lock what
step_of (Swapped slot name) = asked.Swapped slot name
step_of (Renewed lock swap) = asked.Renewed lock swap

-- a step tells call and step of an entry, over the entries before it
pub record IsStepOf (entry_step : EntryStep) (e : Entry) (past : List Entry) : Type 0 where
  pub of_call : entry_step.call ≡ call_of e.event past
  pub of_step : option_map step_of entry_step.step ≡ step_by e.event e.lock (name_of e)

abbrev pub AreStepsOf : List EntryStep → List Entry → Type 0
AreStepsOf [] [] = Unit {0}
AreStepsOf [] (e ∷ past) = ⊥
AreStepsOf (entry_step ∷ entry_steps) [] = ⊥
AreStepsOf (entry_step ∷ entry_steps) (e ∷ past) = IsStepOf entry_step e past × AreStepsOf entry_steps past

-- the steps of a step for the call of a number
abbrev pub steps_with : ℕ → EntryStep → List asked.Step
steps_with n entry_step = if is_call n entry_step.call then step_list (option_map step_of entry_step.step) else []

-- the steps of a call, the oldest first
abbrev pub steps_in : ℕ → List EntryStep → List asked.Step
steps_in n [] = []
steps_in n (entry_step ∷ older) = steps_in n older ++ steps_with n entry_step

-- the calls of steps
abbrev pub calls_in : List EntryStep → List ℕ
calls_in [] = []
calls_in (entry_step ∷ older) = call_list entry_step.call ++ calls_in older
