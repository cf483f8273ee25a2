-- The steps of calls as they are kept.
use Rattle.std.specs.Prelude.{ℕ, List, [], option_map}
use Rattle.std.specs.Option.{unwrap_or}
use Rattle.std.specs.Ordering.{nat_cmp}
use Rattle.std.specs.BTreeMap.{get}
use Rattle.trace_check.specs.declared.asking.entry_steps.Step.{Step}
use Rattle.trace_check.specs.declared.asking.steps_by_call.StepsByCall.{StepsByCall}

-- those of the call of a number
abbrev pub steps_kept : StepsByCall → ℕ → List Step
steps_kept all number = unwrap_or (option_map (λ v. v.items) (get nat_cmp all.kept number)) []
