-- The order of each host's calls, over the steps of a journal.
use Rattle.std.specs.Prelude.{◌≡◌, ◌<◌, ℕ, nat_le, true, List, filter}
use Rattle.std.specs.List.{list_all}
use Rattle.host_scripts.specs.declared.script.Script.{Script}
use Rattle.stripe_check.specs.Asked.{is_of_host, goes_back}
use Rattle.trace_check.specs.EntrySteps.{calls_in}
use Rattle.trace_check.specs.declared.asking.entry_steps.EntryStep.{EntryStep}
use Rattle.trace_check.specs.declared.asking.host_order.CallOrder.{CallOrder}

-- what is kept of calls, the newest first
pub record IsOrderOf (order : CallOrder) (calls : List ℕ) : Type 0 where
  pub greatest : (n : ℕ) → list_all (λ m. nat_le m n) calls ≡ nat_le order.greatest n
  pub rises : order.rises ≡ goes_back calls

abbrev pub AreStepsInTurn : Script → List EntryStep → Type 0
AreStepsInTurn script entry_steps = (host : ℕ) → host < script.hosts → goes_back (filter (is_of_host script host) (calls_in entry_steps)) ≡ true
