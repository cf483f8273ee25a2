use Rattle.std.proofs.Common.{◌≡◌, ◌≤◌, ℕ, length, get_or}
use Rattle.stripe_check.specs.Folds.{unknown}
use Rattle.stripe_check.proofs.commands.reach.Given as goal

abbrev pub invariant-loop : goal.invariant-loop
invariant-loop l = record {
  same : (c : ℕ) → get_or l.commands.items c unknown ≡ get_or l.initial.commands.items c unknown;
  room : l.counter ≤ length l.commands.items;
}
