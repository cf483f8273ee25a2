use Rattle.std.proofs.Common.{◌≡◌, true, ℕ}
use Rattle.std.specs.BTreeSet.{contains}
use Rattle.std.specs.BTreeMap.{is_at}
use Rattle.std.specs.List.{list_any}
use Rattle.std.specs.List.Sorted.{IsStrictlySortedBy}
use Rattle.std.specs.Ordering.{nat_cmp}
use Rattle.array_book.specs.OpenIndexes.{conflicts_with}
use Rattle.array_book.proofs.records.Records.least_conflicting.Given as goal

abbrev pub invariant-loop-command : goal.invariant-loop-command
invariant-loop-command l = record {
  sorted : IsStrictlySortedBy nat_cmp l.command-iterator;
  left : (c : ℕ) → conflicts_with l.self l.task c ≡ true → contains nat_cmp l.commands c ≡ list_any (is_at (nat_cmp c)) l.command-iterator;
}
