use Rattle.std.proofs.Common.{rules, arith}
use Rattle.std.proofs.lemmas.Grind.{common_steps}
use Rattle.std.proofs.lemmas.Fn.{always_returns_same}
use Rattle.std.specs.List.Sorted.{IsPermutation, IsSortedBy}
use Rattle.array_journal.specs.EntryLists.{lists_in}
use Rattle.array_journal.specs.Merge.{joined}
use Rattle.array_journal.proofs.runs.MergeOrder.{sorted-rises, sorted-stays, own_names-of_locks, goes_before}
use Rattle.array_journal.proofs.runs.OneJournal.{merged-journal}
use Rattle.array_journal.proofs.journal.merge.Goals as goal

pub returns-clause-ordered : goal.returns-clause-ordered
returns-clause-ordered c =
    sorted-stays c.sort_unstable_by_key.new.self.items
    (c.sort_unstable_by_key.ensures.sorted (λ e. (e.stamp, e.lock)) (always_returns_same _ _ _ (λ a r f k. search rules)))

pub returns-clause-in_order : goal.returns-clause-in_order
returns-clause-in_order c own =
    let perm : IsPermutation (joined (lists_in c.args.lists.items)) c.sort_unstable_by_key.new.self.items = grind (arith, common_steps) in
    let sorted : IsSortedBy goes_before c.sort_unstable_by_key.new.self.items =
    c.sort_unstable_by_key.ensures.sorted (λ e. (e.stamp, e.lock)) (always_returns_same _ _ _ (λ a r f k. search rules)) in
    sorted-rises (joined (lists_in c.args.lists.items)) c.sort_unstable_by_key.new.self.items perm sorted own

pub returns-clause-of_locks : goal.returns-clause-of_locks
returns-clause-of_locks c h = returns-clause-in_order c (own_names-of_locks 0 (lists_in c.args.lists.items) h)

pub returns-clause-one : goal.returns-clause-one
returns-clause-one c stamp kept =
    let perm : IsPermutation (joined (lists_in c.args.lists.items)) c.sort_unstable_by_key.new.self.items = grind (arith, common_steps) in
    merged-journal stamp (lists_in c.args.lists.items) c.sort_unstable_by_key.new.self.items kept perm (returns-clause-of_locks c kept.of_locks)
