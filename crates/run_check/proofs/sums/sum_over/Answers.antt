use Rattle.array_journal.specs.May.{bytes_named}
use Rattle.run_check.proofs.NamedSums.{sum-more}
use Rattle.run_check.proofs.sums.sum_over.Goals as goal

pub loop-name-preserved : goal.loop-name-preserved
loop-name-preserved c =
    sum-more (bytes_named c.args.past.now) c.args.len c.args.names.now c.loop-name.name-index _ _ _ _ c.loop-name-test.true
    c.in_ok-add_named.ensures c.loop-name.invariant
