use Rattle.std.proofs.Common.{◌≡◌, ℕ, true, false, sym, arith, reverse, ◌∙◌}
use Rattle.array_journal.specs.Lives.{is_missing}
use Rattle.array_book.proofs.Counts.{filter-here, filter-else}
use Rattle.array_book.proofs.state.BookState.missing_count.Goals as goal
use Rattle.array_book.proofs.state.BookState.missing_count.Goals.{then-is_missing, else-is_missing}

pub loop-target-preserved : goal.loop-target-preserved
loop-target-preserved c =
    let p = λ (i : ℕ). is_missing i c.args.stripe (reverse c.args.entries.now) in
    elim c.if-is_missing.branch [
      | then-is_missing w ↦
          let here : is_missing c.loop-target.target c.args.stripe (reverse c.args.entries.now) ≡ true
          = rw (← c.from.ensures) (sym c.is_missing.ensures ∙ w.if-is_missing.true) in
          record {
            count = rw w.count-is (filter-here p c.loop-target.target c.loop-target.count here c.loop-target.invariant.count);
            small = omega arith;
          }
      | else-is_missing w ↦
          let here : is_missing c.loop-target.target c.args.stripe (reverse c.args.entries.now) ≡ false
          = rw (← c.from.ensures) (sym c.is_missing.ensures ∙ w.if-is_missing.false) in
          record {
            count = rw w.count-is (filter-else p c.loop-target.target c.loop-target.count here c.loop-target.invariant.count);
            small = omega arith;
          }
    ]
