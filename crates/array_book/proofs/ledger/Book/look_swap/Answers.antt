use Rattle.std.proofs.Common.{◌≡◌, true, sym, ◌∙◌, subst}
use Rattle.array_journal.specs.Lives.{is_unfitted}
use Rattle.array_book.specs.Ledgers.{Ledger, AreNumbered}
use Rattle.array_book.proofs.Beginnings.{swap-waits}
use Rattle.array_book.proofs.ledger.Book.look_swap.Goals as goal

pub returns-then-is_unfitted : goal.returns-then-is_unfitted
returns-then-is_unfitted c =
    swap-waits c.args.self.now.setting c.args.self.now.past c.args.slot c.least_at.result
    (subst (λ (l : Ledger). AreNumbered l.past) c.self.view_is c.self.invariant.numbered)
    (subst (λ (l : Ledger). is_unfitted c.args.slot l.past ≡ true) c.self.view_is (sym c.is_unfitted.ensures ∙ c.if-is_unfitted.true))
    c.least_at.ensures
