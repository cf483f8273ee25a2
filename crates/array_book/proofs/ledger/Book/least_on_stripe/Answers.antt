use Rattle.std.proofs.Common.{None, sym, ◌∙◌, subst}
use Rattle.std.specs.BTreeSet.{contains}
use Rattle.std.specs.Ordering.{nat_cmp}
use Rattle.std.proofs.lemmas.Bool.{false≢true}
use Rattle.array_book.specs.Ledgers.{Ledger}
use Rattle.array_book.specs.OpenIndexes.{is_in, conflicts_with, IsInStripe}
use Rattle.array_book.proofs.Beginnings.{least-conflict}
use Rattle.array_book.proofs.IndexReads.{least-here, same-members}
use Rattle.array_book.proofs.ledger.Book.least_on_stripe.Goals as goal

pub returns-in-Some : goal.returns-in-Some
returns-in-Some c =
    rw (← c.self.view_is)
    (least-conflict c.self.inside.records c.args.task.now c.least_conflicting.result c.self.invariant.numbered
    (least-here c.self.inside.setting c.self.inside.records c.self.inside.index c.args.task.now c.least_conflicting.result c.self.invariant.indexed c.self.invariant.sound
    (subst (λ (l : Ledger). IsInStripe l.setting c.args.task.now) (sym c.self.view_is) c.requires)
    (same-members (contains nat_cmp c.in-Some.commands.now) (is_in c.self.inside.index.on_stripes c.args.task.now.stripe) (conflicts_with c.self.inside.records c.args.task.now)
    c.least_conflicting.result (λ n. c.in-Some.ensures n) c.least_conflicting.ensures)))

pub returns-in-None : goal.returns-in-None
returns-in-None c =
    rw (← c.self.view_is)
    (least-conflict c.self.inside.records c.args.task.now None c.self.invariant.numbered
    (least-here c.self.inside.setting c.self.inside.records c.self.inside.index c.args.task.now None c.self.invariant.indexed c.self.invariant.sound
    (subst (λ (l : Ledger). IsInStripe l.setting c.args.task.now) (sym c.self.view_is) c.requires)
    (λ n member. absurd (false≢true (c.in-None.ensures n ∙ member)))))
