use Rattle.std.proofs.Common.{ℕ, sym, subst}
use Rattle.std.specs.Prelude.{Option, MatchOption}
use Rattle.array_book.specs.BookAnswers.{HasToWait}
use Rattle.array_book.proofs.Beginnings.{looked}
use Rattle.array_book.proofs.ledger.Book.look.Goals as goal

pub returns : goal.returns
returns c =
    subst
    (λ (o : Option ℕ). MatchOption o ((by : ℕ) → HasToWait c.args.self.now.setting c.args.self.now.past c.args.ask.now by → ⊥)
    (λ by. HasToWait c.args.self.now.setting c.args.self.now.past c.args.ask.now by))
    (sym c.waits_for.ensures) (looked c.args.self.now c.args.ask.now c.verdict.result c.verdict.ensures)
