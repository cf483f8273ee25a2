use Rattle.std.proofs.Common.{reverse, sym, ap, ◌∙◌}
use Rattle.array_journal.specs.Lives.{has_rebuilt}
use Rattle.array_book.specs.Noted.{missing_by}
use Rattle.array_book.proofs.MissingUnits.{missing-since}
use Rattle.array_book.proofs.state.BookState.is_missing.Goals as goal

pub returns : goal.returns
returns c =
    let past = reverse c.args.entries.now in
    c.is_missing_after.ensures
    ∙ ap (missing_by (has_rebuilt past c.args.target c.args.stripe)) (c.opened_since-opened.ensures past c.requires.noted)
    ∙ sym (missing-since c.args.target c.args.stripe past)
