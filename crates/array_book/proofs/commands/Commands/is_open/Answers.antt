use Rattle.std.proofs.Common.{ap, sym, ◌∙◌, ◌&&◌, not, ◌≡◌}
use Rattle.std.specs.Prelude.{is_some}
use Rattle.array_journal.specs.Commands.{is_open}
use Rattle.array_book.proofs.OpenPlaces.{open-known}
use Rattle.array_book.proofs.commands.Commands.is_open.Goals as goal

pub returns-then-opened : goal.returns-then-opened
returns-then-opened c past keeps =
    let known : (c.is_some-opened.result && not c.has_ended-ended.result) ≡ is_open c.args.command past =
    open-known c.args.command past c.is_some-opened.result c.has_ended-ended.result
    (c.is_some-opened.ensures ∙ ap is_some (c.place_of.ensures ∙ keeps.openings.places c.args.command))
    (c.has_ended-ended.ensures ∙ keeps.endings.ended c.args.command) in
    ap (λ b. b && not c.has_ended-ended.result) (sym c.if-opened.true) ∙ known

pub returns-else-opened : goal.returns-else-opened
returns-else-opened c past keeps =
    let known : (c.is_some-opened.result && not c.has_ended-ended.result) ≡ is_open c.args.command past =
    open-known c.args.command past c.is_some-opened.result c.has_ended-ended.result
    (c.is_some-opened.ensures ∙ ap is_some (c.place_of.ensures ∙ keeps.openings.places c.args.command))
    (c.has_ended-ended.ensures ∙ keeps.endings.ended c.args.command) in
    c.if-opened.false ∙ ap (λ b. b && not c.has_ended-ended.result) (sym c.if-opened.false) ∙ known
