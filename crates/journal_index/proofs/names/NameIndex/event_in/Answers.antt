use Rattle.std.proofs.Common.{sym, ap, ◌∙◌, reverse}
use Rattle.std.proofs.lemmas.List.{reverse-reverse}
use Rattle.journal_index.specs.Names.{event_at, place_of}
use Rattle.journal_index.proofs.NameLaws.{entry_at-place}
use Rattle.journal_index.proofs.names.NameIndex.event_in.Goals as goal

pub returns : goal.returns
returns c = λ keeps.
    c.event_at.ensures
    ∙ ap (λ o. event_at o c.args.entries.now) (c.place_of.ensures (reverse c.args.entries.now) keeps)
    ∙ ap (event_at (place_of c.args.name (reverse c.args.entries.now))) (sym (reverse-reverse c.args.entries.now))
    ∙ sym (entry_at-place c.args.name (reverse c.args.entries.now))
