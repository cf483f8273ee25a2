use Rattle.std.proofs.Common.{ap, ◌∙◌}
use Rattle.journal_index.specs.Rising.{place_in}
use Rattle.journal_index.proofs.names.NameIndex.place_of.Goals as goal

pub returns : goal.returns
returns c = λ past keeps.
    c.get.ensures keeps.rising
    ∙ ap (place_in c.args.self.now.places) c.key_of.ensures.key
    ∙ keeps.places c.args.name c.key_of.ensures.lock
