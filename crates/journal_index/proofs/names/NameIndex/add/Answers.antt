use Rattle.std.proofs.Common.{Some, sym, ap, ◌∙◌, ◌==◌}
use Rattle.journal_index.specs.Names.{key_of}
use Rattle.journal_index.proofs.Keys.{picked}
use Rattle.journal_index.proofs.NameLaws.{is_named}
use Rattle.journal_index.proofs.names.NameIndex.add.Goals as goal

pub returns : goal.returns
returns c = λ past at keeps. record {
  rising = c.in_ok-put.ensures.rises keeps.rising;
  places = λ name low.
      c.in_ok-put.ensures.places keeps.rising (key_of name)
      ∙ picked (ap (λ k. k == key_of name) c.key_of.ensures.key ∙ is_named c.args.entry.now name c.key_of.ensures.lock low) (ap Some (sym at)) (keeps.places name low);
}
