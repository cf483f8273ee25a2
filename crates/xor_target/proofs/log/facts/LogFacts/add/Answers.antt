use Rattle.std.proofs.Common.{refl, ap, sym, subst, ◌∙◌, lt_of_le_of_lt, ◌<◌}
use Rattle.array_journal.specs.Entries.{name_of}
use Rattle.array_journal.specs.Lives.{loss_after, life_after}
use Rattle.array_journal.specs.Media.{drops_after}
use Rattle.array_journal.proofs.lives.DiskCounts.{life-few, drops-few}
use Rattle.xor_target.specs.Facts.{owner_after}
use Rattle.xor_target.proofs.FactSteps.{owner-more, loss-more, life-more, drops-more}
use Rattle.xor_target.proofs.log.facts.LogFacts.add.Goals as goal

pub returns-clause-keeps : goal.returns-clause-keeps
returns-clause-keeps c = λ i past at few keeps.
    let e = c.args.entry.now in
    let life = subst (λ n. n < 9223372036854775808) (sym keeps.life) (lt_of_le_of_lt (life-few i past) few) in
    let drops = subst (λ n. n < 9223372036854775808) (sym keeps.drops) (lt_of_le_of_lt (drops-few i past) few) in
    record {
      last = refl;
      loss = c.loss_after-self.ensures ∙ ap (loss_after (name_of e) e.event) keeps.loss ∙ loss-more i e past at;
      life = c.life_after-self.ensures life ∙ ap (life_after e.event) keeps.life ∙ life-more i e past at;
      drops = c.drops_after-self.ensures drops ∙ ap (drops_after e.event) keeps.drops ∙ drops-more i e past at;
      owners = λ o. c.add.ensures.states o ∙ ap (owner_after (name_of e) o e.event) (keeps.owners o) ∙ owner-more i o e past at;
    }
