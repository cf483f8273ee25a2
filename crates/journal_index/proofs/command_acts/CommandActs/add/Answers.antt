use Rattle.std.proofs.Common.{sym, ap, subst, Some, ◌∙◌}
use Rattle.std.specs.BTreeMap.{Updates}
use Rattle.journal_index.specs.declared.acts_done.ActsDone.{ActsDone}
use Rattle.journal_index.specs.CommandActs.{with_act}
use Rattle.journal_index.specs.Keys.{pair_cmp}
use Rattle.journal_index.proofs.CommandActSteps.{kept-more}
use Rattle.journal_index.proofs.command_acts.CommandActs.add.Goals as goal

pub returns-in_ok-insert : goal.returns-in_ok-insert
returns-in_ok-insert c = λ past keeps.
    let e = c.args.entry.now in
    kept-more e.stamp e.lock c.in-Some.command e.event past c.args.self.now (record { kept = c.insert.new.self })
    (sym c.actor.ensures ∙ c.in-Some.is) keeps
    (subst (λ (d : ActsDone). Updates pair_cmp c.args.self.now.kept c.insert.new.self (e.lock, c.in-Some.command) (Some d))
    (c.with_act-acts.ensures ∙ ap (with_act e.event) (c.acts_done-before.ensures past keeps)) c.in_ok-insert.ensures.updates)
