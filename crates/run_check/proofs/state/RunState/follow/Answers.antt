use Rattle.std.proofs.Common.{List, reverse, subst}
use Rattle.std.specs.Prelude.{◌↔◌, IsTrue}
use Rattle.array_journal.specs.declared.entry.Entry.{Entry}
use Rattle.array_journal.specs.May.{May}
use Rattle.run_check.proofs.state.RunState.follow.Goals as goal

pub returns-in_ok-add-clause-may : goal.returns-in_ok-add-clause-may
returns-in_ok-add-clause-may c =
    subst (λ (j : List Entry). IsTrue c.in_ok-follows.follows ↔ May c.args.setting.now j c.args.entry.now) c.new-before.ensures c.in_ok-follows.ensures

pub returns-in_ok-add-clause-kept : goal.returns-in_ok-add-clause-kept
returns-in_ok-add-clause-kept c = λ follows. record {
  states = c.in_ok-apply.ensures (reverse c.args.past.now) (subst (λ (j : List Entry). May c.args.setting.now j c.args.entry.now) c.new-before.ensures (c.in_ok-follows.ensures.0 follows)) c.requires.state.states;
  index = c.in_ok-add.ensures;
}

pub returns-else-follows-clause-may : goal.returns-else-follows-clause-may
returns-else-follows-clause-may c =
    subst (λ (j : List Entry). IsTrue c.in_ok-follows.follows ↔ May c.args.setting.now j c.args.entry.now) c.new-before.ensures c.in_ok-follows.ensures
