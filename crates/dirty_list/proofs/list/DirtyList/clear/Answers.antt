use Rattle.std.proofs.Common.{ℕ, ◌==◌, cond, List, None, ap, ◌∙◌}
use Rattle.dirty_list.specs.Listings.{command_of, without}
use Rattle.dirty_list.proofs.Lookups.{removed, updated}
use Rattle.dirty_list.proofs.list.DirtyList.clear.Goals as goal

pub returns-clause-list : goal.returns-clause-list
returns-clause-list c =
    c.remove.ensures.entries ∙ removed c.args.stripe c.self.inside.listed.entries ∙ ap (λ (es : List (ℕ × ℕ)). without c.args.stripe es) c.self.view_is

pub returns-clause-found : goal.returns-clause-found
returns-clause-found c = λ s.
    updated c.args.stripe s None c.self.inside.listed.entries _ (c.remove.ensures.updates.0 s)
    ∙ ap (λ (es : List (ℕ × ℕ)). cond (c.args.stripe == s) None (command_of s es)) c.self.view_is
