use Rattle.std.proofs.Common.{ℕ, ◌==◌, cond, List, Some, ap, ◌∙◌}
use Rattle.dirty_list.specs.Listings.{command_of, put_in}
use Rattle.dirty_list.proofs.Lookups.{inserted, updated}
use Rattle.dirty_list.proofs.list.DirtyList.add.Goals as goal

pub returns-clause-ok : goal.returns-clause-ok
returns-clause-ok c =
    c.in_ok-insert.ensures.entries
    ∙ inserted c.args.stripe c.args.command c.self.inside.listed.entries (ap (λ (es : List (ℕ × ℕ)). command_of c.args.stripe es) c.self.view_is ∙ c.requires)
    ∙ ap (λ (es : List (ℕ × ℕ)). put_in c.args.stripe c.args.command es) c.self.view_is

pub returns-clause-found : goal.returns-clause-found
returns-clause-found c = λ s.
    updated c.args.stripe s (Some c.args.command) c.self.inside.listed.entries _ (c.in_ok-insert.ensures.updates.0 s)
    ∙ ap (λ (es : List (ℕ × ℕ)). cond (c.args.stripe == s) (Some c.args.command) (command_of s es)) c.self.view_is
