use Rattle.std.proofs.Common.{ℕ, List, ap, ◌∙◌}
use Rattle.dirty_list.specs.Listings.{command_of}
use Rattle.dirty_list.proofs.Lookups.{looked-up}
use Rattle.dirty_list.proofs.list.DirtyList.find.Goals as goal

pub returns : goal.returns
returns c =
    c.copied.ensures ∙ c.get.ensures.value ∙ looked-up c.args.stripe c.self.inside.listed.entries
    ∙ ap (λ (es : List (ℕ × ℕ)). command_of c.args.stripe es) c.self.view_is
