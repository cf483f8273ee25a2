use Rattle.std.proofs.Common.{◌∙◌, ap, sym, rules, length}
use Rattle.blocks_core.proofs.XorLaws.{length-xor}
use Rattle.regen_rebuild.specs.Gatherings.{size}
use Rattle.regen_rebuild.proofs.gather.Gather.fold.Goals as goal

pub invariant_of-self : goal.invariant_of-self
invariant_of-self c = (
  ap length c.add_within.ensures ∙ length-xor c.self.inside.folded c.args.bytes.now (c.self.invariant.0 ∙ ap size c.self.view_is ∙ sym c.requires.size) ∙ c.self.invariant.0,
  search rules,
)
