use Rattle.std.proofs.Common.{◌≡◌, ◌≤◌, ◌+◌, ◌-◌, ◌++◌, ◌∷◌, [], ℕ, suc, List, take, sym, ap, ◌∙◌, arith}
use Rattle.std.proofs.lemmas.List.{take_more_set, append_assoc}
use Rattle.xor_buffers.specs.Slots.{numbers_from}
use Rattle.xor_buffers.proofs.buffer.slots.number_from.Goals as goal

numbers-more : (first slot : ℕ) → first ≤ slot → numbers_from first (slot + 1 - first) ≡ numbers_from first (slot - first) ++ slot ∷ []
numbers-more first slot le =
    ap (numbers_from first) more ∙ ap (λ (m : ℕ). numbers_from first (slot - first) ++ m ∷ []) (omega arith)
  where
    more : slot + 1 - first ≡ suc (slot - first)
    more = omega (arith, le)

pub loop-slot-preserved : goal.loop-slot-preserved
loop-slot-preserved c =
    take_more_set c.loop-slot.order c.loop-slot.slot c.loop-slot.slot (omega arith)
    ∙ ap (λ (l : List ℕ). l ++ c.loop-slot.slot ∷ []) c.loop-slot.invariant
    ∙ append_assoc (take c.args.first c.args.order.now) (numbers_from c.args.first (c.loop-slot.slot - c.args.first)) (c.loop-slot.slot ∷ [])
    ∙ ap (λ (l : List ℕ). take c.args.first c.args.order.now ++ l) (sym (numbers-more c.args.first c.loop-slot.slot (omega arith)))
