use Rattle.std.proofs.Common.{length, sym, ap, ◌∙◌}
use Rattle.array_book.proofs.SlotLaws.{swap_count-length}
use Rattle.array_book.proofs.slots.Slots.swap_count.Goals as goal

pub returns : goal.returns
returns c = λ past keeps.
    ap length (c.stamps_at.ensures ∙ keeps.swaps c.args.slot) ∙ sym (swap_count-length c.args.slot past)
