use Rattle.std.proofs.Common.{count_by, nat_lt, sym, ap, ◌∙◌}
use Rattle.array_book.proofs.SlotLaws.{count_before-stamps}
use Rattle.array_book.proofs.slots.Slots.swaps_before.Goals as goal

pub returns : goal.returns
returns c = λ past keeps.
    c.count_below.ensures
    ∙ ap (count_by (λ known. nat_lt known c.args.stamp)) (c.stamps_at.ensures ∙ keeps.swaps c.args.slot)
    ∙ sym (count_before-stamps c.args.slot c.args.stamp past)
