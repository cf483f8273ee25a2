use Rattle.std.proofs.Common.{◌≡◌, ◌*◌, ◌≤◌, ◌+◌, ℕ, List, sym, ap, ◌∙◌, length, get_or, arith}
use Rattle.blocks_core.specs.Lists.{slice, block_at}
use Rattle.xor_buffers.specs.Slots.{Slotted, gathered}
use Rattle.xor_buffers.proofs.GatheredSlots.{slot_inside, block-gathered}
use Rattle.xor_buffers.proofs.buffer.slots.BlockSlots.read_block.Goals as goal

pub copy_out-requires : goal.copy_out-requires
copy_out-requires c =
    let block : c.self.inside.block ≡ c.args.self.now.block = ap (λ (v : Slotted). v.block) c.self.view_is in
    let count : length c.self.inside.order.items ≡ c.args.self.now.count = ap (λ (v : Slotted). v.count) c.self.view_is in
    let bytes : gathered c.self.inside.block c.self.inside.region.items c.self.inside.order.items ≡ c.args.self.now.bytes = ap (λ (v : Slotted). v.bytes) c.self.view_is in
    let start : c.start_of-start.result ≡ get_or c.self.inside.order.items c.args.place 0 * c.self.inside.block =
    c.start_of-start.ensures ∙ ap (λ (l : List ℕ). get_or l c.args.place 0 * c.self.inside.block) c.deref.ensures.value in
    let inside : get_or c.self.inside.order.items c.args.place 0 * c.self.inside.block + c.self.inside.block ≤ length c.self.inside.region.items =
    slot_inside c.self.inside.block c.self.inside.region.items c.self.inside.order.items c.args.place c.self.invariant.2 c.self.invariant.3.inside (omega (arith, count, c.requires.inside)) in
    omega (arith, start, inside, c.requires.size, block, ap (λ (l : List ℕ). length l) c.deref-2.ensures.value)

pub returns : goal.returns
returns c =
    let block : c.self.inside.block ≡ c.args.self.now.block = ap (λ (v : Slotted). v.block) c.self.view_is in
    let count : length c.self.inside.order.items ≡ c.args.self.now.count = ap (λ (v : Slotted). v.count) c.self.view_is in
    let bytes : gathered c.self.inside.block c.self.inside.region.items c.self.inside.order.items ≡ c.args.self.now.bytes = ap (λ (v : Slotted). v.bytes) c.self.view_is in
    let start : c.start_of-start.result ≡ get_or c.self.inside.order.items c.args.place 0 * c.self.inside.block =
    c.start_of-start.ensures ∙ ap (λ (l : List ℕ). get_or l c.args.place 0 * c.self.inside.block) c.deref.ensures.value in
    let inside : get_or c.self.inside.order.items c.args.place 0 * c.self.inside.block + c.self.inside.block ≤ length c.self.inside.region.items =
    slot_inside c.self.inside.block c.self.inside.region.items c.self.inside.order.items c.args.place c.self.invariant.2 c.self.invariant.3.inside (omega (arith, count, c.requires.inside)) in
    c.copy_out.ensures
    ∙ ap (λ (l : List ℕ). slice l c.start_of-start.result (length c.args.into.now)) c.deref-2.ensures.value
    ∙ ap (λ (m : ℕ). slice c.self.inside.region.items m (length c.args.into.now)) start
    ∙ ap (λ (m : ℕ). slice c.self.inside.region.items (get_or c.self.inside.order.items c.args.place 0 * c.self.inside.block) m) (c.requires.size ∙ sym block)
    ∙ sym (block-gathered c.self.inside.block (length c.self.inside.order.items) c.self.inside.region.items c.self.inside.order.items c.args.place 0
    c.self.invariant.2 c.self.invariant.3.inside (omega (arith, count, c.requires.inside)))
    ∙ ap (λ (l : List ℕ). block_at c.self.inside.block l c.args.place) bytes
    ∙ ap (λ (m : ℕ). block_at m c.args.self.now.bytes c.args.place) block
