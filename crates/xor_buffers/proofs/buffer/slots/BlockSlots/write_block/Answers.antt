use Rattle.std.proofs.Common.{◌≡◌, ◌*◌, ◌≤◌, ◌+◌, ℕ, List, sym, ap, ◌∙◌, length, get_or, arith}
use Rattle.blocks_core.specs.Lists.{put}
use Rattle.blocks_core.proofs.BlockLists.{length-put}
use Rattle.std.proofs.lemmas.List.{with_items_is}
use Rattle.xor_buffers.specs.Slots.{Slotted, gathered}
use Rattle.xor_buffers.proofs.GatheredSlots.{slot_inside}
use Rattle.xor_buffers.proofs.WrittenSlots.{gathered-put}
use Rattle.std.specs.Vec.{with_items}
use Rattle.xor_buffers.proofs.buffer.slots.BlockSlots.write_block.Goals as goal

pub copy_in-requires : goal.copy_in-requires
copy_in-requires c =
    let block : c.self.inside.block ≡ c.args.self.now.block = ap (λ (v : Slotted). v.block) c.self.view_is in
    let count : length c.self.inside.order.items ≡ c.args.self.now.count = ap (λ (v : Slotted). v.count) c.self.view_is in
    let bytes : gathered c.self.inside.block c.self.inside.region.items c.self.inside.order.items ≡ c.args.self.now.bytes = ap (λ (v : Slotted). v.bytes) c.self.view_is in
    let start : c.start_of-start.result ≡ get_or c.self.inside.order.items c.args.place 0 * c.self.inside.block =
    c.start_of-start.ensures ∙ ap (λ (l : List ℕ). get_or l c.args.place 0 * c.self.inside.block) c.deref.ensures.value in
    let inside : get_or c.self.inside.order.items c.args.place 0 * c.self.inside.block + c.self.inside.block ≤ length c.self.inside.region.items =
    slot_inside c.self.inside.block c.self.inside.region.items c.self.inside.order.items c.args.place c.self.invariant.2 c.self.invariant.3.inside (omega (arith, count, c.requires.inside)) in
    omega (arith, start, inside, c.requires.size, block, ap (λ (l : List ℕ). length l) c.deref_mut.ensures.value)

pub invariant_of-self : goal.invariant_of-self
invariant_of-self c =
    let block : c.self.inside.block ≡ c.args.self.now.block = ap (λ (v : Slotted). v.block) c.self.view_is in
    let count : length c.self.inside.order.items ≡ c.args.self.now.count = ap (λ (v : Slotted). v.count) c.self.view_is in
    let bytes : gathered c.self.inside.block c.self.inside.region.items c.self.inside.order.items ≡ c.args.self.now.bytes = ap (λ (v : Slotted). v.bytes) c.self.view_is in
    let start : c.start_of-start.result ≡ get_or c.self.inside.order.items c.args.place 0 * c.self.inside.block =
    c.start_of-start.ensures ∙ ap (λ (l : List ℕ). get_or l c.args.place 0 * c.self.inside.block) c.deref.ensures.value in
    let inside : get_or c.self.inside.order.items c.args.place 0 * c.self.inside.block + c.self.inside.block ≤ length c.self.inside.region.items =
    slot_inside c.self.inside.block c.self.inside.region.items c.self.inside.order.items c.args.place c.self.invariant.2 c.self.invariant.3.inside (omega (arith, count, c.requires.inside)) in
    let written : c.copy_in.new.region ≡ put c.self.inside.region.items (get_or c.self.inside.order.items c.args.place 0 * c.self.inside.block) c.args.bytes.now =
    c.copy_in.ensures ∙ ap (λ (l : List ℕ). put l c.start_of-start.result c.args.bytes.now) c.deref_mut.ensures.value
    ∙ ap (λ (m : ℕ). put c.self.inside.region.items m c.args.bytes.now) start in
    let length_put : length c.copy_in.new.region ≡ length c.self.inside.region.items =
    ap (λ (l : List ℕ). length l) written ∙ length-put c.self.inside.region.items (get_or c.self.inside.order.items c.args.place 0 * c.self.inside.block) c.args.bytes.now (omega (arith, inside, c.requires.size, block)) in
    let region : (with_items c.self.inside.region c.copy_in.new.region).items ≡ c.copy_in.new.region =
    with_items_is c.self.inside.region c.copy_in.new.region (omega (arith, length_put, ap (λ (l : List ℕ). length l) c.deref_mut.ensures.value, c.deref_mut.ensures.len)) in
    rw region (c.self.invariant.0, c.self.invariant.1, omega (arith, length_put, c.self.invariant.2), c.self.invariant.3)

pub returns : goal.returns
returns c =
    let block : c.self.inside.block ≡ c.args.self.now.block = ap (λ (v : Slotted). v.block) c.self.view_is in
    let count : length c.self.inside.order.items ≡ c.args.self.now.count = ap (λ (v : Slotted). v.count) c.self.view_is in
    let bytes : gathered c.self.inside.block c.self.inside.region.items c.self.inside.order.items ≡ c.args.self.now.bytes = ap (λ (v : Slotted). v.bytes) c.self.view_is in
    let start : c.start_of-start.result ≡ get_or c.self.inside.order.items c.args.place 0 * c.self.inside.block =
    c.start_of-start.ensures ∙ ap (λ (l : List ℕ). get_or l c.args.place 0 * c.self.inside.block) c.deref.ensures.value in
    let inside : get_or c.self.inside.order.items c.args.place 0 * c.self.inside.block + c.self.inside.block ≤ length c.self.inside.region.items =
    slot_inside c.self.inside.block c.self.inside.region.items c.self.inside.order.items c.args.place c.self.invariant.2 c.self.invariant.3.inside (omega (arith, count, c.requires.inside)) in
    let written : c.copy_in.new.region ≡ put c.self.inside.region.items (get_or c.self.inside.order.items c.args.place 0 * c.self.inside.block) c.args.bytes.now =
    c.copy_in.ensures ∙ ap (λ (l : List ℕ). put l c.start_of-start.result c.args.bytes.now) c.deref_mut.ensures.value
    ∙ ap (λ (m : ℕ). put c.self.inside.region.items m c.args.bytes.now) start in
    let length_put : length c.copy_in.new.region ≡ length c.self.inside.region.items =
    ap (λ (l : List ℕ). length l) written ∙ length-put c.self.inside.region.items (get_or c.self.inside.order.items c.args.place 0 * c.self.inside.block) c.args.bytes.now (omega (arith, inside, c.requires.size, block)) in
    let region : (with_items c.self.inside.region c.copy_in.new.region).items ≡ c.copy_in.new.region =
    with_items_is c.self.inside.region c.copy_in.new.region (omega (arith, length_put, ap (λ (l : List ℕ). length l) c.deref_mut.ensures.value, c.deref_mut.ensures.len)) in
    let put_there : gathered c.self.inside.block c.copy_in.new.region c.self.inside.order.items ≡ put c.args.self.now.bytes (c.args.place * c.args.self.now.block) c.args.bytes.now =
    ap (λ (l : List ℕ). gathered c.self.inside.block l c.self.inside.order.items) written
    ∙ gathered-put c.self.inside.block (length c.self.inside.order.items) c.self.inside.region.items c.args.bytes.now c.self.inside.order.items c.args.place 0
    c.self.invariant.2 c.self.invariant.3.inside c.self.invariant.3.once (omega (arith, count, c.requires.inside)) (c.requires.size ∙ sym block)
    ∙ ap (λ (l : List ℕ). put l (c.args.place * c.self.inside.block) c.args.bytes.now) bytes
    ∙ ap (λ (m : ℕ). put c.args.self.now.bytes (c.args.place * m) c.args.bytes.now) block in
    rw region (cc)
