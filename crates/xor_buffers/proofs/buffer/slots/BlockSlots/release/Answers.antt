use Rattle.std.proofs.Common.{◌≡◌, ◌*◌, ℕ, List, sym, ap, ◌∙◌, subst, length, arith}
use Rattle.std.proofs.lemmas.List.{with_items_is}
use Rattle.xor_buffers.specs.Slots.{Slotted, IsOrder, gathered, released, turned}
use Rattle.xor_buffers.proofs.SlotOrders.{order-turned, length-turned}
use Rattle.xor_buffers.proofs.GatheredSlots.{gathered-released}
use Rattle.std.specs.Vec.{with_items}
use Rattle.xor_buffers.proofs.buffer.slots.BlockSlots.release.Goals as goal

pub invariant_of-self : goal.invariant_of-self
invariant_of-self c =
    let block : c.self.inside.block ≡ c.args.self.now.block = ap (λ (v : Slotted). v.block) c.self.view_is in
    let count : length c.self.inside.order.items ≡ c.args.self.now.count = ap (λ (v : Slotted). v.count) c.self.view_is in
    let bytes : gathered c.self.inside.block c.self.inside.region.items c.self.inside.order.items ≡ c.args.self.now.bytes = ap (λ (v : Slotted). v.bytes) c.self.view_is in
    let turned_order : c.turn.new.order ≡ turned c.args.at c.args.count c.args.used c.self.inside.order.items =
    c.turn.ensures ∙ ap (turned c.args.at c.args.count c.args.used) c.deref_mut.ensures.value in
    let len : length c.turn.new.order ≡ length c.self.inside.order.items =
    ap (λ (l : List ℕ). length l) turned_order ∙ length-turned c.args.at c.args.count c.args.used c.self.inside.order.items c.requires.within (omega (arith, count, c.requires.inside)) in
    let order : (with_items c.self.inside.order c.turn.new.order).items ≡ c.turn.new.order =
    with_items_is c.self.inside.order c.turn.new.order (omega (arith, len, ap (λ (l : List ℕ). length l) c.deref_mut.ensures.value, c.deref_mut.ensures.len)) in
    let ordered : IsOrder (length c.self.inside.order.items) c.turn.new.order =
    subst (IsOrder (length c.self.inside.order.items)) (sym turned_order)
    (order-turned (length c.self.inside.order.items) c.self.inside.order.items c.args.at c.args.count c.args.used c.requires.within (omega (arith, count, c.requires.inside)) c.self.invariant.3) in
    rw (order, len) (c.self.invariant.0, c.self.invariant.1, c.self.invariant.2, ordered)

pub returns : goal.returns
returns c =
    let block : c.self.inside.block ≡ c.args.self.now.block = ap (λ (v : Slotted). v.block) c.self.view_is in
    let count : length c.self.inside.order.items ≡ c.args.self.now.count = ap (λ (v : Slotted). v.count) c.self.view_is in
    let bytes : gathered c.self.inside.block c.self.inside.region.items c.self.inside.order.items ≡ c.args.self.now.bytes = ap (λ (v : Slotted). v.bytes) c.self.view_is in
    let turned_order : c.turn.new.order ≡ turned c.args.at c.args.count c.args.used c.self.inside.order.items =
    c.turn.ensures ∙ ap (turned c.args.at c.args.count c.args.used) c.deref_mut.ensures.value in
    let len : length c.turn.new.order ≡ length c.self.inside.order.items =
    ap (λ (l : List ℕ). length l) turned_order ∙ length-turned c.args.at c.args.count c.args.used c.self.inside.order.items c.requires.within (omega (arith, count, c.requires.inside)) in
    let order : (with_items c.self.inside.order c.turn.new.order).items ≡ c.turn.new.order =
    with_items_is c.self.inside.order c.turn.new.order (omega (arith, len, ap (λ (l : List ℕ). length l) c.deref_mut.ensures.value, c.deref_mut.ensures.len)) in
    let moved : gathered c.self.inside.block c.self.inside.region.items c.turn.new.order
    ≡ released (c.args.at * c.args.self.now.block) (c.args.count * c.args.self.now.block) (c.args.used * c.args.self.now.block) c.args.self.now.bytes =
    ap (gathered c.self.inside.block c.self.inside.region.items) turned_order
    ∙ gathered-released c.self.inside.block (length c.self.inside.order.items) c.self.inside.region.items c.self.inside.order.items c.args.at c.args.count c.args.used
    c.self.invariant.2 c.self.invariant.3.inside c.requires.within (omega (arith, count, c.requires.inside))
    ∙ ap (λ (l : List ℕ). released (c.args.at * c.self.inside.block) (c.args.count * c.self.inside.block) (c.args.used * c.self.inside.block) l) bytes
    ∙ ap (λ (m : ℕ). released (c.args.at * m) (c.args.count * m) (c.args.used * m) c.args.self.now.bytes) block in
    rw order (cc)
