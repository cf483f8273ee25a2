use Rattle.std.proofs.Common.{◌≡◌, ◌*◌, ◌≤◌, ◌+◌, ◌-◌, ◌++◌, ℕ, List, take, sym, ap, ◌∙◌, subst, length, arith}
use Rattle.xor_buffers.specs.Slots.{Slotted, IsOrder, gathered, times_in}
use Rattle.std.specs.Result.{OnErr}
use Rattle.std.proofs.Common.{Result, Ok, Err}
use Rattle.std.proofs.lemmas.List.{length-append}
use Rattle.xor_buffers.specs.Slots.{numbers_from, times_in}
use Rattle.xor_buffers.proofs.SlotOrders.{length-numbers_from, order-longer}
use Rattle.xor_buffers.proofs.GatheredSlots.{length-gathered}
use Rattle.xor_buffers.proofs.GrownSlots.{gathered-kept, gathered-grown}
use Rattle.xor_buffers.proofs.buffer.slots.BlockSlots.grow.Goals as goal

on_err : {T E : Type 0} (r : Result T E) (P : Type 0) → P → OnErr r P
on_err (Ok x) P p = tt
on_err (Err e) P p = p

abbrev slotted : ℕ → ℕ → List ℕ → Slotted
slotted block count bytes = record { block = block; count = count; bytes = bytes }

pub returns-in_err-lengthen_region-clause-err : goal.returns-in_err-lengthen_region-clause-err
returns-in_err-lengthen_region-clause-err c =
    on_err _ _
    (ap (λ (l : List ℕ). slotted c.self.inside.block (length c.self.inside.order.items) l)
    (gathered-kept c.self.inside.block c.self.inside.region.items c.lengthen_region.new.region.items c.self.inside.order.items
    c.self.invariant.2 c.in_err-lengthen_region.ensures.kept c.self.invariant.3.inside)
    ∙ c.self.view_is)

pub returns-in_err-lengthen_order-clause-err : goal.returns-in_err-lengthen_order-clause-err
returns-in_err-lengthen_order-clause-err c =
    on_err _ _
    (ap (λ (l : List ℕ). slotted c.self.inside.block (length l) (gathered c.self.inside.block c.lengthen_region.new.region.items l)) c.in_err-lengthen_order.ensures.err
    ∙ ap (λ (l : List ℕ). slotted c.self.inside.block (length c.self.inside.order.items) l)
    (gathered-kept c.self.inside.block c.self.inside.region.items c.lengthen_region.new.region.items c.self.inside.order.items
    c.self.invariant.2 c.in_ok-lengthen_region.ensures.kept c.self.invariant.3.inside)
    ∙ c.self.view_is)

pub invariant_of-self-2 : goal.invariant_of-self-2
invariant_of-self-2 c =
    let count : length c.self.inside.order.items ≡ c.args.self.now.count = ap (λ (v : Slotted). v.count) c.self.view_is in
    let more : c.in-Some.count - length c.self.inside.order.items ≡ c.args.more = omega (arith, count, c.in-Some.ensures.0, c.count.ensures.count) in
    let order : c.lengthen_order.new.order.items ≡ c.self.inside.order.items ++ numbers_from (length c.self.inside.order.items) c.args.more =
    c.in_ok-lengthen_order.ensures.ok ∙ ap (λ (m : ℕ). c.self.inside.order.items ++ numbers_from (length c.self.inside.order.items) m) more in
    let len : length c.lengthen_order.new.order.items ≡ length c.self.inside.order.items + c.args.more =
    ap (λ (l : List ℕ). length l) order ∙ length-append c.self.inside.order.items (numbers_from (length c.self.inside.order.items) c.args.more)
    ∙ ap (λ (m : ℕ). length c.self.inside.order.items + m) (length-numbers_from (length c.self.inside.order.items) c.args.more) in
    let whole : length c.self.inside.order.items + c.args.more ≡ c.in-Some.count = omega (arith, count, c.in-Some.ensures.0, c.count.ensures.count) in
    let room : (length c.self.inside.order.items + c.args.more) * c.self.inside.block ≤ length c.lengthen_region.new.region.items =
    rw whole c.in_ok-lengthen_region.ensures.ok in
    let ordered : IsOrder (length c.self.inside.order.items + c.args.more) c.lengthen_order.new.order.items =
    subst (IsOrder (length c.self.inside.order.items + c.args.more)) (sym order)
    (order-longer (length c.self.inside.order.items) c.args.more c.self.inside.order.items c.self.invariant.3) in
    rw len (c.self.invariant.0, omega (arith, whole, c.in-Some.ensures.1), room, ordered)

pub returns-clause-count : goal.returns-clause-count
returns-clause-count c =
    let count : length c.self.inside.order.items ≡ c.args.self.now.count = ap (λ (v : Slotted). v.count) c.self.view_is in
    let len : length c.lengthen_order.new.order.items ≡ length c.self.inside.order.items + (c.in-Some.count - length c.self.inside.order.items) =
    ap (λ (l : List ℕ). length l) c.in_ok-lengthen_order.ensures.ok
    ∙ length-append c.self.inside.order.items (numbers_from (length c.self.inside.order.items) (c.in-Some.count - length c.self.inside.order.items))
    ∙ ap (λ (m : ℕ). length c.self.inside.order.items + m) (length-numbers_from (length c.self.inside.order.items) (c.in-Some.count - length c.self.inside.order.items)) in
    omega (arith, len, count, c.in-Some.ensures.0, c.count.ensures.count)

pub returns-clause-bytes : goal.returns-clause-bytes
returns-clause-bytes c =
    let block : c.self.inside.block ≡ c.args.self.now.block = ap (λ (v : Slotted). v.block) c.self.view_is in
    let count : length c.self.inside.order.items ≡ c.args.self.now.count = ap (λ (v : Slotted). v.count) c.self.view_is in
    let bytes : gathered c.self.inside.block c.self.inside.region.items c.self.inside.order.items ≡ c.args.self.now.bytes = ap (λ (v : Slotted). v.bytes) c.self.view_is in
    let rest : ℕ = c.in-Some.count - length c.self.inside.order.items in
    let whole : length c.self.inside.order.items + (c.in-Some.count - length c.self.inside.order.items) ≡ c.in-Some.count = omega (arith, count, c.in-Some.ensures.0, c.count.ensures.count) in
    let room : (length c.self.inside.order.items + (c.in-Some.count - length c.self.inside.order.items)) * c.self.inside.block ≤ length c.lengthen_region.new.region.items =
    rw whole c.in_ok-lengthen_region.ensures.ok in
    ap (λ (m : ℕ). take (m * c.args.self.now.block) (gathered c.self.inside.block c.lengthen_region.new.region.items c.lengthen_order.new.order.items)) (sym count)
    ∙ ap (λ (m : ℕ). take (length c.self.inside.order.items * m) (gathered c.self.inside.block c.lengthen_region.new.region.items c.lengthen_order.new.order.items)) (sym block)
    ∙ ap (λ (l : List ℕ). take (length c.self.inside.order.items * c.self.inside.block) (gathered c.self.inside.block c.lengthen_region.new.region.items l)) c.in_ok-lengthen_order.ensures.ok
    ∙ gathered-grown c.self.inside.block (c.in-Some.count - length c.self.inside.order.items) c.self.inside.region.items c.lengthen_region.new.region.items c.self.inside.order.items
    room c.self.invariant.2 c.in_ok-lengthen_region.ensures.kept c.self.invariant.3
    ∙ bytes

pub returns-clause-whole : goal.returns-clause-whole
returns-clause-whole c =
    let count : length c.self.inside.order.items ≡ c.args.self.now.count = ap (λ (v : Slotted). v.count) c.self.view_is in
    let more : c.in-Some.count - length c.self.inside.order.items ≡ c.args.more = omega (arith, count, c.in-Some.ensures.0, c.count.ensures.count) in
    let order : c.lengthen_order.new.order.items ≡ c.self.inside.order.items ++ numbers_from (length c.self.inside.order.items) c.args.more =
    c.in_ok-lengthen_order.ensures.ok ∙ ap (λ (m : ℕ). c.self.inside.order.items ++ numbers_from (length c.self.inside.order.items) m) more in
    let whole : length c.self.inside.order.items + c.args.more ≡ c.in-Some.count = omega (arith, count, c.in-Some.ensures.0, c.count.ensures.count) in
    let room : (length c.self.inside.order.items + c.args.more) * c.self.inside.block ≤ length c.lengthen_region.new.region.items =
    rw whole c.in_ok-lengthen_region.ensures.ok in
    length-gathered c.self.inside.block (length c.self.inside.order.items + c.args.more) c.lengthen_region.new.region.items c.lengthen_order.new.order.items room
    (subst (λ (l : List ℕ). (s : ℕ) → length c.self.inside.order.items + c.args.more ≤ s → times_in s l ≡ 0) (sym order)
    (order-longer (length c.self.inside.order.items) c.args.more c.self.inside.order.items c.self.invariant.3).inside)

pub returns-clause-few : goal.returns-clause-few
returns-clause-few c =
    let count : length c.self.inside.order.items ≡ c.args.self.now.count = ap (λ (v : Slotted). v.count) c.self.view_is in
    let len : length c.lengthen_order.new.order.items ≡ length c.self.inside.order.items + (c.in-Some.count - length c.self.inside.order.items) =
    ap (λ (l : List ℕ). length l) c.in_ok-lengthen_order.ensures.ok
    ∙ length-append c.self.inside.order.items (numbers_from (length c.self.inside.order.items) (c.in-Some.count - length c.self.inside.order.items))
    ∙ ap (λ (m : ℕ). length c.self.inside.order.items + m) (length-numbers_from (length c.self.inside.order.items) (c.in-Some.count - length c.self.inside.order.items)) in
    omega (arith, len, count, c.in-Some.ensures.0, c.in-Some.ensures.1, c.count.ensures.count)
