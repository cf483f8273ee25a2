use Rattle.std.proofs.Common.{◌≡◌, ◌*◌, ◌≤◌, ℕ, List, sym, ap, ◌∙◌, subst, length, false}
use Rattle.xor_buffers.specs.declared.buffer.table.Run.{Run}
use Rattle.xor_buffers.specs.Held.{holder_of}
use Rattle.xor_buffers.specs.Runs.{blocks_in, run_holds, IsPlace}
use Rattle.xor_buffers.specs.Holding.{Holding}
use Rattle.std.specs.Vec.{vec_capacity}
use Rattle.std.specs.List.{AllByRecursion}
use Rattle.xor_buffers.proofs.HeldViews.{bytes_inside}
use Rattle.xor_buffers.proofs.Cuts.{IsCut, is_cut, rows-of-cut}
use Rattle.xor_buffers.proofs.TakenRows.{none-holds}
use Rattle.xor_buffers.proofs.buffer.Held.holder.Goals as goal

pub returns-in_default : goal.returns-in_default
returns-in_default c =
    let inside : blocks_in c.self.inside.runs.items * c.self.inside.slots.block ≤ length c.self.inside.slots.bytes =
    bytes_inside c.self.inside.slots.block c.self.inside.slots.count c.self.inside.capacity c.self.inside.used (vec_capacity c.self.inside.runs) c.self.inside.slots.bytes c.self.inside.runs.items c.self.invariant.0 in
    let none : AllByRecursion (λ e. run_holds c.args.row c.args.count e ≡ false) c.self.inside.runs.items =
    subst (λ (n : ℕ). AllByRecursion (λ e. run_holds c.args.row n e ≡ false) c.self.inside.runs.items) c.from.ensures
    (subst (λ (l : List Run). AllByRecursion (λ e. run_holds c.args.row c.from.result e ≡ false) l) c.deref.ensures.value c.in_default.ensures) in
    sym (none-holds c.self.inside.slots.block c.args.row c.args.count c.self.inside.runs.items c.self.inside.slots.bytes c.self.invariant.0.some_block inside none)
    ∙ ap (λ (h : Holding). holder_of h.block c.args.row (c.args.count * h.block) h.list) c.self.view_is

pub returns : goal.returns
returns c =
    let place : IsPlace c.args.row c.args.count c.self.inside.runs.items c.in-Some.place.index c.in-Some.place.at =
    subst (λ (n : ℕ). IsPlace c.args.row n c.self.inside.runs.items c.in-Some.place.index c.in-Some.place.at) c.from.ensures
    (subst (λ (l : List Run). IsPlace c.args.row c.from.result l c.in-Some.place.index c.in-Some.place.at) c.deref.ensures.value c.in-Some.ensures) in
    let k : IsCut c.self.inside.used (vec_capacity c.self.inside.runs) c.args.row c.args.count c.in-Some.place.index c.in-Some.place.at c.self.inside.runs.items c.index.result.now =
    is_cut c.self.inside.slots.block c.self.inside.slots.count c.self.inside.capacity c.self.inside.used (vec_capacity c.self.inside.runs) c.args.row c.args.count
    c.in-Some.place.index c.in-Some.place.at c.self.inside.slots.bytes c.self.inside.runs.items c.index.result.now c.self.invariant.0 place c.requires c.index.ensures in
    sym (rows-of-cut c.self.inside.slots.block c.self.inside.slots.count c.self.inside.capacity c.self.inside.used (vec_capacity c.self.inside.runs) c.args.row c.args.count c.in-Some.place.index c.in-Some.place.at
    c.self.inside.slots.bytes c.self.inside.runs.items c.index.result.now c.self.invariant.0 k).1
    ∙ ap (λ (h : Holding). holder_of h.block c.args.row (c.args.count * h.block) h.list) c.self.view_is
