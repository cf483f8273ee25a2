use Rattle.std.proofs.Common.{◌≡◌, ◌/◌, ◌<◌, sym, ap, ◌∙◌, length, get_or, arith}
use Rattle.xor_buffers.specs.declared.buffer.table.Run.{Run}
use Rattle.xor_buffers.specs.Runs.{runs_of}
use Rattle.xor_buffers.specs.Holding.{Holding}
use Rattle.std.specs.Vec.{vec_capacity}
use Rattle.xor_buffers.proofs.HeldViews.{bytes_inside}
use Rattle.xor_buffers.proofs.Wiping.{length-runs_of, get-runs_of}
use Rattle.xor_buffers.proofs.buffer.Held.run_at.Goals as goal

pub index-requires : goal.index-requires
index-requires c =
    let len : length c.self.inside.runs.items ≡ length c.args.self.now.list =
    sym (length-runs_of c.self.inside.slots.block c.self.inside.slots.bytes c.self.inside.runs.items) ∙ ap (λ (h : Holding). length h.list) c.self.view_is in
    omega (arith, c.self.inside.runs.ok.0, len, c.requires)

pub returns-clause-owner : goal.returns-clause-owner
returns-clause-owner c = λ d.
    let len : length c.self.inside.runs.items ≡ length c.args.self.now.list =
    sym (length-runs_of c.self.inside.slots.block c.self.inside.slots.bytes c.self.inside.runs.items) ∙ ap (λ (h : Holding). length h.list) c.self.view_is in
    let inside : c.args.index < length c.self.inside.runs.items = omega (arith, len, c.requires) in
    let got : ((get_or c.self.inside.runs.items c.args.index c.index.result.now).owner ≡ (get_or (runs_of c.self.inside.slots.block c.self.inside.slots.bytes c.self.inside.runs.items) c.args.index d).owner)
    × ((get_or c.self.inside.runs.items c.args.index c.index.result.now).count ≡ length (get_or (runs_of c.self.inside.slots.block c.self.inside.slots.bytes c.self.inside.runs.items) c.args.index d).bytes / c.self.inside.slots.block) =
    get-runs_of c.self.inside.slots.block c.self.inside.slots.bytes c.args.index c.self.inside.runs.items d c.index.result.now c.self.invariant.0.some_block inside
    (bytes_inside c.self.inside.slots.block c.self.inside.slots.count c.self.inside.capacity c.self.inside.used (vec_capacity c.self.inside.runs) c.self.inside.slots.bytes c.self.inside.runs.items c.self.invariant.0) in
    ap (λ (e : Run). e.owner) c.index.ensures ∙ got.0 ∙ ap (λ (h : Holding). (get_or h.list c.args.index d).owner) c.self.view_is

pub returns-clause-count : goal.returns-clause-count
returns-clause-count c = λ d.
    let len : length c.self.inside.runs.items ≡ length c.args.self.now.list =
    sym (length-runs_of c.self.inside.slots.block c.self.inside.slots.bytes c.self.inside.runs.items) ∙ ap (λ (h : Holding). length h.list) c.self.view_is in
    let inside : c.args.index < length c.self.inside.runs.items = omega (arith, len, c.requires) in
    let got : ((get_or c.self.inside.runs.items c.args.index c.index.result.now).owner ≡ (get_or (runs_of c.self.inside.slots.block c.self.inside.slots.bytes c.self.inside.runs.items) c.args.index d).owner)
    × ((get_or c.self.inside.runs.items c.args.index c.index.result.now).count ≡ length (get_or (runs_of c.self.inside.slots.block c.self.inside.slots.bytes c.self.inside.runs.items) c.args.index d).bytes / c.self.inside.slots.block) =
    get-runs_of c.self.inside.slots.block c.self.inside.slots.bytes c.args.index c.self.inside.runs.items d c.index.result.now c.self.invariant.0.some_block inside
    (bytes_inside c.self.inside.slots.block c.self.inside.slots.count c.self.inside.capacity c.self.inside.used (vec_capacity c.self.inside.runs) c.self.inside.slots.bytes c.self.inside.runs.items c.self.invariant.0) in
    ap (λ (e : Run). e.count) c.index.ensures ∙ got.1 ∙ ap (λ (h : Holding). length (get_or h.list c.args.index d).bytes / h.block) c.self.view_is
