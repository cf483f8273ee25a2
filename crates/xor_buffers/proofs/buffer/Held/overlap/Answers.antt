use Rattle.std.proofs.Common.{sym, ap, ◌∙◌, arith}
use Rattle.xor_buffers.specs.Held.{overlap_of}
use Rattle.xor_buffers.specs.Runs.{run_overlap}
use Rattle.xor_buffers.specs.Holding.{Holding}
use Rattle.xor_buffers.proofs.HeldViews.{bytes_inside}
use Rattle.xor_buffers.proofs.Cuts.{beyond, ahead}
use Rattle.xor_buffers.proofs.TakenRows.{overlap-runs}
use Rattle.xor_buffers.proofs.buffer.Held.overlap.Goals as goal

pub returns : goal.returns
returns c =
    c.overlap_in.ensures ∙ ap (run_overlap c.args.row c.args.count) c.deref.ensures.value
    ∙ sym (overlap-runs c.self.inside.slots.block c.args.row c.args.count c.self.inside.runs.items c.self.inside.slots.bytes c.self.invariant.0.some_block
    (bytes_inside c.self.inside.slots.block c.self.inside.slots.count c.self.inside.capacity c.self.inside.used _ c.self.inside.slots.bytes c.self.inside.runs.items c.self.invariant.0))
    ∙ ap (λ (h : Holding). overlap_of h.block c.args.row c.args.count h.list) c.self.view_is

pub returns-then-from-self : goal.returns-then-from-self
returns-then-from-self c =
    sym (beyond c.self.inside.first c.self.inside.end c.args.row c.args.count c.self.inside.runs.items c.self.invariant.1 (omega (arith, c.if-from-self.true, c.from.ensures)))
    ∙ sym (overlap-runs c.self.inside.slots.block c.args.row c.args.count c.self.inside.runs.items c.self.inside.slots.bytes c.self.invariant.0.some_block
    (bytes_inside c.self.inside.slots.block c.self.inside.slots.count c.self.inside.capacity c.self.inside.used _ c.self.inside.slots.bytes c.self.inside.runs.items c.self.invariant.0))
    ∙ ap (λ (h : Holding). overlap_of h.block c.args.row c.args.count h.list) c.self.view_is

pub returns-then-from : goal.returns-then-from
returns-then-from c =
    sym (ahead c.self.inside.first c.self.inside.end c.args.row c.args.count c.self.inside.runs.items c.self.invariant.1 (omega (arith, c.if-from.true, c.from-2.ensures, c.from-3.ensures, c.from-4.ensures)))
    ∙ sym (overlap-runs c.self.inside.slots.block c.args.row c.args.count c.self.inside.runs.items c.self.inside.slots.bytes c.self.invariant.0.some_block
    (bytes_inside c.self.inside.slots.block c.self.inside.slots.count c.self.inside.capacity c.self.inside.used _ c.self.inside.slots.bytes c.self.inside.runs.items c.self.invariant.0))
    ∙ ap (λ (h : Holding). overlap_of h.block c.args.row c.args.count h.list) c.self.view_is
