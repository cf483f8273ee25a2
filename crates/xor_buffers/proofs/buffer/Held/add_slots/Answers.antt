use Rattle.std.proofs.Common.{◌≡◌, ◌*◌, ◌≤◌, ◌+◌, ℕ, List, ap, ◌∙◌, length, arith, subst, sym}
use Rattle.xor_buffers.specs.declared.held.HeldBlocks.{HeldBlocks}
use Rattle.xor_buffers.specs.declared.buffer.table.Run.{Run}
use Rattle.xor_buffers.specs.Runs.{AreBetween, runs_of}
use Rattle.xor_buffers.specs.Holding.{Holding}
use Rattle.std.specs.Vec.{vec_capacity}
use Rattle.xor_buffers.proofs.HeldViews.{table-grown, list-grown, holding}
use Rattle.xor_buffers.proofs.TableLaws.{runs-few}
use Rattle.xor_buffers.proofs.buffer.Held.add_slots.Goals as goal

pub overflow_sub-count : goal.overflow_sub-count
overflow_sub-count c =
    omega (arith, c.len.ensures, c.self.inside.runs.ok.0, runs-few c.self.inside.runs.items c.self.invariant.0.sound, c.self.invariant.0.counted, c.self.invariant.0.within, c.count.ensures.count)

pub invariant_of-self-2 : goal.invariant_of-self-2
invariant_of-self-2 c =
    let len : length c.grow.new.self.bytes ≡ (c.self.inside.slots.count + c.args.more) * c.self.inside.slots.block =
    c.in_ok-grow.ensures.whole ∙ ap (λ (n : ℕ). n * c.grow.new.self.block) c.in_ok-grow.ensures.count
    ∙ ap (λ (n : ℕ). (c.self.inside.slots.count + c.args.more) * n) c.in_ok-grow.ensures.block in
    let few : c.len.result ≤ c.count.result + c.args.more =
    omega (arith, c.len.ensures, c.self.inside.runs.ok.0, runs-few c.self.inside.runs.items c.self.invariant.0.sound, c.self.invariant.0.counted, c.self.invariant.0.within, c.count.ensures.count) in
    let places : c.self.inside.slots.count + c.args.more ≤ vec_capacity c.reserve.new.self =
    omega (arith, few, c.in_ok-reserve.ensures.ok, c.in_ok-reserve.ensures.len, c.len.ensures, c.count.ensures.count) in (
      rw (c.in_ok-grow.ensures.block, c.in_ok-grow.ensures.count, c.in_ok-reserve.ensures.items)
          (table-grown c.self.inside.slots.block c.self.inside.slots.count c.self.inside.capacity c.self.inside.used _ c.args.more (vec_capacity c.reserve.new.self)
          c.self.inside.slots.bytes c.grow.new.self.bytes c.self.inside.runs.items c.self.invariant.0 len places (omega (arith, c.in_ok-grow.ensures.few, c.in_ok-grow.ensures.count))),
      subst (AreBetween c.self.inside.first c.self.inside.end) (sym c.in_ok-reserve.ensures.items) c.self.invariant.1,
    )

pub returns-clause-ok : goal.returns-clause-ok
returns-clause-ok c =
    let same : runs_of c.self.inside.slots.block c.grow.new.self.bytes c.self.inside.runs.items ≡ runs_of c.self.inside.slots.block c.self.inside.slots.bytes c.self.inside.runs.items =
    list-grown c.self.inside.slots.block c.self.inside.slots.count c.self.inside.capacity c.self.inside.used _ c.self.inside.slots.bytes c.grow.new.self.bytes
    c.self.inside.runs.items c.self.invariant.0 c.in_ok-grow.ensures.bytes in
    ap (λ (l : List Run). holding c.grow.new.self.block c.self.inside.capacity c.grow.new.self.count (runs_of c.grow.new.self.block c.grow.new.self.bytes l)) c.in_ok-reserve.ensures.items
    ∙ ap (λ (n : ℕ). holding n c.self.inside.capacity c.grow.new.self.count (runs_of n c.grow.new.self.bytes c.self.inside.runs.items)) c.in_ok-grow.ensures.block
    ∙ ap (λ (n : ℕ). holding c.self.inside.slots.block c.self.inside.capacity n (runs_of c.self.inside.slots.block c.grow.new.self.bytes c.self.inside.runs.items)) c.in_ok-grow.ensures.count
    ∙ ap (λ (l : List HeldBlocks). holding c.self.inside.slots.block c.self.inside.capacity (c.self.inside.slots.count + c.args.more) l) same
    ∙ ap (λ (h : Holding). holding h.block h.capacity (h.slots + c.args.more) h.list) c.self.view_is
