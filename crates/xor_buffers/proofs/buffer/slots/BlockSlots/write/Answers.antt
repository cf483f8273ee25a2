use Rattle.std.proofs.Common.{◌≡◌, ◌*◌, ◌≤◌, ◌+◌, ◌-◌, ℕ, List, take, drop, sym, ap, ◌∙◌, length, arith}
use Rattle.blocks_core.specs.Lists.{put}
use Rattle.blocks_core.proofs.BlockLists.{block_end}
use Rattle.xor_buffers.specs.Slots.{Slotted}
use Rattle.xor_buffers.proofs.BlockRuns.{put-more}
use Rattle.std.proofs.Math.Nat.{add-mul}
use Rattle.std.proofs.lemmas.Nat.{mul-le}
use Rattle.xor_buffers.proofs.buffer.slots.BlockSlots.write.Goals as goal

abbrev slotted : ℕ → ℕ → List ℕ → Slotted
slotted block count bytes = record { block = block; count = count; bytes = bytes }

pub loop-done-preserved : goal.loop-done-preserved
loop-done-preserved c =
    let size : length c.args.bytes.now ≡ c.args.count * c.block-block.result =
    c.requires.size ∙ ap (λ (m : ℕ). c.args.count * m) (sym c.block-block.ensures.block) in
    let next : c.loop-done.from + c.block-block.result ≡ (c.loop-done.done + 1) * c.block-block.result =
    omega (arith, c.loop-done.invariant.0, add-mul c.loop-done.done 1 c.block-block.result) in
    let within : c.loop-done.from + c.block-block.result ≤ length c.args.bytes.now =
    omega (arith, size, block_end c.block-block.result c.loop-done.done c.args.count c.loop-done-test.true, c.loop-done.invariant.0) in
    let inside : c.args.at * c.block-block.result + length c.args.bytes.now ≤ length c.args.self.now.bytes =
    omega (
      arith,
      size,
      add-mul c.args.at c.args.count c.block-block.result,
      mul-le (c.args.at + c.args.count) c.block-block.result c.args.self.now.count c.block-block.result c.requires.inside (omega arith),
      ap (λ (m : ℕ). c.args.self.now.count * m) c.block-block.ensures.block,
      c.block-block.ensures.whole,
    ) in
    let before : c.loop-done.self.block ≡ c.block-block.result = ap (λ (v : Slotted). v.block) c.loop-done.invariant.1 ∙ sym c.block-block.ensures.block in
    let bytes : put c.loop-done.self.bytes ((c.args.at + c.loop-done.done) * c.loop-done.self.block) (take (c.loop-done.from + c.block-block.result - c.loop-done.from) (drop c.loop-done.from c.args.bytes.now))
    ≡ put c.args.self.now.bytes (c.args.at * c.block-block.result) (take ((c.loop-done.done + 1) * c.block-block.result) c.args.bytes.now) =
    ap (λ (m : ℕ). put c.loop-done.self.bytes ((c.args.at + c.loop-done.done) * m) (take (c.loop-done.from + c.block-block.result - c.loop-done.from) (drop c.loop-done.from c.args.bytes.now))) before
    ∙ ap (λ (v : Slotted). put v.bytes ((c.args.at + c.loop-done.done) * c.block-block.result) (take (c.loop-done.from + c.block-block.result - c.loop-done.from) (drop c.loop-done.from c.args.bytes.now))) c.loop-done.invariant.1
    ∙ put-more c.block-block.result c.args.at c.loop-done.done c.loop-done.from c.args.self.now.bytes c.args.bytes.now c.loop-done.invariant.0 within inside in
    let after : List ℕ = put c.args.self.now.bytes (c.args.at * c.block-block.result) (take ((c.loop-done.done + 1) * c.block-block.result) c.args.bytes.now) in (
      next,
      c.write_block.ensures
          ∙ ap (λ (l : List ℕ). slotted c.loop-done.self.block c.loop-done.self.count l) bytes
          ∙ ap (λ (v : Slotted). slotted v.block v.count after) c.loop-done.invariant.1,
    )
