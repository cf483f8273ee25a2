use Rattle.std.proofs.Common.{◌≡◌, ◌*◌, ◌≤◌, ◌+◌, ◌-◌, ◌++◌, ℕ, List, take, drop, sym, ap, ◌∙◌, length, arith}
use Rattle.blocks_core.specs.Lists.{block_at}
use Rattle.blocks_core.proofs.BlockLists.{length-block_at, block_end}
use Rattle.xor_buffers.proofs.BlockRuns.{read-more}
use Rattle.xor_buffers.proofs.buffer.slots.BlockSlots.read.Goals as goal

pub loop-done-preserved : goal.loop-done-preserved
loop-done-preserved c =
    let within : c.loop-done.from + c.block-block.result ≤ length c.loop-done.into =
    omega (
      arith,
      block_end c.block-block.result c.loop-done.done c.args.count c.loop-done-test.true,
      c.requires.size,
      ap (λ (m : ℕ). c.args.count * m) c.block-block.ensures.block,
      c.loop-done.auto.into,
      c.loop-done.invariant.0,
    ) in
    let block : c.read_block.new.into ≡ block_at c.block-block.result c.args.self.now.bytes (c.args.at + c.loop-done.done) =
    c.read_block.ensures ∙ ap (λ (m : ℕ). block_at m c.args.self.now.bytes (c.args.at + c.loop-done.done)) (sym c.block-block.ensures.block) in
    let whole : c.args.self.now.count * c.block-block.result ≤ length c.args.self.now.bytes =
    omega (arith, ap (λ (m : ℕ). c.args.self.now.count * m) c.block-block.ensures.block, c.block-block.ensures.whole) in
    let size : length c.read_block.new.into ≡ c.block-block.result =
    ap (λ (l : List ℕ). length l) block
    ∙ length-block_at c.block-block.result c.args.self.now.bytes (c.args.at + c.loop-done.done) c.args.self.now.count whole (omega (arith, c.requires.inside)) in
    let gap : c.loop-done.from + c.block-block.result - c.loop-done.from ≡ c.block-block.result = omega arith in
    read-more c.block-block.result c.args.at c.loop-done.done c.loop-done.from c.args.self.now.bytes c.loop-done.into c.read_block.new.into _
    c.loop-done.invariant.0 within size c.loop-done.invariant.1 block
    (ap (λ (m : ℕ). take c.loop-done.from c.loop-done.into ++ (c.read_block.new.into ++ drop m (drop c.loop-done.from c.loop-done.into))) gap)
