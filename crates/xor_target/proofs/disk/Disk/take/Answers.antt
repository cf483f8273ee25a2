use Rattle.std.proofs.Common.{◌≡◌, ◌*◌, ap, ◌∙◌, sym, length}
use Rattle.xor_buffers.specs.Held.{holder_of}
use Rattle.xor_target.specs.Disks.{DiskState}
use Rattle.xor_target.specs.Effects.{rows_taken}
use Rattle.xor_target.proofs.TakenBlocks.{taken-rows}
use Rattle.xor_target.proofs.disk.Disk.take.Goals as goal

pub returns-clause-rows : goal.returns-clause-rows
returns-clause-rows g c =
    let now = c.args.self.now in
    let inside = c.self.inside in
    let block : inside.buffer.block ≡ now.block = c.self.invariant.1 ∙ ap (λ (d : DiskState). d.block) c.self.view_is in
    let list : inside.buffer.list ≡ now.buffer.list = ap (λ (d : DiskState). d.buffer.list) c.self.view_is in
    let row = c.args.row in
    let len = c.args.count * now.block in
    let whole = c.requires.whole in
    let holder =
    ap (λ b. holder_of b row (length c.args.into.now) inside.buffer.list) block ∙ ap (λ n. holder_of now.block row n inside.buffer.list) whole
    ∙ ap (λ hs. holder_of now.block row len hs) list in
    sym (ap (λ b. rows_taken b row (length c.args.into.now) inside.buffer.list) block ∙ ap (λ n. rows_taken now.block row n inside.buffer.list) whole
    ∙ ap (λ hs. rows_taken now.block row len hs) list)
    ∙ taken-rows inside.buffer.block row (length c.args.into.now) inside.buffer.list c.take.new.into c.take.result
    (λ none. c.requires.owner (sym holder ∙ none)) c.take.ensures.owner c.take.ensures.bytes
