use Rattle.std.proofs.Common.{rules, ◌≡◌, ◌≤◌, ◌*◌, ◌++◌, ◌∷◌, [], ℕ, List, ap, ◌∙◌, sym, subst, length, arith}
use Rattle.xor_buffers.specs.declared.held.HeldBlocks.{HeldBlocks}
use Rattle.xor_buffers.specs.Held.{held_blocks}
use Rattle.xor_buffers.specs.Holding.{hold_fault}
use Rattle.xor_target.specs.Disks.{DiskState}
use Rattle.xor_target.proofs.BlockCounts.{blocks-whole, blocks-count, held-more}
use Rattle.xor_target.proofs.TakenBlocks.{no-fault, no-fault-of}
use Rattle.xor_target.proofs.disk.Disk.hold.Goals as goal

pub hold-requires-clause-whole : goal.hold-requires-clause-whole
hold-requires-clause-whole g c =
    let same : c.self.inside.buffer.block ≡ c.self.inside.block = c.self.invariant.1 in
    let some : 1 ≤ c.self.inside.block = c.self.invariant.2 in
    blocks-whole (length c.args.bytes.now) c.args.count c.self.inside.buffer.block (omega arith)
    (c.requires.whole ∙ ap (λ b. c.args.count * b) (sym (same ∙ ap (λ (d : DiskState). d.block) c.self.view_is)))

pub unwrap-requires : goal.unwrap-requires
unwrap-requires g c =
    let same : c.self.inside.buffer.block ≡ c.self.inside.block = c.self.invariant.1 in
    let some : 1 ≤ c.self.inside.block = c.self.invariant.2 in
    let whole = blocks-count (length c.args.bytes.now) c.args.count c.self.inside.buffer.block (omega arith)
    (c.requires.whole ∙ ap (λ b. c.args.count * b) (sym (same ∙ ap (λ (d : DiskState). d.block) c.self.view_is))) in
    let block = same ∙ ap (λ (d : DiskState). d.block) c.self.view_is in
    let now = c.args.self.now in
    let inside = c.self.inside.buffer in
    no-fault c.hold.result _ c.hold.ensures.fault
    (ap (λ n. hold_fault inside c.args.row n) whole ∙ ap (λ b. hold_fault (record inside { block = b }) c.args.row c.args.count) block
    ∙ ap (λ (d : DiskState). hold_fault (record d.buffer { block = now.block }) c.args.row c.args.count) c.self.view_is
    ∙ no-fault-of (record now.buffer { block = now.block }) c.args.row c.args.count c.requires.free c.requires.room)

pub returns-clause-fills : goal.returns-clause-fills
returns-clause-fills g c =
    let now = c.args.self.now in
    let block : c.self.inside.block ≡ now.block = ap (λ (d : DiskState). d.block) c.self.view_is in
    let held : HeldBlocks = record { owner = c.args.owner; row = c.args.row; bytes = c.args.bytes.now } in
    let list : c.hold.new.self.list ≡ now.buffer.list ++ held ∷ [] = search rules in
    ap (λ (l : List HeldBlocks). held_blocks now.block l) list
    ∙ held-more now.block c.args.count now.buffer.list held (subst (λ (b : ℕ). 1 ≤ b) block c.self.invariant.2) c.requires.whole
