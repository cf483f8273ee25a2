use Rattle.std.proofs.Common.{rules, arith, ◌≡◌, ◌*◌, ℕ, List, ap, length}
use Rattle.blocks_core.specs.Xor.{xor}
use Rattle.xor_buffers.specs.declared.held.HeldBlocks.{HeldBlocks}
use Rattle.xor_target.specs.Disks.{DiskState}
use Rattle.std.proofs.lemmas.Grind.{common_steps}
use Rattle.xor_target.proofs.StoodRows.{stood-as}
use Rattle.xor_target.proofs.DiskSteps.{held-last, filled-last}
use Rattle.xor_target.proofs.logged_disk.LoggedDisk.xdwrite.Goals as goal

pub returns-clause-done : goal.returns-clause-done
returns-clause-done g c =
    let gives = c.in_ok-read_delta.ensures.gives in
    let disk = c.args.self.now.disk in
    let order = c.args.order.now in
    let act = c.args.act.now in
    let reserved = c.in_ok-reserve.ensures.same in
    let block = ap (λ (d : DiskState). act.row * d.block) reserved in
    let contents = ap (λ (d : DiskState). d.contents) reserved in
    let due : length c.as_slice.result.now ≡ act.count * disk.block = search rules in
    let delta : c.deref.result.now ≡ xor gives.old order.bytes = grind (arith, common_steps) in
    let holds : List ℕ → HeldBlocks = λ b. record { owner = order.owner; row = act.row; bytes = b } in
    record {
      old = gives.old;
      stood = stood-as disk.contents _ (act.row * disk.block) _ (act.count * disk.block) _ gives.old contents block due gives.stood;
      written = search rules;
      answers = search rules;
      counted = search rules;
      kept = held-last disk c.reserve.new.self c.read_delta.new.self c.write.new.self c.hold.new.self (holds c.deref.result.now) (holds (xor gives.old order.bytes)) reserved
          c.in_ok-read_delta.ensures.same.same c.in_ok-write.ensures.same.same c.hold.ensures.held (ap holds delta);
      logged = search rules;
      number = search rules;
    }

pub returns-clause-fills : goal.returns-clause-fills
returns-clause-fills g c =
    filled-last c.args.self.now.disk c.reserve.new.self c.read_delta.new.self c.write.new.self c.hold.new.self.buffer.list c.args.act.now.count
    c.in_ok-reserve.ensures.same c.in_ok-read_delta.ensures.same.same c.in_ok-write.ensures.same.same c.hold.ensures.fills
