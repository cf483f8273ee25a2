use Rattle.std.proofs.Common.{◌≡◌, ◌+◌, ◌-◌, ap, arith}
use Rattle.xor_buffers.specs.Holding.{spare_of}
use Rattle.std.proofs.lemmas.Result.{on_ok_weaker}
use Rattle.xor_buffers.proofs.buffer.Held.reserve.Goals as goal

pub returns-clause-spare : goal.returns-clause-spare
returns-clause-spare c =
    on_ok_weaker c.add_slots.result
    (λ (is : c.add_slots.new.self ≡ record { block = c.args.self.now.block; capacity = c.args.self.now.capacity; slots = c.args.self.now.slots + (c.args.count - c.spare-spare.result); list = c.args.self.now.list }).
    omega (arith, ap spare_of is, c.spare-spare.ensures.spare, c.spare-spare.ensures.within, c.if-count-spare.false)) c.add_slots.ensures.ok
