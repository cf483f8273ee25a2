use Rattle.std.proofs.Common.{◌≡◌, sym, ap, ◌∙◌, length}
use Rattle.xor_buffers.specs.Holding.{Holding}
use Rattle.xor_buffers.proofs.Wiping.{length-runs_of}
use Rattle.xor_buffers.proofs.buffer.Held.len.Goals as goal

pub returns : goal.returns
returns c =
    let len : length c.self.inside.runs.items ≡ length c.args.self.now.list =
    sym (length-runs_of c.self.inside.slots.block c.self.inside.slots.bytes c.self.inside.runs.items) ∙ ap (λ (h : Holding). length h.list) c.self.view_is in
    c.len.ensures ∙ c.self.inside.runs.ok.0 ∙ len
