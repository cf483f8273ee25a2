use Rattle.std.proofs.Common.{◌≡◌, ap, ◌∙◌, ◌++◌, List, ℕ, length}
use Rattle.blocks_core.specs.Xor.{xor, zeros}
use Rattle.array_journal.specs.declared.at.At.{At}
use Rattle.xor_target.specs.Gathers.{GatheringState, done_order}
use Rattle.xor_target.proofs.Gatherings.{made-sum}
use Rattle.xor_target.proofs.gathering.Gathering.done_order.Goals as goal

pub returns : goal.returns
returns c =
    let inside = c.self.inside in
    let last = c.args.last.now in
    let sum = inside.gather.sum in
    let bytes : c.into_bytes.result ≡ xor (xor sum last) inside.order.bytes =
    c.into_bytes.ensures ∙ c.in_ok-add-3.ensures.ok
    ∙ ap (λ (s : List ℕ). xor s c.as_slice.result.now) (c.in_ok-add-2.ensures.ok ∙ ap (λ (s : List ℕ). xor s last) c.in_ok-add.ensures.ok)
    ∙ ap (λ (b : List ℕ). xor (xor (xor c.in_ok-sum.sum c.sum-2.result.now) last) b) c.as_slice.ensures
    ∙ ap (λ (z : List ℕ). xor (xor (xor z c.sum-2.result.now) last) inside.order.bytes) c.in_ok-sum.ensures
    ∙ ap (λ (z : List ℕ). xor (xor (xor (zeros (length z)) c.sum-2.result.now) last) inside.order.bytes) c.sum.ensures.sum
    ∙ ap (λ (z : List ℕ). xor (xor (xor (zeros (length sum)) z) last) inside.order.bytes) c.sum-2.ensures.sum
    ∙ made-sum sum last inside.order.bytes in
    let made = c.args.made.now in
    ap (λ (names : List At). record inside.order { stamp = c.args.stamp; names = names; cdb = c.in_ok-copy.field-0; bytes = c.into_bytes.result }) c.in_ok-joined.ensures
    ∙ ap (λ (cdb : List ℕ). record inside.order { names = inside.order.names ++ made; stamp = c.args.stamp; cdb = cdb; bytes = c.into_bytes.result }) c.in_ok-copy.ensures
    ∙ ap (λ (b : List ℕ). record inside.order { names = inside.order.names ++ made; stamp = c.args.stamp; bytes = b }) bytes
    ∙ ap (λ (g : GatheringState). done_order g made last c.args.stamp) c.self.view_is
