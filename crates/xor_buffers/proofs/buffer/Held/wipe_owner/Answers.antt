use Rattle.std.proofs.Common.{◌≡◌, ◌==◌, ◌/◌, ◌+◌, ◌-◌, ◌++◌, [], ℕ, not, take, drop, sym, ap, ◌∙◌, length, get_or, arith}
use Rattle.std.proofs.lemmas.Bool.{eq-eqb, ne_eqb}
use Rattle.xor_buffers.specs.declared.held.HeldBlocks.{HeldBlocks}
use Rattle.xor_buffers.specs.Held.{held_blocks}
use Rattle.xor_buffers.specs.Holding.{Holding}
use Rattle.xor_buffers.proofs.TableSteps.{IsBack, is_back}
use Rattle.xor_buffers.proofs.HeldViews.{holding}
use Rattle.xor_buffers.proofs.Wiping.{IsStep, is_step, kept_from}
use Rattle.xor_buffers.proofs.buffer.Held.wipe_owner.Goals as goal
use Rattle.xor_buffers.proofs.buffer.Held.wipe_owner.Goals.{then-run-owner, else-run-owner}

abbrev none : HeldBlocks
none = record { owner = 0; row = 0; bytes = [] }

pub overflow_sub-at : goal.overflow_sub-at
overflow_sub-at c =
    let back : IsBack c.len-len.result c.loop-done.done = is_back c.len-len.result c.loop-done.done c.loop-done-test.true in
    let step : IsStep c.args.self.now.block (λ h. not (h.owner == c.args.owner)) c.args.self.now.list (c.len-len.result - 1 - c.loop-done.done) none = is_step c.args.self.now.block (λ h. not (h.owner == c.args.owner)) c.args.self.now.list (c.len-len.result - 1 - c.loop-done.done) none (omega (arith, back.place, c.len-len.ensures)) in
    let state : c.loop-done.self ≡ holding c.args.self.now.block c.args.self.now.capacity c.args.self.now.slots (kept_from (λ h. not (h.owner == c.args.owner)) ((c.len-len.result - 1 - c.loop-done.done) + 1) c.args.self.now.list) =
    c.loop-done.invariant.0 ∙ ap (λ (n : ℕ). holding c.args.self.now.block c.args.self.now.capacity c.args.self.now.slots (kept_from (λ h. not (h.owner == c.args.owner)) n c.args.self.now.list)) back.before in
    let end : c.loop-done.at ≡ held_blocks c.args.self.now.block (take ((c.len-len.result - 1 - c.loop-done.done) + 1) c.args.self.now.list) =
    c.loop-done.invariant.1 ∙ ap (λ (n : ℕ). held_blocks c.args.self.now.block (take n c.args.self.now.list)) back.before in
    let count : c.run_at-run.result.count ≡ length (get_or c.args.self.now.list (c.len-len.result - 1 - c.loop-done.done) none).bytes / c.args.self.now.block =
    c.run_at-run.ensures.count none ∙ ap (λ (h : Holding). length (get_or h.list (c.len-len.result - 1 - c.loop-done.done) none).bytes / h.block) state
    ∙ ap (λ (h : HeldBlocks). length h.bytes / c.args.self.now.block) step.piece in
    let owner : c.run_at-run.result.owner ≡ (get_or c.args.self.now.list (c.len-len.result - 1 - c.loop-done.done) none).owner =
    c.run_at-run.ensures.owner none ∙ ap (λ (h : Holding). (get_or h.list (c.len-len.result - 1 - c.loop-done.done) none).owner) state ∙ ap (λ (h : HeldBlocks). h.owner) step.piece in
    let less : c.loop-done.at - c.run_at-run.result.count ≡ held_blocks c.args.self.now.block (take (c.len-len.result - 1 - c.loop-done.done) c.args.self.now.list) = omega (arith, end, count, step.blocks) in
    omega (arith, end, count, step.blocks)

pub drop_run-requires-clause-at : goal.drop_run-requires-clause-at
drop_run-requires-clause-at c =
    let back : IsBack c.len-len.result c.loop-done.done = is_back c.len-len.result c.loop-done.done c.loop-done-test.true in
    let step : IsStep c.args.self.now.block (λ h. not (h.owner == c.args.owner)) c.args.self.now.list (c.len-len.result - 1 - c.loop-done.done) none = is_step c.args.self.now.block (λ h. not (h.owner == c.args.owner)) c.args.self.now.list (c.len-len.result - 1 - c.loop-done.done) none (omega (arith, back.place, c.len-len.ensures)) in
    let state : c.loop-done.self ≡ holding c.args.self.now.block c.args.self.now.capacity c.args.self.now.slots (kept_from (λ h. not (h.owner == c.args.owner)) ((c.len-len.result - 1 - c.loop-done.done) + 1) c.args.self.now.list) =
    c.loop-done.invariant.0 ∙ ap (λ (n : ℕ). holding c.args.self.now.block c.args.self.now.capacity c.args.self.now.slots (kept_from (λ h. not (h.owner == c.args.owner)) n c.args.self.now.list)) back.before in
    let end : c.loop-done.at ≡ held_blocks c.args.self.now.block (take ((c.len-len.result - 1 - c.loop-done.done) + 1) c.args.self.now.list) =
    c.loop-done.invariant.1 ∙ ap (λ (n : ℕ). held_blocks c.args.self.now.block (take n c.args.self.now.list)) back.before in
    let count : c.run_at-run.result.count ≡ length (get_or c.args.self.now.list (c.len-len.result - 1 - c.loop-done.done) none).bytes / c.args.self.now.block =
    c.run_at-run.ensures.count none ∙ ap (λ (h : Holding). length (get_or h.list (c.len-len.result - 1 - c.loop-done.done) none).bytes / h.block) state
    ∙ ap (λ (h : HeldBlocks). length h.bytes / c.args.self.now.block) step.piece in
    let owner : c.run_at-run.result.owner ≡ (get_or c.args.self.now.list (c.len-len.result - 1 - c.loop-done.done) none).owner =
    c.run_at-run.ensures.owner none ∙ ap (λ (h : Holding). (get_or h.list (c.len-len.result - 1 - c.loop-done.done) none).owner) state ∙ ap (λ (h : HeldBlocks). h.owner) step.piece in
    let less : c.loop-done.at - c.run_at-run.result.count ≡ held_blocks c.args.self.now.block (take (c.len-len.result - 1 - c.loop-done.done) c.args.self.now.list) = omega (arith, end, count, step.blocks) in
    less ∙ sym (ap (held_blocks c.args.self.now.block) step.front) ∙ sym (ap (λ (h : Holding). held_blocks h.block (take (c.len-len.result - 1 - c.loop-done.done) h.list)) state)

pub loop-done-preserved : goal.loop-done-preserved
loop-done-preserved c =
    let back : IsBack c.len-len.result c.loop-done.done = is_back c.len-len.result c.loop-done.done c.loop-done-test.true in
    let step : IsStep c.args.self.now.block (λ h. not (h.owner == c.args.owner)) c.args.self.now.list (c.len-len.result - 1 - c.loop-done.done) none = is_step c.args.self.now.block (λ h. not (h.owner == c.args.owner)) c.args.self.now.list (c.len-len.result - 1 - c.loop-done.done) none (omega (arith, back.place, c.len-len.ensures)) in
    let state : c.loop-done.self ≡ holding c.args.self.now.block c.args.self.now.capacity c.args.self.now.slots (kept_from (λ h. not (h.owner == c.args.owner)) ((c.len-len.result - 1 - c.loop-done.done) + 1) c.args.self.now.list) =
    c.loop-done.invariant.0 ∙ ap (λ (n : ℕ). holding c.args.self.now.block c.args.self.now.capacity c.args.self.now.slots (kept_from (λ h. not (h.owner == c.args.owner)) n c.args.self.now.list)) back.before in
    let end : c.loop-done.at ≡ held_blocks c.args.self.now.block (take ((c.len-len.result - 1 - c.loop-done.done) + 1) c.args.self.now.list) =
    c.loop-done.invariant.1 ∙ ap (λ (n : ℕ). held_blocks c.args.self.now.block (take n c.args.self.now.list)) back.before in
    let count : c.run_at-run.result.count ≡ length (get_or c.args.self.now.list (c.len-len.result - 1 - c.loop-done.done) none).bytes / c.args.self.now.block =
    c.run_at-run.ensures.count none ∙ ap (λ (h : Holding). length (get_or h.list (c.len-len.result - 1 - c.loop-done.done) none).bytes / h.block) state
    ∙ ap (λ (h : HeldBlocks). length h.bytes / c.args.self.now.block) step.piece in
    let owner : c.run_at-run.result.owner ≡ (get_or c.args.self.now.list (c.len-len.result - 1 - c.loop-done.done) none).owner =
    c.run_at-run.ensures.owner none ∙ ap (λ (h : Holding). (get_or h.list (c.len-len.result - 1 - c.loop-done.done) none).owner) state ∙ ap (λ (h : HeldBlocks). h.owner) step.piece in
    let less : c.loop-done.at - c.run_at-run.result.count ≡ held_blocks c.args.self.now.block (take (c.len-len.result - 1 - c.loop-done.done) c.args.self.now.list) = omega (arith, end, count, step.blocks) in
    let next : holding c.args.self.now.block c.args.self.now.capacity c.args.self.now.slots (kept_from (λ h. not (h.owner == c.args.owner)) (c.len-len.result - 1 - c.loop-done.done) c.args.self.now.list)
    ≡ holding c.args.self.now.block c.args.self.now.capacity c.args.self.now.slots (kept_from (λ h. not (h.owner == c.args.owner)) (c.len-len.result - (c.loop-done.done + 1)) c.args.self.now.list) =
    ap (λ (n : ℕ). holding c.args.self.now.block c.args.self.now.capacity c.args.self.now.slots (kept_from (λ h. not (h.owner == c.args.owner)) n c.args.self.now.list)) (sym back.next) in (
      elim c.if-run-owner.branch [
        | then-run-owner w ↦
            w.self-is ∙ w.drop_run.ensures
            ∙ ap (λ (h : Holding). holding h.block h.capacity h.slots (take (c.len-len.result - 1 - c.loop-done.done) h.list ++ drop ((c.len-len.result - 1 - c.loop-done.done) + 1) h.list)) state
            ∙ ap (holding c.args.self.now.block c.args.self.now.capacity c.args.self.now.slots)
            (step.dropped (ap not (eq-eqb (get_or c.args.self.now.list (c.len-len.result - 1 - c.loop-done.done) none).owner c.args.owner (sym owner ∙ w.if-run-owner.true))))
            ∙ next
        | else-run-owner w ↦
            w.self-is ∙ state
            ∙ ap (holding c.args.self.now.block c.args.self.now.capacity c.args.self.now.slots)
            (step.kept (ap not (ne_eqb (get_or c.args.self.now.list (c.len-len.result - 1 - c.loop-done.done) none).owner c.args.owner (λ q. w.if-run-owner.false (owner ∙ q)))))
            ∙ next
      ],
      less ∙ ap (λ (n : ℕ). held_blocks c.args.self.now.block (take n c.args.self.now.list)) (sym back.next),
    )
