use Rattle.std.proofs.Common.{◌∙◌, arith}
use Rattle.stripe_layout.proofs.PieceLaws.{cut-further}
use Rattle.stripe_layout.proofs.StripeLaws.{most-capacity}
use Rattle.stripe_layout.proofs.geometry.Geometry.pieces.Goals as goal

pub loop-left-preserved : goal.loop-left-preserved
loop-left-preserved c = record {
  whole =
      cut-further c.args.self.now c.args.max c.loop-left.first c.loop-left.left c.loop-left.pieces c.push.new.self c.first_piece-piece.result
      c.requires.array c.requires.some (omega (arith, c.loop-left-test.true)) (omega (arith, c.loop-left.invariant.end, c.requires.in_range))
      c.first_piece-piece.ensures.value c.in_ok-push.ensures.ok
      ∙ c.loop-left.invariant.whole;
  end = omega (arith, c.loop-left.invariant.end, c.first_piece-piece.ensures.most);
}

pub overflow_add-first : goal.overflow_add-first
overflow_add-first c =
    omega (arith, c.loop-left.invariant.end, c.first_piece-piece.ensures.most, c.requires.in_range, most-capacity c.args.self.now c.requires.array)
