use Rattle.std.proofs.Common.{refl, ap, sym, ◌∙◌}
use Rattle.std.proofs.lemmas.Bool.{false≢true}
use Rattle.unit_plans.specs.declared.doings.Reply.TheVariants.{Good}
use Rattle.array_control.proofs.Executing.{executes-first, executed, executes-further, left-more, array-stays, calm-moves, way-moves, over-bus}
use Rattle.array_control.proofs.array.Array.serve_all.Goals as goal
use Rattle.array_control.proofs.array.Array.serve_all.Goals.{in-None, in-Some+then-is_done}

pub loop-init : goal.loop-init
loop-init g c = (c.requires.pass, refl, refl, executes-first _ _ _ _ _ c.requires.call c.requires.calm)

pub advance-requires-clause-array : goal.advance-requires-clause-array
advance-requires-clause-array g c =
    array-stays _ _ _ _ _ _ _ _ c.requires.array c.loop.invariant.1 (ap (λ a. a.geometry) c.loop.invariant.2) (ap (λ a. a.mode) c.loop.invariant.2)
    (ap (λ a. a.max) c.loop.invariant.2)

pub advance-requires-clause-pass : goal.advance-requires-clause-pass
advance-requires-clause-pass g c = c.loop.invariant.0

pub advance-requires-clause-calm : goal.advance-requires-clause-calm
advance-requires-clause-calm g c = calm-moves _ _ _ _ _ c.loop.invariant.1 c.loop.invariant.3.calm

pub advance-requires-clause-run : goal.advance-requires-clause-run
advance-requires-clause-run g c = way-moves _ _ _ _ c.loop.invariant.1 c.loop.invariant.3.way

pub advance-requires-clause-more : goal.advance-requires-clause-more
advance-requires-clause-more g c = left-more _ c.loop.call _ c.loop.invariant.3.way (sym c.if-is_done.ensures)

pub loop-preserved : goal.loop-preserved
loop-preserved g c = (
  c.in_ok-back.ensures.pass,
  c.in_ok-back.ensures.setting ∙ c.loop.invariant.1,
  c.in_ok-back.ensures.same ∙ over-bus c.args.self.now c.loop.self _ _ c.loop.invariant.2,
  executes-further _ _ _ _ _ c.loop.call _ _ _ _ _ c.loop.invariant.1 c.loop.invariant.3 c.in_ok-back.ensures.comes c.in_ok-back.ensures.calm,
)

pub returns-clause-read : goal.returns-clause-read
returns-clause-read g c = elim c.match-next.branch [
  | in-None w ↦ absurd (false≢true w.in-None.ensures.steps)
  | in-Some+then-is_done w ↦ executed _ _ _ c.args.call c.loop.call _ _ c.loop.invariant.3 (sym w.if-is_done.ensures) _ (ap Good c.into_read-bytes.ensures)
]
