use Rattle.std.proofs.Common.{refl, sym, subst}
use Rattle.stripe_layout.specs.declared.mode.Mode.{Mode}
use Rattle.unit_plans.specs.Plans.{IsPlanned}
use Rattle.array_control.specs.Arrays.{IsCalm}
use Rattle.array_control.proofs.Beginning.{begun-planned, begun-or_stopped, begun-grown, begun-undisturbed, begun-serves, again-now, again-waits, come-of, calm-reliable, calm-grown}
use Rattle.array_control.proofs.array.Array.begin.Goals as goal

pub plan_of-requires-clause-planned : goal.plan_of-requires-clause-planned
plan_of-requires-clause-planned g c =
    subst (λ (m : Mode). IsPlanned m c.in-Opened.task.kind) (sym c.requires.array.mode_is)
    (begun-planned _ _ c.args.run.now c.in_ok-ask.ask c.in-Begun.answer c.in_ok-acted.acted _ _ _ _ c.in-Begun.is c.in_ok-acted.ensures.done
    (calm-reliable _ _ _ _ c.requires.calm) c.in_ok-ask.ensures c.requires.run.transfer c.in-Opened.at c.in-Opened.command c.in-Opened.task c.in-Opened.is)

pub unreachable-requires-in-Refused : goal.unreachable-requires-in-Refused
unreachable-requires-in-Refused g c =
    begun-or_stopped _ _ c.args.run.now c.in_ok-ask.ask c.in-Begun.answer c.in_ok-acted.acted _ _ _ _ c.in-Begun.is c.in_ok-acted.ensures.done
    (calm-reliable _ _ _ _ c.requires.calm) c.in_ok-ask.ensures c.requires.run.transfer c.in-Refused.is

pub returns-in_ok-plan_of-in-Opened-clause-comes : goal.returns-in_ok-plan_of-in-Opened-clause-comes
returns-in_ok-plan_of-in-Opened-clause-comes g c = (
  (
      begun-grown _ _ c.args.run.now c.in_ok-ask.ask c.in-Begun.answer c.in_ok-acted.acted _ _ _ _ c.in-Begun.is c.in_ok-acted.ensures.done
      (calm-reliable _ _ _ _ c.requires.calm) c.in_ok-ask.ensures c.requires.run.transfer c.in-Opened.at c.in-Opened.command c.in-Opened.task c.in-Opened.is
      ),
  (
    record {
      transfer = c.requires.run.transfer;
      counted = c.requires.run.counted;
      at_piece =
          begun-serves _ _ c.args.run.now c.in_ok-ask.ask c.in-Begun.answer c.in_ok-acted.acted _ _ _ _ c.in-Begun.is c.in_ok-acted.ensures.done
          (calm-reliable _ _ _ _ c.requires.calm) c.in_ok-ask.ensures c.requires.run.transfer c.in-Opened.at c.in-Opened.command c.in-Opened.task c.in-Opened.is
          c.args.self.now.geometry c.args.self.now.mode c.in_ok-plan_of-in-Opened.field-0 c.requires.array.geometry_is c.requires.array.mode_is
          c.in_ok-plan_of-in-Opened.ensures.plan (c.in_ok-acted.ensures.run c.requires.calm.runs) c.in_ok-plan_of-in-Opened.ensures.next
          (come-of _ c.args.run.now _ c.requires.idle c.requires.run.at_piece)
          c.requires.more;
    },
    record { number = refl; transfer = refl; count = refl },
  ),
)

pub returns-in_ok-plan_of-in-Opened-clause-calm : goal.returns-in_ok-plan_of-in-Opened-clause-calm
returns-in_ok-plan_of-in-Opened-clause-calm g c =
    calm-grown _ _ _ _ _ c.requires.calm (c.in_ok-acted.ensures.run c.requires.calm.runs)
    (begun-undisturbed _ _ c.args.run.now c.in_ok-ask.ask c.in-Begun.answer c.in_ok-acted.acted _ _ _ _ c.in-Begun.is c.in_ok-acted.ensures.done
    (calm-reliable _ _ _ _ c.requires.calm) c.in_ok-ask.ensures c.requires.run.transfer c.in-Opened.at c.in-Opened.command c.in-Opened.task c.in-Opened.is)

pub returns-in-Again-clause-comes : goal.returns-in-Again-clause-comes
returns-in-Again-clause-comes g c = (
  again-now _ _ c.args.run.now c.in_ok-ask.ask c.in-Begun.answer c.in_ok-acted.acted _ _ _ _ c.in-Begun.is c.in_ok-acted.ensures.done
      (calm-reliable _ _ _ _ c.requires.calm) c.in_ok-ask.ensures c.in-Again.by c.in-Again.is,
  (
    refl,
    record {
      idle = c.requires.idle;
      waits =
          again-waits _ _ c.args.run.now c.in_ok-ask.ask c.in-Begun.answer c.in_ok-acted.acted _ _ _ _ c.in-Begun.is c.in_ok-acted.ensures.done
          (calm-reliable _ _ _ _ c.requires.calm) c.in_ok-ask.ensures c.in-Again.by c.in-Again.is;
    },
  ),
)

pub returns-in-Again-clause-calm : goal.returns-in-Again-clause-calm
returns-in-Again-clause-calm g c =
    subst (IsCalm _ _ _) (sym (again-now _ _ c.args.run.now c.in_ok-ask.ask c.in-Begun.answer c.in_ok-acted.acted _ _ _ _ c.in-Begun.is c.in_ok-acted.ensures.done
    (calm-reliable _ _ _ _ c.requires.calm) c.in_ok-ask.ensures c.in-Again.by c.in-Again.is)) c.requires.calm
