use Rattle.std.proofs.Common.{ℕ, length, slice_set, true, refl, sym, ap, subst}
use Rattle.std.specs.List.{refill}
use Rattle.array_journal.specs.declared.at.At.{At}
use Rattle.host_scripts.specs.declared.bench.BenchAction.{BenchAction}
use Rattle.xor_target.specs.declared.order.Order.{Order}
use Rattle.xor_target.specs.declared.answer.GoneAt.{GoneAt}
use Rattle.xor_target.specs.State.{TargetState}
use Rattle.xor_target.specs.Befalls.{IsLost, IsReset, IsDropping, IsFresh}
use Rattle.xor_target.specs.Rigs.{IsIdle, IsRigAnswer}
use Rattle.bench_runs.specs.declared.line_answer.LineAnswer.TheVariants.{Answered, Done}
use Rattle.bench_runs.specs.BenchRuns.{IsDoneBy, newest_stamp, no_entry}
use Rattle.bench_runs.proofs.BenchRows.{turn-in, order-at}
use Rattle.bench_runs.proofs.lines.act.Goals as goal

pub run-requires-clause-idle : goal.run-requires-clause-idle
run-requires-clause-idle c =
    subst (λ (owner : ℕ). IsIdle owner c.args.row.now) (sym (ap (λ (o : Order). o.owner) c.in_ok-order-in-Raw.ensures)) c.requires.idle

pub returns-in_ok-order-in-Raw : goal.returns-in_ok-order-in-Raw
returns-in_ok-order-in-Raw c =
    let number = c.args.asker.number in
    let ts = c.args.row.now in
    let k = c.args.line.now.target in
    let Answers : Order → Type 0 = λ order. IsRigAnswer true ts k order c.run.result c.run.new.self in
    let answered = order-at number c.args.asker.stamp (newest_stamp ts) _ _ c.in_ok-order-in-Raw.order Answers c.in_ok-order-in-Raw.ensures c.requires.stamp c.run.ensures.answered in
    let Does : BenchAction → Type 0 = λ action. IsDoneBy number ts k action c.run.new.self (Answered c.run.result) in
    subst Does (sym c.in-Raw.is) (c.run.result, (answered, refl))

pub returns-in_ok-lose-in-Lose : goal.returns-in_ok-lose-in-Lose
returns-in_ok-lose-in-Lose c =
    let number = c.args.asker.number in
    let ts = c.args.row.now in
    let k = c.args.line.now.target in
    let lent = c.targets.result.now in
    let before = c.index-targets-place.result in
    let next = c.lose.new.self in
    let Comes : ℕ → TargetState → TargetState → Type 0 = λ stamp t now. (answer : GoneAt) × IsLost t number stamp answer now in
    let comes : Comes (newest_stamp ts) before next =
    subst (λ (stamp : ℕ). Comes stamp before next) c.requires.stamp (subst (λ (t : TargetState). Comes c.args.asker.stamp t next) (sym c.index-targets-place.is) (c.in_ok-lose-in-Lose.field-0, c.in_ok-lose-in-Lose.ensures.lost)) in
    let turn = turn-in k (Comes (newest_stamp ts)) lent ts before next c.targets.ensures.value c.requires.target c.index-targets-place.is comes in
    let Does : BenchAction → Type 0 = λ action. IsDoneBy number ts k action (refill (length ts) ts (slice_set lent k next)) Done in
    subst Does (sym c.in-Lose.is) (turn, refl)

pub returns-in_ok-wipe-in-Reset : goal.returns-in_ok-wipe-in-Reset
returns-in_ok-wipe-in-Reset c =
    let number = c.args.asker.number in
    let ts = c.args.row.now in
    let k = c.args.line.now.target in
    let lent = c.targets-in-Reset.result.now in
    let before = c.index-targets-place-in-Reset.result in
    let next = c.wipe.new.self in
    let Comes : ℕ → TargetState → TargetState → Type 0 = λ stamp t now. (at : At) × IsReset t number stamp at now in
    let comes : Comes (newest_stamp ts) before next =
    subst (λ (stamp : ℕ). Comes stamp before next) c.requires.stamp (subst (λ (t : TargetState). Comes c.args.asker.stamp t next) (sym c.index-targets-place-in-Reset.is) (c.in_ok-wipe-in-Reset.field-0, c.in_ok-wipe-in-Reset.ensures.reset)) in
    let turn = turn-in k (Comes (newest_stamp ts)) lent ts before next c.targets-in-Reset.ensures.value c.requires.target c.index-targets-place-in-Reset.is comes in
    let Does : BenchAction → Type 0 = λ action. IsDoneBy number ts k action (refill (length ts) ts (slice_set lent k next)) Done in
    subst Does (sym c.in-Reset.is) (turn, refl)

pub returns-in_ok-drop_next-in-DropNext : goal.returns-in_ok-drop_next-in-DropNext
returns-in_ok-drop_next-in-DropNext c =
    let number = c.args.asker.number in
    let ts = c.args.row.now in
    let k = c.args.line.now.target in
    let lent = c.targets-in-DropNext.result.now in
    let before = c.index-targets-place-in-DropNext.result in
    let next = c.drop_next.new.self in
    let Comes : ℕ → TargetState → TargetState → Type 0 = λ stamp t now. (at : At) × IsDropping t number stamp at now in
    let comes : Comes (newest_stamp ts) before next =
    subst (λ (stamp : ℕ). Comes stamp before next) c.requires.stamp (subst (λ (t : TargetState). Comes c.args.asker.stamp t next) (sym c.index-targets-place-in-DropNext.is) (c.in_ok-drop_next-in-DropNext.field-0, c.in_ok-drop_next-in-DropNext.ensures.dropping)) in
    let turn = turn-in k (Comes (newest_stamp ts)) lent ts before next c.targets-in-DropNext.ensures.value c.requires.target c.index-targets-place-in-DropNext.is comes in
    let Does : BenchAction → Type 0 = λ action. IsDoneBy number ts k action (refill (length ts) ts (slice_set lent k next)) Done in
    subst Does (sym c.in-DropNext.is) (turn, refl)

pub returns-in_ok-renew-in-Fresh : goal.returns-in_ok-renew-in-Fresh
returns-in_ok-renew-in-Fresh c =
    let number = c.args.asker.number in
    let ts = c.args.row.now in
    let k = c.args.line.now.target in
    let lent = c.targets-in-Fresh.result.now in
    let before = c.index-targets-place-in-Fresh.result in
    let next = c.renew.new.target in
    let Comes : ℕ → TargetState → TargetState → Type 0 = λ stamp t now. IsFresh t number no_entry stamp now in
    let comes : Comes (newest_stamp ts) before next =
    subst (λ (stamp : ℕ). Comes stamp before next) c.requires.stamp (subst (λ (t : TargetState). Comes c.args.asker.stamp t next) (sym c.index-targets-place-in-Fresh.is) c.in_ok-renew-in-Fresh.ensures) in
    let turn = turn-in k (Comes (newest_stamp ts)) lent ts before next c.targets-in-Fresh.ensures.value c.requires.target c.index-targets-place-in-Fresh.is comes in
    let Does : BenchAction → Type 0 = λ action. IsDoneBy number ts k action (refill (length ts) ts (slice_set lent k next)) Done in
    subst Does (sym c.in-Fresh.is) (turn, refl)
