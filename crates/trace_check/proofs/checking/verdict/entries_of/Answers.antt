use Rattle.std.proofs.Common.{rules, ◌≡◌, ℕ, ◌+◌, List, length, ap, arith}
use Rattle.std.proofs.lemmas.Result.{IfOk-weaker, IfErr-weaker}
use Rattle.trace_check.specs.Findings.{line_ends}
use Rattle.trace_check.proofs.Accepted.{trace-long, found-for, trace-found}
use Rattle.program_status.proofs.Endings.{stops-weaker}
use Rattle.trace_check.proofs.checking.verdict.entries_of.Goals as goal

pub judge_run-requires-clause-few : goal.judge_run-requires-clause-few
judge_run-requires-clause-few c =
    omega (arith, trace-long c.in_ok-journal.journal, ap (λ (t : List ℕ). length t) c.in_ok-journal.ensures.journal.0, c.requires.few)

pub returns-clause-run : goal.returns-clause-run
returns-clause-run c =
    IfOk-weaker c.judge_run.result _ _ (λ entries told. (c.in_ok-script.script, (c.in_ok-journal.journal, (record { has = record { spelt = c.in_ok-script.ensures.script.0; within = c.in_ok-script.ensures.script.1; traced = c.in_ok-journal.ensures.journal }; run = told.0; asked = told.1; report = told.2 }, told.3)))) c.judge_run.ensures.told

pub returns-clause-stop : goal.returns-clause-stop
returns-clause-stop c =
    IfErr-weaker c.judge_run.result _ _ (λ stop s. stops-weaker _ _ _ (found-for _ c.in_ok-script.script c.in_ok-journal.journal (record { spelt = c.in_ok-script.ensures.script.0; within = c.in_ok-script.ensures.script.1; traced = c.in_ok-journal.ensures.journal })) stop s) c.judge_run.ensures.stop

pub returns-in_err-journal-clause-stop : goal.returns-in_err-journal-clause-stop
returns-in_err-journal-clause-stop c =
    let ahead : c.line_ends.result + 1 + c.line_ends-2.result ≡ line_ends c.args.bytes.now + 1 + line_ends c.args.told.now = omega (arith, c.line_ends.ensures.value, c.line_ends-2.ensures.value) in
    IfErr-weaker c.from_residual-in_err-journal.result _ _
    (λ stop s. stops-weaker _ _ _ (trace-found _ c.in_ok-script.script _ c.in_ok-script.ensures.script.0 c.in_ok-script.ensures.script.1 ahead) stop s) (search rules)
