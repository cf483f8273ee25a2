use Rattle.std.proofs.Common.{◌≡◌, ◌+◌, length, Result, Ok, Err, OnOk, IfOk, arith}
use Rattle.blocks_core.specs.declared.memory.Memory.{Memory}
use Rattle.bench_runs.specs.declared.line_answer.LineAnswer.{LineAnswer}
use Rattle.bench_runs.specs.BenchRuns.{IsStep}
use Rattle.bench_runs.specs.Ready.{IsReady}
use Rattle.bench_runs.proofs.Carried.{line-ready}
use Rattle.bench_runs.proofs.Many.{line-many}
use Rattle.bench_runs.proofs.rows.answer_line.Goals as goal

-- what follows from any answer
from-any : (Comes : LineAnswer → Type 0) (Then : Type 0) (result : Result LineAnswer Memory) → ((came : LineAnswer) → Comes came → Then) → IfOk result Comes → OnOk result Then
from-any Comes Then (Ok came) follows is = follows came is
from-any Comes Then (Err error) follows is = tt

pub act-requires-clause-idle : goal.act-requires-clause-idle
act-requires-clause-idle c = record { row = c.requires.ready.row; none = λ k t there. c.requires.ready.idle c.args.number (omega arith) k t there }

pub returns-clause-ready : goal.returns-clause-ready
returns-clause-ready c =
    let Comes : LineAnswer → Type 0 = λ came. IsStep c.args.number c.args.row.now c.args.line.now c.act.new.row came in
    from-any Comes (IsReady (c.args.number + 1) c.act.new.row) c.act.result
    (λ came step. line-ready c.args.number c.args.line.now.target c.args.row.now c.args.line.now.action c.act.new.row came c.requires.ready step) c.act.ensures

pub returns-clause-count : goal.returns-clause-count
returns-clause-count c =
    let Comes : LineAnswer → Type 0 = λ came. IsStep c.args.number c.args.row.now c.args.line.now c.act.new.row came in
    from-any Comes (length c.act.new.row ≡ length c.args.row.now) c.act.result
    (λ came step. line-many c.args.number c.args.line.now.target c.args.row.now c.args.line.now.action c.act.new.row came step) c.act.ensures
