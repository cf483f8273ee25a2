use Rattle.std.proofs.Common.{◌<◌, List, length, reverse, sym, subst}
use Rattle.std.specs.List.{AllByRecursion}
use Rattle.array_journal.specs.declared.entry.Entry.{Entry}
use Rattle.array_journal.specs.Calm.{IsStamped}
use Rattle.host_scripts.specs.declared.bench.BenchLine.{BenchLine}
use Rattle.xor_target.specs.State.{TargetState}
use Rattle.bench_runs.specs.BenchRuns.{AreDone}
use Rattle.bench_runs.proofs.BenchRows.{targets-there}
use Rattle.bench_runs.proofs.bench_run.run_bench.Goals as goal

pub serve_all-requires-clause-targets : goal.serve_all-requires-clause-targets
serve_all-requires-clause-targets c =
    let bench = c.args.bench.now in
    let There : List TargetState → List BenchLine → Type 0 = λ row lines. AllByRecursion (λ (l : BenchLine). l.target < length row) lines in
    subst (There c.in_ok-row.row) (sym c.as_slice.ensures)
    (subst (λ (row : List TargetState). There row bench.lines) (sym c.in_ok-row.ensures.value) (targets-there bench c.requires.ranged.lines))

pub serve_all-requires-clause-ready : goal.serve_all-requires-clause-ready
serve_all-requires-clause-ready c = c.in_ok-row.ensures.ready

pub returns : goal.returns
returns c =
    let bench = c.args.bench.now in
    let row = c.serve_all.new.row in
    let text = c.in_ok-text.text in
    let Starts : List TargetState → Type 0 = λ start. AreDone 1 start bench.lines row text in
    let Lines : List BenchLine → Type 0 = λ lines. AreDone 1 c.in_ok-row.row lines row text in
    record {
      after = row;
      done = subst Starts c.in_ok-row.ensures.value (subst Lines c.as_slice.ensures c.in_ok-text.ensures.done);
      merged = c.in_ok-journal.ensures;
      stamped = subst (λ (journal : List Entry). IsStamped (reverse journal)) (sym c.in_ok-journal.ensures) c.in_ok-text.ensures.ready.stamped;
    }
