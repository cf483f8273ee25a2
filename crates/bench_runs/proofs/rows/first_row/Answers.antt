use Rattle.std.proofs.Common.{◌≡◌, ℕ, List, [], ◌∷◌, ◌++◌, map, length, ap, sym, subst, ◌∙◌, arith}
use Rattle.array_journal.specs.Lists.{numbers}
use Rattle.xor_target.specs.State.{TargetState}
use Rattle.host_scripts.specs.declared.bench.Bench.{Bench}
use Rattle.bench_runs.specs.BenchRuns.{first_target, first_targets}
use Rattle.bench_runs.specs.Ready.{IsReady}
use Rattle.xor_target.specs.Rigs.{IsRow}
use Rattle.bench_runs.proofs.BenchRows.{first-on, targets-next, first-row, first-ready, count-from}
use Rattle.bench_runs.proofs.rows.first_row.Goals as goal

pub loop-number-preserved : goal.loop-number-preserved
loop-number-preserved c =
    let bench = c.args.bench.now in
    let n = c.loop-number.number in
    let target : c.in_ok-new.field-0 ≡ first_target bench n = c.in_ok-new.ensures ∙ first-on bench n c.in_ok-medium.medium c.in_ok-medium.ensures in
    c.in_ok-push.ensures.items
    ∙ ap (λ (ts : List TargetState). ts ++ c.in_ok-new.field-0 ∷ []) c.loop-number.invariant
    ∙ ap (λ (t : TargetState). map (first_target bench) (numbers 0 n) ++ t ∷ []) target
    ∙ sym (targets-next bench n)

pub new-requires-2 : goal.new-requires-2
new-requires-2 c =
    let bench = c.args.bench.now in
    let last : c.loop-number.number ≡ bench.targets = omega arith in
    subst IsRow (sym (c.loop-number.invariant ∙ ap (λ (n : ℕ). map (first_target bench) (numbers 0 n)) last)) (first-row bench)

-- the targets are those that the bench has first
all-made : (bench : Bench) (n : ℕ) (made row : List TargetState) → row ≡ made → made ≡ map (first_target bench) (numbers 0 n) → n ≡ bench.targets → row ≡ first_targets bench
all-made bench n made row same so_far last = same ∙ so_far ∙ ap (λ (k : ℕ). map (first_target bench) (numbers 0 k)) last

pub returns-clause-value : goal.returns-clause-value
returns-clause-value c = all-made c.args.bench.now c.loop-number.number c.loop-number.targets.items c.new-2.result c.new-2.ensures c.loop-number.invariant (omega arith)

pub returns-clause-ready : goal.returns-clause-ready
returns-clause-ready c =
    subst (IsReady 1) (sym (all-made c.args.bench.now c.loop-number.number c.loop-number.targets.items c.new-2.result c.new-2.ensures c.loop-number.invariant (omega arith))) (first-ready c.args.bench.now)

pub returns-clause-count : goal.returns-clause-count
returns-clause-count c =
    ap (λ (ts : List TargetState). length ts)
    (all-made c.args.bench.now c.loop-number.number c.loop-number.targets.items c.new-2.result c.new-2.ensures c.loop-number.invariant (omega arith))
    ∙ count-from c.args.bench.now 0 c.args.bench.now.targets
