use Rattle.std.proofs.Common.{◌+◌, refl, arith, drop}
use Rattle.std.proofs.lemmas.Bool.{ne_eqb}
use Rattle.std.proofs.lemmas.Option.{slice_get-get_or}
use Rattle.array_control.specs.HostCalls.{calls_from}
use Rattle.array_control.proofs.Runnable.{here-of_host, here-works, here-passed, other-passed, none-works, own-read}
use Rattle.array_control.proofs.array.Array.work_from.Goals as goal
use Rattle.array_control.proofs.array.Array.work_from.Goals.{then-calls-place+in_default, else-calls-place}

pub loop-place-init : goal.loop-place-init
loop-place-init g c = (refl, c.requires.hosts)

pub first_work-requires-clause-of_host : goal.first_work-requires-clause-of_host
first_work-requires-clause-of_host g c =
    let within = c.loop-place-test.true in
    here-of_host (g.B.Bus.setting c.args.self.now.bus) c.args.host c.loop-place.place c.args.calls.now _
    (slice_get-get_or c.args.calls.now c.loop-place.place c.index-calls-place-then-calls-place.result within)
    (own-read c.args.host c.loop-place.place c.args.calls.now c.index-calls-place.result c.index-calls-place-then-calls-place.result within
    c.if-calls-place.true)
    c.loop-place.invariant.1

pub returns-in-Some : goal.returns-in-Some
returns-in-Some g c =
    let within = c.loop-place-test.true in
    here-works (g.B.Bus.setting c.args.self.now.bus) c.args.host c.loop-place.place c.args.calls.now _
    (slice_get-get_or c.args.calls.now c.loop-place.place c.index-calls-place-then-calls-place.result within)
    (own-read c.args.host c.loop-place.place c.args.calls.now c.index-calls-place.result c.index-calls-place-then-calls-place.result within
    c.if-calls-place.true)
    (calls_from c.args.host (c.args.from + 1) (drop c.args.from c.args.calls.now)) c.in-Some.work c.loop-place.invariant.0 c.in-Some.ensures

pub loop-place-preserved : goal.loop-place-preserved
loop-place-preserved g c =
    let within = c.loop-place-test.true in
    elim c.if-calls-place.branch [
      | then-calls-place+in_default w ↦
          here-passed (g.B.Bus.setting c.args.self.now.bus) c.args.host c.loop-place.place c.args.calls.now _
          (slice_get-get_or c.args.calls.now c.loop-place.place w.index-calls-place-then-calls-place.result within)
          (own-read c.args.host c.loop-place.place c.args.calls.now c.index-calls-place.result w.index-calls-place-then-calls-place.result within
          w.if-calls-place.true)
          (calls_from c.args.host (c.args.from + 1) (drop c.args.from c.args.calls.now)) w.in_default.ensures c.loop-place.invariant
      | else-calls-place w ↦
          other-passed (g.B.Bus.setting c.args.self.now.bus) c.args.host c.loop-place.place c.args.calls.now _
          (slice_get-get_or c.args.calls.now c.loop-place.place c.index-calls-place.result within)
          (calls_from c.args.host (c.args.from + 1) (drop c.args.from c.args.calls.now))
          (ne_eqb _ c.args.host w.if-calls-place.false) c.loop-place.invariant
    ]

pub returns : goal.returns
returns g c =
    none-works (g.B.Bus.setting c.args.self.now.bus) c.args.host c.loop-place.place c.args.calls.now
    (calls_from c.args.host (c.args.from + 1) (drop c.args.from c.args.calls.now))
    (omega (arith, c.loop-place-test.false, c.loop-place.auto.place-end c.requires.within)) c.loop-place.invariant.0
