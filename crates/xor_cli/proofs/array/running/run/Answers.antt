use Rattle.std.proofs.Common.{◌≡◌, ◌<◌, ◌≤◌, ◌∙◌, ◌+◌, List, [], length, reverse, get_or, ap, sym, subst, arith}
use Rattle.host_scripts.specs.declared.script.Call.{Call}
use Rattle.array_journal.specs.declared.entry.Entry.{Entry}
use Rattle.xor_cli.specs.Arrays.{array_of}
use Rattle.xor_cli.specs.Headline.{IsStart, IsJournalOf}
use Rattle.xor_cli.proofs.Laters.{runs-today, starts-today}
use Rattle.xor_cli.proofs.FirstCalls.{call-served}
use Rattle.xor_cli.proofs.Going.{Going, going-none}
use Rattle.xor_cli.proofs.AskedRuns.{served-goes, served-rest, journal-of}
use Rattle.xor_cli.proofs.array.running.run.Goals as goal

pub start-requires : goal.start-requires
start-requires c = subst IsStart (sym c.setting_of.ensures.value) (starts-today c.args.script.now c.requires.runnable)

pub serve-requires-clause-action : goal.serve-requires-clause-action
serve-requires-clause-action c =
    let below : c.loop-place.place < length c.args.script.now.calls = omega (arith, ap length c.as_slice-call-items.ensures) in
    let is = c.call-item.is ∙ ap (λ (l : List Call). get_or l c.loop-place.place c.call-item.result) c.as_slice-call-items.ensures in
    call-served c.args.script.now c.loop-place.controller.setting c.loop-place.place _ c.call-item.result (runs-today c.args.script.now c.requires.runnable) c.loop-place.invariant.setting below is

pub loop-place-init : goal.loop-place-init
loop-place-init c =
    let Asks : List Entry → Type 0 = λ j. Going c.args.script.now 1 [] (reverse j) in
    record {
      kept = c.in_ok-controller.ensures.kept;
      rest = c.in_ok-controller.ensures.rest;
      setting = c.in_ok-controller.ensures.setting ∙ c.setting_of.ensures.value;
      going = subst Asks (sym c.in_ok-controller.ensures.empty) (going-none c.args.script.now);
    }

pub loop-place-preserved : goal.loop-place-preserved
loop-place-preserved c =
    let below : c.loop-place.place < length c.args.script.now.calls = omega (arith, ap length c.as_slice-call-items.ensures) in
    let is = c.call-item.is ∙ ap (λ (l : List Call). get_or l c.loop-place.place c.call-item.result) c.as_slice-call-items.ensures in
    let rest = served-rest (array_of c.loop-place.controller) (array_of c.serve.new.self) (c.loop-place.place + 1) c.call-item.result.action c.in_ok-serve.ensures.served in
    record {
      kept = c.in_ok-serve.ensures.kept;
      rest = rest.0;
      setting = rest.1 ∙ c.loop-place.invariant.setting;
      going = served-goes c.args.script.now (array_of c.loop-place.controller) (array_of c.serve.new.self) c.loop-place.place c.call-item.result (runs-today c.args.script.now c.requires.runnable)
          c.loop-place.invariant.setting below is c.loop-place.invariant.rest c.loop-place.invariant.going c.in_ok-serve.ensures.served;
    }

pub returns : goal.returns
returns c =
    let whole : length c.args.script.now.calls ≤ c.loop-place.place = omega (arith, ap length c.as_slice-call-items.ensures) in
    let all : c.loop-place.place + 1 ≡ length c.args.script.now.calls + 1 = omega (arith, whole, c.loop-place.auto.place-end, ap length c.as_slice-call-items.ensures) in
    let P : List Entry → Type 0 = λ j. IsJournalOf c.args.script.now j in
    subst P (sym c.in_ok-journal.ensures)
    (journal-of c.args.script.now (array_of c.loop-place.controller) (c.loop-place.place + 1) (runs-today c.args.script.now c.requires.runnable) c.loop-place.invariant.rest c.loop-place.invariant.setting
    all c.loop-place.invariant.going)
