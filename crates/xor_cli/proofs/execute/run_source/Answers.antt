use Rattle.std.proofs.Common.{◌≤◌, subst, length, List, ℕ}
use Rattle.std.proofs.lemmas.Result.{IfOk-weaker, IfErr-weaker, MatchResult-from_both}
use Rattle.outer_io.specs.Outside.{input_limit}
use Rattle.xor_cli.specs.Inputs.{IsAccepted}
use Rattle.xor_cli.specs.Statuses.{StopsRun}
use Rattle.xor_cli.proofs.Work.{accepted-left, stops-source, stops-left}
use Rattle.xor_cli.proofs.execute.run_source.Goals as goal

pub returns-clause-made : goal.returns-clause-made
returns-clause-made g c =
    IfOk-weaker c.made_from.result _ _ (λ made ran.
    (ran.0, ran.1.1, accepted-left c.args.run _ c.in_ok-input.input ran.0 c.in_ok-input.ensures.bytes (let P : List ℕ → Type 0 = λ b. IsAccepted c.args.run b ran.0 in subst P c.as_slice.ensures ran.1), ran.2)) c.made_from.ensures.made

pub returns-clause-stop : goal.returns-clause-stop
returns-clause-stop g c =
    IfErr-weaker c.made_from.result _ _ (λ stop s. stops-source c.args.run _ c.in_ok-input.input _ _ stop c.in_ok-input.ensures.bytes (let P : List ℕ → Type 0 = λ b. StopsRun c.args.run b stop in subst P c.as_slice.ensures s)) c.made_from.ensures.stop

pub returns-clause-whole : goal.returns-clause-whole
returns-clause-whole g c =
    MatchResult-from_both c.made_from.result _ _
    (IfOk-weaker c.made_from.result _ _ (λ made ran. c.in_ok-input.ensures.end (let P : List ℕ → Type 0 = λ b. length b ≤ input_limit in subst P c.as_slice.ensures ran.1.0.0)) c.made_from.ensures.made)
    (IfErr-weaker c.made_from.result _ _ (λ stop s. stops-left c.args.run _ c.in_ok-input.input stop c.in_ok-input.ensures.end (let P : List ℕ → Type 0 = λ b. StopsRun c.args.run b stop in subst P c.as_slice.ensures s)) c.made_from.ensures.stop)
