use Rattle.std.proofs.Common.{◌≡◌, List, [], ◌∷◌, ◌++◌, map, ap, sym, ◌∙◌}
use Rattle.array_journal.specs.Lists.{numbers}
use Rattle.xor_target.specs.State.{TargetState}
use Rattle.array_calls.specs.FirstBus.{first_target}
use Rattle.array_calls.proofs.FirstRows.{first-on, targets-next}
use Rattle.array_calls.proofs.first_bus.first_targets.Goals as goal

pub loop-number-preserved : goal.loop-number-preserved
loop-number-preserved c =
    let s = c.args.script.now in
    let n = c.loop-number.number in
    let target : c.in_ok-new.field-0 ≡ first_target s n =
    c.in_ok-new.ensures ∙ first-on s n c.rows.result c.first_page.result c.in_ok-medium.medium c.rows.ensures.value c.first_page.ensures c.in_ok-medium.ensures in
    c.in_ok-push.ensures.items
    ∙ ap (λ (ts : List TargetState). ts ++ c.in_ok-new.field-0 ∷ []) c.loop-number.invariant
    ∙ ap (λ (t : TargetState). map (first_target s) (numbers 0 n) ++ t ∷ []) target
    ∙ sym (targets-next s n)
