use Rattle.std.proofs.Common.{ap, sym, ◌∙◌, ◌∷◌, [], Some}
use Rattle.std.specs.Prelude.{option_map}
use Rattle.xor_target.specs.Admission.{refusal_of, command_in}
use Rattle.xor_target.specs.State.{TargetState, limits_of}
use Rattle.xor_target.specs.Table.{first_answer, check, shut_row, gone_row, idle_row, overlap_row, room_row, unheld_row}
use Rattle.xor_target.proofs.target.Target.admitted.Goals as goal

pub early_answer-requires-clause-admitted : goal.early_answer-requires-clause-admitted
early_answer-requires-clause-admitted g c =
    let self = c.args.self.now in
    let order = c.args.order.now in
    let page = ap (λ (t : TargetState). t.page) c.self.view_is in
    let same =
    ap (λ l. refusal_of l c.self.inside.page c.as_slice.result.now c.as_slice-2.result.now) c.limits.ensures.limits
    ∙ ap (λ p. refusal_of (limits_of self) p c.as_slice.result.now c.as_slice-2.result.now) page
    ∙ ap (λ cdb. refusal_of (limits_of self) self.page cdb c.as_slice-2.result.now) c.as_slice.ensures
    ∙ ap (λ bytes. refusal_of (limits_of self) self.page order.cdb bytes) c.as_slice-2.ensures in
    ap (λ o. option_map (check self order) o) (sym same ∙ c.in-Ok.ensures.admitted)

pub returns-in-Err : goal.returns-in-Err
returns-in-Err g c =
    let self = c.args.self.now in
    let order = c.args.order.now in
    let command = command_in order.cdb in
    let page = ap (λ (t : TargetState). t.page) c.self.view_is in
    let same =
    ap (λ l. refusal_of l c.self.inside.page c.as_slice.result.now c.as_slice-2.result.now) c.limits.ensures.limits
    ∙ ap (λ p. refusal_of (limits_of self) p c.as_slice.result.now c.as_slice-2.result.now) page
    ∙ ap (λ cdb. refusal_of (limits_of self) self.page cdb c.as_slice-2.result.now) c.as_slice.ensures
    ∙ ap (λ bytes. refusal_of (limits_of self) self.page order.cdb bytes) c.as_slice-2.ensures in
    ap (λ o. first_answer
    (option_map (check self order) o ∷ shut_row self order.owner ∷ gone_row self order.owner ∷ idle_row command ∷ overlap_row self order command ∷ room_row self order command
    ∷ unheld_row self order command ∷ []))
    (sym same ∙ c.in-Err.ensures.refused)
    ∙ ap Some (sym c.check.ensures)
