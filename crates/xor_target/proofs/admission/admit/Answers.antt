use Rattle.std.proofs.Common.{rules, ◌≡◌, ◌∷◌, [], Some, None, sym, ◌∙◌}
use Rattle.xor_target.specs.Admission.{cdb_rows, command_rows, command_in, refusal_of, too_long, wrong_secondary, wrong_select, saved_values, unknown_page, out_of_range, wrong_amount, wrong_list}
use Rattle.xor_target.proofs.CdbRows.{stopped, at_fields, spelt-in}
use Rattle.xor_target.proofs.ListRows.{last-none, sound-list}
use Rattle.xor_target.proofs.admission.admit.Goals as goal

pub returns-in_err-command-clause-refused : goal.returns-in_err-command-clause-refused
returns-in_err-command-clause-refused c =
    let told : refusal_of c.args.limits.now c.args.page.now c.args.cdb.now c.args.bytes.now ≡ Some c.in_err-command.field-0.0 =
    stopped (cdb_rows c.args.page.now c.args.cdb.now) (command_rows c.args.limits.now c.args.page.now (command_in c.args.cdb.now) c.args.bytes.now) c.in_err-command.field-0.0 c.in_err-command.ensures.refused in
    search (rules, c.from_residual.ensures, told)

pub returns-in-Some-clause-refused : goal.returns-in-Some-clause-refused
returns-in-Some-clause-refused c =
    at_fields c.args.limits.now c.args.page.now c.args.cdb.now c.args.bytes.now c.in_ok-command.command (Some c.in-Some.sense)
    c.in_ok-command.ensures.spelt c.in_ok-command.ensures.passes (sym c.command_refusal.ensures ∙ c.in-Some.is)

pub returns-in-None-clause-admitted : goal.returns-in-None-clause-admitted
returns-in-None-clause-admitted c =
    at_fields c.args.limits.now c.args.page.now c.args.cdb.now c.args.bytes.now c.in_ok-command.command None
    c.in_ok-command.ensures.spelt c.in_ok-command.ensures.passes (sym c.command_refusal.ensures ∙ c.in-None.is)

pub returns-in-None-clause-fields : goal.returns-in-None-clause-fields
returns-in-None-clause-fields c = sym (spelt-in c.args.cdb.now c.in_ok-command.command c.in_ok-command.ensures.spelt)

pub returns-in-None-clause-listed : goal.returns-in-None-clause-listed
returns-in-None-clause-listed c =
    let limits = c.args.limits.now in
    let page = c.args.page.now in
    let command = c.in_ok-command.command in
    let bytes = c.args.bytes.now in
    sound-list limits command bytes
    (last-none (too_long page command ∷ wrong_secondary limits command ∷ wrong_select command ∷ saved_values command ∷ unknown_page command ∷ out_of_range limits command
    ∷ wrong_amount limits command bytes ∷ []) (wrong_list limits command bytes) (sym c.command_refusal.ensures ∙ c.in-None.is))
