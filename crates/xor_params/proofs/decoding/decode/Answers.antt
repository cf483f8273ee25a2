use Rattle.std.proofs.Common.{arith, subst, sym}
use Rattle.std.proofs.lemmas.Result.{err_from_is_err_and}
use Rattle.xor_params.specs.declared.lists.Params.{Params}
use Rattle.xor_params.specs.ParameterLists.{SpellsParams}
use Rattle.xor_params.specs.Contents.{params_in}
use Rattle.xor_params.proofs.Readings.{contents_spell, one_list}
use Rattle.xor_params.proofs.Refusals.{never_refused}
use Rattle.xor_params.proofs.decoding.decode.Goals as goal

pub returns-in_err-check-clause-only : goal.returns-in_err-check-clause-only
returns-in_err-check-clause-only c p s =
    absurd (never_refused c.args.bytes.now c.args.intdata c.args.bytes_wanted p c.in_err-check.field-0.0 s c.in_err-check.ensures.refused)

pub returns-in_err-parts_of-clause-fault : goal.returns-in_err-parts_of-clause-fault
returns-in_err-parts_of-clause-fault c =
    let p = err_from_is_err_and c.from_residual-in_err-parts_of.result c.from_residual-in_err-parts_of.ensures.1 in
    let ok = c.in_ok-check.ensures in
    rw (p.1, p.2) (params_in c.args.bytes.now, contents_spell c.args.bytes.now c.args.intdata c.args.bytes_wanted (λ i. omega (arith, c.type_inv.bytes i)) ok.head ok.whole ok.clean)

pub returns-clause-found : goal.returns-clause-found
returns-clause-found c =
    let ok = c.in_ok-check.ensures in
    subst (λ (p : Params). SpellsParams c.args.bytes.now c.args.intdata c.args.bytes_wanted p) (sym c.in_ok-parts_of.ensures)
    (contents_spell c.args.bytes.now c.args.intdata c.args.bytes_wanted (λ i. omega (arith, c.type_inv.bytes i)) ok.head ok.whole ok.clean)

pub returns-clause-only : goal.returns-clause-only
returns-clause-only c p s =
    let ok = c.in_ok-check.ensures in
    let found : SpellsParams c.args.bytes.now c.args.intdata c.args.bytes_wanted c.in_ok-parts_of.field-0 =
    subst (λ (q : Params). SpellsParams c.args.bytes.now c.args.intdata c.args.bytes_wanted q) (sym c.in_ok-parts_of.ensures)
    (contents_spell c.args.bytes.now c.args.intdata c.args.bytes_wanted (λ i. omega (arith, c.type_inv.bytes i)) ok.head ok.whole ok.clean) in
    one_list c.args.bytes.now c.args.intdata c.args.bytes_wanted c.in_ok-parts_of.field-0 p found s
