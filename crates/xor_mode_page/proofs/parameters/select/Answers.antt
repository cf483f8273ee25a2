use Rattle.std.proofs.Common.{rules, ◌≡◌, Some, ◌<◌, ℕ, List, refl, sym, subst, arith}
use Rattle.xor_mode_page.specs.Pages.{list_fault, IsFine, fixed_bits, fixed_values, SpellsPage}
use Rattle.xor_mode_page.proofs.ListLemmas.{page_is_fine, sets_page, leaves_page, never_list_fault, selects_one}
use Rattle.xor_mode_page.proofs.ListFaults.{fault-is, fine-is}
use Rattle.xor_mode_page.proofs.parameters.select.Goals as goal

pub fields_of-requires : goal.fields_of-requires
fields_of-requires c =
    let found = c.in-Some.ensures in
    subst (λ (page : List ℕ). (k : ℕ) → k < 24 → IsFine fixed_bits fixed_values page k) (sym found.1) (page_is_fine c.args.list.now found.0 c.in_ok-check.ensures.fine)

pub returns-in-Some-clause-ok : goal.returns-in-Some-clause-ok
returns-in-Some-clause-ok c =
    let found = c.in-Some.ensures in
    sets_page c.args.list.now c.args.page.now c.fields_of.result found.0 (λ i. omega (arith, c.type_inv.list i)) c.in_ok-check.ensures.fine
    (subst (λ (page : List ℕ). SpellsPage page c.fields_of.result) found.1 c.fields_of.ensures)

pub returns-in_default-clause-ok : goal.returns-in_default-clause-ok
returns-in_default-clause-ok c =
    leaves_page c.args.list.now c.args.page.now c.args.page.now c.in_ok-check.ensures.length c.in_default.ensures (λ i. omega (arith, c.type_inv.list i)) c.in_ok-check.ensures.fine refl

pub returns-in_err-check-clause-only : goal.returns-in_err-check-clause-only
returns-in_err-check-clause-only c listed s = absurd (never_list_fault c.args.list.now c.args.page.now listed c.in_err-check.field-0.0 s c.in_err-check.ensures.fault)

pub returns-in-Some-clause-only : goal.returns-in-Some-clause-only
returns-in-Some-clause-only c listed s =
    let found = c.in-Some.ensures in
    let made = sets_page c.args.list.now c.args.page.now c.fields_of.result found.0 (λ i. omega (arith, c.type_inv.list i)) c.in_ok-check.ensures.fine
    (subst (λ (page : List ℕ). SpellsPage page c.fields_of.result) found.1 c.fields_of.ensures) in
    (refl, selects_one c.args.list.now c.args.page.now c.fields_of.result listed made s)

pub returns-in_err-check-clause-tested : goal.returns-in_err-check-clause-tested
returns-in_err-check-clause-tested c =
    let told : list_fault c.args.list.now ≡ Some c.in_err-check.field-0.0 = fault-is c.args.list.now c.in_err-check.field-0.0 c.in_err-check.ensures.fault in
    search (rules, c.from_residual.ensures, told)

pub returns-in-Some-clause-tested : goal.returns-in-Some-clause-tested
returns-in-Some-clause-tested c = fine-is c.args.list.now c.in_ok-check.ensures.length c.in_ok-check.ensures.fine

pub returns-in_default-clause-tested : goal.returns-in_default-clause-tested
returns-in_default-clause-tested c = fine-is c.args.list.now c.in_ok-check.ensures.length c.in_ok-check.ensures.fine
