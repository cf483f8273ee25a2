use Rattle.std.proofs.Common.{subst, sym, arith, rules}
use Rattle.cdb_fields.proofs.Shared.{none_anywhere}
use Rattle.sbc_cdbs.specs.Cdbs.{SpellsCdb}
use Rattle.sbc_cdbs.proofs.Spelled.{spelled, Block}
use Rattle.sbc_cdbs.proofs.decoding.first_answer.Goals as goal

pub returns : goal.returns
returns c =
    let block : Block c.in-Some.code.now c.args.bytes.now c.in-Some-reserved.mask.now =
    record { known = c.in-Some-reserved.ensures; long = c.if-bytes-mask.false; first = search rules; small = λ k. omega (arith, c.type_inv.bytes k); none = none_anywhere c.in-Some-reserved.mask.now c.args.bytes.now c.in_default-first_reserved.ensures } in
    subst (λ v. SpellsCdb c.args.bytes.now v) (sym c.values.ensures) (spelled c.in-Some.code.now c.args.bytes.now c.in-Some-reserved.mask.now block)
