use Rattle.std.proofs.Common.{◌≡◌, get_or, ap, sym, ◌∙◌, arith}
use Rattle.cdb_fields.proofs.Shared.{none_anywhere}
use Rattle.cdb_fields.specs.Fields.{is_one, bits}
use Rattle.sense_data.specs.declared.layout.Header.{Header}
use Rattle.sense_data.specs.declared.layout.Additional.{Additional}
use Rattle.sense_data.specs.Faults.{mask_of, without_length}
use Rattle.sense_data.specs.Reading.{values_given, header_of}
use Rattle.sense_data.proofs.Spelled.{Block, spells, pointed_block}
use Rattle.sense_data.proofs.decoding.block_answer.Goals as goal

pub sense_of-requires-clause-illegal : goal.sense_of-requires-clause-illegal
sense_of-requires-clause-illegal c one =
    let sksv : c.read_additional-additional.result.sksv ≡ is_one 15 7 c.args.block.now = ap (λ (a : Additional). a.sksv) c.read_additional-additional.ensures in
    let key : c.read_header-header.result.key ≡ bits 3 0 (get_or c.args.block.now 2 0) = ap (λ (h : Header). h.key) c.read_header-header.ensures in
    let block : Block c.args.block.now = record {
      long = omega arith;
      small = λ k. omega (arith, c.fits-block k);
      code = sym (ap (λ (h : Header). h.code) c.read_header-header.ensures) ∙ c.if-header-ne-RESPONSE_CODE.false;
      none = none_anywhere (mask_of c.args.block.now) (without_length c.args.block.now) c.in_default.ensures;
    } in
    key ∙ pointed_block c.args.block.now block (sym sksv ∙ one)

pub returns : goal.returns
returns c =
    let block : Block c.args.block.now = record {
      long = omega arith;
      small = λ k. omega (arith, c.fits-block k);
      code = sym (ap (λ (h : Header). h.code) c.read_header-header.ensures) ∙ c.if-header-ne-RESPONSE_CODE.false;
      none = none_anywhere (mask_of c.args.block.now) (without_length c.args.block.now) c.in_default.ensures;
    } in
    spells c.args.block.now c.sense_of.result block
    (c.sense_of.ensures
    ∙ ap (λ (h : Header). values_given h c.read_additional-additional.result) c.read_header-header.ensures
    ∙ ap (λ (a : Additional). values_given (header_of c.args.block.now) a) c.read_additional-additional.ensures)
