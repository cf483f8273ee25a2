use Rattle.std.proofs.Common.{◌≡◌, MatchOption, EachIndex, ap, subst, ◌∙◌}
use Rattle.cdb_fields.specs.Fields.{IsFirstShared, SharesNone}
use Rattle.sense_data.specs.declared.layout.Header.{Header}
use Rattle.sense_data.specs.declared.layout.Additional.{Additional}
use Rattle.sense_data.specs.Faults.{reserved_bits, mask_of, without_length}
use Rattle.sense_data.specs.Reading.{header_of}
use Rattle.sense_data.proofs.decoding.first_offending.Goals as goal

pub returns : goal.returns
returns c =
    let mask : c.reserved.result ≡ mask_of c.args.block.now =
    c.reserved.ensures
    ∙ ap (λ (h : Header). reserved_bits h.valid h.key c.args.additional.now.sksv c.args.additional.now.bpv) c.requires.header
    ∙ ap (λ (a : Additional). reserved_bits (header_of c.args.block.now).valid (header_of c.args.block.now).key a.sksv a.bpv) c.requires.additional in
    subst (λ m. MatchOption c.first_reserved.result (EachIndex (without_length c.args.block.now) (SharesNone m (without_length c.args.block.now))) (IsFirstShared m (without_length c.args.block.now))) mask c.first_reserved.ensures
