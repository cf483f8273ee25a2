use Rattle.std.proofs.Common.{◌≡◌, length, ◌∙◌, ◌∷◌, [], arith}
use Rattle.std.proofs.lemmas.List.{take_at}
use Rattle.sbc_cdbs.proofs.descriptor.Cdb.of_ten.Goals as goal

pub returns : goal.returns
returns c =
    let size : length c.copy_from_slice.new.self ≡ 10 = omega arith in
    take_at c.copy_from_slice.new.self (0 ∷ 0 ∷ 0 ∷ 0 ∷ 0 ∷ 0 ∷ []) 10 size ∙ c.copy_from_slice.ensures.after
