use Rattle.std.proofs.Common.{◌≡◌, ◌∙◌, ◌==◌, position, Some, refl, sym}
use Rattle.text_fields.specs.Reading.{cut_at}
use Rattle.text_fields.proofs.cutting.cut.Goals as goal

pub returns-clause-value : goal.returns-clause-value
unfolding cut_at
returns-clause-value c =
    let h : position (λ b. b == c.args.mark) c.args.bytes.now ≡ Some c.in_ok-place.place = sym c.first_place.ensures.value ∙ c.in_ok-place.was in
    rw (h, c.split_at-2.ensures.back, c.split_at.ensures.front, c.split_at.ensures.back) refl
