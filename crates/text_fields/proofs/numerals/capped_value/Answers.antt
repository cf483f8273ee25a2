use Rattle.std.proofs.Common.{◌≡◌, ◌∙◌, ◌+◌, false, true, suc, get_or, refl, sym, arith}
use Rattle.std.specs.Char.{is_ascii_digit}
use Rattle.text_fields.proofs.Digits.{digits-broken, digits-more, value-step}
use Rattle.text_fields.proofs.numerals.capped_value.Goals as goal

pub returns-then-not-is_ascii_digit : goal.returns-then-not-is_ascii_digit
returns-then-not-is_ascii_digit c =
    let h : is_ascii_digit (get_or c.args.text.now c.loop-digit.digit-index 0) ≡ false = sym c.is_ascii_digit.ensures.value ∙ c.if-not-is_ascii_digit.true in
    rw (digits-broken c.args.text.now c.loop-digit.digit-index c.loop-digit-test.true h) refl

pub loop-digit-preserved : goal.loop-digit-preserved
loop-digit-preserved c =
    let h : is_ascii_digit (get_or c.args.text.now c.loop-digit.digit-index 0) ≡ true = sym c.is_ascii_digit.ensures.value ∙ c.if-not-is_ascii_digit.false in
    let one : c.loop-digit.digit-index + 1 ≡ suc c.loop-digit.digit-index = omega arith in (
      rw one (digits-more c.args.text.now c.loop-digit.digit-index c.loop-digit-test.true c.loop-digit.invariant.0 h),
      rw (c.min-value.ensures, c.from.ensures) (value-step c.args.text.now c.loop-digit.digit-index 18446744073709551616 c.loop-digit.value c.loop-digit-test.true h c.loop-digit.invariant.1),
    )
