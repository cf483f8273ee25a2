-- Numbers of 64 bits, as std spells them.
use Rattle.std.proofs.Common.{◌≡◌, ℕ, ◌^◌, ◌<◌, ◌≤◌, true, length, Some, sym, ap, subst, ◌∙◌, List, arith}
use Rattle.std.specs.Fmt.{decimal}
use Rattle.text_fields.specs.Reading.{number_of}
use Rattle.text_fields.proofs.Cuts.{above}
use Rattle.text_fields.proofs.NumeralLaws.{numeral-decimal, numeral-above, numeral-some}
use Rattle.text_fields.proofs.NumeralLaws as numerals

pub number-takes : (most : ℕ) (text : List ℕ) (n : ℕ) → most < 2 ^ 64 → number_of most text ≡ Some n → (text ≡ decimal n) × (n ≤ most)
number-takes most text n small e =
    let t = numerals.number-takes most text n e in
    (t.0 ∙ numeral-decimal n (omega (arith, t.1, small)), t.1)

pub number-again : (most n : ℕ) → n ≤ most → n < 2 ^ 64 → number_of most (decimal n) ≡ Some n
number-again most n le lt = ap (number_of most) (sym (numeral-decimal n lt)) ∙ numerals.number-again most n le

pub decimal-above : (n : ℕ) → n < 2 ^ 64 → above 47 (decimal n) ≡ true
decimal-above n lt = subst (λ (t : List ℕ). above 47 t ≡ true) (numeral-decimal n lt) (numeral-above n)

pub decimal-some : (n : ℕ) → n < 2 ^ 64 → 0 < length (decimal n)
decimal-some n lt = subst (λ (t : List ℕ). 0 < length t) (numeral-decimal n lt) (numeral-some n)
