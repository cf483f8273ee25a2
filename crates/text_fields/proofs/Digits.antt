-- Digits, and the number that they spell, one after the other.
use Rattle.std.proofs.Common.{◌≡◌, ℕ, zero, suc, ◌+◌, ◌-◌, ◌*◌, ◌<◌, ◌&&◌, Bool, true, false, List, [], ◌∷◌, length, get_or, take, min, refl, arith}
use Rattle.std.specs.Char.{is_ascii_digit, digit_value}
use Rattle.std.specs.Str.{all_ascii_digits}
use Rattle.std.specs.Str.Parse.{digits_value}
use Rattle.std.proofs.lemmas.Int.Digits.{digits_value_more}
use Rattle.std.proofs.lemmas.Bool.Decides.{nat_tests}

-- a byte that is no digit
pub digits-broken : (text : List ℕ) (i : ℕ) → i < length text → is_ascii_digit (get_or text i 0) ≡ false → all_ascii_digits text ≡ false
digits-broken [] i lt h = let no : ⊥ = omega arith in absurd no
digits-broken (c ∷ cs) zero lt h = rw h refl
digits-broken (c ∷ cs) (suc i) lt h = rw (digits-broken cs i (omega arith) h) (and-false (is_ascii_digit c))
  where
    and-false : (b : Bool) → (b && false) ≡ false
    and-false true = refl
    and-false false = refl

-- one more digit
pub digits-more : (text : List ℕ) (i : ℕ) → i < length text → all_ascii_digits (take i text) ≡ true → is_ascii_digit (get_or text i 0) ≡ true → all_ascii_digits (take (suc i) text) ≡ true
digits-more [] i lt h d = let no : ⊥ = omega arith in absurd no
digits-more (c ∷ cs) zero lt h d = rw d refl
digits-more (c ∷ cs) (suc i) lt h d = grind (arith, nat_tests, digits-more cs i)

pub digit-is : (c : ℕ) → is_ascii_digit c ≡ true → digit_value c ≡ c - 48
digit-is c h = grind (arith, nat_tests)

-- capping before a digit is put behind changes nothing
pub capped-step : (v d cap : ℕ) → min cap (min v cap * 10 + d) ≡ min (v * 10 + d) cap
capped-step v d cap = omega arith

pub value-step : (text : List ℕ) (i cap value : ℕ) → i < length text → is_ascii_digit (get_or text i 0) ≡ true → value ≡ min (digits_value 10 (take i text)) cap
    → min cap (value * 10 + (get_or text i 0 - 48)) ≡ min (digits_value 10 (take (i + 1) text)) cap
value-step text i cap value lt d h =
    rw (digits_value_more 10 text i lt, digit-is (get_or text i 0) d, h) (capped-step (digits_value 10 (take i text)) (get_or text i 0 - 48) cap)
