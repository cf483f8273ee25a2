-- The one numeral of a number of any size: what is read as a numeral is that of its number, and it is read again.
use Rattle.std.proofs.Common.{◌≡◌, ℕ, zero, suc, ◌+◌, ◌-◌, ◌*◌, ◌/◌, ◌%◌, ◌<◌, ◌≤◌, ◌^◌, ◌&&◌, cond, nat_le, Bool, true, false, List, [], ◌∷◌, ◌++◌, length, map, get_or, take, min, Option, Some, None, refl, sym, ap, subst, ◌∙◌, arith}
use Rattle.std.specs.Fmt.{decimal}
use Rattle.std.specs.Int.Digits.{digits_of, number_from_digits, AllBelowBase}
use Rattle.std.specs.Char.{is_ascii_digit, digit_value}
use Rattle.std.specs.Str.{all_ascii_digits}
use Rattle.std.specs.Str.Parse.{digits_value}
use Rattle.std.proofs.lemmas.Bool.{le-leb, lt-leb, leb-true}
use Rattle.std.proofs.lemmas.Bool.Decides.{nat_tests}
use Rattle.std.proofs.lemmas.Fmt.{decimal_digit, decimal-digits_of}
use Rattle.std.proofs.lemmas.Int.Digits.{digits_value_is, digits_of_step, all_below_base_digits_of, first_digits_of, number_push, number_digits_of}
use Rattle.std.proofs.lemmas.List.{take_all}
use Rattle.std.proofs.lemmas.Option.{cond_some}
use Rattle.std.proofs.Math.Seq.{take-suc}
use Rattle.text_fields.specs.Spelling.{numeral}
use Rattle.text_fields.specs.Reading.{◌>>=◌, is_numeral, numeral_of, capped_of, number_of}
use Rattle.text_fields.specs.Laws.{lacks, NumeralsAreExact, NumbersAreExact}
use Rattle.text_fields.proofs.Digits.{digit-is}
use Rattle.text_fields.proofs.Cuts.{bind-some, above}

-- ---- digits and the number of them, of any size

take-below : (i : ℕ) (ds : List ℕ) → AllBelowBase 10 ds → AllBelowBase 10 (take i ds)
take-below zero ds h = tt
take-below (suc i) [] h = tt
take-below (suc i) (d ∷ ds) h = (h.0, take-below i ds h.1)

at-below : (i : ℕ) (ds : List ℕ) → AllBelowBase 10 ds → i < length ds → get_or ds i 0 < 10
at-below i [] h lt = let no : ⊥ = omega arith in absurd no
at-below zero (d ∷ ds) h lt = h.0
at-below (suc i) (d ∷ ds) h lt = at-below i ds h.1 (omega arith)

first-kept : (i : ℕ) (ds : List ℕ) → 0 < i → get_or (take i ds) 0 0 ≡ get_or ds 0 0
first-kept zero ds lt = let no : ⊥ = omega arith in absurd no
first-kept (suc i) [] lt = refl
first-kept (suc i) (d ∷ ds) lt = refl

length-front : (i : ℕ) (ds : List ℕ) → i ≤ length ds → length (take i ds) ≡ i
length-front zero ds le = refl
length-front (suc i) [] le = let no : ⊥ = omega arith in absurd no
length-front (suc i) (d ∷ ds) le = let e = length-front i ds (omega arith) in omega (arith, e)

one-step : (n m d : ℕ) → n ≡ m * 10 + d → d < 10 → 0 < n → digits_of 10 n ≡ digits_of 10 m ++ d ∷ []
one-step n m d e lt pos =
    let q : n / 10 ≡ m = omega arith in
    let r : n % 10 ≡ d = omega arith in
    let s : digits_of 10 n ≡ digits_of 10 (n / 10) ++ (n % 10 ∷ []) = digits_of_step 10 n (omega arith) pos in
    s ∙ ap (λ (k : ℕ). digits_of 10 k ++ (n % 10 ∷ [])) q ∙ ap (λ (k : ℕ). digits_of 10 m ++ (k ∷ [])) r

none-is-empty : (k : ℕ) (xs : List ℕ) → digits_of 10 k ≡ xs → 0 < length xs → 0 < k
none-is-empty zero xs e lt = let no : ⊥ = omega (arith, ap (λ (ys : List ℕ). length ys) e) in absurd no
none-is-empty (suc k) xs e lt = omega arith

-- digits that don't begin with 0 are those of their number
digits-back : (k : ℕ) (ds : List ℕ) → length ds ≡ k → AllBelowBase 10 ds → 0 < get_or ds 0 0 → digits_of 10 (number_from_digits 10 ds) ≡ ds
digits-back zero [] e h first = let no : ⊥ = omega arith in absurd no
digits-back zero (d ∷ ds) e h first = let no : ⊥ = omega arith in absurd no
digits-back (suc zero) ds e h first = single ds e h first
  where
    single : (ds : List ℕ) → length ds ≡ 1 → AllBelowBase 10 ds → 0 < get_or ds 0 0 → digits_of 10 (number_from_digits 10 ds) ≡ ds
    single [] e h first = let no : ⊥ = omega arith in absurd no
    single (d ∷ []) e h first = rw zero-first (one-step d 0 d (omega arith) h.0 first)
      where
        zero-first : number_from_digits 10 (d ∷ []) ≡ d
        zero-first = omega arith
    single (d ∷ c ∷ ds) e h first = let no : ⊥ = omega arith in absurd no
digits-back (suc (suc k)) ds e h first =
    let xs = take (suc k) ds in
    let d = get_or ds (suc k) 0 in
    let whole : ds ≡ xs ++ (d ∷ []) = sym (take_all (suc (suc k)) ds (omega arith)) ∙ take-suc ds (suc k) 0 (omega arith) in
    let len : length xs ≡ suc k = length-front (suc k) ds (omega arith) in
    let front : digits_of 10 (number_from_digits 10 xs) ≡ xs = digits-back (suc k) xs len (take-below (suc k) ds h) (rw (first-kept (suc k) ds (omega arith)) first) in
    let pos : 0 < number_from_digits 10 xs = none-is-empty (number_from_digits 10 xs) xs front (omega arith) in
    let number : number_from_digits 10 (xs ++ (d ∷ [])) ≡ number_from_digits 10 xs * 10 + d = number_push 10 xs d in
    let step = one-step (number_from_digits 10 (xs ++ (d ∷ []))) (number_from_digits 10 xs) d number (at-below (suc k) ds h (omega arith)) (omega arith) in
    let all : digits_of 10 (number_from_digits 10 (xs ++ (d ∷ []))) ≡ xs ++ (d ∷ []) = step ∙ ap (λ (ys : List ℕ). ys ++ (d ∷ [])) front in
    subst (λ (ys : List ℕ). digits_of 10 (number_from_digits 10 ys) ≡ ys) (sym whole) all

-- ---- the one numeral of a number

digit-code : (c : ℕ) → is_ascii_digit c ≡ true → (digit_value c < 10) × (48 + digit_value c ≡ c)
digit-code c h =
    let e = digit-is c h in
    let range : (48 ≤ c) × (c ≤ 57) = grind (arith, nat_tests, h) in
    (omega (arith, e, range), omega (arith, e, range))

and-parts : (a b : Bool) → (a && b) ≡ true → (a ≡ true) × (b ≡ true)
and-parts true true h = (refl, refl)
and-parts true false h = absurd cc
and-parts false b h = absurd cc

values-below : (text : List ℕ) → all_ascii_digits text ≡ true → AllBelowBase 10 (map digit_value text)
values-below [] h = tt
values-below (c ∷ text) h = let p = and-parts (is_ascii_digit c) (all_ascii_digits text) h in ((digit-code c p.0).0, values-below text p.1)

codes-back : (text : List ℕ) → all_ascii_digits text ≡ true → map (λ d. 48 + d) (map digit_value text) ≡ text
codes-back [] h = refl
codes-back (c ∷ text) h =
    let p = and-parts (is_ascii_digit c) (all_ascii_digits text) h in
    rw ((digit-code c p.0).1, codes-back text p.1) refl

numeral-pos : (n : ℕ) → 0 < n → numeral n ≡ map (λ d. 48 + d) (digits_of 10 n)
unfolding numeral
numeral-pos zero lt = let no : ⊥ = omega arith in absurd no
numeral-pos (suc n) lt = refl

numeral-zero : numeral 0 ≡ 48 ∷ []
unfolding numeral
numeral-zero = refl

is-numeral-parts : (d : ℕ) (ds : List ℕ) → is_numeral (d ∷ ds) ≡ true → (all_ascii_digits (d ∷ ds) ≡ true) × (d ≡ 48 → length (d ∷ ds) ≡ 1)
is-numeral-parts d ds h = (grind (arith, nat_tests), λ z. grind (arith, nat_tests))

is-numeral-from : (text : List ℕ) → all_ascii_digits text ≡ true → 0 < length text → (get_or text 0 0 ≡ 48 → length text ≡ 1) → is_numeral text ≡ true
is-numeral-from [] h lt one = let no : ⊥ = omega arith in absurd no
is-numeral-from (d ∷ ds) h lt one = grind (arith, nat_tests)

-- digits that don't begin with 0 are the numeral of their number
filled : (d : ℕ) (ds : List ℕ) → all_ascii_digits (d ∷ ds) ≡ true → 48 < d → d ∷ ds ≡ numeral (digits_value 10 (d ∷ ds))
filled d ds h lt =
    let text = d ∷ ds in
    let values = map digit_value text in
    let first : 0 < digit_value d = let p = digit-code d (and-parts (is_ascii_digit d) (all_ascii_digits ds) h).0 in omega (arith, p) in
    let back : digits_of 10 (number_from_digits 10 values) ≡ values = digits-back (length values) values refl (values-below text h) first in
    let pos : 0 < number_from_digits 10 values = none-is-empty (number_from_digits 10 values) values back (omega arith) in
    let e : digits_value 10 text ≡ number_from_digits 10 values = digits_value_is 10 text in
    let n : numeral (number_from_digits 10 values) ≡ text = numeral-pos (number_from_digits 10 values) pos ∙ ap (λ (ds : List ℕ). map (λ d. 48 + d) ds) back ∙ codes-back text h in
    sym n ∙ ap numeral (sym e)

zero-text : 48 ∷ [] ≡ numeral (digits_value 10 (48 ∷ []))
unfolding numeral
zero-text = refl

by-value : (k d : ℕ) → d ≡ 48 + k → all_ascii_digits (d ∷ []) ≡ true → d ∷ [] ≡ numeral (digits_value 10 (d ∷ []))
by-value zero d e digits = let is : 48 ≡ d = omega arith in subst (λ (x : ℕ). x ∷ [] ≡ numeral (digits_value 10 (x ∷ []))) is zero-text
by-value (suc k) d e digits = filled d [] digits (omega arith)

pub is-numeral-takes : (text : List ℕ) → is_numeral text ≡ true → text ≡ numeral (digits_value 10 text)
is-numeral-takes [] h = absurd cc
is-numeral-takes (d ∷ []) h =
    let digits : all_ascii_digits (d ∷ []) ≡ true = (is-numeral-parts d [] h).0 in
    let low : 48 ≤ d = grind (arith, nat_tests, digits) in
    by-value (d - 48) d (omega arith) digits
is-numeral-takes (d ∷ c ∷ ds) h =
    let p = is-numeral-parts d (c ∷ ds) h in
    let low : 48 ≤ d = grind (arith, nat_tests, p.0) in
    let not : d ≡ 48 → ⊥ = λ z. let long = p.1 z in omega (arith, long) in
    filled d (c ∷ ds) p.0 (omega (arith, low, not))

codes-digits : (ds : List ℕ) → AllBelowBase 10 ds → all_ascii_digits (map (λ d. 48 + d) ds) ≡ true
codes-digits [] h = refl
codes-digits (d ∷ ds) h =
    let one : is_ascii_digit (48 + d) ≡ true = grind (arith, nat_tests, h.0) in
    rw (one, codes-digits ds h.1) refl

code-value : (d : ℕ) → d < 10 → digit_value (48 + d) ≡ d
code-value d lt =
    let one : is_ascii_digit (48 + d) ≡ true = grind (arith, nat_tests) in
    let e = digit-is (48 + d) one in
    omega (arith, e)

values-back : (ds : List ℕ) → AllBelowBase 10 ds → map digit_value (map (λ d. 48 + d) ds) ≡ ds
values-back [] h = refl
values-back (d ∷ ds) h = rw (code-value d h.0, values-back ds h.1) refl

first-code : (ds : List ℕ) → 0 < get_or ds 0 0 → 48 < get_or (map (λ d. 48 + d) ds) 0 0
first-code [] pos = let no : ⊥ = omega arith in absurd no
first-code (d ∷ ds) pos = omega arith

filled-list : (ds : List ℕ) → 0 < get_or ds 0 0 → 0 < length (map (λ d. 48 + d) ds)
filled-list [] pos = let no : ⊥ = omega arith in absurd no
filled-list (d ∷ ds) pos = omega arith

-- the numeral of a number is one, and of this number
pub record IsNumeralOf (text : List ℕ) (n : ℕ) : Type 0 where
  pub digits : all_ascii_digits text ≡ true
  pub is : is_numeral text ≡ true
  pub value : digits_value 10 text ≡ n

zero-numeral : IsNumeralOf (48 ∷ []) 0
zero-numeral = record { digits = refl; is = refl; value = refl }

pub numeral-is : (n : ℕ) → IsNumeralOf (numeral n) n
unfolding numeral
numeral-is zero = zero-numeral
numeral-is (suc n) =
    let ds = digits_of 10 (suc n) in
    let below = all_below_base_digits_of 10 (suc n) (omega arith) in
    let first : 0 < get_or ds 0 0 = first_digits_of 10 (suc n) (omega arith) (omega arith) in
    let text = map (λ d. 48 + d) ds in
    let digits : all_ascii_digits text ≡ true = codes-digits ds below in
    let high = first-code ds first in
    let number : digits_value 10 text ≡ suc n = digits_value_is 10 text ∙ ap (λ (xs : List ℕ). number_from_digits 10 xs) (values-back ds below) ∙ number_digits_of 10 (suc n) (omega arith) in
    record { digits = digits; is = is-numeral-from text digits (filled-list ds first) (λ z. let no : ⊥ = omega (arith, z, high) in absurd no); value = number }

pub numeral-takes : (text : List ℕ) (n : ℕ) → numeral_of text ≡ Some n → text ≡ numeral n
unfolding numeral_of
numeral-takes text n e =
    let g = cond_some (is_numeral text) (digits_value 10 text) n e in
    is-numeral-takes text g.0 ∙ ap numeral g.1

pub numeral-again : (n : ℕ) → numeral_of (numeral n) ≡ Some n
unfolding numeral_of
numeral-again n =
    let k = numeral-is n in
    rw (k.is, k.value) refl

pub numerals-exact : NumeralsAreExact
numerals-exact text n = (numeral-takes text n, λ e. ap numeral_of e ∙ numeral-again n)

-- ---- numbers that are capped

-- a numeral that is read, and what is kept of its number
pub record IsCapped (cap : ℕ) (text : List ℕ) (v : ℕ) : Type 0 where
  pub number : ℕ
  pub spelt : text ≡ numeral number
  pub value : v ≡ min number cap

pub capped-takes : (cap : ℕ) (text : List ℕ) (v : ℕ) → capped_of cap text ≡ Some v → IsCapped cap text v
unfolding capped_of
capped-takes cap text v e =
    let g = cond_some (is_numeral text) (min (digits_value 10 text) cap) v e in
    record { number = digits_value 10 text; spelt = is-numeral-takes text g.0; value = sym g.1 }

pub capped-again : (cap n : ℕ) → capped_of cap (numeral n) ≡ Some (min n cap)
unfolding capped_of
capped-again cap n =
    let k = numeral-is n in
    rw (k.is, k.value) refl

none-capped : (b : Bool) (n most : ℕ) → cond b (Some (min n most)) None ≡ None → (cap : ℕ) → cond b (Some (min n cap)) None ≡ None
none-capped true n most e cap = absurd cc
none-capped false n most e cap = refl

pub capped-none : (most cap : ℕ) (text : List ℕ) → capped_of most text ≡ None → capped_of cap text ≡ None
unfolding capped_of
capped-none most cap text e = none-capped (is_numeral text) (digits_value 10 text) most e cap

-- a cap below another
pub capped-lower : (most cap : ℕ) (text : List ℕ) (v : ℕ) → cap ≤ most → capped_of most text ≡ Some v → capped_of cap text ≡ Some (min v cap)
unfolding capped_of
capped-lower most cap text v le e =
    let g = cond_some (is_numeral text) (min (digits_value 10 text) most) v e in
    let same : min (digits_value 10 text) cap ≡ min v cap = omega (arith, g.1, le) in
    rw (g.0, same) refl

-- ---- numbers that are at most so great

none-ranged : (b : Bool) (n cap most : ℕ) → cond b (Some (min n cap)) None ≡ None → (cond b (Some n) None >>= λ n. cond (nat_le n most) (Some n) None) ≡ None
none-ranged true n cap most e = absurd cc
none-ranged false n cap most e = refl

pub number-none : (cap most : ℕ) (text : List ℕ) → capped_of cap text ≡ None → number_of most text ≡ None
unfolding capped_of number_of numeral_of
number-none cap most text e = none-ranged (is_numeral text) (digits_value 10 text) cap most e

pub number-within : (cap most : ℕ) (text : List ℕ) (v : ℕ) → capped_of cap text ≡ Some v → most < cap → v ≤ most → number_of most text ≡ Some v
unfolding capped_of number_of numeral_of
number-within cap most text v e lt le =
    let g = cond_some (is_numeral text) (min (digits_value 10 text) cap) v e in
    let same : digits_value 10 text ≡ v = omega (arith, g.1, lt, le) in
    rw (g.0, same, le-leb v most le) refl

pub number-past : (cap most : ℕ) (text : List ℕ) (v : ℕ) → capped_of cap text ≡ Some v → most < cap → most < v → number_of most text ≡ None
unfolding capped_of number_of numeral_of
number-past cap most text v e lt past =
    let g = cond_some (is_numeral text) (min (digits_value 10 text) cap) v e in
    let more : nat_le (digits_value 10 text) most ≡ false = lt-leb (digits_value 10 text) most (omega (arith, g.1, lt, past)) in
    rw (g.0, more) refl

pub number-takes : (most : ℕ) (text : List ℕ) (n : ℕ) → number_of most text ≡ Some n → (text ≡ numeral n) × (n ≤ most)
unfolding number_of
number-takes most text n e =
    let b = bind-some (numeral_of text) (λ n. cond (nat_le n most) (Some n) None) n e in
    let g = cond_some (nat_le b.0 most) b.0 n b.2 in
    let le : b.0 ≤ most = leb-true b.0 most g.0 in
    (numeral-takes text n (b.1 ∙ ap (λ (k : ℕ). Some k) g.1), omega (arith, g.1, le))

pub number-again : (most n : ℕ) → n ≤ most → number_of most (numeral n) ≡ Some n
unfolding number_of
number-again most n le = rw (numeral-again n, le-leb n most le) refl

pub numbers-exact : NumbersAreExact
numbers-exact most text n = (number-takes most text n, λ h. ap (number_of most) h.0 ∙ number-again most n h.1)

-- ---- the numerals of std, which are of 64 bits

pub numeral-decimal : (n : ℕ) → n < 2 ^ 64 → numeral n ≡ decimal n
unfolding numeral
numeral-decimal zero lt = sym (decimal_digit 0 (omega arith))
numeral-decimal (suc n) lt = sym (decimal-digits_of (suc n) (omega arith) lt)

-- ---- what no numeral has

digits-lack : (mark : ℕ) (text : List ℕ) → mark < 48 → all_ascii_digits text ≡ true → lacks mark text ≡ true
digits-lack mark [] lt h = refl
digits-lack mark (c ∷ text) lt h = grind (arith, nat_tests, digits-lack mark text)

pub numeral-lacks : (mark n : ℕ) → mark < 48 → lacks mark (numeral n) ≡ true
numeral-lacks mark n low = digits-lack mark (numeral n) low (numeral-is n).digits

digits-above : (text : List ℕ) → all_ascii_digits text ≡ true → above 47 text ≡ true
digits-above [] h = refl
digits-above (c ∷ text) h = grind (arith, nat_tests, digits-above text)

pub numeral-above : (n : ℕ) → above 47 (numeral n) ≡ true
numeral-above n = digits-above (numeral n) (numeral-is n).digits

pub numeral-some : (n : ℕ) → 0 < length (numeral n)
unfolding numeral
numeral-some zero = omega arith
numeral-some (suc n) = filled-list (digits_of 10 (suc n)) (first_digits_of 10 (suc n) (omega arith) (omega arith))
