-- A number put into some bits of a byte: it is read back, and the other bits stay.
use Rattle.std.proofs.Common.{◌≡◌, ℕ, ◌+◌, ◌-◌, ◌*◌, ◌/◌, ◌%◌, ◌^◌, ◌<◌, ◌≤◌, ◌⊎◌, inl, inr, sym, ap, ◌∙◌, arith}
use Rattle.std.proofs.Math.Nat.{div-div-eq-div-mul, lt-div-mul-add, mul-le-mul_right}
use Rattle.std.proofs.lemmas.Nat.{div-add-mod', div-mul-add, mod-mul-add, mod_below, pow-add, pow_pos, shl_whole, div_below, shr-shr, field_of, mod-pow-add, mod_low}
use Rattle.std.specs.Int.{bit_at}
use Rattle.cdb_fields.specs.Fields.{bits, with_bits}

-- what is left once the bits of weight p to p * q are replaced by v
parts : (b v p q : ℕ) → 0 < p → b - b / p % q * p + v * p ≡ (b / p / q * q + v) * p + b % p
parts b v p q h =
    let whole : b ≡ b / p * p + b % p = sym (div-add-mod' b p) in
    let high : b / p * p ≡ (b / p / q * q + b / p % q) * p = ap (λ n. n * p) (sym (div-add-mod' (b / p) q)) in
    omega (arith, whole, high)

parts_read : (b v p q : ℕ) → 0 < p → v < q → (b - b / p % q * p + v * p) / p % q ≡ v
parts_read b v p q h k =
    ap (λ n. n / p % q) (parts b v p q h)
    ∙ ap (λ n. n % q) (div-mul-add (b / p / q * q + v) p (b % p) (mod_below b p h))
    ∙ mod-mul-add (b / p / q) q v k

parts_below : (b v p q : ℕ) → 0 < p → (b - b / p % q * p + v * p) % p ≡ b % p
parts_below b v p q h =
    ap (λ n. n % p) (parts b v p q h) ∙ mod-mul-add (b / p / q * q + v) p (b % p) (mod_below b p h)

parts_above : (b v p q : ℕ) → 0 < p → v < q → (b - b / p % q * p + v * p) / (p * q) ≡ b / (p * q)
parts_above b v p q h k =
    sym (div-div-eq-div-mul (b - b / p % q * p + v * p) p q)
    ∙ ap (λ n. n / p / q) (parts b v p q h)
    ∙ ap (λ n. n / q) (div-mul-add (b / p / q * q + v) p (b % p) (mod_below b p h))
    ∙ div-mul-add (b / p / q) q v k
    ∙ div-div-eq-div-mul b p q

-- the weight of the bits together
weight : (high low : ℕ) → low ≤ high → 2 ^ low * 2 ^ (high + 1 - low) ≡ 2 ^ (high + 1)
weight high low h =
    let sum : low + (high + 1 - low) ≡ high + 1 = omega arith in
    sym (pow-add 2 low (high + 1 - low)) ∙ ap (λ n. 2 ^ n) sum

pub with_bits_read : (high low b v : ℕ) → v < 2 ^ (high + 1 - low) → bits high low (with_bits high low b v) ≡ v
with_bits_read high low b v h = parts_read b v (2 ^ low) (2 ^ (high + 1 - low)) (pow_pos low) h

pub with_bits_below : (high low b v : ℕ) → with_bits high low b v % 2 ^ low ≡ b % 2 ^ low
with_bits_below high low b v = parts_below b v (2 ^ low) (2 ^ (high + 1 - low)) (pow_pos low)

pub with_bits_above : (high low b v : ℕ) → low ≤ high → v < 2 ^ (high + 1 - low) → with_bits high low b v / 2 ^ (high + 1) ≡ b / 2 ^ (high + 1)
with_bits_above high low b v order h =
    ap (λ n. with_bits high low b v / n) (sym (weight high low order))
    ∙ parts_above b v (2 ^ low) (2 ^ (high + 1 - low)) (pow_pos low) h
    ∙ ap (λ n. b / n) (weight high low order)

-- the two bytes agree at a bit below a place at which they agree in the rest
same_below : (a b low i : ℕ) → a % 2 ^ low ≡ b % 2 ^ low → i < low → bit_at a i ≡ bit_at b i
same_below a b low i e h =
    sym (field_of a 1 i) ∙ ap (λ n. n / 2 ^ i) (sym (cut a) ∙ ap (λ n. n % 2 ^ (1 + i)) e ∙ cut b) ∙ field_of b 1 i
  where
    sum : low - (1 + i) + (1 + i) ≡ low
    sum = omega arith

    cut : (n : ℕ) → n % 2 ^ low % 2 ^ (1 + i) ≡ n % 2 ^ (1 + i)
    cut n =
        ap (λ k. n % 2 ^ k % 2 ^ (1 + i)) (sym sum)
        ∙ ap (λ k. k % 2 ^ (1 + i)) (mod-pow-add n (low - (1 + i)) (1 + i))
        ∙ mod_low (n / 2 ^ (1 + i) % 2 ^ (low - (1 + i))) (1 + i) (n % 2 ^ (1 + i)) (mod_below n (2 ^ (1 + i)) (pow_pos (1 + i)))

same_above : (a b high i : ℕ) → a / 2 ^ (high + 1) ≡ b / 2 ^ (high + 1) → high < i → bit_at a i ≡ bit_at b i
same_above a b high i e h =
    ap (λ n. n % 2) (sym (cut a) ∙ ap (λ n. n / 2 ^ (i - (high + 1))) e ∙ cut b)
  where
    sum : high + 1 + (i - (high + 1)) ≡ i
    sum = omega arith

    cut : (n : ℕ) → n / 2 ^ (high + 1) / 2 ^ (i - (high + 1)) ≡ n / 2 ^ i
    cut n = shr-shr n (high + 1) (i - (high + 1)) ∙ ap (λ k. n / 2 ^ k) sum

pub with_bits_others : (high low b v : ℕ) → low ≤ high → v < 2 ^ (high + 1 - low) → (i : ℕ) → (i < low) ⊎ (high < i) → bit_at (with_bits high low b v) i ≡ bit_at b i
with_bits_others high low b v order h i side =
    elim side [
      | inl under ↦ same_below (with_bits high low b v) b low i (with_bits_below high low b v) under
      | inr over ↦ same_above (with_bits high low b v) b high i (with_bits_above high low b v order h) over
    ]

pub with_bits_fits : (high low b v : ℕ) → b < 256 → low ≤ high → high ≤ 7 → v < 2 ^ (high + 1 - low) → with_bits high low b v < 256
with_bits_fits high low b v byte order top h =
    let whole : 2 ^ (7 - high) * 2 ^ (high + 1) ≡ 256 =
    sym (pow-add 2 (7 - high) (high + 1)) ∙ ap (λ n. 2 ^ n) sum in
    let small : b / 2 ^ (high + 1) < 2 ^ (7 - high) =
    div_below b (2 ^ (high + 1)) (2 ^ (7 - high)) (pow_pos (high + 1)) (omega (arith, whole)) in
    let bound : (b / 2 ^ (high + 1) + 1) * 2 ^ (high + 1) ≤ 2 ^ (7 - high) * 2 ^ (high + 1) =
    mul-le-mul_right (2 ^ (high + 1)) (omega (arith, small)) in
    let next : with_bits high low b v < with_bits high low b v / 2 ^ (high + 1) * 2 ^ (high + 1) + 2 ^ (high + 1) =
    lt-div-mul-add (pow_pos (high + 1)) in
    let same : with_bits high low b v / 2 ^ (high + 1) * 2 ^ (high + 1) ≡ b / 2 ^ (high + 1) * 2 ^ (high + 1) =
    ap (λ n. n * 2 ^ (high + 1)) (with_bits_above high low b v order h) in
    omega (arith, next, same, whole, bound)
  where
    sum : 7 - high + (high + 1) ≡ 8
    sum = omega arith

-- a shift of a number that fits its bits loses none of it
pub shifted : (high low v : ℕ) → low ≤ high → high ≤ 7 → v < 2 ^ (high + 1 - low) → v * 2 ^ low % 256 ≡ v * 2 ^ low
shifted high low v order top h = shl_whole v (high + 1 - low) low 8 h (omega arith)

pub bits_below : (high low b : ℕ) → bits high low b < 2 ^ (high + 1 - low)
bits_below high low b = mod_below (b / 2 ^ low) (2 ^ (high + 1 - low)) (pow_pos (high + 1 - low))
