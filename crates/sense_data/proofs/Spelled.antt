-- Eighteen bytes without a wrong bit are the spelling of the values that their fields give.
use Rattle.std.proofs.Common.{◌≡◌, ℕ, ◌+◌, ◌%◌, ◌^◌, ◌<◌, Bool, true, false, cond, if◌then◌else◌, List, [], ◌∷◌, length, get_or, drop, eqb, refl, sym, ap, subst, ◌∙◌, arith, Option, Some, None, is_some, unwrap_or, IfSome, option_map}
use Rattle.std.proofs.lemmas.Bool.{eq-eqb, eqb-true}
use Rattle.std.proofs.lemmas.List.{get_or-drop}
use Rattle.byteorder.specs.Numbers.{big_from-lt}
use Rattle.sense_data.specs.declared.senses.Pointer.{Pointer}
use Rattle.std.specs.Int.{w32, to_be_bytes}
use Rattle.std.specs.Int.Bits.{bit_and, bit_xor}
use Rattle.byteorder.specs.Endian.{big_number}
use Rattle.cdb_fields.specs.Fields.{bits, flag, SharesNone, is_one, number_at}
use Rattle.cdb_fields.proofs.Masks.{made_of, all_reserved, passes_at}
use Rattle.cdb_fields.proofs.Cells.{number_4, number_2, whole, cells}
use Rattle.sense_data.specs.declared.senses.Sense.{Sense}
use Rattle.sense_data.specs.Faults.{mask_of, without_length}
use Rattle.sense_data.specs.Reading.{Values, values, values_given, pointer_given, pointer_parts, header_of, additional_of}
use Rattle.sense_data.specs.Senses.{SpellsSense}
use Rattle.sense_data.proofs.Values.{value_bytes, parts_bytes, spelling_by_values}

-- eighteen bytes of this response code, without a wrong bit
pub record Block (b : List ℕ) : Type 0 where
  pub long : length b ≡ 18
  pub small : (k : ℕ) → get_or b k 0 < 256
  pub code : bits 6 0 (get_or b 0 0) ≡ 0x70
  pub none : (k : ℕ) → SharesNone (mask_of b) (without_length b) k

-- single bytes, by trying all 256
first_byte : (b : ℕ) → b < 256 → b ≡ flag 7 (eqb (bits 7 7 b) 1) + bits 6 0 b
first_byte b h = made_of 0 (λ n. flag 7 (eqb (bits 7 7 n) 1) + bits 6 0 n) refl b h refl

key_byte : (b : ℕ) → b < 256 → bit_and 0xf0 b ≡ 0 → b ≡ bits 3 0 b
key_byte b h none = made_of 0xf0 (λ n. bits 3 0 n) refl b h none

pointed_byte : (b : ℕ) → b < 256 → bit_and 0x30 b ≡ 0 → b ≡ flag 7 (eqb (bits 7 7 b) 1) + flag 6 (eqb (bits 6 6 b) 1) + (flag 3 (eqb (bits 3 3 b) 1) + bits 2 0 b)
pointed_byte b h none =
    made_of 0x30 (λ n. flag 7 (eqb (bits 7 7 n) 1) + flag 6 (eqb (bits 6 6 n) 1) + (flag 3 (eqb (bits 3 3 n) 1) + bits 2 0 n)) refl b h none

pointed_byte_only : (b : ℕ) → b < 256 → bit_and 0x37 b ≡ 0 → b ≡ flag 7 (eqb (bits 7 7 b) 1) + flag 6 (eqb (bits 6 6 b) 1) + flag 3 (eqb (bits 3 3 b) 1)
pointed_byte_only b h none =
    made_of 0x37 (λ n. flag 7 (eqb (bits 7 7 n) 1) + flag 6 (eqb (bits 6 6 n) 1) + flag 3 (eqb (bits 3 3 n) 1)) refl b h none

unpointed_byte : (b : ℕ) → b < 256 → bit_and 0xb0 b ≡ 0 → eqb (bits 7 7 b) 1 ≡ true → ⊥
unpointed_byte b h none one =
    let low : b ≡ b % 128 = made_of 0xb0 (λ n. n % 128) refl b h none in
    let bit : bits 7 7 b ≡ 1 = eqb-true (bits 7 7 b) 1 one in
    omega arith

-- the additional length is 0Ah where nothing is left of it
length_byte : (b : ℕ) → b < 256 → bit_and 0xff (bit_xor b 10) ≡ 0 → b ≡ 10
length_byte b h none = eqb-true b 10 (sym (ap (λ t. cond t (eqb b 10) true) (eq-eqb (bit_and 0xff (bit_xor b 10)) 0 none)) ∙ passes_at 256 (λ n. cond (eqb (bit_and 0xff (bit_xor n 10)) 0) (eqb n 10) true) refl b h)

-- information that is not valid is zero
information_bytes : (valid : Bool) (a b c d : ℕ) (rest : List ℕ) → a < 256 → b < 256 → c < 256 → d < 256
    → bit_and (cond valid 0 0xff) a ≡ 0 → bit_and (cond valid 0 0xff) b ≡ 0 → bit_and (cond valid 0 0xff) c ≡ 0 → bit_and (cond valid 0 0xff) d ≡ 0
    → to_be_bytes w32 (unwrap_or (cond valid (Some (big_number 4 (a ∷ b ∷ c ∷ d ∷ rest))) None) 0) ≡ a ∷ b ∷ c ∷ d ∷ []
information_bytes true a b c d rest ha hb hc hd na nb nc nd = number_4 a b c d rest ha hb hc hd
information_bytes false a b c d rest ha hb hc hd na nb nc nd =
    let za : a ≡ 0 = all_reserved a ha na in
    let zb : b ≡ 0 = all_reserved b hb nb in
    let zc : c ≡ 0 = all_reserved c hc nc in
    let zd : d ≡ 0 = all_reserved d hd nd in
    cc

is_valid : (valid : Bool) (n : ℕ) → is_some (cond valid (Some n) None) ≡ valid
is_valid true n = refl
is_valid false n = refl

-- the pointer, and what it may have
pointer_bytes : (key : ℕ) (sksv same bpv : Bool) (a b c : ℕ) → a < 256 → b < 256 → c < 256 → sksv ≡ eqb (bits 7 7 a) 1 → bpv ≡ eqb (bits 3 3 a) 1
    → bit_and (cond sksv (cond same (cond bpv 0x30 0x37) 0xb0) 0xff) a ≡ 0 → bit_and (cond sksv 0 0xff) b ≡ 0 → bit_and (cond sksv 0 0xff) c ≡ 0
    → parts_bytes (cond sksv (Some (eqb (bits 6 6 a) 1, cond bpv (Some (bits 2 0 a)) None, big_number 2 (b ∷ c ∷ []))) None) ≡ a ∷ b ∷ c ∷ []
pointer_bytes key false same bpv a b c ha hb hc e f na nb nc =
    let za : a ≡ 0 = all_reserved a ha na in
    let zb : b ≡ 0 = all_reserved b hb nb in
    let zc : c ≡ 0 = all_reserved c hc nc in
    cc
pointer_bytes key true false bpv a b c ha hb hc e f na nb nc = absurd (unpointed_byte a ha na (sym e))
pointer_bytes key true true true a b c ha hb hc e f na nb nc =
    let byte = pointed_byte a ha na in
    let first : flag 7 (eqb (bits 7 7 a) 1) ≡ 128 = ap (λ t. flag 7 t) (sym e) in
    let place : flag 3 (eqb (bits 3 3 a) 1) ≡ 8 = ap (λ t. flag 3 t) (sym f) in
    let same : 128 + flag 6 (eqb (bits 6 6 a) 1) + (8 + bits 2 0 a) ≡ a = omega arith in
    let number = number_2 b c [] hb hc in
    cc (same, number)
pointer_bytes key true true false a b c ha hb hc e f na nb nc =
    let byte = pointed_byte_only a ha na in
    let first : flag 7 (eqb (bits 7 7 a) 1) ≡ 128 = ap (λ t. flag 7 t) (sym e) in
    let place : flag 3 (eqb (bits 3 3 a) 1) ≡ 0 = ap (λ t. flag 3 t) (sym f) in
    let same : 128 + flag 6 (eqb (bits 6 6 a) 1) + 0 ≡ a = omega arith in
    let number = number_2 b c [] hb hc in
    cc (same, number)

-- a pointer only with the key 5
pub pointed : (key : ℕ) (b : ℕ) (bpv : Bool) → b < 256 → bit_and (cond (eqb (bits 7 7 b) 1) (cond (eqb key 5) (cond bpv 0x30 0x37) 0xb0) 0xff) b ≡ 0 → eqb (bits 7 7 b) 1 ≡ true → key ≡ 5
pointed key b bpv h none one = eqb-true key 5 (by_test (eqb key 5) (ap (λ t. bit_and (cond t (cond (eqb key 5) (cond bpv 0x30 0x37) 0xb0) 0xff) b) (sym one) ∙ none))
  where
    by_test : (same : Bool) → bit_and (cond same (cond bpv 0x30 0x37) 0xb0) b ≡ 0 → same ≡ true
    by_test true n = refl
    by_test false n = absurd (unpointed_byte b h n one)

-- the fields of the bytes spell them
pub spelled : (b : List ℕ) → Block b → value_bytes (values_given (header_of b) (additional_of b)) ≡ b
spelled b t = subst Spelt (sym shape) written
  where
    Spelt : List ℕ → Type 0
    Spelt xs = value_bytes (values_given (header_of xs) (additional_of xs)) ≡ xs

    x : ℕ → ℕ
    x k = get_or b k 0

    shape : b ≡ cells 0 18 b
    shape = whole 18 b t.long

    none : (k : ℕ) → SharesNone (mask_of (cells 0 18 b)) (without_length (cells 0 18 b)) k
    none = subst (λ xs. (k : ℕ) → SharesNone (mask_of xs) (without_length xs) k) shape t.none

    written : Spelt (cells 0 18 b)
    written =
        let valid = eqb (bits 7 7 (get_or b 0 0)) 1 in
        let first : flag 7 (is_some (cond valid (Some (big_number 4 (cells 3 15 b))) None)) + 0x70 ≡ get_or b 0 0 =
        ap (λ v. flag 7 v + 0x70) (is_valid valid (big_number 4 (cells 3 15 b)))
        ∙ ap (λ n. flag 7 valid + n) (sym t.code) ∙ sym (first_byte (get_or b 0 0) (t.small 0)) in
        let zero_1 = all_reserved (get_or b 1 0) (t.small 1) (none 1) in
        let key = key_byte (get_or b 2 0) (t.small 2) (none 2) in
        let information = information_bytes valid (get_or b 3 0) (get_or b 4 0) (get_or b 5 0) (get_or b 6 0) (cells 7 11 b) (t.small 3) (t.small 4) (t.small 5) (t.small 6) (none 3) (none 4) (none 5) (none 6) in
        let length_7 = length_byte (get_or b 7 0) (t.small 7) (none 7) in
        let specific = number_4 (get_or b 8 0) (get_or b 9 0) (get_or b 10 0) (get_or b 11 0) (cells 12 6 b) (t.small 8) (t.small 9) (t.small 10) (t.small 11) in
        let asc : big_number 1 (cells 12 6 b) ≡ get_or b 12 0 = omega arith in
        let ascq : big_number 1 (cells 13 5 b) ≡ get_or b 13 0 = omega arith in
        let fru : big_number 1 (cells 14 4 b) ≡ get_or b 14 0 = omega arith in
        let pointer = pointer_bytes (bits 3 0 (get_or b 2 0)) (eqb (bits 7 7 (get_or b 15 0)) 1) (eqb (bits 3 0 (get_or b 2 0)) 5) (eqb (bits 3 3 (get_or b 15 0)) 1) (get_or b 15 0) (get_or b 16 0) (get_or b 17 0) (t.small 15) (t.small 16) (t.small 17) refl refl (none 15) (none 16) (none 17) in
        cc (first, zero_1, key, information, length_7, specific, asc, ascq, fru, pointer)

-- a number among bytes fits its bytes
number_small : (b : List ℕ) (place width : ℕ) → ((k : ℕ) → get_or b k 0 < 256) → number_at place width b < 256 ^ width
number_small b place width small = big_from-lt 0 width (drop place b) (λ k. omega (arith, get_or-drop place b k 0, small (place + k)))

given_fits : (one : Bool) (n bound : ℕ) → n < bound → IfSome (cond one (Some n) None) (λ m. m < bound)
given_fits true n bound h = h
given_fits false n bound h = tt

pointer_given_fits : (one c : Bool) (bit : Option ℕ) (n : ℕ) → n < 2 ^ 16 → let given : Option (Bool × Option ℕ × ℕ) = cond one (Some (c, bit, n)) None in IfSome given (λ t. t.2 < 2 ^ 16)
pointer_given_fits true c bit n h = h
pointer_given_fits false c bit n h = tt

pointer_fits : (o : Option Pointer) (g : Option (Bool × Option ℕ × ℕ)) → option_map pointer_parts o ≡ g → IfSome g (λ t. t.2 < 2 ^ 16) → IfSome o (λ p. p.byte < 2 ^ 16)
pointer_fits None g e h = tt
pointer_fits (Some p) g e h = subst (λ (o : Option (Bool × Option ℕ × ℕ)). IfSome o (λ t. t.2 < 2 ^ 16)) (sym e) h

-- a sense with these values is spelled by the bytes
pub spells : (b : List ℕ) (s : Sense) → Block b → values s ≡ values_given (header_of b) (additional_of b) → SpellsSense b s
spells b s t e =
    let information : s.information ≡ (header_of_information b) = ap (λ (v : Values). v.information) e in
    let specific : s.specific ≡ number_at 8 4 b = ap (λ (v : Values). v.specific) e in
    let asc : s.asc ≡ number_at 12 1 b = ap (λ (v : Values). v.asc) e in
    let ascq : s.ascq ≡ number_at 13 1 b = ap (λ (v : Values). v.ascq) e in
    let fru : s.fru ≡ number_at 14 1 b = ap (λ (v : Values). v.fru) e in
    let pointer : option_map pointer_parts s.pointer ≡ pointer_given (additional_of b) = ap (λ (v : Values). v.pointer) e in
    let two : number_at 16 2 b < 65536 = number_small b 16 2 t.small in
    let four : number_at 3 4 b < 4294967296 = number_small b 3 4 t.small in (
      sym (spelling_by_values s ∙ ap value_bytes e ∙ spelled b t),
      record {
        information = subst (λ o. IfSome o (λ n. n < 2 ^ 32)) (sym information) (given_fits (is_one 0 7 b) (number_at 3 4 b) 4294967296 four);
        specific = omega (arith, specific, number_small b 8 4 t.small);
        asc = omega (arith, asc, number_small b 12 1 t.small);
        ascq = omega (arith, ascq, number_small b 13 1 t.small);
        fru = omega (arith, fru, number_small b 14 1 t.small);
        byte = pointer_fits s.pointer (pointer_given (additional_of b)) pointer (pointer_given_fits (is_one 15 7 b) (is_one 15 6 b) (additional_bit b) (number_at 16 2 b) two);
      },
    )
  where
    header_of_information : List ℕ → Option ℕ
    header_of_information xs = if is_one 0 7 xs then Some (number_at 3 4 xs) else None

    additional_bit : List ℕ → Option ℕ
    additional_bit xs = if is_one 15 3 xs then Some (bits 2 0 (get_or xs 15 0)) else None

-- a pointer only with the key 5, at whole blocks
pub pointed_block : (b : List ℕ) → Block b → is_one 15 7 b ≡ true → bits 3 0 (get_or b 2 0) ≡ 5
pointed_block b t one =
    pointed (bits 3 0 (get_or b 2 0)) (get_or b 15 0) (is_one 15 3 b) (t.small 15) none one
  where
    shape : b ≡ cells 0 18 b
    shape = whole 18 b t.long

    all : (k : ℕ) → SharesNone (mask_of (cells 0 18 b)) (without_length (cells 0 18 b)) k
    all = subst (λ xs. (k : ℕ) → SharesNone (mask_of xs) (without_length xs) k) shape t.none

    none : bit_and (cond (eqb (bits 7 7 (get_or b 15 0)) 1) (cond (eqb (bits 3 0 (get_or b 2 0)) 5) (cond (is_one 15 3 b) 0x30 0x37) 0xb0) 0xff) (get_or b 15 0) ≡ 0
    none = all 15
