-- What the spelling of values gives again: the values, and no wrong bit.
use Rattle.std.proofs.Common.{◌≡◌, ℕ, ◌+◌, ◌^◌, ◌<◌, Bool, true, false, cond, List, [], ◌∷◌, ◌++◌, length, get_or, drop, eqb, refl, sym, ap, subst, ◌∙◌, arith, Option, Some, None, is_some, unwrap_or, IfSome}
use Rattle.std.proofs.lemmas.Bool.{eq-eqb, eqb-true, ne_eqb}
use Rattle.std.proofs.lemmas.List.{append-nil}
use Rattle.std.specs.Int.{w16, w32, to_be_bytes, byte_at}
use Rattle.std.specs.Int.Bits.{bit_and}
use Rattle.byteorder.specs.Endian.{big_number}
use Rattle.byteorder.specs.Numbers.{big_number-reads_back}
use Rattle.cdb_fields.specs.Fields.{bits, flag, SharesNone}
use Rattle.cdb_fields.proofs.Masks.{passes_at}
use Rattle.cdb_fields.proofs.Shared.{ZipNone, zip_none}
use Rattle.sense_data.specs.Faults.{mask_of, without_length, reserved_bits}
use Rattle.sense_data.specs.Reading.{Values, values_given, header_of, additional_of}
use Rattle.sense_data.proofs.Values.{value_bytes, parts_bytes}

-- the parts of a pointer: C/D, the bit and the byte
abbrev pub Parts : Type 0
Parts = Bool × Option ℕ × ℕ

-- the parts fit
abbrev pub PartsFit : Option Parts → Type 0
PartsFit None = Unit {0}
PartsFit (Some p) = IfSome p.1 (λ b. b < 8) × (p.2 < 2 ^ 16)

-- BPV is one
abbrev pub has_bit : Option Parts → Bool
has_bit None = false
has_bit (Some p) = is_some p.1

-- byte 15, and what its bits are
abbrev byte_15 : Option Parts → ℕ
byte_15 p = get_or (parts_bytes p) 0 0

pub valid_bit : (valid : Bool) → eqb (bits 7 7 (flag 7 valid + 0x70)) 1 ≡ valid
valid_bit true = refl
valid_bit false = refl

pub code_bits : (valid : Bool) → bits 6 0 (flag 7 valid + 0x70) ≡ 0x70
code_bits true = refl
code_bits false = refl

information_again : (o : Option ℕ) (rest : List ℕ) → IfSome o (λ n. n < 2 ^ 32) → cond (eqb (bits 7 7 (flag 7 (is_some o) + 0x70)) 1) (Some (big_number 4 (to_be_bytes w32 (unwrap_or o 0) ++ rest))) None ≡ o
information_again None rest h = refl
information_again (Some n) rest h = ap Some (big_number-reads_back 4 n rest h)

-- a byte with a bit pointer
record IsPointed (byte : ℕ) (c : Bool) (b : ℕ) : Type 0 where
  sksv : eqb (bits 7 7 byte) 1 ≡ true
  command : eqb (bits 6 6 byte) 1 ≡ c
  bpv : eqb (bits 3 3 byte) 1 ≡ true
  bit : bits 2 0 byte ≡ b

pointed_at : (command : Bool) (b : ℕ) → b < 8 → IsPointed (128 + flag 6 command + (8 + b)) command b
pointed_at true b h = record {
  sksv = eq-eqb (bits 7 7 (192 + (8 + b))) 1 (omega arith);
  command = eq-eqb (bits 6 6 (192 + (8 + b))) 1 (omega arith);
  bpv = eq-eqb (bits 3 3 (192 + (8 + b))) 1 (omega arith);
  bit = omega arith;
}
pointed_at false b h = record {
  sksv = eq-eqb (bits 7 7 (128 + (8 + b))) 1 (omega arith);
  command = ne_eqb (bits 6 6 (128 + (8 + b))) 1 (λ e. omega arith);
  bpv = eq-eqb (bits 3 3 (128 + (8 + b))) 1 (omega arith);
  bit = omega arith;
}

joined : (sksv command bpv c : Bool) (bit number b n : ℕ) → sksv ≡ true → command ≡ c → bpv ≡ true → bit ≡ b → number ≡ n
    → let given : Option Parts = cond sksv (Some (command, cond bpv (Some bit) None, number)) None in given ≡ Some (c, Some b, n)
joined true command true c bit number b n e f g h k = cc
joined true command false c bit number b n e f g h k = cc
joined false command bpv c bit number b n e f g h k = cc

pair : (n : ℕ) → n < 2 ^ 16 → big_number 2 (to_be_bytes w16 n) ≡ n
pair n h = ap (λ l. big_number 2 l) (sym (append-nil (to_be_bytes w16 n))) ∙ big_number-reads_back 2 n [] h

pointer_again : (p : Option Parts) → PartsFit p
    → let given : Option Parts = cond (eqb (bits 7 7 (byte_15 p)) 1) (Some (eqb (bits 6 6 (byte_15 p)) 1, cond (eqb (bits 3 3 (byte_15 p)) 1) (Some (bits 2 0 (byte_15 p))) None, big_number 2 (drop 1 (parts_bytes p)))) None in given ≡ p
pointer_again None h = refl
pointer_again (Some (true, None, n)) h = let number : big_number 2 (to_be_bytes w16 n) ≡ n = pair n h.1 in cc
pointer_again (Some (false, None, n)) h = let number : big_number 2 (to_be_bytes w16 n) ≡ n = pair n h.1 in cc
pointer_again (Some (c, Some b, n)) h =
    let p = pointed_at c b h.0 in
    joined _ _ _ c _ _ b n p.sksv p.command p.bpv p.bit (pair n h.1)

-- what a spelling's values are
pub record Sound (v : Values) : Type 0 where
  pub key : v.key < 16
  pub information : IfSome v.information (λ n. n < 2 ^ 32)
  pub specific : v.specific < 2 ^ 32
  pub asc : v.asc < 256
  pub ascq : v.ascq < 256
  pub fru : v.fru < 256
  pub pointer : PartsFit v.pointer
  pub illegal : is_some v.pointer ≡ true → v.key ≡ 5

one_byte : (n : ℕ) (rest : List ℕ) → n < 256 → big_number 1 (n ∷ rest) ≡ n
one_byte n rest h = omega arith

-- the values are read back
pub again : (v : Values) → Sound v → values_given (header_of (value_bytes v)) (additional_of (value_bytes v)) ≡ v
again v h =
    let key : bits 3 0 v.key ≡ v.key = omega (arith, h.key) in
    let information = information_again v.information (10 ∷ to_be_bytes w32 v.specific ++ v.asc ∷ v.ascq ∷ v.fru ∷ parts_bytes v.pointer) h.information in
    let specific : big_number 4 (to_be_bytes w32 v.specific ++ v.asc ∷ v.ascq ∷ v.fru ∷ parts_bytes v.pointer) ≡ v.specific =
    big_number-reads_back 4 v.specific (v.asc ∷ v.ascq ∷ v.fru ∷ parts_bytes v.pointer) h.specific in
    let asc = one_byte v.asc (v.ascq ∷ v.fru ∷ parts_bytes v.pointer) h.asc in
    let ascq = one_byte v.ascq (v.fru ∷ parts_bytes v.pointer) h.ascq in
    let fru = one_byte v.fru (parts_bytes v.pointer) h.fru in
    let pointer = pointer_again v.pointer h.pointer in
    let g : Values = values_given (header_of (value_bytes v)) (additional_of (value_bytes v)) in
    ap (λ n. record g { key = n }) key
    ∙ ap (λ o. record g { key = v.key; information = o }) information
    ∙ ap (λ n. record g { key = v.key; information = v.information; specific = n }) specific
    ∙ ap (λ n. record g { key = v.key; information = v.information; specific = v.specific; asc = n }) asc
    ∙ ap (λ n. record g { key = v.key; information = v.information; specific = v.specific; asc = v.asc; ascq = n }) ascq
    ∙ ap (λ n. record g { key = v.key; information = v.information; specific = v.specific; asc = v.asc; ascq = v.ascq; fru = n }) fru
    ∙ ap (λ o. record v { pointer = o }) pointer

-- no bit of a spelling is wrong, and its length and its code are right
pub record Clean (b : List ℕ) : Type 0 where
  pub long : length b ≡ 18
  pub code : bits 6 0 (get_or b 0 0) ≡ 0x70
  pub none : (k : ℕ) → SharesNone (mask_of b) (without_length b) k

sksv_bit : (p : Option Parts) → PartsFit p → eqb (bits 7 7 (byte_15 p)) 1 ≡ is_some p
sksv_bit None h = refl
sksv_bit (Some (true, None, n)) h = refl
sksv_bit (Some (false, None, n)) h = refl
sksv_bit (Some (c, Some b, n)) h = (pointed_at c b h.0).sksv

bpv_bit : (p : Option Parts) → PartsFit p → eqb (bits 3 3 (byte_15 p)) 1 ≡ has_bit p
bpv_bit None h = refl
bpv_bit (Some (true, None, n)) h = refl
bpv_bit (Some (false, None, n)) h = refl
bpv_bit (Some (c, Some b, n)) h = (pointed_at c b h.0).bpv

key_clean : (key : ℕ) → key < 16 → bit_and 0xf0 key ≡ 0
key_clean key h = eqb-true (bit_and 0xf0 key) 0 (passes_at 16 (λ n. eqb (bit_and 0xf0 n) 0) refl key h)

-- bits 5 and 4 of byte 15 are zero
bit_clean : (c : Bool) (b : ℕ) → b < 8 → bit_and 0x30 (128 + flag 6 c + (8 + b)) ≡ 0
bit_clean true b h = eqb-true (bit_and 0x30 (192 + (8 + b))) 0 (passes_at 8 (λ n. eqb (bit_and 0x30 (192 + (8 + n))) 0) refl b h)
bit_clean false b h = eqb-true (bit_and 0x30 (128 + (8 + b))) 0 (passes_at 8 (λ n. eqb (bit_and 0x30 (128 + (8 + n))) 0) refl b h)

pointer_clean : (same : Bool) (p : Option Parts) → PartsFit p → (is_some p ≡ true → same ≡ true)
    → ZipNone (cond (is_some p) (cond same (cond (has_bit p) 0x30 0x37) 0xb0) 0xff ∷ cond (is_some p) 0 0xff ∷ cond (is_some p) 0 0xff ∷ []) (parts_bytes p)
pointer_clean same None h only = (refl, (refl, (refl, tt)))
pointer_clean false (Some p) h only = let wrong : false ≡ true = only refl in cc
pointer_clean true (Some (true, None, n)) h only = (refl, (refl, (refl, tt)))
pointer_clean true (Some (false, None, n)) h only = (refl, (refl, (refl, tt)))
pointer_clean true (Some (c, Some b, n)) h only = (bit_clean c b h.0, (refl, (refl, tt)))

abbrev InformationClean : Option ℕ → ℕ → Type 0
InformationClean o k = bit_and (cond (is_some o) 0 0xff) (byte_at k (unwrap_or o 0)) ≡ 0

information_clean : (o : Option ℕ) → InformationClean o 3 × InformationClean o 2 × InformationClean o 1 × InformationClean o 0
information_clean None = (refl, refl, refl, refl)
information_clean (Some n) = (refl, refl, refl, refl)

three_long : (p : Option Parts) → length (parts_bytes p) ≡ 3
three_long None = refl
three_long (Some p) = refl

-- the mask of a spelling, by its values
mask_is : (v : Values) → Sound v → mask_of (value_bytes v) ≡ reserved_bits (is_some v.information) v.key (is_some v.pointer) (has_bit v.pointer)
mask_is v h =
    let key : bits 3 0 v.key ≡ v.key = omega (arith, h.key) in
    ap (λ t. reserved_bits t (bits 3 0 v.key) (eqb (bits 7 7 (byte_15 v.pointer)) 1) (eqb (bits 3 3 (byte_15 v.pointer)) 1)) (valid_bit (is_some v.information))
    ∙ ap (λ n. reserved_bits (is_some v.information) n (eqb (bits 7 7 (byte_15 v.pointer)) 1) (eqb (bits 3 3 (byte_15 v.pointer)) 1)) key
    ∙ ap (λ t. reserved_bits (is_some v.information) v.key t (eqb (bits 3 3 (byte_15 v.pointer)) 1)) (sksv_bit v.pointer h.pointer)
    ∙ ap (λ t. reserved_bits (is_some v.information) v.key (is_some v.pointer) t) (bpv_bit v.pointer h.pointer)

pub clean : (v : Values) → Sound v → Clean (value_bytes v)
clean v h = record {
  long = omega (arith, three_long v.pointer);
  code = code_bits (is_some v.information);
  none = λ k. subst (λ m. SharesNone m (without_length (value_bytes v)) k) (sym (mask_is v h)) (zip_none (reserved_bits (is_some v.information) v.key (is_some v.pointer) (has_bit v.pointer)) (without_length (value_bytes v)) zipped k);
}
  where
    same : is_some v.pointer ≡ true → eqb v.key 5 ≡ true
    same e = eq-eqb v.key 5 (h.illegal e)

    pointer : ZipNone (cond (is_some v.pointer) (cond (eqb v.key 5) (cond (has_bit v.pointer) 0x30 0x37) 0xb0) 0xff ∷ cond (is_some v.pointer) 0 0xff ∷ cond (is_some v.pointer) 0 0xff ∷ []) (parts_bytes v.pointer)
    pointer = pointer_clean (eqb v.key 5) v.pointer h.pointer same

    zipped : ZipNone (reserved_bits (is_some v.information) v.key (is_some v.pointer) (has_bit v.pointer)) (without_length (value_bytes v))
    zipped = (refl, (refl, (key_clean v.key h.key, ((information_clean v.information).0, ((information_clean v.information).1, ((information_clean v.information).2, ((information_clean v.information).3, (refl, (refl, (refl, (refl, (refl, (refl, (refl, (refl, pointer)))))))))))))))
