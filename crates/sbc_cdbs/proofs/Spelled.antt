-- A block with no reserved bit is the spelling of the command that its fields give.
use Rattle.std.proofs.Common.{◌≡◌, ℕ, suc, ◌+◌, ◌*◌, ◌^◌, ◌<◌, ◌≢◌, List, [], ◌∷◌, ◌++◌, length, get_or, drop, eqb, refl, sym, ap, subst, ◌∙◌, arith, Some, None, inl, inr}
use Rattle.std.proofs.lemmas.Bool.{cases_eq}
use Rattle.std.proofs.lemmas.Bool.Decides.{nat_tests}
use Rattle.std.specs.Int.{w16, w32, to_be_bytes}
use Rattle.std.specs.Int.Bits.{bit_and}
use Rattle.byteorder.specs.Endian.{big_number}
use Rattle.cdb_fields.specs.Fields.{bits, flag, SharesNone}
use Rattle.cdb_fields.proofs.Masks.{made_of, all_reserved}
use Rattle.cdb_fields.proofs.Cells.{number_4, number_2, number_4_fits, number_2_fits, whole, cells}
use Rattle.cdb_fields.proofs.Bits.{bits_below}
use Rattle.sbc_cdbs.specs.Cdbs.{SpellsCdb}
use Rattle.sbc_cdbs.specs.Faults.{reserved_bits}
use Rattle.sbc_cdbs.specs.Reading.{command_of}

-- a block of a known code and its length, with no reserved bit
pub record Block (code : ℕ) (xs mask : List ℕ) : Type 0 where
  pub known : reserved_bits code ≡ Some mask
  pub long : length xs ≡ length mask
  pub first : get_or xs 0 0 ≡ code
  pub small : (k : ℕ) → get_or xs k 0 < 256
  pub none : (k : ℕ) → SharesNone mask xs k

-- byte 1 of each command, by the bits that it may have
two_flags : (b : ℕ) → b < 256 → bit_and 0xe7 b ≡ 0 → b ≡ flag 4 (eqb (bits 4 4 b) 1) + flag 3 (eqb (bits 3 3 b) 1)
two_flags b h none = made_of 0xe7 (λ n. flag 4 (eqb (bits 4 4 n) 1) + flag 3 (eqb (bits 3 3 n) 1)) refl b h none

three_flags : (b : ℕ) → b < 256 → bit_and 0xe3 b ≡ 0 → b ≡ flag 4 (eqb (bits 4 4 b) 1) + flag 3 (eqb (bits 3 3 b) 1) + flag 2 (eqb (bits 2 2 b) 1)
three_flags b h none =
    made_of 0xe3 (λ n. flag 4 (eqb (bits 4 4 n) 1) + flag 3 (eqb (bits 3 3 n) 1) + flag 2 (eqb (bits 2 2 n) 1)) refl b h none

select_flags : (b : ℕ) → b < 256 → bit_and 0xee b ≡ 0 → b ≡ flag 4 (eqb (bits 4 4 b) 1) + flag 0 (eqb (bits 0 0 b) 1)
select_flags b h none = made_of 0xee (λ n. flag 4 (eqb (bits 4 4 n) 1) + flag 0 (eqb (bits 0 0 n) 1)) refl b h none

sense_flag : (b : ℕ) → b < 256 → bit_and 0xf7 b ≡ 0 → b ≡ flag 3 (eqb (bits 3 3 b) 1)
sense_flag b h none = made_of 0xf7 (λ n. flag 3 (eqb (bits 3 3 n) 1)) refl b h none

page_bits : (b : ℕ) → b < 256 → b ≡ bits 7 6 b * 64 + bits 5 0 b
page_bits b h = made_of 0 (λ n. bits 7 6 n * 64 + bits 5 0 n) refl b h refl

-- the block with its code written out
abbrev short : ℕ → List ℕ → List ℕ
short code xs = code ∷ cells 1 9 xs

abbrev long : ℕ → List ℕ → List ℕ
long code xs = code ∷ cells 1 15 xs

-- what holds of the block written out holds of it
of_cells : (n : ℕ) (P : List ℕ → Type 0) (code : ℕ) (xs : List ℕ) → length xs ≡ suc n → get_or xs 0 0 ≡ code → P (code ∷ cells 1 n xs) → P xs
of_cells n P code xs size first h =
    subst P (sym (whole (suc n) xs size ∙ ap (λ c. c ∷ cells 1 n xs) first)) h

-- the mask that is known is the one of the code
masked : (literal mask xs : List ℕ) → Some literal ≡ Some mask → ((k : ℕ) → SharesNone mask xs k) → (k : ℕ) → SharesNone literal xs k
masked literal mask xs e h k =
    let same : literal ≡ mask = cc in subst (λ m. SharesNone m xs k) (sym same) (h k)

long_as : (literal mask xs : List ℕ) → Some literal ≡ Some mask → length xs ≡ length mask → length xs ≡ length literal
long_as literal mask xs e h = let same : literal ≡ mask = cc in h ∙ ap length (sym same)

-- ten bytes with an LBA and a length
transfer_line : (code flags : ℕ) (xs : List ℕ) → ((k : ℕ) → get_or xs k 0 < 256) → get_or xs 1 0 ≡ flags → bit_and 0xff (get_or xs 6 0) ≡ 0 → bit_and 0xff (get_or xs 9 0) ≡ 0
    → short code xs ≡ code ∷ flags ∷ to_be_bytes w32 (big_number 4 (drop 2 (short code xs))) ++ 0 ∷ to_be_bytes w16 (big_number 2 (drop 7 (short code xs))) ++ 0 ∷ []
transfer_line code flags xs small e six nine =
    let lba = number_4 (get_or xs 2 0) (get_or xs 3 0) (get_or xs 4 0) (get_or xs 5 0) (cells 6 4 xs) (small 2) (small 3) (small 4) (small 5) in
    let zero_6 = all_reserved (get_or xs 6 0) (small 6) six in
    let count = number_2 (get_or xs 7 0) (get_or xs 8 0) (cells 9 1 xs) (small 7) (small 8) in
    let zero_9 = all_reserved (get_or xs 9 0) (small 9) nine in
    cc (e, lba, zero_6, count, zero_9)

transfer_fits : (code : ℕ) (xs : List ℕ) → ((k : ℕ) → get_or xs k 0 < 256) → (big_number 4 (drop 2 (short code xs)) < 2 ^ 32) × (big_number 2 (drop 7 (short code xs)) < 2 ^ 16)
transfer_fits code xs small = (
  number_4_fits (get_or xs 2 0) (get_or xs 3 0) (get_or xs 4 0) (get_or xs 5 0) (cells 6 4 xs) (small 2) (small 3) (small 4) (small 5),
  number_2_fits (get_or xs 7 0) (get_or xs 8 0) (cells 9 1 xs) (small 7) (small 8),
)

-- sixteen bytes with three numbers of four bytes
long_line : (code flags : ℕ) (xs : List ℕ) → ((k : ℕ) → get_or xs k 0 < 256) → get_or xs 1 0 ≡ flags → bit_and 0xff (get_or xs 15 0) ≡ 0
    → long code xs ≡ code ∷ flags ∷ to_be_bytes w32 (big_number 4 (drop 2 (long code xs))) ++ to_be_bytes w32 (big_number 4 (drop 6 (long code xs))) ++ to_be_bytes w32 (big_number 4 (drop 10 (long code xs))) ++ get_or xs 14 0 ∷ 0 ∷ []
long_line code flags xs small e last =
    let one = number_4 (get_or xs 2 0) (get_or xs 3 0) (get_or xs 4 0) (get_or xs 5 0) (cells 6 10 xs) (small 2) (small 3) (small 4) (small 5) in
    let two = number_4 (get_or xs 6 0) (get_or xs 7 0) (get_or xs 8 0) (get_or xs 9 0) (cells 10 6 xs) (small 6) (small 7) (small 8) (small 9) in
    let three = number_4 (get_or xs 10 0) (get_or xs 11 0) (get_or xs 12 0) (get_or xs 13 0) (cells 14 2 xs) (small 10) (small 11) (small 12) (small 13) in
    let zero_15 = all_reserved (get_or xs 15 0) (small 15) last in
    cc (e, one, two, three, zero_15)

long_fits : (code : ℕ) (xs : List ℕ) → ((k : ℕ) → get_or xs k 0 < 256) → (big_number 4 (drop 2 (long code xs)) < 2 ^ 32) × (big_number 4 (drop 6 (long code xs)) < 2 ^ 32) × (big_number 4 (drop 10 (long code xs)) < 2 ^ 32)
long_fits code xs small = (
  number_4_fits (get_or xs 2 0) (get_or xs 3 0) (get_or xs 4 0) (get_or xs 5 0) (cells 6 10 xs) (small 2) (small 3) (small 4) (small 5),
  number_4_fits (get_or xs 6 0) (get_or xs 7 0) (get_or xs 8 0) (get_or xs 9 0) (cells 10 6 xs) (small 6) (small 7) (small 8) (small 9),
  number_4_fits (get_or xs 10 0) (get_or xs 11 0) (get_or xs 12 0) (get_or xs 13 0) (cells 14 2 xs) (small 10) (small 11) (small 12) (small 13),
)

abbrev pub transfer_mask : List ℕ
transfer_mask = 0 ∷ 0xe7 ∷ 0 ∷ 0 ∷ 0 ∷ 0 ∷ 0xff ∷ 0 ∷ 0 ∷ 0xff ∷ []

abbrev pub xdwrite_mask : List ℕ
xdwrite_mask = 0 ∷ 0xe3 ∷ 0 ∷ 0 ∷ 0 ∷ 0 ∷ 0xff ∷ 0 ∷ 0 ∷ 0xff ∷ []

abbrev pub xdread_mask : List ℕ
xdread_mask = 0 ∷ 0xff ∷ 0 ∷ 0 ∷ 0 ∷ 0 ∷ 0xff ∷ 0 ∷ 0 ∷ 0xff ∷ []

abbrev pub select_mask : List ℕ
select_mask = 0 ∷ 0xee ∷ 0xff ∷ 0xff ∷ 0xff ∷ 0xff ∷ 0xff ∷ 0 ∷ 0 ∷ 0xff ∷ []

abbrev pub sense_mask : List ℕ
sense_mask = 0 ∷ 0xf7 ∷ 0 ∷ 0xff ∷ 0xff ∷ 0xff ∷ 0xff ∷ 0 ∷ 0 ∷ 0xff ∷ []

abbrev pub extended_mask : List ℕ
extended_mask = 0 ∷ 0xe3 ∷ 0 ∷ 0 ∷ 0 ∷ 0 ∷ 0 ∷ 0 ∷ 0 ∷ 0 ∷ 0 ∷ 0 ∷ 0 ∷ 0 ∷ 0 ∷ 0xff ∷ []

abbrev pub rebuild_mask : List ℕ
rebuild_mask = 0 ∷ 0xe3 ∷ 0 ∷ 0 ∷ 0 ∷ 0 ∷ 0 ∷ 0 ∷ 0 ∷ 0 ∷ 0 ∷ 0 ∷ 0 ∷ 0 ∷ 0xff ∷ 0xff ∷ []

-- a block's fields spell it
abbrev Reads : ℕ → List ℕ → Type 0
Reads code xs = SpellsCdb xs (command_of code xs)

read : (xs mask : List ℕ) → Block 0x28 xs mask → Reads 0x28 xs
read xs mask t =
    let none = masked transfer_mask mask xs t.known t.none in
    of_cells 9 (Reads 0x28) 0x28 xs (long_as transfer_mask mask xs t.known t.long) t.first
    (transfer_line 0x28 _ xs t.small (two_flags (get_or xs 1 0) (t.small 1) (none 1)) (none 6) (none 9), transfer_fits 0x28 xs t.small)

write : (xs mask : List ℕ) → Block 0x2a xs mask → Reads 0x2a xs
write xs mask t =
    let none = masked transfer_mask mask xs t.known t.none in
    of_cells 9 (Reads 0x2a) 0x2a xs (long_as transfer_mask mask xs t.known t.long) t.first
    (transfer_line 0x2a _ xs t.small (two_flags (get_or xs 1 0) (t.small 1) (none 1)) (none 6) (none 9), transfer_fits 0x2a xs t.small)

xpwrite : (xs mask : List ℕ) → Block 0x51 xs mask → Reads 0x51 xs
xpwrite xs mask t =
    let none = masked transfer_mask mask xs t.known t.none in
    of_cells 9 (Reads 0x51) 0x51 xs (long_as transfer_mask mask xs t.known t.long) t.first
    (transfer_line 0x51 _ xs t.small (two_flags (get_or xs 1 0) (t.small 1) (none 1)) (none 6) (none 9), transfer_fits 0x51 xs t.small)

xdwrite : (xs mask : List ℕ) → Block 0x50 xs mask → Reads 0x50 xs
xdwrite xs mask t =
    let none = masked xdwrite_mask mask xs t.known t.none in
    of_cells 9 (Reads 0x50) 0x50 xs (long_as xdwrite_mask mask xs t.known t.long) t.first
    (transfer_line 0x50 _ xs t.small (three_flags (get_or xs 1 0) (t.small 1) (none 1)) (none 6) (none 9), transfer_fits 0x50 xs t.small)

xdread : (xs mask : List ℕ) → Block 0x52 xs mask → Reads 0x52 xs
xdread xs mask t =
    let none = masked xdread_mask mask xs t.known t.none in
    of_cells 9 (Reads 0x52) 0x52 xs (long_as xdread_mask mask xs t.known t.long) t.first
    (transfer_line 0x52 _ xs t.small (all_reserved (get_or xs 1 0) (t.small 1) (none 1)) (none 6) (none 9), transfer_fits 0x52 xs t.small)

xdwriteread : (xs mask : List ℕ) → Block 0x53 xs mask → Reads 0x53 xs
xdwriteread xs mask t =
    let none = masked xdwrite_mask mask xs t.known t.none in
    of_cells 9 (Reads 0x53) 0x53 xs (long_as xdwrite_mask mask xs t.known t.long) t.first
    (transfer_line 0x53 _ xs t.small (three_flags (get_or xs 1 0) (t.small 1) (none 1)) (none 6) (none 9), transfer_fits 0x53 xs t.small)

mode_select : (xs mask : List ℕ) → Block 0x55 xs mask → Reads 0x55 xs
mode_select xs mask t =
    let none = masked select_mask mask xs t.known t.none in
    let flags = select_flags (get_or xs 1 0) (t.small 1) (none 1) in
    let zero_2 = all_reserved (get_or xs 2 0) (t.small 2) (none 2) in
    let zero_3 = all_reserved (get_or xs 3 0) (t.small 3) (none 3) in
    let zero_4 = all_reserved (get_or xs 4 0) (t.small 4) (none 4) in
    let zero_5 = all_reserved (get_or xs 5 0) (t.small 5) (none 5) in
    let zero_6 = all_reserved (get_or xs 6 0) (t.small 6) (none 6) in
    let list = number_2 (get_or xs 7 0) (get_or xs 8 0) (cells 9 1 xs) (t.small 7) (t.small 8) in
    let zero_9 = all_reserved (get_or xs 9 0) (t.small 9) (none 9) in
    of_cells 9 (Reads 0x55) 0x55 xs (long_as select_mask mask xs t.known t.long) t.first
    (cc (flags, zero_2, zero_3, zero_4, zero_5, zero_6, list, zero_9), number_2_fits (get_or xs 7 0) (get_or xs 8 0) (cells 9 1 xs) (t.small 7) (t.small 8))

mode_sense : (xs mask : List ℕ) → Block 0x5a xs mask → Reads 0x5a xs
mode_sense xs mask t =
    let none = masked sense_mask mask xs t.known t.none in
    let flags = sense_flag (get_or xs 1 0) (t.small 1) (none 1) in
    let page = page_bits (get_or xs 2 0) (t.small 2) in
    let zero_3 = all_reserved (get_or xs 3 0) (t.small 3) (none 3) in
    let zero_4 = all_reserved (get_or xs 4 0) (t.small 4) (none 4) in
    let zero_5 = all_reserved (get_or xs 5 0) (t.small 5) (none 5) in
    let zero_6 = all_reserved (get_or xs 6 0) (t.small 6) (none 6) in
    let list = number_2 (get_or xs 7 0) (get_or xs 8 0) (cells 9 1 xs) (t.small 7) (t.small 8) in
    let zero_9 = all_reserved (get_or xs 9 0) (t.small 9) (none 9) in
    let pc : bits 7 6 (get_or xs 2 0) < 4 = bits_below 7 6 (get_or xs 2 0) in
    let code : bits 5 0 (get_or xs 2 0) < 64 = bits_below 5 0 (get_or xs 2 0) in
    of_cells 9 (Reads 0x5a) 0x5a xs (long_as sense_mask mask xs t.known t.long) t.first (
      cc (flags, page, zero_3, zero_4, zero_5, zero_6, list, zero_9),
      (omega arith, omega arith, number_2_fits (get_or xs 7 0) (get_or xs 8 0) (cells 9 1 xs) (t.small 7) (t.small 8)),
    )

xdwrite_extended : (xs mask : List ℕ) → Block 0x80 xs mask → Reads 0x80 xs
xdwrite_extended xs mask t =
    let none = masked extended_mask mask xs t.known t.none in
    let fits = long_fits 0x80 xs t.small in
    let line = long_line 0x80 _ xs t.small (three_flags (get_or xs 1 0) (t.small 1) (none 1)) (none 15) in
    let address : big_number 1 (drop 14 (long 0x80 xs)) ≡ get_or xs 14 0 = omega arith in
    of_cells 15 (Reads 0x80) 0x80 xs (long_as extended_mask mask xs t.known t.long) t.first
    (cc (line, address), (fits.0, fits.1, fits.2, omega (arith, t.small 14)))

rebuild : (xs mask : List ℕ) → Block 0x81 xs mask → Reads 0x81 xs
rebuild xs mask t =
    let none = masked rebuild_mask mask xs t.known t.none in
    let line = long_line 0x81 _ xs t.small (three_flags (get_or xs 1 0) (t.small 1) (none 1)) (none 15) in
    let zero_14 = all_reserved (get_or xs 14 0) (t.small 14) (none 14) in
    of_cells 15 (Reads 0x81) 0x81 xs (long_as rebuild_mask mask xs t.known t.long) t.first
    (cc (line, zero_14), long_fits 0x81 xs t.small)

regenerate : (xs mask : List ℕ) → Block 0x82 xs mask → Reads 0x82 xs
regenerate xs mask t =
    let none = masked rebuild_mask mask xs t.known t.none in
    let line = long_line 0x82 _ xs t.small (three_flags (get_or xs 1 0) (t.small 1) (none 1)) (none 15) in
    let zero_14 = all_reserved (get_or xs 14 0) (t.small 14) (none 14) in
    of_cells 15 (Reads 0x82) 0x82 xs (long_as rebuild_mask mask xs t.known t.long) t.first
    (cc (line, zero_14), long_fits 0x82 xs t.small)

-- no other code is known
unknown : (code : ℕ) → code ≢ 0x28 → code ≢ 0x2a → code ≢ 0x51 → code ≢ 0x50 → code ≢ 0x53 → code ≢ 0x52 → code ≢ 0x55 → code ≢ 0x5a → code ≢ 0x80 → code ≢ 0x81 → code ≢ 0x82 → reserved_bits code ≡ None
unknown code a b c d e f g h i j k = grind (arith, nat_tests)

pub spelled : (code : ℕ) (xs mask : List ℕ) → Block code xs mask → Reads code xs
spelled code xs mask t =
    elim (cases_eq code 0x28) [
      | inl e ↦ at 0x28 e (read xs mask)
      | inr a ↦
          elim (cases_eq code 0x2a) [
            | inl e ↦ at 0x2a e (write xs mask)
            | inr b ↦
                elim (cases_eq code 0x51) [
                  | inl e ↦ at 0x51 e (xpwrite xs mask)
                  | inr c ↦
                      elim (cases_eq code 0x50) [
                        | inl e ↦ at 0x50 e (xdwrite xs mask)
                        | inr d ↦
                            elim (cases_eq code 0x53) [
                              | inl e ↦ at 0x53 e (xdwriteread xs mask)
                              | inr f ↦
                                  elim (cases_eq code 0x52) [
                                    | inl e ↦ at 0x52 e (xdread xs mask)
                                    | inr g ↦
                                        elim (cases_eq code 0x55) [
                                          | inl e ↦ at 0x55 e (mode_select xs mask)
                                          | inr h ↦
                                              elim (cases_eq code 0x5a) [
                                                | inl e ↦ at 0x5a e (mode_sense xs mask)
                                                | inr i ↦
                                                    elim (cases_eq code 0x80) [
                                                      | inl e ↦ at 0x80 e (xdwrite_extended xs mask)
                                                      | inr j ↦
                                                          elim (cases_eq code 0x81) [
                                                            | inl e ↦ at 0x81 e (rebuild xs mask)
                                                            | inr k ↦
                                                                elim (cases_eq code 0x82) [
                                                                  | inl e ↦ at 0x82 e (regenerate xs mask)
                                                                  | inr l ↦
                                                                      absurd (none_some (sym (unknown code a b c d f g h i j k l) ∙ t.known))
                                                                ]
                                                          ]
                                                    ]
                                              ]
                                        ]
                                  ]
                            ]
                      ]
                ]
          ]
    ]
  where
    at : (k : ℕ) → code ≡ k → (Block k xs mask → Reads k xs) → Reads code xs
    at k e f = subst (λ n. Reads n xs) (sym e) (f (subst (λ n. Block n xs mask) e t))

    none_some : None ≡ Some mask → ⊥
    none_some e = cc
