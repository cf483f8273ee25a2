-- Sense data in fixed format (SPC), 18 bytes with the highest byte of each number first. Each bit that is
-- not named is zero.
use Rattle.std.specs.Prelude.{◌≡◌, ◌+◌, ◌<◌, ◌^◌, ℕ, List, [], ◌∷◌, ◌++◌, Option, Some, None, is_some, unwrap_or, IfSome}
use Rattle.std.specs.Int.{w16, w32, to_be_bytes}
use Rattle.cdb_fields.specs.Fields.{flag}
use Rattle.sense_data.specs.declared.senses.Pointer.{Pointer}
use Rattle.sense_data.specs.declared.senses.Sense.{Sense}

-- BPV in bit 3 and the bit pointer below it; zero where no bit is named
abbrev pub bit_pointer : Option ℕ → ℕ
bit_pointer None = 0
bit_pointer (Some bit) = 8 + bit

-- the sense key specific bytes: SKSV in bit 7, C/D in bit 6 and the bit pointer, then the field pointer
abbrev pub specific_bytes : Option Pointer → List ℕ
specific_bytes None = 0 ∷ 0 ∷ 0 ∷ []
specific_bytes (Some p) = (128 + flag 6 p.command + bit_pointer p.bit) ∷ to_be_bytes w16 p.byte

-- the bytes that spell a sense: VALID in bit 7 of the first, above the response code 70h
abbrev pub spelling : Sense → List ℕ
spelling s =
    (flag 7 (is_some s.information) + 0x70) ∷ 0 ∷ s.key ∷ to_be_bytes w32 (unwrap_or s.information 0) ++ 10 ∷ to_be_bytes w32 s.specific
    ++ s.asc ∷ s.ascq ∷ s.fru ∷ specific_bytes s.pointer

-- each number fits its field
pub record Fits (s : Sense) : Type 0 where
  pub information : IfSome s.information (λ n. n < 2 ^ 32)
  pub specific : s.specific < 2 ^ 32
  pub asc : s.asc < 256
  pub ascq : s.ascq < 256
  pub fru : s.fru < 256
  pub byte : IfSome s.pointer (λ p. p.byte < 2 ^ 16)

-- the bytes spell the sense
abbrev pub SpellsSense : List ℕ → Sense → Type 0
SpellsSense bytes s = (bytes ≡ spelling s) × Fits s
