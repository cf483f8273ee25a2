-- The fields of sense data in fixed format, the bytes that they make, and the values that they give.
use Rattle.std.specs.Prelude.{ℕ, Bool, ◌+◌, ◌<◌, ◌^◌, List, [], ◌∷◌, ◌++◌, Option, Some, None, option_map, is_some, unwrap_or, true, false, if◌then◌else◌, slice_index}
use Rattle.std.specs.Int.{w16, w32, to_be_bytes}
use Rattle.cdb_fields.specs.Fields.{flag, bits, is_one, number_at}
use Rattle.sense_data.specs.declared.layout.Header.{Header}
use Rattle.sense_data.specs.declared.layout.Additional.{Additional}
use Rattle.sense_data.specs.declared.senses.Pointer.{Pointer}
use Rattle.sense_data.specs.declared.senses.Sense.{Sense}

-- the fields of bytes 0 to 7
abbrev pub header_of : List ℕ → Header
header_of b = record {
  valid = is_one 0 7 b;
  code = bits 6 0 (slice_index b 0);
  key = bits 3 0 (slice_index b 2);
  information = number_at 3 4 b;
  additional_length = number_at 7 1 b;
}

-- the fields of bytes 8 to 17
abbrev pub additional_of : List ℕ → Additional
additional_of b = record {
  specific = number_at 8 4 b;
  asc = number_at 12 1 b;
  ascq = number_at 13 1 b;
  fru = number_at 14 1 b;
  sksv = is_one 15 7 b;
  command = is_one 15 6 b;
  bpv = is_one 15 3 b;
  bit = bits 2 0 (slice_index b 15);
  byte = number_at 16 2 b;
}

-- bytes 0 to 7
abbrev pub header_bytes : Header → List ℕ
header_bytes h = (flag 7 h.valid + h.code) ∷ 0 ∷ h.key ∷ to_be_bytes w32 h.information ++ h.additional_length ∷ []

-- bytes 8 to 17
abbrev pub additional_bytes : Additional → List ℕ
additional_bytes a =
    to_be_bytes w32 a.specific ++ a.asc ∷ a.ascq ∷ a.fru ∷ (flag 7 a.sksv + flag 6 a.command + flag 3 a.bpv + a.bit) ∷ to_be_bytes w16 a.byte

-- the parts of a pointer: C/D, the bit and the byte
abbrev pub pointer_parts : Pointer → Bool × Option ℕ × ℕ
pointer_parts p = (p.command, p.bit, p.byte)

-- the values of a sense
pub record Values : Type 0 where
  pub key : ℕ
  pub information : Option ℕ
  pub specific : ℕ
  pub asc : ℕ
  pub ascq : ℕ
  pub fru : ℕ
  pub pointer : Option (Bool × Option ℕ × ℕ)

abbrev pub values : Sense → Values
values s = record {
  key = s.key;
  information = s.information;
  specific = s.specific;
  asc = s.asc;
  ascq = s.ascq;
  fru = s.fru;
  pointer = option_map pointer_parts s.pointer;
}

-- the pointer that the sense key specific bytes give: one where SKSV is one, and its bit where BPV is
abbrev pub pointer_given : Additional → Option (Bool × Option ℕ × ℕ)
pointer_given a = if a.sksv then Some (a.command, (if a.bpv then Some a.bit else None), a.byte) else None

-- the values that the fields give: information only where VALID is one
abbrev pub values_given : Header → Additional → Values
values_given h a = record {
  key = h.key;
  information = if h.valid then Some h.information else None;
  specific = a.specific;
  asc = a.asc;
  ascq = a.ascq;
  fru = a.fru;
  pointer = pointer_given a;
}

-- the fields of a sense in bytes 0 to 7
abbrev pub header_fields : Sense → Header
header_fields s = record {
  valid = is_some s.information;
  code = 0x70;
  key = s.key;
  information = unwrap_or s.information 0;
  additional_length = 10;
}

-- and in bytes 8 to 17; without a pointer the sense key specific bytes are zero
abbrev pub with_pointer : ℕ → ℕ → ℕ → ℕ → Option Pointer → Additional
with_pointer specific asc ascq fru None = record {
  specific = specific;
  asc = asc;
  ascq = ascq;
  fru = fru;
  sksv = false;
  command = false;
  bpv = false;
  bit = 0;
  byte = 0;
}
with_pointer specific asc ascq fru (Some p) = record {
  specific = specific;
  asc = asc;
  ascq = ascq;
  fru = fru;
  sksv = true;
  command = p.command;
  bpv = is_some p.bit;
  bit = unwrap_or p.bit 0;
  byte = p.byte;
}

abbrev pub additional_fields : Sense → Additional
additional_fields s = with_pointer s.specific s.asc s.ascq s.fru s.pointer

-- the numbers of the fields fit
pub record AdditionalFits (a : Additional) : Type 0 where
  pub specific : a.specific < 2 ^ 32
  pub asc : a.asc < 256
  pub ascq : a.ascq < 256
  pub fru : a.fru < 256
  pub bit : a.bit < 8
  pub byte : a.byte < 2 ^ 16
