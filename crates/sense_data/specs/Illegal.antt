-- The sense of a command that is refused as it stands (SPC, sense key ILLEGAL REQUEST).
use Rattle.std.specs.Prelude.{◌<◌, ℕ, Bool, true, false, Option, None, MatchOption, refl}
use Rattle.std.proofs.Common.{subst, lit<}
use Rattle.sense_data.specs.declared.senses.Pointer.{Pointer}
use Rattle.sense_data.specs.declared.senses.Sense.{Sense}

-- a pointer at a whole byte, of the CDB where C/D is one and of the parameter list where it is zero; BPV is zero
abbrev pub at_byte : Bool → ℕ → Pointer
at_byte command byte = record { command = command; bit = None; byte = byte; in_byte = λ b e. subst (λ (o : Option ℕ). MatchOption o (Unit {0}) (λ x. b < 8)) e tt }

abbrev pub in_cdb : ℕ → Pointer
in_cdb byte = at_byte true byte

abbrev pub in_list : ℕ → Pointer
in_list byte = at_byte false byte

-- ILLEGAL REQUEST with an additional sense code and its qualifier, and perhaps a pointer at the field in error
abbrev pub illegal : ℕ → ℕ → Option Pointer → Sense
illegal asc ascq pointer = record {
  key = 5;
  information = None;
  specific = 0;
  asc = asc;
  ascq = ascq;
  fru = 0;
  pointer = pointer;
  in_range = lit< tt;
  illegal = λ p e. refl;
}
