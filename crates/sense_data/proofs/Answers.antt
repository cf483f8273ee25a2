-- The answers of the decoder exclude each other: bytes have one sense, or one first fault.
use Rattle.std.proofs.Common.{◌≡◌, ℕ, ◌<◌, ◌^◌, true, List, refl, sym, ap, subst, ◌∙◌, Option, Some, None, is_some, option_map, IfSome, Result, Ok, Err, MatchResult}
use Rattle.cdb_fields.proofs.Shared.{first_shared_unique}
use Rattle.sense_data.specs.declared.senses.Pointer.{Pointer}
use Rattle.sense_data.specs.declared.senses.Sense.{Sense}
use Rattle.sense_data.specs.declared.decoding.SenseFault.{SenseFault}
use Rattle.sense_data.specs.declared.decoding.SenseFault.TheVariants.{Length, Code, Bits}
use Rattle.sense_data.specs.Faults.{IsFault, mask_of, without_length}
use Rattle.sense_data.specs.Reading.{values, values_given, header_of, additional_of, pointer_parts}
use Rattle.sense_data.specs.Senses.{spelling, SpellsSense, Fits}
use Rattle.sense_data.proofs.Values.{spelling_by_values, same_sense}
use Rattle.sense_data.proofs.Again.{again, clean, Clean, Sound, PartsFit}

-- the values of a sense whose numbers fit are sound
parts_fit : (o : Option Pointer) → IfSome o (λ p. p.byte < 2 ^ 16) → PartsFit (option_map pointer_parts o)
parts_fit None h = tt
parts_fit (Some p) h = (bit_fits p.bit p.in_byte, h)
  where
    bit_fits : (b : Option ℕ) → ((n : ℕ) → b ≡ Some n → n < 8) → IfSome b (λ n. n < 8)
    bit_fits None k = tt
    bit_fits (Some n) k = k n refl

pointed : (s : Sense) → is_some (option_map pointer_parts s.pointer) ≡ true → s.key ≡ 5
pointed s e = by_pointer s.pointer s.illegal e
  where
    by_pointer : (o : Option Pointer) → ((p : Pointer) → o ≡ Some p → s.key ≡ 5) → is_some (option_map pointer_parts o) ≡ true → s.key ≡ 5
    by_pointer None k h = cc
    by_pointer (Some p) k h = k p refl

sound : (s : Sense) → Fits s → Sound (values s)
sound s h = record {
  key = s.in_range;
  information = h.information;
  specific = h.specific;
  asc = h.asc;
  ascq = h.ascq;
  fru = h.fru;
  pointer = parts_fit s.pointer h.byte;
  illegal = pointed s;
}

pub one_sense : (v w : Sense) → Fits v → Fits w → spelling v ≡ spelling w → v ≡ w
one_sense v w a b e =
    same_sense v w
    (sym (again (values v) (sound v a))
    ∙ ap (λ xs. values_given (header_of xs) (additional_of xs)) (sym (spelling_by_values v) ∙ e ∙ spelling_by_values w)
    ∙ again (values w) (sound w b))

clean_faultless : (b : List ℕ) (f : SenseFault) → Clean b → IsFault b f → ⊥
clean_faultless b (Length got) h e = e.1 (e.0 ∙ h.long)
clean_faultless b (Code got) h e = e.2 (e.1 ∙ h.code)
clean_faultless b (Bits byte) h e = e.2.1 (h.none byte)

pub faultless : (b : List ℕ) (s : Sense) (f : SenseFault) → SpellsSense b s → IsFault b f → ⊥
faultless b s f h e =
    clean_faultless b f (subst Clean (sym (h.0 ∙ spelling_by_values s)) (clean (values s) (sound s h.1))) e

pub one_fault : (b : List ℕ) (f g : SenseFault) → IsFault b f → IsFault b g → f ≡ g
one_fault b (Length m) (Length n) x y = ap Length (x.0 ∙ sym y.0)
one_fault b (Length m) (Code n) x y = absurd (x.1 (x.0 ∙ y.0))
one_fault b (Length m) (Bits k) x y = absurd (x.1 (x.0 ∙ y.0))
one_fault b (Code m) (Length n) x y = absurd (y.1 (y.0 ∙ x.0))
one_fault b (Code m) (Code n) x y = ap Code (x.1 ∙ sym y.1)
one_fault b (Code m) (Bits k) x y = absurd (x.2 (x.1 ∙ y.1))
one_fault b (Bits j) (Length n) x y = absurd (y.1 (y.0 ∙ x.0))
one_fault b (Bits j) (Code n) x y = absurd (y.2 (y.1 ∙ x.1))
one_fault b (Bits j) (Bits k) x y = ap Bits (first_shared_unique (mask_of b) (without_length b) j k x.2 y.2)

pub reads : (b : List ℕ) (r : Result Sense SenseFault) → MatchResult r (SpellsSense b) (IsFault b) → (s : Sense) → SpellsSense b s → r ≡ Ok s
reads b (Ok w) h s e = ap Ok (one_sense w s h.1 e.1 (sym h.0 ∙ e.0))
reads b (Err f) h s e = absurd (faultless b s f e h)

pub refuses : (b : List ℕ) (r : Result Sense SenseFault) → MatchResult r (SpellsSense b) (IsFault b) → (f : SenseFault) → IsFault b f → r ≡ Err f
refuses b (Ok w) h f e = absurd (faultless b w f h e)
refuses b (Err g) h f e = ap Err (one_fault b g f h e)
