-- A sense is its values, and its spelling is made of them.
use Rattle.std.proofs.Common.{◌≡◌, ◌+◌, ◌<◌, ℕ, Bool, List, [], ◌∷◌, ◌++◌, Option, Some, None, is_some, unwrap_or, option_map, refl, ap, subst, ◌∙◌}
use Rattle.std.proofs.Props.{props}
use Rattle.std.specs.Option.{ForSome}
use Rattle.std.specs.Int.{w16, w32, to_be_bytes}
use Rattle.cdb_fields.specs.Fields.{flag}
use Rattle.sense_data.specs.declared.senses.Pointer.{Pointer}
use Rattle.sense_data.specs.declared.senses.Sense.{Sense}
use Rattle.sense_data.specs.Reading.{Values, values, pointer_parts}
use Rattle.sense_data.specs.Senses.{spelling, specific_bytes, bit_pointer}

-- pointers with the same parts are one
same_pointer : (v w : Pointer) → pointer_parts v ≡ pointer_parts w → v ≡ w
same_pointer v w e = subst Joined e joined w.in_byte
  where
    Joined : Bool × Option ℕ × ℕ → Type 0
    Joined t = (h : ForSome t.1 (λ b. b < 8)) → v ≡ record { command = t.0; bit = t.1; byte = t.2; in_byte = h }

    joined : Joined (pointer_parts v)
    joined h =
        let prop : IsProp (ForSome v.bit (λ b. b < 8)) = hlevel props in
        ap (λ (g : ForSome v.bit (λ b. b < 8)). record v { in_byte = g }) (prop v.in_byte h)

same_pointers : (v w : Option Pointer) → option_map pointer_parts v ≡ option_map pointer_parts w → v ≡ w
same_pointers None None e = refl
same_pointers None (Some q) e = cc
same_pointers (Some p) None e = cc
same_pointers (Some p) (Some q) e = let parts : pointer_parts p ≡ pointer_parts q = cc in ap Some (same_pointer p q parts)

-- the fields of a sense
abbrev Fields : Type 0
Fields = ℕ × Option ℕ × ℕ × ℕ × ℕ × ℕ × Option Pointer

abbrev fields_of : Sense → Fields
fields_of s = (s.key, s.information, s.specific, s.asc, s.ascq, s.fru, s.pointer)

same_fields : (v w : Sense) → fields_of v ≡ fields_of w → v ≡ w
same_fields v w e = subst Joined e joined w.in_range w.illegal
  where
    Joined : Fields → Type 0
    Joined t = (r : t.0 < 16) (l : ForSome t.6 (λ p. t.0 ≡ 5)) → v ≡ record { key = t.0; information = t.1; specific = t.2; asc = t.3; ascq = t.4; fru = t.5; pointer = t.6; in_range = r; illegal = l }

    joined : Joined (fields_of v)
    joined r l =
        let range : IsProp (v.key < 16) = hlevel props in
        let only : IsProp (ForSome v.pointer (λ p. v.key ≡ 5)) = hlevel props in
        ap (λ (g : v.key < 16). record v { in_range = g }) (range v.in_range r)
        ∙ ap (λ (g : ForSome v.pointer (λ p. v.key ≡ 5)). record v { in_range = r; illegal = g }) (only v.illegal l)

-- senses with the same values are one
pub same_sense : (v w : Sense) → values v ≡ values w → v ≡ w
same_sense v w e =
    let key : v.key ≡ w.key = ap (λ (t : Values). t.key) e in
    let information : v.information ≡ w.information = ap (λ (t : Values). t.information) e in
    let specific : v.specific ≡ w.specific = ap (λ (t : Values). t.specific) e in
    let asc : v.asc ≡ w.asc = ap (λ (t : Values). t.asc) e in
    let ascq : v.ascq ≡ w.ascq = ap (λ (t : Values). t.ascq) e in
    let fru : v.fru ≡ w.fru = ap (λ (t : Values). t.fru) e in
    let pointer : v.pointer ≡ w.pointer = same_pointers v.pointer w.pointer (ap (λ (t : Values). t.pointer) e) in
    same_fields v w (cc (key, information, specific, asc, ascq, fru, pointer))

-- the sense key specific bytes, by the parts of the pointer
abbrev pub parts_bytes : Option (Bool × Option ℕ × ℕ) → List ℕ
parts_bytes None = 0 ∷ 0 ∷ 0 ∷ []
parts_bytes (Some p) = (128 + flag 6 p.0 + bit_pointer p.1) ∷ to_be_bytes w16 p.2

-- the spelling, by the values
abbrev pub value_bytes : Values → List ℕ
value_bytes v =
    (flag 7 (is_some v.information) + 0x70) ∷ 0 ∷ v.key ∷ to_be_bytes w32 (unwrap_or v.information 0) ++ 10 ∷ to_be_bytes w32 v.specific
    ++ v.asc ∷ v.ascq ∷ v.fru ∷ parts_bytes v.pointer

specific_by_parts : (p : Option Pointer) → specific_bytes p ≡ parts_bytes (option_map pointer_parts p)
specific_by_parts None = refl
specific_by_parts (Some p) = refl

pub spelling_by_values : (s : Sense) → spelling s ≡ value_bytes (values s)
spelling_by_values s =
    ap (λ l. (flag 7 (is_some s.information) + 0x70) ∷ 0 ∷ s.key ∷ to_be_bytes w32 (unwrap_or s.information 0) ++ 10 ∷ to_be_bytes w32 s.specific ++ s.asc ∷ s.ascq ∷ s.fru ∷ l) (specific_by_parts s.pointer)
