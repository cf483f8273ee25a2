-- Bytes that spell a list are refused with no fault.
use Rattle.std.proofs.Common.{◌≡◌, ℕ, zero, suc, ◌+◌, ◌*◌, ◌<◌, Bool, List, [], ◌∷◌, ◌++◌, length, get_or, drop, refl, sym, ap, subst, ◌∙◌, append_assoc, arith, inl, inr}
use Rattle.std.specs.Prelude.{bit_and}
use Rattle.std.specs.Int.Bits.{and_zero_l}
use Rattle.std.specs.Int.{w32, to_be_bytes}
use Rattle.std.specs.List.{flat_map}
use Rattle.std.proofs.lemmas.List.{length-append, get_or-drop}
use Rattle.xor_params.specs.declared.sources.Descriptor.{Descriptor}
use Rattle.xor_params.specs.declared.lists.Params.{Params}
use Rattle.xor_params.specs.declared.lists.ParamFault.{ParamFault}
use Rattle.xor_params.specs.declared.lists.ParamFault.TheVariants.{Length, Field, Memory}
use Rattle.xor_params.specs.ParameterLists.{descriptor, room, spelling, Fits, data_due, SpellsParams, announced_room, reserved_bits, wrong_bits, place, IsRefused}

-- sixteen bytes for each source
pub length-descriptors : (ds : List Descriptor) → length (flat_map descriptor ds) ≡ 16 * length ds
length-descriptors [] = refl
length-descriptors (d ∷ ds) = omega (arith, length-descriptors ds)

pub length-spelling : (p : Params) → length (spelling p) ≡ 4 + room p + length p.intermediate
length-spelling p =
    omega (arith, length-descriptors p.sources, length-append (flat_map descriptor p.sources) p.pad, length-append (flat_map descriptor p.sources ++ p.pad) p.intermediate)

no_mask : (i : ℕ) → get_or {A = ℕ} (0 ∷ 0 ∷ 0 ∷ 0 ∷ []) i 0 ≡ 0
no_mask zero = refl
no_mask (suc zero) = refl
no_mask (suc (suc zero)) = refl
no_mask (suc (suc (suc zero))) = refl
no_mask (suc (suc (suc (suc i)))) = refl

-- no byte of a descriptor has a wrong bit
clean_byte : (d : Descriptor) (rest : List ℕ) (i : ℕ) → i < 16 → bit_and (get_or reserved_bits i 0) (get_or (descriptor d ++ rest) i 0) ≡ 0
clean_byte d rest zero h = refl
clean_byte d rest (suc zero) h = refl
clean_byte d rest (suc (suc zero)) h = refl
clean_byte d rest (suc (suc (suc zero))) h = refl
clean_byte d rest (suc (suc (suc (suc zero)))) h = refl
clean_byte d rest (suc (suc (suc (suc (suc zero))))) h = refl
clean_byte d rest (suc (suc (suc (suc (suc (suc zero)))))) h = refl
clean_byte d rest (suc (suc (suc (suc (suc (suc (suc zero))))))) h = and_zero_l d.target
clean_byte d rest (suc (suc (suc (suc (suc (suc (suc (suc zero)))))))) h = refl
clean_byte d rest (suc (suc (suc (suc (suc (suc (suc (suc (suc zero))))))))) h = refl
clean_byte d rest (suc (suc (suc (suc (suc (suc (suc (suc (suc (suc zero)))))))))) h = refl
clean_byte d rest (suc (suc (suc (suc (suc (suc (suc (suc (suc (suc (suc zero))))))))))) h = refl
clean_byte d rest (suc (suc (suc (suc (suc (suc (suc (suc (suc (suc (suc (suc i)))))))))))) h =
    let byte = get_or (to_be_bytes w32 d.lba ++ rest) i 0 in
    ap (λ m. bit_and m byte) (no_mask i) ∙ and_zero_l byte

clean_descriptors : (ds : List Descriptor) (rest : List ℕ) (k i : ℕ) → k < length ds → i < 16 → bit_and (get_or reserved_bits i 0) (get_or (flat_map descriptor ds ++ rest) (16 * k + i) 0) ≡ 0
clean_descriptors [] rest k i h l = absurd (omega arith)
clean_descriptors (d ∷ ds) rest zero i h l =
    let at : 16 * 0 + i ≡ i = omega arith in
    ap (λ j. bit_and (get_or reserved_bits i 0) (get_or (flat_map descriptor (d ∷ ds) ++ rest) j 0)) at ∙ clean_byte d (flat_map descriptor ds ++ rest) i l
clean_descriptors (d ∷ ds) rest (suc k) i h l =
    let at : 16 * suc k + i ≡ 16 + (16 * k + i) = omega arith in
    ap (λ j. bit_and (get_or reserved_bits i 0) (get_or (flat_map descriptor (d ∷ ds) ++ rest) j 0)) at
    ∙ ap (λ b. bit_and (get_or reserved_bits i 0) b) (sym (get_or-drop 16 (flat_map descriptor (d ∷ ds) ++ rest) (16 * k + i) 0))
    ∙ clean_descriptors ds rest k i (omega arith) l

spelled_is_clean : (p : Params) (k i : ℕ) → k < length p.sources → i < 16 → wrong_bits (spelling p) k i ≡ 0
spelled_is_clean p k i h l =
    let at : place k i ≡ 4 + (16 * k + i) = omega arith in
    let body : drop 4 (spelling p) ≡ flat_map descriptor p.sources ++ (p.pad ++ p.intermediate) = append_assoc (flat_map descriptor p.sources) p.pad p.intermediate in
    ap (λ j. bit_and (get_or reserved_bits i 0) (get_or (spelling p) j 0)) at
    ∙ ap (λ b. bit_and (get_or reserved_bits i 0) b) (sym (get_or-drop 4 (spelling p) (16 * k + i) 0))
    ∙ ap (λ (b : List ℕ). bit_and (get_or reserved_bits i 0) (get_or b (16 * k + i) 0)) body
    ∙ clean_descriptors p.sources (p.pad ++ p.intermediate) k i h l

spelled_room : (p : Params) → Fits p → announced_room (spelling p) ≡ room p
spelled_room p fits = omega (arith, fits.short)

never_refused_spelling : (intdata : Bool) (wanted : ℕ) (p : Params) (e : ParamFault) → Fits p → length p.intermediate ≡ data_due intdata wanted → IsRefused (spelling p) intdata wanted e → ⊥
never_refused_spelling intdata wanted p (Length want got) fits amount (same, inl short) = omega (arith, length-spelling p, short.0)
never_refused_spelling intdata wanted p (Length want got) fits amount (same, inr wrong) =
    wrong.0.other (omega (arith, length-spelling p, spelled_room p fits, amount))
never_refused_spelling intdata wanted p (Field byte) fits amount (inl reserved) = reserved.0.reserved refl
never_refused_spelling intdata wanted p (Field byte) fits amount (inr (inl crowded)) = omega (arith, crowded.0.crowded, spelled_room p fits)
never_refused_spelling intdata wanted p (Field byte) fits amount (inr (inr first)) =
    first.offends (spelled_is_clean p first.number first.inner first.within first.inside)
never_refused_spelling intdata wanted p Memory fits amount h = h

-- bytes that spell a list are refused with no fault
pub never_refused : (bytes : List ℕ) (intdata : Bool) (wanted : ℕ) (p : Params) (e : ParamFault) → SpellsParams bytes intdata wanted p → IsRefused bytes intdata wanted e → ⊥
never_refused bytes intdata wanted p e s =
    subst (λ (b : List ℕ). IsRefused b intdata wanted e → ⊥) (sym s.spelled) (never_refused_spelling intdata wanted p e s.fits s.amount)
