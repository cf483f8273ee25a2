-- What is read is spelled so, and bytes spell one list at most.
use Rattle.std.proofs.Common.{◌≡◌, ℕ, zero, suc, ◌+◌, ◌-◌, ◌*◌, ◌/◌, ◌%◌, ◌<◌, ◌≤◌, ◌^◌, Bool, List, [], ◌∷◌, ◌++◌, length, map, get_or, take, drop, refl, sym, ap, ◌∙◌, append_assoc, arith, inl, inr}
use Rattle.std.specs.Prelude.{bit_and}
use Rattle.std.specs.List.{flat_map, All}
use Rattle.std.specs.Simd.{first_chunks}
use Rattle.std.proofs.lemmas.List.{take_at, drop_at, get_or-take, get_or-drop, length-take, length-drop, drop-drop, take-append-drop, get_or_past, length-map}
use Rattle.std.proofs.lemmas.Bool.{cases_lt}
use Rattle.std.proofs.Math.Seq.{take-add}
use Rattle.std.proofs.lemmas.List.Elements.{All-nil, All-cons, All-head, All-tail}
use Rattle.xor_params.specs.declared.sources.Descriptor.{Descriptor}
use Rattle.xor_params.specs.declared.lists.Params.{Params}
use Rattle.xor_params.specs.ParameterLists.{descriptor, room, spelling, data_due, SpellsParams, announced_sources, announced_room, due, HasHead, reserved_bits, wrong_bits, place}
use Rattle.xor_params.specs.Contents.{descriptors_in, source_in, params_in}
use Rattle.xor_params.proofs.TableLemmas.{source_spells, length-chunks}

-- three parts of a list, one behind the other
three_parts : (a b : ℕ) (xs : List ℕ) → xs ≡ (take a xs ++ take b (drop a xs)) ++ drop (a + b) xs
three_parts a b xs =
    sym (take-append-drop a xs)
    ∙ ap (λ (t : List ℕ). take a xs ++ t) (sym (take-append-drop b (drop a xs)))
    ∙ ap (λ (t : List ℕ). take a xs ++ (take b (drop a xs) ++ t)) (drop-drop b a xs)
    ∙ sym (append_assoc (take a xs) (take b (drop a xs)) (drop (a + b) xs))

-- the parts that the head of the bytes tells apart are a list that the bytes spell
parts_spell : (bytes : List ℕ) (intdata : Bool) (wanted : ℕ) (p : Params) → ((i : ℕ) → get_or bytes i 0 < 256) → HasHead bytes → length bytes ≡ due bytes intdata wanted
    → length p.sources ≡ announced_sources bytes → All (λ d. d.lba < 2 ^ 32) p.sources
    → flat_map descriptor p.sources ≡ take (16 * announced_sources bytes) (drop 4 bytes)
    → p.pad ≡ take (announced_room bytes - 16 * announced_sources bytes) (drop (4 + 16 * announced_sources bytes) bytes)
    → p.intermediate ≡ drop (4 + announced_room bytes) bytes
    → SpellsParams bytes intdata wanted p
parts_spell [] intdata wanted p fits head whole count addresses sources pad_is data_is = absurd (omega (arith, head.long))
parts_spell (a ∷ []) intdata wanted p fits head whole count addresses sources pad_is data_is = absurd (omega (arith, head.long))
parts_spell (a ∷ b ∷ []) intdata wanted p fits head whole count addresses sources pad_is data_is = absurd (omega (arith, head.long))
parts_spell (a ∷ b ∷ c ∷ []) intdata wanted p fits head whole count addresses sources pad_is data_is = absurd (omega (arith, head.long))
parts_spell (a ∷ b ∷ c ∷ d ∷ rest) intdata wanted p fits head whole count addresses sources pad_is data_is =
    let bytes = a ∷ b ∷ c ∷ d ∷ rest in
    let m = 256 * c + d in
    let roomy : 16 * a ≤ m = head.roomy in
    let pad_len : length p.pad ≡ m - 16 * a = omega (arith, ap length pad_is, length-take (m - 16 * a) (drop (4 + 16 * a) bytes), length-drop (4 + 16 * a) bytes, whole) in
    let data_len : length p.intermediate ≡ data_due intdata wanted = omega (arith, ap length data_is, length-drop (4 + m) bytes, whole) in
    let room_is : room p ≡ m = omega (arith, pad_len, count, roomy) in
    let high : room p / 256 % 256 ≡ c = omega (arith, room_is, fits 2, fits 3) in
    let low : room p % 256 ≡ d = omega (arith, room_is, fits 2, fits 3) in
    let sum : 16 * a + (m - 16 * a) ≡ m = omega (arith, roomy) in
    let middle : take (m - 16 * a) (drop (16 * a) rest) ≡ p.pad = ap (λ (t : List ℕ). take (m - 16 * a) t) (drop-drop (16 * a) 4 bytes) ∙ sym pad_is in
    let end : drop (16 * a + (m - 16 * a)) rest ≡ p.intermediate = ap (λ n. drop n rest) sum ∙ drop-drop m 4 bytes ∙ sym data_is in
    let tail : rest ≡ (flat_map descriptor p.sources ++ p.pad) ++ p.intermediate =
    three_parts (16 * a) (m - 16 * a) rest
    ∙ ap (λ (t : List ℕ). (t ++ take (m - 16 * a) (drop (16 * a) rest)) ++ drop (16 * a + (m - 16 * a)) rest) (sym sources)
    ∙ ap (λ (t : List ℕ). (flat_map descriptor p.sources ++ t) ++ drop (16 * a + (m - 16 * a)) rest) middle
    ∙ ap (λ (t : List ℕ). (flat_map descriptor p.sources ++ p.pad) ++ t) end in
    record {
      spelled = spelled_by a b c d rest p (sym count) head.clean (sym high) (sym low) tail;
      fits = record { few = omega (arith, count, fits 0); short = omega (arith, room_is, fits 2, fits 3); addresses = addresses };
      amount = data_len;
    }
  where
    spelled_by : (a b c d : ℕ) (rest : List ℕ) (p : Params) → a ≡ length p.sources → b ≡ 0 → c ≡ room p / 256 % 256 → d ≡ room p % 256
        → rest ≡ (flat_map descriptor p.sources ++ p.pad) ++ p.intermediate → (a ∷ b ∷ c ∷ d ∷ rest) ≡ spelling p
    spelled_by a b c d rest p e f g h t = ap (λ x. x ∷ b ∷ c ∷ d ∷ rest) e ∙ ap (λ x. length p.sources ∷ x ∷ c ∷ d ∷ rest) f
        ∙ ap (λ x. length p.sources ∷ 0 ∷ x ∷ d ∷ rest) g ∙ ap (λ x. length p.sources ∷ 0 ∷ room p / 256 % 256 ∷ x ∷ rest) h
        ∙ ap (λ (x : List ℕ). length p.sources ∷ 0 ∷ room p / 256 % 256 ∷ room p % 256 ∷ x) t

take_fits : (n : ℕ) (xs : List ℕ) → ((i : ℕ) → get_or xs i 0 < 256) → (i : ℕ) → get_or (take n xs) i 0 < 256
take_fits n xs fits i = elim (cases_lt i n) [
  | inl lt ↦ rw (get_or-take n xs i 0 lt) (fits i)
  | inr le ↦ rw (get_or_past (take n xs) i 0 (omega (arith, length-take n xs))) (omega arith)
]

-- bytes without a wrong bit spell the sources that are read of them
sources_spell : (n : ℕ) (xs : List ℕ) → 16 * n ≤ length xs → ((i : ℕ) → get_or xs i 0 < 256)
    → ((k i : ℕ) → k < n → i < 16 → bit_and (get_or reserved_bits i 0) (get_or xs (16 * k + i) 0) ≡ 0)
    → (flat_map descriptor (map source_in (first_chunks 16 n xs)) ≡ take (16 * n) xs) × All (λ d. d.lba < 2 ^ 32) (map source_in (first_chunks 16 n xs))
sources_spell zero xs h fits clean = (refl, All-nil (λ d. d.lba < 2 ^ 32))
sources_spell (suc n) xs h fits clean =
    let first = take 16 xs in
    let first_fits = take_fits 16 xs fits in
    let d : Descriptor = source_in first in
    let long : length first ≡ 16 = omega (arith, length-take 16 xs) in
    let zero_at : (i : ℕ) → 16 * 0 + i ≡ i = λ i. omega arith in
    let spelled : descriptor d ≡ first = source_spells first d.target d.lba long first_fits
    (λ i l. ap (λ b. bit_and (get_or reserved_bits i 0) b) (get_or-take 16 xs i 0 l ∙ ap (λ j. get_or xs j 0) (sym (zero_at i))) ∙ clean 0 i (omega arith) l) refl refl in
    let next_at : (k i : ℕ) → 16 + (16 * k + i) ≡ 16 * suc k + i = λ k i. omega arith in
    let rest = map source_in (first_chunks 16 n (drop 16 xs)) in
    let others = sources_spell n (drop 16 xs) (omega (arith, length-drop 16 xs)) (λ i. rw get_or-drop (fits (16 + i)))
    (λ k i h l. ap (λ b. bit_and (get_or reserved_bits i 0) b) (get_or-drop 16 xs (16 * k + i) 0 ∙ ap (λ j. get_or xs j 0) (next_at k i)) ∙ clean (suc k) i (omega arith) l) in
    let small : d.lba < 2 ^ 32 = omega (arith, get_or-drop 12 first 0 0, get_or-drop 12 first 1 0, get_or-drop 12 first 2 0, get_or-drop 12 first 3 0, first_fits 12, first_fits 13, first_fits 14, first_fits 15) in
    let sum : 16 + 16 * n ≡ 16 * suc n = omega arith in
    let whole : flat_map descriptor (d ∷ rest) ≡ take (16 * suc n) xs =
    ap (λ (t : List ℕ). t ++ flat_map descriptor rest) spelled
    ∙ ap (λ (t : List ℕ). first ++ t) others.0
    ∙ sym (take-add 16 (16 * n) xs)
    ∙ ap (λ m. take m xs) sum in
    (whole, All-cons (λ (x : Descriptor). x.lba < 2 ^ 32) d rest small others.1)

-- one source is read from its sixteen bytes, whatever follows
same_source : (d e : Descriptor) (x y : List ℕ) → d.lba < 2 ^ 32 → e.lba < 2 ^ 32 → descriptor d ++ x ≡ descriptor e ++ y → (d ≡ e) × (x ≡ y)
same_source d e x y l k same =
    let at = λ (i : ℕ). ap (λ (t : List ℕ). get_or t i 0) same in
    (same_fields d e (at 7) (omega (arith, at 12, at 13, at 14, at 15)), ap (λ (t : List ℕ). drop 16 t) same)
  where
    same_fields : (d e : Descriptor) → d.target ≡ e.target → d.lba ≡ e.lba → d ≡ e
    same_fields d e target lba = ap (λ (t : ℕ). record { target = t; lba = d.lba }) target ∙ ap (λ (t : ℕ). record { target = e.target; lba = t }) lba

same_sources : (ds es : List Descriptor) (x y : List ℕ) → length ds ≡ length es → All (λ d. d.lba < 2 ^ 32) ds → All (λ d. d.lba < 2 ^ 32) es
    → flat_map descriptor ds ++ x ≡ flat_map descriptor es ++ y → (ds ≡ es) × (x ≡ y)
same_sources [] [] x y len l k same = (refl, same)
same_sources [] (e ∷ es) x y len l k same = absurd (omega arith)
same_sources (d ∷ ds) [] x y len l k same = absurd (omega arith)
same_sources (d ∷ ds) (e ∷ es) x y len l k same =
    let short = λ (d : Descriptor). d.lba < 2 ^ 32 in
    let first = same_source d e (flat_map descriptor ds ++ x) (flat_map descriptor es ++ y) (All-head short d ds l) (All-head short e es k) same in
    let others = same_sources ds es x y (omega arith) (All-tail short d ds l) (All-tail short e es k) first.1 in
    (ap (λ (t : Descriptor). t ∷ ds) first.0 ∙ ap (λ (t : List Descriptor). e ∷ t) others.0, others.1)

-- two lists of one spelling are one
pub one_list : (bytes : List ℕ) (intdata : Bool) (wanted : ℕ) (p q : Params) → SpellsParams bytes intdata wanted p → SpellsParams bytes intdata wanted q → p ≡ q
one_list bytes intdata wanted p q s t =
    let both : spelling p ≡ spelling q = sym s.spelled ∙ t.spelled in
    let at = λ (i : ℕ). ap (λ (t : List ℕ). get_or t i 0) both in
    let count : length p.sources ≡ length q.sources = at 0 in
    let rooms : room p ≡ room q = omega (arith, at 2, at 3, s.fits.short, t.fits.short) in
    let pads : length p.pad ≡ length q.pad = omega (arith, rooms, count) in
    let tails : flat_map descriptor p.sources ++ (p.pad ++ p.intermediate) ≡ flat_map descriptor q.sources ++ (q.pad ++ q.intermediate) =
    sym (append_assoc (flat_map descriptor p.sources) p.pad p.intermediate) ∙ ap (λ (t : List ℕ). drop 4 t) both ∙ append_assoc (flat_map descriptor q.sources) q.pad q.intermediate in
    let parts = same_sources p.sources q.sources (p.pad ++ p.intermediate) (q.pad ++ q.intermediate) count s.fits.addresses t.fits.addresses tails in
    let n = length p.pad in
    let pad_is : p.pad ≡ q.pad = sym (take_at p.pad p.intermediate n refl) ∙ ap (λ (t : List ℕ). take n t) parts.1 ∙ take_at q.pad q.intermediate n (sym pads) in
    let data_is : p.intermediate ≡ q.intermediate = sym (drop_at p.pad p.intermediate n refl) ∙ ap (λ (t : List ℕ). drop n t) parts.1 ∙ drop_at q.pad q.intermediate n (sym pads) in
    let first : p ≡ record { sources = q.sources; pad = p.pad; intermediate = p.intermediate } = ap (λ (t : List Descriptor). record { sources = t; pad = p.pad; intermediate = p.intermediate }) parts.0 in
    let second : p ≡ record { sources = q.sources; pad = q.pad; intermediate = p.intermediate } = first ∙ ap (λ (t : List ℕ). record { sources = q.sources; pad = t; intermediate = p.intermediate }) pad_is in
    second ∙ ap (λ (t : List ℕ). record { sources = q.sources; pad = q.pad; intermediate = t }) data_is

-- bytes without a fault spell the list that is read of them
pub contents_spell : (bytes : List ℕ) (intdata : Bool) (wanted : ℕ) → ((i : ℕ) → get_or bytes i 0 < 256) → HasHead bytes → length bytes ≡ due bytes intdata wanted
    → ((k i : ℕ) → k < announced_sources bytes → i < 16 → wrong_bits bytes k i ≡ 0) → SpellsParams bytes intdata wanted (params_in bytes)
contents_spell bytes intdata wanted fits head whole clean =
    let at : (k i : ℕ) → 4 + (16 * k + i) ≡ place k i = λ k i. omega arith in
    let found = sources_spell (announced_sources bytes) (drop 4 bytes) (omega (arith, length-drop 4 bytes, head.roomy, whole)) (λ i. rw get_or-drop (fits (4 + i)))
    (λ k i h l. ap (λ b. bit_and (get_or reserved_bits i 0) b) (get_or-drop 4 bytes (16 * k + i) 0 ∙ ap (λ j. get_or bytes j 0) (at k i)) ∙ clean k i h l) in
    parts_spell bytes intdata wanted (params_in bytes) fits head whole
    (length-map (descriptors_in bytes) source_in ∙ length-chunks 16 (announced_sources bytes) (drop 4 bytes)) found.1 found.0 refl refl
