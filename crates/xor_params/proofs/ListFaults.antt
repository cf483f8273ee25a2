-- The first fault of a list, as a relation and as a function.
use Rattle.std.proofs.Common.{◌≡◌, ◌≢◌, ℕ, zero, suc, ◌+◌, ◌*◌, ◌/◌, ◌%◌, ◌<◌, Bool, List, [], ◌∷◌, ◌++◌, length, get_or, drop, Option, Some, None, option_map, refl, sym, ap, ◌∙◌, inl, inr, arith, ◌==◌, not, true, false, if◌then◌else◌}
use Rattle.std.specs.Prelude.{bit_and, Result, Ok, Err, OnOk, IfErr, MatchOption, nat_lt}
use Rattle.std.specs.Result.{result_err}
use Rattle.std.proofs.lemmas.Bool.{eq-eqb, ne_eqb, eqb-true, lt-ltb, le-ltb, ltb-false}
use Rattle.std.proofs.lemmas.List.{get_or_append_left, get_or-append-add, get_or-drop, length-append, length-drop}
use Rattle.xor_params.specs.declared.lists.Params.{Params}
use Rattle.xor_params.specs.declared.lists.ParamFault.{ParamFault}
use Rattle.xor_params.specs.declared.lists.ParamFault.TheVariants.{Length, Field, Memory}
use Rattle.xor_params.specs.ParameterLists.{SpellsParams, HasHead, IsRefused, OffendsFirst, announced_sources, announced_room, due, reserved_bits, wrong_bits, place}
use Rattle.xor_params.specs.Contents.{HasRoom, params_in}
use Rattle.xor_params.specs.ListFaults.{reserved_of, first_wrong, list_fault}
use Rattle.xor_params.proofs.Readings.{contents_spell}
use Rattle.xor_params.proofs.Refusals.{never_refused}

-- ---- the descriptors' bytes, one behind the other

length-reserved : (n : ℕ) → length (reserved_of n) ≡ 16 * n
length-reserved zero = refl
length-reserved (suc n) = omega (arith, length-reserved n, length-append reserved_bits (reserved_of n))

reserved-at : (n k i : ℕ) → k < n → i < 16 → get_or (reserved_of n) (16 * k + i) 0 ≡ get_or reserved_bits i 0
reserved-at zero k i h l = absurd (omega arith)
reserved-at (suc n) zero i h l =
    let at : 16 * 0 + i ≡ i = omega arith in
    ap (λ j. get_or (reserved_bits ++ reserved_of n) j 0) at ∙ get_or_append_left reserved_bits (reserved_of n) 0 i l
reserved-at (suc n) (suc k) i h l =
    let at : 16 * suc k + i ≡ 16 + (16 * k + i) = omega arith in
    ap (λ j. get_or (reserved_bits ++ reserved_of n) j 0) at
    ∙ get_or-append-add reserved_bits (reserved_of n) (16 * k + i) 0
    ∙ reserved-at n k i (omega arith) l

-- the bits of the byte at place j of the descriptors that must be zero and aren't
abbrev bits-at : List ℕ → ℕ → ℕ
bits-at bytes j = bit_and (get_or (reserved_of (announced_sources bytes)) j 0) (get_or (drop 4 bytes) j 0)

bits-are : (bytes : List ℕ) (k i : ℕ) → k < announced_sources bytes → i < 16 → bits-at bytes (16 * k + i) ≡ wrong_bits bytes k i
bits-are bytes k i h l =
    let at : 4 + (16 * k + i) ≡ place k i = omega arith in
    ap (λ m. bit_and m (get_or (drop 4 bytes) (16 * k + i) 0)) (reserved-at (announced_sources bytes) k i h l)
    ∙ ap (λ b. bit_and (get_or reserved_bits i 0) b) (get_or-drop 4 bytes (16 * k + i) 0 ∙ ap (λ j. get_or bytes j 0) at)

wrong-found : (byte : ℕ) (mask bytes : List ℕ) (i : ℕ) → i < length mask → i < length bytes → bit_and (get_or mask i 0) (get_or bytes i 0) ≢ 0
    → ((j : ℕ) → j < i → bit_and (get_or mask j 0) (get_or bytes j 0) ≡ 0) → first_wrong byte mask bytes ≡ Some (byte + i)
wrong-found byte [] bytes i h l bad clean = absurd (omega (arith, h))
wrong-found byte (m ∷ mask) [] i h l bad clean = absurd (omega (arith, l))
wrong-found byte (m ∷ mask) (b ∷ bytes) zero h l bad clean = rw (ne_eqb (bit_and m b) 0 bad) (ap Some (omega arith))
wrong-found byte (m ∷ mask) (b ∷ bytes) (suc i) h l bad clean =
    rw (eq-eqb (bit_and m b) 0 (clean 0 (omega arith)))
    (wrong-found (suc byte) mask bytes i (omega (arith, h)) (omega (arith, l)) bad (λ j k. clean (suc j) (omega (arith, k))) ∙ ap Some (omega arith))

none-wrong : (byte : ℕ) (mask bytes : List ℕ) → ((j : ℕ) → j < length mask → bit_and (get_or mask j 0) (get_or bytes j 0) ≡ 0) → first_wrong byte mask bytes ≡ None
none-wrong byte [] bytes clean = refl
none-wrong byte (m ∷ mask) [] clean = refl
none-wrong byte (m ∷ mask) (b ∷ bytes) clean =
    rw (eq-eqb (bit_and m b) 0 (clean 0 (omega arith))) (none-wrong (suc byte) mask bytes (λ j k. clean (suc j) (omega (arith, k))))

-- ---- all faults

head-passes : (bytes : List ℕ) (intdata : Bool) (wanted : ℕ) → HasHead bytes → length bytes ≡ due bytes intdata wanted
    → list_fault bytes intdata wanted ≡ option_map Field (first_wrong 4 (reserved_of (announced_sources bytes)) (drop 4 bytes))
unfolding list_fault
head-passes bytes intdata wanted head whole =
    rw (le-ltb (length bytes) 4 head.long, eq-eqb (get_or bytes 1 0) 0 head.clean, le-ltb (announced_room bytes) (16 * announced_sources bytes) head.roomy, eq-eqb (length bytes) (due bytes intdata wanted) whole) refl

-- bytes without a fault
pub sound-is : (bytes : List ℕ) (intdata : Bool) (wanted : ℕ) → HasHead bytes → length bytes ≡ due bytes intdata wanted
    → ((k i : ℕ) → k < announced_sources bytes → i < 16 → wrong_bits bytes k i ≡ 0) → list_fault bytes intdata wanted ≡ None
sound-is bytes intdata wanted head whole clean =
    let clean-at : (j : ℕ) → j < length (reserved_of (announced_sources bytes)) → bits-at bytes j ≡ 0 = λ j h.
    let k = j / 16 in
    let i = j % 16 in
    let at : 16 * k + i ≡ j = omega arith in
    let within : k < announced_sources bytes = omega (arith, length-reserved (announced_sources bytes)) in
    ap (λ p. bits-at bytes p) (sym at) ∙ bits-are bytes k i within (omega arith) ∙ clean k i within (omega arith) in
    head-passes bytes intdata wanted head whole
    ∙ ap (λ (o : Option ℕ). option_map Field o) (none-wrong 4 (reserved_of (announced_sources bytes)) (drop 4 bytes) clean-at)

offends-is : (bytes : List ℕ) (intdata : Bool) (wanted byte : ℕ) → OffendsFirst bytes intdata wanted byte → list_fault bytes intdata wanted ≡ Some (Field byte)
offends-is bytes intdata wanted byte o =
    let n = announced_sources bytes in
    let j = 16 * o.number + o.inner in
    let clean-at : (p : ℕ) → p < j → bits-at bytes p ≡ 0 = λ p h.
    let k = p / 16 in
    let i = p % 16 in
    let at : 16 * k + i ≡ p = omega arith in
    let within : k < n = omega (arith, o.within, o.inside) in
    ap (λ q. bits-at bytes q) (sym at) ∙ bits-are bytes k i within (omega arith) ∙ o.lowest k i (omega arith) (omega (arith, o.at)) in
    head-passes bytes intdata wanted o.head o.whole
    ∙ ap (λ (f : Option ℕ). option_map Field f) (wrong-found 4 (reserved_of n) (drop 4 bytes) j
    (omega (arith, length-reserved n, o.within, o.inside)) (omega (arith, length-drop 4 bytes, o.head.roomy, o.whole, o.within, o.inside))
    (λ e. o.offends (sym (bits-are bytes o.number o.inner o.within o.inside) ∙ e)) clean-at)
    ∙ ap (λ b. Some (Field b)) (omega (arith, o.at))

-- the fault that bytes are refused with
pub refused-is : (bytes : List ℕ) (intdata : Bool) (wanted : ℕ) (e : ParamFault) → IsRefused bytes intdata wanted e → list_fault bytes intdata wanted ≡ Some e
unfolding list_fault
refused-is bytes intdata wanted (Length want got) (same, inl short) =
    rw (lt-ltb (length bytes) 4 short.0, same, short.1) refl
refused-is bytes intdata wanted (Length want got) (same, inr wrong) =
    let h = wrong.0.head in
    rw (le-ltb (length bytes) 4 h.long, eq-eqb (get_or bytes 1 0) 0 h.clean, le-ltb (announced_room bytes) (16 * announced_sources bytes) h.roomy, ne_eqb (length bytes) (due bytes intdata wanted) wrong.0.other, same, wrong.1) refl
refused-is bytes intdata wanted (Field byte) (inl reserved) =
    rw (le-ltb (length bytes) 4 reserved.0.long, ne_eqb (get_or bytes 1 0) 0 reserved.0.reserved, reserved.1) refl
refused-is bytes intdata wanted (Field byte) (inr (inl crowded)) =
    rw (le-ltb (length bytes) 4 crowded.0.long, eq-eqb (get_or bytes 1 0) 0 crowded.0.clean, lt-ltb (announced_room bytes) (16 * announced_sources bytes) crowded.0.crowded, crowded.1) refl
refused-is bytes intdata wanted (Field byte) (inr (inr first)) = offends-is bytes intdata wanted byte first
refused-is bytes intdata wanted Memory h = absurd h

-- ---- a check of the bytes

-- no bit of the announced descriptors is wrong
abbrev IsClean : List ℕ → Type 0
IsClean bytes = (k i : ℕ) → k < announced_sources bytes → i < 16 → wrong_bits bytes k i ≡ 0

pub checked-is : {A : Type 0} (bytes : List ℕ) (intdata : Bool) (wanted : ℕ) (r : Result A ParamFault) → OnOk r (HasHead bytes) → OnOk r (length bytes ≡ due bytes intdata wanted)
    → OnOk r (IsClean bytes) → IfErr r (IsRefused bytes intdata wanted) → result_err r ≡ list_fault bytes intdata wanted
checked-is bytes intdata wanted (Ok a) head whole clean refused = sym (sound-is bytes intdata wanted head whole clean)
checked-is bytes intdata wanted (Err e) head whole clean refused = sym (refused-is bytes intdata wanted e refused)

pub checked-means : {A : Type 0} (bytes : List ℕ) (intdata : Bool) (wanted : ℕ) (r : Result A ParamFault) → ((i : ℕ) → get_or bytes i 0 < 256) → OnOk r (HasHead bytes)
    → OnOk r (length bytes ≡ due bytes intdata wanted) → OnOk r (IsClean bytes) → IfErr r (IsRefused bytes intdata wanted)
    → MatchOption (result_err r) ((p : Params) × SpellsParams bytes intdata wanted p) (IsRefused bytes intdata wanted)
checked-means bytes intdata wanted (Ok a) fits head whole clean refused = (params_in bytes, contents_spell bytes intdata wanted fits head whole clean)
checked-means bytes intdata wanted (Err e) fits head whole clean refused = refused

pub checked-none : {A : Type 0} (bytes : List ℕ) (intdata : Bool) (wanted : ℕ) (r : Result A ParamFault) (p : Params) → SpellsParams bytes intdata wanted p
    → IfErr r (IsRefused bytes intdata wanted) → result_err r ≡ None
checked-none bytes intdata wanted (Ok a) p spelt refused = refl
checked-none bytes intdata wanted (Err e) p spelt refused = absurd (never_refused bytes intdata wanted p e spelt refused)

-- ---- what a fault that isn't there says

passes-all : (a b c d : Bool) (v w x y : ParamFault) (o : Option ParamFault) → (if a then Some v else if b then Some w else if c then Some x else if d then Some y else o) ≡ None
    → (a ≡ false) × (b ≡ false) × (c ≡ false) × (d ≡ false)
passes-all true b c d v w x y o h = absurd cc
passes-all false true c d v w x y o h = absurd cc
passes-all false false true d v w x y o h = absurd cc
passes-all false false false true v w x y o h = absurd cc
passes-all false false false false v w x y o h = (refl, refl, refl, refl)

not-false : (b : Bool) → not b ≡ false → b ≡ true
not-false true h = refl
not-false false h = absurd cc

-- bytes without a fault are as many as are due
pub sound-whole : (bytes : List ℕ) (intdata : Bool) (wanted : ℕ) → list_fault bytes intdata wanted ≡ None → length bytes ≡ due bytes intdata wanted
unfolding list_fault
sound-whole bytes intdata wanted h =
    let t = passes-all (nat_lt (length bytes) 4) (not (get_or bytes 1 0 == 0)) (nat_lt (announced_room bytes) (16 * announced_sources bytes)) (not (length bytes == due bytes intdata wanted))
    (Length 4 (length bytes)) (Field 1) (Field 2) (Length (due bytes intdata wanted) (length bytes)) (option_map Field (first_wrong 4 (reserved_of (announced_sources bytes)) (drop 4 bytes))) h in
    eqb-true (length bytes) (due bytes intdata wanted) (not-false _ t.3)

-- descriptors and pad of bytes without a fault are all there
pub sound-room : (bytes : List ℕ) (intdata : Bool) (wanted : ℕ) → list_fault bytes intdata wanted ≡ None → HasRoom bytes
unfolding list_fault
sound-room bytes intdata wanted h =
    let t = passes-all (nat_lt (length bytes) 4) (not (get_or bytes 1 0 == 0)) (nat_lt (announced_room bytes) (16 * announced_sources bytes)) (not (length bytes == due bytes intdata wanted))
    (Length 4 (length bytes)) (Field 1) (Field 2) (Length (due bytes intdata wanted) (length bytes)) (option_map Field (first_wrong 4 (reserved_of (announced_sources bytes)) (drop 4 bytes))) h in
    let whole : length bytes ≡ due bytes intdata wanted = eqb-true (length bytes) (due bytes intdata wanted) (not-false _ t.3) in
    record {
      head = record {
        long = ltb-false (length bytes) 4 t.0;
        clean = eqb-true (get_or bytes 1 0) 0 (not-false _ t.1);
        roomy = ltb-false (announced_room bytes) (16 * announced_sources bytes) t.2;
      };
      whole = omega (arith, whole);
    }

all-told : (a b c d : Bool) (k l m : ℕ) (o : Option ℕ) → (if a then Some (Length 4 k) else if b then Some (Field 1) else if c then Some (Field 2) else if d then Some (Length l m) else option_map Field o) ≡ Some Memory → ⊥
all-told true b c d k l m o h = cc
all-told false true c d k l m o h = cc
all-told false false true d k l m o h = cc
all-told false false false true k l m o h = cc
all-told false false false false k l m None h = cc
all-told false false false false k l m (Some byte) h = cc

-- want of memory is no fault of a list
pub never-memory : (bytes : List ℕ) (intdata : Bool) (wanted : ℕ) → list_fault bytes intdata wanted ≡ Some Memory → ⊥
unfolding list_fault
never-memory bytes intdata wanted h =
    all-told (nat_lt (length bytes) 4) (not (get_or bytes 1 0 == 0)) (nat_lt (announced_room bytes) (16 * announced_sources bytes)) (not (length bytes == due bytes intdata wanted))
    (length bytes) (due bytes intdata wanted) (length bytes) (first_wrong 4 (reserved_of (announced_sources bytes)) (drop 4 bytes)) h
