-- A page is spelled by its fields, and no byte of a spelling has a wrong bit.
use Rattle.std.proofs.Common.{◌≡◌, ℕ, zero, suc, ◌+◌, ◌*◌, ◌/◌, ◌%◌, ◌<◌, ◌^◌, Bool, true, false, cond, eqb, List, [], ◌∷◌, length, get_or, Result, Ok, Err, refl, sym, ap, ◌∙◌, arith}
use Rattle.std.specs.Prelude.{bit_and, MatchResult}
use Rattle.std.specs.Int.Bits.{and_zero_r}
use Rattle.std.specs.Int.{w16, w32, to_be_bytes}
use Rattle.std.proofs.lemmas.List.{get_or-drop}
use Rattle.std.proofs.lemmas.Nat.{and_comm}
use Rattle.std.proofs.lemmas.Grind.{and_numeral}
use Rattle.cdb_fields.specs.Fields.{bits, number_at}
use Rattle.cdb_fields.proofs.Cells.{cells, whole, number_4, number_2, number_4_fits, number_2_fits}
use Rattle.cdb_fields.proofs.Masks.{made_of}
use Rattle.byteorder.specs.Endian.{big_number}
use Rattle.xor_mode_page.specs.declared.pages.XorPage.{XorPage}
use Rattle.xor_mode_page.specs.declared.pages.PageFault.{PageFault}
use Rattle.xor_mode_page.specs.declared.pages.PageFault.TheVariants.{Length, Field}
use Rattle.xor_mode_page.specs.Pages.{spelling, SpellsPage, IsPageFault, IsFine, fixed_bits, fixed_values}

-- the value of a byte of which all bits are fixed
pub fixed_byte : (b v : ℕ) → b < 256 → bit_and b 255 ≡ v → b ≡ v
fixed_byte b v h e =
    let rest : bit_and b 255 ≡ b % 256 = and_numeral b 254 refl in
    omega arith

-- the value of a byte of which only bit 1 isn't fixed, and is zero elsewhere
flag_byte : (b : ℕ) → b < 256 → bit_and b 253 ≡ 0 → b ≡ b / 2 % 2 * 2
flag_byte b h e = made_of 253 (λ b. b / 2 % 2 * 2) refl b h (and_comm 253 b ∙ e)

-- a bit is what its test says
tested : (b : ℕ) → b < 2 → b * 2 ≡ cond (eqb b 1) 2 0
tested zero h = refl
tested (suc zero) h = refl
tested (suc (suc b)) h = absurd (omega arith)

number_4_at : (i : ℕ) (bytes : List ℕ) (n : ℕ) → ((i : ℕ) → get_or bytes i 0 < 256) → n ≡ number_at i 4 bytes
    → (to_be_bytes w32 n ≡ get_or bytes (i + 0) 0 ∷ get_or bytes (i + 1) 0 ∷ get_or bytes (i + 2) 0 ∷ get_or bytes (i + 3) 0 ∷ []) × (n < 2 ^ 32)
number_4_at i bytes n fits e =
    let a = get_or bytes (i + 0) 0 in
    let b = get_or bytes (i + 1) 0 in
    let c = get_or bytes (i + 2) 0 in
    let d = get_or bytes (i + 3) 0 in
    let same : n ≡ big_number 4 (a ∷ b ∷ c ∷ d ∷ []) = omega (arith, e, get_or-drop i bytes 0 0, get_or-drop i bytes 1 0, get_or-drop i bytes 2 0, get_or-drop i bytes 3 0) in
    let small : big_number 4 (a ∷ b ∷ c ∷ d ∷ []) < 2 ^ 32 = number_4_fits a b c d [] (fits (i + 0)) (fits (i + 1)) (fits (i + 2)) (fits (i + 3)) in
    (ap (to_be_bytes w32) same ∙ number_4 a b c d [] (fits (i + 0)) (fits (i + 1)) (fits (i + 2)) (fits (i + 3)), omega (arith, same, small))

number_2_at : (i : ℕ) (bytes : List ℕ) (n : ℕ) → ((i : ℕ) → get_or bytes i 0 < 256) → n ≡ number_at i 2 bytes
    → (to_be_bytes w16 n ≡ get_or bytes (i + 0) 0 ∷ get_or bytes (i + 1) 0 ∷ []) × (n < 2 ^ 16)
number_2_at i bytes n fits e =
    let a = get_or bytes (i + 0) 0 in
    let b = get_or bytes (i + 1) 0 in
    let same : n ≡ big_number 2 (a ∷ b ∷ []) = omega (arith, e, get_or-drop i bytes 0 0, get_or-drop i bytes 1 0) in
    let small : big_number 2 (a ∷ b ∷ []) < 2 ^ 16 = number_2_fits a b [] (fits (i + 0)) (fits (i + 1)) in
    (ap (to_be_bytes w16) same ∙ number_2 a b [] (fits (i + 0)) (fits (i + 1)), omega (arith, same, small))

-- the elements of a page, if they are those of its fields
parts_spell : (page : List ℕ) (x : Bool) (w g r d : ℕ) → get_or page 0 0 ≡ 16 → get_or page 1 0 ≡ 22 → get_or page 2 0 ≡ cond x 2 0 → get_or page 3 0 ≡ 0
    → to_be_bytes w32 w ≡ cells 4 4 page
    → get_or page 8 0 ≡ 0 → get_or page 9 0 ≡ 0 → get_or page 10 0 ≡ 0 → get_or page 11 0 ≡ 0
    → to_be_bytes w32 g ≡ cells 12 4 page → to_be_bytes w32 r ≡ cells 16 4 page
    → get_or page 20 0 ≡ 0 → get_or page 21 0 ≡ 0 → to_be_bytes w16 d ≡ cells 22 2 page
    → cells 0 24 page ≡ spelling (record { xordis = x; max_write = w; max_regenerate = g; max_rebuild = r; delay = d })
parts_spell page x w g r d b0 b1 b2 b3 write b8 b9 b10 b11 regenerate rebuild b20 b21 slow = cc

-- the fields of a page whose fixed bits have their values are spelled by it
pub fields_spell : (page : List ℕ) (xordis max_write max_regenerate max_rebuild delay : ℕ) → length page ≡ 24 → ((i : ℕ) → get_or page i 0 < 256)
    → ((k : ℕ) → k < 24 → IsFine fixed_bits fixed_values page k)
    → xordis ≡ bits 1 1 (get_or page 2 0) → max_write ≡ number_at 4 4 page → max_regenerate ≡ number_at 12 4 page → max_rebuild ≡ number_at 16 4 page → delay ≡ number_at 22 2 page
    → SpellsPage page (record { xordis = eqb xordis 1; max_write = max_write; max_regenerate = max_regenerate; max_rebuild = max_rebuild; delay = delay })
fields_spell page x w g r d len fits fine xe we ge re de =
    let fixed = λ (i : ℕ) (h : i < 24) (e : get_or fixed_bits i 0 ≡ 255). fixed_byte (get_or page i 0) (get_or fixed_values i 0) (fits i) (ap (λ m. bit_and (get_or page i 0) m) (sym e) ∙ fine i h) in
    let b0 : get_or page 0 0 ≡ 16 = fixed 0 (omega arith) refl in
    let b1 : get_or page 1 0 ≡ 22 = fixed 1 (omega arith) refl in
    let flag : get_or page 2 0 ≡ get_or page 2 0 / 2 % 2 * 2 = flag_byte (get_or page 2 0) (fits 2) (fine 2 (omega arith)) in
    let bit : x < 2 = omega (arith, xe) in
    let b2 : get_or page 2 0 ≡ cond (eqb x 1) 2 0 = omega (arith, flag, xe, tested x bit) in
    let b3 : get_or page 3 0 ≡ 0 = fixed 3 (omega arith) refl in
    let write = number_4_at 4 page w fits we in
    let b8 : get_or page 8 0 ≡ 0 = fixed 8 (omega arith) refl in
    let b9 : get_or page 9 0 ≡ 0 = fixed 9 (omega arith) refl in
    let b10 : get_or page 10 0 ≡ 0 = fixed 10 (omega arith) refl in
    let b11 : get_or page 11 0 ≡ 0 = fixed 11 (omega arith) refl in
    let regenerate = number_4_at 12 page g fits ge in
    let rebuild = number_4_at 16 page r fits re in
    let b20 : get_or page 20 0 ≡ 0 = fixed 20 (omega arith) refl in
    let b21 : get_or page 21 0 ≡ 0 = fixed 21 (omega arith) refl in
    let slow = number_2_at 22 page d fits de in
    record {
      spelled = whole 24 page len ∙ parts_spell page (eqb x 1) w g r d b0 b1 b2 b3 write.0 b8 b9 b10 b11 regenerate.0 rebuild.0 b20 b21 slow.0;
      fits = record { max_write = write.1; max_regenerate = regenerate.1; max_rebuild = rebuild.1; delay = slow.1 };
    }

-- at each place the fixed bits of the bytes have their values
abbrev pub ZipFine : List ℕ → List ℕ → List ℕ → Type 0
ZipFine [] [] [] = Unit {0}
ZipFine [] [] (b ∷ bs) = ⊥
ZipFine [] (v ∷ vs) bs = ⊥
ZipFine (m ∷ ms) [] bs = ⊥
ZipFine (m ∷ ms) (v ∷ vs) [] = ⊥
ZipFine (m ∷ ms) (v ∷ vs) (b ∷ bs) = (bit_and b m ≡ v) × ZipFine ms vs bs

pub zip_fine : (bits values bytes : List ℕ) → ZipFine bits values bytes → (k : ℕ) → IsFine bits values bytes k
zip_fine [] [] [] h k = refl
zip_fine [] [] (b ∷ bs) h k = absurd h
zip_fine [] (v ∷ vs) bs h k = absurd h
zip_fine (m ∷ ms) [] bs h k = absurd h
zip_fine (m ∷ ms) (v ∷ vs) [] h k = absurd h
zip_fine (m ∷ ms) (v ∷ vs) (b ∷ bs) h zero = h.0
zip_fine (m ∷ ms) (v ∷ vs) (b ∷ bs) h (suc k) = zip_fine ms vs bs h.1 k

flag_is_fine : (x : Bool) → bit_and (cond x 2 0) 253 ≡ 0
flag_is_fine true = refl
flag_is_fine false = refl

infixr 4 ◌&◌
pub ◌&◌ : {A B : Type 0} → A → B → A × B
a & b = (a, b)

-- no byte of a spelling has a wrong bit
pub spelling_zips : (p : XorPage) → ZipFine fixed_bits fixed_values (spelling p)
spelling_zips p =
    refl & refl & flag_is_fine p.xordis & refl & and_zero_r _ & and_zero_r _ & and_zero_r _ & and_zero_r _
    & refl & refl & refl & refl & and_zero_r _ & and_zero_r _ & and_zero_r _ & and_zero_r _
    & and_zero_r _ & and_zero_r _ & and_zero_r _ & and_zero_r _ & refl & refl & and_zero_r _ & and_zero_r _ & tt

pub spelling_is_fine : (p : XorPage) (k : ℕ) → IsFine fixed_bits fixed_values (spelling p) k
spelling_is_fine p = zip_fine fixed_bits fixed_values (spelling p) (spelling_zips p)

same_flag : (x y : Bool) → ◌≡◌ {A = ℕ} (cond x 2 0) (cond y 2 0) → x ≡ y
same_flag true true e = refl
same_flag true false e = absurd (omega arith)
same_flag false true e = absurd (omega arith)
same_flag false false e = refl

-- two pages of one spelling are one
pub one_page : (bytes : List ℕ) (p q : XorPage) → SpellsPage bytes p → SpellsPage bytes q → p ≡ q
one_page bytes p q s t =
    let both : spelling p ≡ spelling q = sym s.spelled ∙ t.spelled in
    let at = λ (i : ℕ). ap (λ (t : List ℕ). get_or t i 0) both in
    same p q (same_flag p.xordis q.xordis (at 2))
    (omega (arith, s.fits.max_write, t.fits.max_write, at 4, at 5, at 6, at 7))
    (omega (arith, s.fits.max_regenerate, t.fits.max_regenerate, at 12, at 13, at 14, at 15))
    (omega (arith, s.fits.max_rebuild, t.fits.max_rebuild, at 16, at 17, at 18, at 19))
    (omega (arith, s.fits.delay, t.fits.delay, at 22, at 23))
  where
    same : (p q : XorPage) → p.xordis ≡ q.xordis → p.max_write ≡ q.max_write → p.max_regenerate ≡ q.max_regenerate → p.max_rebuild ≡ q.max_rebuild → p.delay ≡ q.delay → p ≡ q
    same p q a b c d e =
        ap (λ (x : Bool). record { xordis = x; max_write = p.max_write; max_regenerate = p.max_regenerate; max_rebuild = p.max_rebuild; delay = p.delay }) a
        ∙ ap (λ (x : ℕ). record { xordis = q.xordis; max_write = x; max_regenerate = p.max_regenerate; max_rebuild = p.max_rebuild; delay = p.delay }) b
        ∙ ap (λ (x : ℕ). record { xordis = q.xordis; max_write = q.max_write; max_regenerate = x; max_rebuild = p.max_rebuild; delay = p.delay }) c
        ∙ ap (λ (x : ℕ). record { xordis = q.xordis; max_write = q.max_write; max_regenerate = q.max_regenerate; max_rebuild = x; delay = p.delay }) d
        ∙ ap (λ (x : ℕ). record { xordis = q.xordis; max_write = q.max_write; max_regenerate = q.max_regenerate; max_rebuild = q.max_rebuild; delay = x }) e

-- bytes that spell a page are refused with no fault
never_fault : (bytes : List ℕ) (p : XorPage) (e : PageFault) → SpellsPage bytes p → IsPageFault bytes e → ⊥
never_fault bytes p (Length want got) s fault = fault.0 (ap length s.spelled)
never_fault bytes p (Field byte) s fault =
    fault.1.offends (ap (λ (b : List ℕ). bit_and (get_or b byte 0) (get_or fixed_bits byte 0)) s.spelled ∙ spelling_is_fine p byte)

-- what the bytes spell is the one answer
pub one_answer : (bytes : List ℕ) (r : Result XorPage PageFault) (p : XorPage) → MatchResult r (SpellsPage bytes) (IsPageFault bytes) → SpellsPage bytes p → r ≡ Ok p
one_answer bytes (Ok q) p found s = ap (λ (x : XorPage). Ok x) (one_page bytes q p found s)
one_answer bytes (Err e) p found s = absurd (never_fault bytes p e s found)
