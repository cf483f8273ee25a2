-- Lists of MODE SELECT: a header, and perhaps the page.
use Rattle.std.proofs.Common.{◌≡◌, ℕ, zero, suc, ◌+◌, ◌<◌, ◌≤◌, inl, inr, List, [], ◌∷◌, ◌++◌, length, get_or, drop, refl, sym, ap, ◌∙◌, arith}
use Rattle.std.specs.Prelude.{bit_and}
use Rattle.std.proofs.Math.Seq.{drop-cons}
use Rattle.std.proofs.Math.ListN.{get_or-append}
use Rattle.std.proofs.lemmas.List.{get_or-drop, nil_from_length, drop_all}
use Rattle.cdb_fields.proofs.Cells.{cells}
use Rattle.xor_mode_page.specs.declared.pages.XorPage.{XorPage}
use Rattle.xor_mode_page.specs.declared.pages.PageFault.{PageFault}
use Rattle.xor_mode_page.specs.declared.pages.PageFault.TheVariants.{Length, Field}
use Rattle.xor_mode_page.specs.Pages.{spelling, SpellsPage, IsFine, fixed_bits, fixed_values, list_bits, list_values, select_header, Selects, HasLength, IsListFault}
use Rattle.xor_mode_page.proofs.PageLemmas.{◌&◌, fixed_byte, zip_fine, spelling_zips, one_page}

-- the page behind the header is fine where the list is
pub page_is_fine : (list : List ℕ) → length list ≡ 32 → ((k : ℕ) → k < length list → IsFine list_bits list_values list k) → (k : ℕ) → k < 24 → IsFine fixed_bits fixed_values (drop 8 list) k
page_is_fine list len fine k h =
    ap (λ b. bit_and b (get_or fixed_bits k 0)) (get_or-drop 8 list k 0)
    ∙ ap (λ m. bit_and (get_or list (8 + k) 0) m) (get_or-drop 8 list_bits k 0)
    ∙ fine (8 + k) (omega (arith, len))
    ∙ sym (get_or-drop 8 list_values k 0)

-- a list is its first elements and the others
first_cells : (n i : ℕ) (xs : List ℕ) → i + n ≤ length xs → drop i xs ≡ cells i n xs ++ drop (i + n) xs
first_cells zero i xs h = let same : i ≡ i + 0 = omega arith in ap (λ j. drop j xs) same
first_cells (suc n) i xs h =
    let same : suc i + n ≡ i + suc n = omega arith in
    drop-cons xs i 0 (omega arith)
    ∙ ap (λ (t : List ℕ). get_or xs i 0 ∷ t) (first_cells n (suc i) xs (omega arith) ∙ ap (λ j. cells (suc i) n xs ++ drop j xs) same)

-- a list begins with the header where it is fine
pub header_first : (list : List ℕ) → 8 ≤ length list → ((i : ℕ) → get_or list i 0 < 256) → ((k : ℕ) → k < length list → IsFine list_bits list_values list k) → list ≡ select_header ++ drop 8 list
header_first list long fits fine =
    let zero_at = λ (i : ℕ) (h : i < 8) (m : get_or list_bits i 0 ≡ 255) (v : get_or list_values i 0 ≡ 0).
    fixed_byte (get_or list i 0) 0 (fits i) (ap (λ b. bit_and (get_or list i 0) b) (sym m) ∙ fine i (omega arith) ∙ v) in
    first_cells 8 0 list (omega arith)
    ∙ zeros list (zero_at 0 (omega arith) refl refl) (zero_at 1 (omega arith) refl refl) (zero_at 2 (omega arith) refl refl) (zero_at 3 (omega arith) refl refl)
    (zero_at 4 (omega arith) refl refl) (zero_at 5 (omega arith) refl refl) (zero_at 6 (omega arith) refl refl) (zero_at 7 (omega arith) refl refl)
  where
    zeros : (list : List ℕ) → get_or list 0 0 ≡ 0 → get_or list 1 0 ≡ 0 → get_or list 2 0 ≡ 0 → get_or list 3 0 ≡ 0 → get_or list 4 0 ≡ 0 → get_or list 5 0 ≡ 0 → get_or list 6 0 ≡ 0 → get_or list 7 0 ≡ 0
        → cells 0 8 list ++ drop 8 list ≡ select_header ++ drop 8 list
    zeros list a b c d e f g h = cc

-- a list with the page sets it
pub sets_page : (list : List ℕ) (old new : XorPage) → length list ≡ 32 → ((i : ℕ) → get_or list i 0 < 256) → ((k : ℕ) → k < length list → IsFine list_bits list_values list k)
    → SpellsPage (drop 8 list) new → Selects list old new
sets_page list old new len fits fine s =
    inr (inr (header_first list (omega (arith, len)) fits fine ∙ ap (λ (t : List ℕ). select_header ++ t) s.spelled, s.fits))

-- one without leaves it
pub leaves_page : (list : List ℕ) (old new : XorPage) → HasLength list → length list < 32 → ((i : ℕ) → get_or list i 0 < 256) → ((k : ℕ) → k < length list → IsFine list_bits list_values list k)
    → new ≡ old → Selects list old new
leaves_page list old new (inl none) short fits fine same = inl (nil_from_length list none, same)
leaves_page list old new (inr (inl header)) short fits fine same =
    let whole : drop 8 list ≡ [] = drop_all 8 list (omega (arith, header)) in
    inr (inl (header_first list (omega (arith, header)) fits fine ∙ ap (λ (t : List ℕ). select_header ++ t) whole, same))
leaves_page list old new (inr (inr long)) short fits fine same = absurd (omega (arith, long, short))

-- a header and a page are fine
list_is_fine : (p : XorPage) (k : ℕ) → IsFine list_bits list_values (select_header ++ spelling p) k
list_is_fine p = zip_fine list_bits list_values (select_header ++ spelling p) (refl & refl & refl & refl & refl & refl & refl & refl & spelling_zips p)

header_is_fine : (p : XorPage) (k : ℕ) → k < 8 → IsFine list_bits list_values select_header k
header_is_fine p k h = ap (λ b. bit_and b (get_or list_bits k 0)) (sym (get_or-append select_header (spelling p) 0 k h)) ∙ list_is_fine p k

-- a list that makes something of the page is refused with no fault
pub never_list_fault : (list : List ℕ) (old new : XorPage) (e : PageFault) → Selects list old new → IsListFault list e → ⊥
never_list_fault list old new (Length want got) (inl none) fault = fault.0 (inl (ap length none.0))
never_list_fault list old new (Length want got) (inr (inl header)) fault = fault.0 (inr (inl (ap length header.0)))
never_list_fault list old new (Length want got) (inr (inr page)) fault = fault.0 (inr (inr (ap length page.0)))
never_list_fault list old new (Field byte) (inl none) fault = absurd (omega (arith, fault.1.within, ap length none.0))
never_list_fault list old new (Field byte) (inr (inl header)) fault =
    fault.1.offends (ap (λ (b : List ℕ). bit_and (get_or b byte 0) (get_or list_bits byte 0)) header.0 ∙ header_is_fine new byte (omega (arith, fault.1.within, ap length header.0)))
never_list_fault list old new (Field byte) (inr (inr page)) fault =
    fault.1.offends (ap (λ (b : List ℕ). bit_and (get_or b byte 0) (get_or list_bits byte 0)) page.0 ∙ list_is_fine new byte)

-- a list makes one thing of the page
pub selects_one : (list : List ℕ) (old a b : XorPage) → Selects list old a → Selects list old b → a ≡ b
selects_one list old a b (inl x) (inl y) = x.1 ∙ sym y.1
selects_one list old a b (inl x) (inr (inl y)) = x.1 ∙ sym y.1
selects_one list old a b (inl x) (inr (inr y)) = absurd (omega (arith, ap length x.0, ap length y.0))
selects_one list old a b (inr (inl x)) (inl y) = x.1 ∙ sym y.1
selects_one list old a b (inr (inl x)) (inr (inl y)) = x.1 ∙ sym y.1
selects_one list old a b (inr (inl x)) (inr (inr y)) = absurd (omega (arith, ap length x.0, ap length y.0))
selects_one list old a b (inr (inr x)) (inl y) = absurd (omega (arith, ap length x.0, ap length y.0))
selects_one list old a b (inr (inr x)) (inr (inl y)) = absurd (omega (arith, ap length x.0, ap length y.0))
selects_one list old a b (inr (inr x)) (inr (inr y)) =
    one_page (drop 8 list) a b (record { spelled = ap (λ (t : List ℕ). drop 8 t) x.0; fits = x.1 }) (record { spelled = ap (λ (t : List ℕ). drop 8 t) y.0; fits = y.1 })
