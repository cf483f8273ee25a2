-- The fault of a list of MODE SELECT, as a relation and as a function.
use Rattle.std.proofs.Common.{◌≡◌, ◌==◌, ◌||◌, if◌then◌else◌, ℕ, zero, suc, ◌+◌, ◌<◌, ◌≤◌, ◌⊎◌, inl, inr, List, [], ◌∷◌, length, Option, Some, None, option_map, refl, ap, sym, subst, ◌∙◌, arith}
use Rattle.std.specs.Prelude.{bit_and, nat_lt}
use Rattle.std.proofs.lemmas.Bool.{eq-eqb, ne_eqb}
use Rattle.std.proofs.lemmas.Bool.Decides.{nat_tests}
use Rattle.xor_mode_page.specs.declared.pages.PageFault.{PageFault}
use Rattle.xor_mode_page.specs.declared.pages.PageFault.TheVariants.{Length, Field}
use Rattle.xor_mode_page.specs.Pages.{IsFine, list_bits, list_values, HasLength, IsListFault, first_unlike, list_fault}

unlike-found : (place : ℕ) (bits values bytes : List ℕ) (i : ℕ) → length bytes ≤ length bits → length bytes ≤ length values → i < length bytes
    → ¬ IsFine bits values bytes i → ((j : ℕ) → j < i → IsFine bits values bytes j) → first_unlike place bits values bytes ≡ Some (place + i)
unlike-found place bits values [] i fit also lt bad fine = absurd (omega (arith, lt))
unlike-found place [] values (b ∷ bytes) i fit also lt bad fine = absurd (omega (arith, fit))
unlike-found place (m ∷ bits) [] (b ∷ bytes) i fit also lt bad fine = absurd (omega (arith, also))
unlike-found place (m ∷ bits) (v ∷ values) (b ∷ bytes) zero fit also lt bad fine = rw (ne_eqb (bit_and b m) v bad) (ap Some (omega arith))
unlike-found place (m ∷ bits) (v ∷ values) (b ∷ bytes) (suc i) fit also lt bad fine =
    rw (eq-eqb (bit_and b m) v (fine 0 (omega arith)))
    (unlike-found (suc place) bits values bytes i (omega (arith, fit)) (omega (arith, also)) (omega (arith, lt)) bad (λ j l. fine (suc j) (omega (arith, l))) ∙ ap Some (omega arith))

none-unlike : (place : ℕ) (bits values bytes : List ℕ) → ((j : ℕ) → j < length bytes → IsFine bits values bytes j) → first_unlike place bits values bytes ≡ None
none-unlike place bits values [] fine = refl
none-unlike place [] values (b ∷ bytes) fine = refl
none-unlike place (m ∷ bits) [] (b ∷ bytes) fine = refl
none-unlike place (m ∷ bits) (v ∷ values) (b ∷ bytes) fine =
    rw (eq-eqb (bit_and b m) v (fine 0 (omega arith))) (none-unlike (suc place) bits values bytes (λ j l. fine (suc j) (omega (arith, l))))

other_length : (n want : ℕ) (fields : Option PageFault) → ¬ ((n ≡ 0) ⊎ (n ≡ 8) ⊎ (n ≡ 32)) → ((n < 8) × (want ≡ 8)) ⊎ ((8 ≤ n) × (want ≡ 32))
    → (if n == 0 || n == 8 || n == 32 then fields else Some (Length (if nat_lt n 8 then 8 else 32) n)) ≡ Some (Length want n)
other_length n want fields other wanted = grind (arith, nat_tests)

right_length : (n : ℕ) (fields other : Option PageFault) → (n ≡ 0) ⊎ (n ≡ 8) ⊎ (n ≡ 32)
    → (if n == 0 || n == 8 || n == 32 then fields else other) ≡ fields
right_length n fields other (inl e) = subst (λ (k : ℕ). (if k == 0 || k == 8 || k == 32 then fields else other) ≡ fields) (sym e) refl
right_length n fields other (inr (inl e)) = subst (λ (k : ℕ). (if k == 0 || k == 8 || k == 32 then fields else other) ≡ fields) (sym e) refl
right_length n fields other (inr (inr e)) = subst (λ (k : ℕ). (if k == 0 || k == 8 || k == 32 then fields else other) ≡ fields) (sym e) refl

short : (list : List ℕ) → HasLength list → length list ≤ 32
short list (inl e) = omega (arith, e)
short list (inr (inl e)) = omega (arith, e)
short list (inr (inr e)) = omega (arith, e)

pub fault-is : (list : List ℕ) (f : PageFault) → IsListFault list f → list_fault list ≡ Some f
fault-is list (Length want got) h =
    other_length (length list) want (option_map Field (first_unlike 0 list_bits list_values list)) h.0 h.2 ∙ ap (λ n. Some (Length want n)) (sym h.1)
fault-is list (Field byte) h =
    let fits : length list ≤ 32 = short list h.0 in
    right_length (length list) (option_map Field (first_unlike 0 list_bits list_values list)) _ h.0
    ∙ ap (λ (o : Option ℕ). option_map Field o) (unlike-found 0 list_bits list_values list byte fits fits h.1.within h.1.offends h.1.lowest ∙ ap Some (omega arith))

pub fine-is : (list : List ℕ) → HasLength list → ((k : ℕ) → k < length list → IsFine list_bits list_values list k) → list_fault list ≡ None
fine-is list long fine =
    right_length (length list) (option_map Field (first_unlike 0 list_bits list_values list)) _ long
    ∙ ap (λ (o : Option ℕ). option_map Field o) (none-unlike 0 list_bits list_values list fine)
