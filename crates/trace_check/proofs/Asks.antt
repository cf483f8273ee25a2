-- What words ask for.
use Rattle.std.proofs.Common.{◌≡◌, ℕ, List, [], ◌∷◌, Bool, true, false, Some, None, sym, ap, ◌∙◌}
use Rattle.std.specs.Prelude.{IsTrue, IsFalse, codes}
use Rattle.std.specs.Str.{bytes_eq}
use Rattle.std.proofs.lemmas.Slice.Eq.{bytes_eq-Decides}
use Rattle.std.proofs.lemmas.Option.{none-some, same_Some}
use Rattle.program_status.specs.Words.{single_of}
use Rattle.trace_check.specs.Endings.{AsksCheck}

single-is : (words : List (List ℕ)) (word : List ℕ) → single_of words ≡ Some word → words ≡ word ∷ []
single-is [] word e = absurd (none-some word e)
single-is (w ∷ []) word e = ap (λ (x : List ℕ). x ∷ []) (same_Some w word e)
single-is (w ∷ v ∷ words) word e = absurd (none-some word e)

pub asks_yes : (words : List (List ℕ)) (word : List ℕ) (r : Bool) → single_of words ≡ Some word → r ≡ bytes_eq word (codes "check") → IsTrue r → AsksCheck words
asks_yes words word r e f t = single-is words word e ∙ ap (λ (x : List ℕ). x ∷ []) ((bytes_eq-Decides word (codes "check")).0 (sym f ∙ t))

pub asks_no : (words : List (List ℕ)) (word : List ℕ) (r : Bool) → single_of words ≡ Some word → r ≡ bytes_eq word (codes "check") → IsFalse r → AsksCheck words → ⊥
asks_no words word r e f t asks =
    let same : word ≡ codes "check" = same_Some word (codes "check") (sym e ∙ ap single_of asks) in
    let both : false ≡ true = sym t ∙ f ∙ (bytes_eq-Decides word (codes "check")).1 same in
    cc

pub asks_none : (words : List (List ℕ)) → single_of words ≡ None → AsksCheck words → ⊥
asks_none words e asks = none-some (codes "check") (sym e ∙ ap single_of asks)
