-- Words that are one alone.
use Rattle.std.proofs.Common.{◌≡◌, ℕ, List, [], ◌∷◌, Bool, true, false, Some, None, sym, ap, ◌∙◌}
use Rattle.std.specs.Prelude.{IsTrue, IsFalse}
use Rattle.std.specs.Str.{bytes_eq}
use Rattle.std.proofs.lemmas.Slice.Eq.{bytes_eq-Decides}
use Rattle.std.proofs.lemmas.Option.{none-some, same_Some}
use Rattle.program_status.specs.Words.{single_of}

single-is : (words : List (List ℕ)) (word : List ℕ) → single_of words ≡ Some word → words ≡ word ∷ []
single-is [] word e = absurd (none-some word e)
single-is (w ∷ []) word e = ap (λ (x : List ℕ). x ∷ []) (same_Some w word e)
single-is (w ∷ v ∷ words) word e = absurd (none-some word e)

pub one_yes : (words : List (List ℕ)) (only word : List ℕ) (r : Bool) → single_of words ≡ Some only → r ≡ bytes_eq only word → IsTrue r → words ≡ word ∷ []
one_yes words only word r e f t = single-is words only e ∙ ap (λ (x : List ℕ). x ∷ []) ((bytes_eq-Decides only word).0 (sym f ∙ t))

pub one_no : (words : List (List ℕ)) (only word : List ℕ) (r : Bool) → single_of words ≡ Some only → r ≡ bytes_eq only word → IsFalse r → words ≡ word ∷ [] → ⊥
one_no words only word r e f t asks =
    let same : only ≡ word = same_Some only word (sym e ∙ ap single_of asks) in
    let both : false ≡ true = sym t ∙ f ∙ (bytes_eq-Decides only word).1 same in
    cc

pub one_none : (words : List (List ℕ)) (word : List ℕ) → single_of words ≡ None → words ≡ word ∷ [] → ⊥
one_none words word e asks = none-some word (sym e ∙ ap single_of asks)
