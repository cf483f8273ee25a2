-- Pieces of a text, one put behind the other.
use Rattle.std.proofs.Common.{◌≡◌, ℕ, List, ◌++◌, Result, Ok, Err, ap, ◌∙◌, append_assoc}
use Rattle.std.specs.Prelude.{OnOk}

-- a piece, and one more behind it, are what both are together
pub two-pieces : (a b c x y : List ℕ) → b ≡ a ++ x → c ≡ b ++ y → c ≡ a ++ (x ++ y)
two-pieces a b c x y first second = second ∙ ap (λ t. t ++ y) first ∙ append_assoc a x y

-- the same, where the last may have failed
pub both-pieces : {T E : Type 0} (r : Result T E) (a b c x y z : List ℕ) → b ≡ a ++ x → OnOk r (c ≡ b ++ y) → x ++ y ≡ z → OnOk r (c ≡ a ++ z)
both-pieces (Ok v) a b c x y z first second whole = two-pieces a b c x y first second ∙ ap (λ t. a ++ t) whole
both-pieces (Err e) a b c x y z first second whole = tt
