-- The tests of a head's fields, one after another.
use Rattle.std.proofs.Common.{◌≡◌, ℕ, ◌≤◌, Bool, true, false, ◌&&◌, cond, leb, Option, Some, None, refl}
use Rattle.std.proofs.lemmas.Bool.{and_parts, and_from, leb-true, le-leb}

-- where no field is wrong, the first isn't, and none behind it is
pub first_right : (b : Bool) (at : ℕ) (others : Option ℕ) → cond b others (Some at) ≡ None → (b ≡ true) × (others ≡ None)
first_right true at others e = (refl, e)
first_right false at others e = absurd cc

-- and the other way round
pub goes_on : (b : Bool) (at : ℕ) (others : Option ℕ) → b ≡ true → others ≡ None → cond b others (Some at) ≡ None
goes_on true at others e o = o
goes_on false at others e o = absurd cc

-- a number between two others
pub between : (low n high : ℕ) → (leb low n && leb n high) ≡ true → (low ≤ n) × (n ≤ high)
between low n high e =
    let parts = and_parts (leb low n) (leb n high) e in
    (leb-true low n parts.0, leb-true n high parts.1)

pub is_between : (low n high : ℕ) → low ≤ n → n ≤ high → (leb low n && leb n high) ≡ true
is_between low n high l h = and_from (leb low n) (leb n high) (le-leb low n l) (le-leb n high h)
