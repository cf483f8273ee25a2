-- Reading values behind commas, one after the other, as a loop does.
use Rattle.std.proofs.Common.{◌≡◌, ℕ, zero, suc, ◌+◌, ◌≤◌, ◌<◌, ◌==◌, cond, Bool, true, false, List, [], ◌∷◌, ◌++◌, length, Option, Some, None, refl, sym, ap, ◌∙◌, append_assoc, length-append, arith}
use Rattle.std.specs.List.{position_or_len}
use Rattle.std.proofs.lemmas.Bool.Decides.{nat_tests}
use Rattle.std.proofs.lemmas.List.{append-nil, take-append-drop}
use Rattle.std.proofs.lemmas.Option.{some_pair_parts}
use Rattle.text_fields.specs.Reading.{◌>>=◌}
use Rattle.journal_text.specs.Lists.{with_front, item_at, first_of, next_of, all_of}
use Rattle.text_fields.proofs.Cuts.{bind-some}

regroup : {A : Type 0} (front : List A) (x : A) (read : Option (List A)) → with_front front (read >>= λ more. Some (x ∷ more)) ≡ with_front (front ++ x ∷ []) read
regroup front x (Some more) = ap (λ xs. Some xs) (simp append_assoc)
regroup front x None = refl

-- what a test for emptiness says
pub is-empty : (n : ℕ) (b : Bool) → b ≡ (n == 0) → b ≡ true → n ≡ 0
is-empty n b e h = grind (arith, nat_tests)

pub is-filled : (n : ℕ) (b : Bool) → b ≡ (n == 0) → b ≡ false → 0 < n
is-filled n b e h = grind (arith, nat_tests)

-- ---- values one after the other

-- what is read of some bytes leaves fewer
abbrev pub Shortens : {A : Type 0} → (List ℕ → Option (A × List ℕ)) → Type 0
Shortens {A} next = (bytes : List ℕ) (x : A) (after : List ℕ) → next bytes ≡ Some (x, after) → length after < length bytes

same-values : {A : Type 0} (next : List ℕ → Option (A × List ℕ)) (n m most : ℕ) (read : Option (A × List ℕ)) → ((x : A) (after : List ℕ) → read ≡ Some (x, after) → length after ≤ most)
    → ((after : List ℕ) → length after ≤ most → all_of next n after ≡ all_of next m after)
    → (read >>= λ first. all_of next n first.1 >>= λ others. Some (first.0 ∷ others)) ≡ (read >>= λ first. all_of next m first.1 >>= λ others. Some (first.0 ∷ others))
same-values next n m most None h same = refl
same-values {A} next n m most (Some first) h same = ap (λ (xs : Option (List A)). xs >>= λ others. Some (first.0 ∷ others)) (same first.1 (h first.0 first.1 refl))

-- as many steps as there are bytes are enough
pub values-enough : {A : Type 0} (next : List ℕ → Option (A × List ℕ)) → Shortens next → (n m : ℕ) (bytes : List ℕ) → length bytes ≤ n → length bytes ≤ m → all_of next n bytes ≡ all_of next m bytes
unfolding all_of
values-enough next short n m [] le le2 = refl
values-enough next short zero m (b ∷ bytes) le le2 = let no : ⊥ = omega arith in absurd no
values-enough next short (suc n) zero (b ∷ bytes) le le2 = let no : ⊥ = omega arith in absurd no
values-enough next short (suc n) (suc m) (b ∷ bytes) le le2 =
    same-values next n m (length bytes) (next (b ∷ bytes)) (λ x after e. let lt = short (b ∷ bytes) x after e in omega arith) (λ after le3. values-enough next short n m after (omega arith) (omega arith))

pub value-read : {A : Type 0} (next : List ℕ → Option (A × List ℕ)) → Shortens next → (front : List A) (bytes : List ℕ) (x : A) (after : List ℕ) (total : Option (List A)) → 0 < length bytes → next bytes ≡ Some (x, after)
    → with_front front (all_of next (length bytes) bytes) ≡ total → with_front (front ++ x ∷ []) (all_of next (length after) after) ≡ total
unfolding all_of
value-read next short front [] x after total lt h so_far = let no : ⊥ = omega arith in absurd no
value-read next short front (b ∷ bytes) x after total lt h so_far =
    let shorter = short (b ∷ bytes) x after h in
    let enough : all_of next (length after) after ≡ all_of next (length bytes) after = values-enough next short (length after) (length bytes) after (omega arith) (omega arith) in
    let one : with_front front (all_of next (length (b ∷ bytes)) (b ∷ bytes)) ≡ with_front (front ++ x ∷ []) (all_of next (length bytes) after) = rw h (regroup front x (all_of next (length bytes) after)) in
    rw enough (sym one ∙ so_far)

pub value-broken : {A : Type 0} (next : List ℕ → Option (A × List ℕ)) (front : List A) (bytes : List ℕ) (total : Option (List A)) → 0 < length bytes → next bytes ≡ None
    → with_front front (all_of next (length bytes) bytes) ≡ total → total ≡ None
unfolding all_of
value-broken next front [] total lt h so_far = let no : ⊥ = omega arith in absurd no
value-broken next front (b ∷ bytes) total lt h so_far =
    let one : with_front front (all_of next (length (b ∷ bytes)) (b ∷ bytes)) ≡ None = rw h refl in
    sym so_far ∙ one

pub values-done : {A : Type 0} (next : List ℕ → Option (A × List ℕ)) (front : List A) (bytes : List ℕ) (total : Option (List A)) → length bytes ≡ 0 → with_front front (all_of next (length bytes) bytes) ≡ total → total ≡ Some front
unfolding all_of
values-done {A} next front [] total e so_far = sym so_far ∙ ap (λ (xs : List A). Some xs) (append-nil front)
values-done next front (b ∷ bytes) total e so_far = let no : ⊥ = omega arith in absurd no

-- ---- values behind commas

item-parts : (bytes : List ℕ) → bytes ≡ (item_at bytes).0 ++ (item_at bytes).1
unfolding item_at
item-parts bytes = sym (take-append-drop (position_or_len (λ b. b == 44) bytes) bytes)

if-some : {A : Type 0} (b : Bool) (o : Option A) (y : A) → cond b o None ≡ Some y → (b ≡ true) × (o ≡ Some y)
if-some true o y e = (refl, e)
if-some false o y e = absurd cc

pub first-takes : {A : Type 0} (read : List ℕ → Option A) (bytes : List ℕ) (x : A) (after : List ℕ) → first_of read bytes ≡ Some (x, after) → (text : List ℕ) × (read text ≡ Some x) × (bytes ≡ text ++ after)
unfolding first_of
first-takes {A} read bytes x after e =
    let a = bind-some (read (item_at bytes).0) (λ value. Some (value, (item_at bytes).1)) (x, after) e in
    let same = some_pair_parts a.0 x (item_at bytes).1 after a.2 in
    ((item_at bytes).0, a.1 ∙ ap (λ (v : A). Some v) same.0, item-parts bytes ∙ ap (λ (z : List ℕ). (item_at bytes).0 ++ z) same.1)

pub next-takes : {A : Type 0} (read : List ℕ → Option A) (bytes : List ℕ) (x : A) (after : List ℕ) → next_of read bytes ≡ Some (x, after) → (text : List ℕ) × (read text ≡ Some x) × (bytes ≡ 44 ∷ (text ++ after))
unfolding next_of
next-takes read [] x after e = absurd cc
next-takes read (b ∷ bytes) x after e =
    let g = if-some (b == 44) (first_of read bytes) (x, after) e in
    let comma : b ≡ 44 = grind (arith, nat_tests, g.0) in
    let f = first-takes read bytes x after g.1 in
    (f.0, f.1, ap (λ (c : ℕ). c ∷ bytes) comma ∙ ap (λ (z : List ℕ). 44 ∷ z) f.2)

pub next-shortens : {A : Type 0} (read : List ℕ → Option A) → Shortens (next_of read)
next-shortens read bytes x after e =
    let n = next-takes read bytes x after e in
    let len : length bytes ≡ suc (length n.0 + length after) = ap (λ (xs : List ℕ). length xs) n.2 ∙ ap suc (length-append n.0 after) in
    omega (arith, len)
