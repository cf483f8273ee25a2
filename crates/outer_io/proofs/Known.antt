-- What is known of the bytes of a source or a sink after several calls.
use Rattle.std.proofs.Common.{◌≡◌, ℕ, ◌+◌, ◌-◌, ◌≤◌, List, [], ◌++◌, length, take, drop, refl, ap, sym, ◌∙◌, append_assoc, append-nil, length-drop, arith, Option, Some, None, Result, Ok, Err}
use Rattle.std.proofs.lemmas.List.{take_all, drop_all}
use Rattle.std.proofs.Math.Seq.{take-add, take-append_seam, drop-append_seam}
use Rattle.std.specs.Prelude.{IfSome, OnErr}
use Rattle.std.specs.Io.KnownBytes.{Appends, Consumes, IsAtEnd}
use Rattle.outer_io.specs.Outside.{HasRisen, AppendsPrefix, LosesAtMost}

-- nothing was taken yet
pub Consumes-none : (a : Option (List ℕ)) → Consumes a a []
Consumes-none None = tt
Consumes-none (Some xs) = refl

-- two calls in a row take what both take
pub Consumes-more : (a b c : Option (List ℕ)) (xs ys : List ℕ) → Consumes a b xs → Consumes b c ys → Consumes a c (xs ++ ys)
Consumes-more None b c xs ys p q = tt
Consumes-more (Some l) None c xs ys p q = absurd p
Consumes-more (Some l) (Some m) None xs ys p q = absurd q
Consumes-more (Some l) (Some m) (Some n) xs ys p q = p ∙ ap (λ t. xs ++ t) q ∙ sym (append_assoc xs ys n)

-- at its end a source has given all its bytes
pub taken-all : (n : ℕ) (a b : Option (List ℕ)) (bytes : List ℕ) → Consumes a b bytes → IsAtEnd b → length bytes ≤ n → IfSome a (λ left. bytes ≡ take n left)
taken-all n None b bytes p e h = tt
taken-all n (Some l) None bytes p e h = absurd p
taken-all n (Some l) (Some m) bytes p e h =
    let whole : l ≡ bytes = p ∙ ap (λ t. bytes ++ t) e ∙ append-nil bytes in
    rw whole (sym (take_all n bytes h))

-- a source that gave n bytes gave the first n
pub taken-first : (n : ℕ) (a b : Option (List ℕ)) (bytes : List ℕ) → Consumes a b bytes → length bytes ≡ n → IfSome a (λ left. bytes ≡ take n left)
taken-first n None b bytes p h = tt
taken-first n (Some l) None bytes p h = absurd p
taken-first n (Some l) (Some m) bytes p h = rw (← h) (rw p (sym (take-append_seam bytes m)))

-- nothing was written yet
pub Appends-none : (a : Option (List ℕ)) → Appends a a []
Appends-none None = tt
Appends-none (Some xs) = sym (append-nil xs)

-- two calls in a row append what both append
pub Appends-more : (a b c : Option (List ℕ)) (xs ys : List ℕ) → Appends a b xs → Appends b c ys → Appends a c (xs ++ ys)
Appends-more None b c xs ys p q = tt
Appends-more (Some l) None c xs ys p q = absurd p
Appends-more (Some l) (Some m) None xs ys p q = absurd q
Appends-more (Some l) (Some m) (Some n) xs ys p q = q ∙ ap (λ t. t ++ ys) p ∙ append_assoc l xs ys

-- the rest of a list from a place on is all that stands there
rest-whole : (done : ℕ) (bytes : List ℕ) → take (length bytes - done) (drop done bytes) ≡ drop done bytes
rest-whole done bytes = take_all (length bytes - done) (drop done bytes) (omega (arith, length-drop done bytes))

-- what is appended after a beginning makes a longer beginning
pub AppendsPrefix-after : (a b c : Option (List ℕ)) (done : ℕ) (bytes : List ℕ) → Appends a b (take done bytes) → AppendsPrefix b c (take (length bytes - done) (drop done bytes)) → AppendsPrefix a c bytes
AppendsPrefix-after None b c done bytes p q = tt
AppendsPrefix-after (Some l) None c done bytes p q = absurd p
AppendsPrefix-after (Some l) (Some m) None done bytes p q = absurd q
AppendsPrefix-after (Some l) (Some m) (Some n) done bytes p q =
    let e : n ≡ m ++ take q.0 (drop done bytes) = q.1 ∙ ap (λ t. m ++ take q.0 t) (rest-whole done bytes) in
    (done + q.0, e ∙ ap (λ t. t ++ take q.0 (drop done bytes)) p ∙ append_assoc l (take done bytes) (take q.0 (drop done bytes)) ∙ ap (λ t. l ++ t) (sym (take-add done q.0 bytes)))

-- a count that rose since a later call rose since an earlier one
pub HasRisen-since : (a b c : ℕ) → a ≤ b → HasRisen b c → HasRisen a c
HasRisen-since a b c h r = omega arith

-- a fact that holds, at an error
pub at-err : {T E P : Type 0} → (r : Result T E) → P → OnErr r P
at-err (Ok x) p = tt
at-err (Err e) p = p

-- a call that gave nothing changed nothing
pub Consumes-after_none : (a b c : Option (List ℕ)) (bytes buffer : List ℕ) (count : ℕ) → Consumes a b bytes → Consumes b c (take count buffer) → count ≡ 0 → Consumes a c bytes
Consumes-after_none a b c bytes buffer count p q z =
    let none : Consumes b c [] = rw z at q in
    rw (← append-nil bytes) (Consumes-more a b c bytes [] p none)

-- the first bytes, and some of the rest, are more of the first bytes
pub Appends-part : (a b c : Option (List ℕ)) (done count : ℕ) (bytes : List ℕ) → Appends a b (take done bytes) → Appends b c (take count (take (length bytes - done) (drop done bytes))) → Appends a c (take (done + count) bytes)
Appends-part a b c done count bytes p q =
    let rest : Appends b c (take count (drop done bytes)) = rw rest-whole at q in
    rw take-add (Appends-more a b c (take done bytes) (take count (drop done bytes)) p rest)

-- who gave so many bytes lost no more
pub LosesAtMost-given : (most : ℕ) (a b : Option (List ℕ)) (bytes : List ℕ) → Consumes a b bytes → length bytes ≤ most → LosesAtMost most a b
LosesAtMost-given most None b bytes p h = tt
LosesAtMost-given most (Some l) None bytes p h = absurd p
LosesAtMost-given most (Some l) (Some m) bytes p h =
    (length bytes, h, sym (ap (drop (length bytes)) p ∙ drop-append_seam bytes m))

-- at its end nothing is left behind the first bytes either
pub rest-all : (n : ℕ) (a b : Option (List ℕ)) (bytes : List ℕ) → Consumes a b bytes → IsAtEnd b → length bytes ≤ n → IfSome a (λ left. b ≡ Some (drop n left))
rest-all n None b bytes p e h = tt
rest-all n (Some l) None bytes p e h = absurd p
rest-all n (Some l) (Some m) bytes p e h =
    let whole : l ≡ bytes = p ∙ ap (λ t. bytes ++ t) e ∙ append-nil bytes in
    ap Some (e ∙ sym (ap (drop n) whole ∙ drop_all n bytes h))

-- a source that gave n bytes has left what stands behind the first n
pub rest-first : (n : ℕ) (a b : Option (List ℕ)) (bytes : List ℕ) → Consumes a b bytes → length bytes ≡ n → IfSome a (λ left. b ≡ Some (drop n left))
rest-first n None b bytes p h = tt
rest-first n (Some l) None bytes p h = absurd p
rest-first n (Some l) (Some m) bytes p h =
    ap Some (sym (ap (λ k. drop k l) (sym h) ∙ ap (drop (length bytes)) p ∙ drop-append_seam bytes m))
