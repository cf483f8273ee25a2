-- Reading lines one after the other, as a loop does.
use Rattle.std.proofs.Common.{◌≡◌, ℕ, zero, suc, ◌+◌, ◌≤◌, ◌<◌, ◌==◌, Bool, true, false, List, [], ◌∷◌, ◌++◌, length, Option, Some, None, Result, Ok, Err, refl, sym, ap, ◌∙◌, append_assoc, length-append, arith}
use Rattle.std.proofs.lemmas.Bool.Decides.{nat_tests}
use Rattle.std.proofs.lemmas.List.{append-nil}
use Rattle.stripe_layout.specs.declared.geometry.Geometry.{Geometry}
use Rattle.host_scripts.specs.declared.script.ScriptFault.{ScriptFault}
use Rattle.host_scripts.specs.declared.script.ScriptFault.TheVariants as faults
use Rattle.text_fields.specs.Reading.{cut_at}
use Rattle.host_scripts.specs.Loose.{call_of}
use Rattle.host_scripts.specs.Reading.{◌>>=◌, Fault, Fails, ended, judged, next_at, line_at, is_ranged_call, is_sized_call, call_at, each_at}
use Rattle.text_fields.proofs.Cuts.{cut-takes}

-- what a test for emptiness says
pub is-empty : (n : ℕ) (b : Bool) → b ≡ (n == 0) → b ≡ true → n ≡ 0
is-empty n b e h = grind (arith, nat_tests)

pub is-filled : (n : ℕ) (b : Bool) → b ≡ (n == 0) → b ≡ false → 0 < n
is-filled n b e h = grind (arith, nat_tests)

-- ---- lines that are read alike

-- what was read before, and what is still read
abbrev pub with_front : {V : Type 0} → List V → Result (List V) Fault → Result (List V) Fault
with_front front (Ok more) = Ok (front ++ more)
with_front front (Err e) = Err e

front-regroup : {V : Type 0} (front : List V) (x : V) (read : Result (List V) Fault) → with_front front (read >>= λ more. Ok (x ∷ more)) ≡ with_front (front ++ x ∷ []) read
front-regroup front x (Ok more) = let e : front ++ (x ∷ more) ≡ (front ++ x ∷ []) ++ more = simp append_assoc in rw e refl
front-regroup front x (Err e) = refl

pub same-ok : {X : Type 0} (x y : X) → ◌≡◌ {A = Result X Fault} (Ok x) (Ok y) → x ≡ y
same-ok x y e = cc

-- the value of a step that did not fail
pub bind-ok : {A B : Type 0} (r : Result A Fault) (f : A → Result B Fault) (y : B) → (r >>= f) ≡ Ok y → (x : A) × (r ≡ Ok x) × (f x ≡ Ok y)
bind-ok (Ok x) f y e = (x, refl, e)
bind-ok (Err e) f y h = absurd cc

ended-ok : (n : ℕ) (o : Option (List ℕ × List ℕ)) (cut : List ℕ × List ℕ) → ended n o ≡ Ok cut → o ≡ Some cut
ended-ok n (Some c) cut e = ap (λ (x : List ℕ × List ℕ). Some x) (same-ok c cut e)
ended-ok n None cut e = absurd cc

-- as many lines as there are bytes are enough
abbrev pub Shortens : {V : Type 0} → (ℕ → List ℕ → Result (V × List ℕ) Fault) → Type 0
Shortens {V} read = (n : ℕ) (bytes : List ℕ) (v : V) (after : List ℕ) → read n bytes ≡ Ok (v, after) → length after < length bytes

same-rest : {V : Type 0} (read : ℕ → List ℕ → Result (V × List ℕ) Fault) (turns others most n : ℕ) (one : Result (V × List ℕ) Fault) → ((v : V) (after : List ℕ) → one ≡ Ok (v, after) → length after ≤ most)
    → ((after : List ℕ) → length after ≤ most → each_at read turns n after ≡ each_at read others n after)
    → (one >>= λ first. each_at read turns n first.1 >>= λ rest. Ok (first.0 ∷ rest)) ≡ (one >>= λ first. each_at read others n first.1 >>= λ rest. Ok (first.0 ∷ rest))
same-rest read turns others most n (Err e) h same = refl
same-rest {V} read turns others most n (Ok first) h same = ap (λ (vs : Result (List V) Fault). vs >>= λ rest. Ok (first.0 ∷ rest)) (same first.1 (h first.0 first.1 refl))

-- what is read of the first line is all but what stands after it
pub line-shortens : {V : Type 0} (rule : List ℕ → Option V) (ranged sized : V → Bool) → Shortens (λ n bytes. line_at n ranged sized rule bytes)
unfolding line_at next_at
line-shortens {V} rule ranged sized n bytes v after e =
    let tests : Option V → Result V Fault = λ o. judged n ranged sized o in
    let b = bind-ok (ended n (cut_at 10 bytes)) (λ cut. tests (rule cut.0) >>= λ v. Ok (v, cut.1)) (v, after) e in
    let d = bind-ok (tests (rule b.0.0)) (λ v. Ok (v, b.0.1)) (v, after) b.2 in
    let same : b.0.1 ≡ after = ap (λ (p : V × List ℕ). p.1) (same-ok (d.0, b.0.1) (v, after) d.2) in
    let parts : bytes ≡ b.0.0 ++ 10 ∷ b.0.1 = cut-takes 10 bytes b.0.0 b.0.1 (ended-ok n (cut_at 10 bytes) b.0 b.1) in
    let len : length bytes ≡ length b.0.0 + suc (length b.0.1) = ap (λ (xs : List ℕ). length xs) parts ∙ length-append b.0.0 (10 ∷ b.0.1) in
    let len2 : length b.0.1 ≡ length after = ap (λ (xs : List ℕ). length xs) same in
    omega (arith, len, len2)

pub call-shortens : (g : Geometry) (hosts : ℕ) → Shortens (call_at g hosts)
unfolding call_at
call-shortens g hosts n bytes call after e = line-shortens call_of (is_ranged_call g hosts) (is_sized_call g) n bytes call after e

each-enough : {V : Type 0} (read : ℕ → List ℕ → Result (V × List ℕ) Fault) → Shortens read → (turns others n : ℕ) (bytes : List ℕ) → length bytes ≤ turns → length bytes ≤ others → each_at read turns n bytes ≡ each_at read others n bytes
unfolding each_at
each-enough read short turns others n [] le le2 = refl
each-enough read short zero others n (b ∷ bytes) le le2 = let no : ⊥ = omega arith in absurd no
each-enough read short (suc turns) zero n (b ∷ bytes) le le2 = let no : ⊥ = omega arith in absurd no
each-enough read short (suc turns) (suc others) n (b ∷ bytes) le le2 =
    same-rest read turns others (length bytes) (n + 1) (read n (b ∷ bytes)) (λ v after e. let lt = short n (b ∷ bytes) v after e in omega arith) (λ after le3. each-enough read short turns others (n + 1) after (omega arith) (omega arith))

pub each-read : {V : Type 0} (read : ℕ → List ℕ → Result (V × List ℕ) Fault) → Shortens read → (front : List V) (n : ℕ) (bytes : List ℕ) (v : V) (after : List ℕ) (total : Result (List V) Fault) → 0 < length bytes → read n bytes ≡ Ok (v, after)
    → with_front front (each_at read (length bytes) n bytes) ≡ total → with_front (front ++ v ∷ []) (each_at read (length after) (n + 1) after) ≡ total
unfolding each_at
each-read read short front n [] v after total lt h so_far = let no : ⊥ = omega arith in absurd no
each-read read short front n (b ∷ bytes) v after total lt h so_far =
    let shorter = short n (b ∷ bytes) v after h in
    let enough : each_at read (length after) (n + 1) after ≡ each_at read (length bytes) (n + 1) after = each-enough read short (length after) (length bytes) (n + 1) after (omega arith) (omega arith) in
    let one : with_front front (each_at read (length (b ∷ bytes)) n (b ∷ bytes)) ≡ with_front (front ++ v ∷ []) (each_at read (length bytes) (n + 1) after) = rw h (front-regroup front v (each_at read (length bytes) (n + 1) after)) in
    rw enough (sym one ∙ so_far)

pub each-broken : {V : Type 0} (read : ℕ → List ℕ → Result (V × List ℕ) Fault) (e : ScriptFault) (front : List V) (n : ℕ) (bytes : List ℕ) (total : Result (List V) Fault) → 0 < length bytes → Fails e (read n bytes)
    → with_front front (each_at read (length bytes) n bytes) ≡ total → Fails e total
unfolding each_at
each-broken read faults.Memory front n bytes total lt h so_far = tt
each-broken read (faults.Refused m cause) front n [] total lt h so_far = let no : ⊥ = omega arith in absurd no
each-broken read (faults.Refused m cause) front n (b ∷ bytes) total lt h so_far =
    let one : with_front front (each_at read (length (b ∷ bytes)) n (b ∷ bytes)) ≡ Err (m, cause) = rw h refl in
    sym so_far ∙ one

pub each-done : {V : Type 0} (read : ℕ → List ℕ → Result (V × List ℕ) Fault) (front : List V) (n : ℕ) (bytes : List ℕ) (total : Result (List V) Fault) → length bytes ≡ 0 → with_front front (each_at read (length bytes) n bytes) ≡ total → total ≡ Ok front
unfolding each_at
each-done {V} read front n [] total e so_far = sym so_far ∙ ap (λ (xs : List V). Ok xs) (append-nil front)
each-done read front n (b ∷ bytes) total e so_far = let no : ⊥ = omega arith in absurd no
