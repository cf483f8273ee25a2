-- Reading the lines of areas one after the other, as a loop does.
use Rattle.std.proofs.Common.{◌≡◌, ℕ, zero, suc, ◌+◌, ◌-◌, ◌≤◌, ◌<◌, List, [], ◌∷◌, ◌++◌, length, Result, Ok, Err, refl, sym, ap, ◌∙◌, append_assoc, length-append, arith}
use Rattle.std.specs.List.{AllByRecursion}
use Rattle.std.proofs.lemmas.List.{append-nil}
use Rattle.stripe_layout.specs.declared.areas.Area.{Area}
use Rattle.host_scripts.specs.declared.script.ScriptFault.{ScriptFault}
use Rattle.host_scripts.specs.declared.script.ScriptFault.TheVariants as faults
use Rattle.host_scripts.specs.Reading.{◌>>=◌, Fault, Fails, area_at, areas_at}

-- the areas that were read before, and those that are still read
abbrev pub with_areas : List Area → Result (List Area × List ℕ) Fault → Result (List Area × List ℕ) Fault
with_areas front (Ok more) = Ok (front ++ more.0, more.1)
with_areas front (Err e) = Err e

regroup : (front : List Area) (a : Area) (read : Result (List Area × List ℕ) Fault) → with_areas front (read >>= λ others. Ok (a ∷ others.0, others.1)) ≡ with_areas (front ++ a ∷ []) read
regroup front a (Ok more) = ap (λ (xs : List Area). Ok (xs, more.1)) (sym (append_assoc front (a ∷ []) more.0))
regroup front a (Err e) = refl

next-read : (front : List Area) (left n : ℕ) (bytes after : List ℕ) (a : Area) (total : Result (List Area × List ℕ) Fault) → area_at n bytes ≡ Ok (a, after)
    → with_areas front (areas_at (suc left) n bytes) ≡ total → with_areas (front ++ a ∷ []) (areas_at left (n + 1) after) ≡ total
unfolding areas_at
next-read front left n bytes after a total h so_far =
    let one : with_areas front (areas_at (suc left) n bytes) ≡ with_areas (front ++ a ∷ []) (areas_at left (n + 1) after) = rw h (regroup front a (areas_at left (n + 1) after)) in
    sym one ∙ so_far

-- one more area is read
pub area-read : (front : List Area) (count n : ℕ) (bytes after : List ℕ) (a : Area) (total : Result (List Area × List ℕ) Fault) → length front < count → area_at n bytes ≡ Ok (a, after)
    → with_areas front (areas_at (count - length front) n bytes) ≡ total → with_areas (front ++ a ∷ []) (areas_at (count - length (front ++ a ∷ [])) (n + 1) after) ≡ total
area-read front count n bytes after a total lt h so_far =
    let longer = length-append front (a ∷ []) in
    let left : count - length front ≡ suc (count - length (front ++ a ∷ [])) = omega (arith, longer) in
    next-read front (count - length (front ++ a ∷ [])) n bytes after a total h (ap (λ (k : ℕ). with_areas front (areas_at k n bytes)) (sym left) ∙ so_far)

all-of : (read : Result (List Area × List ℕ) Fault) → with_areas [] read ≡ read
all-of (Ok more) = refl
all-of (Err e) = refl

-- the first area
pub first-read : (count n : ℕ) (bytes after : List ℕ) (a : Area) → 1 ≤ count → area_at n bytes ≡ Ok (a, after) → with_areas (a ∷ []) (areas_at (count - 1) (n + 1) after) ≡ areas_at count n bytes
first-read count n bytes after a low h =
    let all : count - length {A = Area} [] ≡ count = omega arith in
    area-read [] count n bytes after a (areas_at count n bytes) (omega arith) h (ap (λ (k : ℕ). with_areas [] (areas_at k n bytes)) all ∙ all-of (areas_at count n bytes))

-- an area is refused
pub area-broken : (front : List Area) (left n : ℕ) (bytes : List ℕ) (e : ScriptFault) (total : Result (List Area × List ℕ) Fault) → 0 < left → Fails e (area_at n bytes) → with_areas front (areas_at left n bytes) ≡ total → Fails e total
unfolding areas_at
area-broken front left n bytes faults.Memory total lt h so_far = tt
area-broken front zero n bytes (faults.Refused m cause) total lt h so_far = let no : ⊥ = omega arith in absurd no
area-broken front (suc left) n bytes (faults.Refused m cause) total lt h so_far =
    let one : with_areas front (areas_at (suc left) n bytes) ≡ Err (m, cause) = rw h refl in
    sym so_far ∙ one

pub first-broken : (count n : ℕ) (bytes : List ℕ) (e : ScriptFault) → 1 ≤ count → Fails e (area_at n bytes) → Fails e (areas_at count n bytes)
first-broken count n bytes e low h = area-broken [] count n bytes e (areas_at count n bytes) (omega arith) h (all-of (areas_at count n bytes))

none-left : (front : List Area) (n : ℕ) (bytes : List ℕ) (total : Result (List Area × List ℕ) Fault) → with_areas front (areas_at 0 n bytes) ≡ total → total ≡ Ok (front, bytes)
unfolding areas_at
none-left front n bytes total so_far = sym so_far ∙ ap (λ (xs : List Area). Ok (xs, bytes)) (append-nil front)

-- all are read
pub areas-done : (front : List Area) (count n : ℕ) (bytes : List ℕ) (total : Result (List Area × List ℕ) Fault) → count ≤ length front → with_areas front (areas_at (count - length front) n bytes) ≡ total → total ≡ Ok (front, bytes)
areas-done front count n bytes total le so_far =
    let none : count - length front ≡ 0 = omega arith in
    none-left front n bytes total (ap (λ (k : ℕ). with_areas front (areas_at k n bytes)) (sym none) ∙ so_far)

pub areas-append : (P : Area → Type 0) (xs : List Area) (y : Area) → AllByRecursion P xs → P y → AllByRecursion P (xs ++ y ∷ [])
areas-append P [] y h p = (p, tt)
areas-append P (x ∷ xs) y h p = (h.0, areas-append P xs y h.1 p)
