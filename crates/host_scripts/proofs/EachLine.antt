-- Lines that are read alike: what spells them is read as them, and what was read is spelt so.
use Rattle.std.proofs.Common.{◌≡◌, ℕ, zero, suc, ◌+◌, ◌<◌, ◌≤◌, List, [], ◌∷◌, ◌++◌, length, map, get_or, drop, Result, Ok, refl, sym, ap, subst, ◌∙◌, append_assoc, length-append, arith}
use Rattle.std.specs.List.{flat_map, AllByRecursion}
use Rattle.std.proofs.lemmas.List.{append-nil}
use Rattle.std.proofs.lemmas.Grind.{flat_map-append}
use Rattle.host_scripts.specs.declared.script.Cause.{Cause}
use Rattle.text_fields.specs.Spelling.{line}
use Rattle.host_scripts.specs.Reading.{Fault, each_at}
use Rattle.host_scripts.proofs.Outcomes.{Outcome, then}
use Rattle.host_scripts.proofs.LinePlaces.{Spelled}

-- the bytes of lines
abbrev pub rows : List (List ℕ) → List ℕ
rows texts = flat_map line texts

-- a line has at least its end
line-filled : (text after : List ℕ) → length after < length (line text ++ after)
line-filled text after = omega (arith, length-append (line text) after, length-append text (10 ∷ []))

-- a line is read as its value, whatever stands behind it
abbrev pub ReadsLines : {V : Type 0} → (ℕ → List ℕ → Result (V × List ℕ) Fault) → (V → List ℕ) → (V → Type 0) → Type 0
ReadsLines {V} read text_of Good = (n : ℕ) (v : V) (after : List ℕ) → Good v → read n (line (text_of v) ++ after) ≡ Ok (v, after)

each-step : {V : Type 0} (read : ℕ → List ℕ → Result (V × List ℕ) Fault) (turns n : ℕ) (bytes : List ℕ) (v : V) (after : List ℕ) (vs : List V) → 0 < length bytes → read n bytes ≡ Ok (v, after) → each_at read turns (n + 1) after ≡ Ok vs
    → each_at read (suc turns) n bytes ≡ Ok (v ∷ vs)
unfolding each_at
each-step read turns n [] v after vs lt e f = let no : ⊥ = omega arith in absurd no
each-step read turns n (b ∷ bytes) v after vs lt e f = rw (e, f) refl

each-none : {V : Type 0} (read : ℕ → List ℕ → Result (V × List ℕ) Fault) (turns n : ℕ) → each_at read turns n [] ≡ Ok []
unfolding each_at
each-none read zero n = refl
each-none read (suc turns) n = refl

pub each-again : {V : Type 0} (read : ℕ → List ℕ → Result (V × List ℕ) Fault) (text_of : V → List ℕ) (Good : V → Type 0) → ReadsLines read text_of Good → (vs : List V) (turns n : ℕ) → AllByRecursion Good vs → length (rows (map text_of vs)) ≤ turns
    → each_at read turns n (rows (map text_of vs)) ≡ Ok vs
each-again read text_of Good reads [] turns n all h = each-none read turns n
each-again read text_of Good reads (v ∷ vs) zero n all h =
    let f = line-filled (text_of v) (rows (map text_of vs)) in
    let no : ⊥ = omega (arith, f, h) in absurd no
each-again read text_of Good reads (v ∷ vs) (suc turns) n all h =
    let after = rows (map text_of vs) in
    let f = line-filled (text_of v) after in
    each-step read turns n (line (text_of v) ++ after) v after vs (omega (arith, f)) (reads n v after all.0) (each-again read text_of Good reads vs turns (n + 1) all.1 (omega (arith, f, h)))

-- what is known of each line leads to what is known of all
pub each-outcome : {V : Type 0} (read : ℕ → List ℕ → Result (V × List ℕ) Fault) (Bad : ℕ → Cause → Type 0) (State : List V → ℕ → List ℕ → Type 0)
    → ((done : List V) (n : ℕ) (rest : List ℕ) → State done n rest → Outcome (λ x. State (done ++ x.0 ∷ []) (n + 1) x.1 × (length x.1 < length rest)) Bad (read n rest))
    → (turns : ℕ) (done : List V) (n : ℕ) (rest : List ℕ) → length rest ≤ turns → State done n rest → Outcome (λ more. (m : ℕ) × State (done ++ more) m []) Bad (each_at read turns n rest)
unfolding each_at
each-outcome {V} read Bad State step turns done n [] le s = (n, subst (λ (vs : List V). State vs n []) (sym (append-nil done)) s)
each-outcome read Bad State step zero done n (b ∷ rest) le s = let no : ⊥ = omega arith in absurd no
each-outcome {V} read Bad State step (suc turns) done n (b ∷ rest) le s =
    then (λ x. State (done ++ x.0 ∷ []) (n + 1) x.1 × (length x.1 < length (b ∷ rest))) (λ more. (m : ℕ) × State (done ++ more) m []) Bad (read n (b ∷ rest)) _ (step done n (b ∷ rest) s) (λ x g.
    then (λ more. (m : ℕ) × State ((done ++ x.0 ∷ []) ++ more) m []) (λ more. (m : ℕ) × State (done ++ more) m []) Bad (each_at read turns (n + 1) x.1) _
    (each-outcome read Bad State step turns (done ++ x.0 ∷ []) (n + 1) x.1 (omega (arith, g.1)) g.0)
    (λ more r. (r.0, subst (λ (vs : List V). State vs r.0 []) (append_assoc done (x.0 ∷ []) more) r.1)))

-- where the lines of values go on behind those of others, a value has the next
pub item-after : {V : Type 0} (text_of : V → List ℕ) (P : V → Type 0) (asked done : List V) (text : List ℕ) (more : List (List ℕ)) → AllByRecursion P asked → map text_of asked ≡ map text_of done ++ text ∷ more → Spelled text_of P text
item-after text_of P [] [] text more f e = let no : ⊥ = omega (arith, ap (λ (xs : List (List ℕ)). length xs) e) in absurd no
item-after text_of P [] (d ∷ done) text more f e = let no : ⊥ = omega (arith, ap (λ (xs : List (List ℕ)). length xs) e) in absurd no
item-after text_of P (v ∷ asked) [] text more f e = record { word = v; spelt = sym (ap (λ (xs : List (List ℕ)). get_or xs 0 []) e); formed = f.0 }
item-after text_of P (v ∷ asked) (d ∷ done) text more f e = item-after text_of P asked done text more f.1 (ap (λ (xs : List (List ℕ)). drop 1 xs) e)

pub map-append : {V : Type 0} (text_of : V → List ℕ) (xs ys : List V) → map text_of (xs ++ ys) ≡ map text_of xs ++ map text_of ys
map-append text_of [] ys = refl
map-append text_of (x ∷ xs) ys = ap (λ (ts : List (List ℕ)). text_of x ∷ ts) (map-append text_of xs ys)

pub all-append : {V : Type 0} (P : V → Type 0) (xs : List V) (y : V) → AllByRecursion P xs → P y → AllByRecursion P (xs ++ y ∷ [])
all-append P [] y h p = (p, tt)
all-append P (x ∷ xs) y h p = (h.0, all-append P xs y h.1 p)

-- what stands behind one more line is shorter
pub shorter-by : (bytes : List ℕ) (texts : List (List ℕ)) (text rest after : List ℕ) → bytes ≡ flat_map line texts ++ rest → bytes ≡ flat_map line (texts ++ text ∷ []) ++ after → length after < length rest
shorter-by bytes texts text rest after e f =
    let joined : flat_map line (texts ++ text ∷ []) ≡ flat_map line texts ++ (line text ++ []) = flat_map-append line texts (text ∷ []) in
    let a = length-append (flat_map line texts) rest in
    let b = length-append (flat_map line (texts ++ text ∷ [])) after in
    let c = length-append (flat_map line texts) (line text ++ []) in
    let d = length-append (line text) [] in
    let g = length-append text (10 ∷ []) in
    omega (arith, a, b, c, d, g, ap (λ (xs : List ℕ). length xs) joined, ap (λ (xs : List ℕ). length xs) (sym e ∙ f))
