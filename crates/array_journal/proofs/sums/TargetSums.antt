-- The exclusive-or of a block of each target that passes a test: one of them apart, unit by unit, and in the order of
-- names.
use Rattle.std.proofs.Common.{◌≡◌, ℕ, zero, suc, ◌+◌, ◌<◌, ◌≤◌, ◌⊎◌, inl, inr, Bool, true, false, cond, List, [], ◌∷◌, refl, ap, sym, ◌∙◌, arith}
use Rattle.std.specs.Prelude.{map, filter, ◌==◌, ◌&&◌, ◌||◌, not, nat_lt}
use Rattle.std.specs.List.{AllByRecursion}
use Rattle.std.proofs.lemmas.Bool.{cases_eq, cases_Bool, eq-eqb, ne_eqb, eqb-true, and_from, and_parts, and_right, or_cases, or_parts, not-true, both_ways, false≢true}
use Rattle.blocks_core.specs.Xor.{xor, zeros, xor_all}
use Rattle.array_journal.specs.declared.at.At.{At}
use Rattle.array_journal.specs.Lists.{numbers}
use Rattle.array_journal.proofs.sums.LayoutLaws.{chosen_below, chosen_above}
use Rattle.array_journal.proofs.sums.XorSums.{xor-front}

-- the exclusive-or of a block of each number from first on that passes, of so many
abbrev pub sum_where : ℕ → (ℕ → Bool) → (ℕ → List ℕ) → ℕ → ℕ → List ℕ
sum_where b test f first m = xor_all b (map f (filter test (numbers first m)))

-- the numbers that pass but one
abbrev pub but : (ℕ → Bool) → ℕ → ℕ → Bool
but test k i = test i && not (i == k)

pub filter-same : (test other : ℕ → Bool) (m first : ℕ) → ((x : ℕ) → first ≤ x → x < first + m → test x ≡ other x) →
    filter test (numbers first m) ≡ filter other (numbers first m)
filter-same test other zero first same = refl
filter-same test other (suc m) first same =
    ap (λ y. cond y (first ∷ filter test (numbers (suc first) m)) (filter test (numbers (suc first) m))) (same first (omega arith) (omega arith))
    ∙ ap (λ (l : List ℕ). cond (other first) (first ∷ l) l) (filter-same test other m (suc first) (λ x low high. same x (omega arith) (omega arith)))

pub sum-tests : (b : ℕ) (test other : ℕ → Bool) (f : ℕ → List ℕ) (m first : ℕ) → ((x : ℕ) → first ≤ x → x < first + m → test x ≡ other x) →
    sum_where b test f first m ≡ sum_where b other f first m
sum-tests b test other f m first same = ap (λ l. xor_all b (map f l)) (filter-same test other m first same)

pub sum-blocks : (b : ℕ) (test : ℕ → Bool) (f h : ℕ → List ℕ) (m first : ℕ) →
    ((x : ℕ) → first ≤ x → x < first + m → test x ≡ true → f x ≡ h x) → sum_where b test f first m ≡ sum_where b test h first m
sum-blocks b test f h zero first same = refl
sum-blocks b test f h (suc m) first same =
    choose (test first) refl (sum-blocks b test f h m (suc first) (λ x low high t. same x (omega arith) (omega arith) t))
  where
    rest : List ℕ
    rest = filter test (numbers (suc first) m)

    choose : (y : Bool) → test first ≡ y → xor_all b (map f rest) ≡ xor_all b (map h rest) →
        xor_all b (map f (cond y (first ∷ rest) rest)) ≡ xor_all b (map h (cond y (first ∷ rest) rest))
    choose true q e = ap (λ x. xor x (xor_all b (map f rest))) (same first (omega arith) (omega arith) q) ∙ ap (xor (h first)) e
    choose false q e = e

sum-none : (b : ℕ) (test : ℕ → Bool) (f : ℕ → List ℕ) (m first : ℕ) → ((x : ℕ) → first ≤ x → x < first + m → test x ≡ false) →
    sum_where b test f first m ≡ zeros b
sum-none b test f zero first none = refl
sum-none b test f (suc m) first none =
    ap (λ y. xor_all b (map f (cond y (first ∷ filter test (numbers (suc first) m)) (filter test (numbers (suc first) m))))) (none first (omega arith) (omega arith))
    ∙ sum-none b test f m (suc first) (λ x low high. none x (omega arith) (omega arith))

-- one of them, apart from the others
pub sum-apart : (b : ℕ) (test : ℕ → Bool) (f : ℕ → List ℕ) (k m first : ℕ) → first ≤ k → k < first + m → test k ≡ true →
    sum_where b test f first m ≡ xor (f k) (sum_where b (but test k) f first m)
sum-apart b test f k zero first low high t = absurd (omega arith)
sum-apart b test f k (suc m) first low high t = by_place (cases_eq first k) (λ l. sum-apart b test f k m (suc first) l (omega arith) t)
  where
    rest : List ℕ
    rest = filter test (numbers (suc first) m)

    others : List ℕ
    others = filter (but test k) (numbers (suc first) m)

    here : first ≡ k → rest ≡ others
    here same = filter-same test (but test k) m (suc first) (λ x l h. sym (kept x (ne_eqb x k (λ e. omega arith))))
      where
        kept : (x : ℕ) → (x == k) ≡ false → but test k x ≡ test x
        kept x q = ap (λ y. test x && not y) q ∙ and_true (test x)
          where
            and_true : (y : Bool) → (y && true) ≡ y
            and_true true = refl
            and_true false = refl

    choose : (y : Bool) → test first ≡ y → (first == k) ≡ false → xor_all b (map f rest) ≡ xor (f k) (xor_all b (map f others)) →
        xor_all b (map f (cond y (first ∷ rest) rest)) ≡ xor (f k) (xor_all b (map f (cond (y && not (first == k)) (first ∷ others) others)))
    choose true q n e =
        ap (xor (f first)) e ∙ xor-front (f first) (f k) (xor_all b (map f others))
        ∙ ap (λ y. xor (f k) (xor_all b (map f (cond (not y) (first ∷ others) others)))) (sym n)
    choose false q n e = e

    by_place : ((first ≡ k) ⊎ (first ≡ k → ⊥)) → (suc first ≤ k → xor_all b (map f rest) ≡ xor (f k) (xor_all b (map f others))) →
        xor_all b (map f (cond (test first) (first ∷ rest) rest)) ≡ xor (f k) (xor_all b (map f (cond (but test k first) (first ∷ others) others)))
    by_place (inl same) later =
        ap (λ y. xor_all b (map f (cond y (first ∷ rest) rest))) (ap test same ∙ t)
        ∙ ap (λ l. xor (f first) (xor_all b (map f l))) (here same)
        ∙ ap (λ x. xor (f x) (xor_all b (map f others))) same
        ∙ ap (λ y. xor (f k) (xor_all b (map f (cond y (first ∷ others) others))))
        (sym (and_right (test first) (not (first == k)) (ap not (eq-eqb first k same))))
    by_place (inr other) later = choose (test first) refl (ne_eqb first k other) (later (omega arith))

-- the targets but one, unit by unit
units-after : (f : ℕ → List ℕ) (p m first : ℕ) → p ≤ first →
    map f (filter (λ i. not (i == p)) (numbers (suc first) m)) ≡ map (λ x. f (cond (nat_lt x p) x (x + 1))) (numbers first m)
units-after f p zero first above = refl
units-after f p (suc m) first above =
    ap (λ y. map f (cond (not y) (suc first ∷ rest) rest)) (ne_eqb (suc first) p (λ e. omega arith))
    ∙ ap (λ x. f x ∷ map f rest) next
    ∙ ap (λ l. f (cond (nat_lt first p) first (first + 1)) ∷ l) (units-after f p m (suc first) (omega arith))
  where
    rest : List ℕ
    rest = filter (λ i. not (i == p)) (numbers (suc (suc first)) m)

    next : suc first ≡ cond (nat_lt first p) first (first + 1)
    next = let e : suc first ≡ first + 1 = omega arith in e ∙ sym (chosen_above first p first (first + 1) above)

pub units-others : (f : ℕ → List ℕ) (p m first : ℕ) → first ≤ p → p < first + suc m →
    map f (filter (λ i. not (i == p)) (numbers first (suc m))) ≡ map (λ x. f (cond (nat_lt x p) x (x + 1))) (numbers first m)
units-others f p zero first low high =
    ap (λ y. map f (cond (not y) (first ∷ []) [])) (eq-eqb first p (omega arith))
units-others f p (suc m) first low high = by_place (cases_eq first p) (λ l. units-others f p m (suc first) l (omega arith))
  where
    rest : List ℕ
    rest = filter (λ i. not (i == p)) (numbers (suc first) (suc m))

    by_place : ((first ≡ p) ⊎ (first ≡ p → ⊥)) → (suc first ≤ p → map f rest ≡ map (λ x. f (cond (nat_lt x p) x (x + 1))) (numbers (suc first) m)) →
        map f (cond (not (first == p)) (first ∷ rest) rest)
        ≡ f (cond (nat_lt first p) first (first + 1)) ∷ map (λ x. f (cond (nat_lt x p) x (x + 1))) (numbers (suc first) m)
    by_place (inl same) later =
        ap (λ y. map f (cond (not y) (first ∷ rest) rest)) (eq-eqb first p same) ∙ units-after f p (suc m) first (omega arith)
    by_place (inr other) later =
        ap (λ y. map f (cond (not y) (first ∷ rest) rest)) (ne_eqb first p other)
        ∙ ap (λ x. f x ∷ map f rest) (sym (chosen_below first p first (first + 1) (omega arith)))
        ∙ ap (λ l. f (cond (nat_lt first p) first (first + 1)) ∷ l) (later (omega arith))

-- some name is of the lock of a target
abbrev pub is_named_at : ℕ → List At → Bool
is_named_at i [] = false
is_named_at i (name ∷ names) = (name.lock == i + 1) || is_named_at i names

-- a name of a target that passes, whose block is that target's
pub record IsOf (m : ℕ) (test : ℕ → Bool) (block : At → List ℕ) (f : ℕ → List ℕ) (name : At) : Type 0 where
  pub target : ℕ
  pub at : name.lock ≡ target + 1
  pub below : target < m
  pub passing : test target ≡ true
  pub says : block name ≡ f target

-- no two names are of one lock
abbrev pub AreAtOthers : List At → Type 0
AreAtOthers [] = Unit {0}
AreAtOthers (name ∷ names) = ((i : ℕ) → name.lock ≡ i + 1 → is_named_at i names ≡ false) × AreAtOthers names

others-of : (m k : ℕ) (test : ℕ → Bool) (block : At → List ℕ) (f : ℕ → List ℕ) (names : List At) → is_named_at k names ≡ false →
    AllByRecursion (IsOf m test block f) names → AllByRecursion (IsOf m (but test k) block f) names
others-of m k test block f [] none all = tt
others-of m k test block f (name ∷ names) none all =
    let parts : ((name.lock == k + 1) ≡ false) × (is_named_at k names ≡ false) = or_parts (name.lock == k + 1) (is_named_at k names) none in (
      record {
        target = all.0.target;
        at = all.0.at;
        below = all.0.below;
        passing = and_from (test all.0.target) (not (all.0.target == k)) all.0.passing (ap not (ne_eqb all.0.target k (λ e.
            both_ways (name.lock == k + 1) parts.0 (eq-eqb name.lock (k + 1) (all.0.at ∙ ap (λ (x : ℕ). x + 1) e)))));
        says = all.0.says;
      },
      others-of m k test block f names parts.1 all.1,
    )

-- the blocks of names, one of each target that passes, in any order
pub sum-named : (b m : ℕ) (block : At → List ℕ) (f : ℕ → List ℕ) (names : List At) (test : ℕ → Bool) →
    ((i : ℕ) → i < m → test i ≡ true → is_named_at i names ≡ true) → AreAtOthers names → AllByRecursion (IsOf m test block f) names →
    xor_all b (map block names) ≡ sum_where b test f 0 m
sum-named b m block f [] test covers apart all = sym (sum-none b test f m 0 (λ x low high. none x (omega arith) (cases_Bool (test x))))
  where
    none : (x : ℕ) → x < m → ((test x ≡ true) ⊎ (test x ≡ false)) → test x ≡ false
    none x h (inl t) = absurd (false≢true (covers x h t))
    none x h (inr t) = t
sum-named b m block f (name ∷ names) test covers apart all =
    ap (λ x. xor x (xor_all b (map block names))) all.0.says
    ∙ ap (xor (f all.0.target)) (sum-named b m block f names (but test all.0.target) rest apart.1
    (others-of m all.0.target test block f names (apart.0 all.0.target all.0.at) all.1))
    ∙ sym (sum-apart b test f all.0.target m 0 (omega arith) (omega (arith, all.0.below)) all.0.passing)
  where
    rest : (i : ℕ) → i < m → but test all.0.target i ≡ true → is_named_at i names ≡ true
    rest i h t = elim (or_cases (name.lock == i + 1) (is_named_at i names) (covers i h (and_parts (test i) (not (i == all.0.target)) t).0)) [
      | inl this ↦ absurd (both_ways (i == all.0.target) (not-true (i == all.0.target) (and_parts (test i) (not (i == all.0.target)) t).1)
          (eq-eqb i all.0.target (let a : name.lock ≡ i + 1 = eqb-true name.lock (i + 1) this in let d : name.lock ≡ all.0.target + 1 = all.0.at in omega arith)))
      | inr later ↦ later
    ]
