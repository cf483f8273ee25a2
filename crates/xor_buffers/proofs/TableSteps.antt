-- A table of runs, gone through from its end, and what a cut leaves in it.
use Rattle.std.proofs.Common.{◌≡◌, ◌==◌, ℕ, zero, suc, ◌+◌, ◌-◌, ◌<◌, ◌≤◌, true, cond, List, [], ◌∷◌, ◌++◌, length, take, drop, get_or, set, refl, ap, sym, ◌∙◌, subst, arith}
use Rattle.std.specs.List.{AllByRecursion}
use Rattle.std.proofs.lemmas.Bool.{eq-eqb, ne_eqb}
use Rattle.std.proofs.lemmas.List.{take_more, drop_more, set_split, get_or_default}
use Rattle.xor_buffers.specs.declared.buffer.table.Run.{Run}
use Rattle.xor_buffers.specs.Runs.{blocks_in, run_holds, run_rest, IsPlace}

pub blocks_in-append : (xs ys : List Run) → blocks_in (xs ++ ys) ≡ blocks_in xs + blocks_in ys
blocks_in-append [] ys = omega arith
blocks_in-append (x ∷ xs) ys = omega (arith, blocks_in-append xs ys)

-- one run more in front of the end
pub blocks_in-more : (runs : List Run) (i : ℕ) (d : Run) → i < length runs → blocks_in (take (i + 1) runs) ≡ blocks_in (take i runs) + (get_or runs i d).count
blocks_in-more runs i d h =
    ap blocks_in (take_more runs i d h) ∙ blocks_in-append (take i runs) (get_or runs i d ∷ []) ∙ omega arith

-- the places of a table, from the end on
pub record IsBack (len done : ℕ) : Type 0 where
  pub place : len - 1 - done < len
  pub next : len - (done + 1) ≡ len - 1 - done
  pub before : len - done ≡ len - 1 - done + 1

pub is_back : (len done : ℕ) → done < len → IsBack len done
is_back len done h = record { place = omega (arith, h); next = omega (arith, h); before = omega (arith, h) }

-- the blocks in front of a run, and its own, are no more than all
pub front-inside : (runs : List Run) (i : ℕ) (d : Run) → i < length runs → blocks_in (take i runs) + (get_or runs i d).count ≤ blocks_in runs
front-inside [] i d h = absurd (omega (arith, h))
front-inside (x ∷ runs) zero d h = omega arith
front-inside (x ∷ runs) (suc i) d h = let rest : blocks_in (take i runs) + (get_or runs i d).count ≤ blocks_in runs = front-inside runs i d (omega (arith, h)) in omega (arith, rest)

-- a run found from the front
pub placed-front : (row count : ℕ) (runs : List Run) (done front : ℕ) (d : Run) → done < length runs → front ≡ blocks_in (take done runs) →
    run_holds row count (get_or runs done d) ≡ true → IsPlace row count runs done front
placed-front row count runs done front d h is holds = record {
  inside = h;
  behind = is;
  contains = λ e. ap (run_holds row count) (get_or_default runs done e d h) ∙ holds;
}

pub behind-more : (runs : List Run) (done at : ℕ) (d : Run) → done < length runs → at ≡ blocks_in (take (length runs - done) runs) →
    at ≡ blocks_in (take (length runs - 1 - done) runs) + (get_or runs (length runs - 1 - done) d).count
behind-more runs done at d h is =
    let b : IsBack (length runs) done = is_back (length runs) done h in
    is ∙ ap (λ k. blocks_in (take k runs)) b.before ∙ blocks_in-more runs (length runs - 1 - done) d b.place

pub behind-less : (runs : List Run) (done at : ℕ) (d : Run) → done < length runs → at ≡ blocks_in (take (length runs - done) runs) →
    at - (get_or runs (length runs - 1 - done) d).count ≡ blocks_in (take (length runs - (done + 1)) runs)
behind-less runs done at d h is =
    let back : blocks_in (take (length runs - (done + 1)) runs) ≡ blocks_in (take (length runs - 1 - done) runs) =
    ap (λ k. blocks_in (take k runs)) (is_back (length runs) done h).next in
    omega (arith, behind-more runs done at d h is, back)

pub none-more : (P : Run → Type 0) (runs : List Run) (done : ℕ) (d : Run) → done < length runs → P (get_or runs (length runs - 1 - done) d) →
    AllByRecursion P (drop (length runs - done) runs) → AllByRecursion P (drop (length runs - (done + 1)) runs)
none-more P runs done d h p rest =
    let b : IsBack (length runs) done = is_back (length runs) done h in
    subst (λ k. AllByRecursion P (drop k runs)) (sym b.next)
    (subst (AllByRecursion P) (sym (drop_more runs (length runs - 1 - done) d b.place)) (p, subst (λ k. AllByRecursion P (drop k runs)) b.before rest))

pub placed : (row count : ℕ) (runs : List Run) (done at : ℕ) (d : Run) → done < length runs → at ≡ blocks_in (take (length runs - done) runs) →
    run_holds row count (get_or runs (length runs - 1 - done) d) ≡ true →
    IsPlace row count runs (length runs - 1 - done) (at - (get_or runs (length runs - 1 - done) d).count)
placed row count runs done at d h is holds = record {
  inside = b.place;
  behind = omega (arith, behind-more runs done at d h is);
  contains = λ e. ap (run_holds row count) (get_or_default runs (length runs - 1 - done) e d b.place) ∙ holds;
}
  where
    b : IsBack (length runs) done
    b = is_back (length runs) done h

-- a run put in the place of another
pub replaced : (runs : List Run) (i : ℕ) (run : Run) → i < length runs → set runs i run ≡ take i runs ++ (run ∷ [] ++ drop (i + 1) runs)
replaced runs i run h = let next : suc i ≡ i + 1 = omega arith in set_split runs i run h ∙ ap (λ k. take i runs ++ run ∷ drop k runs) next

pub rest-behind : (start count : ℕ) (e : Run) → start ≡ 0 → (start + count ≡ e.count → ⊥) →
    run_rest start count e ≡ record { owner = e.owner; row = e.row + (start + count); count = e.count - (start + count) } ∷ []
rest-behind start count e none more = rw (eq-eqb start 0 none, ne_eqb (start + count) e.count more) refl

pub rest-before : (start : ℕ) (e : Run) → (start ≡ 0 → ⊥) →
    cond {A = List Run} (start == 0) [] (record { owner = e.owner; row = e.row; count = start } ∷ []) ≡ record { owner = e.owner; row = e.row; count = start } ∷ []
rest-before start e some = rw (ne_eqb start 0 some) refl
