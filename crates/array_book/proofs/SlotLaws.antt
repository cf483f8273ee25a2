-- What the book knows of a slot answers as the definitions do that read all entries.
use Rattle.std.proofs.Common.{◌≡◌, ℕ, suc, ◌+◌, Bool, true, false, cond, List, [], ◌∷◌, ◌++◌, length, count_by, refl, ap, sym, ◌∙◌, arith, ◌==◌, ◌&&◌, nat_lt, length-append}
use Rattle.std.proofs.lemmas.List.Sums.{sum_by-append}
use Rattle.array_journal.specs.declared.entry.Entry.{Entry}
use Rattle.array_journal.specs.Entries.{count_before}
use Rattle.array_journal.specs.Lives.{is_swap_of, swap_count}
use Rattle.array_book.specs.Slots.{swap_stamps}

-- one more number is counted where it passes
counted_end : (test : ℕ → Bool) (xs : List ℕ) (x : ℕ) → count_by test (xs ++ x ∷ []) ≡ cond (test x) (suc (count_by test xs)) (count_by test xs)
counted_end test xs x = sum_by-append (λ y. cond (test y) 1 0) xs (x ∷ []) ∙ one (test x) (count_by test xs)
  where
    one : (b : Bool) (n : ℕ) → n + (0 + cond b 1 0) ≡ cond b (suc n) n
    one true n = omega arith
    one false n = omega arith

length_step : (b : Bool) (n s : ℕ) (xs : List ℕ) → n ≡ length xs → cond b (suc n) n ≡ length (cond b (xs ++ s ∷ []) xs)
length_step true n s xs h = ap suc h ∙ sym (length-append xs (s ∷ []) ∙ omega arith)
length_step false n s xs h = h

pub swap_count-length : (i : ℕ) (past : List Entry) → swap_count i past ≡ length (swap_stamps i past)
swap_count-length i [] = refl
swap_count-length i (e ∷ past) =
    length_step ((e.lock == 0) && is_swap_of i e.event) (swap_count i past) e.stamp (swap_stamps i past) (swap_count-length i past)

before_step : (a b c : Bool) (n s t : ℕ) (xs : List ℕ) → nat_lt s t ≡ b → n ≡ count_by (λ x. nat_lt x t) xs →
    cond (a && b && c) (suc n) n ≡ count_by (λ x. nat_lt x t) (cond (a && c) (xs ++ s ∷ []) xs)
before_step false b c n s t xs g h = h
before_step true true true n s t xs g h =
    ap suc h ∙ sym (counted_end (λ x. nat_lt x t) xs s ∙ ap (λ y. cond y (suc (count_by (λ x. nat_lt x t) xs)) (count_by (λ x. nat_lt x t) xs)) g)
before_step true false true n s t xs g h =
    h ∙ sym (counted_end (λ x. nat_lt x t) xs s ∙ ap (λ y. cond y (suc (count_by (λ x. nat_lt x t) xs)) (count_by (λ x. nat_lt x t) xs)) g)
before_step true true false n s t xs g h = h
before_step true false false n s t xs g h = h

pub count_before-stamps : (i t : ℕ) (past : List Entry) → count_before 0 (is_swap_of i) t past ≡ count_by (λ x. nat_lt x t) (swap_stamps i past)
count_before-stamps i t [] = refl
count_before-stamps i t (e ∷ past) =
    before_step (e.lock == 0) (nat_lt e.stamp t) (is_swap_of i e.event) (count_before 0 (is_swap_of i) t past) e.stamp t (swap_stamps i past) refl (count_before-stamps i t past)
