-- A journal sorted by stamp and lock rises strictly where each entry has a name of its own.
use Rattle.std.specs.Prelude.{◌≡◌, ◌==◌, ◌&&◌, ◌||◌, ◌<◌, ◌≤◌, nat_lt, ℕ, suc, Bool, true, false, List, [], ◌∷◌, ◌++◌, length, map}
use Rattle.std.proofs.Common.{ap, sym, ◌∙◌, arith, add-one, get_or}
use Rattle.std.specs.List.{IsDistinct, AllByRecursion}
use Rattle.std.specs.List.Sorted.{IsPermutation, IsSortedBy}
use Rattle.std.specs.Ordering.{is_lt, nat_cmp, ordering_then}
use Rattle.std.proofs.lemmas.Bool.Decides.{nat_tests}
use Rattle.std.proofs.lemmas.List.{length-map}
use Rattle.std.proofs.Math.ListN.{get_or-map}
use Rattle.std.proofs.lemmas.List.Sorted.{IsPermutation-map}
use Rattle.std.proofs.lemmas.Map.Keys.{IsDistinct-IsPermutation, apart_from_distinct, IsDistinct-cons}
use Rattle.array_journal.specs.declared.at.At.{At}
use Rattle.array_journal.specs.declared.entry.Entry.{Entry}
use Rattle.array_journal.specs.Entries.{name_of, same_at, at_lt}
use Rattle.array_journal.specs.Merge.{joined, Rises, NeverFalls, HaveOwnNames, AreOfLocks}

-- the order in which a sort by stamp and lock leaves two entries
abbrev pub goes_before : Entry → Entry → Bool
goes_before a b = is_lt (ordering_then (nat_cmp a.stamp b.stamp) (nat_cmp a.lock b.lock))

next_in_order : (s t k l : ℕ) → is_lt (ordering_then (nat_cmp t s) (nat_cmp l k)) ≡ false → ((s == t) && (k == l)) ≡ false →
    (nat_lt s t || ((s == t) && nat_lt k l)) ≡ true
next_in_order s t k l h other = grind (arith, nat_tests)

-- entries that rise from each to the next rise
rise_from : (es : List Entry) →
    ((k : ℕ) (d : Entry) → suc k < length es → at_lt (name_of (get_or es k d)) (name_of (get_or es (suc k) d)) ≡ true) → Rises es
rise_from [] h = tt
rise_from (a ∷ []) h = tt
rise_from (a ∷ b ∷ es) h = (h 0 a (omega arith), rise_from (b ∷ es) (λ k d lt. h (suc k) d (omega arith)))

-- and so do they where none comes before the one in front of it
stay_from : (es : List Entry) →
    ((k : ℕ) (d : Entry) → suc k < length es → at_lt (name_of (get_or es (suc k) d)) (name_of (get_or es k d)) ≡ false) → NeverFalls es
stay_from [] h = tt
stay_from (a ∷ []) h = tt
stay_from (a ∷ b ∷ es) h = (h 0 a (omega arith), stay_from (b ∷ es) (λ k d lt. h (suc k) d (omega arith)))

in_order : (s t k l : ℕ) → is_lt (ordering_then (nat_cmp t s) (nat_cmp l k)) ≡ false → (nat_lt t s || ((t == s) && nat_lt l k)) ≡ false
in_order s t k l h = grind (arith, nat_tests)

sorted-next : (ys : List Entry) (k : ℕ) (d : Entry) → IsSortedBy goes_before ys → suc k < length ys → goes_before (get_or ys (suc k) d) (get_or ys k d) ≡ false
sorted-next ys k d sorted lt = rw add-one at (sorted k d (omega arith) (omega arith))

pub sorted-stays : (ys : List Entry) → IsSortedBy goes_before ys → NeverFalls ys
sorted-stays ys sorted =
    stay_from ys (λ k d lt. in_order (get_or ys k d).stamp (get_or ys (suc k) d).stamp (get_or ys k d).lock (get_or ys (suc k) d).lock (sorted-next ys k d sorted lt))

eqb-flips : (m n : ℕ) → (m == n) ≡ (n == m)
eqb-flips m n = grind (arith, nat_tests)

same_at-flips : (a b : At) → same_at a b ≡ same_at b a
same_at-flips a b = ap (λ x. x && (a.lock == b.lock)) (eqb-flips a.stamp b.stamp) ∙ ap (λ x. (b.stamp == a.stamp) && x) (eqb-flips a.lock b.lock)

pub sorted-rises : (xs ys : List Entry) → IsPermutation xs ys → IsSortedBy goes_before ys → HaveOwnNames xs → Rises ys
sorted-rises xs ys perm sorted own = rise_from ys next
  where
    distinct : IsDistinct same_at (map name_of ys)
    distinct = IsDistinct-IsPermutation same_at same_at-flips (map name_of xs) (map name_of ys) (IsPermutation-map name_of xs ys perm) own

    apart : (k : ℕ) (d : Entry) → suc k < length ys → same_at (name_of (get_or ys k d)) (name_of (get_or ys (suc k) d)) ≡ false
    apart k d lt =
        ap (λ n. same_at n (name_of (get_or ys (suc k) d))) (sym (get_or-map name_of ys k d))
        ∙ ap (λ n. same_at (get_or (map name_of ys) k (name_of d)) n) (sym (get_or-map name_of ys (suc k) d))
        ∙ apart_from_distinct same_at (map name_of ys) k (suc k) (name_of d) distinct (omega arith) (simp length-map lt)

    next : (k : ℕ) (d : Entry) → suc k < length ys → at_lt (name_of (get_or ys k d)) (name_of (get_or ys (suc k) d)) ≡ true
    next k d lt =
        next_in_order (get_or ys k d).stamp (get_or ys (suc k) d).stamp (get_or ys k d).lock (get_or ys (suc k) d).lock (sorted-next ys k d sorted lt) (apart k d lt)

-- an entry's name differs from those of entries of later locks
differ_above : (a : Entry) (lock : ℕ) (others : List Entry) → a.lock ≡ lock → AllByRecursion (λ (e : Entry). lock < e.lock) others →
    AllByRecursion (λ (y : At). same_at (name_of a) y ≡ false) (map name_of others)
differ_above a lock [] here above = tt
differ_above a lock (e ∷ others) here above = (other_lock a.stamp e.stamp a.lock e.lock (omega arith), differ_above a lock others here above.1)
  where
    other_lock : (s t k l : ℕ) → k < l → ((s == t) && (k == l)) ≡ false
    other_lock s t k l lt = grind (arith, nat_tests)

-- an entry's name differs from those of the entries that rise after another of its lock, and from those of later locks
differ : (a p : Entry) (lock : ℕ) (entries others : List Entry) → a.lock ≡ lock → p.lock ≡ lock → a.stamp ≤ p.stamp →
    AllByRecursion (λ (e : Entry). e.lock ≡ lock) entries → Rises (p ∷ entries) → AllByRecursion (λ (e : Entry). lock < e.lock) others →
    AllByRecursion (λ (y : At). same_at (name_of a) y ≡ false) (map name_of (entries ++ others))
differ a p lock [] others here there le all rises above = differ_above a lock others here above
differ a p lock (e ∷ entries) others here there le all rises above =
    let lt : p.stamp < e.stamp = later p.stamp e.stamp p.lock e.lock rises.0 (there ∙ sym all.0) in
    (other_stamp a.stamp e.stamp a.lock e.lock (omega arith), differ a e lock entries others here all.0 (omega arith) all.1 rises.1 above)
  where
    later : (s t k l : ℕ) → (nat_lt s t || ((s == t) && nat_lt k l)) ≡ true → k ≡ l → s < t
    later s t k l h e = grind (arith, nat_tests)

    other_stamp : (s t k l : ℕ) → s < t → ((s == t) && (k == l)) ≡ false
    other_stamp s t k l lt = grind (arith, nat_tests)

own_names-more : (lock : ℕ) (entries others : List Entry) → AllByRecursion (λ (e : Entry). e.lock ≡ lock) entries → Rises entries →
    AllByRecursion (λ (e : Entry). lock < e.lock) others → HaveOwnNames others → HaveOwnNames (entries ++ others)
own_names-more lock [] others all rises above own = own
own_names-more lock (e ∷ entries) others all rises above own =
    IsDistinct-cons same_at (name_of e) (map name_of (entries ++ others))
    (differ e e lock entries others all.0 all.0 (omega arith) all.1 rises above)
    (own_names-more lock entries others all.1 (rises-tail e entries rises) above own)
  where
    rises-tail : (a : Entry) (es : List Entry) → Rises (a ∷ es) → Rises es
    rises-tail a [] r = tt
    rises-tail a (b ∷ es) r = r.1

above-weaken : (lock : ℕ) (others : List Entry) → AllByRecursion (λ (e : Entry). suc lock < e.lock) others → AllByRecursion (λ (e : Entry). lock < e.lock) others
above-weaken lock [] h = tt
above-weaken lock (e ∷ others) h = (omega (arith, h.0), above-weaken lock others h.1)

above-append : (lock : ℕ) (entries others : List Entry) → AllByRecursion (λ (e : Entry). e.lock ≡ suc lock) entries →
    AllByRecursion (λ (e : Entry). lock < e.lock) others → AllByRecursion (λ (e : Entry). lock < e.lock) (entries ++ others)
above-append lock [] others all above = above
above-append lock (e ∷ entries) others all above = (omega (arith, all.0), above-append lock entries others all.1 above)

locks_above : (lock : ℕ) (lists : List (List Entry)) → AreOfLocks (suc lock) lists → AllByRecursion (λ (e : Entry). lock < e.lock) (joined lists)
locks_above lock [] h = tt
locks_above lock (entries ∷ lists) h =
    above-append lock entries (joined lists) h.0.0 (above-weaken lock (joined lists) (locks_above (suc lock) lists h.1))

pub own_names-of_locks : (lock : ℕ) (lists : List (List Entry)) → AreOfLocks lock lists → HaveOwnNames (joined lists)
unfolding IsDistinct
own_names-of_locks lock [] h = tt
own_names-of_locks lock (entries ∷ lists) h =
    own_names-more lock entries (joined lists) h.0.0 h.0.1 (locks_above lock lists h.1) (own_names-of_locks (suc lock) lists h.1)

-- an entry above all others may end a list that rises
pub rises-more : (entries : List Entry) (e : Entry) → Rises entries → AllByRecursion (λ (x : Entry). x.stamp < e.stamp) entries → Rises (entries ++ e ∷ [])
rises-more [] e r below = tt
rises-more (a ∷ []) e r below = (lower a.stamp e.stamp a.lock e.lock below.0, tt)
  where
    lower : (s t k l : ℕ) → s < t → (nat_lt s t || ((s == t) && nat_lt k l)) ≡ true
    lower s t k l h = grind (arith, nat_tests)
rises-more (a ∷ b ∷ entries) e r below = (r.0, rises-more (b ∷ entries) e r.1 below.1)
