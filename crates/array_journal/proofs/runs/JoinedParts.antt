-- Two runs that are parts of one journal make it a run: each of its entries may follow in a part, and so in the whole.
use Rattle.std.specs.List.{AllByRecursion}
use Rattle.std.specs.Prelude.{◌≡◌, ◌==◌, ◌&&◌, ◌<◌, ◌≤◌, ◌⊎◌, ◌||◌, nat_lt, not, ℕ, suc, ◌+◌, ◌*◌, Bool, true, false, List, [], ◌∷◌, ◌++◌, filter, length, map, reverse, Option, Some}
use Rattle.std.proofs.Common.{refl, ap, sym, ◌∙◌, subst, cond, arith, inl, inr}
use Rattle.std.proofs.lemmas.Bool.{and_from, or_left, or_right, lt-ltb, eq-eqb, ne_eqb, eqb-true, eqb-false, and_right, cond-false}
use Rattle.std.proofs.lemmas.List.{reverse-append}
use Rattle.std.proofs.lemmas.List.Elements.{filter-append}
use Rattle.blocks_core.specs.Xor.{xor}
use Rattle.array_journal.specs.declared.at.At.{At}
use Rattle.array_journal.specs.declared.entry.Entry.{Entry}
use Rattle.array_journal.specs.declared.event.Event.{Event}
use Rattle.array_journal.specs.declared.event.Event.TheVariants.{Diff}
use Rattle.array_journal.specs.declared.setting.Setting.{Setting}
use Rattle.blocks_core.specs.Lists.{slice}
use Rattle.array_journal.specs.Entries.{name_of, same_at, at_lt, entry_at, count_before, stamps_below}
use Rattle.array_journal.specs.Lives.{is_swap_of}
use Rattle.array_journal.specs.Deltas.{delta_in, delta_at}
use Rattle.array_journal.specs.May.{May}
use Rattle.array_journal.specs.Merge.{Rises as RisesOldest}
use Rattle.array_journal.specs.Run.{ComesLater, Grows}
use Rattle.array_journal.specs.Laws.{Rises, smaller, lane}
use Rattle.array_journal.specs.Joined.{IsBeginning, JoinsLane, JoinedPartsLaw}
use Rattle.array_journal.proofs.runs.Standing.{passes-said, named-below, not-later, count_before-still}
use Rattle.array_journal.proofs.runs.LaneLaws.{lane-fold, entry_at-lane, media-lane}
use Rattle.array_journal.proofs.runs.BeginningLaws.{AllSmaller, lt-cases, rises-smaller, grows-follows, follows-grows}
use Rattle.array_journal.proofs.windows.NamedReads.{rises-after, rise-tail}
use Rattle.array_journal.proofs.runs.WiderNames.{Wider}
use Rattle.array_journal.proofs.runs.WiderPasts.{may-wider}

-- what is kept of entries in their order
filter-all : (P : Entry → Type 0) (p : Entry → Bool) (xs : List Entry) → AllByRecursion P xs → AllByRecursion P (filter p xs)
filter-all P p [] h = tt
filter-all P p (x ∷ xs) h = choose (p x) (filter-all P p xs h.1)
  where
    choose : (b : Bool) → AllByRecursion P (filter p xs) → AllByRecursion P (cond b (x ∷ filter p xs) (filter p xs))
    choose true rest = (h.0, rest)
    choose false rest = rest

comes-after : (e : Entry) (xs : List Entry) → AllSmaller (name_of e) xs → ComesLater e xs
comes-after e [] h = tt
comes-after e (x ∷ xs) h = h.0

filter-rises : (p : Entry → Bool) (xs : List Entry) → Rises xs → Rises (filter p xs)
filter-rises p [] r = tt
filter-rises p (x ∷ xs) r = choose (p x) (filter-rises p xs r.1)
  where
    choose : (b : Bool) → Rises (filter p xs) → Rises (cond b (x ∷ filter p xs) (filter p xs))
    choose true rest = (comes-after x (filter p xs) (filter-all (λ (y : Entry). at_lt (name_of y) (name_of x) ≡ true) p xs (rises-smaller x xs r)), rest)
    choose false rest = rest

filter-cond : (p : Entry → Bool) (b : Bool) (x : Entry) (xs : List Entry) → filter p (cond b (x ∷ xs) xs) ≡ cond (b && p x) (x ∷ filter p xs) (filter p xs)
filter-cond p true x xs = refl
filter-cond p false x xs = refl

and-swap : (a b : Bool) → (a && b) ≡ (b && a)
and-swap true true = refl
and-swap true false = refl
and-swap false true = refl
and-swap false false = refl

filter-swap : (p q : Entry → Bool) (xs : List Entry) → filter p (filter q xs) ≡ filter q (filter p xs)
filter-swap p q [] = refl
filter-swap p q (x ∷ xs) =
    filter-cond p (q x) x (filter q xs)
    ∙ ap (λ b. cond b (x ∷ filter p (filter q xs)) (filter p (filter q xs))) (and-swap (q x) (p x))
    ∙ ap (λ (l : List Entry). cond (p x && q x) (x ∷ l) l) (filter-swap p q xs)
    ∙ sym (filter-cond q (p x) x (filter p xs))

filter-reverse : (p : Entry → Bool) (xs : List Entry) → filter p (reverse xs) ≡ reverse (filter p xs)
filter-reverse p [] = refl
filter-reverse p (x ∷ xs) =
    ap (filter p) (reverse-append (x ∷ []) xs) ∙ filter-append p (reverse xs) (x ∷ [])
    ∙ ap (λ (l : List Entry). l ++ filter p (x ∷ [])) (filter-reverse p xs) ∙ last (p x)
  where
    last : (b : Bool) → reverse (filter p xs) ++ cond b (x ∷ []) [] ≡ reverse (cond b (x ∷ filter p xs) (filter p xs))
    last true = sym (reverse-append (x ∷ []) (filter p xs))
    last false = sym (reverse-append [] (filter p xs))

-- an entry that comes later has a greater stamp than those of its lock
later-stamps : (x : Entry) (xs : List Entry) → AllSmaller (name_of x) xs → stamps_below x.lock x.stamp xs ≡ true
later-stamps x [] h = refl
later-stamps x (y ∷ ys) h =
    and_from (not (y.lock == x.lock) || nat_lt y.stamp x.stamp) (stamps_below x.lock x.stamp ys) (below (lt-cases (name_of y) (name_of x) h.0)) (later-stamps x ys h.1)
  where
    below : (y.stamp < x.stamp) ⊎ ((y.stamp ≡ x.stamp) × (y.lock < x.lock)) → (not (y.lock == x.lock) || nat_lt y.stamp x.stamp) ≡ true
    below (inl less) = or_right (not (y.lock == x.lock)) (nat_lt y.stamp x.stamp) (lt-ltb y.stamp x.stamp less)
    below (inr (same, less)) = or_left (not (y.lock == x.lock)) (nat_lt y.stamp x.stamp) (ap not (ne_eqb y.lock x.lock (λ e. less-apart e)))
      where
        less-apart : y.lock ≡ x.lock → ⊥
        less-apart e = omega arith

-- More entries of a lock come after those that stand there.
more-stands : (name : At) (event : Event) (newer xs : List Entry) → Rises (newer ++ xs) → entry_at name xs ≡ Some event → entry_at name (newer ++ xs) ≡ Some event
more-stands name event [] xs r h = h
more-stands name event (x ∷ newer) xs r h =
    cond-false (same_at name (name_of x)) (Some x.event) (entry_at name (newer ++ xs))
    (not-later name x (newer ++ xs) event (later-stamps x (newer ++ xs) (rises-smaller x (newer ++ xs) r)) (more-stands name event newer xs r.1 h))
    ∙ more-stands name event newer xs r.1 h

delta-stands : (s : Setting) (i : ℕ) (name : At) (bytes : List ℕ) (xs : List Entry) → delta_at s i name xs ≡ Some bytes → (event : Event) × (entry_at name xs ≡ Some event)
delta-stands s i name bytes [] h = cc
delta-stands s i name bytes (e ∷ xs) h = choose (same_at name (name_of e)) (delta-stands s i name bytes xs) h
  where
    choose : (b : Bool) → (delta_at s i name xs ≡ Some bytes → (event : Event) × (entry_at name xs ≡ Some event)) →
        cond b (delta_in s i xs e.event) (delta_at s i name xs) ≡ Some bytes → (event : Event) × (cond b (Some e.event) (entry_at name xs) ≡ Some event)
    choose true older q = (e.event, refl)
    choose false older q = older q

more-delta : (s : Setting) (i : ℕ) (name : At) (bytes : List ℕ) (newer xs : List Entry) → Rises (newer ++ xs) → delta_at s i name xs ≡ Some bytes →
    delta_at s i name (newer ++ xs) ≡ Some bytes
more-delta s i name bytes [] xs r h = h
more-delta s i name bytes (x ∷ newer) xs r h =
    let older : delta_at s i name (newer ++ xs) ≡ Some bytes = more-delta s i name bytes newer xs r.1 h in
    let found : (event : Event) × (entry_at name (newer ++ xs) ≡ Some event) = delta-stands s i name bytes (newer ++ xs) older in
    cond-false (same_at name (name_of x)) (delta_in s i (newer ++ xs) x.event) (delta_at s i name (newer ++ xs))
    (not-later name x (newer ++ xs) found.0 (later-stamps x (newer ++ xs) (rises-smaller x (newer ++ xs) r)) found.1)
    ∙ older

more-swaps : (i : ℕ) (name : At) (event : Event) (newer xs : List Entry) → Rises (newer ++ xs) → name.lock ≡ 0 → entry_at name xs ≡ Some event →
    count_before 0 (is_swap_of i) name.stamp xs ≡ count_before 0 (is_swap_of i) name.stamp (newer ++ xs)
more-swaps i name event [] xs r book h = refl
more-swaps i name event (x ∷ newer) xs r book h =
    more-swaps i name event newer xs r.1 book h ∙ sym (count_before-still 0 (is_swap_of i) name.stamp x (newer ++ xs) not_before)
  where
    there : entry_at name (newer ++ xs) ≡ Some event
    there = more-stands name event newer xs r.1 h

    not_before : x.lock ≡ 0 → name.stamp ≤ x.stamp
    not_before here =
        let less : name.stamp < x.stamp =
        named-below (λ e. true) x.stamp name (newer ++ xs)
        (subst (λ (k : ℕ). stamps_below k x.stamp (newer ++ xs) ≡ true) (here ∙ sym book) (later-stamps x (newer ++ xs) (rises-smaller x (newer ++ xs) r)))
        (passes-said (λ e. true) name (newer ++ xs) event there refl) in omega arith

-- the delta of a named diff is read from its lock's entries
delta_in-lane : (s : Setting) (i : ℕ) (past : List Entry) (event : Event) → delta_in s i past event ≡ delta_in s i (lane (i + 1) past) event
delta_in-lane s i past (Diff command opened cdb row bytes sent dropped back) =
    ap (λ (m : List ℕ). Some (xor (slice m (row * s.geometry.block) (length bytes)) bytes)) (media-lane s i past)
delta_in-lane s i past _ = refl

delta_at-lane : (s : Setting) (i : ℕ) (name : At) (past : List Entry) → name.lock ≡ i + 1 → delta_at s i name past ≡ delta_at s i name (lane (i + 1) past)
delta_at-lane s i name [] at = refl
delta_at-lane s i name (e ∷ past) at = choose (e.lock == i + 1) refl (delta_at-lane s i name past at)
  where
    choose : (b : Bool) → (e.lock == i + 1) ≡ b → delta_at s i name past ≡ delta_at s i name (lane (i + 1) past) →
        delta_at s i name (e ∷ past) ≡ delta_at s i name (cond b (e ∷ lane (i + 1) past) (lane (i + 1) past))
    choose true q old =
        ap (λ (o : Option (List ℕ)). cond (same_at name (name_of e)) o (delta_at s i name past)) (delta_in-lane s i past e.event)
        ∙ ap (cond (same_at name (name_of e)) (delta_in s i (lane (i + 1) past) e.event)) old
    choose false q old =
        cond-false (same_at name (name_of e)) (delta_in s i past e.event) (delta_at s i name past)
        (and_right (name.stamp == e.stamp) (name.lock == e.lock) (ne_eqb name.lock e.lock (λ k. eqb-false e.lock (i + 1) q (sym k ∙ at)))) ∙ old

count_before-lane : (k : ℕ) (test : Event → Bool) (stamp : ℕ) (past : List Entry) → count_before k test stamp past ≡ count_before k test stamp (lane k past)
count_before-lane k test stamp past =
    lane-fold k (count_before k test stamp) (λ e old. cond (nat_lt e.stamp stamp && test e.event) (suc old) old)
    (λ e rest. step (e.lock == k) (nat_lt e.stamp stamp) (test e.event) (count_before k test stamp rest)) past
  where
    step : (b l t : Bool) (n : ℕ) → cond (b && l && t) (suc n) n ≡ cond b (cond (l && t) (suc n) n) n
    step true l t n = refl
    step false l t n = refl

-- of each lock, some entries have the older ones of the whole; the newest comes first
abbrev IsPartOf : List Entry → List Entry → Type 0
IsPartOf past wide = (k : ℕ) → (newer : List Entry) × (lane k wide ≡ newer ++ lane k past)

lane-rises : (k : ℕ) (newer past wide : List Entry) → Rises wide → lane k wide ≡ newer ++ lane k past → Rises (newer ++ lane k past)
lane-rises k newer past wide r q = subst Rises q (filter-rises (λ (e : Entry). e.lock == k) wide r)

part-wider : (past wide : List Entry) → Rises wide → IsPartOf past wide → Wider past wide
part-wider past wide r part = record {
  stands = λ name event h.
      let p = part name.lock in
      entry_at-lane name wide ∙ ap (entry_at name) p.1
      ∙ more-stands name event p.0 (lane name.lock past) (lane-rises name.lock p.0 past wide r p.1) (sym (entry_at-lane name past) ∙ h);
  deltas = λ s i name bytes at h.
      let p = part (i + 1) in
      delta_at-lane s i name wide at ∙ ap (delta_at s i name) p.1
      ∙ more-delta s i name bytes p.0 (lane (i + 1) past) (lane-rises (i + 1) p.0 past wide r p.1) (sym (delta_at-lane s i name past at) ∙ h);
  swaps = λ i name event book h.
      let p = part 0 in
      let here : entry_at name (lane 0 past) ≡ Some event =
      subst (λ (k : ℕ). entry_at name (lane k past) ≡ Some event) book (sym (entry_at-lane name past) ∙ h) in
      count_before-lane 0 (is_swap_of i) name.stamp past
      ∙ more-swaps i name event p.0 (lane 0 past) (lane-rises 0 p.0 past wide r p.1) book here
      ∙ sym (ap (count_before 0 (is_swap_of i) name.stamp) p.1) ∙ sym (count_before-lane 0 (is_swap_of i) name.stamp wide);
}

-- the entries with a smaller name, of a part and of the whole
smaller-part : (name : At) (past wide : List Entry) → IsPartOf past wide → IsPartOf (smaller name past) (smaller name wide)
smaller-part name past wide part k =
    let p = part k in
    let keeps : Entry → Bool = λ x. at_lt (name_of x) name in (
      filter keeps p.0,
      filter-swap (λ (e : Entry). e.lock == k) keeps wide ∙ ap (filter keeps) p.1 ∙ filter-append keeps p.0 (lane k past)
          ∙ ap (λ (l : List Entry). filter keeps p.0 ++ l) (filter-swap keeps (λ (e : Entry). e.lock == k) past),
    )

-- an entry of a lock of which the part has all
part-follows : (s : Setting) (e : Entry) (past wide : List Entry) → Rises wide → IsPartOf past wide → lane e.lock past ≡ lane e.lock wide →
    May s (smaller (name_of e) past) e → May s (smaller (name_of e) wide) e
part-follows s e past wide r part own m =
    let keeps : Entry → Bool = λ x. at_lt (name_of x) (name_of e) in
    may-wider s (smaller (name_of e) past) (smaller (name_of e) wide) e
    (part-wider (smaller (name_of e) past) (smaller (name_of e) wide) (filter-rises keeps wide r) (smaller-part (name_of e) past wide part))
    (filter-swap (λ (x : Entry). x.lock == e.lock) keeps past ∙ ap (filter keeps) own ∙ sym (filter-swap (λ (x : Entry). x.lock == e.lock) keeps wide)) m

-- what is true of each entry lock by lock is true of each
lane-all : (P Q : Entry → Type 0) (k : ℕ) (xs : List Entry) → ((e : Entry) → e.lock ≡ k → P e → Q e) → AllByRecursion P xs → AllByRecursion Q (lane k xs)
lane-all P Q k [] f h = tt
lane-all P Q k (x ∷ xs) f h = choose (x.lock == k) refl (lane-all P Q k xs f h.1)
  where
    choose : (b : Bool) → (x.lock == k) ≡ b → AllByRecursion Q (lane k xs) → AllByRecursion Q (cond b (x ∷ lane k xs) (lane k xs))
    choose true q rest = (f x (eqb-true x.lock k q) h.0, rest)
    choose false q rest = rest

lanes-all : (Q : Entry → Type 0) (xs : List Entry) → ((k : ℕ) → AllByRecursion Q (lane k xs)) → AllByRecursion Q xs
lanes-all Q [] h = tt
lanes-all Q (x ∷ xs) h = (
  (subst (λ b. AllByRecursion Q (cond b (x ∷ lane x.lock xs) (lane x.lock xs))) (eq-eqb x.lock x.lock refl) (h x.lock)).0,
  lanes-all Q xs (λ k. rest k (x.lock == k) (h k)),
)
  where
    rest : (k : ℕ) (b : Bool) → AllByRecursion Q (cond b (x ∷ lane k xs) (lane k xs)) → AllByRecursion Q (lane k xs)
    rest k true a = a.1
    rest k false a = a

-- at lock k the whole has what one of its parts has
abbrev HasLaneOf : ℕ → List Entry → List Entry → List Entry → Type 0
HasLaneOf k a b whole = (lane k a ≡ lane k whole) ⊎ (lane k b ≡ lane k whole)

joined-grows : (s : Setting) (a b whole : List Entry) → Grows s a → Grows s b → IsPartOf a whole → IsPartOf b whole → ((k : ℕ) → HasLaneOf k a b whole) → Rises whole →
    Grows s whole
joined-grows s a b whole g h part_a part_b has r =
    follows-grows s whole r (lanes-all (λ (e : Entry). May s (smaller (name_of e) whole) e) whole (λ k. by k (has k)))
  where
    by : (k : ℕ) → HasLaneOf k a b whole → AllByRecursion (λ (e : Entry). May s (smaller (name_of e) whole) e) (lane k whole)
    by k (inl own) =
        subst (AllByRecursion (λ (e : Entry). May s (smaller (name_of e) whole) e)) own
        (lane-all (λ (e : Entry). May s (smaller (name_of e) a) e) (λ (e : Entry). May s (smaller (name_of e) whole) e) k a
        (λ e at m. part-follows s e a whole r part_a (subst (λ (l : ℕ). lane l a ≡ lane l whole) (sym at) own) m) (grows-follows s a g))
    by k (inr own) =
        subst (AllByRecursion (λ (e : Entry). May s (smaller (name_of e) whole) e)) own
        (lane-all (λ (e : Entry). May s (smaller (name_of e) b) e) (λ (e : Entry). May s (smaller (name_of e) whole) e) k b
        (λ e at m. part-follows s e b whole r part_b (subst (λ (l : ℕ). lane l b ≡ lane l whole) (sym at) own) m) (grows-follows s b h))

-- the same with the newest entry first
append-all : (P : Entry → Type 0) (xs : List Entry) (x : Entry) → AllByRecursion P xs → P x → AllByRecursion P (xs ++ x ∷ [])
append-all P [] x h p = (p, tt)
append-all P (y ∷ ys) x h p = (h.0, append-all P ys x h.1 p)

append-rises : (xs : List Entry) (x : Entry) → Rises xs → AllByRecursion (λ (y : Entry). at_lt (name_of x) (name_of y) ≡ true) xs → Rises (xs ++ x ∷ [])
append-rises [] x r h = (tt, tt)
append-rises (y ∷ []) x r h = (h.0, (tt, tt))
append-rises (y ∷ z ∷ ys) x r h = (r.0, append-rises (z ∷ ys) x r.1 h.1)

pub reverse-all : (P : Entry → Type 0) (xs : List Entry) → AllByRecursion P xs → AllByRecursion P (reverse xs)
reverse-all P [] h = tt
reverse-all P (x ∷ xs) h = subst (AllByRecursion P) (sym (reverse-append (x ∷ []) xs)) (append-all P (reverse xs) x (reverse-all P xs h.1) h.0)

named-all : (x : At) (xs : List Entry) → AllByRecursion (λ (z : At). at_lt x z ≡ true) (map name_of xs) → AllByRecursion (λ (y : Entry). at_lt x (name_of y) ≡ true) xs
named-all x [] h = tt
named-all x (y ∷ ys) h = (h.0, named-all x ys h.1)

reverse-rises : (xs : List Entry) → RisesOldest xs → Rises (reverse xs)
reverse-rises [] r = tt
reverse-rises (x ∷ xs) r =
    subst Rises (sym (reverse-append (x ∷ []) xs))
    (append-rises (reverse xs) x (reverse-rises xs (rise-tail (name_of x) (map name_of xs) r))
    (reverse-all (λ (y : Entry). at_lt (name_of x) (name_of y) ≡ true) xs (named-all (name_of x) xs (rises-after (name_of x) (map name_of xs) r))))

lane-reverse : (k : ℕ) (xs : List Entry) → lane k (reverse xs) ≡ reverse (lane k xs)
lane-reverse k xs = filter-reverse (λ (e : Entry). e.lock == k) xs

-- the longer of two lists has the shorter one as its oldest entries
beginning-part : (k : ℕ) (short long whole : List Entry) → IsBeginning (lane k short) (lane k long) → lane k whole ≡ lane k long →
    (newer : List Entry) × (lane k (reverse whole) ≡ newer ++ lane k (reverse short))
beginning-part k short long whole (later, q) own = (
  reverse later,
  lane-reverse k whole ∙ ap (λ (l : List Entry). reverse l) (own ∙ q) ∙ reverse-append (lane k short) later
      ∙ ap (λ (l : List Entry). reverse later ++ l) (sym (lane-reverse k short)),
)

same-part : (k : ℕ) (long whole : List Entry) → lane k whole ≡ lane k long → lane k (reverse long) ≡ lane k (reverse whole)
same-part k long whole own = lane-reverse k long ∙ ap (λ (l : List Entry). reverse l) (sym own) ∙ sym (lane-reverse k whole)

pub joined_parts : JoinedPartsLaw
joined_parts s a b whole g h joins r =
    joined-grows s (reverse a) (reverse b) (reverse whole) g h (λ k. of_a k (joins k)) (λ k. of_b k (joins k)) (λ k. has k (joins k)) (reverse-rises whole r)
  where
    of_a : (k : ℕ) → JoinsLane k a b whole → (newer : List Entry) × (lane k (reverse whole) ≡ newer ++ lane k (reverse a))
    of_a k (inl longer) = ([], sym (same-part k a whole longer.1))
    of_a k (inr shorter) = beginning-part k a b whole shorter.0 shorter.1

    of_b : (k : ℕ) → JoinsLane k a b whole → (newer : List Entry) × (lane k (reverse whole) ≡ newer ++ lane k (reverse b))
    of_b k (inl shorter) = beginning-part k b a whole shorter.0 shorter.1
    of_b k (inr longer) = ([], sym (same-part k b whole longer.1))

    has : (k : ℕ) → JoinsLane k a b whole → HasLaneOf k (reverse a) (reverse b) (reverse whole)
    has k (inl longer) = inl (same-part k a whole longer.1)
    has k (inr longer) = inr (same-part k b whole longer.1)
