-- What stands in a journal, by name or by lock, and what one more entry leaves of it.
use Rattle.std.specs.Prelude.{◌≡◌, ◌==◌, ◌&&◌, ◌||◌, ◌<◌, ◌≤◌, ◌⊎◌, nat_lt, not, ℕ, suc, ◌+◌, Bool, true, false, List, [], ◌∷◌, Option, Some, None}
use Rattle.std.proofs.Common.{refl, ap, sym, ◌∙◌, cond, arith, subst, inl, inr}
use Rattle.std.proofs.lemmas.Bool.{cases_Bool, cond-false, eq-eqb, ne_eqb, eqb-true, cases_eq, and_parts, or_cases, or_parts, or_left, or_right, ltb-true, lt-ltb, le-ltb, both_ways, false≢true}
use Rattle.array_journal.specs.declared.at.At.{At}
use Rattle.array_journal.specs.declared.entry.Entry.{Entry}
use Rattle.array_journal.specs.declared.event.Event.{Event}
use Rattle.array_journal.specs.declared.setting.Setting.{Setting}
use Rattle.array_journal.specs.Entries.{name_of, same_at, entry_at, some_at, count_at, count_before, stamps_below}
use Rattle.array_journal.specs.May.{passes, MayAt, MayBook, MayTarget}

-- what may follow at the book's lock, and at a target's
pub may-book : (s : Setting) (past : List Entry) (stamp lock : ℕ) (event : Event) → lock ≡ 0 → MayAt s past stamp lock event → MayBook s past stamp event
may-book s past stamp lock event h m = subst (λ (l : ℕ). MayAt s past stamp l event) h m

pub may-here : (s : Setting) (past : List Entry) (stamp lock i : ℕ) (event : Event) → lock ≡ i + 1 → MayAt s past stamp lock event →
    MayTarget s past stamp i event
may-here s past stamp lock i event h m = (subst (λ (l : ℕ). MayAt s past stamp l event) suc-lock m).1
  where
    suc-lock : lock ≡ suc i
    suc-lock = omega arith

-- one more entry at the lock, or at another
pub some_at-here : (k : ℕ) (test : Event → Bool) (e : Entry) (past : List Entry) → e.lock ≡ k →
    some_at k test (e ∷ past) ≡ (test e.event || some_at k test past)
some_at-here k test e past h = ap (λ b. (b && test e.event) || some_at k test past) (eq-eqb e.lock k h)

pub some_at-else : (k : ℕ) (test : Event → Bool) (e : Entry) (past : List Entry) → (e.lock ≡ k → ⊥) →
    some_at k test (e ∷ past) ≡ some_at k test past
some_at-else k test e past h = ap (λ b. (b && test e.event) || some_at k test past) (ne_eqb e.lock k h)

pub some_at-more : (k : ℕ) (test : Event → Bool) (e : Entry) (past : List Entry) → some_at k test past ≡ true → some_at k test (e ∷ past) ≡ true
some_at-more k test e past h = or_right ((e.lock == k) && test e.event) (some_at k test past) h

pub some_at-older : (k : ℕ) (test : Event → Bool) (e : Entry) (past : List Entry) → some_at k test (e ∷ past) ≡ false → some_at k test past ≡ false
some_at-older k test e past h = (or_parts ((e.lock == k) && test e.event) (some_at k test past) h).1

-- the newest entry says so, or an older one does
pub some_at-cases : (k : ℕ) (test : Event → Bool) (e : Entry) (past : List Entry) → some_at k test (e ∷ past) ≡ true →
    ((e.lock ≡ k) × (test e.event ≡ true)) ⊎ (some_at k test past ≡ true)
some_at-cases k test e past h = elim (or_cases ((e.lock == k) && test e.event) (some_at k test past) h) [
  | inl here ↦ let both : ((e.lock == k) ≡ true) × (test e.event ≡ true) = and_parts (e.lock == k) (test e.event) here in
      inl (eqb-true e.lock k both.0, both.1)
  | inr older ↦ inr older
]

pub some_at-newest : (k : ℕ) (test : Event → Bool) (e : Entry) (past : List Entry) → e.lock ≡ k → test e.event ≡ true → some_at k test (e ∷ past) ≡ true
some_at-newest k test e past h t = some_at-here k test e past h ∙ or_left (test e.event) (some_at k test past) t

pub count_at-here : (k : ℕ) (test : Event → Bool) (e : Entry) (past : List Entry) → e.lock ≡ k →
    count_at k test (e ∷ past) ≡ cond (test e.event) (suc (count_at k test past)) (count_at k test past)
count_at-here k test e past h = ap (λ b. cond (b && test e.event) (suc (count_at k test past)) (count_at k test past)) (eq-eqb e.lock k h)

pub count_at-else : (k : ℕ) (test : Event → Bool) (e : Entry) (past : List Entry) → (e.lock ≡ k → ⊥) →
    count_at k test (e ∷ past) ≡ count_at k test past
count_at-else k test e past h = ap (λ b. cond (b && test e.event) (suc (count_at k test past)) (count_at k test past)) (ne_eqb e.lock k h)

one_more : (b : Bool) (n : ℕ) → n ≤ cond b (suc n) n
one_more true n = omega arith
one_more false n = omega arith

pub count_at-more : (k : ℕ) (test : Event → Bool) (e : Entry) (past : List Entry) → count_at k test past ≤ count_at k test (e ∷ past)
count_at-more k test e past = one_more ((e.lock == k) && test e.event) (count_at k test past)

-- a name that is this entry's
abbrev pub IsNameOf : At → Entry → Type 0
IsNameOf name e = (name.stamp ≡ e.stamp) × (name.lock ≡ e.lock)

pub same-name : (name : At) (e : Entry) → same_at name (name_of e) ≡ true → IsNameOf name e
same-name name e h =
    let both : ((name.stamp == e.stamp) ≡ true) × ((name.lock == e.lock) ≡ true) = and_parts (name.stamp == e.stamp) (name.lock == e.lock) h in
    (eqb-true name.stamp e.stamp both.0, eqb-true name.lock e.lock both.1)

-- what passes under a name is the newest entry, or an older one
pub passes-cases : (test : Event → Bool) (name : At) (e : Entry) (past : List Entry) → passes test (entry_at name (e ∷ past)) ≡ true →
    (IsNameOf name e × (test e.event ≡ true)) ⊎ (passes test (entry_at name past) ≡ true)
passes-cases test name e past h = choose (same_at name (name_of e)) (same-name name e) h
  where
    choose : (b : Bool) → (b ≡ true → IsNameOf name e) → passes test (cond b (Some e.event) (entry_at name past)) ≡ true →
        (IsNameOf name e × (test e.event ≡ true)) ⊎ (passes test (entry_at name past) ≡ true)
    choose true f h = inl (f refl, h)
    choose false f h = inr h

pub entry_at-cases : (name : At) (e : Entry) (past : List Entry) (event : Event) → entry_at name (e ∷ past) ≡ Some event →
    (IsNameOf name e × (e.event ≡ event)) ⊎ (entry_at name past ≡ Some event)
entry_at-cases name e past event h = choose (same_at name (name_of e)) (same-name name e) h
  where
    choose : (b : Bool) → (b ≡ true → IsNameOf name e) → cond b (Some e.event) (entry_at name past) ≡ Some event →
        (IsNameOf name e × (e.event ≡ event)) ⊎ (entry_at name past ≡ Some event)
    choose true f h = inl (f refl, cc)
    choose false f h = inr h

pub passes-event : (test : Event → Bool) (found : Option Event) → passes test found ≡ true → (event : Event) × ((found ≡ Some event) × (test event ≡ true))
passes-event test None h = absurd (false≢true h)
passes-event test (Some event) h = (event, (refl, h))

pub passes-said : (test : Event → Bool) (name : At) (past : List Entry) (event : Event) → entry_at name past ≡ Some event → test event ≡ true →
    passes test (entry_at name past) ≡ true
passes-said test name past event e h = ap (passes test) e ∙ h

pub passes-weaker : (test weaker : Event → Bool) (found : Option Event) → ((event : Event) → test event ≡ true → weaker event ≡ true) →
    passes test found ≡ true → passes weaker found ≡ true
passes-weaker test weaker None f h = h
passes-weaker test weaker (Some event) f h = f event h

-- an entry that is named stands at its lock
pub some-named : (k : ℕ) (test : Event → Bool) (name : At) (past : List Entry) → name.lock ≡ k → passes test (entry_at name past) ≡ true →
    some_at k test past ≡ true
some-named k test name [] h p = p
some-named k test name (e ∷ past) h p = elim (passes-cases test name e past p) [
  | inl here ↦ some_at-newest k test e past (sym here.0.1 ∙ h) here.1
  | inr older ↦ some_at-more k test e past (some-named k test name past h older)
]

-- and has a smaller stamp than the next entry of its lock
pub named-below : (test : Event → Bool) (stamp : ℕ) (name : At) (past : List Entry) → stamps_below name.lock stamp past ≡ true →
    passes test (entry_at name past) ≡ true → name.stamp < stamp
named-below test stamp name [] b p = absurd (false≢true p)
named-below test stamp name (e ∷ past) b p = elim (passes-cases test name e past p) [
  | inl here ↦ below here.0
  | inr older ↦ named-below test stamp name past parts.1 older
]
  where
    parts : ((not (e.lock == name.lock) || nat_lt e.stamp stamp) ≡ true) × (stamps_below name.lock stamp past ≡ true)
    parts = and_parts (not (e.lock == name.lock) || nat_lt e.stamp stamp) (stamps_below name.lock stamp past) b

    below : IsNameOf name e → name.stamp < stamp
    below same = elim (or_cases (not (e.lock == name.lock)) (nat_lt e.stamp stamp) parts.0) [
      | inl other ↦ absurd (both_ways (not (e.lock == name.lock)) (ap not (eq-eqb e.lock name.lock (sym same.1))) other)
      | inr less ↦ let l : e.stamp < stamp = ltb-true e.stamp stamp less in let f : name.stamp ≡ e.stamp = same.0 in omega arith
    ]

-- so it isn't named as that entry
pub not-later : (name : At) (e : Entry) (past : List Entry) (event : Event) → stamps_below e.lock e.stamp past ≡ true →
    entry_at name past ≡ Some event → same_at name (name_of e) ≡ false
not-later name e past event b h = elim (cases_Bool (same_at name (name_of e))) [
  | inl same ↦ absurd (never (same-name name e same))
  | inr other ↦ other
]
  where
    never : IsNameOf name e → ⊥
    never same =
        let l : name.stamp < e.stamp =
        named-below (λ x. true) e.stamp name past (subst (λ (k : ℕ). stamps_below k e.stamp past ≡ true) (sym same.1) b) (passes-said (λ x. true) name past event h refl) in
        let f : name.stamp ≡ e.stamp = same.0 in omega arith

-- and is found under its name after one more entry
pub entry_at-more : (name : At) (e : Entry) (past : List Entry) (event : Event) → stamps_below e.lock e.stamp past ≡ true →
    entry_at name past ≡ Some event → entry_at name (e ∷ past) ≡ Some event
entry_at-more name e past event b h =
    cond-false (same_at name (name_of e)) (Some e.event) (entry_at name past) (not-later name e past event b h) ∙ h

pub passes-more : (test : Event → Bool) (name : At) (e : Entry) (past : List Entry) → stamps_below e.lock e.stamp past ≡ true →
    passes test (entry_at name past) ≡ true → passes test (entry_at name (e ∷ past)) ≡ true
passes-more test name e past b p =
    let found : (event : Event) × ((entry_at name past ≡ Some event) × (test event ≡ true)) = passes-event test (entry_at name past) p in
    passes-said test name (e ∷ past) found.0 (entry_at-more name e past found.0 b found.1.0) found.1.1

-- how many stand with a smaller stamp
before-grows : (h l m t : Bool) (a b : ℕ) → (l ≡ true → m ≡ true) → a ≤ b → cond (h && l && t) (suc a) a ≤ cond (h && m && t) (suc b) b
before-grows false l m t a b f k = k
before-grows true true true true a b f k = omega arith
before-grows true true true false a b f k = k
before-grows true true false t a b f k = absurd (false≢true (f refl))
before-grows true false true true a b f k = omega arith
before-grows true false true false a b f k = k
before-grows true false false t a b f k = k

pub count_before-le : (k : ℕ) (test : Event → Bool) (stamp later : ℕ) (past : List Entry) → stamp ≤ later →
    count_before k test stamp past ≤ count_before k test later past
count_before-le k test stamp later [] h = omega arith
count_before-le k test stamp later (e ∷ past) h =
    before-grows (e.lock == k) (nat_lt e.stamp stamp) (nat_lt e.stamp later) (test e.event) (count_before k test stamp past) (count_before k test later past)
    (λ l. lt-ltb e.stamp later (omega (arith, ltb-true e.stamp stamp l))) (count_before-le k test stamp later past h)

pub count_before-all : (k : ℕ) (test : Event → Bool) (stamp : ℕ) (past : List Entry) → count_before k test stamp past ≤ count_at k test past
count_before-all k test stamp [] = omega arith
count_before-all k test stamp (e ∷ past) =
    step (e.lock == k) (nat_lt e.stamp stamp) (test e.event) (count_before k test stamp past) (count_at k test past) (count_before-all k test stamp past)
  where
    step : (h l t : Bool) (a b : ℕ) → a ≤ b → cond (h && l && t) (suc a) a ≤ cond (h && t) (suc b) b
    step false l t a b k = k
    step true true true a b k = omega arith
    step true true false a b k = k
    step true false true a b k = omega arith
    step true false false a b k = k

pub count_before-more : (k : ℕ) (test : Event → Bool) (stamp : ℕ) (e : Entry) (past : List Entry) →
    count_before k test stamp past ≤ count_before k test stamp (e ∷ past)
count_before-more k test stamp e past = one_more ((e.lock == k) && nat_lt e.stamp stamp && test e.event) (count_before k test stamp past)

-- a later entry isn't one of them
pub count_before-still : (k : ℕ) (test : Event → Bool) (stamp : ℕ) (e : Entry) (past : List Entry) → (e.lock ≡ k → stamp ≤ e.stamp) →
    count_before k test stamp (e ∷ past) ≡ count_before k test stamp past
count_before-still k test stamp e past h = elim (cases_eq e.lock k) [
  | inl here ↦ ap (λ b. cond ((e.lock == k) && b && test e.event) (suc (count_before k test stamp past)) (count_before k test stamp past)) (le-ltb e.stamp stamp (h here))
      ∙ none (e.lock == k) (test e.event)
  | inr other ↦ ap (λ b. cond (b && nat_lt e.stamp stamp && test e.event) (suc (count_before k test stamp past)) (count_before k test stamp past)) (ne_eqb e.lock k other)
]
  where
    none : (b c : Bool) → cond (b && false && c) (suc (count_before k test stamp past)) (count_before k test stamp past) ≡ count_before k test stamp past
    none true c = refl
    none false c = refl

-- a named entry isn't one of those before it, but of all and of those before a later stamp
pub count_before-named : (k : ℕ) (test : Event → Bool) (name : At) (later : ℕ) (past : List Entry) → name.lock ≡ k → passes test (entry_at name past) ≡ true →
    name.stamp < later → count_before k test name.stamp past < count_before k test later past
count_before-named k test name later [] h p l = absurd (false≢true p)
count_before-named k test name later (e ∷ past) h p l = elim (passes-cases test name e past p) [
  | inl here ↦ newest here.0 here.1
  | inr older ↦ step (e.lock == k) (nat_lt e.stamp name.stamp) (nat_lt e.stamp later) (test e.event) (count_before k test name.stamp past) (count_before k test later past)
      (λ m. lt-ltb e.stamp later (omega (arith, ltb-true e.stamp name.stamp m))) (count_before-named k test name later past h older l)
]
  where
    step : (h l m t : Bool) (a b : ℕ) → (l ≡ true → m ≡ true) → a < b → cond (h && l && t) (suc a) a < cond (h && m && t) (suc b) b
    step false l m t a b f k = k
    step true true true true a b f k = omega arith
    step true true true false a b f k = k
    step true true false t a b f k = absurd (false≢true (f refl))
    step true false true true a b f k = omega arith
    step true false true false a b f k = k
    step true false false t a b f k = k

    counted : (a b c : Bool) (n : ℕ) → a ≡ true → b ≡ true → c ≡ true → cond (a && b && c) (suc n) n ≡ suc n
    counted a b c n p q r = ap (λ x. cond (x && b && c) (suc n) n) p ∙ ap (λ x. cond (x && c) (suc n) n) q ∙ ap (λ x. cond x (suc n) n) r

    newest : IsNameOf name e → test e.event ≡ true → count_before k test name.stamp (e ∷ past) < count_before k test later (e ∷ past)
    newest same t =
        let f : name.stamp ≡ e.stamp = same.0 in
        let q : count_before k test name.stamp (e ∷ past) ≡ count_before k test name.stamp past = count_before-still k test name.stamp e past (λ x. omega arith) in
        let r : count_before k test later (e ∷ past) ≡ suc (count_before k test later past) =
        counted (e.lock == k) (nat_lt e.stamp later) (test e.event) (count_before k test later past) (eq-eqb e.lock k (sym same.1 ∙ h)) (lt-ltb e.stamp later (omega arith)) t in
        let u : count_before k test name.stamp past ≤ count_before k test later past = count_before-le k test name.stamp later past (omega arith) in
        omega arith

pub count_before-of_all : (k : ℕ) (test : Event → Bool) (name : At) (past : List Entry) → name.lock ≡ k → passes test (entry_at name past) ≡ true →
    count_before k test name.stamp past < count_at k test past
count_before-of_all k test name past h p =
    let a : count_before k test name.stamp past < count_before k test (suc name.stamp) past = count_before-named k test name (suc name.stamp) past h p (omega arith) in
    let b : count_before k test (suc name.stamp) past ≤ count_at k test past = count_before-all k test (suc name.stamp) past in omega arith
