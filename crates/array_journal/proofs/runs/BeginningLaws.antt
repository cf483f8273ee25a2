-- Beginnings of runs; and a run by the order of its names: each entry may follow those with a smaller name.
use Rattle.std.specs.Prelude.{◌≡◌, ◌==◌, ◌&&◌, ◌<◌, ◌⊎◌, nat_lt, ℕ, true, false, List, [], ◌∷◌, ◌++◌, reverse, take, drop}
use Rattle.std.specs.List.{AllByRecursion}
use Rattle.std.proofs.Common.{refl, ap, sym, ◌∙◌, arith, subst, inl, inr}
use Rattle.std.proofs.lemmas.Bool.{eq-eqb, eqb-true, lt-ltb, ltb-true, and_from, and_parts, or_cases, or_left, or_right, both_ways, cases_Bool, cond-true, cond-false}
use Rattle.std.proofs.lemmas.List.{reverse-append, take-append-drop}
use Rattle.array_journal.specs.declared.at.At.{At}
use Rattle.array_journal.specs.declared.entry.Entry.{Entry}
use Rattle.array_journal.specs.declared.setting.Setting.{Setting}
use Rattle.array_journal.specs.Entries.{name_of, at_lt}
use Rattle.array_journal.specs.May.{May}
use Rattle.array_journal.specs.Run.{Grows, Run}
use Rattle.array_journal.specs.Laws.{Rises, smaller, EachMayFollow}

grows-end : (s : Setting) (newer past : List Entry) → Grows s (newer ++ past) → Grows s past
grows-end s [] past g = g
grows-end s (e ∷ newer) past g = grows-end s newer past g.1

-- each beginning of a run is a run
pub beginning-run : (s : Setting) (journal : List Entry) (n : ℕ) → Run s journal → Run s (take n journal)
beginning-run s journal n g =
    grows-end s (reverse (drop n journal)) (reverse (take n journal))
    (subst (Grows s) (sym (ap (λ (j : List Entry). reverse j) (take-append-drop n journal)) ∙ reverse-append (take n journal) (drop n journal)) g)

-- the order of names
pub lt-cases : (a b : At) → at_lt a b ≡ true → (a.stamp < b.stamp) ⊎ ((a.stamp ≡ b.stamp) × (a.lock < b.lock))
lt-cases a b h = elim (or_cases (nat_lt a.stamp b.stamp) ((a.stamp == b.stamp) && nat_lt a.lock b.lock) h) [
  | inl less ↦ inl (ltb-true a.stamp b.stamp less)
  | inr same ↦ let both : ((a.stamp == b.stamp) ≡ true) × (nat_lt a.lock b.lock ≡ true) = and_parts (a.stamp == b.stamp) (nat_lt a.lock b.lock) same in
      inr (eqb-true a.stamp b.stamp both.0, ltb-true a.lock b.lock both.1)
]

lt-from : (a b : At) → (a.stamp < b.stamp) ⊎ ((a.stamp ≡ b.stamp) × (a.lock < b.lock)) → at_lt a b ≡ true
lt-from a b (inl less) = or_left (nat_lt a.stamp b.stamp) ((a.stamp == b.stamp) && nat_lt a.lock b.lock) (lt-ltb a.stamp b.stamp less)
lt-from a b (inr (same, less)) =
    or_right (nat_lt a.stamp b.stamp) ((a.stamp == b.stamp) && nat_lt a.lock b.lock)
    (and_from (a.stamp == b.stamp) (nat_lt a.lock b.lock) (eq-eqb a.stamp b.stamp same) (lt-ltb a.lock b.lock less))

pub lt-trans : (a b c : At) → at_lt a b ≡ true → at_lt b c ≡ true → at_lt a c ≡ true
lt-trans a b c h k = lt-from a c (join (lt-cases a b h) (lt-cases b c k))
  where
    join : (a.stamp < b.stamp) ⊎ ((a.stamp ≡ b.stamp) × (a.lock < b.lock)) → (b.stamp < c.stamp) ⊎ ((b.stamp ≡ c.stamp) × (b.lock < c.lock)) →
        (a.stamp < c.stamp) ⊎ ((a.stamp ≡ c.stamp) × (a.lock < c.lock))
    join (inl x) (inl y) = inl (omega arith)
    join (inl x) (inr (p, y)) = inl (omega arith)
    join (inr (p, x)) (inl y) = inl (omega arith)
    join (inr (p, x)) (inr (q, y)) = inr (omega arith, omega arith)

lt-self : (a : At) → at_lt a a ≡ false
lt-self a = elim (cases_Bool (at_lt a a)) [
  | inl less ↦ absurd (never (lt-cases a a less))
  | inr none ↦ none
]
  where
    never : (a.stamp < a.stamp) ⊎ ((a.stamp ≡ a.stamp) × (a.lock < a.lock)) → ⊥
    never (inl x) = omega arith
    never (inr (p, x)) = omega arith

lt-other : (a b : At) → at_lt a b ≡ true → at_lt b a ≡ false
lt-other a b h = elim (cases_Bool (at_lt b a)) [
  | inl less ↦ absurd (both_ways (at_lt a a) (lt-self a) (lt-trans a b a h less))
  | inr none ↦ none
]

-- all older names are smaller
abbrev pub AllSmaller : At → List Entry → Type 0
AllSmaller name past = AllByRecursion (λ (x : Entry). at_lt (name_of x) name ≡ true) past

pub smaller-up : (a b : At) (past : List Entry) → at_lt a b ≡ true → AllSmaller a past → AllSmaller b past
smaller-up a b [] h p = tt
smaller-up a b (x ∷ past) h p = (lt-trans (name_of x) a b p.0 h, smaller-up a b past h p.1)

pub rises-smaller : (e : Entry) (past : List Entry) → Rises (e ∷ past) → AllSmaller (name_of e) past
rises-smaller e [] r = tt
rises-smaller e (x ∷ past) r = (r.0, smaller-up (name_of x) (name_of e) past r.0 (rises-smaller x past r.1))

smaller-all : (name : At) (past : List Entry) → AllSmaller name past → smaller name past ≡ past
smaller-all name [] p = refl
smaller-all name (x ∷ past) p =
    cond-true (at_lt (name_of x) name) (x ∷ smaller name past) (smaller name past) p.0 ∙ ap (λ (j : List Entry). x ∷ j) (smaller-all name past p.1)

-- the newest entry isn't smaller than another
pub smaller-newest : (e : Entry) (past : List Entry) → Rises (e ∷ past) → smaller (name_of e) (e ∷ past) ≡ past
smaller-newest e past r =
    cond-false (at_lt (name_of e) (name_of e)) (e ∷ smaller (name_of e) past) (smaller (name_of e) past) (lt-self (name_of e))
    ∙ smaller-all (name_of e) past (rises-smaller e past r)

smaller-older : (x e : Entry) (past : List Entry) → at_lt (name_of x) (name_of e) ≡ true → smaller (name_of x) (e ∷ past) ≡ smaller (name_of x) past
smaller-older x e past h =
    cond-false (at_lt (name_of e) (name_of x)) (e ∷ smaller (name_of x) past) (smaller (name_of x) past) (lt-other (name_of x) (name_of e) h)

-- one by one, each with its smaller name
older-follow : (s : Setting) (e : Entry) (whole past : List Entry) → AllSmaller (name_of e) past →
    AllByRecursion (λ (x : Entry). May s (smaller (name_of x) whole) x) past → AllByRecursion (λ (x : Entry). May s (smaller (name_of x) (e ∷ whole)) x) past
older-follow s e whole [] h p = tt
older-follow s e whole (x ∷ past) h p =
    (subst (λ (j : List Entry). May s j x) (sym (smaller-older x e whole h.0)) p.0, older-follow s e whole past h.1 p.1)

follow-older : (s : Setting) (e : Entry) (whole past : List Entry) → AllSmaller (name_of e) past →
    AllByRecursion (λ (x : Entry). May s (smaller (name_of x) (e ∷ whole)) x) past → AllByRecursion (λ (x : Entry). May s (smaller (name_of x) whole) x) past
follow-older s e whole [] h p = tt
follow-older s e whole (x ∷ past) h p =
    (subst (λ (j : List Entry). May s j x) (smaller-older x e whole h.0) p.0, follow-older s e whole past h.1 p.1)

pub grows-rises : (s : Setting) (past : List Entry) → Grows s past → Rises past
grows-rises s [] g = tt
grows-rises s (e ∷ past) g = (g.0.0, grows-rises s past g.1)

pub grows-follows : (s : Setting) (past : List Entry) → Grows s past → EachMayFollow s past
grows-follows s [] g = tt
grows-follows s (e ∷ past) g = (
  subst (λ (j : List Entry). May s j e) (sym (smaller-newest e past (grows-rises s (e ∷ past) g))) g.0.1,
  older-follow s e past past (rises-smaller e past (grows-rises s (e ∷ past) g)) (grows-follows s past g.1),
)

pub follows-grows : (s : Setting) (past : List Entry) → Rises past → EachMayFollow s past → Grows s past
follows-grows s [] r p = tt
follows-grows s (e ∷ past) r p = (
  (r.0, subst (λ (j : List Entry). May s j e) (smaller-newest e past r) p.0),
  follows-grows s past r.1 (follow-older s e past past (rises-smaller e past r) p.1),
)
