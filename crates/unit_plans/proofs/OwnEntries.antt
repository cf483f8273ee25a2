-- What stands of a command in a run, told from its own entries.
use Rattle.std.specs.List.{AllByRecursion}
use Rattle.std.specs.Prelude.{◌≡◌, ◌==◌, ◌&&◌, ◌||◌, ◌≤◌, ◌<◌, ◌⊎◌, ℕ, Bool, true, false, List, [], ◌∷◌, ◌++◌, map, reverse, filter, Some}
use Rattle.std.proofs.Common.{refl, ap, sym, ◌∙◌, subst, cond, arith, inl, inr}
use Rattle.std.proofs.lemmas.List.{reverse-append, map-append}
use Rattle.array_journal.specs.declared.at.At.{At}
use Rattle.array_journal.specs.declared.entry.Entry.{Entry}
use Rattle.array_journal.specs.declared.event.Event.{Event}
use Rattle.array_journal.specs.declared.setting.Setting.{Setting}
use Rattle.array_journal.specs.Entries.{name_of, at_lt, entry_at, some_at}
use Rattle.array_journal.specs.Laws.{Rises}
use Rattle.array_journal.specs.May.{Rise}
use Rattle.array_journal.specs.OwnEntries.{Owner, mine, carries, IsOwnTest}
use Rattle.array_journal.specs.Run.{Grows}
use Rattle.array_journal.proofs.runs.BeginningLaws.{AllSmaller, grows-rises, rises-smaller, lt-cases}
use Rattle.array_journal.proofs.runs.JoinedParts.{reverse-all}
use Rattle.array_journal.proofs.runs.OneJournal.{all-first}
use Rattle.array_journal.proofs.runs.OwnLaws.{own_tests-agree}
use Rattle.array_journal.proofs.runs.Standing.{entry_at-more, entry_at-cases}
use Rattle.array_journal.proofs.runs.Steps.{entry_at-here}
use Rattle.xor_target.specs.Logs.{last_stamp}
use Rattle.xor_target.proofs.WaitLists.{all-filtered}

-- an entry stands under its name
abbrev pub Stands : List Entry → Entry → Type 0
Stands past e = entry_at (name_of e) past ≡ Some e.event

stand-more : (s : Setting) (e : Entry) (past entries : List Entry) → Grows s (e ∷ past) → AllByRecursion (Stands past) entries → AllByRecursion (Stands (e ∷ past)) entries
stand-more s e past [] g h = tt
stand-more s e past (x ∷ entries) g h = (entry_at-more (name_of x) e past x.event g.0.1.0 h.0, stand-more s e past entries g h.1)

-- in a run each does
all-stand : (s : Setting) (past : List Entry) → Grows s past → AllByRecursion (Stands past) past
all-stand s [] g = tt
all-stand s (e ∷ past) g = (entry_at-here (name_of e) e past refl refl, stand-more s e past past g (all-stand s past g.1))

pub own-stand : (s : Setting) (owner : Owner) (past own : List Entry) → Grows s past → mine owner past ≡ own → AllByRecursion (Stands past) own
own-stand s owner past own g is =
    subst (AllByRecursion (Stands past)) is (all-filtered (Stands past) (λ (e : Entry). carries owner e.event) past (all-stand s past g))

-- ---- the names of entries, each of which is greater than those behind it

abbrev pub Falls : List Entry → Type 0
Falls [] = Unit {0}
Falls (e ∷ entries) = AllSmaller (name_of e) entries × Falls entries

rises-falls : (past : List Entry) → Rises past → Falls past
rises-falls [] r = tt
rises-falls (e ∷ past) r = (rises-smaller e past r, rises-falls past r.1)

falls-filtered : (test : Entry → Bool) (entries : List Entry) → Falls entries → Falls (filter test entries)
falls-filtered test [] f = tt
falls-filtered test (e ∷ entries) f = by (test e) (all-filtered (λ (x : Entry). at_lt (name_of x) (name_of e) ≡ true) test entries f.0) (falls-filtered test entries f.1)
  where
    by : (b : Bool) → AllSmaller (name_of e) (filter test entries) → Falls (filter test entries) → Falls (cond b (e ∷ filter test entries) (filter test entries))
    by true below rest = (below, rest)
    by false below rest = rest

falls-first : (xs ys : List Entry) → Falls (xs ++ ys) → Falls xs
falls-first [] ys f = tt
falls-first (x ∷ xs) ys f = (all-first (λ (e : Entry). at_lt (name_of e) (name_of x) ≡ true) xs ys f.0, falls-first xs ys f.1)

rise-more : (names : List At) (name : At) → Rise names → AllByRecursion (λ (x : At). at_lt x name ≡ true) names → Rise (names ++ name ∷ [])
rise-more [] name r h = tt
rise-more (a ∷ []) name r h = (h.0, tt)
rise-more (a ∷ b ∷ names) name r h = (r.0, rise-more (b ∷ names) name r.1 h.1)

all-names : (P : At → Type 0) (entries : List Entry) → AllByRecursion (λ (e : Entry). P (name_of e)) entries → AllByRecursion P (map name_of entries)
all-names P [] h = tt
all-names P (e ∷ entries) h = (h.0, all-names P entries h.1)

-- their names rise from the oldest on
pub falls-rise : (entries : List Entry) → Falls entries → Rise (map name_of (reverse entries))
falls-rise [] f = tt
falls-rise (e ∷ entries) f =
    let names : map name_of (reverse (e ∷ entries)) ≡ map name_of (reverse entries) ++ name_of e ∷ [] =
    ap (map name_of) (reverse-append (e ∷ []) entries) ∙ map-append name_of (reverse entries) (e ∷ []) in
    let below : AllByRecursion (λ (x : At). at_lt x (name_of e) ≡ true) (map name_of (reverse entries)) =
    all-names (λ (x : At). at_lt x (name_of e) ≡ true) (reverse entries) (reverse-all (λ (x : Entry). at_lt (name_of x) (name_of e) ≡ true) entries f.0) in
    subst Rise (sym names) (rise-more (map name_of (reverse entries)) (name_of e) (falls-rise entries f.1) below)

pub own-rise : (s : Setting) (owner : Owner) (past entries more : List Entry) → Grows s past → mine owner past ≡ entries ++ more →
    Rise (map name_of (reverse entries))
own-rise s owner past entries more g is =
    falls-rise entries
    (falls-first entries more (subst Falls is (falls-filtered (λ (e : Entry). carries owner e.event) past (rises-falls past (grows-rises s past g)))))

-- ---- tests of a command's own entries

-- what none of a command's entries says, no entry says
pub none-says : (owner : Owner) (lock : ℕ) (test : Event → Bool) (past own : List Entry) → IsOwnTest owner test → mine owner past ≡ own →
    AllByRecursion (λ (e : Entry). test e.event ≡ false) own → some_at lock test past ≡ false
none-says owner lock test past own its is none =
    own_tests-agree owner lock test past its ∙ ap (some_at lock test) is ∙ none-of own none
  where
    none-of : (entries : List Entry) → AllByRecursion (λ (e : Entry). test e.event ≡ false) entries → some_at lock test entries ≡ false
    none-of [] h = refl
    none-of (e ∷ entries) h = ap (λ b. ((e.lock == lock) && b) || some_at lock test entries) h.0 ∙ both (e.lock == lock) (some_at lock test entries) (none-of entries h.1)
      where
        both : (a b : Bool) → b ≡ false → ((a && false) || b) ≡ false
        both true b h = h
        both false b h = h

-- ---- stamps that were seen

pub last-above : (s : Setting) (e : Entry) (past : List Entry) → Grows s (e ∷ past) → last_stamp past ≤ e.stamp
last-above s e [] g = omega arith
last-above s e (x ∷ past) g = at-most (lt-cases (name_of x) (name_of e) g.0.0)
  where
    at-most : (x.stamp < e.stamp) ⊎ ((x.stamp ≡ e.stamp) × (x.lock < e.lock)) → x.stamp ≤ e.stamp
    at-most (inl less) = omega (arith, less)
    at-most (inr same) = let same-stamp = same.0 in omega (arith, same-stamp)

-- no entry of a run has a greater stamp than the newest
pub named-seen : (s : Setting) (name : At) (past : List Entry) (event : Event) → Grows s past → entry_at name past ≡ Some event → name.stamp ≤ last_stamp past
named-seen s name [] event g h = cc
named-seen s name (e ∷ past) event g h = elim (entry_at-cases name e past event h) [
  | inl here ↦ let same = here.0.0 in omega (arith, same)
  | inr older ↦ omega (arith, named-seen s name past event g.1 older, last-above s e past g)
]
