-- The one journal of several lists grows by what is appended to one of them, and it is what a merge of them gives.
use Rattle.std.specs.Prelude.{◌≡◌, ◌==◌, ◌&&◌, ◌||◌, nat_lt, ◌<◌, ◌≤◌, ◌+◌, ℕ, zero, suc, Bool, true, false, List, [], ◌∷◌, ◌++◌, length, cond}
use Rattle.std.proofs.Common.{refl, ap, sym, subst, ◌∙◌, arith, add-zero, get_or, set, length-append, append_assoc}
use Rattle.std.specs.List.{AllByRecursion}
use Rattle.std.specs.List.Sorted.{IsPermutation}
use Rattle.std.proofs.lemmas.Bool.{true≢false}
use Rattle.std.proofs.lemmas.Bool.Decides.{nat_tests}
use Rattle.std.proofs.lemmas.List.Sorted.{All-permutation, IsPermutation-sym}
use Rattle.std.proofs.lemmas.List.Elements.{All-from_recursion, recursion_from_All}
use Rattle.array_journal.specs.declared.entry.Entry.{Entry}
use Rattle.array_journal.specs.Entries.{name_of, same_at, at_lt}
use Rattle.array_journal.specs.Merge.{joined, Rises, AreOfLocks}
use Rattle.array_journal.proofs.runs.MergeOrder.{rises-more}
use Rattle.array_journal.specs.OneJournal.{placed, by_name, journal_of, AreKept}

-- a smaller stamp makes a smaller name
lower : (s t k l : ℕ) → s < t → (nat_lt s t || ((s == t) && nat_lt k l)) ≡ true
lower s t k l h = grind (arith, nat_tests)

higher : (s t k l : ℕ) → t < s → (nat_lt s t || ((s == t) && nat_lt k l)) ≡ false
higher s t k l h = grind (arith, nat_tests)

abbrev AllBelow : ℕ → List Entry → Type 0
AllBelow stamp entries = AllByRecursion (λ (e : Entry). e.stamp < stamp) entries

-- an entry with a greater stamp than all stays at the end
placed-below : (x e : Entry) (entries : List Entry) → x.stamp < e.stamp → placed x (entries ++ e ∷ []) ≡ placed x entries ++ e ∷ []
placed-below x e [] h = ap (λ b. cond b (x ∷ e ∷ []) (e ∷ x ∷ [])) (lower x.stamp e.stamp x.lock e.lock h)
placed-below x e (f ∷ entries) h = by_test (at_lt (name_of x) (name_of f)) (placed-below x e entries h)
  where
    by_test : (b : Bool) → placed x (entries ++ e ∷ []) ≡ placed x entries ++ e ∷ [] → cond b (x ∷ f ∷ entries ++ e ∷ []) (f ∷ placed x (entries ++ e ∷ [])) ≡ cond b (x ∷ f ∷ entries) (f ∷ placed x entries) ++ e ∷ []
    by_test true rest = refl
    by_test false rest = ap (λ es. f ∷ es) rest

placed-last : (e : Entry) (entries : List Entry) → AllBelow e.stamp entries → placed e entries ≡ entries ++ e ∷ []
placed-last e [] below = refl
placed-last e (f ∷ entries) below =
    ap (λ b. cond b (e ∷ f ∷ entries) (f ∷ placed e entries)) (higher e.stamp f.stamp e.lock f.lock below.0)
    ∙ ap (λ es. f ∷ es) (placed-last e entries below.1)

-- what holds of all entries holds of them in order, and the other way round
all-placed : (P : Entry → Type 0) (x : Entry) (entries : List Entry) → P x → AllByRecursion P entries → AllByRecursion P (placed x entries)
all-placed P x [] h all = (h, tt)
all-placed P x (f ∷ entries) h all = by_test (at_lt (name_of x) (name_of f)) (all-placed P x entries h all.1)
  where
    by_test : (b : Bool) → AllByRecursion P (placed x entries) → AllByRecursion P (cond b (x ∷ f ∷ entries) (f ∷ placed x entries))
    by_test true rest = (h, all)
    by_test false rest = (all.0, rest)

all-by_name : (P : Entry → Type 0) (entries : List Entry) → AllByRecursion P entries → AllByRecursion P (by_name entries)
all-by_name P [] all = tt
all-by_name P (x ∷ entries) all = all-placed P x (by_name entries) all.0 (all-by_name P entries all.1)

all-unplaced : (P : Entry → Type 0) (x : Entry) (entries : List Entry) → AllByRecursion P (placed x entries) → P x × AllByRecursion P entries
all-unplaced P x [] all = (all.0, tt)
all-unplaced P x (f ∷ entries) all = by_test (at_lt (name_of x) (name_of f)) (all-unplaced P x entries) all
  where
    by_test : (b : Bool) → (AllByRecursion P (placed x entries) → P x × AllByRecursion P entries) → AllByRecursion P (cond b (x ∷ f ∷ entries) (f ∷ placed x entries)) → P x × (P f × AllByRecursion P entries)
    by_test true rest h = h
    by_test false rest h = let r = rest h.1 in (r.0, (h.0, r.1))

all-from_name : (P : Entry → Type 0) (entries : List Entry) → AllByRecursion P (by_name entries) → AllByRecursion P entries
all-from_name P [] all = tt
all-from_name P (x ∷ entries) all =
    let r = all-unplaced P x (by_name entries) all in
    (r.0, all-from_name P entries r.1)

all-append : (P : Entry → Type 0) (xs ys : List Entry) → AllByRecursion P xs → AllByRecursion P ys → AllByRecursion P (xs ++ ys)
all-append P [] ys h k = k
all-append P (x ∷ xs) ys h k = (h.0, all-append P xs ys h.1 k)

pub all-first : (P : Entry → Type 0) (xs ys : List Entry) → AllByRecursion P (xs ++ ys) → AllByRecursion P xs
all-first P [] ys h = tt
all-first P (x ∷ xs) ys h = (h.0, all-first P xs ys h.1)

pub all-rest : (P : Entry → Type 0) (xs ys : List Entry) → AllByRecursion P (xs ++ ys) → AllByRecursion P ys
all-rest P [] ys h = h
all-rest P (x ∷ xs) ys h = all-rest P xs ys h.1

-- an entry with a greater stamp than all, wherever it stands in the lists, is the last of the journal
by_name-more : (xs ys : List Entry) (e : Entry) → AllBelow e.stamp (xs ++ ys) → by_name (xs ++ e ∷ ys) ≡ by_name (xs ++ ys) ++ e ∷ []
by_name-more [] ys e below = placed-last e (by_name ys) (all-by_name (λ (x : Entry). x.stamp < e.stamp) ys below)
by_name-more (x ∷ xs) ys e below =
    ap (placed x) (by_name-more xs ys e below.1) ∙ placed-below x e (by_name (xs ++ ys)) below.0

length-placed : (x : Entry) (entries : List Entry) → length (placed x entries) ≡ suc (length entries)
length-placed x [] = refl
length-placed x (f ∷ entries) = by_test (at_lt (name_of x) (name_of f)) (length-placed x entries)
  where
    by_test : (b : Bool) → length (placed x entries) ≡ suc (length entries) → length (cond b (x ∷ f ∷ entries) (f ∷ placed x entries)) ≡ suc (suc (length entries))
    by_test true rest = refl
    by_test false rest = ap suc rest

length-by_name : (entries : List Entry) → length (by_name entries) ≡ length entries
length-by_name [] = refl
length-by_name (x ∷ entries) = length-placed x (by_name entries) ∙ ap suc (length-by_name entries)

-- lists that rise and have the same entries are one
rises-tail : (a : Entry) (entries : List Entry) → Rises (a ∷ entries) → Rises entries
rises-tail a [] r = tt
rises-tail a (b ∷ entries) r = r.1

after-first : (s t u k l m : ℕ) → (nat_lt s t || ((s == t) && nat_lt k l)) ≡ true → (nat_lt t u || ((t == u) && nat_lt l m)) ≡ true →
    (nat_lt s u || ((s == u) && nat_lt k m)) ≡ true
after-first s t u k l m h j = grind (arith, nat_tests)

-- the first is before all others
first-below : (a : Entry) (entries : List Entry) → Rises (a ∷ entries) → AllByRecursion (λ (e : Entry). at_lt (name_of a) (name_of e) ≡ true) entries
first-below a [] r = tt
first-below a (b ∷ entries) r = (r.0, weaker entries (first-below b entries r.1))
  where
    weaker : (es : List Entry) → AllByRecursion (λ (e : Entry). at_lt (name_of b) (name_of e) ≡ true) es → AllByRecursion (λ (e : Entry). at_lt (name_of a) (name_of e) ≡ true) es
    weaker [] h = tt
    weaker (e ∷ es) h = (after-first a.stamp b.stamp e.stamp a.lock b.lock e.lock r.0 h.0, weaker es h.1)

all-map : (P Q : Entry → Type 0) → ((e : Entry) → P e → Q e) → (entries : List Entry) → AllByRecursion P entries → AllByRecursion Q entries
all-map P Q f [] h = tt
all-map P Q f (e ∷ es) h = (f e h.0, all-map P Q f es h.1)

not-above : (s t k l : ℕ) → (nat_lt s t || ((s == t) && nat_lt k l)) ≡ true → (nat_lt t s || ((t == s) && nat_lt l k)) ≡ false
not-above s t k l h = grind (arith, nat_tests)

not-itself : (s k : ℕ) → (nat_lt s s || ((s == s) && nat_lt k k)) ≡ false
not-itself s k = grind (arith, nat_tests)

one-name : (s t k l : ℕ) → (nat_lt s t || ((s == t) && nat_lt k l)) ≡ false → (nat_lt t s || ((t == s) && nat_lt l k)) ≡ false → ((s == t) && (k == l)) ≡ true
one-name s t k l h j = grind (arith, nat_tests)

own-name : (s t k l : ℕ) → (nat_lt s t || ((s == t) && nat_lt k l)) ≡ true → ((s == t) && (k == l)) ≡ false
own-name s t k l h = grind (arith, nat_tests)

-- what holds of the entries of one list holds of those of the other
abbrev pub Holds_too : List Entry → List Entry → Type 1
Holds_too xs ys = (P : Entry → Type 0) → AllByRecursion P xs → AllByRecursion P ys

none-below : (a : Entry) (rest : List Entry) → Rises (a ∷ rest) → AllByRecursion (λ (e : Entry). at_lt (name_of e) (name_of a) ≡ false) (a ∷ rest)
none-below a rest r = (
  not-itself a.stamp a.lock,
  all-map (λ (e : Entry). at_lt (name_of a) (name_of e) ≡ true) (λ (e : Entry). at_lt (name_of e) (name_of a) ≡ false)
      (λ e h. not-above a.stamp e.stamp a.lock e.lock h) rest (first-below a rest r),
)

alone : (a : Entry) (rest : List Entry) → Rises (a ∷ rest) → AllByRecursion (λ (e : Entry). same_at (name_of a) (name_of e) ≡ true → e ≡ a) (a ∷ rest)
alone a rest r = (
  λ h. refl,
  all-map (λ (e : Entry). at_lt (name_of a) (name_of e) ≡ true) (λ (e : Entry). same_at (name_of a) (name_of e) ≡ true → e ≡ a)
      (λ e h k. absurd (true≢false (sym k ∙ own-name a.stamp e.stamp a.lock e.lock h))) rest (first-below a rest r),
)

same-itself : (s k : ℕ) → ((s == s) && (k == k)) ≡ true
same-itself s k = grind (arith, nat_tests)

-- it holds of an entry with another name
abbrev Other : Entry → (Entry → Type 0) → Entry → Type 0
Other a P e = same_at (name_of a) (name_of e) ≡ false → P e

-- what holds of one list's entries but the first holds of the other's
others-hold : (a b : Entry) (rest bs : List Entry) → b ≡ a → Rises (b ∷ bs) → Holds_too (a ∷ rest) (b ∷ bs) → Holds_too rest bs
others-hold a b rest bs first rises there P all = both bs (there (Other a P) whole).1 apart
  where
    whole : AllByRecursion (Other a P) (a ∷ rest)
    whole = (λ h. absurd (true≢false (sym (same-itself a.stamp a.lock) ∙ h)), all-map P (Other a P) (λ e p h. p) rest all)

    apart : AllByRecursion (λ (e : Entry). at_lt (name_of a) (name_of e) ≡ true) bs
    apart = subst (λ (x : Entry). AllByRecursion (λ (e : Entry). at_lt (name_of x) (name_of e) ≡ true) bs) first (first-below b bs rises)

    both : (es : List Entry) → AllByRecursion (Other a P) es → AllByRecursion (λ (e : Entry). at_lt (name_of a) (name_of e) ≡ true) es → AllByRecursion P es
    both [] h k = tt
    both (e ∷ es) h k = (h.0 (own-name a.stamp e.stamp a.lock e.lock k.0), both es h.1 k.1)

pub rises-one : (xs ys : List Entry) → Rises xs → Rises ys → Holds_too xs ys → Holds_too ys xs → xs ≡ ys
rises-one [] [] r s there back = refl
rises-one [] (b ∷ bs) r s there back = absurd (there (λ e. ⊥) tt).0
rises-one (a ∷ rest) [] r s there back = absurd (back (λ e. ⊥) tt).0
rises-one (a ∷ rest) (b ∷ bs) r s there back =
    let not_before : at_lt (name_of b) (name_of a) ≡ false = (there (λ (e : Entry). at_lt (name_of e) (name_of a) ≡ false) (none-below a rest r)).0 in
    let not_after : at_lt (name_of a) (name_of b) ≡ false = (back (λ (e : Entry). at_lt (name_of e) (name_of b) ≡ false) (none-below b bs s)).0 in
    let same : same_at (name_of a) (name_of b) ≡ true = one-name a.stamp b.stamp a.lock b.lock not_after not_before in
    let first : b ≡ a = (there (λ (e : Entry). same_at (name_of a) (name_of e) ≡ true → e ≡ a) (alone a rest r)).0 same in
    ap (λ e. e ∷ rest) (sym first)
    ∙ ap (λ es. b ∷ es) (rises-one rest bs (rises-tail a rest r) (rises-tail b bs s) (others-hold a b rest bs first s there) (others-hold b a bs rest (sym first) r back))

-- a permutation has the same entries
permuted : (P : Entry → Type 0) (xs ys : List Entry) → IsPermutation xs ys → AllByRecursion P xs → AllByRecursion P ys
permuted P xs ys perm all = recursion_from_All P ys (All-permutation P xs ys perm (All-from_recursion P xs all))

-- a rising list of the entries of some lists is their journal
pub merged-journal : (stamp : ℕ) (lists : List (List Entry)) (journal : List Entry) → AreKept stamp lists → IsPermutation (joined lists) journal →
    Rises journal → journal ≡ journal_of lists
unfolding journal_of
merged-journal stamp lists journal kept perm rises =
    rises-one journal (by_name (joined lists)) rises kept.rises
    (λ P all. all-by_name P (joined lists) (permuted P journal (joined lists) (IsPermutation-sym (joined lists) journal perm) all))
    (λ P all. permuted P (joined lists) journal perm (all-from_name P (joined lists) all))

-- the lists with one more entry at the end of one of them
abbrev pub with_entry : List (List Entry) → ℕ → Entry → List (List Entry)
with_entry lists i e = set lists i (get_or lists i [] ++ e ∷ [])

of_locks-more : (lock : ℕ) (lists : List (List Entry)) (i : ℕ) (e : Entry) → AreOfLocks lock lists → AllBelow e.stamp (joined lists) → e.lock ≡ lock + i →
    AreOfLocks lock (with_entry lists i e)
of_locks-more lock [] i e h below at = tt
of_locks-more lock (l ∷ lists) zero e h below at =
    ((all-append (λ (x : Entry). x.lock ≡ lock) l (e ∷ []) h.0.0 (at ∙ add-zero lock, tt), rises-more l e h.0.1 (all-first (λ (x : Entry). x.stamp < e.stamp) l (joined lists) below)), h.1)
of_locks-more lock (l ∷ lists) (suc i) e h below at =
    (h.0, of_locks-more (suc lock) lists i e h.1 (all-rest (λ (x : Entry). x.stamp < e.stamp) l (joined lists) below) (at ∙ omega arith))

-- where an entry comes to stand
record Parted (lists : List (List Entry)) (i : ℕ) (e : Entry) (xs ys : List Entry) : Type 0 where
  whole : joined lists ≡ xs ++ ys
  grown : joined (with_entry lists i e) ≡ xs ++ e ∷ ys

parted : (lists : List (List Entry)) (i : ℕ) (e : Entry) → i < length lists → (xs : List Entry) × ((ys : List Entry) × Parted lists i e xs ys)
parted [] i e h = absurd (omega arith)
parted (l ∷ lists) zero e h = (l, (joined lists, record { whole = refl; grown = append_assoc l (e ∷ []) (joined lists) }))
parted (l ∷ lists) (suc i) e h =
    let r = parted lists i e (omega arith) in (
      l ++ r.0,
      (
        r.1.0,
        record {
          whole = ap (λ es. l ++ es) r.1.1.whole ∙ sym (append_assoc l r.0 r.1.0);
          grown = ap (λ es. l ++ es) r.1.1.grown ∙ sym (append_assoc l r.0 (e ∷ r.1.0));
        },
      ),
    )

all-weaker : (m n : ℕ) (entries : List Entry) → m ≤ n → AllByRecursion (λ (e : Entry). e.stamp ≤ m) entries → AllByRecursion (λ (e : Entry). e.stamp ≤ n) entries
all-weaker m n entries h all = all-map (λ (e : Entry). e.stamp ≤ m) (λ (e : Entry). e.stamp ≤ n) (λ e k. omega (arith, k)) entries all

-- an entry with the next stamp, at the end of the list of its lock, ends the journal
pub journal-more : (stamp : ℕ) (lists : List (List Entry)) (i : ℕ) (e : Entry) → AreKept stamp lists → i < length lists → e.stamp ≡ stamp + 1 →
    journal_of (with_entry lists i e) ≡ journal_of lists ++ e ∷ []
unfolding journal_of
journal-more stamp lists i e kept inside next =
    let p = parted lists i e inside in
    let below : AllBelow e.stamp (p.0 ++ p.1.0) = subst (AllBelow e.stamp) p.1.1.whole
    (all-map (λ (x : Entry). x.stamp ≤ stamp) (λ (x : Entry). x.stamp < e.stamp) (λ x k. omega (arith, k, next)) (joined lists) kept.up_to) in
    ap by_name p.1.1.grown ∙ by_name-more p.0 p.1.0 e below ∙ ap (λ es. by_name es ++ e ∷ []) (sym p.1.1.whole)

pub length-journal : (stamp : ℕ) (lists : List (List Entry)) → AreKept stamp lists → length (journal_of lists) ≡ stamp
unfolding journal_of
length-journal stamp lists kept = length-by_name (joined lists) ∙ sym kept.counted

pub kept-more : (stamp : ℕ) (lists : List (List Entry)) (i : ℕ) (e : Entry) → AreKept stamp lists → i < length lists → e.stamp ≡ stamp + 1 → e.lock ≡ i →
    AreKept (stamp + 1) (with_entry lists i e)
unfolding journal_of
kept-more stamp lists i e kept inside next at =
    let p = parted lists i e inside in
    let Below : Entry → Type 0 = λ x. x.stamp < e.stamp in
    let below : AllBelow e.stamp (joined lists) = all-map (λ (x : Entry). x.stamp ≤ stamp) Below (λ x k. omega (arith, k, next)) (joined lists) kept.up_to in
    let upto : AllByRecursion (λ (x : Entry). x.stamp ≤ stamp + 1) (joined lists) = all-weaker stamp (stamp + 1) (joined lists) (omega arith) kept.up_to in
    let Upto : List Entry → Type 0 = λ es. AllByRecursion (λ (x : Entry). x.stamp ≤ stamp + 1) es in
    let parts : Upto (p.0 ++ p.1.0) = subst Upto p.1.1.whole upto in
    record {
      of_locks = of_locks-more 0 lists i e kept.of_locks below (at ∙ omega arith);
      rises = subst Rises (sym (journal-more stamp lists i e kept inside next))
          (rises-more (journal_of lists) e kept.rises (all-by_name Below (joined lists) below));
      counted = ap (λ n. n + 1) kept.counted ∙ ap (λ es. length es + 1) p.1.1.whole ∙ longer p.0 p.1.0 ∙ ap length (sym p.1.1.grown);
      up_to = subst Upto (sym p.1.1.grown) (all-append (λ (x : Entry). x.stamp ≤ stamp + 1) p.0 (e ∷ p.1.0) (all-first (λ (x : Entry). x.stamp ≤ stamp + 1) p.0 p.1.0 parts)
          (omega (arith, next), all-rest (λ (x : Entry). x.stamp ≤ stamp + 1) p.0 p.1.0 parts));
    }
  where
    longer : (xs ys : List Entry) → length (xs ++ ys) + 1 ≡ length (xs ++ e ∷ ys)
    longer xs ys = omega (arith, length-append xs ys, length-append xs (e ∷ ys))
