-- Values with commas between them.
use Rattle.std.proofs.Common.{◌≡◌, ℕ, zero, suc, ◌+◌, ◌^◌, ◌<◌, ◌≤◌, ◌==◌, nat_lt, cond, Bool, true, false, List, [], ◌∷◌, ◌++◌, length, take, drop, Option, Some, refl, ap, subst, ◌∙◌, length-append, arith}
use Rattle.std.specs.Prelude.{codes}
use Rattle.std.specs.List.{AllByRecursion, position_or_len}
use Rattle.std.specs.Str.{bytes_eq}
use Rattle.std.specs.Fmt.{decimal}
use Rattle.std.proofs.lemmas.Bool.{and_parts}
use Rattle.std.proofs.lemmas.Bool.Decides.{nat_tests}
use Rattle.std.proofs.lemmas.List.{take_at, drop_at}
use Rattle.std.proofs.lemmas.Option.{same_Some}
use Rattle.std.proofs.lemmas.Slice.Eq.{bytes_eq-Decides}
use Rattle.array_journal.specs.declared.at.At.{At}
use Rattle.journal_text.specs.Traces.{at_text, further, listed, names_text, owners_text}
use Rattle.text_fields.specs.Reading.{◌>>=◌, number_of}
use Rattle.journal_text.specs.Words.{at_of}
use Rattle.journal_text.specs.Lists.{item_at, first_of, next_of, all_of, some_of, listed_of}
use Rattle.journal_text.specs.Readable.{IsAt, AreNames, AreOwners}
use Rattle.text_fields.proofs.Cuts.{bind-some, above, above-append, above-lower, lacks-lower, len-of}
use Rattle.text_fields.specs.Laws.{starts}
use Rattle.journal_text.proofs.Numerals.{decimal-above, decimal-some}
use Rattle.journal_text.proofs.Loops.{first-takes, next-takes}
use Rattle.journal_text.proofs.Parts.{IsWord}
use Rattle.journal_text.proofs.WordLaws.{long-word, at-word, at-above, at-some}

-- a word that may stand in a list: it isn't empty, and has no byte up to a dash
pub record IsItem (A : Type 0) (text : A → List ℕ) (Fits : A → Type 0) (read : List ℕ → Option A) : Type 0 where
  pub word : IsWord A text Fits read
  pub high : (v : A) → Fits v → above 45 (text v) ≡ true
  pub some : (v : A) → Fits v → 0 < length (text v)

further-starts : {A : Type 0} (text : A → List ℕ) (vs : List A) → starts (λ b. b == 44) (further text vs) ≡ true
further-starts text [] = refl
further-starts text (v ∷ vs) = refl

item-again : (text rest : List ℕ) → above 45 text ≡ true → starts (λ b. b == 44) rest ≡ true → item_at (text ++ rest) ≡ (text, rest)
unfolding item_at
item-again text rest h e =
    let n : position_or_len (λ b. b == 44) (text ++ rest) ≡ length text = len-of (λ b. b == 44) text rest (lacks-lower 45 44 text (omega arith) h) e in
    ap (λ (k : ℕ). (take k (text ++ rest), drop k (text ++ rest))) n ∙ rw (take_at text rest (length text) refl, drop_at text rest (length text) refl) refl

first-again : (A : Type 0) (text : A → List ℕ) (Fits : A → Type 0) (read : List ℕ → Option A) → IsItem A text Fits read → (v : A) (vs : List A) → Fits v
    → first_of read (text v ++ further text vs) ≡ Some (v, further text vs)
unfolding first_of
first-again A text Fits read i v vs h =
    ap (λ (p : List ℕ × List ℕ). read p.0 >>= λ value. Some (value, p.1)) (item-again (text v) (further text vs) (i.high v h) (further-starts text vs))
    ∙ ap (λ (o : Option A). o >>= λ value. Some (value, further text vs)) (i.word.again v h)

next-again : (A : Type 0) (text : A → List ℕ) (Fits : A → Type 0) (read : List ℕ → Option A) → IsItem A text Fits read → (v : A) (vs : List A) → Fits v
    → next_of read (44 ∷ (text v ++ further text vs)) ≡ Some (v, further text vs)
unfolding next_of
next-again A text Fits read i v vs h = first-again A text Fits read i v vs h

all-again : (A : Type 0) (text : A → List ℕ) (Fits : A → Type 0) (read : List ℕ → Option A) → IsItem A text Fits read → (vs : List A) (n : ℕ) → AllByRecursion Fits vs → length (further text vs) ≤ n
    → all_of (next_of read) n (further text vs) ≡ Some vs
unfolding all_of
all-again A text Fits read i [] n h le = refl
all-again A text Fits read i (v ∷ vs) zero h le = let no : ⊥ = omega arith in absurd no
all-again A text Fits read i (v ∷ vs) (suc n) h le =
    let long : length (text v ++ further text vs) ≡ length (text v) + length (further text vs) = length-append (text v) (further text vs) in
    ap (λ (o : Option (A × List ℕ)). o >>= λ first. all_of (next_of read) n first.1 >>= λ others. Some (first.0 ∷ others)) (next-again A text Fits read i v vs h.0)
    ∙ ap (λ (o : Option (List A)). o >>= λ others. Some (v ∷ others)) (all-again A text Fits read i vs n h.1 (omega (arith, long, le)))

some-again : (A : Type 0) (text : A → List ℕ) (Fits : A → Type 0) (read : List ℕ → Option A) → IsItem A text Fits read → (v : A) (vs : List A) → Fits v → AllByRecursion Fits vs
    → some_of read (text v ++ further text vs) ≡ Some (v ∷ vs)
unfolding some_of
some-again A text Fits read i v vs h k =
    ap (λ (o : Option (A × List ℕ)). o >>= λ first. all_of (next_of read) (length first.1) first.1 >>= λ others. Some (first.0 ∷ others)) (first-again A text Fits read i v vs h)
    ∙ ap (λ (o : Option (List A)). o >>= λ others. Some (v ∷ others)) (all-again A text Fits read i vs (length (further text vs)) k (omega arith))

no-dash : (a b : List ℕ) → 0 < length a → above 45 a ≡ true → bytes_eq (a ++ b) (codes "-") ≡ false
no-dash [] b some h = let no : ⊥ = omega arith in absurd no
no-dash (c ∷ a) b some h =
    let first : nat_lt 45 c ≡ true = (and_parts (nat_lt 45 c) (above 45 a) h).0 in
    let other : (c == 45) ≡ false = grind (arith, nat_tests, first) in
    rw other refl

listed-again : (A : Type 0) (text : A → List ℕ) (Fits : A → Type 0) (read : List ℕ → Option A) → IsItem A text Fits read → (vs : List A) → AllByRecursion Fits vs → listed_of read (listed text vs) ≡ Some vs
unfolding listed_of
listed-again A text Fits read i [] h = refl
listed-again A text Fits read i (v ∷ vs) h =
    ap (λ (b : Bool). cond b (Some []) (some_of read (text v ++ further text vs))) (no-dash (text v) (further text vs) (i.some v h.0) (i.high v h.0))
    ∙ some-again A text Fits read i v vs h.0 h.1

all-takes : (A : Type 0) (text : A → List ℕ) (Fits : A → Type 0) (read : List ℕ → Option A) → IsItem A text Fits read → (n : ℕ) (bytes : List ℕ) (vs : List A) → all_of (next_of read) n bytes ≡ Some vs
    → (bytes ≡ further text vs) × AllByRecursion Fits vs
unfolding all_of
all-takes A text Fits read i n [] vs e = subst (λ (xs : List A). ([] ≡ further text xs) × AllByRecursion Fits xs) (same_Some [] vs e) (refl, tt)
all-takes A text Fits read i zero (b ∷ bytes) vs e = absurd cc
all-takes A text Fits read i (suc n) (b ∷ bytes) vs e =
    let x = bind-some (next_of read (b ∷ bytes)) (λ first. all_of (next_of read) n first.1 >>= λ others. Some (first.0 ∷ others)) vs e in
    let y = bind-some (all_of (next_of read) n x.0.1) (λ others. Some (x.0.0 ∷ others)) vs x.2 in
    let t = next-takes read (b ∷ bytes) x.0.0 x.0.1 x.1 in
    let w = i.word.takes t.0 x.0.0 t.1 in
    let o = all-takes A text Fits read i n x.0.1 y.0 y.1 in
    let all : b ∷ bytes ≡ 44 ∷ (text x.0.0 ++ further text y.0) = t.2 ∙ ap (λ (z : List ℕ). 44 ∷ (z ++ x.0.1)) w.0 ∙ ap (λ (z : List ℕ). 44 ∷ (text x.0.0 ++ z)) o.0 in
    subst (λ (xs : List A). (b ∷ bytes ≡ further text xs) × AllByRecursion Fits xs) (same_Some (x.0.0 ∷ y.0) vs y.2) (all, (w.1, o.1))

some-takes : (A : Type 0) (text : A → List ℕ) (Fits : A → Type 0) (read : List ℕ → Option A) → IsItem A text Fits read → (word : List ℕ) (vs : List A) → some_of read word ≡ Some vs
    → (word ≡ listed text vs) × AllByRecursion Fits vs
unfolding some_of
some-takes A text Fits read i word vs e =
    let x = bind-some (first_of read word) (λ first. all_of (next_of read) (length first.1) first.1 >>= λ others. Some (first.0 ∷ others)) vs e in
    let y = bind-some (all_of (next_of read) (length x.0.1) x.0.1) (λ others. Some (x.0.0 ∷ others)) vs x.2 in
    let t = first-takes read word x.0.0 x.0.1 x.1 in
    let w = i.word.takes t.0 x.0.0 t.1 in
    let o = all-takes A text Fits read i (length x.0.1) x.0.1 y.0 y.1 in
    let all : word ≡ text x.0.0 ++ further text y.0 = t.2 ∙ ap (λ (z : List ℕ). z ++ x.0.1) w.0 ∙ ap (λ (z : List ℕ). text x.0.0 ++ z) o.0 in
    subst (λ (xs : List A). (word ≡ listed text xs) × AllByRecursion Fits xs) (same_Some (x.0.0 ∷ y.0) vs y.2) (all, (w.1, o.1))

listed-takes : (A : Type 0) (text : A → List ℕ) (Fits : A → Type 0) (read : List ℕ → Option A) → IsItem A text Fits read → (word : List ℕ) (vs : List A) → listed_of read word ≡ Some vs
    → (word ≡ listed text vs) × AllByRecursion Fits vs
unfolding listed_of
listed-takes A text Fits read i word vs e = by-test (bytes_eq word (codes "-")) (bytes_eq-Decides word (codes "-")).0 e
  where
    by-test : (b : Bool) → (b ≡ true → word ≡ codes "-") → cond b (Some []) (some_of read word) ≡ Some vs → (word ≡ listed text vs) × AllByRecursion Fits vs
    by-test true dash e = subst (λ (xs : List A). (word ≡ listed text xs) × AllByRecursion Fits xs) (same_Some [] vs e) (dash refl, tt)
    by-test false dash e = some-takes A text Fits read i word vs e

further-solid : (A : Type 0) (text : A → List ℕ) (Fits : A → Type 0) (read : List ℕ → Option A) → IsItem A text Fits read → (vs : List A) → AllByRecursion Fits vs → above 32 (further text vs) ≡ true
further-solid A text Fits read i [] h = refl
further-solid A text Fits read i (v ∷ vs) h = above-append 32 (text v) (further text vs) (i.word.solid v h.0) (further-solid A text Fits read i vs h.1)

listed-solid : (A : Type 0) (text : A → List ℕ) (Fits : A → Type 0) (read : List ℕ → Option A) → IsItem A text Fits read → (vs : List A) → AllByRecursion Fits vs → above 32 (listed text vs) ≡ true
listed-solid A text Fits read i [] h = refl
listed-solid A text Fits read i (v ∷ vs) h = above-append 32 (text v) (further text vs) (i.word.solid v h.0) (further-solid A text Fits read i vs h.1)

listed-word : (A : Type 0) (text : A → List ℕ) (Fits : A → Type 0) (read : List ℕ → Option A) → IsItem A text Fits read → IsWord (List A) (listed text) (AllByRecursion Fits) (listed_of read)
listed-word A text Fits read i = record {
  takes = listed-takes A text Fits read i;
  again = listed-again A text Fits read i;
  solid = listed-solid A text Fits read i;
}

at-item : IsItem At at_text IsAt at_of
at-item = record { word = at-word; high = at-above; some = at-some }

owner-item : IsItem ℕ decimal (λ n. n < 2 ^ 32) (number_of 4294967295)
owner-item = record {
  word = long-word;
  high = λ n h. above-lower 45 47 (decimal n) (omega arith) (decimal-above n (omega (arith, h)));
  some = λ n h. decimal-some n (omega (arith, h));
}

pub names-word : IsWord (List At) names_text AreNames (listed_of at_of)
names-word = listed-word At at_text IsAt at_of at-item

pub owners-word : IsWord (List ℕ) owners_text AreOwners (listed_of (number_of 4294967295))
owners-word = listed-word ℕ decimal (λ n. n < 2 ^ 32) (number_of 4294967295) owner-item
