-- Where a text is cut: at the first byte that passes a test, and behind a text at its front.
use Rattle.std.proofs.Common.{◌≡◌, ℕ, suc, ◌+◌, ◌<◌, ◌≤◌, ◌==◌, nat_lt, not, cond, Bool, true, false, List, [], ◌∷◌, ◌++◌, length, get_or, take, drop, position, Option, Some, None, refl, sym, ap, subst, ◌∙◌, drop-cons, length-append, arith}
use Rattle.std.specs.List.{list_all, position_or_len}
use Rattle.std.specs.Str.{bytes_eq}
use Rattle.std.proofs.lemmas.Bool.{and_parts, and_from, lt-ltb, ltb-true, ltb-false}
use Rattle.std.proofs.lemmas.Bool.Decides.{nat_tests}
use Rattle.std.proofs.lemmas.List.{take_at, drop_at, take-append-drop}
use Rattle.std.proofs.lemmas.List.Folds.{list_all-append}
use Rattle.std.proofs.lemmas.List.Quantifiers.{position-Some}
use Rattle.std.proofs.lemmas.List.Sums.{prefix_len-le-length}
use Rattle.std.proofs.lemmas.Option.{cond_some, some_pair_parts}
use Rattle.std.proofs.lemmas.Slice.Eq.{bytes_eq-Decides}
use Rattle.text_fields.specs.Reading.{◌>>=◌, is_mark, front_at, word_at, cut_at, stripped}
use Rattle.text_fields.specs.Laws.{lacks_any, lacks, starts, CutsAreExact, StripsAreExact, WordsAreExact}

-- the value of a step that did not fail
pub bind-some : {A B : Type 0} (o : Option A) (f : A → Option B) (y : B) → (o >>= f) ≡ Some y → (x : A) × (o ≡ Some x) × (f x ≡ Some y)
bind-some (Some x) f y e = (x, refl, e)
bind-some None f y e = absurd cc

-- ---- bytes that a text has, or lacks

-- each byte of a text is above this one
abbrev pub above : ℕ → List ℕ → Bool
above low text = list_all (λ b. nat_lt low b) text

pub above-append : (low : ℕ) (a b : List ℕ) → above low a ≡ true → above low b ≡ true → above low (a ++ b) ≡ true
above-append low a b h i = rw (list_all-append (λ x. nat_lt low x) a b, h, i) refl

pub above-lower : (low high : ℕ) (text : List ℕ) → low ≤ high → above high text ≡ true → above low text ≡ true
above-lower low high [] le h = refl
above-lower low high (b ∷ text) le h =
    let p = and_parts (nat_lt high b) (above high text) h in
    let lt : high < b = ltb-true high b p.0 in
    and_from (nat_lt low b) (above low text) (lt-ltb low b (omega arith)) (above-lower low high text le p.1)

pub lacks-append : (mark : ℕ) (a b : List ℕ) → lacks mark a ≡ true → lacks mark b ≡ true → lacks mark (a ++ b) ≡ true
lacks-append mark a b h i = rw (list_all-append (λ x. not (x == mark)) a b, h, i) refl

above-other : (low mark b : ℕ) → mark ≤ low → nat_lt low b ≡ true → not (b == mark) ≡ true
above-other low mark b le h = grind (arith, nat_tests, h)

pub lacks-lower : (low mark : ℕ) (text : List ℕ) → mark ≤ low → above low text ≡ true → lacks mark text ≡ true
lacks-lower low mark [] le h = refl
lacks-lower low mark (b ∷ text) le h =
    let p = and_parts (nat_lt low b) (above low text) h in
    and_from (not (b == mark)) (lacks mark text) (above-other low mark b le p.0) (lacks-lower low mark text le p.1)

-- ---- the first byte that passes a test

cut-step : (t : Bool) (n m : ℕ) → not t ≡ true → n ≡ m → cond (not t) (1 + n) 0 ≡ suc m
cut-step t n m h e = rw (h, e) (omega arith)

cut-stop : (t : Bool) (n : ℕ) → t ≡ true → cond (not t) (1 + n) 0 ≡ 0
cut-stop t n h = rw h refl

-- a text without such a byte ends before the first one
pub len-of : (test : ℕ → Bool) (text rest : List ℕ) → lacks_any test text ≡ true → starts test rest ≡ true → position_or_len test (text ++ rest) ≡ length text
len-of test [] [] h e = refl
len-of test [] (b ∷ rest) h e = cut-stop (test b) _ e
len-of test (c ∷ text) rest h e =
    let p = and_parts (not (test c)) (lacks_any test text) h in
    cut-step (test c) _ (length text) p.0 (len-of test text rest p.1 e)

-- before the first such byte stands none, and with it the rest begins
pub record IsCut (test : ℕ → Bool) (bytes : List ℕ) (k : ℕ) : Type 0 where
  pub before : lacks_any test (take k bytes) ≡ true
  pub after : starts test (drop k bytes) ≡ true

cut-later : (test : ℕ → Bool) (b : ℕ) (bytes : List ℕ) (n : ℕ) (t : Bool) → test b ≡ t → IsCut test bytes n → IsCut test (b ∷ bytes) (cond (not t) (1 + n) 0)
cut-later test b bytes n true h more = record { before = refl; after = h }
cut-later test b bytes n false h more =
    let one : 1 + n ≡ suc n = omega arith in
    rw one (record { before = and_from (not (test b)) (lacks_any test (take n bytes)) (ap not h) more.before; after = more.after })

pub first-cut : (test : ℕ → Bool) (bytes : List ℕ) → IsCut test bytes (position_or_len test bytes)
first-cut test [] = record { before = refl; after = refl }
first-cut test (b ∷ bytes) = cut-later test b bytes (position_or_len test bytes) (test b) refl (first-cut test bytes)

-- the first place that passes, or the end
pub position_some : (test : ℕ → Bool) (bytes : List ℕ) (k : ℕ) → position test bytes ≡ Some k → position_or_len test bytes ≡ k
position_some test bytes k e = (cond_some (nat_lt (position_or_len test bytes) (length bytes)) (position_or_len test bytes) k e).1

none-false : {A : Type 0} (b : Bool) (x : A) → cond b (Some x) None ≡ None → b ≡ false
none-false true x e = absurd cc
none-false false x e = refl

pub position_none : (test : ℕ → Bool) (bytes : List ℕ) → position test bytes ≡ None → position_or_len test bytes ≡ length bytes
position_none test bytes e =
    let past : length bytes ≤ position_or_len test bytes = ltb-false _ _ (none-false (nat_lt (position_or_len test bytes) (length bytes)) (position_or_len test bytes) e) in
    let le : position_or_len test bytes ≤ length bytes = prefix_len-le-length (λ b. not (test b)) bytes in
    omega (arith, past, le)

-- ---- words

not-mark : (b : ℕ) → nat_lt 32 b ≡ true → not (is_mark b) ≡ true
not-mark b h = grind (arith, nat_tests, h)

pub lacks-marks : (text : List ℕ) → above 32 text ≡ true → lacks_any is_mark text ≡ true
lacks-marks [] h = refl
lacks-marks (b ∷ text) h =
    let p = and_parts (nat_lt 32 b) (above 32 text) h in
    and_from (not (is_mark b)) (lacks_any is_mark text) (not-mark b p.0) (lacks-marks text p.1)

-- a word may end before these bytes
abbrev pub ends : List ℕ → Bool
ends bytes = starts is_mark bytes

pub front-takes : (bytes : List ℕ) → bytes ≡ (front_at bytes).0 ++ (front_at bytes).1
unfolding front_at
front-takes bytes = sym (take-append-drop (position_or_len is_mark bytes) bytes)

front-cut : (bytes : List ℕ) → (lacks_any is_mark (front_at bytes).0 ≡ true) × (ends (front_at bytes).1 ≡ true)
unfolding front_at
front-cut bytes = let c = first-cut is_mark bytes in (c.before, c.after)

front-back : (text rest : List ℕ) → lacks_any is_mark text ≡ true → ends rest ≡ true → front_at (text ++ rest) ≡ (text, rest)
unfolding front_at
front-back text rest h e =
    let n : position_or_len is_mark (text ++ rest) ≡ length text = len-of is_mark text rest h e in
    ap (λ (k : ℕ). (take k (text ++ rest), drop k (text ++ rest))) n ∙ rw (take_at text rest (length text) refl, drop_at text rest (length text) refl) refl

pub front-again : (text rest : List ℕ) → above 32 text ≡ true → ends rest ≡ true → front_at (text ++ rest) ≡ (text, rest)
front-again text rest h e = front-back text rest (lacks-marks text h) e

-- what is read behind a space, and what it is read of
pub record IsNext (bytes word rest : List ℕ) : Type 0 where
  pub split : bytes ≡ 32 ∷ (word ++ rest)
  pub front : front_at (word ++ rest) ≡ (word, rest)

next-is : (bytes word rest : List ℕ) → word_at bytes ≡ Some (word, rest) → IsNext bytes word rest
unfolding word_at
next-is [] word rest e = absurd cc
next-is (b ∷ bytes) word rest e =
    let g = cond_some (b == 32) (front_at bytes) (word, rest) e in
    let space : b ≡ 32 = grind (arith, nat_tests, g.0) in
    let whole : bytes ≡ word ++ rest = front-takes bytes ∙ ap (λ (p : List ℕ × List ℕ). p.0 ++ p.1) g.1 in
    record {
      split = ap (λ (x : ℕ). x ∷ bytes) space ∙ ap (λ (t : List ℕ). 32 ∷ t) whole;
      front = ap front_at (sym whole) ∙ g.1;
    }

pub word-takes : (bytes word rest : List ℕ) → word_at bytes ≡ Some (word, rest) → bytes ≡ 32 ∷ (word ++ rest)
word-takes bytes word rest e = (next-is bytes word rest e).split

word-back : (word rest : List ℕ) → lacks_any is_mark word ≡ true → ends rest ≡ true → word_at (32 ∷ (word ++ rest)) ≡ Some (word, rest)
unfolding word_at
word-back word rest h e = ap (λ (p : List ℕ × List ℕ). Some p) (front-back word rest h e)

pub word-again : (word rest : List ℕ) → above 32 word ≡ true → ends rest ≡ true → word_at (32 ∷ (word ++ rest)) ≡ Some (word, rest)
word-again word rest h e = word-back word rest (lacks-marks word h) e

word-cut : (bytes word rest : List ℕ) → word_at bytes ≡ Some (word, rest) → (bytes ≡ 32 ∷ (word ++ rest)) × (lacks_any is_mark word ≡ true) × (ends rest ≡ true)
word-cut bytes word rest e =
    let n = next-is bytes word rest e in
    let c = front-cut (word ++ rest) in
    let P : List ℕ × List ℕ → Type 0 = λ p. (lacks_any is_mark p.0 ≡ true) × (ends p.1 ≡ true) in
    let both : P (word, rest) = subst P n.front c in
    (n.split, both.0, both.1)

pub words-exact : WordsAreExact
words-exact bytes word rest = (word-cut bytes word rest, λ h. ap word_at h.0 ∙ word-back word rest h.1 h.2)

-- ---- parts with a mark between them

-- what stands at a cut
pub record IsMarked (mark : ℕ) (bytes front rest : List ℕ) : Type 0 where
  pub split : bytes ≡ front ++ mark ∷ rest
  pub free : lacks mark front ≡ true

cut-is : (mark : ℕ) (bytes front rest : List ℕ) → cut_at mark bytes ≡ Some (front, rest) → IsMarked mark bytes front rest
unfolding cut_at
cut-is mark bytes front rest e =
    let b = bind-some (position (λ b. b == mark) bytes) (λ k. Some (take k bytes, drop 1 (drop k bytes))) (front, rest) e in
    let k = b.0 in
    let p = position-Some (λ b. b == mark) bytes k 0 b.1 in
    let at : get_or bytes k 0 ≡ mark = grind (arith, nat_tests, p.1) in
    let parts = some_pair_parts (take k bytes) front (drop 1 (drop k bytes)) rest b.2 in
    let behind : drop k bytes ≡ mark ∷ drop (suc k) bytes = drop-cons bytes k 0 p.0 ∙ ap (λ (x : ℕ). x ∷ drop (suc k) bytes) at in
    let rest-is : drop (suc k) bytes ≡ rest = ap (λ (xs : List ℕ). drop 1 xs) (sym behind) ∙ parts.1 in
    let place : position_or_len (λ b. b == mark) bytes ≡ k = position_some (λ b. b == mark) bytes k b.1 in
    let none : lacks mark (take k bytes) ≡ true = subst (λ (n : ℕ). lacks mark (take n bytes) ≡ true) place (first-cut (λ b. b == mark) bytes).before in
    record {
      split = sym (take-append-drop k bytes) ∙ rw (parts.0, behind, rest-is) refl;
      free = subst (λ (t : List ℕ). lacks mark t ≡ true) parts.0 none;
    }

pub cut-takes : (mark : ℕ) (bytes front rest : List ℕ) → cut_at mark bytes ≡ Some (front, rest) → bytes ≡ front ++ mark ∷ rest
cut-takes mark bytes front rest e = (cut-is mark bytes front rest e).split

pub cut-again : (mark : ℕ) (front rest : List ℕ) → lacks mark front ≡ true → cut_at mark (front ++ mark ∷ rest) ≡ Some (front, rest)
unfolding cut_at
cut-again mark front rest h =
    let stop : (mark == mark) ≡ true = grind (arith, nat_tests) in
    let at : position_or_len (λ b. b == mark) (front ++ mark ∷ rest) ≡ length front = len-of (λ b. b == mark) front (mark ∷ rest) h stop in
    let len : length (front ++ mark ∷ rest) ≡ length front + suc (length rest) = length-append front (mark ∷ rest) in
    let within : nat_lt (length front) (length (front ++ mark ∷ rest)) ≡ true = rw len (lt-ltb _ _ (omega arith)) in
    rw (at, within, take_at front (mark ∷ rest) (length front) refl, drop_at front (mark ∷ rest) (length front) refl) refl

pub cuts-exact : CutsAreExact
cuts-exact mark bytes front rest = (λ e. let c = cut-is mark bytes front rest e in (c.split, c.free), λ h. ap (cut_at mark) h.0 ∙ cut-again mark front rest h.1)

-- ---- what stands behind a text

pub stripped-takes : (text bytes rest : List ℕ) → stripped text bytes ≡ Some rest → bytes ≡ text ++ rest
unfolding stripped
stripped-takes text bytes rest e =
    let g = cond_some (bytes_eq (take (length text) bytes) text) (drop (length text) bytes) rest e in
    let same : take (length text) bytes ≡ text = (bytes_eq-Decides (take (length text) bytes) text).0 g.0 in
    sym (take-append-drop (length text) bytes) ∙ rw (same, g.1) refl

pub stripped-again : (text rest : List ℕ) → stripped text (text ++ rest) ≡ Some rest
unfolding stripped
stripped-again text rest =
    let same : bytes_eq text text ≡ true = (bytes_eq-Decides text text).1 refl in
    rw (take_at text rest (length text) refl, drop_at text rest (length text) refl, same) refl

pub strips-exact : StripsAreExact
strips-exact text bytes rest = (stripped-takes text bytes rest, λ e. ap (stripped text) e ∙ stripped-again text rest)
