-- The rules of the header's lines.
use Rattle.std.proofs.Common.{◌≡◌, ℕ, ◌+◌, ◌-◌, ◌<◌, ◌≤◌, ◌&&◌, ◌==◌, nat_lt, nat_le, Bool, true, false, List, [], ◌∷◌, ◌++◌, length, map, get_or, min, inl, inr, Option, Some, None, refl, sym, ap, ◌∙◌, arith}
use Rattle.std.specs.Prelude.{codes, if◌then◌else◌}
use Rattle.std.specs.List.{find, list_all, AllByRecursion}
use Rattle.std.specs.Str.{bytes_eq}
use Rattle.std.proofs.lemmas.Bool.Decides.{nat_tests}
use Rattle.std.proofs.lemmas.Option.{cond_some, same_Some}
use Rattle.std.proofs.lemmas.Slice.Eq.{bytes_eq-Decides}
use Rattle.stripe_layout.specs.declared.mode.Mode.{Mode}
use Rattle.stripe_layout.specs.declared.mode.Mode.TheVariants.{Supervised, ThirdParty, Readback}
use Rattle.text_fields.specs.Spelling.{numeral}
use Rattle.host_scripts.specs.Scripts.{letter, version_text, maxima_text, mode_text}
use Rattle.text_fields.specs.Reading.{◌>>=◌, cut_at, stripped}
use Rattle.host_scripts.specs.Loose.{numeral_of, exact_of, else_of, version_of, number_of, three_of, maxima_of, modes, mode_of, is_letter, are_letters, letters_of, order_of}
use Rattle.text_fields.proofs.Cuts.{bind-some, lacks-append, cut-takes, cut-again, stripped-takes, stripped-again}
use Rattle.text_fields.specs.Laws.{lacks}
use Rattle.text_fields.proofs.NumeralLaws.{IsCapped, capped-takes, capped-again, numeral-lacks}
use Rattle.host_scripts.proofs.Rules.{Says, IsRule}
use Rattle.host_scripts.proofs.ShapeTexts.{IsKnown}

-- the number that the code keeps of one of any size
abbrev pub cap : ℕ → ℕ
cap n = min n 4294967296

pub numeral-takes : (text : List ℕ) (v : ℕ) → numeral_of text ≡ Some v → IsCapped 4294967296 text v
numeral-takes text v e = capped-takes 4294967296 text v e

pub numeral-again : (n : ℕ) → numeral_of (numeral n) ≡ Some (cap n)
numeral-again n = capped-again 4294967296 n

-- ---- one text

pub exact-takes : {V : Type 0} (want : List ℕ) (value : V) (text : List ℕ) (v : V) → exact_of want value text ≡ Some v → (text ≡ want) × (value ≡ v)
unfolding exact_of
exact-takes want value text v e =
    let g = cond_some (bytes_eq text want) value v e in
    ((bytes_eq-Decides text want).0 g.0, g.1)

pub exact-again : {V : Type 0} (want : List ℕ) (value : V) → exact_of want value want ≡ Some value
unfolding exact_of
exact-again want value =
    let same : bytes_eq want want ≡ true = (bytes_eq-Decides want want).1 refl in
    rw same refl

-- ---- the version

version-by : (text : List ℕ) (v : ℕ) (o : Option ℕ) → exact_of (version_text 1) 1 text ≡ o → else_of (λ version. Some version) o (exact_of (version_text 2) 2 text) ≡ Some v → Says version_text (λ w. w) IsKnown text v
version-by text v (Some w) h e =
    let g = exact-takes (version_text 1) 1 text w h in
    let one : v ≡ 1 = sym (g.1 ∙ same_Some w v e) in
    record { word = v; spelt = g.0 ∙ ap version_text (sym one); formed = inl one; value = refl }
version-by text v None h e =
    let g = exact-takes (version_text 2) 2 text v e in
    record { word = v; spelt = g.0 ∙ ap version_text g.1; formed = inr (sym g.1); value = refl }

version-takes : (text : List ℕ) (v : ℕ) → version_of text ≡ Some v → Says version_text (λ w. w) IsKnown text v
unfolding version_of
version-takes text v e = version-by text v (exact_of (version_text 1) 1 text) refl e

first-again : version_of (version_text 1) ≡ Some 1
unfolding version_of exact_of
first-again = refl

second-again : version_of (version_text 2) ≡ Some 2
unfolding version_of exact_of
second-again = refl

version-again : (w : ℕ) → IsKnown w → version_of (version_text w) ≡ Some w
version-again w (inl one) = ap (λ (v : ℕ). version_of (version_text v)) one ∙ first-again ∙ ap (λ (v : ℕ). Some v) (sym one)
version-again w (inr two) = ap (λ (v : ℕ). version_of (version_text v)) two ∙ second-again ∙ ap (λ (v : ℕ). Some v) (sym two)

version-clean : (w : ℕ) → IsKnown w → lacks 10 (version_text w) ≡ true
version-clean w (inl one) = ap (λ (v : ℕ). lacks 10 (version_text v)) one
version-clean w (inr two) = ap (λ (v : ℕ). lacks 10 (version_text v)) two

pub version_rule : IsRule version_of version_text (λ w. w) IsKnown
version_rule = record { takes = version-takes; again = version-again; clean = version-clean }

-- ---- a number

number-takes : (keyword text : List ℕ) (v : ℕ) → number_of keyword text ≡ Some v → Says (λ n. keyword ++ numeral n) cap (λ n. Unit {0}) text v
unfolding number_of
number-takes keyword text v e =
    let b = bind-some (stripped keyword text) numeral_of v e in
    let n = numeral-takes b.0 v b.2 in
    record { word = n.number; spelt = stripped-takes keyword text b.0 b.1 ∙ ap (λ (t : List ℕ). keyword ++ t) n.spelt; formed = tt; value = n.value }

number-again : (keyword : List ℕ) (n : ℕ) → number_of keyword (keyword ++ numeral n) ≡ Some (cap n)
unfolding number_of
number-again keyword n = rw (stripped-again keyword (numeral n)) (numeral-again n)

pub number_rule : (keyword : List ℕ) → lacks 10 keyword ≡ true → IsRule (number_of keyword) (λ n. keyword ++ numeral n) cap (λ n. Unit {0})
number_rule keyword clean = record {
  takes = number-takes keyword;
  again = λ n _. number-again keyword n;
  clean = λ n _. lacks-append 10 keyword (numeral n) clean (numeral-lacks 10 n (omega arith));
}

-- ---- the maxima

abbrev pub kept_maxima : List ℕ → List ℕ
kept_maxima m = cap (get_or m 0 0) ∷ cap (get_or m 1 0) ∷ cap (get_or m 2 0) ∷ []

abbrev pub maxima_line : List ℕ → List ℕ
maxima_line m = maxima_text (get_or m 0 0) (get_or m 1 0) (get_or m 2 0)

pub spaced_same : (x y a b : List ℕ) → x ≡ a → y ≡ b → x ++ 32 ∷ y ≡ a ++ 32 ∷ b
spaced_same x y a b e f = rw (e, f) refl

three-same : (w g r a b c : ℕ) → w ≡ a → g ≡ b → r ≡ c → w ∷ g ∷ r ∷ [] ≡ a ∷ b ∷ c ∷ []
three-same w g r a b c e f h = rw (e, f, h) refl

maxima-takes : (text v : List ℕ) → maxima_of text ≡ Some v → Says maxima_line kept_maxima (λ m. length m ≡ 3) text v
unfolding maxima_of three_of
maxima-takes text v e =
    let a = bind-some (stripped (codes "maxima ") text) (λ all. cut_at 32 all >>= λ write. cut_at 32 write.1 >>= λ regenerate. three_of write.0 regenerate.0 regenerate.1) v e in
    let b = bind-some (cut_at 32 a.0) (λ write. cut_at 32 write.1 >>= λ regenerate. three_of write.0 regenerate.0 regenerate.1) v a.2 in
    let c = bind-some (cut_at 32 b.0.1) (λ regenerate. three_of b.0.0 regenerate.0 regenerate.1) v b.2 in
    let w = bind-some (numeral_of b.0.0) (λ w. numeral_of c.0.0 >>= λ g. numeral_of c.0.1 >>= λ r. Some (w ∷ g ∷ r ∷ [])) v c.2 in
    let g = bind-some (numeral_of c.0.0) (λ g. numeral_of c.0.1 >>= λ r. Some (w.0 ∷ g ∷ r ∷ [])) v w.2 in
    let r = bind-some (numeral_of c.0.1) (λ r. Some (w.0 ∷ g.0 ∷ r ∷ [])) v g.2 in
    let nw = numeral-takes b.0.0 w.0 w.1 in
    let ng = numeral-takes c.0.0 g.0 g.1 in
    let nr = numeral-takes c.0.1 r.0 r.1 in
    let last : b.0.1 ≡ numeral ng.number ++ 32 ∷ numeral nr.number = cut-takes 32 b.0.1 c.0.0 c.0.1 c.1 ∙ spaced_same c.0.0 c.0.1 (numeral ng.number) (numeral nr.number) ng.spelt nr.spelt in
    let all : a.0 ≡ numeral nw.number ++ 32 ∷ (numeral ng.number ++ 32 ∷ numeral nr.number) = cut-takes 32 a.0 b.0.0 b.0.1 b.1 ∙ spaced_same b.0.0 b.0.1 (numeral nw.number) (numeral ng.number ++ 32 ∷ numeral nr.number) nw.spelt last in
    let m = nw.number ∷ ng.number ∷ nr.number ∷ [] in
    let value : w.0 ∷ g.0 ∷ r.0 ∷ [] ≡ kept_maxima m = three-same w.0 g.0 r.0 (cap nw.number) (cap ng.number) (cap nr.number) nw.value ng.value nr.value in
    record { word = m; spelt = stripped-takes (codes "maxima ") text a.0 a.1 ∙ ap (λ (t : List ℕ). codes "maxima " ++ t) all; formed = refl; value = sym (same_Some (w.0 ∷ g.0 ∷ r.0 ∷ []) v r.2) ∙ value }

maxima-again : (a b c : ℕ) → maxima_of (maxima_text a b c) ≡ Some (cap a ∷ cap b ∷ cap c ∷ [])
unfolding maxima_of three_of
maxima-again a b c =
    let all = numeral a ++ 32 ∷ (numeral b ++ 32 ∷ numeral c) in
    let others = numeral b ++ 32 ∷ numeral c in
    let s : stripped (codes "maxima ") (maxima_text a b c) ≡ Some all = stripped-again (codes "maxima ") all in
    let x : cut_at 32 all ≡ Some (numeral a, others) = cut-again 32 (numeral a) others (numeral-lacks 32 a (omega arith)) in
    let y : cut_at 32 others ≡ Some (numeral b, numeral c) = cut-again 32 (numeral b) (numeral c) (numeral-lacks 32 b (omega arith)) in
    rw (s, x, y, numeral-again a, numeral-again b, numeral-again c) refl

maxima-clean : (a b c : ℕ) → lacks 10 (maxima_text a b c) ≡ true
maxima-clean a b c =
    let last = lacks-append 10 (numeral b) (32 ∷ numeral c) (numeral-lacks 10 b (omega arith)) (numeral-lacks 10 c (omega arith)) in
    let all = lacks-append 10 (numeral a) (32 ∷ (numeral b ++ 32 ∷ numeral c)) (numeral-lacks 10 a (omega arith)) last in
    lacks-append 10 (codes "maxima ") (numeral a ++ 32 ∷ (numeral b ++ 32 ∷ numeral c)) refl all

pub maxima_rule : IsRule maxima_of maxima_line kept_maxima (λ m. length m ≡ 3)
maxima_rule = record {
  takes = maxima-takes;
  again = λ m _. maxima-again (get_or m 0 0) (get_or m 1 0) (get_or m 2 0);
  clean = λ m _. maxima-clean (get_or m 0 0) (get_or m 1 0) (get_or m 2 0);
}

-- ---- the mode

-- the text is the line of the first of these that it was found to be
found-is : (text : List ℕ) (all : List Mode) (v : Mode) → find (λ mode. bytes_eq text (mode_text mode)) all ≡ Some v → text ≡ mode_text v
found-is text [] v e = absurd cc
found-is text (m ∷ all) v e = by-this (bytes_eq text (mode_text m)) refl (found-is text all v) e
  where
    by-this : (b : Bool) → bytes_eq text (mode_text m) ≡ b → (find (λ mode. bytes_eq text (mode_text mode)) all ≡ Some v → text ≡ mode_text v)
        → (if b then Some m else find (λ mode. bytes_eq text (mode_text mode)) all) ≡ Some v → text ≡ mode_text v
    by-this true same later e = (bytes_eq-Decides text (mode_text m)).0 same ∙ ap mode_text (same_Some m v e)
    by-this false other later e = later e

mode-takes : (text : List ℕ) (v : Mode) → mode_of text ≡ Some v → Says mode_text (λ m. m) (λ m. Unit {0}) text v
unfolding mode_of
mode-takes text v e = record { word = v; spelt = found-is text modes v e; formed = tt; value = refl }

mode-again : (m : Mode) → mode_of (mode_text m) ≡ Some m
unfolding mode_of
mode-again Supervised = refl
mode-again ThirdParty = refl
mode-again Readback = refl

pub mode_rule : IsRule mode_of mode_text (λ m. m) (λ m. Unit {0})
mode_rule = record {
  takes = mode-takes;
  again = λ m _. mode-again m;
  clean = λ m _. mode-clean m;
}
  where
    mode-clean : (m : Mode) → lacks 10 (mode_text m) ≡ true
    mode-clean Supervised = refl
    mode-clean ThirdParty = refl
    mode-clean Readback = refl

-- ---- the first turns

letters-back : (text : List ℕ) → list_all is_letter text ≡ true → (text ≡ map letter (map (λ l. l - 65) text)) × AllByRecursion (λ h. h < 26) (map (λ l. l - 65) text)
letters-back [] h = (refl, tt)
letters-back (c ∷ text) h =
    let one : (65 ≤ c) × (c ≤ 90) = grind (arith, nat_tests, h) in
    let others : list_all is_letter text ≡ true = grind (arith, nat_tests, h) in
    let rest = letters-back text others in
    let back : c ≡ letter (c - 65) = omega (arith, one) in
    (ap (λ (k : ℕ). k ∷ text) back ∙ ap (λ (t : List ℕ). letter (c - 65) ∷ t) rest.0, (omega (arith, one), rest.1))

order-takes : (text v : List ℕ) → order_of text ≡ Some v → Says (λ hs. codes "order " ++ map letter hs) (λ hs. hs) (λ hs. (1 ≤ length hs) × AllByRecursion (λ h. h < 26) hs) text v
unfolding order_of letters_of
order-takes text v e =
    let b = bind-some (stripped (codes "order ") text) letters_of v e in
    let g = cond_some (are_letters b.0) (map (λ l. l - 65) b.0) v b.2 in
    let p = both-true (nat_lt 0 (length b.0)) (list_all is_letter b.0) g.0 in
    let back = letters-back b.0 p.1 in
    let hs = map (λ l. l - 65) b.0 in
    let long : 1 ≤ length hs = filled b.0 p.0 in
    record { word = hs; spelt = stripped-takes (codes "order ") text b.0 b.1 ∙ ap (λ (t : List ℕ). codes "order " ++ t) back.0; formed = (long, back.1); value = sym g.1 }
  where
    both-true : (a b : Bool) → (a && b) ≡ true → (a ≡ true) × (b ≡ true)
    both-true true true h = (refl, refl)
    both-true true false h = absurd cc
    both-true false b h = absurd cc

    filled : (xs : List ℕ) → nat_lt 0 (length xs) ≡ true → 1 ≤ length (map (λ l. l - 65) xs)
    filled [] h = grind (arith, nat_tests)
    filled (x ∷ xs) h = omega arith

letters-again : (hs : List ℕ) → AllByRecursion (λ h. h < 26) hs → (list_all is_letter (map letter hs) ≡ true) × (map (λ l. l - 65) (map letter hs) ≡ hs)
letters-again [] h = (refl, refl)
letters-again (h ∷ hs) all =
    let others = letters-again hs all.1 in
    let low : nat_le 65 (65 + h) ≡ true = grind (arith, nat_tests) in
    let high : nat_le (65 + h) 90 ≡ true = grind (arith, nat_tests, all.0) in
    let back : 65 + h - 65 ≡ h = omega arith in
    (rw (low, high, others.0) refl, rw (back, others.1) refl)

letters-lack : (hs : List ℕ) → lacks 10 (map letter hs) ≡ true
letters-lack [] = refl
letters-lack (h ∷ hs) =
    let one : ((65 + h) == 10) ≡ false = grind (arith, nat_tests) in
    rw (one, letters-lack hs) refl

order-again : (hs : List ℕ) → (1 ≤ length hs) × AllByRecursion (λ h. h < 26) hs → order_of (codes "order " ++ map letter hs) ≡ Some hs
unfolding order_of letters_of
order-again [] f = let no : ⊥ = omega (arith, f.0) in absurd no
order-again (h ∷ hs) f =
    let others = letters-again (h ∷ hs) f.1 in
    let long : nat_lt 0 (length (map letter (h ∷ hs))) ≡ true = grind (arith, nat_tests) in
    rw (stripped-again (codes "order ") (map letter (h ∷ hs)), long, others.0, others.1) refl

pub order_rule : IsRule order_of (λ hs. codes "order " ++ map letter hs) (λ hs. hs) (λ hs. (1 ≤ length hs) × AllByRecursion (λ h. h < 26) hs)
order_rule = record {
  takes = order-takes;
  again = order-again;
  clean = λ hs _. lacks-append 10 (codes "order ") (map letter hs) refl (letters-lack hs);
}
