-- Bytes that spell nothing have one refusal, in any grammar whose lines have no end of line in them.
use Rattle.std.proofs.Common.{◌≡◌, ℕ, ◌+◌, ◌⊎◌, inl, inr, true, List, [], ◌∷◌, ◌++◌, length, refl, sym, ap, subst, ◌∙◌, append_assoc}
use Rattle.std.specs.List.{flat_map, AllByRecursion}
use Rattle.std.proofs.lemmas.Option.{same_Some}
use Rattle.host_scripts.specs.declared.script.Cause.{Cause}
use Rattle.host_scripts.specs.declared.script.Cause.TheVariants.{Form, Range, Size}
use Rattle.text_fields.specs.Spelling.{line}
use Rattle.host_scripts.specs.FirstRefusals.{Grammar, Begins, GoesOn, IsCause, IsFirstRefusal}
use Rattle.text_fields.specs.Laws.{lacks}
use Rattle.host_scripts.proofs.Rules.{cut-line}
use Rattle.host_scripts.proofs.LinePlaces.{IsNested}

-- no text has an end of line in it
abbrev pub AreClean : List (List ℕ) → Type 0
AreClean texts = AllByRecursion (λ t. lacks 10 t ≡ true) texts

-- nor has any line of a value that is allowed
abbrev pub HasCleanLines : {V : Type 0} → Grammar V → Type 0
HasCleanLines {V} g = (v : V) → g.allowed v → AreClean (g.lines v)

front-clean : (texts more : List (List ℕ)) → AreClean (texts ++ more) → AreClean texts
front-clean [] more h = tt
front-clean (t ∷ texts) more h = (h.0, front-clean texts more h.1)

begins-clean : {V : Type 0} (g : Grammar V) → HasCleanLines g → (texts : List (List ℕ)) → Begins g g.allowed texts → AreClean texts
begins-clean g clean texts b = front-clean texts b.more (subst (λ (ts : List (List ℕ)). AreClean ts) b.lines (clean b.value b.kind))

-- the second list of lines is the first and more, of which the first stands in the bytes behind the first
record IsLonger (short long : List (List ℕ)) (rest : List ℕ) : Type 0 where
  text : List ℕ
  after : List ℕ
  more : List (List ℕ)
  lines : long ≡ short ++ text ∷ more
  split : rest ≡ line text ++ after

-- the same bytes in two ways
abbrev Compared : List (List ℕ) → List (List ℕ) → List ℕ → List ℕ → Type 0
Compared a b x y = ((a ≡ b) × (x ≡ y)) ⊎ (IsLonger a b x ⊎ IsLonger b a y)

longer : (t : List ℕ) (a b : List (List ℕ)) (x : List ℕ) → IsLonger a b x → IsLonger (t ∷ a) (t ∷ b) x
longer t a b x h = record { text = h.text; after = h.after; more = h.more; lines = ap (λ (ts : List (List ℕ)). t ∷ ts) h.lines; split = h.split }

one-more : (s t : List ℕ) (a b : List (List ℕ)) (x y : List ℕ) → s ≡ t → Compared a b x y → Compared (s ∷ a) (t ∷ b) x y
one-more s t a b x y e (inl same) = inl (ap (λ (k : List ℕ). k ∷ a) e ∙ ap (λ (ts : List (List ℕ)). t ∷ ts) same.0, same.1)
one-more s t a b x y e (inr (inl h)) = inr (inl (subst (λ (k : List ℕ). IsLonger (k ∷ a) (t ∷ b) x) (sym e) (longer t a b x h)))
one-more s t a b x y e (inr (inr h)) = inr (inr (subst (λ (k : List ℕ). IsLonger (t ∷ b) (k ∷ a) y) (sym e) (longer t b a y h)))

compare : (a b : List (List ℕ)) (x y : List ℕ) → AreClean a → AreClean b → flat_map line a ++ x ≡ flat_map line b ++ y → Compared a b x y
compare [] [] x y h k e = inl (refl, e)
compare [] (t ∷ b) x y h k e = inr (inl (record { text = t; after = flat_map line b ++ y; more = b; lines = refl; split = e ∙ append_assoc (line t) (flat_map line b) y }))
compare (s ∷ a) [] x y h k e = inr (inr (record { text = s; after = flat_map line a ++ x; more = a; lines = refl; split = sym e ∙ append_assoc (line s) (flat_map line a) x }))
compare (s ∷ a) (t ∷ b) x y h k e =
    let whole = flat_map line (s ∷ a) ++ x in
    let first = cut-line s (flat_map line a ++ x) whole h.0 (append_assoc (line s) (flat_map line a) x) in
    let second = cut-line t (flat_map line b ++ y) whole k.0 (e ∙ append_assoc (line t) (flat_map line b) y) in
    let same = same_Some (s, flat_map line a ++ x) (t, flat_map line b ++ y) (sym first ∙ second) in
    one-more s t a b x y (ap (λ (p : List ℕ × List ℕ). p.0) same) (compare a b x y h.1 k.1 (ap (λ (p : List ℕ × List ℕ). p.1) same))

widen : {V : Type 0} (g : Grammar V) (P Q : V → Type 0) → ((v : V) → P v → Q v) → (texts : List (List ℕ)) (rest : List ℕ) → GoesOn g P texts rest → GoesOn g Q texts rest
widen g P Q f texts rest next = record { text = next.text; after = next.after; split = next.split; begins = record { value = next.begins.value; kind = f next.begins.value next.begins.kind; more = next.begins.more; lines = next.begins.lines } }

no-cause : {V : Type 0} (g : Grammar V) → IsNested g → (texts : List (List ℕ)) (rest : List ℕ) (cause : Cause) → IsCause g texts rest cause → GoesOn g g.allowed texts rest → ⊥
no-cause g nested texts rest Form h next = h (widen g g.allowed g.formed (λ v is. nested.formed v (nested.ranged v is)) texts rest next)
no-cause g nested texts rest Range h next = h.1 (widen g g.allowed g.ranged nested.ranged texts rest next)
no-cause g nested texts rest Size h next = h.1 next

-- a line that a value goes on with isn't refused
passed : {V : Type 0} (g : Grammar V) → IsNested g → (a b : List (List ℕ)) (x : List ℕ) (cause : Cause) → IsLonger a b x → Begins g g.allowed b → IsCause g a x cause → ⊥
passed g nested a b x cause l begins h =
    no-cause g nested a x cause h (record { text = l.text; after = l.after; split = l.split; begins = record { value = begins.value; kind = begins.kind; more = l.more ++ begins.more; lines = begins.lines ∙ ap (λ (ts : List (List ℕ)). ts ++ begins.more) l.lines ∙ regrouped a l.text l.more begins.more } })
  where
    regrouped : (a : List (List ℕ)) (t : List ℕ) (m n : List (List ℕ)) → (a ++ t ∷ m) ++ n ≡ (a ++ t ∷ []) ++ (m ++ n)
    regrouped a t m n = simp append_assoc

ranged-goes-on : {V : Type 0} (g : Grammar V) → IsNested g → (texts : List (List ℕ)) (rest : List ℕ) → GoesOn g g.ranged texts rest → GoesOn g g.formed texts rest
ranged-goes-on g nested texts rest next = widen g g.ranged g.formed nested.formed texts rest next

one-cause : {V : Type 0} (g : Grammar V) → IsNested g → (texts : List (List ℕ)) (rest : List ℕ) (c d : Cause) → IsCause g texts rest c → IsCause g texts rest d → c ≡ d
one-cause g nested texts rest Form Form h k = refl
one-cause g nested texts rest Form Range h k = absurd (h k.0)
one-cause g nested texts rest Form Size h k = absurd (h (ranged-goes-on g nested texts rest k.0))
one-cause g nested texts rest Range Form h k = absurd (k h.0)
one-cause g nested texts rest Range Range h k = refl
one-cause g nested texts rest Range Size h k = absurd (h.1 k.0)
one-cause g nested texts rest Size Form h k = absurd (k (ranged-goes-on g nested texts rest h.0))
one-cause g nested texts rest Size Range h k = absurd (k.1 h.0)
one-cause g nested texts rest Size Size h k = refl

by-lines : {V : Type 0} (g : Grammar V) → IsNested g → (bytes : List ℕ) (m n : ℕ) (c d : Cause) (r : IsFirstRefusal g bytes m c) (q : IsFirstRefusal g bytes n d) → Compared r.texts q.texts r.rest q.rest → (m ≡ n) × (c ≡ d)
by-lines g nested bytes m n c d r q (inl same) =
    let here : IsCause g r.texts r.rest d = subst (λ (x : List ℕ). IsCause g r.texts x d) (sym same.1) (subst (λ (ts : List (List ℕ)). IsCause g ts q.rest d) (sym same.0) q.because) in
    (r.place ∙ ap (λ (ts : List (List ℕ)). length ts + 1) same.0 ∙ sym q.place, one-cause g nested r.texts r.rest c d r.because here)
by-lines g nested bytes m n c d r q (inr (inl h)) = absurd (passed g nested r.texts q.texts r.rest c h q.begins r.because)
by-lines g nested bytes m n c d r q (inr (inr h)) = absurd (passed g nested q.texts r.texts q.rest d h r.begins q.because)

pub one-first-refusal : {V : Type 0} (g : Grammar V) → IsNested g → HasCleanLines g → (bytes : List ℕ) (m n : ℕ) (c d : Cause) → IsFirstRefusal g bytes m c → IsFirstRefusal g bytes n d → (m ≡ n) × (c ≡ d)
one-first-refusal g nested clean bytes m n c d r q =
    by-lines g nested bytes m n c d r q (compare r.texts q.texts r.rest q.rest (begins-clean g clean r.texts r.begins) (begins-clean g clean q.texts q.begins) (sym r.split ∙ q.split))
