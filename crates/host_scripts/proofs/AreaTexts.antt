-- The rule of an area's line.
use Rattle.std.proofs.Common.{◌≡◌, ℕ, true, List, ◌∷◌, ◌++◌, Some, refl, sym, ap, ◌∙◌, arith}
use Rattle.std.specs.Prelude.{codes}
use Rattle.std.proofs.lemmas.Option.{same_Some}
use Rattle.stripe_layout.specs.declared.areas.Area.{Area}
use Rattle.text_fields.specs.Spelling.{numeral}
use Rattle.text_fields.specs.Reading.{◌>>=◌, stripped}
use Rattle.text_fields.specs.Laws.{lacks}
use Rattle.text_fields.proofs.Cuts.{bind-some, lacks-append, stripped-takes, stripped-again}
use Rattle.text_fields.proofs.NumeralLaws.{numeral-lacks}
use Rattle.host_scripts.specs.Scripts.{area_text}
use Rattle.host_scripts.specs.Loose.{numeral_of, addressed_of, two_of, area_of}
use Rattle.host_scripts.proofs.Rules.{Says, IsRule}
use Rattle.host_scripts.proofs.Texts.{cap, numeral-takes, numeral-again}
use Rattle.host_scripts.proofs.CallTexts.{addressed-takes, addressed-again}

-- the area that the code keeps of one whose numbers are of any size
abbrev pub kept_area : Area → Area
kept_area a = record { unit = cap a.unit; stripes = cap a.stripes }

-- two numbers, as they are kept
record AreTwo (text : List ℕ) (v : ℕ × ℕ) : Type 0 where
  unit : ℕ
  stripes : ℕ
  spelt : text ≡ numeral unit ++ 32 ∷ numeral stripes
  first : v.0 ≡ cap unit
  second : v.1 ≡ cap stripes

two-takes : (text : List ℕ) (v : ℕ × ℕ) → two_of text ≡ Some v → AreTwo text v
unfolding two_of
two-takes text v e =
    let x = bind-some (addressed_of text) (λ first. numeral_of first.1 >>= λ second. Some (first.0, second)) v e in
    let y = bind-some (numeral_of x.0.1) (λ second. Some (x.0.0, second)) v x.2 in
    let p = addressed-takes text x.0 x.1 in
    let n = numeral-takes x.0.1 y.0 y.1 in
    let all : text ≡ numeral p.number ++ 32 ∷ numeral n.number = p.spelt ∙ ap (λ (t : List ℕ). numeral p.number ++ 32 ∷ t) n.spelt in
    let same : (x.0.0, y.0) ≡ v = same_Some (x.0.0, y.0) v y.2 in
    record {
      unit = p.number;
      stripes = n.number;
      spelt = all;
      first = ap (λ (q : ℕ × ℕ). q.0) (sym same) ∙ p.value;
      second = ap (λ (q : ℕ × ℕ). q.1) (sym same) ∙ n.value;
    }

two-again : (a b : ℕ) → two_of (numeral a ++ 32 ∷ numeral b) ≡ Some (cap a, cap b)
unfolding two_of
two-again a b = rw (addressed-again a (numeral b), numeral-again b) refl

area-takes : (text : List ℕ) (v : Area) → area_of text ≡ Some v → Says area_text kept_area (λ a. Unit {0}) text v
unfolding area_of
area-takes text v e =
    let make : ℕ × ℕ → Area = λ numbers. record { unit = numbers.0; stripes = numbers.1 } in
    let t = bind-some (stripped (codes "area ") text >>= two_of) (λ numbers. Some (make numbers)) v e in
    let s = bind-some (stripped (codes "area ") text) two_of t.0 t.1 in
    let two = two-takes s.0 t.0 s.2 in
    let value : make t.0 ≡ make (cap two.unit, cap two.stripes) = ap (λ (n : ℕ). make (n, t.0.1)) two.first ∙ ap (λ (n : ℕ). make (cap two.unit, n)) two.second in
    record {
      word = record { unit = two.unit; stripes = two.stripes };
      spelt = stripped-takes (codes "area ") text s.0 s.1 ∙ ap (λ (r : List ℕ). codes "area " ++ r) two.spelt;
      formed = tt;
      value = sym (same_Some (make t.0) v t.2) ∙ value;
    }

area-again : (a : Area) → area_of (area_text a) ≡ Some (kept_area a)
unfolding area_of
area-again a =
    let s : stripped (codes "area ") (area_text a) ≡ Some (numeral a.unit ++ 32 ∷ numeral a.stripes) = stripped-again (codes "area ") (numeral a.unit ++ 32 ∷ numeral a.stripes) in
    rw (s, two-again a.unit a.stripes) refl

area-clean : (a : Area) → lacks 10 (area_text a) ≡ true
area-clean a =
    let numbers = lacks-append 10 (numeral a.unit) (32 ∷ numeral a.stripes) (numeral-lacks 10 a.unit (omega arith)) (numeral-lacks 10 a.stripes (omega arith)) in
    lacks-append 10 (codes "area ") (numeral a.unit ++ 32 ∷ numeral a.stripes) refl numbers

pub area_rule : IsRule area_of area_text kept_area (λ a. Unit {0})
area_rule = record { takes = area-takes; again = λ a _. area-again a; clean = λ a _. area-clean a }
