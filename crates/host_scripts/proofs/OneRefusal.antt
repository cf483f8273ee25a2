-- Bytes that spell no script have one refusal.
use Rattle.std.proofs.Common.{◌≡◌, ℕ, ◌<◌, inl, inr, true, List, [], ◌∷◌, ◌++◌, length, map, refl, sym, subst, arith}
use Rattle.std.specs.Prelude.{codes}
use Rattle.std.specs.List.{AllByRecursion}
use Rattle.stripe_layout.specs.declared.areas.Area.{Area}
use Rattle.stripe_layout.specs.declared.geometry.Geometry.{Geometry}
use Rattle.host_scripts.specs.declared.script.Script.{Script}
use Rattle.host_scripts.specs.declared.script.Call.{Call}
use Rattle.host_scripts.specs.declared.script.Cause.{Cause}
use Rattle.text_fields.specs.Spelling.{numeral}
use Rattle.host_scripts.specs.Scripts.{area_text, areas_texts, shape_texts, start_texts, call_text, order_texts, script_lines, IsVersion}
use Rattle.host_scripts.specs.Refusals.{IsFormedCall, IsFormed, script_grammar, IsRefusal}
use Rattle.text_fields.specs.Laws.{lacks}
use Rattle.text_fields.proofs.Cuts.{lacks-append}
use Rattle.text_fields.proofs.NumeralLaws.{numeral-lacks}
use Rattle.host_scripts.proofs.OneFirstRefusal.{AreClean, HasCleanLines, one-first-refusal}
use Rattle.host_scripts.proofs.Texts.{version_rule, maxima_rule, mode_rule, order_rule}
use Rattle.host_scripts.proofs.AreaTexts.{area_rule}
use Rattle.host_scripts.proofs.ShapeTexts.{known, first_area, single-are, several-are}
use Rattle.host_scripts.proofs.CallTexts.{call_rule}
use Rattle.host_scripts.proofs.Places.{ranged-formed, script-ranged, script_nested}

calls-clean : (calls : List Call) → AllByRecursion IsFormedCall calls → AreClean (map call_text calls)
calls-clean [] h = tt
calls-clean (call ∷ calls) h = (call_rule.clean call h.0, calls-clean calls h.1)

order-clean : (order : List ℕ) (calls : List Call) → AllByRecursion (λ h. h < 26) order → AllByRecursion IsFormedCall calls → AreClean (order_texts order ++ map call_text calls)
order-clean [] calls h k = calls-clean calls k
order-clean (o ∷ order) calls h k = (order_rule.clean (o ∷ order) (omega arith, h), calls-clean calls k)

pub number-clean : (keyword : List ℕ) (n : ℕ) → lacks 10 keyword ≡ true → lacks 10 (keyword ++ numeral n) ≡ true
number-clean keyword n h = lacks-append 10 keyword (numeral n) h (numeral-lacks 10 n (omega arith))

both-clean : (texts more : List (List ℕ)) → AreClean texts → AreClean more → AreClean (texts ++ more)
both-clean [] more h k = k
both-clean (t ∷ texts) more h k = (h.0, both-clean texts more h.1 k)

each-area-clean : (areas : List Area) → AreClean (map area_text areas)
each-area-clean [] = tt
each-area-clean (a ∷ areas) = (area_rule.clean a tt, each-area-clean areas)

areas-clean : (version : ℕ) (areas : List Area) → IsVersion version areas → AreClean (areas_texts version areas)
areas-clean version areas (inl one) =
    let two : AreClean ((codes "unit " ++ numeral (first_area areas).unit) ∷ (codes "stripes " ++ numeral (first_area areas).stripes) ∷ []) = (number-clean (codes "unit ") (first_area areas).unit refl, (number-clean (codes "stripes ") (first_area areas).stripes refl, tt)) in
    subst (λ (ts : List (List ℕ)). AreClean ts) (sym (single-are version areas (inl one) one.0)) two
areas-clean version areas (inr two) =
    let several : AreClean ((codes "areas " ++ numeral (length areas)) ∷ map area_text areas) = (number-clean (codes "areas ") (length areas) refl, each-area-clean areas) in
    subst (λ (ts : List (List ℕ)). AreClean ts) (sym (several-are version areas two)) several

shape-clean : (version : ℕ) (g : Geometry) → IsVersion version g.areas → AreClean (shape_texts version g)
shape-clean version g is =
    (version_rule.clean version (known version g.areas is), (number-clean (codes "targets ") g.targets refl, (number-clean (codes "block ") g.block refl, areas-clean version g.areas is)))

start-clean : (s : Script) → length s.maxima ≡ 3 → AreClean (start_texts s)
start-clean s len = (
  number-clean (codes "buffer ") s.buffer refl,
  (maxima_rule.clean s.maxima len, (mode_rule.clean s.mode tt, (number-clean (codes "seed ") s.seed refl, (number-clean (codes "hosts ") s.hosts refl, tt)))),
)

lines-clean : (s : Script) → IsFormed s → AreClean (script_lines s)
lines-clean s f =
    let others = order_texts s.order ++ map call_text s.calls in
    both-clean (shape_texts s.version s.geometry) (start_texts s ++ others) (shape-clean s.version s.geometry f.version) (both-clean (start_texts s) others (start-clean s f.maxima) (order-clean s.order s.calls f.order f.calls))

script-clean : HasCleanLines script_grammar
script-clean s is = lines-clean s (ranged-formed s (script-ranged s is))

pub one-refusal : (bytes : List ℕ) (m n : ℕ) (c d : Cause) → IsRefusal bytes m c → IsRefusal bytes n d → (m ≡ n) × (c ≡ d)
one-refusal bytes m n c d r q = one-first-refusal script_grammar script_nested script-clean bytes m n c d r q
