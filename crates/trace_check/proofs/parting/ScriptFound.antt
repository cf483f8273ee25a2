-- Where the script ends in what is printed of a run.
use Rattle.std.proofs.Common.{◌≡◌, ℕ, ◌+◌, ◌≤◌, ◌<◌, ◌==◌, cond, Bool, true, false, List, [], ◌∷◌, ◌++◌, length, map, get_or, Some, refl, ap, ◌∙◌, arith}
use Rattle.std.specs.Prelude.{codes}
use Rattle.std.specs.List.{flat_map, AllByRecursion}
use Rattle.std.proofs.lemmas.Bool.{ne_eqb}
use Rattle.stripe_layout.specs.declared.mode.Mode.{Mode}
use Rattle.stripe_layout.specs.declared.mode.Mode.TheVariants.{Supervised, ThirdParty, Readback}
use Rattle.array_journal.specs.Lists.{numbers}
use Rattle.host_scripts.specs.declared.script.Script.{Script}
use Rattle.host_scripts.specs.declared.script.Call.{Call}
use Rattle.stripe_layout.specs.declared.areas.Area.{Area}
use Rattle.text_fields.specs.Spelling.{line, numeral}
use Rattle.host_scripts.specs.Scripts.{letter, mode_text, maxima_text, call_text, order_texts, version_text, area_text, single_texts, several_texts, start_texts, script_lines, spelling, IsScript, IsCall}
use Rattle.text_fields.specs.Laws.{lacks}
use Rattle.text_fields.proofs.Cuts.{lacks-append}
use Rattle.text_fields.proofs.NumeralLaws.{numeral-lacks}
use Rattle.host_scripts.proofs.Texts.{number_rule, maxima_rule, mode_rule, order_rule}
use Rattle.host_scripts.proofs.CallTexts.{call_rule}
use Rattle.host_scripts.proofs.Again.{kept-ranged}
use Rattle.trace_check.specs.declared.checking.parting.LineStart.TheVariants as starts
use Rattle.trace_check.specs.Inputs.{starts_line, place_from, output_line}
use Rattle.trace_check.proofs.parting.PassedLines.{Passes, none-passes, both-pass, line-passes}

number-passes : (keyword : List ℕ) (n : ℕ) → lacks 10 keyword ≡ true → ((rest : List ℕ) → starts_line starts.Output (line (keyword ++ numeral n) ++ rest) ≡ false) → Passes starts.Output (line (keyword ++ numeral n))
number-passes keyword n clean m = line-passes starts.Output (keyword ++ numeral n) ((number_rule keyword clean).clean n tt) m

maxima-passes : (m : List ℕ) → length m ≡ 3 → Passes starts.Output (line (maxima_text (get_or m 0 0) (get_or m 1 0) (get_or m 2 0)))
maxima-passes m three = line-passes starts.Output (maxima_text (get_or m 0 0) (get_or m 1 0) (get_or m 2 0)) (maxima_rule.clean m three) (λ rest. refl)

mode-passes : (mode : Mode) → Passes starts.Output (line (mode_text mode))
mode-passes mode = line-passes starts.Output (mode_text mode) (mode_rule.clean mode tt) (unmarked mode)
  where
    unmarked : (m : Mode) (rest : List ℕ) → starts_line starts.Output (line (mode_text m) ++ rest) ≡ false
    unmarked Supervised rest = refl
    unmarked ThirdParty rest = refl
    unmarked Readback rest = refl

call-passes : (s : Script) (call : Call) → s.hosts ≤ 26 → s.geometry.targets ≤ 32 → IsCall s call → Passes starts.Output (line (call_text call))
call-passes s call hosts targets h =
    let lt : call.host < 26 = omega (arith, h.0, hosts) in
    let formed = (kept-ranged s.geometry call.action targets h.1).0 in
    let other : (111 == (65 + call.host)) ≡ false = ne_eqb 111 (65 + call.host) (λ e. omega (arith, lt, e)) in
    line-passes starts.Output (call_text call) (call_rule.clean call (lt, formed)) (λ rest. rw other refl)

calls-pass : (s : Script) (calls : List Call) → s.hosts ≤ 26 → s.geometry.targets ≤ 32 → AllByRecursion (IsCall s) calls → Passes starts.Output (flat_map line (map call_text calls))
calls-pass s [] hosts targets h = none-passes starts.Output
calls-pass s (call ∷ calls) hosts targets h =
    both-pass starts.Output (line (call_text call)) (flat_map line (map call_text calls)) (call-passes s call hosts targets h.0) (calls-pass s calls hosts targets h.1)

below-26 : (hosts : ℕ) (order : List ℕ) → hosts ≤ 26 → AllByRecursion (λ h. h < hosts) order → AllByRecursion (λ h. h < 26) order
below-26 hosts [] le all = tt
below-26 hosts (h ∷ order) le all = let lt : h < 26 = omega (arith, all.0, le) in (lt, below-26 hosts order le all.1)

order-passes : (s : Script) (order : List ℕ) (calls : List (List ℕ)) → s.hosts ≤ 26 → AllByRecursion (λ h. h < s.hosts) order → Passes starts.Output (flat_map line calls) → Passes starts.Output (flat_map line (order_texts order ++ calls))
order-passes s [] calls hosts h p = p
order-passes s (first ∷ order) calls hosts h p =
    let some : 1 ≤ length (first ∷ order) = omega arith in
    let clean = order_rule.clean (first ∷ order) (some, below-26 s.hosts (first ∷ order) hosts h) in
    both-pass starts.Output (line (codes "order " ++ map letter (first ∷ order))) (flat_map line calls) (line-passes starts.Output (codes "order " ++ map letter (first ∷ order)) clean (λ rest. refl)) p

-- no line of these is starts_line
record LinesPass (lines : List (List ℕ)) : Type 0 where
  pub pass : Passes starts.Output (flat_map line lines)

front-passes : (text : List ℕ) (lines : List (List ℕ)) → Passes starts.Output (line text) → LinesPass lines → LinesPass (text ∷ lines)
front-passes text lines h k = record { pass = both-pass starts.Output (line text) (flat_map line lines) h k.pass }

version-passes : (two : Bool) → Passes starts.Output (line (cond two (codes "xorscript 2") (codes "xorscript 1")))
version-passes true = line-passes starts.Output (codes "xorscript 2") refl (λ rest. refl)
version-passes false = line-passes starts.Output (codes "xorscript 1") refl (λ rest. refl)

area-passes : (a : Area) → Passes starts.Output (line (area_text a))
area-passes a =
    let numbers = lacks-append 10 (numeral a.unit) (32 ∷ numeral a.stripes) (numeral-lacks 10 a.unit (omega arith)) (numeral-lacks 10 a.stripes (omega arith)) in
    line-passes starts.Output (area_text a) (lacks-append 10 (codes "area ") (numeral a.unit ++ 32 ∷ numeral a.stripes) refl numbers) (λ rest. refl)

each-area-passes : (areas : List Area) (lines : List (List ℕ)) → LinesPass lines → LinesPass (map area_text areas ++ lines)
each-area-passes [] lines p = p
each-area-passes (a ∷ more) lines p = front-passes (area_text a) (map area_text more ++ lines) (area-passes a) (each-area-passes more lines p)

single-passes : (areas : List Area) (lines : List (List ℕ)) → LinesPass lines → LinesPass (single_texts areas ++ lines)
single-passes [] lines p = p
single-passes (a ∷ more) lines p =
    front-passes (codes "unit " ++ numeral a.unit) _ (number-passes (codes "unit ") a.unit refl (λ rest. refl))
    (front-passes (codes "stripes " ++ numeral a.stripes) lines (number-passes (codes "stripes ") a.stripes refl (λ rest. refl)) p)

areas-pass : (two : Bool) (areas : List Area) (lines : List (List ℕ)) → LinesPass lines → LinesPass (cond two (several_texts areas) (single_texts areas) ++ lines)
areas-pass true areas lines p =
    front-passes (codes "areas " ++ numeral (length areas)) (map area_text areas ++ lines) (number-passes (codes "areas ") (length areas) refl (λ rest. refl))
    (each-area-passes areas lines p)
areas-pass false areas lines p = single-passes areas lines p

spelling-passes : (s : Script) → IsScript s → Passes starts.Output (spelling s)
unfolding spelling
spelling-passes s h =
    let behind : LinesPass (order_texts s.order ++ map call_text s.calls) = record { pass = order-passes s s.order (map call_text s.calls) h.most_hosts h.order (calls-pass s s.calls h.most_hosts h.geometry.most_targets h.calls) } in
    let start : LinesPass (start_texts s ++ (order_texts s.order ++ map call_text s.calls)) =
    front-passes (codes "buffer " ++ numeral s.buffer) _ (number-passes (codes "buffer ") s.buffer refl (λ rest. refl))
    (front-passes (maxima_text (get_or s.maxima 0 0) (get_or s.maxima 1 0) (get_or s.maxima 2 0)) _ (maxima-passes s.maxima h.maxima)
    (front-passes (mode_text s.mode) _ (mode-passes s.mode)
    (front-passes (codes "seed " ++ numeral s.seed) _ (number-passes (codes "seed ") s.seed refl (λ rest. refl))
    (front-passes (codes "hosts " ++ numeral s.hosts) _ (number-passes (codes "hosts ") s.hosts refl (λ rest. refl)) behind)))) in
    let all : LinesPass (script_lines s) =
    front-passes (version_text s.version) _ (version-passes (s.version == 2))
    (front-passes (codes "targets " ++ numeral s.geometry.targets) _ (number-passes (codes "targets ") s.geometry.targets refl (λ rest. refl))
    (front-passes (codes "block " ++ numeral s.geometry.block) _ (number-passes (codes "block ") s.geometry.block refl (λ rest. refl))
    (areas-pass (s.version == 2) s.geometry.areas _ start))) in
    all.pass

pub script-found : (s : Script) (rest : List ℕ) → IsScript s → place_from starts.Output 0 true (spelling s ++ (output_line ++ rest)) ≡ Some (length (spelling s))
script-found s rest h =
    let p : 0 + length (spelling s) ≡ length (spelling s) = omega arith in
    spelling-passes s h 0 (output_line ++ rest) ∙ found (0 + length (spelling s)) ∙ ap (λ (k : ℕ). Some k) p
  where
    found : (place : ℕ) → place_from starts.Output place true (output_line ++ rest) ≡ Some place
    found place = refl
