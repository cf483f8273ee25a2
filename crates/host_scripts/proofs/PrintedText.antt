-- The groups of lines that are printed one after the other are the whole text.
use Rattle.std.proofs.Common.{◌≡◌, ℕ, List, [], ◌++◌, map, refl, sym, ap, ◌∙◌, append_assoc}
use Rattle.std.specs.List.{flat_map}
use Rattle.std.proofs.lemmas.Grind.{flat_map-append}
use Rattle.host_scripts.specs.declared.script.Script.{Script}
use Rattle.host_scripts.specs.declared.script.Call.{Call}
use Rattle.text_fields.specs.Spelling.{line}
use Rattle.host_scripts.specs.Scripts.{call_text, shape_texts, start_texts, order_texts, script_lines, spelling}

grouped : (s : Script) → script_lines s ≡ shape_texts s.version s.geometry ++ (start_texts s ++ (order_texts s.order ++ map call_text s.calls))
grouped s = refl

in-groups : (a b c d : List (List ℕ)) → flat_map line (a ++ (b ++ (c ++ d))) ≡ ((flat_map line a ++ flat_map line b) ++ flat_map line c) ++ flat_map line d
in-groups a b c d =
    let A = flat_map line a in
    let B = flat_map line b in
    let C = flat_map line c in
    let D = flat_map line d in
    flat_map-append line a (b ++ (c ++ d)) ∙ ap (λ (r : List ℕ). A ++ r) (flat_map-append line b (c ++ d) ∙ ap (λ (r : List ℕ). B ++ r) (flat_map-append line c d))
    ∙ sym (append_assoc (A ++ B) C D ∙ append_assoc A B (C ++ D))

pub printed-is : (s : Script) (order : List ℕ) (calls : List Call) (t0 t1 t2 t3 t4 : List ℕ) → order ≡ s.order → calls ≡ s.calls → t0 ≡ [] → t1 ≡ t0 ++ flat_map line (shape_texts s.version s.geometry) → t2 ≡ t1 ++ flat_map line (start_texts s)
    → t3 ≡ t2 ++ flat_map line (order_texts order) → t4 ≡ t3 ++ flat_map line (map call_text calls) → t4 ≡ spelling s
unfolding spelling
printed-is s order calls t0 t1 t2 t3 t4 eo ec e0 e1 e2 e3 e4 =
    let C = flat_map line (map call_text s.calls) in
    let O = flat_map line (order_texts s.order) in
    let S = flat_map line (start_texts s) in
    let third : t3 ≡ t2 ++ O = e3 ∙ ap (λ (o : List ℕ). t2 ++ flat_map line (order_texts o)) eo in
    let fourth : t4 ≡ t3 ++ C = e4 ∙ ap (λ (c : List Call). t3 ++ flat_map line (map call_text c)) ec in
    fourth ∙ ap (λ (t : List ℕ). t ++ C) (third ∙ ap (λ (t : List ℕ). t ++ O) (e2 ∙ ap (λ (t : List ℕ). t ++ S) (e1 ∙ ap (λ (t : List ℕ). t ++ flat_map line (shape_texts s.version s.geometry)) e0)))
    ∙ sym (in-groups (shape_texts s.version s.geometry) (start_texts s) (order_texts s.order) (map call_text s.calls)) ∙ ap (flat_map line) (sym (grouped s))
