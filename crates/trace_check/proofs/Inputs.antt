-- The parts of an input make it up.
use Rattle.std.proofs.Common.{◌≡◌, ℕ, ◌+◌, ◌≤◌, List, ◌++◌, length, take, drop, true, Some, sym, ap, ◌∙◌, length-append, arith}
use Rattle.std.proofs.lemmas.List.{take-append-drop}
use Rattle.std.proofs.lemmas.Option.{same_Some}
use Rattle.trace_check.specs.declared.checking.parting.LineStart.TheVariants as starts
use Rattle.trace_check.specs.Inputs.{Parts, parts_of, parts_in, place_from, trace_place, output_line}
use Rattle.text_fields.specs.Reading.{stripped, ◌>>=◌}
use Rattle.text_fields.proofs.Cuts.{bind-some, stripped-takes}

pub parts-whole : (input : List ℕ) (p : Parts) → parts_of input ≡ Some p → input ≡ p.script ++ (output_line ++ (p.report ++ p.trace))
unfolding parts_of
parts-whole input p e =
    let a = bind-some (place_from starts.Output 0 true input) (λ place. stripped output_line (drop place input) >>= λ output. Some (parts_in (take place input) output)) p e in
    let b = bind-some (stripped output_line (drop a.0 input)) (λ output. Some (parts_in (take a.0 input) output)) p a.2 in
    let same : parts_in (take a.0 input) b.0 ≡ p = same_Some (parts_in (take a.0 input) b.0) p b.2 in
    let output : b.0 ≡ take (trace_place b.0) b.0 ++ drop (trace_place b.0) b.0 = sym (take-append-drop (trace_place b.0) b.0) in
    let rest : drop a.0 input ≡ output_line ++ (take (trace_place b.0) b.0 ++ drop (trace_place b.0) b.0) = stripped-takes output_line (drop a.0 input) b.0 b.1 ∙ ap (λ (t : List ℕ). output_line ++ t) output in
    let whole : input ≡ take a.0 input ++ (output_line ++ (take (trace_place b.0) b.0 ++ drop (trace_place b.0) b.0)) = sym (take-append-drop a.0 input) ∙ ap (λ (t : List ℕ). take a.0 input ++ t) rest in
    whole ∙ ap (λ (q : Parts). q.script ++ (output_line ++ (q.report ++ q.trace))) same

pub parts-short : (input : List ℕ) (p : Parts) → parts_of input ≡ Some p → length p.script + length p.report + length p.trace ≤ length input
parts-short input p e =
    let whole : length input ≡ length (p.script ++ (output_line ++ (p.report ++ p.trace))) = ap (λ (t : List ℕ). length t) (parts-whole input p e) in
    omega (arith, whole, length-append p.script (output_line ++ (p.report ++ p.trace)), length-append output_line (p.report ++ p.trace), length-append p.report p.trace)
