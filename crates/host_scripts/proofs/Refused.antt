-- The whole script: what was read is spelt so, and what is refused is refused at its first line that is.
use Rattle.std.proofs.Common.{◌≡◌, ℕ, ◌+◌, List, [], ◌∷◌, ◌++◌, length, length-append, arith}
use Rattle.std.specs.List.{flat_map}
use Rattle.host_scripts.specs.declared.script.Script.{Script}
use Rattle.text_fields.specs.Spelling.{line}
use Rattle.host_scripts.specs.Scripts.{shape_texts, order_texts, script_lines, spelling, SpellsScript}
use Rattle.host_scripts.specs.Reading.{Head, head_at, turns_line, order_at, calls_at, first_line, script_at}
use Rattle.host_scripts.specs.Refusals.{script_grammar}
use Rattle.host_scripts.proofs.Outcomes.{Outcome, then}
use Rattle.host_scripts.proofs.Again.{script-again}
use Rattle.host_scripts.proofs.WholeReading.{IsReading}
use Rattle.host_scripts.proofs.Places.{Near}
use Rattle.host_scripts.proofs.HeadWalk.{whole, start_of, IsHead, HeadRead, head-outcome}
use Rattle.host_scripts.proofs.TurnsWalk.{so-far, front, turns-number, OrderRead, order-outcome}
use Rattle.host_scripts.proofs.CallWalk.{CallsRead, calls-outcome}

-- the number of the first line behind the header and the turns
first-number : (h : Head) → IsHead h → (order : List ℕ) → first_line (turns_line h) order ≡ length (front h order) + 1
first-number h is [] = turns-number h is
first-number h is (t ∷ turns) =
    let n = turns-number h is in
    let shape = shape_texts h.version h.geometry in
    let turned = length-append shape (start_of h ++ (order_texts (t ∷ turns) ++ [])) in
    let plain = length-append shape (start_of h) in
    omega (arith, n, turned, plain)

spelt-so : (bytes : List ℕ) (s : Script) → bytes ≡ flat_map line (script_lines s) → bytes ≡ spelling s
unfolding spelling
spelt-so bytes s e = e

pub script-outcome : (bytes : List ℕ) → Outcome (λ s. SpellsScript bytes s) (Near bytes) (script_at bytes)
unfolding script_at
script-outcome bytes =
    then (HeadRead bytes) (λ s. SpellsScript bytes s) (Near bytes) (head_at bytes) _ (head-outcome bytes) (λ h eh.
    then (OrderRead bytes h.0) (λ s. SpellsScript bytes s) (Near bytes) (order_at h.0.hosts (turns_line h.0) h.1) _ (order-outcome bytes h.1 h.0 eh.is eh.split) (λ o eo.
    then (CallsRead bytes h.0 o.0 []) (λ s. SpellsScript bytes s) (Near bytes) (calls_at h.0.geometry h.0.hosts (length o.1) (first_line (turns_line h.0) o.0) o.1) _
    (calls-outcome bytes h.0 o.0 (length o.1) [] (first_line (turns_line h.0) o.0) o.1 (omega arith) eo.is eo.split (first-number h.0 eh.is o.0) (λ none _. eo.bare none))
    (λ calls ec. (spelt-so bytes (whole h.0 o.0 calls) ec.split, so-far h.0 o.0 calls ec.is))))

pub script_reading : IsReading script_grammar script_at
script_reading = record { again = script-again; outcome = script-outcome }
