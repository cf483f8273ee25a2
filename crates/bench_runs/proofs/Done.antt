-- Lines that are done in turn, from the front.
use Rattle.std.proofs.Common.{◌≡◌, ◌<◌, ◌≤◌, ◌+◌, ℕ, zero, suc, List, [], ◌∷◌, ◌++◌, length, get_or, drop, refl, sym, ap, subst, ◌∙◌, arith, append_assoc}
use Rattle.std.specs.Fmt.{decimal}
use Rattle.std.proofs.lemmas.List.{append-nil}
use Rattle.host_scripts.specs.declared.bench.BenchLine.{BenchLine}
use Rattle.xor_target.specs.State.{TargetState}
use Rattle.bench_runs.specs.Answers.{numbered}
use Rattle.bench_runs.specs.BenchRuns.{IsToldStep, AreDone}

-- what is left begins with the next line
next-left : (lines : List BenchLine) (place : ℕ) (l : BenchLine) → place < length lines → l ≡ get_or lines place l → drop place lines ≡ l ∷ drop (suc place) lines
next-left [] place l below is = absurd (omega arith)
next-left (x ∷ lines) zero l below is = ap (λ (y : BenchLine). y ∷ lines) (sym is)
next-left (x ∷ lines) (suc place) l below is = next-left lines place l (omega arith) is

-- what the lines that are left come to, all lines come to
abbrev pub GoesOn : List TargetState → List BenchLine → ℕ → List TargetState → List ℕ → Type 0
GoesOn start lines place st text = (after : List TargetState) (rest : List ℕ) → AreDone (place + 1) st (drop place lines) after rest → AreDone 1 start lines after (text ++ rest)

pub line-done : (start : List TargetState) (lines : List BenchLine) (place : ℕ) (l : BenchLine) (st mid : List TargetState) (text told : List ℕ) →
    place < length lines → l ≡ get_or lines place l → GoesOn start lines place st text → IsToldStep (place + 1) st l mid told → GoesOn start lines (place + 1) mid (text ++ numbered (place + 1) told)
line-done start lines place l st mid text told below is goes step after rest done =
    let Done : List BenchLine → Type 0 = λ left. AreDone (place + 1) st left after (numbered (place + 1) told ++ rest) in
    let next : AreDone (suc (place + 1)) mid (drop (place + 1) lines) after rest = subst (λ (n : ℕ). AreDone n mid (drop (place + 1) lines) after rest) (omega arith) done in
    let one : AreDone (place + 1) st (l ∷ drop (place + 1) lines) after (numbered (place + 1) told ++ rest) = (mid, (told, (rest, (step, next, refl)))) in
    let further : suc place ≡ place + 1 = omega arith in
    let left : drop place lines ≡ l ∷ drop (place + 1) lines = next-left lines place l below is ∙ ap (λ (n : ℕ). l ∷ drop n lines) further in
    subst (λ (t : List ℕ). AreDone 1 start lines after t) (sym (append_assoc text (numbered (place + 1) told) rest))
    (goes after (numbered (place + 1) told ++ rest) (subst Done (sym left) one))

-- nothing is left behind the last line
none-left : (lines : List BenchLine) (place : ℕ) → length lines ≤ place → drop place lines ≡ []
none-left [] zero h = refl
none-left [] (suc place) h = refl
none-left (x ∷ lines) zero h = absurd (omega (arith, h))
none-left (x ∷ lines) (suc place) h = none-left lines place (omega (arith, h))

pub all-done : (start : List TargetState) (lines : List BenchLine) (place : ℕ) (st : List TargetState) (text : List ℕ) → length lines ≤ place → GoesOn start lines place st text → AreDone 1 start lines st text
all-done start lines place st text past goes =
    let Done : List BenchLine → Type 0 = λ left. AreDone (place + 1) st left st [] in
    subst (λ (t : List ℕ). AreDone 1 start lines st t) (append-nil text) (goes st [] (subst Done (sym (none-left lines place past)) (refl, refl)))

-- the line of text of a line, piece by piece
pub line-written : (t0 t1 t2 t3 t4 told : List ℕ) (n : ℕ) → t1 ≡ t0 ++ decimal n → t2 ≡ t1 ++ 32 ∷ [] → t3 ≡ t2 ++ told → t4 ≡ t3 ++ 10 ∷ [] → t4 ≡ t0 ++ numbered n told
line-written t0 t1 t2 t3 t4 told n e1 e2 e3 e4 =
    let d = decimal n in
    let front : t3 ≡ ((t0 ++ d) ++ 32 ∷ []) ++ told = e3 ∙ ap (λ (t : List ℕ). t ++ told) (e2 ∙ ap (λ (t : List ℕ). t ++ 32 ∷ []) e1) in
    let one : t3 ≡ t0 ++ (d ++ 32 ∷ told) = front ∙ append_assoc (t0 ++ d) (32 ∷ []) told ∙ append_assoc t0 d (32 ∷ told) in
    e4 ∙ ap (λ (t : List ℕ). t ++ 10 ∷ []) one ∙ append_assoc t0 (d ++ 32 ∷ told) (10 ∷ [])
