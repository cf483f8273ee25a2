-- A line of a keyword and a number in range is read as that number.
use Rattle.std.proofs.Common.{◌≡◌, ℕ, ◌≤◌, true, List, ◌++◌, Ok, refl, ap, ◌∙◌, arith}
use Rattle.std.proofs.lemmas.Bool.{le-leb}
use Rattle.text_fields.specs.Spelling.{line, numeral}
use Rattle.text_fields.specs.Laws.{lacks}
use Rattle.host_scripts.specs.Loose.{number_of}
use Rattle.host_scripts.specs.Reading.{any, within, line_at, number_at}
use Rattle.host_scripts.proofs.Rules.{line-again}
use Rattle.host_scripts.proofs.Texts.{cap, number_rule}

-- what is in range is kept as it is
pub cap-small : (n : ℕ) → n ≤ 4294967295 → cap n ≡ n
cap-small n le = omega arith

pub within-true : (least most n : ℕ) → most ≤ 4294967295 → least ≤ n → n ≤ most → within least most (cap n) ≡ true
within-true least most n small low high =
    let e = cap-small n (omega arith) in
    rw (e, le-leb least n low, le-leb n most high) refl

pub number-line : (n : ℕ) (keyword : List ℕ) (least most : ℕ) → lacks 10 keyword ≡ true → most ≤ 4294967295 → (rest after : List ℕ) (v : ℕ) → least ≤ v → v ≤ most → rest ≡ line (keyword ++ numeral v) ++ after
    → number_at n keyword least most rest ≡ Ok (v, after)
unfolding number_at
number-line n keyword least most clean small rest after v low high e =
    let tests : within least most (cap v) ≡ true = within-true least most v small low high in
    let read = line-again (number_of keyword) (λ n. keyword ++ numeral n) cap (λ n. Unit {0}) (number_rule keyword clean) (within least most) any n v after tt tests refl in
    ap (λ (bytes : List ℕ). line_at n (within least most) any (number_of keyword) bytes) e ∙ read ∙ ap (λ (k : ℕ). Ok (k, after)) (cap-small v (omega arith))
