-- The rules of a bench's lines.
use Rattle.std.proofs.Common.{◌≡◌, ℕ, Bool, true, false, List, ◌∷◌, ◌++◌, Option, Some, None, refl, sym, ap, subst, ◌∙◌, arith}
use Rattle.std.specs.Prelude.{codes, if◌then◌else◌}
use Rattle.std.specs.Str.{bytes_eq}
use Rattle.std.proofs.lemmas.Option.{same_Some}
use Rattle.std.proofs.lemmas.Slice.Eq.{bytes_eq-Decides}
use Rattle.host_scripts.specs.declared.bench.BenchLine.{BenchLine}
use Rattle.host_scripts.specs.declared.bench.BenchAction.{BenchAction}
use Rattle.host_scripts.specs.declared.bench.BenchAction.TheVariants.{Raw, Lose, Reset, DropNext, Fresh}
use Rattle.text_fields.specs.Spelling.{numeral, hex, hex_or_dash}
use Rattle.text_fields.specs.Reading.{◌>>=◌, stripped}
use Rattle.text_fields.specs.Laws.{lacks}
use Rattle.text_fields.proofs.Cuts.{bind-some, lacks-append, stripped-takes, stripped-again}
use Rattle.text_fields.proofs.NumeralLaws.{numeral-lacks}
use Rattle.host_scripts.specs.Benches.{bench_action_text, bench_line_text, IsBenchAction}
use Rattle.host_scripts.specs.BenchRefusals.{IsFormedBenchLine}
use Rattle.host_scripts.specs.Loose.{else_of, addressed_of, raw_parts_of}
use Rattle.host_scripts.specs.BenchLoose.{bench_version_of, bench_word_of, bench_raw_of, bench_action_of, bench_line_of}
use Rattle.host_scripts.proofs.Rules.{Says, IsRule}
use Rattle.host_scripts.proofs.Texts.{cap, exact-takes, exact-again}
use Rattle.host_scripts.proofs.RawTexts.{raw-parts-takes, raw-parts-again, raw-clean}
use Rattle.host_scripts.proofs.CallTexts.{addressed-takes, addressed-again}

-- ---- the first line

abbrev pub first_text : ℕ → List ℕ
first_text w = codes "xorbench 1"

abbrev pub first_kept : ℕ → ℕ
first_kept w = 1

first-takes : (text : List ℕ) (v : ℕ) → bench_version_of text ≡ Some v → Says first_text first_kept (λ w. Unit {0}) text v
unfolding bench_version_of
first-takes text v e = let g = exact-takes (codes "xorbench 1") 1 text v e in record { word = v; spelt = g.0; formed = tt; value = sym g.1 }

first-again : bench_version_of (codes "xorbench 1") ≡ Some 1
unfolding bench_version_of
first-again = exact-again (codes "xorbench 1") 1

pub first_rule : IsRule bench_version_of first_text first_kept (λ w. Unit {0})
first_rule = record { takes = first-takes; again = λ w _. first-again; clean = λ w _. refl }

-- ---- what is asked of a target

-- a text says this
abbrev SaysAction : List ℕ → BenchAction → Type 0
SaysAction text a = (text ≡ bench_action_text a) × IsBenchAction a

by-word : (text want : List ℕ) (x a : BenchAction) (other : Option BenchAction) (b : Bool) → bytes_eq text want ≡ b → SaysAction want x → (other ≡ Some a → SaysAction text a) → (if b then Some x else other) ≡ Some a → SaysAction text a
by-word text want x a other true e w k h = subst (λ (y : BenchAction). SaysAction text y) (same_Some x a h) ((bytes_eq-Decides text want).0 e ∙ w.0, w.1)
by-word text want x a other false e w k h = k h

word-takes : (text : List ℕ) (a : BenchAction) → bench_word_of text ≡ Some a → SaysAction text a
unfolding bench_word_of
word-takes text a e =
    let last = if bytes_eq text (codes "fresh") then Some Fresh else None in
    let third = if bytes_eq text (codes "drop") then Some DropNext else last in
    let second = if bytes_eq text (codes "reset") then Some Reset else third in
    by-word text (codes "lose") Lose a second (bytes_eq text (codes "lose")) refl (refl, tt)
    (by-word text (codes "reset") Reset a third (bytes_eq text (codes "reset")) refl (refl, tt)
    (by-word text (codes "drop") DropNext a last (bytes_eq text (codes "drop")) refl (refl, tt)
    (by-word text (codes "fresh") Fresh a None (bytes_eq text (codes "fresh")) refl (refl, tt) (λ h. absurd cc)))) e

raw-takes : (text : List ℕ) (a : BenchAction) → bench_raw_of text ≡ Some a → SaysAction (codes "cdb " ++ text) a
unfolding bench_raw_of
raw-takes text a e =
    let p = bind-some (raw_parts_of text) (λ parts. Some (Raw parts.0 parts.1)) a e in
    let said = raw-parts-takes text p.0 p.1 in
    let here : SaysAction (codes "cdb " ++ text) (Raw p.0.0 p.0.1) = (said.0, said.1) in
    subst (λ (y : BenchAction). SaysAction (codes "cdb " ++ text) y) (same_Some (Raw p.0.0 p.0.1) a p.2) here

action-takes : (text : List ℕ) (a : BenchAction) → bench_action_of text ≡ Some a → SaysAction text a
unfolding bench_action_of
action-takes text a e = by-keyword (stripped (codes "cdb ") text) (λ rest h. stripped-takes (codes "cdb ") text rest h) e
  where
    by-keyword : (o : Option (List ℕ)) → ((rest : List ℕ) → o ≡ Some rest → text ≡ codes "cdb " ++ rest) → else_of bench_raw_of o (bench_word_of text) ≡ Some a → SaysAction text a
    by-keyword (Some rest) h e = let t = raw-takes rest a e in (h rest refl ∙ t.0, t.1)
    by-keyword None h e = word-takes text a e

raw-again : (cdb bytes : List ℕ) → IsBenchAction (Raw cdb bytes) → bench_raw_of (hex cdb ++ 32 ∷ hex_or_dash bytes) ≡ Some (Raw cdb bytes)
unfolding bench_raw_of
raw-again cdb bytes h = rw (raw-parts-again cdb bytes h) refl

raw-action-again : (cdb bytes : List ℕ) → IsBenchAction (Raw cdb bytes) → bench_action_of (bench_action_text (Raw cdb bytes)) ≡ Some (Raw cdb bytes)
unfolding bench_action_of
raw-action-again cdb bytes h = rw (stripped-again (codes "cdb ") (hex cdb ++ 32 ∷ hex_or_dash bytes)) (raw-again cdb bytes h)

lose-again : bench_action_of (codes "lose") ≡ Some Lose
unfolding bench_action_of bench_word_of stripped
lose-again = refl

reset-again : bench_action_of (codes "reset") ≡ Some Reset
unfolding bench_action_of bench_word_of stripped
reset-again = refl

drop-again : bench_action_of (codes "drop") ≡ Some DropNext
unfolding bench_action_of bench_word_of stripped
drop-again = refl

fresh-again : bench_action_of (codes "fresh") ≡ Some Fresh
unfolding bench_action_of bench_word_of stripped
fresh-again = refl

action-again : (a : BenchAction) → IsBenchAction a → bench_action_of (bench_action_text a) ≡ Some a
action-again (Raw cdb bytes) h = raw-action-again cdb bytes h
action-again Lose h = lose-again
action-again Reset h = reset-again
action-again DropNext h = drop-again
action-again Fresh h = fresh-again

action-clean : (a : BenchAction) → IsBenchAction a → lacks 10 (bench_action_text a) ≡ true
action-clean (Raw cdb bytes) h = raw-clean cdb bytes h
action-clean Lose h = refl
action-clean Reset h = refl
action-clean DropNext h = refl
action-clean Fresh h = refl

-- ---- the lines

-- what the code keeps of a line whose target is of any size
abbrev pub kept_line : BenchLine → BenchLine
kept_line l = record { target = cap l.target; action = l.action }

line-takes : (text : List ℕ) (v : BenchLine) → bench_line_of text ≡ Some v → Says bench_line_text kept_line IsFormedBenchLine text v
unfolding bench_line_of
line-takes text v e =
    let x = bind-some (addressed_of text) (λ target. bench_action_of target.1 >>= λ action. Some (record { target = target.0; action = action })) v e in
    let y = bind-some (bench_action_of x.0.1) (λ action. Some (record { target = x.0.0; action = action })) v x.2 in
    let p = addressed-takes text x.0 x.1 in
    let a = action-takes x.0.1 y.0 y.1 in
    let w : BenchLine = record { target = p.number; action = y.0 } in
    let all : text ≡ bench_line_text w = p.spelt ∙ ap (λ (t : List ℕ). numeral p.number ++ 32 ∷ t) a.0 in
    let value : record { target = x.0.0; action = y.0 } ≡ kept_line w = ap (λ (n : ℕ). record { target = n; action = y.0 }) p.value in
    record { word = w; spelt = all; formed = a.1; value = sym (same_Some (record { target = x.0.0; action = y.0 }) v y.2) ∙ value }

line-again : (l : BenchLine) → IsFormedBenchLine l → bench_line_of (bench_line_text l) ≡ Some (kept_line l)
unfolding bench_line_of
line-again l f = rw (addressed-again l.target (bench_action_text l.action), action-again l.action f) refl

pub bench_line_rule : IsRule bench_line_of bench_line_text kept_line IsFormedBenchLine
bench_line_rule = record {
  takes = line-takes;
  again = line-again;
  clean = λ l f. lacks-append 10 (numeral l.target) (32 ∷ bench_action_text l.action) (numeral-lacks 10 l.target (omega arith)) (action-clean l.action f);
}
