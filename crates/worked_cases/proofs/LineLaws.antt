-- Taking lines off the front of a list.
use Rattle.std.proofs.Common.{◌≡◌, ◌∙◌, ℕ, ◌+◌, ◌<◌, ◌==◌, ◌⊎◌, inl, inr, List, [], ◌∷◌, ◌++◌, length, get_or, refl, sym, ap, subst, append_assoc, length-append, arith, false}
use Rattle.std.specs.List.{position_or_len, before_first, after_first, All}
use Rattle.std.proofs.lemmas.Bool.{cases_lt}
use Rattle.std.proofs.lemmas.List.{take_all, drop_all}
use Rattle.std.proofs.lemmas.List.Splits.{slice_split_first, slice_split_none}
use Rattle.std.proofs.lemmas.List.Sums.{fails_before_first}
use Rattle.worked_cases.specs.declared.faults.Wrong.{Wrong}
use Rattle.worked_cases.specs.declared.faults.Wrong.TheVariants.{Unread, Memory}
use Rattle.worked_cases.specs.declared.lines.Line.{Line}
use Rattle.worked_cases.specs.Faults.{placed}
use Rattle.worked_cases.specs.Lines.{lines_in, IsLine, AreLines, IsFaultOf}

-- the first line of a text, and what stands behind it
abbrev pub line_of : List ℕ → List ℕ
line_of text = before_first (λ b. b == 10) text

abbrev pub behind_of : List ℕ → List ℕ
behind_of text = after_first (λ b. b == 10) text

-- so many lines of a list stand before what is left of it, or nothing is left
abbrev pub IsPassed : List ℕ → List ℕ → ℕ → Type 0
IsPassed text rest number = ((front : List (List ℕ)) × ((lines_in text ≡ front ++ lines_in rest) × (length front ≡ number))) ⊎ (rest ≡ [])

-- the lines of a text are the first one and those behind it, or the one
lines-first : (text : List ℕ) →
    (lines_in text ≡ line_of text ∷ lines_in (behind_of text)) ⊎ ((lines_in text ≡ line_of text ∷ []) × (behind_of text ≡ []))
lines-first text = elim (cases_lt (position_or_len (λ b. b == 10) text) (length text)) [
  | inl below ↦ inl (slice_split_first (λ b. b == 10) text 0 below)
  | inr above ↦
      let whole : line_of text ≡ text = take_all (position_or_len (λ b. b == 10) text) text above in
      let none : All (λ b. (b == 10) ≡ false) text = λ k d below. fails_before_first (λ b. b == 10) text k d (omega arith) in
      inr (slice_split_none (λ b. b == 10) text none ∙ ap (λ line. line ∷ []) (sym whole), drop_all _ text (omega arith))
]

pub passed-none : (text : List ℕ) → IsPassed text text 0
passed-none text = inl ([], (refl, refl))

-- the first line of what is left is one of the list
pub line-first : (text rest : List ℕ) (number : ℕ) → IsPassed text rest number → (rest ≡ [] → ⊥) → IsLine text (number + 1) (line_of rest)
line-first text rest number passed some = elim passed [
  | inl front ↦ elim (lines-first rest) [
    | inl more ↦ (front.0, (lines_in (behind_of rest), (front.1.0 ∙ ap (λ lines. front.0 ++ lines) more, ap (λ n. n + 1) (sym front.1.1))))
    | inr last ↦ (front.0, ([], (front.1.0 ∙ ap (λ lines. front.0 ++ lines) last.0, ap (λ n. n + 1) (sym front.1.1))))
  ]
  | inr nothing ↦ absurd (some nothing)
]

-- with it taken off
pub passed-more : (text rest : List ℕ) (number : ℕ) → IsPassed text rest number → (rest ≡ [] → ⊥) → IsPassed text (behind_of rest) (number + 1)
passed-more text rest number passed some = elim passed [
  | inl front ↦ elim (lines-first rest) [
    | inl more ↦ inl (
      front.0 ++ line_of rest ∷ [],
      (
        front.1.0 ∙ ap (λ lines. front.0 ++ lines) more ∙ sym (append_assoc front.0 (line_of rest ∷ []) (lines_in (behind_of rest))),
        length-append front.0 (line_of rest ∷ []) ∙ ap (λ n. n + 1) front.1.1,
      ),
    )
    | inr last ↦ inr last.1
  ]
  | inr nothing ↦ absurd (some nothing)
]

-- the first line of a list
pub line-one : (text : List ℕ) → IsLine text 1 (line_of text)
line-one text = elim (lines-first text) [
  | inl more ↦ ([], (lines_in (behind_of text), (more, refl)))
  | inr last ↦ ([], ([], (last.0, refl)))
]

-- what is wrong in a line of the list is a fault of the list
pub fault-placed : (text : List ℕ) (wrong : Wrong) (number : ℕ) (line : List ℕ) → IsLine text number line → IsFaultOf text (placed wrong number)
fault-placed text (Unread expected) number line is = (line, is)
fault-placed text Memory number line is = tt

-- one of the lines
pub line-at : (text : List ℕ) (lines : List Line) (place : ℕ) (line : Line) → AreLines text lines → place < length lines →
    line ≡ get_or lines place line → IsLine text line.number line.text.now
line-at text lines place line are below is =
    let P : Line → Type 0 = λ l. IsLine text l.number l.text.now in
    subst P (sym is) (are place line below)
