-- One line: what is read by a rule is spelt by it, and the line's cause is the first one.
use Rattle.std.proofs.Common.{◌≡◌, ℕ, cond, Bool, true, false, List, [], ◌∷◌, ◌++◌, Option, Some, None, Ok, Err, refl, sym, ap, subst, ◌∙◌, append_assoc}
use Rattle.std.proofs.lemmas.Option.{none-some, same_Some}
use Rattle.host_scripts.specs.declared.script.Cause.{Cause}
use Rattle.host_scripts.specs.declared.script.Cause.TheVariants.{Form, Range, Size}
use Rattle.text_fields.specs.Spelling.{line}
use Rattle.text_fields.specs.Reading.{cut_at}
use Rattle.host_scripts.specs.Reading.{◌>>=◌, ended, judged, next_at, line_at}
use Rattle.text_fields.specs.Laws.{lacks}
use Rattle.text_fields.proofs.Cuts.{cut-takes, cut-again}
use Rattle.host_scripts.proofs.Outcomes.{Outcome}

-- the value of a text, as the code keeps it
pub record Says {V W : Type 0} (text_of : W → List ℕ) (kept : W → V) (Formed : W → Type 0) (text : List ℕ) (v : V) : Type 0 where
  pub word : W
  pub spelt : text ≡ text_of word
  pub formed : Formed word
  pub value : v ≡ kept word

-- a rule reads the texts of its words, and no others
pub record IsRule {V W : Type 0} (rule : List ℕ → Option V) (text_of : W → List ℕ) (kept : W → V) (Formed : W → Type 0) : Type 0 where
  pub takes : (text : List ℕ) (v : V) → rule text ≡ Some v → Says text_of kept Formed text v
  pub again : (w : W) → Formed w → rule (text_of w) ≡ Some (kept w)
  pub clean : (w : W) → Formed w → lacks 10 (text_of w) ≡ true

-- the next line is one of the rule, for a word of which this holds
pub record NextIs {W : Type 0} (text_of : W → List ℕ) (Formed : W → Type 0) (rest : List ℕ) (Holds : W → Type 0) : Type 0 where
  pub word : W
  pub after : List ℕ
  pub split : rest ≡ line (text_of word) ++ after
  pub formed : Formed word
  pub holds : Holds word

-- what was read: a word whose value passes the tests
pub record LineIs {V W : Type 0} (text_of : W → List ℕ) (kept : W → V) (Formed : W → Type 0) (ranged sized : V → Bool) (rest : List ℕ) (read : V × List ℕ) : Type 0 where
  pub word : W
  pub split : rest ≡ line (text_of word) ++ read.1
  pub formed : Formed word
  pub value : read.0 ≡ kept word
  pub ranged_is : ranged read.0 ≡ true
  pub sized_is : sized read.0 ≡ true

-- why a line is refused
abbrev pub LineBad : {V W : Type 0} → (W → List ℕ) → (W → V) → (W → Type 0) → (V → Bool) → (V → Bool) → List ℕ → Cause → Type 0
LineBad text_of kept Formed ranged sized rest Form = NextIs text_of Formed rest (λ w. Unit {0}) → ⊥
LineBad text_of kept Formed ranged sized rest Range = NextIs text_of Formed rest (λ w. ranged (kept w) ≡ true → ⊥)
LineBad text_of kept Formed ranged sized rest Size = NextIs text_of Formed rest (λ w. (ranged (kept w) ≡ true) × (sized (kept w) ≡ true → ⊥))

pub end-of-line : (text rest : List ℕ) → line text ++ rest ≡ text ++ 10 ∷ rest
end-of-line text rest = append_assoc text (10 ∷ []) rest

-- a text with no end of line in it is cut off whole
pub cut-line : (text after rest : List ℕ) → lacks 10 text ≡ true → rest ≡ line text ++ after → cut_at 10 rest ≡ Some (text, after)
cut-line text after rest h e = ap (cut_at 10) (e ∙ end-of-line text after) ∙ cut-again 10 text after h

true-false : (b : Bool) → b ≡ false → b ≡ true → ⊥
true-false b f t = let no : true ≡ false = sym t ∙ f in absurd cc

by-tests : {V W : Type 0} (text_of : W → List ℕ) (kept : W → V) (Formed : W → Type 0) (ranged sized : V → Bool) (n : ℕ) (rest after : List ℕ) (v : V) (w : W)
    → rest ≡ line (text_of w) ++ after → Formed w → v ≡ kept w → (a b : Bool) → ranged v ≡ a → sized v ≡ b
    → Outcome (LineIs text_of kept Formed ranged sized rest) (λ m cause. (m ≡ n) × LineBad text_of kept Formed ranged sized rest cause)
    ((cond a (cond b (Ok v) (Err (n, Size))) (Err (n, Range))) >>= λ x. Ok (x, after))
by-tests text_of kept Formed ranged sized n rest after v w e f k true true r s = record { word = w; split = e; formed = f; value = k; ranged_is = r; sized_is = s }
by-tests {V} text_of kept Formed ranged sized n rest after v w e f k true false r s =
    let P : V → Type 0 = λ x. (ranged x ≡ true) × (sized x ≡ false) in
    let both = subst P k (r, s) in
    (refl, record { word = w; after = after; split = e; formed = f; holds = (both.0, true-false (sized (kept w)) both.1) })
by-tests {V} text_of kept Formed ranged sized n rest after v w e f k false b r s =
    let P : V → Type 0 = λ x. ranged x ≡ false in
    (refl, record { word = w; after = after; split = e; formed = f; holds = true-false (ranged (kept w)) (subst P k r) })

by-rule : {V W : Type 0} (rule : List ℕ → Option V) (text_of : W → List ℕ) (kept : W → V) (Formed : W → Type 0) → IsRule rule text_of kept Formed → (ranged sized : V → Bool) (n : ℕ) (rest text after : List ℕ)
    → cut_at 10 rest ≡ Some (text, after) → (o : Option V) → rule text ≡ o
    → Outcome (LineIs text_of kept Formed ranged sized rest) (λ m cause. (m ≡ n) × LineBad text_of kept Formed ranged sized rest cause) (judged n ranged sized o >>= λ x. Ok (x, after))
by-rule rule text_of kept Formed is ranged sized n rest text after cut None e = (
  refl,
  λ next.
      let same = same_Some (text_of next.word, next.after) (text, after) (sym (cut-line (text_of next.word) next.after rest (is.clean next.word next.formed) next.split) ∙ cut) in
      let text-is : text_of next.word ≡ text = ap (λ (p : List ℕ × List ℕ). p.0) same in
      none-some (kept next.word) (sym e ∙ ap rule (sym text-is) ∙ is.again next.word next.formed),
)
by-rule rule text_of kept Formed is ranged sized n rest text after cut (Some v) e =
    let said = is.takes text v e in
    let split : rest ≡ line (text_of said.word) ++ after = cut-takes 10 rest text after cut ∙ ap (λ (t : List ℕ). t ++ 10 ∷ after) said.spelt ∙ sym (end-of-line (text_of said.word) after) in
    by-tests text_of kept Formed ranged sized n rest after v said.word split said.formed said.value (ranged v) (sized v) refl refl

by-cut : {V W : Type 0} (rule : List ℕ → Option V) (text_of : W → List ℕ) (kept : W → V) (Formed : W → Type 0) → IsRule rule text_of kept Formed → (ranged sized : V → Bool) (n : ℕ) (rest : List ℕ)
    → (o : Option (List ℕ × List ℕ)) → cut_at 10 rest ≡ o
    → Outcome (LineIs text_of kept Formed ranged sized rest) (λ m cause. (m ≡ n) × LineBad text_of kept Formed ranged sized rest cause) (ended n o >>= λ cut. judged n ranged sized (rule cut.0) >>= λ x. Ok (x, cut.1))
by-cut rule text_of kept Formed is ranged sized n rest None e =
    (refl, λ next. none-some (text_of next.word, next.after) (sym e ∙ cut-line (text_of next.word) next.after rest (is.clean next.word next.formed) next.split))
by-cut rule text_of kept Formed is ranged sized n rest (Some cut) e = by-rule rule text_of kept Formed is ranged sized n rest cut.0 cut.1 e (rule cut.0) refl

-- what is known of the next line, read by a rule
pub line-outcome : {V W : Type 0} (rule : List ℕ → Option V) (text_of : W → List ℕ) (kept : W → V) (Formed : W → Type 0) → IsRule rule text_of kept Formed → (ranged sized : V → Bool) (n : ℕ) (rest : List ℕ)
    → Outcome (LineIs text_of kept Formed ranged sized rest) (λ m cause. (m ≡ n) × LineBad text_of kept Formed ranged sized rest cause) (line_at n ranged sized rule rest)
unfolding line_at next_at
line-outcome rule text_of kept Formed is ranged sized n rest = by-cut rule text_of kept Formed is ranged sized n rest (cut_at 10 rest) refl

-- a line that is spelt by a rule, and whose value passes the tests, is read
pub line-again : {V W : Type 0} (rule : List ℕ → Option V) (text_of : W → List ℕ) (kept : W → V) (Formed : W → Type 0) → IsRule rule text_of kept Formed → (ranged sized : V → Bool) (n : ℕ) (w : W) (after : List ℕ)
    → Formed w → ranged (kept w) ≡ true → sized (kept w) ≡ true → line_at n ranged sized rule (line (text_of w) ++ after) ≡ Ok (kept w, after)
unfolding line_at next_at
line-again rule text_of kept Formed is ranged sized n w after f r s =
    rw (cut-line (text_of w) after (line (text_of w) ++ after) (is.clean w f) refl, is.again w f, r, s) refl
