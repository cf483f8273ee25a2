-- From what is known of one line to what is known of the bytes, in any grammar: the lines so far, and the refusal of the next.
use Rattle.std.proofs.Common.{◌≡◌, ℕ, ◌+◌, ◌≤◌, Bool, true, List, [], ◌∷◌, ◌++◌, length, Option, Result, Ok, Err, refl, sym, ap, subst, ◌∙◌, append_assoc, arith}
use Rattle.std.specs.List.{flat_map}
use Rattle.std.proofs.lemmas.List.{append-nil}
use Rattle.std.proofs.lemmas.Grind.{flat_map-append}
use Rattle.std.proofs.lemmas.Option.{same_Some}
use Rattle.std.proofs.lemmas.Bool.Decides.{nat_tests}
use Rattle.host_scripts.specs.declared.script.Cause.{Cause}
use Rattle.host_scripts.specs.declared.script.Cause.TheVariants.{Form, Range, Size}
use Rattle.text_fields.specs.Spelling.{line, numeral}
use Rattle.host_scripts.specs.Loose.{number_of}
use Rattle.host_scripts.specs.Reading.{Fault, any, within, line_at, number_at}
use Rattle.host_scripts.specs.FirstRefusals.{Grammar, Begins, IsCause}
use Rattle.text_fields.specs.Laws.{lacks}
use Rattle.host_scripts.proofs.Outcomes.{Outcome}
use Rattle.host_scripts.proofs.Rules.{IsRule, LineIs, LineBad, cut-line, line-outcome}
use Rattle.host_scripts.proofs.Texts.{cap, number_rule}
use Rattle.host_scripts.proofs.NumberLines.{within-true}
use Rattle.host_scripts.proofs.ShapeTexts.{same-number}

-- what is in range is in form, and what is allowed is in range
pub record IsNested {V : Type 0} (g : Grammar V) : Type 0 where
  pub formed : (v : V) → g.ranged v → g.formed v
  pub ranged : (v : V) → g.allowed v → g.ranged v

-- a refusal, but for the fact that nothing is spelt
pub record NearIn {V : Type 0} (g : Grammar V) (bytes : List ℕ) (number : ℕ) (cause : Cause) : Type 0 where
  pub texts : List (List ℕ)
  pub rest : List ℕ
  pub split : bytes ≡ flat_map line texts ++ rest
  pub place : number ≡ length texts + 1
  pub begins : Begins g g.allowed texts
  pub because : IsCause g texts rest cause

pub outcome_map : {X : Type 0} (Good Better : X → Type 0) (Bad Worse : ℕ → Cause → Type 0) (r : Result X Fault) → Outcome Good Bad r → ((x : X) → Good x → Better x) → ((n : ℕ) (cause : Cause) → Bad n cause → Worse n cause) → Outcome Better Worse r
outcome_map Good Better Bad Worse (Ok x) h f g = f x h
outcome_map Good Better Bad Worse (Err e) h f g = g e.0 e.1 h

-- one more line
pub one-more : (bytes : List ℕ) (texts : List (List ℕ)) (text rest after : List ℕ) → bytes ≡ flat_map line texts ++ rest → rest ≡ line text ++ after → bytes ≡ flat_map line (texts ++ text ∷ []) ++ after
one-more bytes texts text rest after e f =
    let joined : flat_map line (texts ++ text ∷ []) ≡ flat_map line texts ++ flat_map line (text ∷ []) = flat_map-append line texts (text ∷ []) in
    let last : flat_map line (text ∷ []) ≡ line text = append-nil (line text) in
    e ∙ ap (λ (r : List ℕ). flat_map line texts ++ r) f ∙ sym (append_assoc (flat_map line texts) (line text) after)
    ∙ ap (λ (r : List ℕ). (flat_map line texts ++ r) ++ after) (sym last) ∙ ap (λ (r : List ℕ). r ++ after) (sym joined)

pub regroup : (texts more : List (List ℕ)) (text : List ℕ) → (texts ++ text ∷ []) ++ more ≡ texts ++ text ∷ more
regroup texts more text = append_assoc texts (text ∷ []) more

-- a text that the rule spells
pub record Spelled {W : Type 0} (text_of : W → List ℕ) (Formed : W → Type 0) (text : List ℕ) : Type 0 where
  pub word : W
  pub spelt : text ≡ text_of word
  pub formed : Formed word

-- what was read: the bytes begin with one more line, whose value passes the tests
pub record Grown {V W : Type 0} (text_of : W → List ℕ) (kept : W → V) (Formed : W → Type 0) (ranged sized : V → Bool) (bytes : List ℕ) (texts : List (List ℕ)) (read : V × List ℕ) : Type 0 where
  pub word : W
  pub split : bytes ≡ flat_map line (texts ++ text_of word ∷ []) ++ read.1
  pub formed : Formed word
  pub value : read.0 ≡ kept word
  pub ranged_is : ranged read.0 ≡ true
  pub sized_is : sized read.0 ≡ true

-- what is asked of the place of a line: which values go on there, and with what
pub record IsPlaceIn {S V W : Type 0} (g : Grammar S) (text_of : W → List ℕ) (kept : W → V) (Formed : W → Type 0) (ranged : V → Bool) (texts : List (List ℕ)) (rest : List ℕ) : Type 0 where
  pub here : (s : S) (text : List ℕ) (more : List (List ℕ)) (after : List ℕ) → g.formed s → g.lines s ≡ texts ++ text ∷ more → rest ≡ line text ++ after → Spelled text_of Formed text
  pub formed : (w : W) → Formed w → Begins g g.formed (texts ++ text_of w ∷ [])
  pub fits : (s : S) (w : W) (more : List (List ℕ)) → g.ranged s → Formed w → g.lines s ≡ texts ++ text_of w ∷ more → ranged (kept w) ≡ true

-- the same line is cut off the same bytes
pub same-line : (a b x y rest : List ℕ) → lacks 10 a ≡ true → lacks 10 b ≡ true → rest ≡ line a ++ x → rest ≡ line b ++ y → a ≡ b
same-line a b x y rest h k e f = ap (λ (p : List ℕ × List ℕ). p.0) (same_Some (a, x) (b, y) (sym (cut-line a x rest h e) ∙ cut-line b y rest k f))

because : {S V W : Type 0} (g : Grammar S) → IsNested g → (rule : List ℕ → Option V) (text_of : W → List ℕ) (kept : W → V) (Formed : W → Type 0) → IsRule rule text_of kept Formed → (ranged sized : V → Bool) (texts : List (List ℕ)) (rest : List ℕ)
    → IsPlaceIn g text_of kept Formed ranged texts rest → (LineBad text_of kept Formed ranged sized rest Size → IsCause g texts rest Size)
    → (cause : Cause) → LineBad text_of kept Formed ranged sized rest cause → IsCause g texts rest cause
because g nested rule text_of kept Formed is ranged sized texts rest place size Form bad = λ next.
    let lines = next.begins.lines ∙ regroup texts next.begins.more next.text in
    let a = place.here next.begins.value next.text next.begins.more next.after next.begins.kind lines next.split in
    bad (record { word = a.word; after = next.after; split = next.split ∙ ap (λ (t : List ℕ). line t ++ next.after) a.spelt; formed = a.formed; holds = tt })
because g nested rule text_of kept Formed is ranged sized texts rest place size Range bad = (
  record { text = text_of bad.word; after = bad.after; split = bad.split; begins = place.formed bad.word bad.formed },
  λ next.
      let lines = next.begins.lines ∙ regroup texts next.begins.more next.text in
      let a = place.here next.begins.value next.text next.begins.more next.after (nested.formed next.begins.value next.begins.kind) lines next.split in
      let split : rest ≡ line (text_of a.word) ++ next.after = next.split ∙ ap (λ (t : List ℕ). line t ++ next.after) a.spelt in
      let same : text_of a.word ≡ text_of bad.word = same-line (text_of a.word) (text_of bad.word) next.after bad.after rest (is.clean a.word a.formed) (is.clean bad.word bad.formed) split bad.split in
      let text-is : next.text ≡ text_of bad.word = a.spelt ∙ same in
      bad.holds (place.fits next.begins.value bad.word next.begins.more next.begins.kind bad.formed (lines ∙ ap (λ (t : List ℕ). texts ++ t ∷ next.begins.more) text-is)),
)
because g nested rule text_of kept Formed is ranged sized texts rest place size Size bad = size bad

-- what is known of the bytes once the line behind these is read
pub placed-in : {S V W : Type 0} (g : Grammar S) → IsNested g → (rule : List ℕ → Option V) (text_of : W → List ℕ) (kept : W → V) (Formed : W → Type 0) → IsRule rule text_of kept Formed → (ranged sized : V → Bool)
    (bytes : List ℕ) (texts : List (List ℕ)) (rest : List ℕ) (n : ℕ) → bytes ≡ flat_map line texts ++ rest → n ≡ length texts + 1 → Begins g g.allowed texts
    → IsPlaceIn g text_of kept Formed ranged texts rest → (LineBad text_of kept Formed ranged sized rest Size → IsCause g texts rest Size)
    → Outcome (Grown text_of kept Formed ranged sized bytes texts) (NearIn g bytes) (line_at n ranged sized rule rest)
placed-in g nested rule text_of kept Formed is ranged sized bytes texts rest n split number begins place size =
    outcome_map (LineIs text_of kept Formed ranged sized rest) (Grown text_of kept Formed ranged sized bytes texts) (λ m cause. (m ≡ n) × LineBad text_of kept Formed ranged sized rest cause) (NearIn g bytes) (line_at n ranged sized rule rest)
    (line-outcome rule text_of kept Formed is ranged sized n rest)
    (λ x r. record { word = r.word; split = one-more bytes texts (text_of r.word) rest x.1 split r.split; formed = r.formed; value = r.value; ranged_is = r.ranged_is; sized_is = r.sized_is })
    (λ m cause bad. record { texts = texts; rest = rest; split = split; place = bad.0 ∙ number; begins = begins; because = because g nested rule text_of kept Formed is ranged sized texts rest place size cause bad.1 })

-- ---- numbers

pub within-parts : (least most n : ℕ) → most ≤ 4294967295 → within least most (cap n) ≡ true → (least ≤ n) × (n ≤ most) × (cap n ≡ n)
within-parts least most n small h =
    let range : (least ≤ cap n) × (cap n ≤ most) = grind (arith, nat_tests, h) in
    let e : cap n ≡ n = omega (arith, range) in
    (omega (arith, e, range), omega (arith, e, range), e)

-- what was read: the bytes begin with one more line, of a number in range
pub record NumberRead (keyword : List ℕ) (least most : ℕ) (bytes : List ℕ) (texts : List (List ℕ)) (read : ℕ × List ℕ) : Type 0 where
  pub split : bytes ≡ flat_map line (texts ++ (keyword ++ numeral read.0) ∷ []) ++ read.1
  pub low : least ≤ read.0
  pub high : read.0 ≤ most

number-read : (keyword : List ℕ) (least most : ℕ) (bytes : List ℕ) (texts : List (List ℕ)) (x : ℕ × List ℕ) → most ≤ 4294967295
    → Grown (λ n. keyword ++ numeral n) cap (λ n. Unit {0}) (within least most) any bytes texts x → NumberRead keyword least most bytes texts x
number-read keyword least most bytes texts x small g =
    let P : ℕ → Type 0 = λ v. within least most v ≡ true in
    let p = within-parts least most g.word small (subst P g.value g.ranged_is) in
    let e : g.word ≡ x.0 = sym (g.value ∙ p.2) in
    record { split = g.split ∙ ap (λ (n : ℕ). flat_map line (texts ++ (keyword ++ numeral n) ∷ []) ++ x.1) e; low = omega (arith, e, p.0); high = omega (arith, e, p.1) }

pub number-placed-in : {S : Type 0} (g : Grammar S) → IsNested g → (keyword : List ℕ) (least most : ℕ) → lacks 10 keyword ≡ true → most ≤ 4294967295 → (field : S → ℕ)
    (bytes : List ℕ) (texts : List (List ℕ)) (rest : List ℕ) (n : ℕ) → bytes ≡ flat_map line texts ++ rest → n ≡ length texts + 1 → Begins g g.allowed texts
    → ((s : S) (text : List ℕ) (more : List (List ℕ)) → g.formed s → g.lines s ≡ texts ++ text ∷ more → keyword ++ numeral (field s) ≡ text)
    → ((m : ℕ) → Begins g g.formed (texts ++ (keyword ++ numeral m) ∷ []))
    → ((s : S) (text : List ℕ) (more : List (List ℕ)) → g.ranged s → g.lines s ≡ texts ++ text ∷ more → (least ≤ field s) × (field s ≤ most))
    → Outcome (NumberRead keyword least most bytes texts) (NearIn g bytes) (number_at n keyword least most rest)
unfolding number_at
number-placed-in g nested keyword least most clean small field bytes texts rest n split number begins here formed fits =
    let text_of : ℕ → List ℕ = λ n. keyword ++ numeral n in
    let Formed : ℕ → Type 0 = λ n. Unit {0} in
    let place : IsPlaceIn g text_of cap Formed (within least most) texts rest = record {
      here = λ s text more after f e split. record { word = field s; spelt = sym (here s text more f e); formed = tt };
      formed = λ m _. formed m;
      fits = λ s m more r f e.
          let same = same-number keyword (field s) m (here s (keyword ++ numeral m) more (nested.formed s r) e) in
          let p = fits s (keyword ++ numeral m) more r e in
          within-true least most m small (omega (arith, same, p.0)) (omega (arith, same, p.1));
    } in
    outcome_map (Grown text_of cap Formed (within least most) any bytes texts) (NumberRead keyword least most bytes texts) (NearIn g bytes) (NearIn g bytes) (line_at n (within least most) any (number_of keyword) rest)
    (placed-in g nested (number_of keyword) text_of cap Formed (number_rule keyword clean) (within least most) any bytes texts rest n split number begins place (λ bad. absurd (bad.holds.1 refl)))
    (λ x r. number-read keyword least most bytes texts x small r) (λ m cause bad. bad)
