-- Lines among which a line of a kind is looked for, and the numbers that some begin with.
use Rattle.std.proofs.Common.{◌≡◌, ℕ, zero, suc, ◌+◌, ◌/◌, ◌%◌, ◌<◌, ◌==◌, ◌&&◌, nat_lt, not, cond, Bool, true, false, List, [], ◌∷◌, ◌++◌, length, Some, refl, ap, ◌∙◌, append_assoc, length-append, arith}
use Rattle.std.specs.List.{flat_map}
use Rattle.std.specs.Fmt.{decimal, digits, digits_onto, digit_glyph}
use Rattle.std.proofs.lemmas.Bool.{and_parts, and_from, ne_eqb, ltb-true}
use Rattle.std.proofs.lemmas.Bool.Decides.{nat_tests}
use Rattle.text_fields.specs.Spelling.{line}
use Rattle.text_fields.specs.Laws.{lacks}
use Rattle.trace_check.specs.declared.checking.parting.LineStart.{LineStart}
use Rattle.trace_check.specs.declared.checking.parting.LineStart.TheVariants as starts
use Rattle.trace_check.specs.Inputs.{starts_line, place_from}

-- ---- texts without the start

-- no line that begins in the text is starts_line, and the next begins behind it
abbrev pub Passes : LineStart → List ℕ → Type 0
Passes start text = (place : ℕ) (rest : List ℕ) → place_from start place true (text ++ rest) ≡ place_from start (place + length text) true rest

at-place : (start : LineStart) (rest : List ℕ) (p q : ℕ) → p ≡ q → place_from start p true rest ≡ place_from start q true rest
at-place start rest p q e = ap (λ (k : ℕ). place_from start k true rest) e

pub none-passes : (start : LineStart) → Passes start []
none-passes start place rest = at-place start rest place (place + 0) (omega arith)

pub both-pass : (start : LineStart) (a b : List ℕ) → Passes start a → Passes start b → Passes start (a ++ b)
both-pass start a b f g place rest =
    let len : length (a ++ b) ≡ length a + length b = length-append a b in
    ap (λ (t : List ℕ). place_from start place true t) (append_assoc a b rest)
    ∙ f place (b ++ rest) ∙ g (place + length a) rest ∙ at-place start rest (place + length a + length b) (place + length (a ++ b)) (omega (arith, len))

pub each-passes : {A : Type 0} (start : LineStart) (text : A → List ℕ) (xs : List A) → ((x : A) → Passes start (text x)) → Passes start (flat_map text xs)
each-passes start text [] h = none-passes start
each-passes start text (x ∷ xs) h = both-pass start (text x) (flat_map text xs) (h x) (each-passes start text xs h)

not-true : (b : Bool) → not b ≡ true → b ≡ false
not-true true h = absurd cc
not-true false h = refl

-- behind the front of a line
within : (start : LineStart) (text rest : List ℕ) (place : ℕ) → lacks 10 text ≡ true → place_from start place false (text ++ 10 ∷ rest) ≡ place_from start (place + length text + 1) true rest
within start [] rest place h = at-place start rest (place + 1) (place + 0 + 1) (omega arith)
within start (b ∷ text) rest place h =
    let p = and_parts (not (b == 10)) (lacks 10 text) h in
    ap (λ (s : Bool). place_from start (place + 1) s (text ++ 10 ∷ rest)) (not-true (b == 10) p.0)
    ∙ within start text rest (place + 1) p.1
    ∙ at-place start rest (place + 1 + length text + 1) (place + suc (length text) + 1) (omega arith)

-- the rest of a line that has begun
pub line-goes : (start : LineStart) (text rest : List ℕ) (place : ℕ) → lacks 10 text ≡ true → place_from start place false (line text ++ rest) ≡ place_from start (place + length (line text)) true rest
line-goes start text rest place h =
    let len : length (line text) ≡ length text + 1 = length-append text (10 ∷ []) in
    ap (λ (t : List ℕ). place_from start place false t) (append_assoc text (10 ∷ []) rest)
    ∙ within start text rest place h
    ∙ at-place start rest (place + length text + 1) (place + length (line text)) (omega (arith, len))

step : (start : LineStart) (place b : ℕ) (bytes : List ℕ) → starts_line start (b ∷ bytes) ≡ false → place_from start place true (b ∷ bytes) ≡ place_from start place false (b ∷ bytes)
step start place b bytes h = ap (λ (s : Bool). cond s (Some place) (place_from start (place + 1) (b == 10) bytes)) h

pub line-passes : (start : LineStart) (text : List ℕ) → lacks 10 text ≡ true → ((rest : List ℕ) → starts_line start (line text ++ rest) ≡ false) → Passes start (line text)
line-passes start [] h m place rest = step start place 10 rest (m rest) ∙ line-goes start [] rest place h
line-passes start (c ∷ text) h m place rest = step start place c ((text ++ 10 ∷ []) ++ rest) (m rest) ∙ line-goes start (c ∷ text) rest place h

-- ---- numbers

abbrev is-digit : ℕ → Bool
is-digit c = nat_lt 47 c && nat_lt c 58

-- the first byte is a digit
abbrev pub leads : List ℕ → Bool
leads [] = false
leads (c ∷ text) = is-digit c

pub leads-append : (a b : List ℕ) → leads a ≡ true → leads (a ++ b) ≡ true
leads-append [] b h = absurd cc
leads-append (c ∷ a) b h = h

glyph-digit : (n : ℕ) → is-digit (digit_glyph false (n % 10)) ≡ true
glyph-digit n = small (n % 10) (omega arith)
  where
    small : (d : ℕ) → d < 10 → is-digit (digit_glyph false d) ≡ true
    small d lt = grind (arith, nat_tests, lt)

glyph-lacks : (n : ℕ) (acc : List ℕ) → lacks 10 acc ≡ true → lacks 10 (digit_glyph false (n % 10) ∷ acc) ≡ true
glyph-lacks n acc h = and_from (not (digit_glyph false (n % 10) == 10)) (lacks 10 acc) (small (n % 10)) h
  where
    small : (d : ℕ) → not (digit_glyph false d == 10) ≡ true
    small d = grind (arith, nat_tests)

pick-lacks : (b : Bool) (x y : List ℕ) → lacks 10 x ≡ true → lacks 10 y ≡ true → lacks 10 (cond b x y) ≡ true
pick-lacks true x y h k = h
pick-lacks false x y h k = k

pick-leads : (b : Bool) (x y : List ℕ) → leads x ≡ true → leads y ≡ true → leads (cond b x y) ≡ true
pick-leads true x y h k = h
pick-leads false x y h k = k

onto-lacks : (k n : ℕ) (acc : List ℕ) → lacks 10 acc ≡ true → lacks 10 (digits_onto k 10 false n acc) ≡ true
onto-lacks zero n acc h = h
onto-lacks (suc k) n acc h =
    let one = glyph-lacks n acc h in
    pick-lacks (n / 10 == 0) (digit_glyph false (n % 10) ∷ acc) (digits_onto k 10 false (n / 10) (digit_glyph false (n % 10) ∷ acc)) one (onto-lacks k (n / 10) (digit_glyph false (n % 10) ∷ acc) one)

onto-leads : (k n : ℕ) (acc : List ℕ) → leads acc ≡ true → leads (digits_onto k 10 false n acc) ≡ true
onto-leads zero n acc h = h
onto-leads (suc k) n acc h =
    let one = glyph-digit n in
    pick-leads (n / 10 == 0) (digit_glyph false (n % 10) ∷ acc) (digits_onto k 10 false (n / 10) (digit_glyph false (n % 10) ∷ acc)) one (onto-leads k (n / 10) (digit_glyph false (n % 10) ∷ acc) one)

pub decimal-lacks : (n : ℕ) → lacks 10 (decimal n) ≡ true
unfolding digits
decimal-lacks n = onto-lacks 64 n [] refl

pub decimal-leads : (n : ℕ) → leads (decimal n) ≡ true
unfolding digits
decimal-leads n =
    let one = glyph-digit n in
    pick-leads (n / 10 == 0) (digit_glyph false (n % 10) ∷ []) (digits_onto 63 10 false (n / 10) (digit_glyph false (n % 10) ∷ [])) one (onto-leads 63 (n / 10) (digit_glyph false (n % 10) ∷ []) one)

pub digit-no-stripes : (bytes : List ℕ) → leads bytes ≡ true → starts_line starts.Stripes bytes ≡ false
digit-no-stripes [] h = absurd cc
digit-no-stripes (c ∷ bytes) h =
    let p = and_parts (nat_lt 47 c) (nat_lt c 58) h in
    let lt : c < 58 = ltb-true c 58 p.1 in
    let other : (115 == c) ≡ false = ne_eqb 115 c (λ e. omega (arith, lt, e)) in
    rw other refl

pub digit-is-trace : (bytes : List ℕ) → leads bytes ≡ true → starts_line starts.Trace bytes ≡ true
digit-is-trace [] h = absurd cc
digit-is-trace (c ∷ bytes) h =
    let p = and_parts (nat_lt 47 c) (nat_lt c 58) h in
    let lt : c < 58 = ltb-true c 58 p.1 in
    let d : (100 == c) ≡ false = ne_eqb 100 c (λ e. omega (arith, lt, e)) in
    let a : (97 == c) ≡ false = ne_eqb 97 c (λ e. omega (arith, lt, e)) in
    rw (d, a) refl
