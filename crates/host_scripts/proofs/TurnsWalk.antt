-- The line of the first turns: what was read is spelt so, or it is the first line that is refused.
use Rattle.std.proofs.Common.{◌≡◌, ℕ, ◌+◌, ◌<◌, ◌≤◌, ◌==◌, nat_lt, nat_le, Bool, true, false, List, [], ◌∷◌, ◌++◌, length, map, get_or, drop, Option, Some, None, refl, sym, ap, subst, ◌∙◌, append_assoc, length-append, arith}
use Rattle.std.specs.Prelude.{codes}
use Rattle.std.specs.List.{flat_map, list_all, AllByRecursion}
use Rattle.std.proofs.lemmas.Bool.{le-leb, lt-ltb}
use Rattle.std.proofs.lemmas.Bool.Decides.{nat_tests}
use Rattle.std.proofs.lemmas.List.{append-nil}
use Rattle.std.proofs.lemmas.Option.{none-some, same_Some}
use Rattle.host_scripts.specs.declared.script.Script.{Script}
use Rattle.host_scripts.specs.declared.script.Call.{Call}
use Rattle.text_fields.specs.Spelling.{line}
use Rattle.host_scripts.specs.Scripts.{letter, call_text, shape_texts, order_texts, script_lines, IsAction, IsScript}
use Rattle.text_fields.specs.Reading.{stripped}
use Rattle.host_scripts.specs.Loose.{order_of}
use Rattle.host_scripts.specs.Reading.{Head, turns_line, any, line_at, are_turns, where_given, order_at}
use Rattle.host_scripts.specs.FirstRefusals.{Begins}
use Rattle.host_scripts.specs.Refusals.{IsFormedCall, IsFormed, script_grammar}
use Rattle.host_scripts.proofs.Outcomes.{Outcome}
use Rattle.text_fields.proofs.Cuts.{stripped-again}
use Rattle.host_scripts.proofs.Texts.{order_rule}
use Rattle.host_scripts.proofs.EachLine.{map-append}
use Rattle.host_scripts.proofs.ShapeTexts.{same-number, same-shape, shape-count}
use Rattle.host_scripts.proofs.ShapeScripts.{behind_shape}
use Rattle.host_scripts.proofs.Places.{Near, IsPlace, Spelled, Grown, placed, outcome_map, ranged-formed}
use Rattle.host_scripts.proofs.HeadWalk.{whole, start_of, head_texts, IsHead, starts}
use Rattle.host_scripts.proofs.CallRanges.{both, le-from, lt-from}

-- ---- the lines of a script behind the ten

-- a header's script with turns and calls, which are those of a script
pub record IsSoFar (h : Head) (given : List ℕ) (asked : List Call) : Type 0 where
  pub head : IsHead h
  pub turns : length given ≤ 1000
  pub order : AllByRecursion (λ host. host < h.hosts) given
  pub calls : AllByRecursion (λ call. (call.host < h.hosts) × IsAction h.geometry call.action) asked

pub so-far : (h : Head) (order : List ℕ) (calls : List Call) → IsSoFar h order calls → IsScript (whole h order calls)
so-far h order calls is = record {
  version = is.head.shape.version_is;
  geometry = is.head.shape.array;
  targets = is.head.shape.targets;
  least_buffer = is.head.least_buffer;
  most_buffer = is.head.most_buffer;
  maxima = is.head.maxima.len;
  write_maximum = is.head.maxima.write_range;
  regenerate_maximum = is.head.maxima.regenerate_range;
  rebuild_maximum = is.head.maxima.rebuild_range;
  seed = omega (arith, is.head.seed);
  least_hosts = is.head.least_hosts;
  most_hosts = is.head.most_hosts;
  turns = is.turns;
  order = is.order;
  calls = is.calls;
}

-- the lines of a header and of turns
abbrev pub front : Head → List ℕ → List (List ℕ)
front h order = script_lines (whole h order [])

-- the lines of a script are its front and those of its calls
pub lines-are : (h : Head) (order : List ℕ) (calls : List Call) → script_lines (whole h order calls) ≡ front h order ++ map call_text calls
lines-are h order calls =
    let shape = shape_texts h.version h.geometry in
    ap (λ (ts : List (List ℕ)). shape ++ ts) (started order) ∙ sym (append_assoc shape (start_of h ++ (order_texts order ++ [])) (map call_text calls))
  where
    started : (order : List ℕ) → start_of h ++ (order_texts order ++ map call_text calls) ≡ (start_of h ++ (order_texts order ++ [])) ++ map call_text calls
    started [] = refl
    started (t ∷ turns) = refl

pub lines-more : (h : Head) (order : List ℕ) (calls more : List Call) → script_lines (whole h order (calls ++ more)) ≡ script_lines (whole h order calls) ++ map call_text more
lines-more h order calls more =
    lines-are h order (calls ++ more) ∙ ap (λ (ts : List (List ℕ)). front h order ++ ts) (map-append call_text calls more)
    ∙ sym (append_assoc (front h order) (map call_text calls) (map call_text more)) ∙ ap (λ (ts : List (List ℕ)). ts ++ map call_text more) (sym (lines-are h order calls))

-- the lines behind the header
abbrev pub behind : Script → List (List ℕ)
behind s = order_texts s.order ++ map call_text s.calls

-- what is known of a script that begins with the lines of a header, and has these behind them
pub record SameHead (h : Head) (s : Script) (texts : List (List ℕ)) : Type 0 where
  pub geometry : s.geometry ≡ h.geometry
  pub hosts : s.hosts ≡ h.hosts
  pub lines : behind s ≡ texts

head-same : (h : Head) → IsHead h → (s : Script) (texts : List (List ℕ)) → IsFormed s → script_lines s ≡ shape_texts h.version h.geometry ++ (start_of h ++ texts) → SameHead h s texts
head-same h is s texts f e =
    let shape = same-shape s.version h.version s.geometry h.geometry (behind_shape s) (start_of h ++ texts) f.version is.shape.version_is e in
    record {
      geometry = shape.geometry;
      hosts = same-number (codes "hosts ") s.hosts h.hosts (ap (λ (xs : List (List ℕ)). get_or xs 4 []) shape.behind);
      lines = ap (λ (xs : List (List ℕ)). drop 5 xs) shape.behind;
    }

-- the same of a script that begins with a header, turns and calls
pub calls-same : (h : Head) → IsHead h → (order : List ℕ) (calls : List Call) (s : Script) (more : List (List ℕ)) → IsFormed s → script_lines s ≡ script_lines (whole h order calls) ++ more
    → SameHead h s ((order_texts order ++ map call_text calls) ++ more)
calls-same h is order calls s more f e = head-same h is s ((order_texts order ++ map call_text calls) ++ more) f (e ∙ append_assoc (shape_texts h.version h.geometry) (start_of h ++ (order_texts order ++ map call_text calls)) more)

-- and of one that begins with a header alone
front-same : (h : Head) → IsHead h → (s : Script) (more : List (List ℕ)) → IsFormed s → script_lines s ≡ head_texts h ++ more → SameHead h s more
front-same h is s more f e = head-same h is s more f (e ∙ append_assoc (shape_texts h.version h.geometry) (start_of h) more)

-- ---- the line of the first turns

pub record OrderRead (bytes : List ℕ) (h : Head) (x : List ℕ × List ℕ) : Type 0 where
  pub is : IsSoFar h x.0 []
  pub split : bytes ≡ flat_map line (front h x.0) ++ x.1
  pub bare : x.0 ≡ [] → stripped (codes "order ") x.1 ≡ None

all-from : (P : ℕ → Bool) (xs : List ℕ) → list_all P xs ≡ true → AllByRecursion (λ x. P x ≡ true) xs
all-from P [] h = tt
all-from P (x ∷ xs) h = let p = both (P x) (list_all P xs) h in (p.0, all-from P xs p.1)

each-number : (P Q : ℕ → Type 0) → ((x : ℕ) → P x → Q x) → (xs : List ℕ) → AllByRecursion P xs → AllByRecursion Q xs
each-number P Q f [] h = tt
each-number P Q f (x ∷ xs) h = (f x h.0, each-number P Q f xs h.1)

all-into : (P : ℕ → Bool) (xs : List ℕ) → AllByRecursion (λ x. P x ≡ true) xs → list_all P xs ≡ true
all-into P [] h = refl
all-into P (x ∷ xs) h = rw (h.0, all-into P xs h.1) refl

turns-from : (hosts : ℕ) (turns : List ℕ) → are_turns hosts turns ≡ true → (length turns ≤ 1000) × AllByRecursion (λ h. h < hosts) turns
turns-from hosts turns h =
    let p = both (nat_le (length turns) 1000) (list_all (λ h. nat_lt h hosts) turns) h in
    (le-from (length turns) 1000 p.0, each-number (λ h. nat_lt h hosts ≡ true) (λ h. h < hosts) (λ x e. lt-from x hosts e) turns (all-from (λ h. nat_lt h hosts) turns p.1))

turns-into : (hosts : ℕ) (turns : List ℕ) → length turns ≤ 1000 → AllByRecursion (λ h. h < hosts) turns → are_turns hosts turns ≡ true
turns-into hosts turns le h = rw (le-leb (length turns) 1000 le, all-into (λ h. nat_lt h hosts) turns (each-number (λ h. h < hosts) (λ h. nat_lt h hosts ≡ true) (λ x lt. lt-ltb x hosts lt) turns h)) refl

abbrev pub order_line : List ℕ → List ℕ
order_line hs = codes "order " ++ map letter hs

abbrev AreLetters : List ℕ → Type 0
AreLetters hs = (1 ≤ length hs) × AllByRecursion (λ h. h < 26) hs

order-texts-are : (hs : List ℕ) → 1 ≤ length hs → order_texts hs ≡ order_line hs ∷ []
order-texts-are [] lt = let no : ⊥ = omega arith in absurd no
order-texts-are (h ∷ hs) lt = refl

-- a call's line doesn't begin as the line of the turns does
pub call-bare : (call : Call) (rest : List ℕ) → call.host < 26 → stripped (codes "order ") (call_text call ++ rest) ≡ None
unfolding stripped
call-bare call rest lt =
    let differs : ((65 + call.host) == 111) ≡ false = grind (arith, nat_tests) in
    rw differs refl

pub order-begins : (letters rest : List ℕ) → stripped (codes "order ") ((codes "order " ++ letters) ++ rest) ≡ Some (letters ++ rest)
order-begins letters rest = stripped-again (codes "order ") (letters ++ rest)

-- where the bytes go on with `order `, a script in form has its turns there
order-here : (order : List ℕ) (calls : List Call) (text : List ℕ) (more : List (List ℕ)) (after rest found : List ℕ) → AllByRecursion (λ h. h < 26) order → AllByRecursion IsFormedCall calls
    → order_texts order ++ map call_text calls ≡ text ∷ more → rest ≡ line text ++ after → stripped (codes "order ") rest ≡ Some found → Spelled order_line AreLetters text
order-here (h ∷ hs) calls text more after rest found all f e split begins =
    let same : order_line (h ∷ hs) ≡ text = ap (λ (xs : List (List ℕ)). get_or xs 0 []) e in
    record { word = h ∷ hs; spelt = sym same; formed = (omega arith, all) }
order-here [] [] text more after rest found all f e split begins = let no : ⊥ = omega (arith, ap (λ (xs : List (List ℕ)). length xs) e) in absurd no
order-here [] (call ∷ calls) text more after rest found all f e split begins =
    let same : call_text call ≡ text = ap (λ (xs : List (List ℕ)). get_or xs 0 []) e in
    let rest-is : rest ≡ call_text call ++ (10 ∷ after) = split ∙ ap (λ (t : List ℕ). line t ++ after) (sym same) ∙ append_assoc (call_text call) (10 ∷ []) after in
    absurd (none-some found (sym (ap (stripped (codes "order ")) rest-is ∙ call-bare call (10 ∷ after) f.0.0) ∙ begins))

head-begins : (h : Head) → IsHead h → Begins script_grammar IsScript (head_texts h)
head-begins h is = record { value = whole h [] []; kind = starts h is; more = []; lines = sym (append-nil (head_texts h)) }

order-split : (h : Head) (hs : List ℕ) → 1 ≤ length hs → head_texts h ++ order_line hs ∷ [] ≡ front h hs
order-split h [] lt = let no : ⊥ = omega arith in absurd no
order-split h (t ∷ hs) lt = append_assoc (shape_texts h.version h.geometry) (start_of h) (order_line (t ∷ hs) ∷ [])

order-formed : (h : Head) → IsHead h → (hs : List ℕ) → AreLetters hs → Begins script_grammar IsFormed (head_texts h ++ order_line hs ∷ [])
order-formed h is hs f = record { value = whole h hs []; kind = record { version = is.shape.version_is; maxima = is.maxima.len; order = f.1; calls = tt }; more = []; lines = sym (order-split h hs f.0) ∙ sym (append-nil (head_texts h ++ order_line hs ∷ [])) }

script-turns : (order : List ℕ) (calls : List Call) (hs : List ℕ) (more : List (List ℕ)) → 1 ≤ length hs → AllByRecursion (λ h. h < 26) order → AllByRecursion IsFormedCall calls → AreLetters hs → order_texts order ++ map call_text calls ≡ order_line hs ∷ more → order ≡ hs
script-turns (o ∷ order) calls hs more lt all f letters e =
    let same : order_line (o ∷ order) ≡ order_line hs = ap (λ (xs : List (List ℕ)). get_or xs 0 []) e in
    same_Some (o ∷ order) hs (sym (order_rule.again (o ∷ order) (omega arith, all)) ∙ ap order_of same ∙ order_rule.again hs letters)
script-turns [] [] hs more lt all f letters e = let no : ⊥ = omega (arith, ap (λ (xs : List (List ℕ)). length xs) e) in absurd no
script-turns [] (call ∷ calls) hs more lt all f letters e =
    let same : call_text call ≡ order_line hs = ap (λ (xs : List (List ℕ)). get_or xs 0 []) e in
    absurd (none-some (map letter hs ++ []) (sym (call-bare call [] f.0.0) ∙ ap (λ (t : List ℕ). stripped (codes "order ") (t ++ [])) same ∙ order-begins (map letter hs) []))

pub turns-number : (h : Head) → IsHead h → turns_line h ≡ length (head_texts h) + 1
turns-number h is = let n = shape-count h.version h.geometry is.shape.version_is in omega (arith, n, length-append (shape_texts h.version h.geometry) (start_of h))

order-placed : (bytes rest found : List ℕ) (h : Head) → IsHead h → bytes ≡ flat_map line (head_texts h) ++ rest → stripped (codes "order ") rest ≡ Some found
    → Outcome (OrderRead bytes h) (Near bytes) (line_at (turns_line h) (are_turns h.hosts) any order_of rest)
order-placed bytes rest found h is e begins =
    let kept : List ℕ → List ℕ = λ hs. hs in
    let texts = head_texts h in
    let n = turns_line h in
    let place : IsPlace order_line kept AreLetters (are_turns h.hosts) texts rest = record {
      here = λ s text more after f e split. order-here s.order s.calls text more after rest found f.order f.calls (front-same h is s (text ∷ more) f e).lines split begins;
      formed = order-formed h is;
      fits = λ s hs more r letters e.
          let f = ranged-formed s r in
          let head = front-same h is s (order_line hs ∷ more) f e in
          let same : s.order ≡ hs = script-turns s.order s.calls hs more letters.0 f.order f.calls letters head.lines in
          let tests : are_turns s.hosts s.order ≡ true = turns-into s.hosts s.order r.turns r.order in
          subst (λ (n : ℕ). are_turns n hs ≡ true) head.hosts (subst (λ (k : List ℕ). are_turns s.hosts k ≡ true) same tests);
    } in
    outcome_map (Grown order_line kept AreLetters (are_turns h.hosts) any bytes texts) (OrderRead bytes h) (Near bytes) (Near bytes) (line_at n (are_turns h.hosts) any order_of rest)
    (placed order_of order_line kept AreLetters order_rule (are_turns h.hosts) any bytes texts rest n e (turns-number h is) (head-begins h is) place (λ bad. absurd (bad.holds.1 refl)))
    (λ x r.
    let t = turns-from h.hosts x.0 r.ranged_is in
    let long : 1 ≤ length x.0 = subst (λ (k : List ℕ). 1 ≤ length k) (sym r.value) r.formed.0 in
    let split : bytes ≡ flat_map line (head_texts h ++ order_line x.0 ∷ []) ++ x.1 = subst (λ (k : List ℕ). bytes ≡ flat_map line (head_texts h ++ order_line k ∷ []) ++ x.1) (sym r.value) r.split in
    record {
      is = record { head = is; turns = t.0; order = t.1; calls = tt };
      split = split ∙ ap (λ (ts : List (List ℕ)). flat_map line ts ++ x.1) (order-split h x.0 long);
      bare = λ none. let no : ⊥ = omega (arith, long, ap (λ (xs : List ℕ). length xs) none) in absurd no;
    }) (λ m cause bad. bad)

order-by : (bytes rest : List ℕ) (h : Head) → IsHead h → bytes ≡ flat_map line (head_texts h) ++ rest → (o : Option (List ℕ)) → stripped (codes "order ") rest ≡ o
    → Outcome (OrderRead bytes h) (Near bytes) (where_given o rest (line_at (turns_line h) (are_turns h.hosts) any order_of rest))
order-by bytes rest h is e (Some found) begins = order-placed bytes rest found h is e begins
order-by bytes rest h is e None none = record { is = record { head = is; turns = omega arith; order = tt; calls = tt }; split = e; bare = λ _. none }

pub order-outcome : (bytes rest : List ℕ) (h : Head) → IsHead h → bytes ≡ flat_map line (head_texts h) ++ rest → Outcome (OrderRead bytes h) (Near bytes) (order_at h.hosts (turns_line h) rest)
unfolding order_at
order-outcome bytes rest h is e = order-by bytes rest h is e (stripped (codes "order ") rest) refl
