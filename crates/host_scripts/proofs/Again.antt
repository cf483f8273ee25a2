-- What spells a script is read as that script.
use Rattle.std.proofs.Common.{◌≡◌, ℕ, ◌+◌, ◌*◌, ◌%◌, ◌^◌, ◌<◌, ◌≤◌, inl, inr, ◌||◌, ◌==◌, nat_lt, nat_le, Bool, true, false, List, [], ◌∷◌, ◌++◌, length, map, get_or, Some, None, Result, Ok, refl, ap, ◌∙◌, arith}
use Rattle.std.specs.Prelude.{codes}
use Rattle.std.specs.List.{list_all, AllByRecursion}
use Rattle.std.proofs.lemmas.Bool.{le-leb, lt-ltb}
use Rattle.std.proofs.lemmas.Bool.Decides.{nat_tests}
use Rattle.stripe_layout.specs.Layout.{greatest_unit}
use Rattle.stripe_layout.specs.declared.geometry.Geometry.{Geometry}
use Rattle.stripe_layout.specs.declared.mode.Mode.{Mode}
use Rattle.host_scripts.specs.declared.script.Script.{Script}
use Rattle.host_scripts.specs.declared.script.Call.{Call}
use Rattle.host_scripts.specs.declared.script.Action.{Action}
use Rattle.host_scripts.specs.declared.script.Action.TheVariants.{Read, Write, Fill, Raw, Lose, Reset, DropNext, Replace, Rebuild, Resync}
use Rattle.text_fields.specs.Spelling.{line, numeral}
use Rattle.host_scripts.specs.Scripts.{letter, mode_text, call_text, order_texts, start_texts, script_lines, spelling, IsMaximum, IsAction, IsScript, SpellsScript}
use Rattle.text_fields.specs.Reading.{stripped}
use Rattle.host_scripts.specs.Loose.{maxima_of, mode_of, order_of, call_of}
use Rattle.host_scripts.specs.Reading.{Fault, any, line_at, is_maximum, are_maxima, shape_at, buffer_line, targets_at, hosts_at, Head, head_at, turns_line, are_turns, order_at, is_ranged, is_sized, is_ranged_call, is_sized_call, call_at, calls_at, first_line, script_at}
use Rattle.host_scripts.specs.Refusals.{IsFormedAction, IsFormedCall}
use Rattle.text_fields.proofs.Cuts.{stripped-again}
use Rattle.host_scripts.proofs.Rules.{line-again}
use Rattle.host_scripts.proofs.Texts.{cap, kept_maxima, maxima_line, maxima_rule, mode_rule, order_rule}
use Rattle.host_scripts.proofs.NumberLines.{cap-small, number-line}
use Rattle.host_scripts.proofs.ShapeAgain.{shape-again}
use Rattle.host_scripts.proofs.CallTexts.{kept_action, kept_call, call_rule}
use Rattle.host_scripts.proofs.EachLine.{rows, each-again}

-- ---- what is in range is kept as it is

maximum-true : (unit n : ℕ) → IsMaximum unit n → (is_maximum unit (cap n) ≡ true) × (cap n ≡ n)
maximum-true unit n (inl z) = rw z (refl, refl)
maximum-true unit n (inr range) =
    let e = cap-small n (omega (arith, range)) in
    let a = le-leb unit n range.0 in
    let b = le-leb n 65535 range.1 in
    (rw (e, a, b) (or-true (n == 0)), e)
  where
    or-true : (x : Bool) → (x || true) ≡ true
    or-true true = refl
    or-true false = refl

pub maxima-true : (unit w g r : ℕ) → w ≤ 65535 → IsMaximum unit g → IsMaximum unit r → (are_maxima unit (cap w ∷ cap g ∷ cap r ∷ []) ≡ true) × (cap w ∷ cap g ∷ cap r ∷ [] ≡ w ∷ g ∷ r ∷ [])
maxima-true unit w g r hw hg hr =
    let e = cap-small w (omega arith) in
    let a = maximum-true unit g hg in
    let b = maximum-true unit r hr in
    let first : nat_le (cap w) 65535 ≡ true = rw e (le-leb w 65535 hw) in
    (rw (first, a.0, b.0) refl, rw (e, a.1, b.1) refl)

pub three-of : (m : List ℕ) → length m ≡ 3 → get_or m 0 0 ∷ get_or m 1 0 ∷ get_or m 2 0 ∷ [] ≡ m
three-of [] e = let no : ⊥ = omega arith in absurd no
three-of (a ∷ []) e = let no : ⊥ = omega arith in absurd no
three-of (a ∷ b ∷ []) e = let no : ⊥ = omega arith in absurd no
three-of (a ∷ b ∷ c ∷ []) e = refl
three-of (a ∷ b ∷ c ∷ d ∷ m) e = let no : ⊥ = omega arith in absurd no

all-true : (P : ℕ → Bool) (xs : List ℕ) → AllByRecursion (λ x. P x ≡ true) xs → list_all P xs ≡ true
all-true P [] h = refl
all-true P (x ∷ xs) h = rw (h.0, all-true P xs h.1) refl

each : (P Q : ℕ → Type 0) → ((x : ℕ) → P x → Q x) → (xs : List ℕ) → AllByRecursion P xs → AllByRecursion Q xs
each P Q f [] h = tt
each P Q f (x ∷ xs) h = (f x h.0, each P Q f xs h.1)

pub turns-true : (hosts : ℕ) (turns : List ℕ) → length turns ≤ 1000 → AllByRecursion (λ h. h < hosts) turns → are_turns hosts turns ≡ true
turns-true hosts turns le h =
    let few = le-leb (length turns) 1000 le in
    let all = all-true (λ h. nat_lt h hosts) turns (each (λ h. h < hosts) (λ h. nat_lt h hosts ≡ true) (λ x lt. lt-ltb x hosts lt) turns h) in
    rw (few, all) refl

-- ---- lines

maxima-again : (unit n : ℕ) (m rest after : List ℕ) → length m ≡ 3 → get_or m 0 0 ≤ 65535 → IsMaximum unit (get_or m 1 0) → IsMaximum unit (get_or m 2 0) → rest ≡ line (maxima_line m) ++ after
    → line_at n (are_maxima unit) any maxima_of rest ≡ Ok (m, after)
maxima-again unit n m rest after len hw hg hr e =
    let tests = maxima-true unit (get_or m 0 0) (get_or m 1 0) (get_or m 2 0) hw hg hr in
    let read = line-again maxima_of maxima_line kept_maxima (λ m. length m ≡ 3) maxima_rule (are_maxima unit) any n m after len tests.0 refl in
    ap (λ (bytes : List ℕ). line_at n (are_maxima unit) any maxima_of bytes) e ∙ read ∙ ap (λ (k : List ℕ). Ok (k, after)) (tests.1 ∙ three-of m len)

targets-again : (unit n buffer : ℕ) (m b0 b1 rest : List ℕ) → unit ≤ buffer → buffer ≤ 65536 → length m ≡ 3 → get_or m 0 0 ≤ 65535 → IsMaximum unit (get_or m 1 0) → IsMaximum unit (get_or m 2 0)
    → b0 ≡ line (codes "buffer " ++ numeral buffer) ++ b1 → b1 ≡ line (maxima_line m) ++ rest → targets_at unit n b0 ≡ Ok (buffer, m, rest)
unfolding targets_at
targets-again unit n buffer m b0 b1 rest low high len hw hg hr e0 e1 =
    let b = number-line n (codes "buffer ") unit 65536 refl (omega arith) b0 b1 buffer low high e0 in
    let x = maxima-again unit (n + 1) m b1 rest len hw hg hr e1 in
    rw (b, x) refl

mode-line : (n : ℕ) (mode : Mode) (rest after : List ℕ) → rest ≡ line (mode_text mode) ++ after → line_at n any any mode_of rest ≡ Ok (mode, after)
mode-line n mode rest after e =
    ap (λ (bytes : List ℕ). line_at n any any mode_of bytes) e ∙ line-again mode_of mode_text (λ m. m) (λ m. Unit {0}) mode_rule any any n mode after tt refl refl

hosts-again : (n : ℕ) (mode : Mode) (seed hosts : ℕ) (b0 b1 b2 rest : List ℕ) → seed < 2 ^ 32 → 1 ≤ hosts → hosts ≤ 26 → b0 ≡ line (mode_text mode) ++ b1 → b1 ≡ line (codes "seed " ++ numeral seed) ++ b2
    → b2 ≡ line (codes "hosts " ++ numeral hosts) ++ rest → hosts_at n b0 ≡ Ok (mode, seed, hosts, rest)
unfolding hosts_at
hosts-again n mode seed hosts b0 b1 b2 rest small low high e0 e1 e2 =
    let m = mode-line n mode b0 b1 e0 in
    let s = number-line (n + 1) (codes "seed ") 0 4294967295 refl (omega arith) b1 b2 seed (omega arith) (omega (arith, small)) e1 in
    let h = number-line (n + 2) (codes "hosts ") 1 26 refl (omega arith) b2 rest hosts low high e2 in
    rw (m, s, h) refl

pub head_of_script : Script → Head
head_of_script s = record { version = s.version; geometry = s.geometry; buffer = s.buffer; maxima = s.maxima; mode = s.mode; seed = s.seed; hosts = s.hosts }

head-parts : (s : Script) (b0 b1 b2 rest : List ℕ) → shape_at b0 ≡ Ok (s.version, s.geometry, b1) → targets_at (greatest_unit s.geometry) (buffer_line s.version s.geometry.areas) b1 ≡ Ok (s.buffer, s.maxima, b2)
    → hosts_at (buffer_line s.version s.geometry.areas + 2) b2 ≡ Ok (s.mode, s.seed, s.hosts, rest) → head_at b0 ≡ Ok (head_of_script s, rest)
unfolding head_at head_of_script
head-parts s b0 b1 b2 rest g t h = rw (g, t, h) refl

pub head-again : (s : Script) → IsScript s → head_at (rows (script_lines s)) ≡ Ok (head_of_script s, rows (order_texts s.order ++ map call_text s.calls))
head-again s is =
    let others = order_texts s.order ++ map call_text s.calls in
    let rest = rows others in
    let b4 = line (codes "hosts " ++ numeral s.hosts) ++ rest in
    let b3 = line (codes "seed " ++ numeral s.seed) ++ b4 in
    let b2 = line (mode_text s.mode) ++ b3 in
    let b1 = line (maxima_line s.maxima) ++ b2 in
    let b0 = line (codes "buffer " ++ numeral s.buffer) ++ b1 in
    let n = buffer_line s.version s.geometry.areas in
    head-parts s (rows (script_lines s)) b0 b2 rest (shape-again s.version s.geometry (start_texts s ++ others) is.version is.geometry is.targets)
    (targets-again (greatest_unit s.geometry) n s.buffer s.maxima b0 b1 b2 is.least_buffer is.most_buffer is.maxima is.write_maximum is.regenerate_maximum is.rebuild_maximum refl refl)
    (hosts-again (n + 2) s.mode s.seed s.hosts b2 b3 b4 rest is.seed is.least_hosts is.most_hosts refl refl refl)

-- ---- calls

pub kept-ranged : (g : Geometry) (a : Action) → g.targets ≤ 32 → IsAction g a → IsFormedAction a × (is_ranged g (kept_action a) ≡ true) × (is_sized g (kept_action a) ≡ true) × (kept_action a ≡ a)
kept-ranged g (Read lba count) t h =
    let e = cap-small lba (omega (arith, h.0)) in
    let f = cap-small count (omega (arith, h.1)) in
    (tt, rw (e, f, le-leb lba 4294967295 (omega (arith, h.0)), le-leb count 65535 (omega (arith, h.1))) refl, refl, rw (e, f) refl)
kept-ranged g (Write lba bytes) t h =
    let e = cap-small lba (omega (arith, h.0)) in
    let whole : (length bytes % g.block == 0) ≡ true = rw h.2.0.1 refl in
    let few = le-leb (length bytes) (65535 * g.block) h.2.1 in
    (h.1, rw (e, le-leb lba 4294967295 (omega (arith, h.0))) refl, rw (whole, few) refl, rw e refl)
kept-ranged g (Fill lba count byte) t h =
    let e = cap-small lba (omega (arith, h.0)) in
    let f = cap-small count (omega (arith, h.1)) in
    (h.2, rw (e, f, le-leb lba 4294967295 (omega (arith, h.0)), le-leb count 65535 (omega (arith, h.1))) refl, refl, rw (e, f) refl)
kept-ranged g (Raw cdb bytes) t h = (h, refl, refl, refl)
kept-ranged g (Lose target) t h = let e = cap-small target (omega (arith, h, t)) in (tt, rw (e, lt-ltb target g.targets h) refl, refl, rw e refl)
kept-ranged g (Reset target) t h = let e = cap-small target (omega (arith, h, t)) in (tt, rw (e, lt-ltb target g.targets h) refl, refl, rw e refl)
kept-ranged g (DropNext target) t h = let e = cap-small target (omega (arith, h, t)) in (tt, rw (e, lt-ltb target g.targets h) refl, refl, rw e refl)
kept-ranged g (Replace target) t h = let e = cap-small target (omega (arith, h, t)) in (tt, rw (e, lt-ltb target g.targets h) refl, refl, rw e refl)
kept-ranged g (Rebuild target) t h = let e = cap-small target (omega (arith, h, t)) in (tt, rw (e, lt-ltb target g.targets h) refl, refl, rw e refl)
kept-ranged g Resync t h = (tt, refl, refl, refl)

call-again : (g : Geometry) (hosts : ℕ) (call : Call) (n : ℕ) (after : List ℕ) → g.targets ≤ 32 → hosts ≤ 26 → call.host < hosts → IsAction g call.action → call_at g hosts n (line (call_text call) ++ after) ≡ Ok (call, after)
unfolding call_at
call-again g hosts call n after t le lt h =
    let k = kept-ranged g call.action t h in
    let formed : IsFormedCall call = (omega (arith, lt, le), k.0) in
    let ranged : is_ranged_call g hosts (kept_call call) ≡ true = rw (lt-ltb call.host hosts lt, k.1) refl in
    let same : kept_call call ≡ call = ap (λ (a : Action). record { host = call.host; action = a }) k.3 in
    line-again call_of call_text kept_call IsFormedCall call_rule (is_ranged_call g hosts) (is_sized_call g) n call after formed ranged k.2 ∙ ap (λ (c : Call). Ok (c, after)) same

pub calls-again : (g : Geometry) (hosts : ℕ) (calls : List Call) (turns n : ℕ) → g.targets ≤ 32 → hosts ≤ 26 → AllByRecursion (λ call. (call.host < hosts) × IsAction g call.action) calls → length (rows (map call_text calls)) ≤ turns
    → calls_at g hosts turns n (rows (map call_text calls)) ≡ Ok calls
calls-again g hosts calls turns n t le all h =
    each-again (call_at g hosts) call_text (λ call. (call.host < hosts) × IsAction g call.action) (λ n call after is. call-again g hosts call n after t le is.0 is.1) calls turns n all h

-- ---- the first turns

not-order : (host : ℕ) (text : List ℕ) → host < 26 → stripped (codes "order ") ((65 + host) ∷ text) ≡ None
unfolding stripped
not-order host text lt =
    let differs : ((65 + host) == 111) ≡ false = grind (arith, nat_tests) in
    rw differs refl

no-line : stripped (codes "order ") [] ≡ None
unfolding stripped
no-line = refl

order-none : (hosts n : ℕ) (bytes : List ℕ) → stripped (codes "order ") bytes ≡ None → order_at hosts n bytes ≡ Ok ([], bytes)
unfolding order_at
order-none hosts n bytes e = rw e refl

order-some : (hosts n : ℕ) (bytes behind : List ℕ) (r : Result (List ℕ × List ℕ) Fault) → stripped (codes "order ") bytes ≡ Some behind → line_at n (are_turns hosts) any order_of bytes ≡ r → order_at hosts n bytes ≡ r
unfolding order_at
order-some hosts n bytes behind r e f = rw e f

order-calls : (hosts n : ℕ) (calls : List Call) → hosts ≤ 26 → AllByRecursion (λ call. call.host < hosts) calls → order_at hosts n (rows (map call_text calls)) ≡ Ok ([], rows (map call_text calls))
order-calls hosts n [] le h = order-none hosts n [] no-line
order-calls hosts n (call ∷ calls) le h = order-none hosts n (rows (map call_text (call ∷ calls))) (not-order call.host _ (omega (arith, h.0)))

order-turns : (hosts n h : ℕ) (turns after : List ℕ) → hosts ≤ 26 → length (h ∷ turns) ≤ 1000 → AllByRecursion (λ h. h < hosts) (h ∷ turns) → order_at hosts n (line (codes "order " ++ map letter (h ∷ turns)) ++ after) ≡ Ok (h ∷ turns, after)
order-turns hosts n h turns after le few all =
    let letters = map letter (h ∷ turns) in
    let behind : line (codes "order " ++ letters) ++ after ≡ codes "order " ++ (line letters ++ after) = refl in
    let begins : stripped (codes "order ") (line (codes "order " ++ letters) ++ after) ≡ Some (line letters ++ after) = ap (stripped (codes "order ")) behind ∙ stripped-again (codes "order ") (line letters ++ after) in
    let formed : (1 ≤ length (h ∷ turns)) × AllByRecursion (λ h. h < 26) (h ∷ turns) = (omega arith, each (λ h. h < hosts) (λ h. h < 26) (λ x lt. omega (arith, lt, le)) (h ∷ turns) all) in
    order-some hosts n (line (codes "order " ++ letters) ++ after) (line letters ++ after) (Ok (h ∷ turns, after)) begins
    (line-again order_of (λ hs. codes "order " ++ map letter hs) (λ hs. hs) (λ hs. (1 ≤ length hs) × AllByRecursion (λ h. h < 26) hs) order_rule (are_turns hosts) any n (h ∷ turns) after formed (turns-true hosts (h ∷ turns) few all) refl)

pub order-again : (hosts n : ℕ) (turns : List ℕ) (calls : List Call) → hosts ≤ 26 → length turns ≤ 1000 → AllByRecursion (λ h. h < hosts) turns → AllByRecursion (λ call. call.host < hosts) calls
    → order_at hosts n (rows (order_texts turns ++ map call_text calls)) ≡ Ok (turns, rows (map call_text calls))
order-again hosts n [] calls le few all h = order-calls hosts n calls le h
order-again hosts n (t ∷ turns) calls le few all h = order-turns hosts n t turns (rows (map call_text calls)) le few all

-- ---- the whole

hosts-of : (g : Geometry) (hosts : ℕ) (calls : List Call) → AllByRecursion (λ call. (call.host < hosts) × IsAction g call.action) calls → AllByRecursion (λ call. call.host < hosts) calls
hosts-of g hosts [] h = tt
hosts-of g hosts (call ∷ calls) h = (h.0.0, hosts-of g hosts calls h.1)

script-parts : (s : Script) (bytes b1 b2 : List ℕ) → head_at bytes ≡ Ok (head_of_script s, b1) → order_at s.hosts (turns_line (head_of_script s)) b1 ≡ Ok (s.order, b2)
    → calls_at s.geometry s.hosts (length b2) (first_line (turns_line (head_of_script s)) s.order) b2 ≡ Ok s.calls → script_at bytes ≡ Ok s
unfolding script_at head_of_script
script-parts s bytes b1 b2 h o c = rw (h, o, c) refl

pub script-again : (bytes : List ℕ) (s : Script) → SpellsScript bytes s → script_at bytes ≡ Ok s
unfolding spelling
script-again bytes s spells =
    let is = spells.1 in
    let tail = rows (order_texts s.order ++ map call_text s.calls) in
    let rest = rows (map call_text s.calls) in
    let n = turns_line (head_of_script s) in
    let h : head_at bytes ≡ Ok (head_of_script s, tail) = ap head_at spells.0 ∙ head-again s is in
    let o = order-again s.hosts n s.order s.calls is.most_hosts is.turns is.order (hosts-of s.geometry s.hosts s.calls is.calls) in
    let c = calls-again s.geometry s.hosts s.calls (length rest) (first_line n s.order) is.geometry.most_targets is.most_hosts is.calls (omega arith) in
    script-parts s bytes tail rest h o c
