-- An input is found to be one thing.
use Rattle.std.proofs.Common.{◌≡◌, ◌⊎◌, inl, inr, ℕ, ◌+◌, ◌≤◌, ◌<◌, List, [], ◌∷◌, length, take, get_or, reverse, Option, Some, None, refl, sym, ap, subst, ◌∙◌, arith}
use Rattle.std.proofs.lemmas.Bool.{cases_order}
use Rattle.std.proofs.lemmas.List.{get_or_default, take-take}
use Rattle.std.proofs.lemmas.Option.{none-some, same_Some}
use Rattle.array_journal.specs.declared.entry.Entry.{Entry}
use Rattle.array_journal.specs.declared.setting.Setting.{Setting}
use Rattle.array_journal.specs.May.{May}
use Rattle.array_journal.specs.Run.{Grows, Run}
use Rattle.array_journal.proofs.runs.BeginningLaws.{beginning-run}
use Rattle.host_scripts.specs.declared.script.Cause.{Cause}
use Rattle.host_scripts.specs.declared.script.Limit.{Limit}
use Rattle.host_scripts.specs.declared.script.Script.{Script}
use Rattle.host_scripts.specs.Limits.{limit_of}
use Rattle.host_scripts.specs.Refusals.{IsRefusal}
use Rattle.host_scripts.specs.Scripts as scripts
use Rattle.host_scripts.proofs.OneRefusal.{one-refusal}
use Rattle.outer_io.specs.Outside.{input_limit}
use Rattle.stripe_check.proofs.Journals.{read_more}
use Rattle.trace_check.specs.declared.checking.findings.CheckFinding.{CheckFinding}
use Rattle.trace_check.specs.declared.checking.findings.CheckFinding.TheVariants.{TooLong, Refused, Over, TextLine, RunEntry, Unasked, ReportLine}
use Rattle.run_check.specs.Faults.{MayNotFollow, IsFirstFault}
use Rattle.trace_check.specs.Findings.{line_ends, IsFoundOf, IsFoundFor, IsFoundIn, IsFoundAt, IsFound}
use Rattle.trace_check.specs.Inputs.{Parts, parts_of}
use Rattle.trace_check.proofs.Accepted.{one-script}
use Rattle.journal_text.proofs.TraceLaws.{no-fault, one-fault, one-journal}

-- ---- the first entry that may not follow

-- the entry behind each beginning of a run that goes on may follow it
reached : (s : Setting) (journal : List Entry) (a b : ℕ) (d : Entry) → a < b → b ≤ length journal → Run s (take b journal) → May s (reverse (take a journal)) (get_or journal a d)
reached s journal a b d lt le run =
    let within : a < length journal = omega (arith, lt, le) in
    let e = get_or journal a d in
    let whole : take (a + 1) (take b journal) ≡ take (a + 1) journal = take-take (a + 1) b journal (omega (arith, lt)) in
    let beginning : Run s (take (a + 1) journal) = subst (Run s) whole (beginning-run s (take b journal) (a + 1) run) in
    (subst (Grows s) (read_more journal a e within (get_or_default journal a e d within)) beginning).0.1

no-later : (s : Setting) (journal : List Entry) (a b : ℕ) → MayNotFollow s journal a → MayNotFollow s journal b → a < b → ⊥
no-later s [] a b f g lt = omega (arith, f.within)
no-later s (d ∷ rest) a b f g lt = f.refused d (reached s (d ∷ rest) a b d lt (omega (arith, g.within)) g.before)

one-count : (s : Setting) (journal : List Entry) (a b : ℕ) → MayNotFollow s journal a → MayNotFollow s journal b → a ≡ b
one-count s journal a b f g = by-order (cases_order a b)
  where
    by-order : (a ≡ b) ⊎ ((a < b) ⊎ (b < a)) → a ≡ b
    by-order (inl e) = e
    by-order (inr (inl lt)) = absurd (no-later s journal a b f g lt)
    by-order (inr (inr lt)) = absurd (no-later s journal b a g f lt)

one-entry : (s : Setting) (journal : List Entry) (m n : ℕ) → IsFirstFault s journal m → IsFirstFault s journal n → m ≡ n
one-entry s journal m n (a, (e, f)) (b, (h, g)) = e ∙ ap (λ k. k + 1) (one-count s journal a b f g) ∙ sym h

-- ---- a journal with its report

one-of : (script : Script) (journal : List Entry) (report : List ℕ) (f g : CheckFinding) → IsFoundOf script journal report f → IsFoundOf script journal report g → f ≡ g
one-of script journal report TooLong g x y = absurd x
one-of script journal report (Refused n cause) g x y = absurd x
one-of script journal report (Over limit) g x y = absurd x
one-of script journal report (TextLine n) g x y = absurd x
one-of script journal report f TooLong x y = absurd y
one-of script journal report f (Refused n cause) x y = absurd y
one-of script journal report f (Over limit) x y = absurd y
one-of script journal report f (TextLine n) x y = absurd y
one-of script journal report (RunEntry m) (RunEntry n) x y = ap (λ k. RunEntry k) (one-entry _ journal m n x.first y.first)
one-of script journal report (RunEntry m) Unasked x y = absurd (x.no_run y.0)
one-of script journal report (RunEntry m) (ReportLine n) x y = absurd (x.no_run y.run)
one-of script journal report Unasked (RunEntry n) x y = absurd (y.no_run x.0)
one-of script journal report Unasked Unasked x y = refl
one-of script journal report Unasked (ReportLine n) x y = absurd (x.1 y.asked)
one-of script journal report (ReportLine m) (RunEntry n) x y = absurd (y.no_run x.run)
one-of script journal report (ReportLine m) Unasked x y = absurd (y.1 x.asked)
one-of script journal report (ReportLine m) (ReportLine n) x y = ap (λ k. ReportLine k) (x.first ∙ sym y.first)

one-for : (parts : Parts) (f g : CheckFinding) → IsFoundFor parts f → IsFoundFor parts g → f ≡ g
one-for parts f g (s, (j, (has, x))) (t, (k, (got, y))) =
    let P : Script → Type 0 = λ script. IsFoundOf script j parts.report f in
    let Q : List Entry → Type 0 = λ journal. IsFoundOf t journal parts.report f in
    one-of t k parts.report f g (subst Q (one-journal parts.trace j k has.traced got.traced) (subst P (one-script parts.script s t has.spelt got.spelt) x)) y

-- ---- the parts of an input, by the first of two findings

over-within : (bytes : List ℕ) (limit : Limit) (s t : Script) → scripts.SpellsScript bytes s → limit_of s ≡ Some limit → scripts.SpellsScript bytes t → limit_of t ≡ None → ⊥
over-within bytes limit s t x over y within = none-some limit (sym within ∙ ap (λ script. limit_of script) (one-script bytes t s y x) ∙ over)

refused-one : (parts : Parts) (n : ℕ) (cause : Cause) → IsRefusal parts.script n cause → (g : CheckFinding) → IsFoundIn parts g → Refused n cause ≡ g
refused-one parts n cause x TooLong y = absurd y
refused-one parts n cause x (Refused m other) y =
    let same = one-refusal parts.script n m cause other x y in
    ap (λ k. Refused k cause) same.0 ∙ ap (λ c. Refused m c) same.1
refused-one parts n cause x (Over limit) (s, (spelt, over)) = absurd (x.unspelt s spelt)
refused-one parts n cause x (TextLine m) (s, (line, y)) = absurd (x.unspelt s y.spelt)
refused-one parts n cause x (RunEntry m) (s, (j, (has, y))) = absurd (x.unspelt s has.spelt)
refused-one parts n cause x Unasked (s, (j, (has, y))) = absurd (x.unspelt s has.spelt)
refused-one parts n cause x (ReportLine m) (s, (j, (has, y))) = absurd (x.unspelt s has.spelt)

over-one : (parts : Parts) (limit : Limit) → IsFoundIn parts (Over limit) → (g : CheckFinding) → IsFoundIn parts g → Over limit ≡ g
over-one parts limit x TooLong y = absurd y
over-one parts limit x (Refused m cause) y = sym (refused-one parts m cause y (Over limit) x)
over-one parts limit (s, (spelt, over)) (Over other) (t, (told, passed)) =
    ap (λ l. Over l) (same_Some limit other (sym over ∙ ap (λ script. limit_of script) (one-script parts.script s t spelt told) ∙ passed))
over-one parts limit (s, (spelt, over)) (TextLine m) (t, (line, y)) = absurd (over-within parts.script limit s t spelt over y.spelt y.within)
over-one parts limit (s, (spelt, over)) (RunEntry m) (t, (j, (has, y))) = absurd (over-within parts.script limit s t spelt over has.spelt has.within)
over-one parts limit (s, (spelt, over)) Unasked (t, (j, (has, y))) = absurd (over-within parts.script limit s t spelt over has.spelt has.within)
over-one parts limit (s, (spelt, over)) (ReportLine m) (t, (j, (has, y))) = absurd (over-within parts.script limit s t spelt over has.spelt has.within)

text-one : (parts : Parts) (n : ℕ) → IsFoundIn parts (TextLine n) → (g : CheckFinding) → IsFoundIn parts g → TextLine n ≡ g
text-one parts n x TooLong y = absurd y
text-one parts n x (Refused m cause) y = sym (refused-one parts m cause y (TextLine n) x)
text-one parts n x (Over limit) y = sym (over-one parts limit y (TextLine n) x)
text-one parts n (s, (line, x)) (TextLine m) (t, (other, y)) =
    ap (λ k. TextLine k) (x.counted ∙ ap (λ k. line_ends parts.script + 1 + line_ends parts.report + k) (one-fault parts.trace line other x.first y.first) ∙ sym y.counted)
text-one parts n (s, (line, x)) (RunEntry m) (t, (j, (has, y))) = absurd (no-fault parts.trace line j x.first has.traced)
text-one parts n (s, (line, x)) Unasked (t, (j, (has, y))) = absurd (no-fault parts.trace line j x.first has.traced)
text-one parts n (s, (line, x)) (ReportLine m) (t, (j, (has, y))) = absurd (no-fault parts.trace line j x.first has.traced)

journal-one : (parts : Parts) (f : CheckFinding) → IsFoundIn parts f → IsFoundFor parts f → (g : CheckFinding) → IsFoundIn parts g → f ≡ g
journal-one parts f i x TooLong y = absurd y
journal-one parts f i x (Refused m cause) y = sym (refused-one parts m cause y f i)
journal-one parts f i x (Over limit) y = sym (over-one parts limit y f i)
journal-one parts f i x (TextLine m) y = sym (text-one parts m y f i)
journal-one parts f i x (RunEntry m) y = one-for parts f (RunEntry m) x y
journal-one parts f i x Unasked y = one-for parts f Unasked x y
journal-one parts f i x (ReportLine m) y = one-for parts f (ReportLine m) x y

one-in : (parts : Parts) (f g : CheckFinding) → IsFoundIn parts f → IsFoundIn parts g → f ≡ g
one-in parts TooLong g x y = absurd x
one-in parts (Refused n cause) g x y = refused-one parts n cause x g y
one-in parts (Over limit) g x y = over-one parts limit x g y
one-in parts (TextLine n) g x y = text-one parts n x g y
one-in parts (RunEntry n) g x y = journal-one parts (RunEntry n) x x g y
one-in parts Unasked g x y = journal-one parts Unasked x x g y
one-in parts (ReportLine n) g x y = journal-one parts (ReportLine n) x x g y

-- ---- an input

form-one : (n m : ℕ) (cause other : Cause) → IsFoundAt None (Refused n cause) → IsFoundAt None (Refused m other) → Refused n cause ≡ Refused m other
form-one n m cause other x y = ap (λ k. Refused k cause) (x.0 ∙ sym y.0) ∙ ap (λ c. Refused m c) (x.1 ∙ sym y.1)

one-at : (o : Option Parts) (f g : CheckFinding) → IsFoundAt o f → IsFoundAt o g → f ≡ g
one-at (Some parts) f g x y = one-in parts f g x y
one-at None TooLong g x y = absurd x
one-at None (Over limit) g x y = absurd x
one-at None (TextLine n) g x y = absurd x
one-at None (RunEntry n) g x y = absurd x
one-at None Unasked g x y = absurd x
one-at None (ReportLine n) g x y = absurd x
one-at None (Refused n cause) TooLong x y = absurd y
one-at None (Refused n cause) (Over limit) x y = absurd y
one-at None (Refused n cause) (TextLine m) x y = absurd y
one-at None (Refused n cause) (RunEntry m) x y = absurd y
one-at None (Refused n cause) Unasked x y = absurd y
one-at None (Refused n cause) (ReportLine m) x y = absurd y
one-at None (Refused n cause) (Refused m other) x y = form-one n m cause other x y

-- what is found of an input that isn't too long
abbrev IsShort : List ℕ → CheckFinding → Type 0
IsShort input f = (length input ≤ input_limit) × IsFoundAt (parts_of input) f

long-or-short : (input : List ℕ) (f : CheckFinding) → IsFound input f → ((f ≡ TooLong) × (input_limit < length input)) ⊎ IsShort input f
long-or-short input TooLong x = inl (refl, x)
long-or-short input (Refused n cause) x = inr x
long-or-short input (Over limit) x = inr x
long-or-short input (TextLine n) x = inr x
long-or-short input (RunEntry n) x = inr x
long-or-short input Unasked x = inr x
long-or-short input (ReportLine n) x = inr x

pub one-finding : (input : List ℕ) (f g : CheckFinding) → IsFound input f → IsFound input g → f ≡ g
one-finding input f g x y = by-length (long-or-short input f x) (long-or-short input g y)
  where
    by-length : ((f ≡ TooLong) × (input_limit < length input)) ⊎ IsShort input f → ((g ≡ TooLong) × (input_limit < length input)) ⊎ IsShort input g → f ≡ g
    by-length (inl (e, long)) (inl (h, same)) = e ∙ sym h
    by-length (inl (e, long)) (inr (short, found)) = absurd (omega (arith, long, short))
    by-length (inr (short, found)) (inl (e, long)) = absurd (omega (arith, long, short))
    by-length (inr (short, found)) (inr (same, other)) = one-at (parts_of input) f g found other
