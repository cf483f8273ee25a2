-- What each word spells.
use Rattle.std.proofs.Common.{◌≡◌, ℕ, ◌+◌, ◌^◌, ◌<◌, ◌≤◌, ◌==◌, nat_lt, cond, Bool, true, false, List, [], ◌∷◌, ◌++◌, length, Option, Some, None, refl, ap, subst, ◌∙◌, arith}
use Rattle.std.specs.Prelude.{codes}
use Rattle.std.specs.Str.{bytes_eq}
use Rattle.std.specs.Fmt.{decimal}
use Rattle.std.proofs.lemmas.Bool.{and_parts}
use Rattle.std.proofs.lemmas.Bool.Decides.{nat_tests}
use Rattle.std.proofs.lemmas.Option.{same_Some}
use Rattle.std.proofs.lemmas.Slice.Eq.{bytes_eq-Decides}
use Rattle.array_journal.specs.declared.at.At.{At}
use Rattle.array_journal.specs.declared.event.What.{What}
use Rattle.array_journal.specs.declared.event.What.TheVariants.{Buffers, Request}
use Rattle.array_journal.specs.declared.task.Kind.{Kind}
use Rattle.array_journal.specs.declared.task.Kind.TheVariants.{Read, Update, DataOnly, DegradedRead, DegradedWrite, Rebuild, Resync}
use Rattle.text_fields.specs.Spelling.{hex_or_dash, AreBytes}
use Rattle.journal_text.specs.Traces.{flag_text, at_text, cause_text, kind_text, what_text}
use Rattle.text_fields.specs.Reading.{◌>>=◌, cut_at, number_of, data_of}
use Rattle.journal_text.specs.Words.{at_of, cause_of, spelt_of, flag_of, what_of, kind_of}
use Rattle.journal_text.specs.Readable.{IsAt, IsCause}
use Rattle.text_fields.proofs.HexLaws.{data-takes, data-again, data-solid}
use Rattle.text_fields.proofs.Cuts.{bind-some, above, above-append, above-lower, lacks-lower, cut-takes, cut-again}
use Rattle.journal_text.proofs.Numerals.{number-takes, number-again, decimal-above, decimal-some}
use Rattle.journal_text.proofs.Parts.{IsWord}

-- ---- numbers

pub number-word : (most bound : ℕ) → bound ≡ most + 1 → bound ≤ 2 ^ 64 → IsWord ℕ decimal (λ n. n < bound) (number_of most)
number-word most bound e le = record {
  takes = λ word n h. let t = number-takes most word n (omega (arith, e, le)) h in (t.0, omega (arith, t.1, e));
  again = λ n h. number-again most n (omega (arith, h, e)) (omega (arith, h, le));
  solid = λ n h. above-lower 32 47 (decimal n) (omega arith) (decimal-above n (omega (arith, h, le)));
}

pub long-word : IsWord ℕ decimal (λ n. n < 2 ^ 32) (number_of 4294967295)
long-word = number-word 4294967295 (2 ^ 32) (omega arith) (omega arith)

pub short-word : IsWord ℕ decimal (λ n. n < 2 ^ 8) (number_of 255)
short-word = number-word 255 (2 ^ 8) (omega arith) (omega arith)

-- ---- hexadecimal

pub data-word : IsWord (List ℕ) hex_or_dash AreBytes data_of
data-word = record { takes = data-takes; again = data-again; solid = data-solid }

-- ---- names

at-takes : (text : List ℕ) (at : At) → at_of text ≡ Some at → (text ≡ at_text at) × IsAt at
unfolding at_of
at-takes text at e =
    let a = bind-some (cut_at 46 text) (λ cut. number_of 18446744073709551615 cut.0 >>= λ stamp. number_of 255 cut.1 >>= λ lock. Some (record { stamp = stamp; lock = lock })) at e in
    let b = bind-some (number_of 18446744073709551615 a.0.0) (λ stamp. number_of 255 a.0.1 >>= λ lock. Some (record { stamp = stamp; lock = lock })) at a.2 in
    let c = bind-some (number_of 255 a.0.1) (λ lock. Some (record { stamp = b.0; lock = lock })) at b.2 in
    let made : At = record { stamp = b.0; lock = c.0 } in
    let stamp = number-takes 18446744073709551615 a.0.0 b.0 (omega arith) b.1 in
    let lock = number-takes 255 a.0.1 c.0 (omega arith) c.1 in
    let all : text ≡ at_text made = cut-takes 46 text a.0.0 a.0.1 a.1 ∙ ap (λ (t : List ℕ). t ++ 46 ∷ a.0.1) stamp.0 ∙ ap (λ (t : List ℕ). decimal b.0 ++ 46 ∷ t) lock.0 in
    subst (λ (x : At). (text ≡ at_text x) × IsAt x) (same_Some made at c.2) (all, (omega (arith, stamp.1), omega (arith, lock.1)))

at-again : (at : At) → IsAt at → at_of (at_text at) ≡ Some at
unfolding at_of
at-again at h =
    let stamp : at.stamp < 2 ^ 64 = h.0 in
    let lock : at.lock < 2 ^ 8 = h.1 in
    let cut : cut_at 46 (decimal at.stamp ++ 46 ∷ decimal at.lock) ≡ Some (decimal at.stamp, decimal at.lock) =
    cut-again 46 (decimal at.stamp) (decimal at.lock) (lacks-lower 47 46 (decimal at.stamp) (omega arith) (decimal-above at.stamp stamp)) in
    rw (cut, number-again 18446744073709551615 at.stamp (omega arith) stamp, number-again 255 at.lock (omega arith) (omega arith)) refl

pub at-above : (at : At) → IsAt at → above 45 (at_text at) ≡ true
at-above at h =
    let lock : at.lock < 2 ^ 8 = h.1 in
    above-append 45 (decimal at.stamp) (46 ∷ decimal at.lock) (above-lower 45 47 (decimal at.stamp) (omega arith) (decimal-above at.stamp h.0)) (above-lower 45 47 (decimal at.lock) (omega arith) (decimal-above at.lock (omega arith)))

pub at-word : IsWord At at_text IsAt at_of
at-word = record {
  takes = at-takes;
  again = at-again;
  solid = λ at h. above-lower 32 45 (at_text at) (omega arith) (at-above at h);
}

-- a text whose first byte is above a dash is no dash
pub no-dash : (text : List ℕ) → 0 < length text → above 45 text ≡ true → bytes_eq text (codes "-") ≡ false
no-dash [] some h = let no : ⊥ = omega arith in absurd no
no-dash (c ∷ text) some h =
    let first : nat_lt 45 c ≡ true = (and_parts (nat_lt 45 c) (above 45 text) h).0 in
    let other : (c == 45) ≡ false = grind (arith, nat_tests, first) in
    rw other refl

longer : (a b : List ℕ) → 0 < length a → 0 < length (a ++ b)
longer [] b h = let no : ⊥ = omega arith in absurd no
longer (c ∷ a) b h = omega arith

pub at-some : (at : At) → IsAt at → 0 < length (at_text at)
at-some at h = longer (decimal at.stamp) (46 ∷ decimal at.lock) (decimal-some at.stamp h.0)

cause-takes : (text : List ℕ) (cause : Option At) → cause_of text ≡ Some cause → (text ≡ cause_text cause) × IsCause cause
unfolding cause_of
cause-takes text cause e = by-test (bytes_eq text (codes "-")) (bytes_eq-Decides text (codes "-")).0 e
  where
    by-test : (b : Bool) → (b ≡ true → text ≡ codes "-") → cond b (Some None) (at_of text >>= λ at. Some (Some at)) ≡ Some cause → (text ≡ cause_text cause) × IsCause cause
    by-test true dash e = subst (λ (o : Option At). (text ≡ cause_text o) × IsCause o) (same_Some None cause e) (dash refl, tt)
    by-test false dash e =
        let a = bind-some (at_of text) (λ at. Some (Some at)) cause e in
        subst (λ (o : Option At). (text ≡ cause_text o) × IsCause o) (same_Some (Some a.0) cause a.2) (at-takes text a.0 a.1)

cause-again : (cause : Option At) → IsCause cause → cause_of (cause_text cause) ≡ Some cause
unfolding cause_of
cause-again None h = refl
cause-again (Some at) h = rw (no-dash (at_text at) (at-some at h) (at-above at h), at-again at h) refl

cause-solid : (cause : Option At) → IsCause cause → above 32 (cause_text cause) ≡ true
cause-solid None h = refl
cause-solid (Some at) h = above-lower 32 45 (at_text at) (omega arith) (at-above at h)

pub cause-word : IsWord (Option At) cause_text IsCause cause_of
cause-word = record { takes = cause-takes; again = cause-again; solid = cause-solid }

-- ---- one word of a few

abbrev pub Always : (A : Type 0) → A → Type 0
Always A x = Unit {0}

pub spelt-takes : {A : Type 0} (text : A → List ℕ) (values : List A) (word : List ℕ) (v : A) → spelt_of text values word ≡ Some v → word ≡ text v
spelt-takes text [] word v e = absurd cc
spelt-takes {A} text (x ∷ values) word v e = by-test (bytes_eq word (text x)) (bytes_eq-Decides word (text x)).0 (λ h. spelt-takes text values word v h) e
  where
    by-test : (b : Bool) → (b ≡ true → word ≡ text x) → (spelt_of text values word ≡ Some v → word ≡ text v) → cond b (Some x) (spelt_of text values word) ≡ Some v → word ≡ text v
    by-test true same more e = same refl ∙ ap text (same_Some x v e)
    by-test false same more e = more e

flag-again : (v : Bool) → flag_of (flag_text v) ≡ Some v
unfolding flag_of
flag-again false = refl
flag-again true = refl

flag-takes : (word : List ℕ) (v : Bool) → flag_of word ≡ Some v → word ≡ flag_text v
unfolding flag_of
flag-takes word v e = spelt-takes flag_text (false ∷ true ∷ []) word v e

flag-solid : (v : Bool) → above 32 (flag_text v) ≡ true
flag-solid false = refl
flag-solid true = refl

pub flag-word : IsWord Bool flag_text (Always Bool) flag_of
flag-word = record { takes = λ word v e. (flag-takes word v e, tt); again = λ v h. flag-again v; solid = λ v h. flag-solid v }

what-again : (v : What) → what_of (what_text v) ≡ Some v
unfolding what_of
what-again Buffers = refl
what-again Request = refl

what-takes : (word : List ℕ) (v : What) → what_of word ≡ Some v → word ≡ what_text v
unfolding what_of
what-takes word v e = spelt-takes what_text (Buffers ∷ Request ∷ []) word v e

what-solid : (v : What) → above 32 (what_text v) ≡ true
what-solid Buffers = refl
what-solid Request = refl

pub what-word : IsWord What what_text (Always What) what_of
what-word = record { takes = λ word v e. (what-takes word v e, tt); again = λ v h. what-again v; solid = λ v h. what-solid v }

kind-again : (v : Kind) → kind_of (kind_text v) ≡ Some v
unfolding kind_of
kind-again Read = refl
kind-again Update = refl
kind-again DataOnly = refl
kind-again DegradedRead = refl
kind-again DegradedWrite = refl
kind-again Rebuild = refl
kind-again Resync = refl

kind-takes : (word : List ℕ) (v : Kind) → kind_of word ≡ Some v → word ≡ kind_text v
unfolding kind_of
kind-takes word v e = spelt-takes kind_text (Read ∷ Update ∷ DataOnly ∷ DegradedRead ∷ DegradedWrite ∷ Rebuild ∷ Resync ∷ []) word v e

kind-solid : (v : Kind) → above 32 (kind_text v) ≡ true
kind-solid Read = refl
kind-solid Update = refl
kind-solid DataOnly = refl
kind-solid DegradedRead = refl
kind-solid DegradedWrite = refl
kind-solid Rebuild = refl
kind-solid Resync = refl

pub kind-word : IsWord Kind kind_text (Always Kind) kind_of
kind-word = record { takes = λ word v e. (kind-takes word v e, tt); again = λ v h. kind-again v; solid = λ v h. kind-solid v }
