-- What is read of words is what they spell.
use Rattle.std.proofs.Common.{◌≡◌, ℕ, ◌<◌, ◌^◌, cond, Bool, true, false, ◌⊎◌, List, [], ◌∷◌, ◌++◌, Option, Some, None, refl, sym, ap, subst, ◌∙◌, inl, inr}
use Rattle.std.specs.Prelude.{codes, MatchOption, IsSome, OnErr, Result, Ok, Err}
use Rattle.std.specs.Fmt.{decimal}
use Rattle.std.specs.Str.{bytes_eq}
use Rattle.std.proofs.lemmas.Option.{same_Some}
use Rattle.std.proofs.lemmas.Slice.Eq.{bytes_eq-Decides}
use Rattle.text_fields.specs.Spelling.{hex}
use Rattle.xor_cli.specs.declared.decoding.values.Format.{Format}
use Rattle.xor_cli.specs.declared.decoding.values.Format.TheVariants as formats
use Rattle.xor_cli.specs.declared.words.RunCommand.{RunCommand}
use Rattle.xor_cli.specs.declared.words.RunCommand.TheVariants.{Step, Target}
use Rattle.xor_cli.specs.declared.words.ToolCommand.{ToolCommand}
use Rattle.xor_cli.specs.declared.words.ToolCommand.TheVariants.{Run, Decode}
use Rattle.xor_cli.specs.Words.{format_words, IsFormat, IsData, SpellsToolCommand, SpellsNoToolCommand, AskRun, AskReading, IsCommand}
use Rattle.xor_cli.specs.WordReading.{◌>>=◌, flag_of, number_of, hex_of, params_at, named, format_at, last_at, decode_at, step_at, target_at, command_at}
use Rattle.xor_cli.proofs.Digits.{hex-takes, hex-again, number-takes, number-again}

bind-some : {A B : Type 0} (o : Option A) (f : A → Option B) (y : B) → (o >>= f) ≡ Some y → (x : A) × ((o ≡ Some x) × (f x ≡ Some y))
bind-some (Some x) f y e = (x, (refl, e))
bind-some None f y e = absurd cc

pub chosen : {A : Type 0} (b : Bool) (x y z : A) → cond b x y ≡ z → ((b ≡ true) × (x ≡ z)) ⊎ ((b ≡ false) × (y ≡ z))
chosen true x y z e = inl (refl, e)
chosen false x y z e = inr (refl, e)

same-text : (word text : List ℕ) → bytes_eq word text ≡ true → word ≡ text
same-text word text e = (bytes_eq-Decides word text).0 e

-- ---- what is spelt is read

again-params : (intdata : Bool) (wanted : ℕ) (bytes : List ℕ) → wanted < 2 ^ 32 → IsData bytes
    → params_at ((cond intdata (codes "1") (codes "0")) ∷ decimal wanted ∷ hex bytes ∷ []) ≡ Some (formats.Params intdata wanted, hex bytes ∷ [])
unfolding params_at
again-params true wanted bytes lt h = rw (number-again wanted lt) refl
again-params false wanted bytes lt h = rw (number-again wanted lt) refl

again-format : (format : Format) (bytes : List ℕ) → IsFormat format → IsData bytes → format_at (format_words format ++ hex bytes ∷ []) ≡ Some (format, hex bytes ∷ [])
unfolding format_at
again-format formats.Cdb bytes f h = refl
again-format formats.Sense bytes f h = refl
again-format formats.Page bytes f h = refl
again-format (formats.Params intdata wanted) bytes f h = again-params intdata wanted bytes f h

again-last : (format : Format) (bytes : List ℕ) → IsData bytes → last_at format (hex bytes ∷ []) ≡ Some (Decode format bytes)
unfolding last_at
again-last format bytes h = rw (hex-again bytes h) refl

again-decode : (format : Format) (bytes : List ℕ) → IsFormat format → IsData bytes → decode_at (format_words format ++ hex bytes ∷ []) ≡ Some (Decode format bytes)
unfolding decode_at
again-decode format bytes f h = rw (again-format format bytes f h) (again-last format bytes h)

pub command-again : (words : List (List ℕ)) (command : ToolCommand) → SpellsToolCommand words command → command_at words ≡ Some command
unfolding command_at
command-again words (Run (Step false)) e = rw e refl
command-again words (Run (Step true)) e = rw e refl
command-again words (Run Target) e = rw e refl
command-again words (Decode format bytes) h = rw (h.0) (again-decode format bytes h.1 h.2)

-- ---- what is read is spelt

flag-takes : (word : List ℕ) (bit : Bool) → flag_of word ≡ Some bit → word ≡ cond bit (codes "1") (codes "0")
flag-takes word bit e = elim (chosen (bytes_eq word (codes "0")) (Some false) (cond (bytes_eq word (codes "1")) (Some true) None) (Some bit) e) [
  | inl zero ↦ let P : Bool → Type 0 = λ b. word ≡ cond b (codes "1") (codes "0") in subst P (same_Some false bit zero.1) (same-text word (codes "0") zero.0)
  | inr other ↦ elim (chosen (bytes_eq word (codes "1")) (Some true) None (Some bit) other.1) [
    | inl one ↦ let P : Bool → Type 0 = λ b. word ≡ cond b (codes "1") (codes "0") in subst P (same_Some true bit one.1) (same-text word (codes "1") one.0)
    | inr none ↦ absurd (let no : None ≡ Some bit = none.1 in cc no)
  ]
]

-- words that name a format, and those after them
abbrev Names : List (List ℕ) → Format × List (List ℕ) → Type 0
Names words x = (words ≡ format_words x.0 ++ x.1) × IsFormat x.0

params-joined : (bit number b n : List ℕ) (rest : List (List ℕ)) → bit ≡ b → number ≡ n → codes "params" ∷ (bit ∷ (number ∷ rest)) ≡ codes "params" ∷ (b ∷ (n ∷ rest))
params-joined bit number b n rest e f = rw (e, f) refl

params-takes : (words : List (List ℕ)) (x : Format × List (List ℕ)) → params_at words ≡ Some x → Names (codes "params" ∷ words) x
unfolding params_at
params-takes [] x e = absurd cc
params-takes (bit ∷ []) x e = absurd (let h = bind-some (flag_of bit) (λ (intdata : Bool). None) x e in let no : None ≡ Some x = h.1.1 in cc no)
params-takes (bit ∷ (number ∷ rest)) x e =
    let f = bind-some (flag_of bit) (λ intdata. number_of number >>= λ wanted. Some (formats.Params intdata wanted, rest)) x e in
    let n = bind-some (number_of number) (λ wanted. Some (formats.Params f.0 wanted, rest)) x f.1.1 in
    let bits : bit ≡ cond f.0 (codes "1") (codes "0") = flag-takes bit f.0 f.1.0 in
    let numbers = number-takes number n.0 n.1.0 in
    let whole : codes "params" ∷ (bit ∷ (number ∷ rest)) ≡ codes "params" ∷ (cond f.0 (codes "1") (codes "0") ∷ (decimal n.0 ∷ rest)) = params-joined bit number (cond f.0 (codes "1") (codes "0")) (decimal n.0) rest bits numbers.0 in
    subst (Names (codes "params" ∷ (bit ∷ (number ∷ rest)))) (same_Some (formats.Params f.0 n.0, rest) x n.1.1) (whole, numbers.1)

plain-takes : (name text : List ℕ) (format : Format) (rest : List (List ℕ)) (x : Format × List (List ℕ)) → format_words format ≡ text ∷ [] → IsFormat format → bytes_eq name text ≡ true → Some (format, rest) ≡ Some x → Names (name ∷ rest) x
plain-takes name text format rest x w f e s =
    let same : name ≡ text = same-text name text e in
    let whole : name ∷ rest ≡ format_words format ++ rest = rw (same, w) refl in
    subst (Names (name ∷ rest)) (same_Some (format, rest) x s) (whole, f)

named-takes : (name : List ℕ) (rest : List (List ℕ)) (x : Format × List (List ℕ)) → named name rest ≡ Some x → Names (name ∷ rest) x
named-takes name rest x e = elim (chosen (bytes_eq name (codes "cdb")) _ _ (Some x) e) [
  | inl cdb ↦ plain-takes name (codes "cdb") formats.Cdb rest x refl tt cdb.0 cdb.1
  | inr e ↦ elim (chosen (bytes_eq name (codes "sense")) _ _ (Some x) e.1) [
    | inl sense ↦ plain-takes name (codes "sense") formats.Sense rest x refl tt sense.0 sense.1
    | inr e ↦ elim (chosen (bytes_eq name (codes "page")) _ _ (Some x) e.1) [
      | inl page ↦ plain-takes name (codes "page") formats.Page rest x refl tt page.0 page.1
      | inr e ↦ elim (chosen (bytes_eq name (codes "params")) _ _ (Some x) e.1) [
        | inl params ↦ let P : List ℕ → Type 0 = λ t. Names (t ∷ rest) x in subst P (sym (same-text name (codes "params") params.0)) (params-takes rest x params.1)
        | inr e ↦ absurd (let no : None ≡ Some x = e.1 in cc no)
      ]
    ]
  ]
]

format-takes : (words : List (List ℕ)) (x : Format × List (List ℕ)) → format_at words ≡ Some x → Names words x
unfolding format_at
format-takes [] x e = absurd cc
format-takes (name ∷ rest) x e = named-takes name rest x e

last-takes : (format : Format) (words : List (List ℕ)) (command : ToolCommand) → last_at format words ≡ Some command → (bytes : List ℕ) × ((Decode format bytes ≡ command) × (words ≡ hex bytes ∷ []) × IsData bytes)
unfolding last_at
last-takes format [] command e = absurd cc
last-takes format (word ∷ []) command e =
    let h = bind-some (hex_of word) (λ bytes. Some (Decode format bytes)) command e in
    let t = hex-takes word h.0 h.1.0 in
    (h.0, (same_Some (Decode format h.0) command h.1.1, ap (λ (w : List ℕ). w ∷ []) t.0, t.1))
last-takes format (word ∷ (other ∷ rest)) command e = absurd cc

decode-takes : (words : List (List ℕ)) (command : ToolCommand) → decode_at words ≡ Some command → SpellsToolCommand (codes "decode" ∷ words) command
unfolding decode_at
decode-takes words command e =
    let f = bind-some (format_at words) (λ format. last_at format.0 format.1) command e in
    let n = format-takes words f.0 f.1.0 in
    let l = last-takes f.0.0 f.0.1 command f.1.1 in
    let whole : codes "decode" ∷ words ≡ codes "decode" ∷ (format_words f.0.0 ++ hex l.0 ∷ []) = ap (λ (w : List (List ℕ)). codes "decode" ∷ w) (n.0 ∙ ap (λ (w : List (List ℕ)). format_words f.0.0 ++ w) l.1.1) in
    subst (SpellsToolCommand (codes "decode" ∷ words)) l.1.0 (whole, n.1, l.1.2)

step-takes : (words : List (List ℕ)) (command : ToolCommand) → step_at words ≡ Some command → SpellsToolCommand (codes "step" ∷ words) command
step-takes [] command e = subst (SpellsToolCommand (codes "step" ∷ [])) (same_Some (Run (Step false)) command e) refl
step-takes (word ∷ []) command e = elim (chosen (bytes_eq word (codes "--trace")) _ _ (Some command) e) [
  | inl traced ↦
      let P : List ℕ → Type 0 = λ t. SpellsToolCommand (codes "step" ∷ t ∷ []) command in
      subst P (sym (same-text word (codes "--trace") traced.0)) (subst (SpellsToolCommand (codes "step" ∷ codes "--trace" ∷ [])) (same_Some (Run (Step true)) command traced.1) refl)
  | inr none ↦ absurd (let no : None ≡ Some command = none.1 in cc no)
]
step-takes (word ∷ (other ∷ rest)) command e = absurd cc

target-takes : (words : List (List ℕ)) (command : ToolCommand) → target_at words ≡ Some command → SpellsToolCommand (codes "target" ∷ words) command
target-takes [] command e = subst (SpellsToolCommand (codes "target" ∷ [])) (same_Some (Run Target) command e) refl
target-takes (word ∷ rest) command e = absurd cc

pub command-takes : (words : List (List ℕ)) (command : ToolCommand) → command_at words ≡ Some command → SpellsToolCommand words command
unfolding command_at
command-takes [] command e = absurd cc
command-takes (verb ∷ rest) command e = elim (chosen (bytes_eq verb (codes "step")) _ _ (Some command) e) [
  | inl step ↦ let P : List ℕ → Type 0 = λ t. SpellsToolCommand (t ∷ rest) command in subst P (sym (same-text verb (codes "step") step.0)) (step-takes rest command step.1)
  | inr e ↦ elim (chosen (bytes_eq verb (codes "target")) _ _ (Some command) e.1) [
    | inl target ↦ let P : List ℕ → Type 0 = λ t. SpellsToolCommand (t ∷ rest) command in subst P (sym (same-text verb (codes "target") target.0)) (target-takes rest command target.1)
    | inr e ↦ elim (chosen (bytes_eq verb (codes "decode")) _ _ (Some command) e.1) [
      | inl decode ↦ let P : List ℕ → Type 0 = λ t. SpellsToolCommand (t ∷ rest) command in subst P (sym (same-text verb (codes "decode") decode.0)) (decode-takes rest command decode.1)
      | inr e ↦ absurd (let no : None ≡ Some command = e.1 in cc no)
    ]
  ]
]

-- ---- one command

-- words spell one command at most
pub one-command : (words : List (List ℕ)) (a b : ToolCommand) → SpellsToolCommand words a → SpellsToolCommand words b → a ≡ b
one-command words a b sa sb = same_Some a b (sym (command-again words a sa) ∙ command-again words b sb)

-- words ask for one run at most
pub one-run : (words : List (List ℕ)) (a b : RunCommand) → AskRun a words → AskRun b words → a ≡ b
one-run words a b f g = let e : Run a ≡ Run b = one-command words (Run a) (Run b) f g in cc e

-- words of a run aren't words of a decoding
pub run-apart : (words : List (List ℕ)) (format : Format) (bytes : List ℕ) → AskReading words → SpellsToolCommand words (Decode format bytes) → ⊥
run-apart words format bytes (run, s) d = let e : Run run ≡ Decode format bytes = one-command words (Run run) (Decode format bytes) s d in cc e

-- the decoding that words spell is the one that was read
pub same-decode : (found : Option ToolCommand) (inner : ToolCommand) (f g : Format) (a b : List ℕ) → found ≡ Some inner → inner ≡ Decode g b → found ≡ Some (Decode f a) → (f ≡ g) × (a ≡ b)
same-decode found inner f g a b read is spelt =
    let e : Decode f a ≡ Decode g b = same_Some (Decode f a) inner (sym spelt ∙ read) ∙ is in
    (cc e, cc e)

-- words that are read as no command spell no decoding
pub unread-decode : (found : Option ToolCommand) (f : Format) (a : List ℕ) → found ≡ None → found ≡ Some (Decode f a) → ⊥
unread-decode found f a none spelt = let e : None ≡ Some (Decode f a) = sym none ∙ spelt in cc e

-- what was read says what is spelt
pub command-found : (words : List (List ℕ)) (found : Option ToolCommand) → found ≡ command_at words → MatchOption found (SpellsNoToolCommand words) (λ command. SpellsToolCommand words command)
command-found words None e = λ command s. let no : None ≡ Some command = e ∙ command-again words command s in cc no
command-found words (Some command) e = command-takes words command (sym e)

command-some : (words : List (List ℕ)) → IsSome (command_at words) → IsCommand words
command-some words h = some-case (command_at words) refl h
  where
    some-case : (o : Option ToolCommand) → command_at words ≡ o → IsSome o → IsCommand words
    some-case (Some command) e h = (command, command-takes words command e)
    some-case None e h = cc h

-- want of memory comes only for words that are read as a command
pub command-memory : {E : Type 0} (words : List (List ℕ)) (r : Result (Option ToolCommand) E) → OnErr r (IsSome (command_at words)) → OnErr r (IsCommand words)
command-memory words (Ok found) h = tt
command-memory words (Err e) h = command-some words h
