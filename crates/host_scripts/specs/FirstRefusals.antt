-- Which line of bytes that spell nothing is refused, and for what, whatever the grammar. A grammar has three kinds of
-- values, each within the one before: those in form, whose numbers are of any size; those in range too; and those that it
-- allows.
use Rattle.std.specs.Prelude.{ℕ, ◌≡◌, ◌+◌, List, [], ◌∷◌, ◌++◌, length}
use Rattle.std.specs.List.{flat_map}
use Rattle.host_scripts.specs.declared.script.Cause.{Cause}
use Rattle.host_scripts.specs.declared.script.Cause.TheVariants.{Form, Range, Size}
use Rattle.host_scripts.specs.declared.script.ScriptFault.{ScriptFault}
use Rattle.host_scripts.specs.declared.script.ScriptFault.TheVariants as faults
use Rattle.text_fields.specs.Spelling.{line}

-- what values have for their lines, which bytes spell a value, and the three kinds
pub record Grammar (V : Type 0) : Type 1 where
  pub lines : V → List (List ℕ)
  pub spells : List ℕ → V → Type 0
  pub formed : V → Type 0
  pub ranged : V → Type 0
  pub allowed : V → Type 0

-- a value of this kind has these as its first lines
pub record Begins {V : Type 0} (g : Grammar V) (Kind : V → Type 0) (texts : List (List ℕ)) : Type 0 where
  pub value : V
  pub kind : Kind value
  pub more : List (List ℕ)
  pub lines : g.lines value ≡ texts ++ more

-- the bytes behind these lines go on with a whole line of such a value
pub record GoesOn {V : Type 0} (g : Grammar V) (Kind : V → Type 0) (texts : List (List ℕ)) (rest : List ℕ) : Type 0 where
  pub text : List ℕ
  pub after : List ℕ
  pub split : rest ≡ line text ++ after
  pub begins : Begins g Kind (texts ++ text ∷ [])

-- the first cause in the line behind these, in the order form, range, size; where no bytes are left, a line is due
abbrev pub IsCause : {V : Type 0} → Grammar V → List (List ℕ) → List ℕ → Cause → Type 0
IsCause g texts rest Form = GoesOn g g.formed texts rest → ⊥
IsCause g texts rest Range = GoesOn g g.formed texts rest × (GoesOn g g.ranged texts rest → ⊥)
IsCause g texts rest Size = GoesOn g g.ranged texts rest × (GoesOn g g.allowed texts rest → ⊥)

-- the bytes spell nothing; the lines before the one of this number are those that a value begins with, and it is refused
-- for this cause
pub record IsFirstRefusal {V : Type 0} (g : Grammar V) (bytes : List ℕ) (number : ℕ) (cause : Cause) : Type 0 where
  pub unspelt : (v : V) → g.spells bytes v → ⊥
  pub texts : List (List ℕ)
  pub rest : List ℕ
  pub split : bytes ≡ flat_map line texts ++ rest
  pub place : number ≡ length texts + 1
  pub begins : Begins g g.allowed texts
  pub because : IsCause g texts rest cause

-- want of memory says nothing of the bytes
abbrev pub RefusesFirst : {V : Type 0} → Grammar V → List ℕ → ScriptFault → Type 0
RefusesFirst g bytes faults.Memory = Unit {0}
RefusesFirst g bytes (faults.Refused number cause) = IsFirstRefusal g bytes number cause
