-- How a program ends, and why.
use Rattle.std.specs.Prelude.{ℕ, ◌≡◌, ◌⊎◌, ◌+◌, List, drop, Option, Some, IfSome}
use Rattle.std.specs.Io.KnownBytes.{Appends}
use Rattle.outer_io.specs.Outside.{HasRisen, AppendsPrefix, input_limit}
use Rattle.program_status.specs.declared.status.Verdict.{Verdict}
use Rattle.program_status.specs.declared.stops.ProgramStop.{ProgramStop}
use Rattle.program_status.specs.declared.stops.ProgramStop.TheVariants.{Usage, ReadFault, Found, Memory}
use Rattle.program_status.specs.Statuses.{code_of}
use Rattle.program_status.specs.Stops.{status_of, note_of}

-- ---- what is written

-- A sink has gained all of a text, and the status is the one that goes with it; or a write failed, the sink has gained a
-- beginning of the text, and the status is 4.
abbrev pub IsHanded : ℕ → List ℕ → Option (List ℕ) → Option (List ℕ) → ℕ → ℕ → ℕ → Type 0
IsHanded code text old new before after status =
    ((status ≡ code) × Appends old new text) ⊎ ((status ≡ 4) × HasRisen before after × AppendsPrefix old new text)

-- the same of the line that says why a program was stopped
abbrev pub IsNoted : {F : Type 0} → (F → Verdict) → ProgramStop F → Option (List ℕ) → Option (List ℕ) → ℕ → ℕ → ℕ → Type 0
IsNoted verdict stop old new before after status = IsHanded (code_of (status_of verdict stop)) (note_of stop) old new before after status

-- a sink has gained a text that is as it should be, or a beginning of one
abbrev pub GainsOne : (List ℕ → Type 0) → Option (List ℕ) → Option (List ℕ) → Type 0
GainsOne IsText old new = (text : List ℕ) × (IsText text × Appends old new text)

abbrev pub GainsPrefix : (List ℕ → Type 0) → Option (List ℕ) → Option (List ℕ) → Type 0
GainsPrefix IsText old new = (text : List ℕ) × (IsText text × AppendsPrefix old new text)

-- ---- why nothing was made

-- how often the source, out and notes of a program have failed
pub record Counts : Type 0 where
  pub source : ℕ
  pub out : ℕ
  pub notes : ℕ

-- The causes of the statuses that no finding has. The words are no command, a command, or one for which the source is
-- read. A fault comes only where the count of the object that was
-- handed in rose in this call; want of memory alone is free.
pub record HasCause (NoCommand Command Reading : Type 0) (before after : Counts) (status : ℕ) : Type 0 where
  pub read_fault : status ≡ 3 → Reading × HasRisen before.source after.source
  pub write_fault : status ≡ 4 → HasRisen before.out after.out ⊎ HasRisen before.notes after.notes
  pub no_memory : status ≡ 5 → Command
  pub usage : status ≡ 64 → NoCommand

-- what stops a part of the work, where no word is looked at and nothing is read: a finding of which this is so, with its line
abbrev pub StopsBy : {F : Type 0} → (F → List ℕ) → (F → Type 0) → ProgramStop F → Type 0
StopsBy line Is Usage = ⊥
StopsBy line Is ReadFault = ⊥
StopsBy line Is (Found finding note) = Is finding × (note ≡ line finding)
StopsBy line Is Memory = Unit {0}

-- the same where the source is read: also a read fault, of which the count of the source's faults tells
abbrev pub StopsReading : {F : Type 0} → (F → List ℕ) → (F → Type 0) → ℕ → ℕ → ProgramStop F → Type 0
StopsReading line Is before after Usage = ⊥
StopsReading line Is before after ReadFault = HasRisen before after
StopsReading line Is before after (Found finding note) = Is finding × (note ≡ line finding)
StopsReading line Is before after Memory = Unit {0}

-- the same of a whole program, whose words are no command, a command, or one for which the source is read
abbrev pub StopsProgram : {F : Type 0} → (NoCommand Command Reading : Type 0) → (F → List ℕ) → (F → Type 0) → ℕ → ℕ → ProgramStop F → Type 0
StopsProgram NoCommand Command Reading line Is before after Usage = NoCommand
StopsProgram NoCommand Command Reading line Is before after ReadFault = Reading × HasRisen before after
StopsProgram NoCommand Command Reading line Is before after (Found finding note) = Is finding × (note ≡ line finding)
StopsProgram NoCommand Command Reading line Is before after Memory = Command

-- ---- what is taken of the source

-- what is said of a stop that comes once the input is read
abbrev pub AfterReading : {F : Type 0} → Type 0 → ProgramStop F → Type 0
AfterReading Said Usage = Unit {0}
AfterReading Said ReadFault = Unit {0}
AfterReading Said (Found finding note) = Said
AfterReading Said Memory = Unit {0}

-- of an input all is taken up to one byte past the limit, and nothing behind it
abbrev pub IsInputTaken : Option (List ℕ) → Option (List ℕ) → Type 0
IsInputTaken input left = IfSome input (λ bytes. left ≡ Some (drop (input_limit + 1) bytes))
