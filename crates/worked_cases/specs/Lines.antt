-- Lines of a list of cases.
use Rattle.std.specs.Prelude.{ℕ, ◌≡◌, ◌+◌, ◌==◌, ◌&&◌, if◌then◌else◌, List, [], ◌∷◌, ◌++◌, length, All}
use Rattle.std.specs.List.{slice_split}
use Rattle.worked_cases.specs.declared.faults.Expected.{Expected}
use Rattle.worked_cases.specs.declared.lines.Line.{Line}
use Rattle.worked_cases.specs.declared.faults.ListFault.{ListFault}
use Rattle.worked_cases.specs.declared.faults.ListFault.TheVariants as faults

-- the lines of a list, parted by the bytes that end them
abbrev pub lines_in : List ℕ → List (List ℕ)
lines_in text = slice_split (λ b. b == 10) text

-- a line of the list has this number, counted from 1, and this text
abbrev pub IsLine : List ℕ → ℕ → List ℕ → Type 0
IsLine text number line =
    (front : List (List ℕ)) × ((behind : List (List ℕ)) × ((lines_in text ≡ front ++ line ∷ behind) × (number ≡ length front + 1)))

-- lines of the list
abbrev pub AreLines : List ℕ → List Line → Type 0
AreLines text lines = All (λ line. IsLine text line.number line.text.now) lines

-- a fault names a line of the list
abbrev pub IsFaultOf : List ℕ → ListFault → Type 0
IsFaultOf text (faults.Line number expected) = (line : List ℕ) × IsLine text number line
IsFaultOf text faults.Memory = Unit {0}

-- a text with a value in the place of each `{}`
abbrev pub filled : List ℕ → List ℕ → List ℕ
filled value [] = []
filled value (a ∷ []) = a ∷ []
filled value (a ∷ b ∷ rest) = if a == 123 && b == 125 then value ++ filled value rest else a ∷ filled value (b ∷ rest)
