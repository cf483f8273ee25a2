-- The statuses that a process ends with.
use Rattle.std.specs.Prelude.{ℕ, ◌≡◌, ◌⊎◌, List, [], ◌∷◌}
use Rattle.program_status.specs.declared.status.Verdict.{Verdict}
use Rattle.program_status.specs.declared.status.Verdict.TheVariants.{Rejected, Refused, Exceeded}
use Rattle.program_status.specs.declared.status.Status.{Status}
use Rattle.program_status.specs.declared.status.Status.TheVariants as statuses

-- a number is one of these
abbrev pub IsOneOf : List ℕ → ℕ → Type 0
IsOneOf [] n = ⊥
IsOneOf (m ∷ ms) n = (n ≡ m) ⊎ IsOneOf ms n

abbrev pub verdict_code : Verdict → ℕ
verdict_code Rejected = 1
verdict_code Refused = 2
verdict_code Exceeded = 7

abbrev pub code_of : Status → ℕ
code_of statuses.Done = 0
code_of (statuses.Found verdict) = verdict_code verdict
code_of statuses.ReadFault = 3
code_of statuses.WriteFault = 4
code_of statuses.NoMemory = 5
code_of statuses.Usage = 64
