-- What the top calls say of their answers.
use Rattle.std.specs.Prelude.{ℕ, ◌≡◌, ◌≢◌, List, [], ◌∷◌, Option, Some}
use Rattle.std.specs.Io.KnownBytes.{Appends}
use Rattle.array_journal.specs.declared.entry.Entry.{Entry}
use Rattle.target_service.specs.Served.{IsServed, IsBegun, IsReadTo}
use Rattle.target_service.specs.Endings.{AsksServe, Gains, IsFoundNoted}
use Rattle.trace_check.specs.Endings.{AsksCheck, IsNoted}
use Rattle.trace_check.specs.Endings.{IsDone as IsAcceptance}
use Rattle.xor_cli.specs.Endings.{IsDone, IsRefusalNoted, IsExcessNoted}
use Rattle.program_status.specs.Statuses.{IsOneOf}
use Rattle.program_status.specs.Stops.{noted_for}
use Rattle.xor_cli.specs.Words.{SpellsNoToolCommand}
use Rattle.worked_cases.specs.declared.answers.TopAnswer.{TopAnswer}
use Rattle.worked_cases.specs.declared.calls.Program.{Program}
use Rattle.worked_cases.specs.declared.calls.Program.TheVariants.{Array, Checker, Target}

-- what `tool` says of words, of the input, of out and notes before it and behind it, and of its outcome
pub record ToolSays (words : List (List ℕ)) (input out new_out notes new_notes : Option (List ℕ)) (status : ℕ) (journal : List Entry) : Type 0 where
  pub done : status ≡ 0 → IsDone words input out new_out journal
  pub refused : status ≡ 2 → IsRefusalNoted words input notes new_notes
  pub exceeded : status ≡ 7 → IsExcessNoted words input notes new_notes
  pub usage : status ≡ 64 → SpellsNoToolCommand words
  pub no_other : IsOneOf (0 ∷ 2 ∷ 3 ∷ 4 ∷ 5 ∷ 7 ∷ 64 ∷ []) status
  pub unwritten : status ≢ 0 → status ≢ 4 → (new_out ≡ out) × (journal ≡ [])
  pub noted : status ≢ 2 → status ≢ 7 → status ≢ 4 → Appends notes new_notes (noted_for status)

-- what `check` says of the same
pub record CheckSays (words : List (List ℕ)) (input out new_out notes new_notes : Option (List ℕ)) (status : ℕ) : Type 0 where
  pub accepted : status ≡ 0 → IsAcceptance words input out new_out
  pub rejected : status ≡ 1 → IsNoted words input 1 notes new_notes
  pub refused : status ≡ 2 → IsNoted words input 2 notes new_notes
  pub limited : status ≡ 7 → IsNoted words input 7 notes new_notes
  pub usage : status ≡ 64 → AsksCheck words → ⊥
  pub no_other : IsOneOf (0 ∷ 1 ∷ 2 ∷ 3 ∷ 4 ∷ 5 ∷ 7 ∷ 64 ∷ []) status
  pub unwritten : status ≢ 0 → status ≢ 4 → new_out ≡ out
  pub noted : IsOneOf (0 ∷ 3 ∷ 5 ∷ 64 ∷ []) status → Appends notes new_notes (noted_for status)

-- what `serve` says of the same
pub record ServeSays (words : List (List ℕ)) (input out new_out notes new_notes : Option (List ℕ)) (status : ℕ) : Type 0 where
  pub served : status ≡ 0 → AsksServe words × Gains input IsServed out new_out
  pub refused : status ≡ 2 → AsksServe words × IsFoundNoted input 2 out new_out notes new_notes
  pub limited : status ≡ 7 → AsksServe words × IsFoundNoted input 7 out new_out notes new_notes
  pub read_fault : status ≡ 3 → Gains input IsReadTo out new_out
  pub no_memory : status ≡ 5 → Gains input IsBegun out new_out
  pub usage : status ≡ 64 → AsksServe words → ⊥
  pub no_other : IsOneOf (0 ∷ 2 ∷ 3 ∷ 4 ∷ 5 ∷ 7 ∷ 64 ∷ []) status
  pub noted : IsOneOf (0 ∷ 3 ∷ 5 ∷ 64 ∷ []) status → Appends notes new_notes (noted_for status)

-- an answer of `tool` where nothing was written before it
abbrev pub IsToolAnswer : List (List ℕ) → List ℕ → TopAnswer → Type 0
IsToolAnswer words input answer =
    (journal : List Entry) × ToolSays words (Some input) (Some []) (Some answer.out) (Some []) (Some answer.notes) answer.status journal

-- an answer of `check`
abbrev pub IsCheckAnswer : List (List ℕ) → List ℕ → TopAnswer → Type 0
IsCheckAnswer words input answer = CheckSays words (Some input) (Some []) (Some answer.out) (Some []) (Some answer.notes) answer.status

-- an answer of `serve`
abbrev pub IsServeAnswer : List (List ℕ) → List ℕ → TopAnswer → Type 0
IsServeAnswer words input answer = ServeSays words (Some input) (Some []) (Some answer.out) (Some []) (Some answer.notes) answer.status

-- an answer of a program's top call
abbrev pub IsAnswer : Program → List (List ℕ) → List ℕ → TopAnswer → Type 0
IsAnswer Array words input answer = IsToolAnswer words input answer
IsAnswer Checker words input answer = IsCheckAnswer words input answer
IsAnswer Target words input answer = IsServeAnswer words input answer
