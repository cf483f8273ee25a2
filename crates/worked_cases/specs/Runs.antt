-- What is told of runs.
use Rattle.std.specs.Prelude.{ℕ, ◌≡◌, List, [], ◌∷◌, ◌++◌, map, string_bytes}
use Rattle.program_status.specs.Words.{texts}
use Rattle.worked_cases.specs.declared.answers.TopAnswer.{TopAnswer}
use Rattle.worked_cases.specs.declared.calls.TopCall.{TopCall}
use Rattle.worked_cases.specs.declared.lists.CaseRun.{CaseRun}
use Rattle.worked_cases.specs.Answers.{IsAnswer}
use Rattle.worked_cases.specs.Told.{heading_told, answer_told}

-- an answer to a call
abbrev pub Answers : TopCall → TopAnswer → Type 0
Answers call answer = IsAnswer call.program (texts call.words.items) call.input answer

-- a text has gained a run's heading, and an answer to its call
abbrev pub IsTold : CaseRun → List ℕ → List ℕ → Type 0
IsTold run before after =
    (answer : TopAnswer) × (Answers run.call answer × (after ≡ before ++ heading_told run.name run.value ++ answer_told answer))

-- the same of runs in their order
abbrev pub AreTold : List CaseRun → List ℕ → List ℕ → Type 0
AreTold [] before after = before ≡ after
AreTold (run ∷ runs) before after = (between : List ℕ) × (IsTold run before between × AreTold runs between after)
