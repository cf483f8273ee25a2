-- Frames that are answered in turn.
use Rattle.std.specs.Prelude.{◌≡◌, ℕ, suc, List, [], ◌∷◌, ◌++◌, Some}
use Rattle.host_scripts.specs.declared.bench.Bench.{Bench}
use Rattle.host_scripts.specs.declared.bench.BenchLine.{BenchLine}
use Rattle.target_frames.specs.declared.items.Item.{Item}
use Rattle.target_frames.specs.declared.items.Item.TheVariants.{Opening, Frame}
use Rattle.bench_runs.specs.declared.line_answer.LineAnswer.{LineAnswer}
use Rattle.xor_target.specs.State.{TargetState}
use Rattle.bench_runs.specs.BenchRuns.{first_targets, IsStep}
use Rattle.target_service.specs.Replies.{line_of, reply_of}

-- the targets that an opening tells of, as those of a bench without lines
abbrev pub bench_of : ℕ → ℕ → ℕ → ℕ → Bench
bench_of targets block buffer rows = record { targets = targets; block = block; rows = rows; buffer = buffer; lines = [] }

-- The line of a frame with a number is done at its target, with the requests that come of it, and replied to. The number is the
-- owner of what the line holds.
pub record IsDone (number : ℕ) (ts : List TargetState) (l : BenchLine) (after : List TargetState) (reply : List ℕ) : Type 0 where
  pub came : LineAnswer
  pub step : IsStep number ts l after came
  pub replies : reply_of came ≡ Some reply

abbrev pub IsReplied : ℕ → List TargetState → Item → List TargetState → List ℕ → Type 0
IsReplied number ts (Opening targets block buffer rows) after reply = ⊥
IsReplied number ts (Frame kind target cdb bytes) after reply = IsDone number ts (line_of kind target cdb bytes) after reply

-- frames, numbered from this one on, are answered in turn, with these replies behind one another
abbrev pub AreReplied : ℕ → List TargetState → List Item → List TargetState → List ℕ → Type 0
AreReplied number ts [] after replies = (after ≡ ts) × (replies ≡ [])
AreReplied number ts (frame ∷ frames) after replies =
    (next : List TargetState) × ((reply : List ℕ) × ((rest : List ℕ) ×
    (IsReplied number ts frame next reply × AreReplied (suc number) next frames after rest × (replies ≡ reply ++ rest))))

-- The items of a stream are answered with these replies: none for the opening, and one for each frame behind it, whose
-- targets begin as the opening tells.
abbrev pub AreServed : List Item → List ℕ → Type 0
AreServed [] replies = replies ≡ []
AreServed (Opening targets block buffer rows ∷ frames) replies =
    (after : List TargetState) × AreReplied 1 (first_targets (bench_of targets block buffer rows)) frames after replies
AreServed (Frame kind target cdb bytes ∷ items) replies = ⊥
