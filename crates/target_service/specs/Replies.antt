-- What a frame asks, and the bytes that its target sends back.
use Rattle.std.specs.Prelude.{ℕ, ◌==◌, if◌then◌else◌, List, [], ◌∷◌, ◌++◌, length, Option, Some, None}
use Rattle.std.specs.Int.{w32, to_be_bytes}
use Rattle.host_scripts.specs.declared.bench.BenchAction.{BenchAction}
use Rattle.host_scripts.specs.declared.bench.BenchAction.TheVariants.{Raw, Lose, Reset, DropNext, Fresh}
use Rattle.host_scripts.specs.declared.bench.BenchLine.{BenchLine}
use Rattle.sense_data.specs.Senses as senses
use Rattle.xor_target.specs.declared.answer.Answer.{Answer}
use Rattle.xor_target.specs.declared.answer.Answer.TheVariants.{Good, Check, Gone, Shut, Peer, Memory}
use Rattle.bench_runs.specs.declared.line_answer.LineAnswer.{LineAnswer}
use Rattle.bench_runs.specs.declared.line_answer.LineAnswer.TheVariants.{Answered, Done}

-- what a frame of a kind asks: 1 a command, 2 that the disk is lost, 3 a reset, 4 that a request is dropped, 5 a fresh disk
abbrev pub action_of : ℕ → List ℕ → List ℕ → BenchAction
action_of kind cdb bytes =
    if kind == 1 then Raw cdb bytes
    else if kind == 2 then Lose
    else if kind == 3 then Reset
    else if kind == 4 then DropNext
    else Fresh

-- a frame as the line of a bench
abbrev pub line_of : ℕ → ℕ → List ℕ → List ℕ → BenchLine
line_of kind target cdb bytes = record { target = target; action = action_of kind cdb bytes }

-- a reply: its kind, three zero bytes, the number of bytes that follow, and these; the highest byte of a number stands first
abbrev pub reply_bytes : ℕ → List ℕ → List ℕ
reply_bytes kind bytes = kind ∷ 0 ∷ 0 ∷ 0 ∷ to_be_bytes w32 (length bytes) ++ bytes

-- the answer to a command; no frame shuts an owner, so none meets a shut, and a request is carried before anything is told
abbrev pub answer_reply : Answer → Option (List ℕ)
answer_reply (Good bytes made) = Some (reply_bytes 0 bytes)
answer_reply (Check sense made loss) = Some (reply_bytes 2 (senses.spelling sense))
answer_reply (Gone at life loss) = Some (reply_bytes 0xf0 [])
answer_reply (Shut at) = None
answer_reply (Peer request made) = None
answer_reply Memory = None

-- the reply to a frame; want of memory has none
abbrev pub reply_of : LineAnswer → Option (List ℕ)
reply_of (Answered answer) = answer_reply answer
reply_of Done = Some (reply_bytes 0xf1 [])
