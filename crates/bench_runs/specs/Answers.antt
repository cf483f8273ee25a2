-- How what a line of a bench comes to is told.
use Rattle.std.specs.Prelude.{ℕ, List, ◌∷◌, ◌++◌, Option, Some, None, codes}
use Rattle.std.specs.Fmt.{decimal}
use Rattle.text_fields.specs.Spelling.{line}
use Rattle.answer_text.specs.Answers.{sense_check, check_text, good_text}
use Rattle.xor_target.specs.declared.answer.Answer.{Answer}
use Rattle.xor_target.specs.declared.answer.Answer.TheVariants.{Good, Check, Gone, Shut, Peer, Memory}
use Rattle.bench_runs.specs.declared.line_answer.LineAnswer.{LineAnswer}
use Rattle.bench_runs.specs.declared.line_answer.LineAnswer.TheVariants.{Answered, Done}

-- the answer to a command; no line shuts an owner, so no line meets a shut, and a request is carried before anything is told
abbrev pub answer_text : Answer → Option (List ℕ)
answer_text (Good bytes made) = Some (good_text bytes)
answer_text (Check sense made loss) = Some (check_text (sense_check sense))
answer_text (Gone at life loss) = Some (codes "gone")
answer_text (Shut at) = None
answer_text (Peer request made) = None
answer_text Memory = None

-- what is told of a loss, a reset, a drop and a fresh disk
abbrev pub done_text : List ℕ
done_text = codes "done"

-- what is told of what a line came to
abbrev pub told_text : LineAnswer → Option (List ℕ)
told_text (Answered answer) = answer_text answer
told_text Done = Some done_text

-- the line of the line with a number
abbrev pub numbered : ℕ → List ℕ → List ℕ
numbered number told = line (decimal number ++ 32 ∷ told)
