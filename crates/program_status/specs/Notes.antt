-- Lines of notes.
use Rattle.std.specs.Prelude.{ℕ, List, [], ◌∷◌, ◌++◌, codes}
use Rattle.host_scripts.specs.declared.script.Cause.{Cause}
use Rattle.host_scripts.specs.declared.script.Cause.TheVariants as causes
use Rattle.host_scripts.specs.declared.script.Limit.{Limit}
use Rattle.host_scripts.specs.declared.script.Limit.TheVariants.{Calls, Blocks, Moved, Media, Passes}
use Rattle.text_fields.specs.Spelling.{line}
use Rattle.text_fields.specs.Spelling.{counted}
use Rattle.program_status.specs.declared.notes.Excess.{Excess}
use Rattle.program_status.specs.declared.notes.Excess.TheVariants.{Input, Counted}

abbrev pub limit_name : Limit → List ℕ
limit_name Calls = codes "calls"
limit_name Blocks = codes "blocks"
limit_name Moved = codes "moved"
limit_name Media = codes "media"
limit_name Passes = codes "passes"

abbrev pub excess_name : Excess → List ℕ
excess_name Input = codes "input"
excess_name (Counted limit) = limit_name limit

abbrev pub excess_line : Excess → List ℕ
excess_line excess = line (codes "limit " ++ excess_name excess)

abbrev pub cause_word : Cause → List ℕ
cause_word causes.Form = codes "form"
cause_word causes.Range = codes "range"
cause_word causes.Size = codes "size"

-- words and a number
abbrev pub numbered_line : List ℕ → ℕ → List ℕ
numbered_line words number = counted words number (10 ∷ [])

-- a line of the input that is refused, and the word that says why
abbrev pub refused_line : ℕ → List ℕ → List ℕ
refused_line number word = counted (codes "refused line") number (32 ∷ line word)
