-- How answers are told.
use Rattle.std.specs.Prelude.{ℕ, ◌==◌, ◌||◌, ◌&&◌, nat_le, Bool, if◌then◌else◌, List, [], ◌∷◌, ◌++◌, codes}
use Rattle.std.specs.List.{list_all}
use Rattle.std.specs.Fmt.{decimal}
use Rattle.text_fields.specs.Spelling.{hex}
use Rattle.worked_cases.specs.declared.answers.TopAnswer.{TopAnswer}
use Rattle.worked_cases.specs.declared.lists.CaseValue.{CaseValue}
use Rattle.worked_cases.specs.declared.lists.CaseValue.TheVariants as values

-- a text of lines of bytes that are seen
abbrev pub is_plain : List ℕ → Bool
is_plain text = list_all (λ b. b == 10 || (nat_le 32 b && nat_le b 126)) text

-- a piece of a text behind its name and a mark
abbrev pub piece_told : List ℕ → List ℕ → List ℕ → List ℕ
piece_told name mark piece = name ++ mark ++ piece ++ 10 ∷ []

-- the lines of a text of which a line has begun so: each behind a bar, the last one behind a plus where it has no end
abbrev pub lines_told : List ℕ → List ℕ → List ℕ → List ℕ
lines_told name [] [] = []
lines_told name (b ∷ begun) [] = piece_told name (codes "+ ") (b ∷ begun)
lines_told name begun (b ∷ rest) =
    if b == 10 then piece_told name (codes "| ") begun ++ lines_told name [] rest else lines_told name (begun ++ b ∷ []) rest

-- what was written, by lines, or in hexadecimal where a byte of it isn't seen
unfoldable pub written_told : List ℕ → List ℕ → List ℕ
written_told name text = if is_plain text then lines_told name [] text else piece_told name (codes "hex ") (hex text)

abbrev pub status_told : ℕ → List ℕ
status_told status = codes "  status " ++ decimal status ++ 10 ∷ []

-- an answer: its status, and what was written to out and to notes
abbrev pub answer_told : TopAnswer → List ℕ
answer_told answer = status_told answer.status ++ written_told (codes "  out ") answer.out ++ written_told (codes "  notes ") answer.notes

-- a value as it is written in lines
abbrev pub value_text : CaseValue → List ℕ
value_text values.None = []
value_text (values.Text bytes) = bytes
value_text (values.Number number) = decimal number

-- what parts a case's name from the value
abbrev pub value_mark : CaseValue → List ℕ
value_mark values.None = []
value_mark (values.Text bytes) = codes ": "
value_mark (values.Number number) = codes ": "

-- which run of a case it is
abbrev pub heading_told : List ℕ → CaseValue → List ℕ
heading_told name value = name ++ value_mark value ++ value_text value ++ 10 ∷ []
