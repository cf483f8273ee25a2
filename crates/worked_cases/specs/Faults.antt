-- What is wrong in a list of cases, and the line that says so.
use Rattle.std.specs.Prelude.{ℕ, List, [], ◌∷◌, ◌++◌, codes}
use Rattle.std.specs.Fmt.{decimal}
use Rattle.worked_cases.specs.declared.faults.Expected.{Expected}
use Rattle.worked_cases.specs.declared.faults.Expected.TheVariants.{Size, Part, Step, Number, Numbers, Hexadecimal, Block, Place, Length, Program, Text, Medium, Call}
use Rattle.worked_cases.specs.declared.faults.Wrong.{Wrong}
use Rattle.worked_cases.specs.declared.faults.Wrong.TheVariants as wrongs
use Rattle.worked_cases.specs.declared.faults.ListFault.{ListFault}
use Rattle.worked_cases.specs.declared.faults.ListFault.TheVariants as faults

-- what is wrong in a line, with the line's number
abbrev pub placed : Wrong → ℕ → ListFault
placed (wrongs.Unread expected) number = faults.Line number expected
placed wrongs.Memory number = faults.Memory

abbrev pub words_of : Expected → List ℕ
words_of Size = codes "a list of at most 50331648 bytes"
words_of Part = codes "a line `block NAME` or `case NAME`"
words_of Step = codes "a line that a block or a case may have"
words_of Number = codes "a number"
words_of Numbers = codes "`from FIRST to LAST`"
words_of Hexadecimal = codes "pairs of lower-case hexadecimal digits"
words_of Block = codes "the name of a block above"
words_of Place = codes "a place in the text above"
words_of Length = codes "a text of at most 67108864 bytes"
words_of Program = codes "`xorarray`, `xorcheck` or `xortarget`"
words_of Text = codes "words in UTF-8"
words_of Medium = codes "`source`, `out` or `notes`"
words_of Call = codes "a case with one line `run`"

-- the line of notes of a line that isn't taken
abbrev pub fault_line : ℕ → Expected → List ℕ
fault_line number expected = codes "line " ++ decimal number ++ codes ": expected " ++ words_of expected ++ 10 ∷ []
