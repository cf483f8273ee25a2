-- Reading words from left to right: what is read from the front, and the words after it.
use Rattle.std.specs.Prelude.{ℕ, Bool, true, false, if◌then◌else◌, List, [], ◌∷◌, codes, Option, Some, None}
use Rattle.std.specs.Str.{bytes_eq}
pub use Rattle.text_fields.specs.Reading.{◌>>=◌, Reads}
use Rattle.text_fields.specs.Reading as reading
use Rattle.text_fields.specs.Reading.{filled_of}
use Rattle.program_status.specs.Words.{single_of}
use Rattle.xor_cli.specs.declared.decoding.values.Format.{Format}
use Rattle.xor_cli.specs.declared.decoding.values.Format.TheVariants as formats
use Rattle.xor_cli.specs.declared.words.RunCommand.TheVariants.{Step, Target}
use Rattle.xor_cli.specs.declared.words.ToolCommand.{ToolCommand}
use Rattle.xor_cli.specs.declared.words.ToolCommand.TheVariants.{Run, Decode}

-- the first word, and those after it
abbrev pub first_of : List (List ℕ) → Option (List ℕ × List (List ℕ))
first_of [] = None
first_of (word ∷ words) = Some (word, words)

-- a bit
abbrev pub flag_of : List ℕ → Option Bool
flag_of word = if bytes_eq word (codes "0") then Some false else if bytes_eq word (codes "1") then Some true else None

-- the number below 2 ^ 32 whose decimal digits these are
abbrev pub number_of : List ℕ → Option ℕ
number_of word = reading.number_of 4294967295 word

-- the bytes of at least one pair of digits
abbrev pub hex_of : List ℕ → Option (List ℕ)
hex_of word = filled_of word

-- what stands behind `params`
unfoldable pub params_at : List (List ℕ) → Option (Format × List (List ℕ))
params_at words = do
  bit ← first_of words
  intdata ← flag_of bit.0
  number ← first_of bit.1
  wanted ← number_of number.0
  Some (formats.Params intdata wanted, number.1)

-- what stands behind `decode`: the name of a format
abbrev pub named : List ℕ → List (List ℕ) → Option (Format × List (List ℕ))
named name words =
    if bytes_eq name (codes "cdb") then Some (formats.Cdb, words)
    else if bytes_eq name (codes "sense") then Some (formats.Sense, words)
    else if bytes_eq name (codes "page") then Some (formats.Page, words)
    else if bytes_eq name (codes "params") then params_at words
    else None

unfoldable pub format_at : List (List ℕ) → Option (Format × List (List ℕ))
format_at words = do
  name ← first_of words
  named name.0 name.1

-- what stands behind a format: the bytes
unfoldable pub last_at : Format → List (List ℕ) → Option ToolCommand
last_at format words = do
  word ← single_of words
  bytes ← hex_of word
  Some (Decode format bytes)

-- what stands behind `decode`
unfoldable pub decode_at : List (List ℕ) → Option ToolCommand
decode_at words = do
  format ← format_at words
  last_at format.0 format.1

-- what stands behind `step`
abbrev pub step_at : List (List ℕ) → Option ToolCommand
step_at [] = Some (Run (Step false))
step_at (word ∷ []) = if bytes_eq word (codes "--trace") then Some (Run (Step true)) else None
step_at (word ∷ other ∷ words) = None

-- what stands behind `target`: nothing
abbrev pub target_at : List (List ℕ) → Option ToolCommand
target_at [] = Some (Run Target)
target_at (word ∷ words) = None

-- what stands behind a verb
abbrev pub told : List ℕ → List (List ℕ) → Option ToolCommand
told verb words =
    if bytes_eq verb (codes "step") then step_at words
    else if bytes_eq verb (codes "target") then target_at words
    else if bytes_eq verb (codes "decode") then decode_at words
    else None

unfoldable pub command_at : List (List ℕ) → Option ToolCommand
command_at words = do
  verb ← first_of words
  told verb.0 verb.1
