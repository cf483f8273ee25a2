-- Which words spell a command.
use Rattle.std.specs.Prelude.{ℕ, ◌≡◌, ◌≢◌, ◌<◌, ◌^◌, true, false, List, [], ◌∷◌, ◌++◌, codes, if◌then◌else◌}
use Rattle.std.specs.List.{AllByRecursion}
use Rattle.std.specs.Fmt.{decimal}
use Rattle.text_fields.specs.Spelling.{hex}
use Rattle.xor_cli.specs.declared.decoding.values.Format.{Format}
use Rattle.xor_cli.specs.declared.decoding.values.Format.TheVariants as formats
use Rattle.xor_cli.specs.declared.words.RunCommand.{RunCommand}
use Rattle.xor_cli.specs.declared.words.RunCommand.TheVariants.{Step, Target}
use Rattle.xor_cli.specs.declared.words.ToolCommand.{ToolCommand}
use Rattle.xor_cli.specs.declared.words.ToolCommand.TheVariants.{Run, Decode}

-- the words that name a format; a parameter list goes with the INTDATA bit, and with the number of bytes that intermediate
-- data has
abbrev pub format_words : Format → List (List ℕ)
format_words formats.Cdb = codes "cdb" ∷ []
format_words formats.Sense = codes "sense" ∷ []
format_words formats.Page = codes "page" ∷ []
format_words (formats.Params intdata wanted) = codes "params" ∷ (if intdata then codes "1" else codes "0") ∷ decimal wanted ∷ []

-- what a format's number may be
abbrev pub IsFormat : Format → Type 0
IsFormat formats.Cdb = Unit {0}
IsFormat formats.Sense = Unit {0}
IsFormat formats.Page = Unit {0}
IsFormat (formats.Params intdata wanted) = wanted < 2 ^ 32

-- at least one byte
abbrev pub IsData : List ℕ → Type 0
IsData bytes = (bytes ≢ []) × AllByRecursion (λ b. b < 256) bytes

-- the words of a run: of a script, without its trace and with it, and of a bench
abbrev pub run_words : RunCommand → List (List ℕ)
run_words (Step false) = codes "step" ∷ []
run_words (Step true) = codes "step" ∷ codes "--trace" ∷ []
run_words Target = codes "target" ∷ []

-- the words spell this command
abbrev pub SpellsToolCommand : List (List ℕ) → ToolCommand → Type 0
SpellsToolCommand words (Run run) = words ≡ run_words run
SpellsToolCommand words (Decode format bytes) = (words ≡ codes "decode" ∷ (format_words format ++ hex bytes ∷ [])) × IsFormat format × IsData bytes

-- they spell no command
abbrev pub SpellsNoToolCommand : List (List ℕ) → Type 0
SpellsNoToolCommand words = (command : ToolCommand) → SpellsToolCommand words command → ⊥

-- they spell some command
abbrev pub IsCommand : List (List ℕ) → Type 0
IsCommand words = (command : ToolCommand) × SpellsToolCommand words command

-- they ask for this run
abbrev pub AskRun : RunCommand → List (List ℕ) → Type 0
AskRun run words = SpellsToolCommand words (Run run)

-- they ask for some run, and so for reading the source
abbrev pub AskReading : List (List ℕ) → Type 0
AskReading words = (run : RunCommand) × AskRun run words
