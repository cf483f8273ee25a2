-- How the answer of a command is told.
use Rattle.std.specs.Prelude.{ℕ, List, [], ◌∷◌, ◌++◌, Option, Some, None, codes}
use Rattle.std.specs.Option.{option_map}
use Rattle.std.specs.Fmt.{decimal}
use Rattle.sense_data.specs.declared.senses.Pointer.{Pointer}
use Rattle.sense_data.specs.declared.senses.Sense.{Sense}
use Rattle.text_fields.specs.Spelling.{hex, upper_nibble, upper_byte}
use Rattle.answer_text.specs.declared.check.Check.{Check}

-- sense key, additional sense code and qualifier, without a pointer
abbrev pub plain_check : ℕ → ℕ → ℕ → Check
plain_check key asc ascq = record { key = key; asc = asc; ascq = ascq; byte = None }

abbrev pub sense_check : Sense → Check
sense_check sense = record { key = sense.key; asc = sense.asc; ascq = sense.ascq; byte = option_map (λ (p : Pointer). p.byte) sense.pointer }

-- where the sense points
abbrev pub byte_text : Option ℕ → List ℕ
byte_text None = []
byte_text (Some byte) = codes " byte " ++ decimal byte

abbrev pub check_text : Check → List ℕ
check_text c = codes "check " ++ (upper_nibble c.key ∷ 32 ∷ (upper_byte c.asc ++ (47 ∷ (upper_byte c.ascq ++ byte_text c.byte))))

-- GOOD, and the bytes read where there are some
abbrev pub good_text : List ℕ → List ℕ
good_text [] = codes "good"
good_text (b ∷ bytes) = codes "good " ++ hex (b ∷ bytes)
