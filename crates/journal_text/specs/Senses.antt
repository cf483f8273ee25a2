-- Why a piece was refused, as one word.
use Rattle.std.specs.Prelude.{ℕ, ◌≡◌, ◌<◌, ◌+◌, ◌-◌, ◌*◌, ◌&&◌, nat_le, true, if◌then◌else◌, List, [], ◌∷◌, Option, Some, None, codes}
use Rattle.std.specs.Str.{bytes_eq}
use Rattle.std.proofs.lemmas.Option.{none-some}
use Rattle.sense_data.specs.declared.senses.Sense.{Sense}
use Rattle.sense_data.specs.Illegal.{in_cdb, illegal}
use Rattle.array_journal.specs.declared.event.Why.{Why}
use Rattle.array_journal.specs.declared.event.Why.TheVariants.{Illegal, Medium, NotReady, Unfitted, Present, Listed, Second, Clean, Absent, NotLost}
use Rattle.journal_text.specs.Traces.{why_text}
use Rattle.text_fields.specs.Reading.{◌>>=◌, cut_at, stripped, number_of}
use Rattle.journal_text.specs.Steps.{below, same}
use Rattle.journal_text.specs.Words.{spelt_of}

-- the value of one hexadecimal digit, in upper case
abbrev pub upper_of : ℕ → Option ℕ
upper_of c =
    if nat_le 48 c && nat_le c 57 then Some (c - 48)
    else if nat_le 65 c && nat_le c 70 then Some (c - 55)
    else None

-- a sense key: one digit
unfoldable pub key_of : List ℕ → Option ℕ
key_of [] = None
key_of (c ∷ []) = upper_of c
key_of (c ∷ d ∷ rest) = None

-- a code: two digits
unfoldable pub code_of : List ℕ → Option ℕ
code_of [] = None
code_of (c ∷ []) = None
code_of (c ∷ d ∷ []) = do
  high ← upper_of c
  low ← upper_of d
  Some (high * 16 + low)
code_of (c ∷ d ∷ e ∷ rest) = None

-- a sense of key and codes alone
abbrev pub plain_sense : (key asc ascq : ℕ) → key < 16 → Sense
plain_sense key asc ascq small = record {
  key = key;
  information = None;
  specific = 0;
  asc = asc;
  ascq = ascq;
  fru = 0;
  pointer = None;
  in_range = small;
  illegal = λ p e. absurd (none-some p e);
}

-- a sense with a byte of the CDB that is in error, which only the key 5 has
unfoldable pub pointed_of : ℕ → ℕ → ℕ → List ℕ → Option Sense
pointed_of key asc ascq text = do
  five ← same key 5
  byte ← number_of 65535 text
  Some (illegal asc ascq (Some (in_cdb byte)))

-- a sense, with a dash for no byte in error
unfoldable pub sense_with : ℕ → ℕ → ℕ → List ℕ → Option Sense
sense_with key asc ascq text =
    if bytes_eq text (codes "-") then (below key 16 >>= λ small. Some (plain_sense key asc ascq small))
    else pointed_of key asc ascq text

-- a sense by its four texts
unfoldable pub sense_made : List ℕ → List ℕ → List ℕ → List ℕ → Option Sense
sense_made key asc ascq pointer = do
  key ← key_of key
  asc ← code_of asc
  ascq ← code_of ascq
  sense_with key asc ascq pointer

-- a sense by its four texts with colons between them
unfoldable pub sense_of : List ℕ → Option Sense
sense_of text = do
  key ← cut_at 58 text
  asc ← cut_at 58 key.1
  ascq ← cut_at 58 asc.1
  sense_made key.0 asc.0 ascq.0 ascq.1

-- a reason that is one word of a few
unfoldable pub plain_why_of : List ℕ → Option Why
plain_why_of word = spelt_of why_text (Medium ∷ NotReady ∷ Unfitted ∷ Present ∷ Listed ∷ Second ∷ Clean ∷ Absent ∷ NotLost ∷ []) word

-- a sense where one stands, or else the other
abbrev pub illegal_or : Option (List ℕ) → Option Why → Option Why
illegal_or (Some text) other = sense_of text >>= λ sense. Some (Illegal sense)
illegal_or None other = other

unfoldable pub why_of : List ℕ → Option Why
why_of word = illegal_or (stripped (codes "illegal:") word) (plain_why_of word)
