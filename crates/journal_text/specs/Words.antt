-- The values that words spell: names of entries, and one word of a few.
use Rattle.std.specs.Prelude.{ℕ, Bool, true, false, if◌then◌else◌, List, [], ◌∷◌, find, Option, Some, None, codes}
use Rattle.std.specs.Str.{bytes_eq}
use Rattle.array_journal.specs.declared.at.At.{At}
use Rattle.array_journal.specs.declared.event.What.{What}
use Rattle.array_journal.specs.declared.event.What.TheVariants.{Buffers, Request}
use Rattle.array_journal.specs.declared.task.Kind.{Kind}
use Rattle.array_journal.specs.declared.task.Kind.TheVariants.{Read, Update, DataOnly, DegradedRead, DegradedWrite, Rebuild, Resync}
use Rattle.journal_text.specs.Traces.{flag_text, kind_text, what_text}
use Rattle.text_fields.specs.Reading.{◌>>=◌, cut_at, number_of}

-- ---- names

-- a name of an entry
unfoldable pub at_of : List ℕ → Option At
at_of text = do
  cut ← cut_at 46 text
  stamp ← number_of 18446744073709551615 cut.0
  lock ← number_of 255 cut.1
  Some (record { stamp = stamp; lock = lock })

-- a name, or a dash for none
unfoldable pub cause_of : List ℕ → Option (Option At)
cause_of text =
    if bytes_eq text (codes "-") then Some None
    else at_of text >>= λ at. Some (Some at)

-- ---- one word of a few

-- the first of some values that is spelt so
abbrev pub spelt_of : {A : Type 0} → (A → List ℕ) → List A → List ℕ → Option A
spelt_of text values word = find (λ value. bytes_eq word (text value)) values

unfoldable pub flag_of : List ℕ → Option Bool
flag_of word = spelt_of flag_text (false ∷ true ∷ []) word

unfoldable pub what_of : List ℕ → Option What
what_of word = spelt_of what_text (Buffers ∷ Request ∷ []) word

unfoldable pub kind_of : List ℕ → Option Kind
kind_of word = spelt_of kind_text (Read ∷ Update ∷ DataOnly ∷ DegradedRead ∷ DegradedWrite ∷ Rebuild ∷ Resync ∷ []) word
