-- The names of events: what is read is spelt so, and what is spelt so is read.
use Rattle.std.proofs.Common.{◌≡◌, ℕ, true, List, [], ◌∷◌, Some, refl}
use Rattle.journal_text.specs.Traces.{field}
use Rattle.journal_text.specs.declared.reading.names.EventName.{EventName}
use Rattle.journal_text.specs.declared.reading.names.EventName.TheVariants as titles
use Rattle.journal_text.specs.Lines.{field_of, name_text, name_of}
use Rattle.text_fields.proofs.Cuts.{above}
use Rattle.journal_text.proofs.Parts.{IsPart, field-part}
use Rattle.journal_text.proofs.WordLaws.{Always, spelt-takes}

-- ---- names of events

name-again : (name : EventName) → name_of (name_text name) ≡ Some name
unfolding name_of
name-again titles.Fetch = refl
name-again titles.Put = refl
name-again titles.Diff = refl
name-again titles.Take = refl
name-again titles.Fold = refl
name-again titles.Hold = refl
name-again titles.Shut = refl
name-again titles.Gone = refl
name-again titles.Wiped = refl
name-again titles.Fresh = refl
name-again titles.Open = refl
name-again titles.Close = refl
name-again titles.Spoil = refl
name-again titles.Note = refl
name-again titles.Swap = refl
name-again titles.Refuse = refl

name-takes : (word : List ℕ) (name : EventName) → name_of word ≡ Some name → word ≡ name_text name
unfolding name_of
name-takes word name e =
    spelt-takes name_text (titles.Fetch ∷ titles.Put ∷ titles.Diff ∷ titles.Take ∷ titles.Fold ∷ titles.Hold ∷ titles.Shut ∷ titles.Gone ∷ titles.Wiped ∷ titles.Fresh ∷ titles.Open ∷ titles.Close ∷ titles.Spoil ∷ titles.Note ∷ titles.Swap ∷ titles.Refuse ∷ []) word name e

name-solid : (name : EventName) → above 32 (name_text name) ≡ true
name-solid titles.Fetch = refl
name-solid titles.Put = refl
name-solid titles.Diff = refl
name-solid titles.Take = refl
name-solid titles.Fold = refl
name-solid titles.Hold = refl
name-solid titles.Shut = refl
name-solid titles.Gone = refl
name-solid titles.Wiped = refl
name-solid titles.Fresh = refl
name-solid titles.Open = refl
name-solid titles.Close = refl
name-solid titles.Spoil = refl
name-solid titles.Note = refl
name-solid titles.Swap = refl
name-solid titles.Refuse = refl

pub name-part : IsPart EventName (λ name. field (name_text name)) (Always EventName) (field_of name_of)
name-part = field-part EventName name_text (Always EventName) name_of (record { takes = λ word v e. (name-takes word v e, tt); again = λ v h. name-again v; solid = λ v h. name-solid v })
