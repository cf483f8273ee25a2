-- Laws of the stream that targets are served over.
use Rattle.std.specs.Prelude.{◌≡◌, ℕ, List, [], ◌++◌, length, Option, None}
use Rattle.target_frames.specs.declared.items.Item.{Item}
use Rattle.target_frames.specs.Frames.{End, Unfinished, Refused, Reads, ReadsFrom, IsSound, AreSound, all_told, spelling, spellings}

abbrev pub NoItemBeginsAnother : Type 0
NoItemBeginsAnother =
    (known : Option ℕ) (a b : Item) (x y : List ℕ) → IsSound known a → IsSound known b → spelling a ++ x ≡ spelling b ++ y
    → (a ≡ b) × (x ≡ y)

abbrev pub StreamsHaveOneReading : Type 0
StreamsHaveOneReading =
    (stream : List ℕ) (a b : List Item) (e f : End) → Reads stream a e → Reads stream b f → (a ≡ b) × (e ≡ f)

abbrev pub SoundItemsAreRead : Type 0
SoundItemsAreRead = (items : List Item) → AreSound None items → Reads (spellings items) items (Unfinished [])

abbrev pub PiecesJoin : Type 0
PiecesJoin =
    (first second rest : List ℕ) (a b : List Item) (end : End) → Reads first a (Unfinished rest)
    → ReadsFrom (all_told None a) (length (spellings a)) (rest ++ second) b end → Reads (first ++ second) (a ++ b) end

abbrev pub WholeItemsAreRead : Type 0
WholeItemsAreRead =
    (items all : List Item) (more : List ℕ) (end : End) → AreSound None items → Reads (spellings items ++ more) all end
    → (rest : List Item) × (all ≡ items ++ rest)

abbrev pub RefusalsStay : Type 0
RefusalsStay = (first second : List ℕ) (items : List Item) (byte : ℕ) → Reads first items (Refused byte) → Reads (first ++ second) items (Refused byte)
