-- The stream that targets are served over: an opening of 16 bytes, and frames behind it. The highest byte of
-- a number stands first.
use Rattle.std.specs.Prelude.{◌≡◌, ◌≢◌, ◌+◌, ◌<◌, ◌≤◌, ◌^◌, ℕ, List, [], ◌∷◌, ◌++◌, length, Option, Some, None}
use Rattle.std.specs.List.{flat_map}
use Rattle.std.specs.Int.{w16, w32, to_be_bytes}
use Rattle.target_frames.specs.declared.items.Item.{Item}
use Rattle.target_frames.specs.declared.items.Item.TheVariants.{Opening, Frame}
use Rattle.target_frames.specs.Heads.{offence, due}

-- ---- items

-- The bytes that spell an item. An opening begins with `XORT` and the version, a frame with its kind, its
-- target and the lengths of its CDB and of its data.
abbrev pub spelling : Item → List ℕ
spelling (Opening targets block buffer rows) =
    to_be_bytes w32 0x584f5254 ++ 1 ∷ targets ∷ 0 ∷ 0 ∷ to_be_bytes w16 block ++ to_be_bytes w16 buffer ++ to_be_bytes w32 rows
spelling (Frame kind target cdb bytes) =
    kind ∷ target ∷ length cdb ∷ 0 ∷ to_be_bytes w32 (length bytes) ++ cdb ++ bytes

abbrev pub spellings : List Item → List ℕ
spellings items = flat_map spelling items

-- the ranges of an opening's numbers
pub record IsOpening (targets block buffer rows : ℕ) : Type 0 where
  pub some_targets : 1 ≤ targets
  pub few_targets : targets ≤ 16
  pub some_block : 1 ≤ block
  pub small_block : block ≤ 4096
  pub small_buffer : buffer < 2 ^ 16
  pub some_rows : 1 ≤ rows
  pub few_rows : rows ≤ 65536

-- the ranges of a frame, where there are so many targets; only a command has a CDB and data
pub record IsFrame (targets kind target : ℕ) (cdb bytes : List ℕ) : Type 0 where
  pub some_kind : 1 ≤ kind
  pub known_kind : kind ≤ 5
  pub known_target : target < targets
  pub short_cdb : length cdb < 256
  pub few_bytes : length bytes ≤ 16777216
  pub no_cdb : kind ≢ 1 → cdb ≡ []
  pub no_bytes : kind ≢ 1 → bytes ≡ []

-- An item may stand where so many targets are known: an opening where none are yet, a frame afterwards.
abbrev pub IsSound : Option ℕ → Item → Type 0
IsSound None (Opening targets block buffer rows) = IsOpening targets block buffer rows
IsSound None (Frame kind target cdb bytes) = ⊥
IsSound (Some targets) (Opening t block buffer rows) = ⊥
IsSound (Some targets) (Frame kind target cdb bytes) = IsFrame targets kind target cdb bytes

-- how many targets are known behind an item
abbrev pub told : Option ℕ → Item → Option ℕ
told known (Opening targets block buffer rows) = Some targets
told known (Frame kind target cdb bytes) = known

abbrev pub all_told : Option ℕ → List Item → Option ℕ
all_told known [] = known
all_told known (item ∷ items) = all_told (told known item) items

-- items that may stand behind one another
abbrev pub AreSound : Option ℕ → List Item → Type 0
AreSound known [] = Unit {0}
AreSound known (item ∷ items) = IsSound known item × AreSound (told known item) items

-- ---- a stream

-- what stands behind the items of a stream: bytes of an item that isn't whole yet, or a field that is refused,
-- with its place in the stream
pub data End : Type 0 where
  Unfinished : List ℕ → End
  Refused : ℕ → End

-- Behind items that end at a place of the stream stands this: less than an item whose fields are right as far
-- as they can be told, or a head whose first field that isn't right is at that byte.
abbrev pub Ends : Option ℕ → ℕ → List ℕ → End → Type 0
Ends known at more (Unfinished rest) = (more ≡ rest) × (offence known more ≡ None) × (length more < due known more)
Ends known at more (Refused byte) = (field : ℕ) × (offence known more ≡ Some field) × (byte ≡ at + field)

-- The bytes from a place of the stream on, where so many targets are known, are these items and then such
-- an end.
pub record ReadsFrom (known : Option ℕ) (at : ℕ) (bytes : List ℕ) (items : List Item) (end : End) : Type 0 where
  pub more : List ℕ
  pub spelled : bytes ≡ spellings items ++ more
  pub sound : AreSound known items
  pub ends : Ends (all_told known items) (at + length (spellings items)) more end

-- a whole stream is these items and then such an end
abbrev pub Reads : List ℕ → List Item → End → Type 0
Reads stream items end = ReadsFrom None 0 stream items end
