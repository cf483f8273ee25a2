-- The fields of an opening and of a frame's head, and which of them is wrong first.
use Rattle.std.specs.Prelude.{◌≡◌, ◌+◌, ◌<◌, ◌≤◌, ℕ, Bool, ◌==◌, ◌&&◌, ◌||◌, nat_le, nat_lt, if◌then◌else◌, List, [], ◌∷◌, length, take, Option, Some, None}
use Rattle.blocks_core.specs.Lists.{slice}
use Rattle.cdb_fields.specs.Fields.{number_at}
use Rattle.target_frames.specs.declared.items.Item.{Item}
use Rattle.target_frames.specs.declared.items.Item.TheVariants.{Opening, Frame}
use Rattle.target_frames.specs.declared.heads.OpeningHead.{OpeningHead}
use Rattle.target_frames.specs.declared.heads.FrameHead.{FrameHead}
use Rattle.target_frames.specs.declared.front.Front.{Front}
use Rattle.target_frames.specs.declared.front.Front.TheVariants as front

-- ---- fields

-- the fields of the 16 bytes of an opening
abbrev pub opening_head : List ℕ → OpeningHead
opening_head bytes = record {
  magic = number_at 0 4 bytes;
  version = number_at 4 1 bytes;
  targets = number_at 5 1 bytes;
  zero = number_at 6 2 bytes;
  block = number_at 8 2 bytes;
  buffer = number_at 10 2 bytes;
  rows = number_at 12 4 bytes;
}

-- those of the 8 bytes before a frame's CDB
abbrev pub frame_head : List ℕ → FrameHead
frame_head bytes = record {
  kind = number_at 0 1 bytes;
  target = number_at 1 1 bytes;
  cdb_len = number_at 2 1 bytes;
  zero = number_at 3 1 bytes;
  data_len = number_at 4 4 bytes;
}

-- each field of an opening that can be wrong: the place of its first byte, and whether it is right
abbrev pub opening_fields : OpeningHead → List (ℕ × Bool)
opening_fields h =
    (0, h.magic == 0x584f5254) ∷ (4, h.version == 1) ∷ (5, nat_le 1 h.targets && nat_le h.targets 16) ∷ (6, h.zero == 0)
    ∷ (8, nat_le 1 h.block && nat_le h.block 4096) ∷ (12, nat_le 1 h.rows && nat_le h.rows 65536) ∷ []

-- the same for a frame's head, where there are so many targets: a CDB and data belong to a command alone
abbrev pub frame_fields : ℕ → FrameHead → List (ℕ × Bool)
frame_fields targets h =
    (0, nat_le 1 h.kind && nat_le h.kind 5) ∷ (1, nat_lt h.target targets) ∷ (2, h.kind == 1 || h.cdb_len == 0) ∷ (3, h.zero == 0)
    ∷ (4, nat_le h.data_len (if h.kind == 1 then 16777216 else 0)) ∷ []

-- the place of the first field that isn't right
abbrev pub first_wrong : List (ℕ × Bool) → Option ℕ
first_wrong [] = None
first_wrong (field ∷ fields) = if field.1 then first_wrong fields else Some field.0

-- The first field that isn't right where an item is to begin, as soon as all of its head is there: an
-- opening where no number of targets is known, a frame otherwise.
abbrev pub offence : Option ℕ → List ℕ → Option ℕ
offence None bytes = if nat_lt (length bytes) 16 then None else first_wrong (opening_fields (opening_head (take 16 bytes)))
offence (Some targets) bytes = if nat_lt (length bytes) 8 then None else first_wrong (frame_fields targets (frame_head (take 8 bytes)))

-- the bytes of a frame with this head
abbrev pub frame_length : FrameHead → ℕ
frame_length h = 8 + h.cdb_len + h.data_len

-- how many bytes the item has that begins here, or its head, as long as that isn't there
abbrev pub due : Option ℕ → List ℕ → ℕ
due None bytes = 16
due (Some targets) bytes = if nat_lt (length bytes) 8 then 8 else frame_length (frame_head (take 8 bytes))

-- ---- the item with these fields

abbrev pub opening_of : OpeningHead → Item
opening_of h = Opening h.targets h.block h.buffer h.rows

-- with the bytes behind the head
abbrev pub frame_of : FrameHead → List ℕ → Item
frame_of h bytes = Frame h.kind h.target (slice bytes 8 h.cdb_len) (slice bytes (8 + h.cdb_len) h.data_len)

abbrev pub item_of : Option ℕ → List ℕ → Item
item_of None bytes = opening_of (opening_head (take 16 bytes))
item_of (Some targets) bytes = frame_of (frame_head (take 8 bytes)) bytes

-- what bytes begin with
abbrev pub BeginsWith : Option ℕ → List ℕ → Front → Type 0
BeginsWith known bytes front.Unfinished = (offence known bytes ≡ None) × (length bytes < due known bytes)
BeginsWith known bytes (front.Wrong field) = offence known bytes ≡ Some field
BeginsWith known bytes (front.Whole item len) =
    (offence known bytes ≡ None) × (len ≡ due known bytes) × (len ≤ length bytes) × (item ≡ item_of known bytes)
