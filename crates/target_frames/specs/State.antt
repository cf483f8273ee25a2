-- What a reader of a stream knows.
use Rattle.std.specs.Prelude.{◌≡◌, ◌+◌, ◌<◌, ◌^◌, ℕ, List, [], ◌++◌, length, Option, Some, None}
use Rattle.target_frames.specs.declared.items.Item.{Item}
use Rattle.target_frames.specs.Frames.{End, Unfinished, Refused, Reads, all_told, spellings}

-- The number of targets, as soon as it is known; where the unfinished item begins; what stands behind the
-- items; and the items before a refused field that weren't taken yet.
pub record State : Type 0 where
  pub targets : Option ℕ
  pub at : ℕ
  pub end : End
  pub waiting : List Item

-- what stands behind the items, by the refused field and the unfinished item
abbrev pub end_of : Option ℕ → List ℕ → End
end_of None rest = Unfinished rest
end_of (Some byte) rest = Refused byte

-- how many bytes came of an item that isn't whole yet
abbrev pub unfinished : End → ℕ
unfinished (Unfinished rest) = length rest
unfinished (Refused byte) = 0

-- the bytes of that item
abbrev pub bytes_of : End → List ℕ
bytes_of (Unfinished rest) = rest
bytes_of (Refused byte) = []

-- no field is refused yet, so no items wait
abbrev pub IsReading : State → Type 0
IsReading s = s.end ≡ Unfinished (bytes_of s.end)

-- items wait only before a refused field
abbrev pub WaitsFor : End → List Item → Type 0
WaitsFor (Unfinished rest) waiting = waiting ≡ []
WaitsFor (Refused byte) waiting = Unit {0}

-- where so many further bytes come, a place in the stream is still a number of 64 bits
abbrev pub HasRoomAt : End → ℕ → ℕ → Type 0
HasRoomAt (Unfinished rest) at n = at + length rest + n < 2 ^ 64
HasRoomAt (Refused byte) at n = Unit {0}

abbrev pub HasRoom : State → ℕ → Type 0
HasRoom s n = HasRoomAt s.end s.at n

-- This is what a reader knows after a stream of which these items were handed out: the items of the stream are
-- these, and those that wait.
pub record Follows (stream : List ℕ) (given : List Item) (s : State) : Type 0 where
  pub reads : Reads stream (given ++ s.waiting) s.end
  pub targets : s.targets ≡ all_told None (given ++ s.waiting)
  pub at : s.at ≡ length (spellings (given ++ s.waiting))
  pub waits : WaitsFor s.end s.waiting
