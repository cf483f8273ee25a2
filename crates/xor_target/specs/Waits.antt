-- The commands that wait at a target for what others answer to their requests, in the order in which they began.
use Rattle.std.specs.Prelude.{◌≡◌, ◌<◌, ◌+◌, ◌==◌, ◌||◌, ◌&&◌, not, nat_lt, ℕ, Bool, false, List, [], ◌∷◌, filter, length, Option, Some, None, option_map, is_none, if◌then◌else◌}
use Rattle.std.specs.List.{find, list_any}
use Rattle.sbc_cdbs.specs.Kinds.{is_kept}
use Rattle.array_journal.specs.declared.at.At.{At}
use Rattle.regen_rebuild.specs.Gatherings.{size}
use Rattle.xor_target.specs.Admission.{row_of, count_of}
use Rattle.xor_target.specs.Gathers.{GatheringState, accepted}
use Rattle.xor_target.specs.declared.waiting.Waiting.{Waiting}

-- those that wait, and how many more there is room for, so that one more takes no memory
pub record WaitingRoom : Type 0 where
  pub list : List Waiting
  pub room : ℕ

-- the first command of an owner that waits
abbrev pub waiting_of : ℕ → List Waiting → Option Waiting
waiting_of owner ws = find (λ w. w.owner == owner) ws

-- a command has sent its delta, and gathers nothing
abbrev pub sends : Waiting → Bool
sends w = is_none w.gathering

-- those of other owners
abbrev pub without_owner : ℕ → List Waiting → List Waiting
without_owner owner ws = filter (λ w. not (w.owner == owner)) ws

-- those that gather nothing
abbrev pub without_gatherings : List Waiting → List Waiting
without_gatherings ws = filter sends ws

-- those of other owners, and those that gather nothing
abbrev pub without_gathering : ℕ → List Waiting → List Waiting
without_gathering owner ws = filter (λ w. not (w.owner == owner) || sends w) ws

-- the command with the blocks of one source more, and the entries that it has made by then
abbrev pub accepting : List At → List ℕ → Waiting → Waiting
accepting made bytes w = record w { made = made; gathering = option_map (λ g. accepted g bytes) w.gathering }

-- the same of the first command of an owner
abbrev pub with_source : ℕ → List At → List ℕ → List Waiting → List Waiting
with_source owner made bytes [] = []
with_source owner made bytes (w ∷ ws) = if w.owner == owner then accepting made bytes w ∷ ws else w ∷ with_source owner made bytes ws

-- a gathering asks a source, and these are as many bytes as its blocks have
pub record CanAccept (bytes : List ℕ) (g : GatheringState) : Type 0 where
  pub asks : g.answered < length g.sources
  pub size : length bytes ≡ size g.gather

-- ---- rows and room that are set aside

-- a gathering sets its rows aside whose command will hold them
abbrev pub sets_aside : Option GatheringState → Bool
sets_aside None = false
sets_aside (Some g) = is_kept g.admitted.command

-- the first of its rows, and how many they are
abbrev pub row_aside : Option GatheringState → ℕ
row_aside None = 0
row_aside (Some g) = row_of g.admitted.command

abbrev pub count_aside : Option GatheringState → ℕ
count_aside None = 0
count_aside (Some g) = if is_kept g.admitted.command then count_of g.admitted.command else 0

-- one of so many rows from a row on is set aside by it
abbrev pub has_aside : ℕ → ℕ → Waiting → Bool
has_aside row count w =
    sets_aside w.gathering && (nat_lt (row_aside w.gathering) (row + count) && nat_lt row (row_aside w.gathering + count_aside w.gathering))

-- one of so many rows from a row on is set aside
abbrev pub overlaps_aside : ℕ → ℕ → List Waiting → Bool
overlaps_aside row count ws = list_any (has_aside row count) ws

-- how many blocks are set aside
abbrev pub aside_blocks : List Waiting → ℕ
aside_blocks [] = 0
aside_blocks (w ∷ ws) = count_aside w.gathering + aside_blocks ws
