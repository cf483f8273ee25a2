-- What a stream may have only so much of.
use Rattle.std.specs.Prelude.{ℕ, ◌*◌, nat_lt, if◌then◌else◌, List, [], ◌∷◌, length, Option, Some, None}
use Rattle.std.specs.List.{sum_by}
use Rattle.host_scripts.specs.BenchLimits.{moved_by_action, bench_media}
use Rattle.target_frames.specs.declared.items.Item.{Item}
use Rattle.target_frames.specs.declared.items.Item.TheVariants.{Opening, Frame}
use Rattle.target_service.specs.declared.findings.ServiceLimit.{ServiceLimit}
use Rattle.target_service.specs.declared.findings.ServiceLimit.TheVariants.{Media, Frames, Moved}
use Rattle.target_service.specs.Replies.{action_of}
use Rattle.target_service.specs.Answered.{bench_of}

-- the blocks that a frame moves over media of so many rows, as the line of a bench does
abbrev pub moved_by : ℕ → Item → ℕ
moved_by rows (Opening targets block buffer all) = 0
moved_by rows (Frame kind target cdb bytes) = moved_by_action rows (action_of kind cdb bytes)

abbrev pub moved_by_all : ℕ → List Item → ℕ
moved_by_all rows frames = sum_by (moved_by rows) frames

-- the first limit that so many frames pass, which move so many blocks: a million frames, and then 64 MiB
abbrev pub passed : ℕ → ℕ → ℕ → Option ServiceLimit
passed block frames moved =
    if nat_lt 1000000 frames then Some Frames
    else if nat_lt 67108864 (moved * block) then Some Moved
    else None

-- the first limit that these items of a stream pass; the media of all targets have at most 16 MiB
abbrev pub limit_in : List Item → Option ServiceLimit
limit_in [] = None
limit_in (Opening targets block buffer rows ∷ frames) =
    if nat_lt 16777216 (bench_media (bench_of targets block buffer rows)) then Some Media
    else passed block (length frames) (moved_by_all rows frames)
limit_in (Frame kind target cdb bytes ∷ items) = None
