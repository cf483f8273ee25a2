-- What is seen of a target, and that its disk is what its entries say.
use Rattle.std.specs.Prelude.{◌≡◌, ◌==◌, ◌≤◌, ◌+◌, ℕ, Bool, true, false, List, [], ◌∷◌, Option, None, is_some, IfSome, if◌then◌else◌}
use Rattle.std.specs.List.{AllByRecursion}
use Rattle.stripe_layout.specs.declared.mode.Mode.TheVariants.{Supervised}
use Rattle.xor_mode_page.specs.declared.pages.XorPage.{XorPage}
use Rattle.xor_buffers.specs.declared.held.HeldBlocks.{HeldBlocks}
use Rattle.xor_buffers.specs.Held.{overlap_of, held_blocks}
use Rattle.array_journal.specs.declared.entry.Entry.{Entry}
use Rattle.array_journal.specs.declared.event.Event.{Event}
use Rattle.array_journal.specs.declared.event.Event.TheVariants.{Gone, Fresh}
use Rattle.array_journal.specs.declared.setting.Setting.{Setting}
use Rattle.array_journal.specs.Media.{media, held}
use Rattle.array_journal.specs.Entries.{count_at}
use Rattle.xor_target.specs.declared.limits.TargetLimits.{TargetLimits}
use Rattle.xor_target.specs.Disks.{DiskState}
use Rattle.xor_target.specs.Logs.{Logged}
use Rattle.xor_target.specs.declared.waiting.Waiting.{Waiting}
use Rattle.xor_target.specs.Gathers.{IsUnderWayIf}
use Rattle.xor_target.specs.Waits.{waiting_of, sets_aside, row_aside, count_aside, overlaps_aside, aside_blocks}

-- A target: its number, how many targets there are, the bytes of a block, its rows, the blocks that its buffer may hold,
-- its first mode page and the one that it has now, its entries with the newest first, the blocks that it holds, the bytes
-- of its medium where they are told, how often that failed, and the commands that wait for other targets.
pub record TargetState : Type 0 where
  pub number : ℕ
  pub targets : ℕ
  pub block : ℕ
  pub rows : ℕ
  pub buffer : ℕ
  pub first : XorPage
  pub page : XorPage
  pub past : List Entry
  pub held : List HeldBlocks
  pub contents : Option (List ℕ)
  pub faults : ℕ
  pub waiting : List Waiting

-- a target by its disk and its log
abbrev pub state_of : ℕ → XorPage → XorPage → List Waiting → DiskState → Logged → TargetState
state_of targets first page waiting disk log = record {
  number = log.number;
  targets = targets;
  block = disk.block;
  rows = disk.rows;
  buffer = disk.buffer.capacity;
  first = first;
  page = page;
  past = log.past;
  held = disk.buffer.list;
  contents = disk.contents;
  faults = disk.faults;
  waiting = waiting;
}

-- what of it decides whether a CDB is admitted, besides its page
abbrev pub limits_of : TargetState → TargetLimits
limits_of t = record { number = t.number; targets = t.targets; block = t.block; rows = t.rows }

-- an order of the owner isn't answered yet, since another target is asked for it
abbrev pub is_waiting : TargetState → ℕ → Bool
is_waiting t owner = is_some (waiting_of owner t.waiting)

-- The setting by which a target alone is told from its entries: its rows are one stripe. What a medium and a buffer hold
-- hangs on the block and the rows alone.
abbrev pub target_setting : TargetState → Setting
target_setting t = record {
  geometry = record { targets = t.targets; block = t.block; areas = record { unit = t.rows; stripes = 1 } ∷ [] };
  buffer = t.buffer;
  mode = Supervised;
}

-- what the medium holds by the entries
abbrev pub recorded_media : TargetState → List ℕ
recorded_media t = media (target_setting t) t.number t.past

-- what the buffer holds by the entries
abbrev pub recorded_held : TargetState → List HeldBlocks
recorded_held t = held (target_setting t) t.number t.past

-- the event tells that the medium failed: a loss of no call
abbrev pub is_failure : Event → Bool
is_failure (Gone life call commands) = call == 0
is_failure _ = false

-- the medium failed, and no fresh disk came since
abbrev pub has_failed_after : Event → Bool → Bool
has_failed_after (Gone life call commands) before = if call == 0 then true else before
has_failed_after (Fresh call swap) before = false
has_failed_after _ before = before

abbrev pub has_failed : ℕ → List Entry → Bool
has_failed i [] = false
has_failed i (e ∷ past) = if e.lock == i + 1 then has_failed_after e.event (has_failed i past) else has_failed i past

-- The disk is what the entries say. What a failed medium holds isn't known until a fresh disk comes.
pub record IsRecorded (t : TargetState) (bytes : List ℕ) : Type 0 where
  pub held : t.held ≡ recorded_held t
  pub media : has_failed t.number t.past ≡ false → bytes ≡ recorded_media t

-- rows that are set aside are apart from those of the others behind
abbrev pub AreApart : List Waiting → Type 0
AreApart [] = Unit {0}
AreApart (w ∷ ws) = (sets_aside w.gathering ≡ true → overlaps_aside (row_aside w.gathering) (count_aside w.gathering) ws ≡ false) × AreApart ws

-- What is set aside is free and finds room: no row of it is held, none is set aside twice, and the blocks that are held and
-- those that are set aside are no more than the buffer may hold.
pub record IsAsideFree (block capacity : ℕ) (held : List HeldBlocks) (ws : List Waiting) : Type 0 where
  pub free : AllByRecursion (λ (w : Waiting). sets_aside w.gathering ≡ true → overlap_of block (row_aside w.gathering) (count_aside w.gathering) held ≡ None) ws
  pub apart : AreApart ws
  pub room : held_blocks block held + aside_blocks ws ≤ capacity

-- A target whose medium tells its bytes is what its entries say, and no more losses of no call stand here than the medium
-- counts failures.
pub record IsTarget (t : TargetState) : Type 0 where
  pub some : 1 ≤ t.block
  pub recorded : IfSome t.contents (IsRecorded t)
  pub failures : count_at (t.number + 1) is_failure t.past ≤ t.faults
  pub aside : IsAsideFree t.block t.buffer t.held t.waiting
  pub gathers : AllByRecursion (λ (w : Waiting). IsUnderWayIf t.block t.rows w.owner w.gathering) t.waiting
