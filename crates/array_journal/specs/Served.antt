-- What a target can answer to an act that is due: past is a run so far, with the newest entry first.
use Rattle.std.specs.List.{AllByRecursion}
use Rattle.std.specs.Prelude.{◌≡◌, ◌&&◌, ◌≤◌, ◌+◌, ℕ, Bool, true, false, List, length, Some}
use Rattle.stripe_layout.specs.declared.mode.Mode.{Mode}
use Rattle.stripe_layout.specs.Layout.{rows_of, unit_rows}
use Rattle.stripe_layout.specs.Modes.{takes_delta}
use Rattle.sbc_cdbs.specs.declared.descriptor.Cdb.{Cdb}
use Rattle.array_journal.specs.declared.at.At.{At}
use Rattle.array_journal.specs.declared.entry.Entry.{Entry}
use Rattle.array_journal.specs.declared.event.Event.TheVariants.{Diff, Hold, Open}
use Rattle.array_journal.specs.declared.setting.Setting.{Setting}
use Rattle.array_journal.specs.declared.task.Task.{Task}
use Rattle.array_journal.specs.Entries.{entry_at, some_at}
use Rattle.array_journal.specs.Commands.{is_open}
use Rattle.array_journal.specs.declared.act.Act.{Act}
use Rattle.array_journal.specs.declared.act.Act.TheVariants.{Fetches, Puts, Diffs, Takes, Folds, Holds}
use Rattle.array_journal.specs.Acts.{has_act, is_act, task_bytes}
use Rattle.xor_buffers.specs.declared.held.HeldBlocks.{HeldBlocks}
use Rattle.xor_buffers.specs.Held.{rows_held, held_blocks}
use Rattle.array_journal.specs.Media.{held}
use Rattle.array_journal.specs.Deltas.{covers, delta_at}
use Rattle.array_journal.specs.May.{freshes_after}
use Rattle.array_journal.specs.Run.{Grows, IsSetting}
use Rattle.array_journal.specs.Laws.{releases}

-- an act of an open command that is due at target i: its task has the act there, and it wasn't made yet
pub record IsDue (s : Setting) (past : List Entry) (i c : ℕ) (opened : At) (task : Task) (act : Act) : Type 0 where
  pub in_book : opened.lock ≡ 0
  pub opening : entry_at opened past ≡ Some (Open c task)
  pub open_still : is_open c past ≡ true
  pub of_task : has_act s act task i ≡ true
  pub once : some_at (i + 1) (is_act act c) past ≡ false

-- whether an act fills a buffer: a gathering does, and a diff whose delta is to be taken
abbrev pub fills_buffer : Mode → Act → Bool
fills_buffer mode Diffs = takes_delta mode
fills_buffer mode Holds = true
fills_buffer mode Fetches = false
fills_buffer mode Puts = false
fills_buffer mode Takes = false
fills_buffer mode Folds = false

-- the rows of a task are none of those that are held
abbrev pub IsApartFrom : Setting → Task → HeldBlocks → Type 0
IsApartFrom s task h = (r : ℕ) → (covers s.geometry.block task.row (task_bytes s task) r && covers s.geometry.block h.row (length h.bytes) r) ≡ false

-- Nothing but a lost disk, a shut, or a want of memory stands in the way of an act that is due: no disk came that is too
-- new for its command; its rows are in range, and no more than a unit; and where it fills the buffer, none of its rows
-- is held and there is room for all of them.
pub record CanBeMade (s : Setting) (past : List Entry) (i : ℕ) (opened : At) (task : Task) (act : Act) : Type 0 where
  pub same_life : freshes_after i opened past ≡ false
  pub in_range : task.row + task.count ≤ rows_of s.geometry
  pub short : task.count ≤ unit_rows s.geometry task.stripe
  pub unheld : fills_buffer s.mode act ≡ true → AllByRecursion (IsApartFrom s task) (held s i past)
  pub room : fills_buffer s.mode act ≡ true → held_blocks s.geometry.block (held s i past) + task.count ≤ s.buffer

abbrev pub NoOtherAnswerLaw : Type 0
NoOtherAnswerLaw =
    (s : Setting) (i c : ℕ) (opened : At) (task : Task) (act : Act) (past : List Entry) → IsSetting s → Grows s past → IsDue s past i c opened task act →
    CanBeMade s past i opened task act

-- A take finds what was held for it: the delta of its command's diff, or what was gathered, unless that was released.
abbrev pub DeltaFoundLaw : Type 0
DeltaFoundLaw =
    (s : Setting) (i c row : ℕ) (name opened : At) (cdb : Cdb) (bytes : List ℕ) (sent dropped back : Bool) (past : List Entry) → IsSetting s →
    takes_delta s.mode ≡ true → Grows s past → name.lock ≡ i + 1 → entry_at name past ≡ Some (Diff c opened cdb row bytes sent dropped back) →
    some_at (i + 1) (releases c) past ≡ false → rows_held s.geometry.block c row (length bytes) (held s i past) ≡ delta_at s i name past

abbrev pub GatheredFoundLaw : Type 0
GatheredFoundLaw =
    (s : Setting) (i c row : ℕ) (name opened : At) (cdb : Cdb) (bytes : List ℕ) (names : List At) (back : Bool) (past : List Entry) → IsSetting s →
    Grows s past → name.lock ≡ i + 1 → entry_at name past ≡ Some (Hold c opened cdb row bytes true names back) →
    some_at (i + 1) (releases c) past ≡ false → rows_held s.geometry.block c row (length bytes) (held s i past) ≡ Some bytes
