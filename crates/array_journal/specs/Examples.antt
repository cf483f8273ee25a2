-- A journal for each kind of event that the tried journals lack, the newest entry first, on three targets with a unit
-- of one block of one byte and one stripe.
use Rattle.std.specs.Prelude.{ℕ, true, false, List, [], ◌∷◌, reverse, None}
use Rattle.stripe_layout.specs.declared.mode.Mode.TheVariants.{ThirdParty}
use Rattle.sbc_cdbs.specs.declared.descriptor.Cdb.{Cdb}
use Rattle.array_journal.specs.declared.entry.Entry.{Entry}
use Rattle.array_journal.specs.declared.event.Event.TheVariants.{Fetch, Put, Diff, Take, Hold, Shut, Gone, Wiped, Fresh, Open, Close, Spoil, Note, Swap, Refuse}
use Rattle.array_journal.specs.declared.event.What.TheVariants.{Buffers}
use Rattle.array_journal.specs.declared.event.Why.TheVariants.{NotReady}
use Rattle.array_journal.specs.declared.setting.Setting.{Setting}
use Rattle.array_journal.specs.declared.task.Kind.TheVariants.{DataOnly, DegradedRead, Rebuild}
use Rattle.array_journal.specs.declared.task.Task.{Task}
use Rattle.array_journal.specs.declared.act.Act.TheVariants.{Fetches, Puts, Diffs, Takes, Holds}
use Rattle.array_journal.specs.Run.{Run}
use Rattle.array_journal.specs.ExampleJournals.{tiny, at, entry, task_on, SpellsAct, old_task, two_lost}

abbrev pub one_byte : List ℕ
one_byte = 1 ∷ []

abbrev pub zero_byte : List ℕ
zero_byte = 0 ∷ []

-- parity's disk is lost, and a write goes to the data alone
abbrev pub data_task : Task
data_task = task_on 2 DataOnly 0 one_byte

abbrev pub put_alone : Cdb → List Entry
put_alone put =
    entry 5 0 (Close 0 true (at 4 1 ∷ []) None [])
    ∷ entry 4 1 (Put 0 (at 3 0) put 0 one_byte [])
    ∷ entry 3 0 (Open 0 data_task)
    ∷ entry 2 0 (Note 2 (at 1 3))
    ∷ entry 1 3 (Gone 0 1 []) ∷ []

abbrev pub PutAloneRuns : Type 0
PutAloneRuns = (put : Cdb) → SpellsAct tiny data_task 0 Puts put → Run tiny (reverse (put_alone put))

-- a reset discards a delta before it was taken
abbrev pub delta_wiped : Cdb → List Entry
delta_wiped diff =
    entry 5 0 (Spoil 0 (at 2 1) (at 3 1) (at 4 3))
    ∷ entry 4 3 (Shut 0 (at 1 0) false None)
    ∷ entry 3 1 (Wiped Buffers 2 (0 ∷ []))
    ∷ entry 2 1 (Diff 0 (at 1 0) diff 0 one_byte false false false)
    ∷ entry 1 0 (Open 0 old_task) ∷ []

abbrev pub DeltaWipedRuns : Type 0
DeltaWipedRuns = (diff : Cdb) → SpellsAct tiny old_task 0 Diffs diff → Run tiny (reverse (delta_wiped diff))

-- a lost disk is replaced, and its unit rebuilt
abbrev pub mend_task : Task
mend_task = task_on 3 Rebuild 0 []

abbrev pub rebuilt : Cdb → Cdb → Cdb → List Entry
rebuilt second third put =
    entry 9 0 (Close 0 true (at 6 2 ∷ at 7 3 ∷ at 8 1 ∷ []) None [])
    ∷ entry 8 1 (Put 0 (at 5 0) put 0 zero_byte (at 6 2 ∷ at 7 3 ∷ []))
    ∷ entry 7 3 (Fetch 0 (at 5 0) third 0 zero_byte)
    ∷ entry 6 2 (Fetch 0 (at 5 0) second 0 zero_byte)
    ∷ entry 5 0 (Open 0 mend_task)
    ∷ entry 4 1 (Fresh 2 (at 3 0))
    ∷ entry 3 0 (Swap 0 2)
    ∷ entry 2 0 (Note 0 (at 1 1))
    ∷ entry 1 1 (Gone 0 1 []) ∷ []

abbrev pub RebuiltRuns : Type 0
RebuiltRuns =
    (second third put : Cdb) → SpellsAct tiny mend_task 0 Fetches second → SpellsAct tiny mend_task 0 Fetches third
    → SpellsAct tiny mend_task 2 Puts put → Run tiny (reverse (rebuilt second third put))

-- in third-party mode a lost unit is gathered at target 1, and taken from it
abbrev pub tiny_third : Setting
tiny_third = record tiny { mode = ThirdParty }

abbrev pub gather_task : Task
gather_task = task_on 2 DegradedRead 0 []

abbrev pub gathered : Cdb → Cdb → Cdb → List Entry
gathered fetch hold take =
    entry 7 0 (Close 0 true (at 4 3 ∷ at 5 2 ∷ at 6 2 ∷ []) None zero_byte)
    ∷ entry 6 2 (Take 0 (at 3 0) take 0 zero_byte)
    ∷ entry 5 2 (Hold 0 (at 3 0) hold 0 zero_byte true (at 4 3 ∷ []) false)
    ∷ entry 4 3 (Fetch 0 (at 3 0) fetch 0 zero_byte)
    ∷ entry 3 0 (Open 0 gather_task)
    ∷ entry 2 0 (Note 0 (at 1 1))
    ∷ entry 1 1 (Gone 0 1 []) ∷ []

abbrev pub GatheredRuns : Type 0
GatheredRuns =
    (fetch hold take : Cdb) → SpellsAct tiny_third gather_task 0 Fetches fetch → SpellsAct tiny_third gather_task 1 Holds hold
    → SpellsAct tiny_third gather_task 0 Takes take → Run tiny_third (reverse (gathered fetch hold take))

-- two units are missing, and a piece is refused
abbrev pub RefusedRuns : Type 0
RefusedRuns = Run tiny (reverse (entry 5 0 (Refuse 3 0 NotReady) ∷ two_lost))
