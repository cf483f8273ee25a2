-- The definitions tried on constant journals, the newest entry first: two that are runs, and five entries that may
-- not follow, whatever the rest of them says. CDBs are any that spell the commands.
use Rattle.std.specs.Prelude.{ℕ, true, false, List, [], ◌∷◌, reverse, Option, Some, None}
use Rattle.stripe_layout.specs.declared.mode.Mode.TheVariants.{Supervised}
use Rattle.sbc_cdbs.specs.declared.descriptor.Cdb.{Cdb}
use Rattle.sbc_cdbs.specs.Cdbs.{SpellsCdb, cdb_bytes}
use Rattle.array_journal.specs.declared.at.At.{At}
use Rattle.array_journal.specs.declared.entry.Entry.{Entry}
use Rattle.array_journal.specs.declared.event.Event.{Event}
use Rattle.array_journal.specs.declared.event.Event.TheVariants.{Fetch, Diff, Take, Fold, Shut, Gone, Fresh, Open, Close, Spoil, Note, Swap}
use Rattle.array_journal.specs.declared.setting.Setting.{Setting}
use Rattle.array_journal.specs.declared.task.Kind.{Kind}
use Rattle.array_journal.specs.declared.task.Kind.TheVariants.{Read, Update, DegradedRead, Rebuild}
use Rattle.array_journal.specs.declared.task.Task.{Task}
use Rattle.array_journal.specs.declared.act.Act.{Act}
use Rattle.array_journal.specs.declared.act.Act.TheVariants.{Fetches, Diffs, Takes, Folds}
use Rattle.array_journal.specs.Acts.{cdb_of}
use Rattle.array_journal.specs.May.{May}
use Rattle.array_journal.specs.Run.{Run}

-- three targets, a unit of one block of eight bytes, two stripes, a buffer of four blocks
abbrev pub small : Setting
small = record { geometry = record { targets = 3; block = 8; areas = record { unit = 1; stripes = 2 } ∷ [] }; buffer = 4; mode = Supervised }

-- three targets, a unit of one block of one byte, one stripe, a buffer of two blocks
abbrev pub tiny : Setting
tiny = record { geometry = record { targets = 3; block = 1; areas = record { unit = 1; stripes = 1 } ∷ [] }; buffer = 2; mode = Supervised }

abbrev pub at : ℕ → ℕ → At
at stamp lock = record { stamp = stamp; lock = lock }

abbrev pub entry : ℕ → ℕ → Event → Entry
entry stamp lock event = record { stamp = stamp; lock = lock; event = event }

-- a task on the one row of stripe 0, whose parity is on target 2
abbrev pub task_on : ℕ → Kind → ℕ → List ℕ → Task
task_on call kind target bytes =
    record { call = call; piece = 0; kind = kind; stripe = 0; target = target; parity = 2; row = 0; count = 1; bytes = bytes }

-- the CDB spells an act of the task that rests on so many fetches
abbrev pub SpellsAct : Setting → Task → ℕ → Act → Cdb → Type 0
SpellsAct s task sources act cdb = SpellsCdb (cdb_bytes cdb) (cdb_of s task sources act)

abbrev pub block : List ℕ
block = 1 ∷ 2 ∷ 3 ∷ 4 ∷ 5 ∷ 6 ∷ 7 ∷ 8 ∷ []

abbrev pub blank : List ℕ
blank = 0 ∷ 0 ∷ 0 ∷ 0 ∷ 0 ∷ 0 ∷ 0 ∷ 0 ∷ []

-- a host writes a block and reads it back
abbrev pub write_task : Task
write_task = task_on 1 Update 0 block

abbrev pub read_task : Task
read_task = task_on 2 Read 0 []

abbrev pub written : Cdb → Cdb → Cdb → List Entry
written diff take fold =
    entry 4 3 (Fold 0 (at 1 0) fold 0 block (at 3 1 ∷ []))
    ∷ entry 3 1 (Take 0 (at 1 0) take 0 block)
    ∷ entry 2 1 (Diff 0 (at 1 0) diff 0 block false false false)
    ∷ entry 1 0 (Open 0 write_task) ∷ []

abbrev pub write_and_read : Cdb → Cdb → Cdb → Cdb → List Entry
write_and_read diff take fold fetch =
    entry 8 0 (Close 1 true (at 7 1 ∷ []) None [])
    ∷ entry 7 1 (Fetch 1 (at 6 0) fetch 0 block)
    ∷ entry 6 0 (Open 1 read_task)
    ∷ entry 5 0 (Close 0 true (at 2 1 ∷ at 3 1 ∷ at 4 3 ∷ []) None [])
    ∷ written diff take fold

abbrev pub WriteAndReadRuns : Type 0
WriteAndReadRuns =
    (diff take fold fetch : Cdb) → SpellsAct small write_task 0 Diffs diff → SpellsAct small write_task 0 Takes take
    → SpellsAct small write_task 0 Folds fold → SpellsAct small read_task 0 Fetches fetch → Run small (reverse (write_and_read diff take fold fetch))

-- a disk is lost while a host reads: the read is given up, and is served from the other disks
abbrev pub first_read : Task
first_read = task_on 1 Read 0 []

abbrev pub degraded_read : Task
degraded_read = task_on 1 DegradedRead 0 []

abbrev pub given_up : List Entry
given_up =
    entry 5 0 (Close 0 false (at 3 1 ∷ []) (Some (at 1 1)) [])
    ∷ entry 4 0 (Note 0 (at 1 1))
    ∷ entry 3 1 (Shut 0 (at 2 0) false (Some (at 1 1)))
    ∷ entry 2 0 (Open 0 first_read)
    ∷ entry 1 1 (Gone 0 2 []) ∷ []

abbrev pub loss_meets_a_read : Cdb → Cdb → List Entry
loss_meets_a_read second third =
    entry 9 0 (Close 1 true (at 7 2 ∷ at 8 3 ∷ []) None blank)
    ∷ entry 8 3 (Fetch 1 (at 6 0) third 0 blank)
    ∷ entry 7 2 (Fetch 1 (at 6 0) second 0 blank)
    ∷ entry 6 0 (Open 1 degraded_read)
    ∷ given_up

abbrev pub LossMeetsAReadRuns : Type 0
LossMeetsAReadRuns =
    (second third : Cdb) → SpellsAct small degraded_read 0 Fetches second → SpellsAct small degraded_read 0 Fetches third
    → Run small (reverse (loss_meets_a_read second third))

-- An update isn't closed as done before its fold, whatever is named.
abbrev pub UnfoldedStaysOpen : Type 0
UnfoldedStaysOpen =
    (diff take : Cdb) (stamp : ℕ) (names : List At) (cause : Option At) (bytes : List ℕ)
    → May small
    (entry 3 1 (Take 0 (at 1 0) take 0 block) ∷ entry 2 1 (Diff 0 (at 1 0) diff 0 block false false false) ∷ entry 1 0 (Open 0 write_task) ∷ [])
    (entry stamp 0 (Close 0 true names cause bytes))
    → ⊥

-- A degraded read isn't opened while an update is open on its stripe.
abbrev pub beside_update : Cdb → List Entry
beside_update diff =
    entry 4 0 (Note 1 (at 3 2))
    ∷ entry 3 2 (Gone 0 2 [])
    ∷ entry 2 1 (Diff 0 (at 1 0) diff 0 block false false false)
    ∷ entry 1 0 (Open 0 write_task) ∷ []

abbrev pub BesideUpdateRuns : Type 0
BesideUpdateRuns = (diff : Cdb) → SpellsAct small write_task 0 Diffs diff → Run small (reverse (beside_update diff))

abbrev pub UpdateBarsDegradedRead : Type 0
UpdateBarsDegradedRead =
    (diff : Cdb) (stamp command call : ℕ) → May small (beside_update diff) (entry stamp 0 (Open command (task_on call DegradedRead 1 []))) → ⊥

-- A rebuild isn't closed as done before its put, whatever is named.
abbrev pub rebuild_task : Task
rebuild_task = task_on 3 Rebuild 0 []

abbrev pub rebuilding : Cdb → Cdb → List Entry
rebuilding second third =
    entry 7 3 (Fetch 0 (at 5 0) third 0 blank)
    ∷ entry 6 2 (Fetch 0 (at 5 0) second 0 blank)
    ∷ entry 5 0 (Open 0 rebuild_task)
    ∷ entry 4 1 (Fresh 2 (at 3 0))
    ∷ entry 3 0 (Swap 0 2)
    ∷ entry 2 0 (Note 0 (at 1 1))
    ∷ entry 1 1 (Gone 0 1 []) ∷ []

abbrev pub RebuildingRuns : Type 0
RebuildingRuns =
    (second third : Cdb) → SpellsAct small rebuild_task 0 Fetches second → SpellsAct small rebuild_task 0 Fetches third
    → Run small (reverse (rebuilding second third))

abbrev pub UnputStaysOpen : Type 0
UnputStaysOpen =
    (second third : Cdb) (stamp : ℕ) (names : List At) (cause : Option At) (bytes : List ℕ)
    → May small (rebuilding second third) (entry stamp 0 (Close 0 true names cause bytes)) → ⊥

-- An update that was closed without its parity disk doesn't fold into the disk that replaced it.
abbrev pub old_task : Task
old_task = task_on 1 Update 0 (1 ∷ [])

abbrev pub parity_replaced : Cdb → Cdb → List Entry
parity_replaced diff take =
    entry 8 3 (Fresh 3 (at 7 0))
    ∷ entry 7 0 (Swap 2 3)
    ∷ entry 6 0 (Close 0 true (at 3 1 ∷ at 4 1 ∷ []) (Some (at 1 3)) [])
    ∷ entry 5 0 (Note 2 (at 1 3))
    ∷ entry 4 1 (Take 0 (at 2 0) take 0 (1 ∷ []))
    ∷ entry 3 1 (Diff 0 (at 2 0) diff 0 (1 ∷ []) false false false)
    ∷ entry 2 0 (Open 0 old_task)
    ∷ entry 1 3 (Gone 0 2 []) ∷ []

abbrev pub ParityReplacedRuns : Type 0
ParityReplacedRuns =
    (diff take : Cdb) → SpellsAct tiny old_task 0 Diffs diff → SpellsAct tiny old_task 0 Takes take → Run tiny (reverse (parity_replaced diff take))

abbrev pub OldCommandsBarred : Type 0
OldCommandsBarred =
    (diff take fold : Cdb) (stamp : ℕ)
    → May tiny (parity_replaced diff take) (entry stamp 3 (Fold 0 (at 2 0) fold 0 (1 ∷ []) (at 4 1 ∷ []))) → ⊥

-- Two rows of the book's decision: a missing unit of a listed stripe isn't read, and neither is a stripe of which
-- two units are missing.
abbrev pub spoilt : Cdb → List Entry
spoilt diff =
    entry 6 0 (Note 0 (at 3 1))
    ∷ entry 5 0 (Spoil 0 (at 2 1) (at 3 1) (at 4 3))
    ∷ entry 4 3 (Shut 0 (at 1 0) false None)
    ∷ entry 3 1 (Gone 0 2 (0 ∷ []))
    ∷ entry 2 1 (Diff 0 (at 1 0) diff 0 (1 ∷ []) false false false)
    ∷ entry 1 0 (Open 0 old_task) ∷ []

abbrev pub SpoiltRuns : Type 0
SpoiltRuns = (diff : Cdb) → SpellsAct tiny old_task 0 Diffs diff → Run tiny (reverse (spoilt diff))

abbrev pub ListedUnitsUnread : Type 0
ListedUnitsUnread =
    (diff : Cdb) (stamp command call : ℕ) → May tiny (spoilt diff) (entry stamp 0 (Open command (task_on call DegradedRead 0 []))) → ⊥

abbrev pub two_lost : List Entry
two_lost = entry 4 0 (Note 1 (at 3 2)) ∷ entry 3 2 (Gone 0 2 []) ∷ entry 2 0 (Note 0 (at 1 1)) ∷ entry 1 1 (Gone 0 1 []) ∷ []

abbrev pub TwoLostRuns : Type 0
TwoLostRuns = Run tiny (reverse two_lost)

abbrev pub TwoLostUnread : Type 0
TwoLostUnread = (stamp command call : ℕ) → May tiny two_lost (entry stamp 0 (Open command (task_on call DegradedRead 0 []))) → ⊥
