-- Journals that are wrong in one place, and what an update owes. The newest entry comes first.
use Rattle.std.specs.Prelude.{◌≡◌, ◌+◌, ℕ, true, false, List, [], ◌∷◌, Some, None}
use Rattle.stripe_layout.specs.Layout.{parity_of}
use Rattle.sbc_cdbs.specs.declared.descriptor.Cdb.{Cdb}
use Rattle.array_journal.specs.declared.at.At.{At}
use Rattle.array_journal.specs.declared.entry.Entry.{Entry}
use Rattle.array_journal.specs.declared.event.Event.TheVariants.{Fetch, Put, Diff, Take, Fold, Open, Close}
use Rattle.array_journal.specs.declared.task.Kind.TheVariants.{Update, DataOnly}
use Rattle.array_journal.specs.declared.setting.Setting.{Setting}
use Rattle.array_journal.specs.declared.task.Task.{Task}
use Rattle.array_journal.specs.Deltas.{outstanding}
use Rattle.array_journal.specs.Entries.{entry_at}
use Rattle.array_journal.specs.Lives.{is_missing}
use Rattle.array_journal.specs.May.{May}
use Rattle.array_journal.specs.ExampleJournals.{small, tiny, at, entry, task_on, block, blank, write_task, written, read_task, spoilt}

-- an update up to its diff, and up to its take
abbrev pub differed : Cdb → List Entry
differed diff = entry 2 1 (Diff 0 (at 1 0) diff 0 block false false false) ∷ entry 1 0 (Open 0 write_task) ∷ []

abbrev pub taken_out : Cdb → Cdb → List Entry
taken_out diff take = entry 3 1 (Take 0 (at 1 0) take 0 block) ∷ differed diff

-- A fold that names the take folds what was taken.
abbrev pub FoldsTheTaken : Type 0
FoldsTheTaken =
    (diff take fold : Cdb) (stamp : ℕ) (bytes : List ℕ)
    → May small (taken_out diff take) (entry stamp 3 (Fold 0 (at 1 0) fold 0 bytes (at 3 1 ∷ []))) → bytes ≡ block

-- A second diff of a command may not follow.
abbrev pub OneDiff : Type 0
OneDiff =
    (diff again : Cdb) (stamp row : ℕ) (bytes : List ℕ)
    → May small (differed diff) (entry stamp 1 (Diff 0 (at 1 0) again row bytes false false false)) → ⊥

-- An update of a row that an open update writes isn't opened.
abbrev pub UpdatesApart : Type 0
UpdatesApart =
    (diff : Cdb) (stamp command call : ℕ) (bytes : List ℕ) → May small (differed diff) (entry stamp 0 (Open command (task_on call Update 0 bytes))) → ⊥

-- the update closed, and a read of its block opened
abbrev pub reading : Cdb → Cdb → Cdb → List Entry
reading diff take fold =
    entry 6 0 (Open 1 read_task)
    ∷ entry 5 0 (Close 0 true (at 2 1 ∷ at 3 1 ∷ at 4 3 ∷ []) None [])
    ∷ written diff take fold

-- A fetch reads what stands there: the block that was written.
abbrev pub FetchesWhatStands : Type 0
FetchesWhatStands =
    (diff take fold fetch : Cdb) (stamp : ℕ) (bytes : List ℕ)
    → May small (reading diff take fold) (entry stamp 1 (Fetch 1 (at 6 0) fetch 0 bytes)) → bytes ≡ block

-- the same block is written once more, up to the diff and up to the take
abbrev pub rewritten : Cdb → Cdb → Cdb → Cdb → List Entry
rewritten diff take fold again =
    entry 7 1 (Diff 1 (at 6 0) again 0 block false false false)
    ∷ entry 6 0 (Open 1 (task_on 2 Update 0 block))
    ∷ entry 5 0 (Close 0 true (at 2 1 ∷ at 3 1 ∷ at 4 3 ∷ []) None [])
    ∷ written diff take fold

abbrev pub rewritten_taken : Cdb → Cdb → Cdb → Cdb → Cdb → List Entry
rewritten_taken diff take fold again out = entry 8 1 (Take 1 (at 6 0) out 0 blank) ∷ rewritten diff take fold again

-- Until it is folded, one delta is owed, of eight zero bytes.
abbrev pub RewriteOwesZeros : Type 0
RewriteOwesZeros =
    (diff take fold again out : Cdb) →
    (outstanding small (rewritten diff take fold again) 0 0 ≡ record { command = 1; block = blank } ∷ [])
    × (outstanding small (rewritten_taken diff take fold again out) 0 0 ≡ record { command = 1; block = blank } ∷ [])

-- An update puts nothing: parity isn't computed by the controller and written beside the data. In any setting, after
-- any entries.
abbrev pub UpdatesPutNothing : Type 0
UpdatesPutNothing =
    (s : Setting) (past : List Entry) (task : Task) (stamp i c row : ℕ) (opened : At) (cdb : Cdb) (bytes : List ℕ) (names : List At)
    → entry_at opened past ≡ Some (Open c task) → task.kind ≡ Update → May s past (entry stamp (i + 1) (Put c opened cdb row bytes names)) → ⊥

-- And data is written without parity only where the parity unit is missing.
abbrev pub DataAloneWantsParityLost : Type 0
DataAloneWantsParityLost =
    (s : Setting) (past : List Entry) (task : Task) (stamp c : ℕ)
    → task.kind ≡ DataOnly → May s past (entry stamp 0 (Open c task)) → is_missing (parity_of s.geometry task.stripe) task.stripe past ≡ true

-- An update that was given up and shut at parity folds nothing there, whatever it names.
abbrev pub ShutBarsTheFold : Type 0
ShutBarsTheFold =
    (diff fold : Cdb) (stamp row : ℕ) (opened : At) (bytes : List ℕ) (names : List At)
    → May tiny (spoilt diff) (entry stamp 3 (Fold 0 opened fold row bytes names)) → ⊥
