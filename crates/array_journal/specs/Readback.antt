-- Updates in readback mode tried: a run in which a reset comes between the diff and its fold, and entries that may not
-- follow. The newest entry comes first.
use Rattle.std.specs.Prelude.{◌≡◌, ◌+◌, ℕ, Bool, true, false, List, [], ◌∷◌, reverse, Some, None}
use Rattle.stripe_layout.specs.declared.mode.Mode.TheVariants.{Readback}
use Rattle.sbc_cdbs.specs.declared.descriptor.Cdb.{Cdb}
use Rattle.array_journal.specs.declared.at.At.{At}
use Rattle.array_journal.specs.declared.entry.Entry.{Entry}
use Rattle.array_journal.specs.declared.event.Event.TheVariants.{Diff, Take, Fold, Wiped, Open, Close}
use Rattle.array_journal.specs.declared.event.What.TheVariants.{Buffers}
use Rattle.array_journal.specs.declared.setting.Setting.{Setting}
use Rattle.array_journal.specs.declared.act.Act.TheVariants.{Diffs, Folds}
use Rattle.array_journal.specs.Entries.{entry_at}
use Rattle.array_journal.specs.Media.{held}
use Rattle.array_journal.specs.May.{May}
use Rattle.array_journal.specs.Run.{Run}
use Rattle.array_journal.specs.ExampleJournals.{tiny, at, entry, SpellsAct, old_task}
use Rattle.array_journal.specs.Examples.{one_byte}

abbrev pub tiny_readback : Setting
tiny_readback = record tiny { mode = Readback }

-- an update up to its diff, whose delta the controller has back
abbrev pub handed_back : Cdb → List Entry
handed_back diff = entry 2 1 (Diff 0 (at 1 0) diff 0 one_byte false false true) ∷ entry 1 0 (Open 0 old_task) ∷ []

-- A reset discards nothing of it, since no target holds the delta: it is folded all the same.
abbrev pub folded_back : Cdb → Cdb → List Entry
folded_back diff fold =
    entry 5 0 (Close 0 true (at 2 1 ∷ at 4 3 ∷ []) None [])
    ∷ entry 4 3 (Fold 0 (at 1 0) fold 0 one_byte (at 2 1 ∷ []))
    ∷ entry 3 1 (Wiped Buffers 2 [])
    ∷ handed_back diff

abbrev pub HandedBackRuns : Type 0
HandedBackRuns =
    (diff fold : Cdb) → SpellsAct tiny_readback old_task 0 Diffs diff → SpellsAct tiny_readback old_task 0 Folds fold
    → Run tiny_readback (reverse (folded_back diff fold))

-- A target that hands a delta back holds none of it. In any setting, after any entries.
abbrev pub HandedBackIsNotHeld : Type 0
HandedBackIsNotHeld =
    (s : Setting) (past : List Entry) (i stamp lock c row : ℕ) (opened : At) (cdb : Cdb) (bytes : List ℕ) (sent dropped : Bool)
    → held s i (entry stamp lock (Diff c opened cdb row bytes sent dropped true) ∷ past) ≡ held s i past

-- A diff says that it handed its delta back in readback mode, and in no other.
abbrev pub HandsBackByMode : Type 0
HandsBackByMode =
    (s : Setting) (past : List Entry) (stamp i c row : ℕ) (opened : At) (cdb : Cdb) (bytes : List ℕ) (sent dropped : Bool)
    → s.mode ≡ Readback → May s past (entry stamp (i + 1) (Diff c opened cdb row bytes sent dropped false)) → ⊥

-- A fold that names the diff folds the delta that was handed back, and no other.
abbrev pub FoldsTheHandedBack : Type 0
FoldsTheHandedBack =
    (diff fold : Cdb) (stamp : ℕ) (bytes : List ℕ)
    → May tiny_readback (handed_back diff) (entry stamp 3 (Fold 0 (at 1 0) fold 0 bytes (at 2 1 ∷ []))) → bytes ≡ one_byte

-- And in readback mode a diff that says that it handed nothing back is no source of a fold, after any entries.
abbrev pub FoldsNothingElse : Type 0
FoldsNothingElse =
    (s : Setting) (past : List Entry) (stamp i c d row its_row : ℕ) (opened its_opened name : At) (cdb its_cdb : Cdb) (bytes its_bytes : List ℕ) (sent dropped : Bool)
    → s.mode ≡ Readback → entry_at name past ≡ Some (Diff d its_opened its_cdb its_row its_bytes sent dropped false)
    → May s past (entry stamp (i + 1) (Fold c opened cdb row bytes (name ∷ []))) → ⊥

-- Nothing is taken in readback mode, since nothing is held.
abbrev pub TakesNothing : Type 0
TakesNothing =
    (s : Setting) (past : List Entry) (stamp i c row : ℕ) (opened : At) (cdb : Cdb) (bytes : List ℕ)
    → s.mode ≡ Readback → May s past (entry stamp (i + 1) (Take c opened cdb row bytes)) → ⊥
