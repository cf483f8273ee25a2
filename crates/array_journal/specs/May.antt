-- Which entry may follow a journal. Each condition is about earlier entries of the entry's own lock, or about an
-- entry that it names; past has the newest entry first.
pub mod NamedEntries
pub mod Acts
pub mod Targets
pub mod Opens
pub mod Closes
pub mod Slots
use Rattle.std.specs.Prelude.{◌≡◌, ◌<◌, ℕ, zero, suc, true, List}
use Rattle.array_journal.specs.declared.at.At.{At}
use Rattle.array_journal.specs.declared.entry.Entry.{Entry}
use Rattle.array_journal.specs.declared.event.Event.{Event}
use Rattle.array_journal.specs.declared.event.Event.TheVariants.{Fetch, Put, Diff, Take, Fold, Hold, Shut, Gone, Wiped, Fresh, Open, Close, Spoil, Note, Swap, Refuse}
use Rattle.array_journal.specs.declared.setting.Setting.{Setting}
use Rattle.array_journal.specs.Entries.{stamps_below}
pub use Rattle.array_journal.specs.May.NamedEntries.{StandsBefore, passes, Names, bytes_of, bytes_named, NamesAt, fetched_targets, NamesFetches, Rise}
pub use Rattle.array_journal.specs.May.Acts.{swapped_since, freshes_after, MayAct, SomeTask, MayFetch, MayPut, MayDiff, MayTake, is_under_way, IsFoldSource, MayFold, MayHold}
pub use Rattle.array_journal.specs.May.Targets.{is_read_task, MayShut, MayGone, MayWipe, MayFresh}
pub use Rattle.array_journal.specs.May.Opens.{IsTaskOfKind, IsTask, MayOpen}
pub use Rattle.array_journal.specs.May.Closes.{is_own_act, EachOwn, is_named, AllNamed, NamesActs, taken, first_taken, answered, closed_bytes, MayCloseWhole, MayCloseUnfolded, shuts_idle, is_wipe_of, IsCauseOfKind, IsCause, MayGiveUp, MayClose, is_dropped_diff, discards, MaySpoil, IsOpenWith}
pub use Rattle.array_journal.specs.May.Slots.{is_loss_in, IsCauseOfLoss, MayNote, opens_at, MaySwap}

-- an event of the book, with the stamp it gets
abbrev pub MayBook : Setting → List Entry → ℕ → Event → Type 0
MayBook s past stamp (Open command task) = MayOpen s past command task
MayBook s past stamp (Close command done names cause bytes) =
    SomeTask (λ task. IsOpenWith past command task × MayClose s past stamp command done names cause bytes task)
MayBook s past stamp (Spoil command diff loss shut) =
    SomeTask (λ task. IsOpenWith past command task × MaySpoil s past stamp command diff loss shut task)
MayBook s past stamp (Note slot lost) = (slot < s.geometry.targets) × MayNote past stamp slot lost
MayBook s past stamp (Swap slot call) = (slot < s.geometry.targets) × MaySwap s past slot
MayBook s past stamp (Refuse call piece why) = Unit {0}
MayBook s past stamp _ = ⊥

-- an event of target i, with the stamp it gets
abbrev pub MayTarget : Setting → List Entry → ℕ → ℕ → Event → Type 0
MayTarget s past stamp i (Fetch command opened cdb row bytes) = SomeTask (λ task. MayFetch s past stamp i command opened cdb row bytes task)
MayTarget s past stamp i (Put command opened cdb row bytes names) =
    SomeTask (λ task. MayPut s past stamp i command opened cdb row bytes names task)
MayTarget s past stamp i (Diff command opened cdb row bytes sent dropped back) =
    SomeTask (λ task. MayDiff s past stamp i command opened cdb row bytes sent dropped back task)
MayTarget s past stamp i (Take command opened cdb row bytes) = SomeTask (λ task. MayTake s past stamp i command opened cdb row bytes task)
MayTarget s past stamp i (Fold command opened cdb row bytes names) =
    SomeTask (λ task. (name : At) × MayFold s past stamp i command opened cdb row bytes names task name)
MayTarget s past stamp i (Hold command opened cdb row bytes kept names back) =
    SomeTask (λ task. MayHold s past stamp i command opened cdb row bytes kept names back task)
MayTarget s past stamp i (Shut command opened acted lost) = SomeTask (λ task. MayShut s past stamp i command opened acted lost task)
MayTarget s past stamp i (Gone life call commands) = MayGone s past i life commands
MayTarget s past stamp i (Wiped what call commands) = MayWipe s past i what commands
MayTarget s past stamp i (Fresh call swap) = MayFresh past stamp i call swap
MayTarget s past stamp i _ = ⊥

-- an event at a lock: the book's is lock 0, that of target i is i + 1
abbrev pub MayAt : Setting → List Entry → ℕ → ℕ → Event → Type 0
MayAt s past stamp zero event = MayBook s past stamp event
MayAt s past stamp (suc i) event = (i < s.geometry.targets) × MayTarget s past stamp i event

-- the entry may follow the journal
abbrev pub May : Setting → List Entry → Entry → Type 0
May s past e = (stamps_below e.lock e.stamp past ≡ true) × MayAt s past e.stamp e.lock e.event
