-- Whether an entry may follow, as a test over what its target's medium and buffer hold.
use Rattle.std.specs.Prelude.{◌&&◌, nat_lt, ℕ, suc, zero, Bool, true, false, List}
use Rattle.array_journal.specs.declared.entry.Entry.{Entry}
use Rattle.array_journal.specs.declared.event.Event.{Event}
use Rattle.array_journal.specs.declared.event.Event.TheVariants.{Fetch, Put, Diff, Take, Fold, Hold, Shut, Gone, Wiped, Fresh, Open, Close, Spoil, Note, Swap, Refuse}
use Rattle.array_journal.specs.declared.setting.Setting.{Setting}
use Rattle.array_journal.specs.Entries.{stamps_below}
use Rattle.xor_buffers.specs.declared.held.HeldBlocks.{HeldBlocks}
use Rattle.array_journal.specs.Media.{media, held}
use Rattle.run_check.specs.ActTest.{of_opened}
use Rattle.run_check.specs.FetchTest.{may_fetch}
use Rattle.run_check.specs.PutTest.{may_put}
use Rattle.run_check.specs.DiffTest.{may_diff}
use Rattle.run_check.specs.TakeTest.{may_take}
use Rattle.run_check.specs.FoldTest.{may_fold}
use Rattle.run_check.specs.HoldTest.{may_hold}
use Rattle.run_check.specs.ShutTest.{may_shut}
use Rattle.run_check.specs.GoneTest.{may_lose}
use Rattle.run_check.specs.WipedTest.{may_wipe}
use Rattle.run_check.specs.FreshTest.{may_freshen}
use Rattle.run_check.specs.OpenTest.{may_open}
use Rattle.run_check.specs.CloseTest.{may_close, of_open}
use Rattle.run_check.specs.SpoilTest.{may_spoil}
use Rattle.run_check.specs.NoteTest.{may_note}
use Rattle.run_check.specs.SwapTest.{may_swap}

-- an event of the book
abbrev pub may_book : Setting → List Entry → ℕ → Event → Bool
may_book s past stamp (Open command task) = may_open s past command task
may_book s past stamp (Close command done names cause bytes) = of_open past command (may_close s past stamp command done names cause bytes)
may_book s past stamp (Spoil command diff loss shut) = of_open past command (may_spoil past stamp command diff loss shut)
may_book s past stamp (Note slot lost) = nat_lt slot s.geometry.targets && may_note past stamp slot lost
may_book s past stamp (Swap slot call) = nat_lt slot s.geometry.targets && may_swap s past slot
may_book s past stamp (Refuse call piece why) = true
may_book s past stamp _ = false

-- an event of target i
abbrev pub may_target : Setting → List Entry → ℕ → ℕ → List ℕ → List HeldBlocks → Event → Bool
may_target s past stamp i medium holds (Fetch command opened cdb row bytes) =
    of_opened past stamp command opened (may_fetch s past stamp i command opened cdb row bytes medium)
may_target s past stamp i medium holds (Put command opened cdb row bytes names) =
    of_opened past stamp command opened (may_put s past stamp i command opened cdb row bytes names)
may_target s past stamp i medium holds (Diff command opened cdb row bytes sent dropped back) =
    of_opened past stamp command opened (may_diff s past i command opened cdb row bytes sent dropped back)
may_target s past stamp i medium holds (Take command opened cdb row bytes) =
    of_opened past stamp command opened (may_take s past i command opened cdb row bytes holds)
may_target s past stamp i medium holds (Fold command opened cdb row bytes names) =
    of_opened past stamp command opened (may_fold s past stamp i command opened cdb row bytes names)
may_target s past stamp i medium holds (Hold command opened cdb row bytes kept names back) =
    of_opened past stamp command opened (may_hold s past stamp i command opened cdb row bytes kept names back medium)
may_target s past stamp i medium holds (Shut command opened acted lost) =
    of_opened past stamp command opened (may_shut s past i command acted lost)
may_target s past stamp i medium holds (Gone life call commands) = may_lose past i life commands holds
may_target s past stamp i medium holds (Wiped what call commands) = may_wipe what commands holds
may_target s past stamp i medium holds (Fresh call swap) = may_freshen past stamp i call swap
may_target s past stamp i medium holds _ = false

-- an event at a lock
abbrev pub may_at : Setting → List Entry → ℕ → ℕ → Event → Bool
may_at s past stamp zero event = may_book s past stamp event
may_at s past stamp (suc i) event = nat_lt i s.geometry.targets && may_target s past stamp i (media s i past) (held s i past) event

abbrev pub may_follow : Setting → List Entry → Entry → Bool
may_follow s past e = stamps_below e.lock e.stamp past && may_at s past e.stamp e.lock e.event
