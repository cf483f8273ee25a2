-- The test of an entry decides whether it may follow.
use Rattle.std.proofs.Common.{◌≡◌, ℕ, suc, zero, ◌<◌, ◌&&◌, Bool, List, refl, ap, sym, ◌∙◌}
use Rattle.std.specs.Bool.{Decides}
use Rattle.std.proofs.lemmas.Bool.Decides.{Decides-and, Decides-ltb}
use Rattle.array_journal.specs.declared.entry.Entry.{Entry}
use Rattle.array_journal.specs.declared.event.Event.{Event}
use Rattle.array_journal.specs.declared.event.Event.TheVariants.{Fetch, Put, Diff, Take, Fold, Hold, Shut, Gone, Wiped, Fresh, Open, Close, Spoil, Note, Swap, Refuse}
use Rattle.array_journal.specs.declared.setting.Setting.{Setting}
use Rattle.array_journal.specs.declared.task.Task.{Task}
use Rattle.array_journal.specs.Entries.{stamps_below}
use Rattle.array_journal.specs.May.{May, MayAt, MayBook, MayTarget, MayClose, MaySpoil}
use Rattle.xor_buffers.specs.declared.held.HeldBlocks.{HeldBlocks}
use Rattle.array_journal.specs.Media.{media, held}
use Rattle.run_check.proofs.PlainDecided.{Decides-true, Decides-nothing}
use Rattle.run_check.proofs.FetchDecided.{fetch-decided}
use Rattle.run_check.proofs.PutDecided.{put-decided}
use Rattle.run_check.proofs.DiffDecided.{diff-decided}
use Rattle.run_check.proofs.TakeDecided.{take-decided}
use Rattle.run_check.proofs.HoldDecided.{hold-decided}
use Rattle.run_check.proofs.FoldDecided.{fold-decided}
use Rattle.run_check.proofs.ShutDecided.{shut-decided}
use Rattle.run_check.proofs.GoneDecided.{gone-decided}
use Rattle.run_check.proofs.WipedDecided.{wipe-decided}
use Rattle.run_check.proofs.FreshDecided.{fresh-decided}
use Rattle.run_check.proofs.OpenDecided.{open-decided}
use Rattle.run_check.proofs.CloseDecided.{close-decided, open-with-decided}
use Rattle.run_check.proofs.SpoilDecided.{spoil-decided}
use Rattle.run_check.proofs.NoteDecided.{note-decided}
use Rattle.run_check.proofs.SwapDecided.{swap-decided}
use Rattle.run_check.specs.NameTests.{names}
use Rattle.run_check.specs.CloseTest.{may_close}
use Rattle.run_check.specs.SpoilTest.{may_spoil}
use Rattle.run_check.specs.EntryTest.{may_book, may_target, may_at, may_follow}

book-decided : (s : Setting) (past : List Entry) (stamp : ℕ) (e : Event) → Decides (may_book s past stamp e) (MayBook s past stamp e)
book-decided s past stamp (Open command task) = open-decided s past command task
book-decided s past stamp (Close command done names cause bytes) =
    open-with-decided past command (may_close s past stamp command done names cause bytes) (λ (task : Task). MayClose s past stamp command done names cause bytes task)
    (λ task. close-decided s past stamp command done names cause bytes task)
book-decided s past stamp (Spoil command diff loss shut) =
    open-with-decided past command (may_spoil past stamp command diff loss shut) (λ (task : Task). MaySpoil s past stamp command diff loss shut task)
    (λ task. spoil-decided s past stamp command diff loss shut task)
book-decided s past stamp (Note slot lost) = Decides-and _ _ (Decides-ltb slot s.geometry.targets) (note-decided past stamp slot lost)
book-decided s past stamp (Swap slot call) = Decides-and _ _ (Decides-ltb slot s.geometry.targets) (swap-decided s past slot)
book-decided s past stamp (Refuse call piece why) = (λ h. tt, λ h. refl)
book-decided s past stamp _ = Decides-nothing

target-decided : (s : Setting) (past : List Entry) (stamp i : ℕ) (e : Event) →
    Decides (may_target s past stamp i (media s i past) (held s i past) e) (MayTarget s past stamp i e)
target-decided s past stamp i (Fetch command opened cdb row bytes) = fetch-decided s past stamp i command opened cdb row bytes
target-decided s past stamp i (Put command opened cdb row bytes names) = put-decided s past stamp i command opened cdb row bytes names
target-decided s past stamp i (Diff command opened cdb row bytes sent dropped back) = diff-decided s past stamp i command opened cdb row bytes sent dropped back
target-decided s past stamp i (Take command opened cdb row bytes) = take-decided s past stamp i command opened cdb row bytes
target-decided s past stamp i (Fold command opened cdb row bytes names) = fold-decided s past stamp i command opened cdb row bytes names
target-decided s past stamp i (Hold command opened cdb row bytes kept names back) = hold-decided s past stamp i command opened cdb row bytes kept names back
target-decided s past stamp i (Shut command opened acted lost) = shut-decided s past stamp i command opened acted lost
target-decided s past stamp i (Gone life call commands) = gone-decided s past i life commands
target-decided s past stamp i (Wiped what call commands) = wipe-decided s past i what commands
target-decided s past stamp i (Fresh call swap) = fresh-decided past stamp i call swap
target-decided s past stamp i _ = Decides-nothing

at-decided : (s : Setting) (past : List Entry) (stamp lock : ℕ) (e : Event) → Decides (may_at s past stamp lock e) (MayAt s past stamp lock e)
at-decided s past stamp zero e = book-decided s past stamp e
at-decided s past stamp (suc i) e = Decides-and _ _ (Decides-ltb i s.geometry.targets) (target-decided s past stamp i e)

pub may-decided : (s : Setting) (past : List Entry) (e : Entry) → Decides (may_follow s past e) (May s past e)
may-decided s past e = Decides-and _ _ (Decides-true (stamps_below e.lock e.stamp past)) (at-decided s past e.stamp e.lock e.event)

-- what was judged of an event over the medium and the buffer of its target
pub target-judged : (s : Setting) (past : List Entry) (stamp i : ℕ) (e : Event) (medium : List ℕ) (holds : List HeldBlocks) (r : Bool) →
    i < s.geometry.targets → medium ≡ media s i past → holds ≡ held s i past → r ≡ may_target s past stamp i medium holds e → r ≡ may_at s past stamp (suc i) e
target-judged s past stamp i e medium holds r lt m h said =
    said ∙ ap (λ (x : List ℕ). may_target s past stamp i x holds e) m
    ∙ ap (λ (x : List HeldBlocks). may_target s past stamp i (media s i past) x e) h
    ∙ sym (ap (λ (b : Bool). b && may_target s past stamp i (media s i past) (held s i past) e) ((Decides-ltb i s.geometry.targets).1 lt))
