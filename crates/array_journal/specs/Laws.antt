-- The laws that hold of every run: past is a run so far, with the newest entry first, and e an entry that may follow
-- it, whether or not its name comes after all others.
use Rattle.std.specs.Prelude.{◌≡◌, ◌≢◌, ◌==◌, ◌&&◌, ◌||◌, ◌+◌, ◌<◌, ◌≤◌, nat_le, not, ℕ, Bool, true, false, List, [], ◌∷◌, Some, length, take, filter, ◌↔◌, if◌then◌else◌}
use Rattle.std.specs.List.{AllByRecursion}
use Rattle.stripe_layout.specs.Modes.{takes_delta}
use Rattle.array_journal.specs.declared.at.At.{At}
use Rattle.array_journal.specs.declared.entry.Entry.{Entry}
use Rattle.array_journal.specs.declared.event.Event.{Event}
use Rattle.array_journal.specs.declared.event.Event.TheVariants.{Gone, Fresh, Open, Note, Swap}
use Rattle.array_journal.specs.declared.setting.Setting.{Setting}
use Rattle.array_journal.specs.declared.task.Task.{Task}
use Rattle.array_journal.specs.Entries.{name_of, same_at, at_lt, entry_at, some_at, count_at, count_before}
use Rattle.array_journal.specs.Commands.{ends_command, open_count, is_open, task_of, is_shared}
use Rattle.array_journal.specs.declared.act.Act.{Act}
use Rattle.array_journal.specs.declared.act.Act.TheVariants.{Diffs, Takes}
use Rattle.array_journal.specs.Acts.{is_act, shuts_command}
use Rattle.xor_buffers.specs.declared.held.HeldBlocks.{HeldBlocks}
use Rattle.xor_buffers.specs.Held.{has_owner}
use Rattle.array_journal.specs.Media.{held, media, drops}
use Rattle.array_journal.specs.Lives.{is_fresh, is_note_of, is_swap_of, is_unfitted, is_gone, life_of, loss_of, swap_count, is_noted, is_absent, is_missing}
use Rattle.array_journal.specs.Listed.{listed_for}
use Rattle.array_journal.specs.Deltas.{covers}
use Rattle.array_journal.specs.May.{May, passes, is_loss_in, discards}
use Rattle.array_journal.specs.Run.{ComesLater, Grows, Run, IsSetting, ConservedThroughout, IsLegal}

-- how many times the book noted that the disk of slot i was lost
abbrev pub note_count : ℕ → List Entry → ℕ
note_count i past = count_at 0 (is_note_of i) past

-- one where slot i is noted and has no new disk yet
abbrev pub unfitted_count : ℕ → List Entry → ℕ
unfitted_count i past = if is_unfitted i past then 1 else 0

-- the event is a loss in this life or a later one
abbrev pub is_loss_from : ℕ → Event → Bool
is_loss_from w (Gone life call commands) = nat_le w life
is_loss_from w _ = false

-- the entries before the one of a name
abbrev pub entries_before : At → List Entry → List Entry
entries_before name [] = []
entries_before name (e ∷ past) = if same_at name (name_of e) then past else entries_before name past

-- The lives of a slot: each disk is swapped in once at most for each note, and is fresh once at most for each swap. A
-- slot whose loss is known and that has no new disk, and one with a swap that no fresh disk has met, have no disk that
-- works; and a target without one holds nothing.
pub record LivesInOrder (s : Setting) (i : ℕ) (past : List Entry) : Type 0 where
  pub fresh_swapped : life_of i past ≤ swap_count i past
  pub swaps_noted : swap_count i past ≤ note_count i past
  pub notes_next : note_count i past ≤ swap_count i past + 1
  pub noted_gone : is_unfitted i past ≡ true → is_gone i past ≡ true
  pub swapped_gone : life_of i past < swap_count i past → is_gone i past ≡ true
  pub gone_empty : is_gone i past ≡ true → held s i past ≡ []

abbrev pub LivesLaw : Type 0
LivesLaw = (s : Setting) (i : ℕ) (past : List Entry) → Grows s past → LivesInOrder s i past

-- a fresh disk replaces one that is gone
abbrev pub FreshLaw : Type 0
FreshLaw = (s : Setting) (i : ℕ) (e : Entry) (past : List Entry) → Grows s past → May s past e → e.lock ≡ i + 1 → is_fresh e.event ≡ true → is_gone i past ≡ true

-- no command acts on a slot whose loss is known and that has no new disk
abbrev pub UnfittedLaw : Type 0
UnfittedLaw =
    (s : Setting) (i c : ℕ) (act : Act) (e : Entry) (past : List Entry) → Grows s past → May s past e → e.lock ≡ i + 1 → is_act act c e.event ≡ true →
    is_unfitted i past ≡ false

-- A loss at target i in this life, from 0, and its note: the loss comes after as many fresh disks of the target, the
-- note after as many swaps of the slot.
pub record IsNotedBy (i life : ℕ) (note lost : At) (past : List Entry) : Type 0 where
  pub in_book : note.lock ≡ 0
  pub noted : entry_at note past ≡ Some (Note i lost)
  pub swaps_before : count_before 0 (is_swap_of i) note.stamp past ≡ life
  pub at_target : lost.lock ≡ i + 1
  pub lost_there : passes (is_loss_in life) (entry_at lost past) ≡ true
  pub fresh_before : count_before (i + 1) is_fresh lost.stamp past ≡ life
  pub earlier : lost.stamp < note.stamp

-- and the swap and the fresh disk that end this life, in this order
pub record IsMended (i call life : ℕ) (lost note swap fresh : At) (past : List Entry) : Type 0 where
  pub noted : IsNotedBy i life note lost past
  pub in_book : swap.lock ≡ 0
  pub swapped : entry_at swap past ≡ Some (Swap i call)
  pub swaps_before : count_before 0 (is_swap_of i) swap.stamp past ≡ life
  pub after_note : note.stamp < swap.stamp
  pub after_swap : swap.stamp < fresh.stamp

-- each fresh disk ends the life whose number is that of the fresh disks before it
abbrev pub MendedLaw : Type 0
MendedLaw =
    (s : Setting) (i call : ℕ) (swap fresh : At) (past : List Entry) → Grows s past → fresh.lock ≡ i + 1 → entry_at fresh past ≡ Some (Fresh call swap) →
    (note lost : At) × IsMended i call (count_before (i + 1) is_fresh fresh.stamp past) lost note swap fresh past

-- the command is open, with a task of a kind that runs alone
pub record RunsAlone (c : ℕ) (task : Task) (past : List Entry) : Type 0 where
  pub opened : is_open c past ≡ true
  pub its_task : task_of c past ≡ Some task
  pub alone : is_shared task.kind ≡ false

-- no other command is open on its stripe
abbrev pub AloneLaw : Type 0
AloneLaw =
    (s : Setting) (c d : ℕ) (task other : Task) (past : List Entry) → Grows s past → RunsAlone c task past → is_open d past ≡ true →
    task_of d past ≡ Some other → d ≢ c → other.stripe ≢ task.stripe

-- and none acts on its stripe
abbrev pub UndisturbedLaw : Type 0
UndisturbedLaw =
    (s : Setting) (c d : ℕ) (task other : Task) (act : Act) (e : Entry) (past : List Entry) → Grows s past → RunsAlone c task past → May s past e →
    is_act act d e.event ≡ true → task_of d past ≡ Some other → d ≢ c → other.stripe ≢ task.stripe

-- an act is one of an open command: none comes after the end of its command
abbrev pub NoActAfterEndLaw : Type 0
NoActAfterEndLaw =
    (s : Setting) (c : ℕ) (act : Act) (e : Entry) (past : List Entry) → Grows s past → May s past e → is_act act c e.event ≡ true → is_open c past ≡ true

-- and no second end
abbrev pub OneEndLaw : Type 0
OneEndLaw =
    (s : Setting) (c : ℕ) (e : Entry) (past : List Entry) → Grows s past → May s past e → ends_command c e.event ≡ true → is_open c past ≡ true

-- a unit is absent exactly where it is missing or its target is gone
abbrev pub AbsentLaw : Type 0
AbsentLaw = (s : Setting) (i stripe : ℕ) (past : List Entry) → Grows s past → is_absent i stripe past ≡ (is_missing i stripe past || is_gone i past)

-- where the target of an act isn't gone and its unit wasn't missing when the command was opened, it isn't absent
abbrev pub PresentLaw : Type 0
PresentLaw =
    (s : Setting) (i c : ℕ) (act : Act) (task : Task) (opened : At) (e : Entry) (past : List Entry) → Grows s past → May s past e → e.lock ≡ i + 1 →
    is_act act c e.event ≡ true → opened.lock ≡ 0 → entry_at opened past ≡ Some (Open c task) →
    is_missing i task.stripe (entries_before opened past) ≡ false → is_absent i task.stripe past ≡ false

-- the owners of what a target holds are open commands
abbrev pub OwnersLaw : Type 0
OwnersLaw =
    (s : Setting) (i : ℕ) (past : List Entry) → IsSetting s → Grows s past → AllByRecursion (λ (h : HeldBlocks). is_open h.owner past ≡ true) (held s i past)

-- a row is one of both held blocks
abbrev pub shares_row : ℕ → HeldBlocks → HeldBlocks → ℕ → Bool
shares_row block a b r = covers block a.row (length a.bytes) r && covers block b.row (length b.bytes) r

-- no two held blocks share a row
abbrev pub ShareNoRow : ℕ → List HeldBlocks → Type 0
ShareNoRow block [] = Unit {0}
ShareNoRow block (h ∷ hs) = AllByRecursion (λ (x : HeldBlocks). (r : ℕ) → shares_row block h x r ≡ false) hs × ShareNoRow block hs

abbrev pub HeldApartLaw : Type 0
HeldApartLaw = (s : Setting) (i : ℕ) (past : List Entry) → IsSetting s → Grows s past → ShareNoRow s.geometry.block (held s i past)

-- the event takes or shuts what a command holds, or discards it
abbrev pub releases : ℕ → Event → Bool
releases c e = is_act Takes c e || shuts_command c e || discards c e

-- a delta that the controller is to move is held exactly from its diff to its release
abbrev pub DeltaHeldLaw : Type 0
DeltaHeldLaw =
    (s : Setting) (i c : ℕ) (past : List Entry) → IsSetting s → takes_delta s.mode ≡ true → Grows s past → some_at (i + 1) (is_act Diffs c) past ≡ true →
    has_owner c (held s i past) ≡ not (some_at (i + 1) (releases c) past)

-- each beginning of a run is a run
abbrev pub BeginningsLaw : Type 0
BeginningsLaw = (s : Setting) (journal : List Entry) (n : ℕ) → Run s journal → Run s (take n journal)

-- the names rise strictly
abbrev pub Rises : List Entry → Type 0
Rises [] = Unit {0}
Rises (e ∷ past) = ComesLater e past × Rises past

-- the entries with a smaller name
abbrev pub smaller : At → List Entry → List Entry
smaller name past = filter (λ x. at_lt (name_of x) name) past

-- each entry may follow those with a smaller name
abbrev pub EachMayFollow : Setting → List Entry → Type 0
EachMayFollow s past = AllByRecursion (λ (e : Entry). May s (smaller (name_of e) past) e) past

-- so a run is told by its names and by what each entry asks of the entries with smaller ones
abbrev pub ByNamesLaw : Type 0
ByNamesLaw = (s : Setting) (past : List Entry) → Grows s past ↔ (Rises past × EachMayFollow s past)

-- the entries of one lock
abbrev pub lane : ℕ → List Entry → List Entry
lane k past = filter (λ e. e.lock == k) past

-- what a target holds is read from the entries of its lock alone
pub record OwnLane (s : Setting) (i : ℕ) (past : List Entry) : Type 0 where
  pub medium : media s i past ≡ media s i (lane (i + 1) past)
  pub blocks : held s i past ≡ held s i (lane (i + 1) past)
  pub to_drop : drops i past ≡ drops i (lane (i + 1) past)
  pub loss : loss_of i past ≡ loss_of i (lane (i + 1) past)
  pub life : life_of i past ≡ life_of i (lane (i + 1) past)

-- and what the book holds from those of lock 0
pub record BookLane (i stripe c : ℕ) (past : List Entry) : Type 0 where
  pub opened : open_count past ≡ open_count (lane 0 past)
  pub open_still : is_open c past ≡ is_open c (lane 0 past)
  pub task : task_of c past ≡ task_of c (lane 0 past)
  pub listed : listed_for stripe past ≡ listed_for stripe (lane 0 past)
  pub swaps : swap_count i past ≡ swap_count i (lane 0 past)
  pub noted : is_noted i past ≡ is_noted i (lane 0 past)
  pub unfitted : is_unfitted i past ≡ is_unfitted i (lane 0 past)
  pub missing : is_missing i stripe past ≡ is_missing i stripe (lane 0 past)

abbrev pub TargetLaneLaw : Type 0
TargetLaneLaw = (s : Setting) (i : ℕ) (past : List Entry) → OwnLane s i past

abbrev pub BookLaneLaw : Type 0
BookLaneLaw = (i stripe c : ℕ) (past : List Entry) → BookLane i stripe c past

-- an entry that is named is read from those of its name's lock
abbrev pub NamedLaneLaw : Type 0
NamedLaneLaw = (name : At) (past : List Entry) → entry_at name past ≡ entry_at name (lane name.lock past)

-- nothing is lost, after any entry of any run
abbrev pub ConservedLaw : Type 0
ConservedLaw = (s : Setting) (journal : List Entry) → IsSetting s → Run s journal → ConservedThroughout s journal

-- and what hosts read is what one plain list of sectors says
abbrev pub LegalLaw : Type 0
LegalLaw = (s : Setting) (journal : List Entry) → IsSetting s → Run s journal → IsLegal s journal
