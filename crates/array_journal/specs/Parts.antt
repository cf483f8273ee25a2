-- The three parts of what lets an entry follow a journal. Asked is what the caller answers for: the entries that
-- are named, that entries of the command itself don't stand yet, and facts of its task. Found is what the lock
-- decides when the entry is made: the medium, what is held, lives and numbers that are counted here, what the book
-- decides. Neither looks at the stamp; the third part does.
use Rattle.std.specs.List.{AllByRecursion}
use Rattle.std.specs.Prelude.{◌≡◌, ◌&&◌, ◌||◌, ◌<◌, ◌⊎◌, nat_lt, ℕ, zero, suc, ◌+◌, Bool, true, false, List, [], ◌∷◌, length, map, Option, Some, None}
use Rattle.blocks_core.specs.Xor.{xor, xor_all}
use Rattle.stripe_layout.specs.Modes.{sends_delta, hands_delta_back}
use Rattle.sbc_cdbs.specs.declared.descriptor.Cdb.{Cdb}
use Rattle.sbc_cdbs.specs.Cdbs.{SpellsCdb, cdb_bytes}
use Rattle.array_journal.specs.declared.at.At.{At}
use Rattle.array_journal.specs.declared.entry.Entry.{Entry}
use Rattle.array_journal.specs.declared.event.Event.{Event}
use Rattle.array_journal.specs.declared.event.Event.TheVariants.{Fetch, Put, Diff, Take, Fold, Hold, Shut, Gone, Wiped, Fresh, Open, Close, Spoil, Note, Swap, Refuse}
use Rattle.array_journal.specs.declared.setting.Setting.{Setting}
use Rattle.array_journal.specs.declared.task.Kind.{Kind}
use Rattle.array_journal.specs.declared.task.Kind.TheVariants.{Update, DegradedRead, Rebuild}
use Rattle.array_journal.specs.declared.task.Task.{Task}
use Rattle.array_journal.specs.Entries.{entry_at, some_at, count_before, stamps_below}
use Rattle.array_journal.specs.Commands.{open_count, task_of}
use Rattle.array_journal.specs.declared.act.Act.{Act}
use Rattle.array_journal.specs.declared.act.Act.TheVariants.{Fetches, Puts, Diffs, Takes, Folds, Holds}
use Rattle.array_journal.specs.Acts.{has_act, is_target, targets_that, task_bytes, cdb_of, is_act, shuts_command, changes_medium}
use Rattle.xor_buffers.specs.Held.{rows_held}
use Rattle.array_journal.specs.Media.{rows_on, held, drops}
use Rattle.array_journal.specs.Lives.{is_gone, is_loss, loss_of, life_of, swap_count, is_swap_of, is_unfitted}
use Rattle.array_journal.specs.declared.decision.Decision.TheVariants.{Opens}
use Rattle.array_journal.specs.Decision.{want_of, decision, opens_conflict, has_room}
use Rattle.array_journal.specs.May.{May, passes, bytes_named, fetched_targets, freshes_after, SomeTask, IsFoldSource, is_read_task, MayGone, MayWipe, IsTask, Rise, is_own_act, is_named, AllNamed, is_loss_in, closed_bytes, shuts_idle, is_wipe_of, is_dropped_diff, discards, IsOpenWith, MaySwap}

-- an entry of this name stands, and passes
abbrev pub Named : List Entry → At → (Event → Bool) → Type 0
Named past name test = passes test (entry_at name past) ≡ true

-- the names are of one passing entry each, at these targets in turn
abbrev pub NamedAt : List Entry → List ℕ → (Event → Bool) → List At → Type 0
NamedAt past [] test [] = Unit {0}
NamedAt past [] test (name ∷ names) = ⊥
NamedAt past (i ∷ targets) test [] = ⊥
NamedAt past (i ∷ targets) test (name ∷ names) = ((name.lock ≡ i + 1) × Named past name test) × NamedAt past targets test names

-- each name is of an act of the command that its task has there
abbrev pub EachNamed : Setting → List Entry → ℕ → Task → List At → Type 0
EachNamed s past c task [] = Unit {0}
EachNamed s past c task (name ∷ names) = Named past name (is_own_act s c task name.lock) × EachNamed s past c task names

-- asked of each act: its command was opened with this task, which has the act here; the command isn't shut here
-- and didn't make this act yet; row, length and CDB are the task's
pub record AskedAct (s : Setting) (past : List Entry) (i c : ℕ) (opened : At) (cdb : Cdb) (row len sources : ℕ) (task : Task) (act : Act) : Type 0 where
  pub opening : entry_at opened past ≡ Some (Open c task)
  pub in_book : opened.lock ≡ 0
  pub of_task : has_act s act task i ≡ true
  pub not_shut : some_at (i + 1) (shuts_command c) past ≡ false
  pub once : some_at (i + 1) (is_act act c) past ≡ false
  pub at_row : row ≡ task.row
  pub whole : len ≡ task_bytes s task
  pub spelt : SpellsCdb (cdb_bytes cdb) (cdb_of s task sources act)

-- found at each act: the disk works, and is the one that was there, or due, at the opening
pub record FoundAct (past : List Entry) (i : ℕ) (opened : At) : Type 0 where
  pub not_gone : is_gone i past ≡ false
  pub same_life : freshes_after i opened past ≡ false

-- found at a fetch: what stands on the medium
pub record FoundFetch (s : Setting) (past : List Entry) (i : ℕ) (opened : At) (row : ℕ) (bytes : List ℕ) : Type 0 where
  pub act : FoundAct past i opened
  pub read : bytes ≡ rows_on s i past row (length bytes)

-- asked of a put: its bytes are made of the named fetches and of the task's bytes
pub record AskedPut (s : Setting) (past : List Entry) (i c : ℕ) (opened : At) (cdb : Cdb) (row : ℕ) (bytes : List ℕ) (names : List At) (task : Task) : Type 0 where
  pub act : AskedAct s past i c opened cdb row (length bytes) (length names) task Puts
  pub fetched : NamedAt past (fetched_targets s task) (is_act Fetches c) names
  pub made : bytes ≡ xor task.bytes (xor_all (length bytes) (map (bytes_named past) names))

-- asked of a diff: its bytes are the task's, and the mode says whether its delta is sent or handed back
pub record AskedDiff (s : Setting) (past : List Entry) (i c : ℕ) (opened : At) (cdb : Cdb) (row : ℕ) (bytes : List ℕ) (sent back : Bool) (task : Task) : Type 0 where
  pub act : AskedAct s past i c opened cdb row (length bytes) 0 task Diffs
  pub written : bytes ≡ task.bytes
  pub sent_by_mode : sent ≡ sends_delta s.mode
  pub back_by_mode : back ≡ hands_delta_back s.mode

-- found at a diff: whether a request is to be dropped here
pub record FoundDiff (past : List Entry) (i : ℕ) (opened : At) (sent dropped : Bool) : Type 0 where
  pub act : FoundAct past i opened
  pub dropped_when_due : dropped ≡ (sent && nat_lt 0 (drops i past))

-- found at a take: what the command holds here
pub record FoundTake (s : Setting) (past : List Entry) (i c : ℕ) (opened : At) (row : ℕ) (bytes : List ℕ) : Type 0 where
  pub act : FoundAct past i opened
  pub taken : rows_held s.geometry.block c row (length bytes) (held s i past) ≡ Some bytes

-- asked of a fold: it names the one entry at the task's target that its delta comes from
pub record AskedFold (s : Setting) (past : List Entry) (i c : ℕ) (opened : At) (cdb : Cdb) (row : ℕ) (bytes : List ℕ) (names : List At) (task : Task) (name : At) : Type 0 where
  pub act : AskedAct s past i c opened cdb row (length bytes) 0 task Folds
  pub one : names ≡ name ∷ []
  pub at_source : name.lock ≡ task.target + 1
  pub source : IsFoldSource s past c task name bytes (entry_at name past)

-- asked of a hold: it is kept and not handed back, and names the fetches that it gathers
pub record AskedHold (s : Setting) (past : List Entry) (i c : ℕ) (opened : At) (cdb : Cdb) (row : ℕ) (bytes : List ℕ) (kept : Bool) (names : List At) (back : Bool) (task : Task) : Type 0 where
  pub act : AskedAct s past i c opened cdb row (length bytes) (length names) task Holds
  pub kept_here : kept ≡ true
  pub not_handed : back ≡ false
  pub fetched : NamedAt past (fetched_targets s task) (is_act Fetches c) names

-- found at a hold: the medium's rows, exclusive-or what the named fetches read
pub record FoundHold (s : Setting) (past : List Entry) (i : ℕ) (opened : At) (row : ℕ) (bytes : List ℕ) (names : List At) : Type 0 where
  pub act : FoundAct past i opened
  pub made : bytes ≡ xor (rows_on s i past row (length bytes)) (xor_all (length bytes) (map (bytes_named past) names))

-- asked of a shut: target i is one of the command's and isn't shut for it yet, and a read wasn't answered here
pub record AskedShut (s : Setting) (past : List Entry) (i c : ℕ) (opened : At) (task : Task) : Type 0 where
  pub opening : entry_at opened past ≡ Some (Open c task)
  pub in_book : opened.lock ≡ 0
  pub of_task : is_target s task i ≡ true
  pub once : some_at (i + 1) (shuts_command c) past ≡ false
  pub unanswered : (is_read_task task.kind && some_at (i + 1) (is_act Fetches c) past) ≡ false

-- found at a shut: whether the command changed the medium here, and the loss where the disk is gone
pub record FoundShut (past : List Entry) (i c : ℕ) (acted : Bool) (lost : Option At) : Type 0 where
  pub says_acted : acted ≡ some_at (i + 1) (changes_medium c) past
  pub says_lost : lost ≡ loss_of i past

-- asked of a fresh disk: it names a swap of this slot by the same call
pub record AskedFresh (past : List Entry) (i call : ℕ) (swap : At) : Type 0 where
  pub swapped : entry_at swap past ≡ Some (Swap i call)
  pub in_book : swap.lock ≡ 0

-- found at an opening: its number, the book's decision, nothing in the way, and room
pub record FoundOpen (s : Setting) (past : List Entry) (c : ℕ) (task : Task) : Type 0 where
  pub numbered : c ≡ open_count past
  pub decided : decision s (want_of task.kind) task.stripe task.target past ≡ Opens task.kind
  pub alone : some_at 0 (opens_conflict past task) past ≡ false
  pub room : has_room s task past ≡ true

-- asked of a close as done: the names are acts of the command, each once, and each of its acts of five kinds
pub record NamedActs (s : Setting) (past : List Entry) (c : ℕ) (task : Task) (names : List At) : Type 0 where
  pub in_order : Rise names
  pub only : EachNamed s past c task names
  pub fetches : AllNamed s past c task Fetches names
  pub puts : AllNamed s past c task Puts names
  pub diffs : AllNamed s past c task Diffs names
  pub takes : AllNamed s past c task Takes names
  pub holds : AllNamed s past c task Holds names

pub record AskedCloseWhole (s : Setting) (past : List Entry) (c : ℕ) (task : Task) (names : List At) (bytes : List ℕ) : Type 0 where
  pub acts : NamedActs s past c task names
  pub folds : AllNamed s past c task Folds names
  pub answer : bytes ≡ closed_bytes s past task names task.kind

pub record AskedCloseUnfolded (s : Setting) (past : List Entry) (c : ℕ) (task : Task) (names : List At) (cause : At) (bytes : List ℕ) : Type 0 where
  pub update : task.kind ≡ Update
  pub acts : NamedActs s past c task names
  pub no_fold : (i : ℕ) → is_named past c Folds i names ≡ false
  pub at_parity : cause.lock ≡ task.parity + 1
  pub names_loss : Named past cause is_loss
  pub no_answer : bytes ≡ []

-- the event is a loss, or a wipe that discarded what the command held
abbrev pub is_cause_of : ℕ → Event → Bool
is_cause_of c e = is_loss e || is_wipe_of c e

pub record AskedGiveUp (s : Setting) (past : List Entry) (c : ℕ) (task : Task) (names : List At) (cause : At) (bytes : List ℕ) : Type 0 where
  pub shut : NamedAt past (targets_that s (is_target s task)) (shuts_idle c) names
  pub names_cause : Named past cause (is_cause_of c)
  pub no_answer : bytes ≡ []

abbrev pub AskedClose : Setting → List Entry → ℕ → Bool → List At → Option At → List ℕ → Task → Type 0
AskedClose s past c true names None bytes task = AskedCloseWhole s past c task names bytes
AskedClose s past c true names (Some cause) bytes task = AskedCloseUnfolded s past c task names cause bytes
AskedClose s past c false names None bytes task = ⊥
AskedClose s past c false names (Some cause) bytes task = AskedGiveUp s past c task names cause bytes

-- found at a close or a note: the named loss is in the life that the book has swapped so often
pub record FoundLoss (past : List Entry) (i : ℕ) (cause : At) : Type 0 where
  pub at_target : cause.lock ≡ i + 1
  pub lost : Named past cause (is_loss_in (swap_count i past))
  pub known : is_unfitted i past ≡ true

-- found for two kinds alone: for a rebuild, the loss is in the life before; for a degraded read, a wipe
abbrev pub FoundCauseOfKind : List Entry → ℕ → Task → At → Kind → Type 0
FoundCauseOfKind past c task cause Rebuild =
    (life : ℕ) × ((suc life ≡ swap_count task.target past) × ((cause.lock ≡ task.target + 1) × Named past cause (is_loss_in life)))
FoundCauseOfKind past c task cause DegradedRead = Named past cause (is_wipe_of c)
FoundCauseOfKind past c task cause _ = ⊥

abbrev pub FoundCause : Setting → List Entry → ℕ → Task → At → Type 0
FoundCause s past c task cause =
    ((i : ℕ) × ((is_target s task i ≡ true) × FoundLoss past i cause)) ⊎ FoundCauseOfKind past c task cause task.kind

-- found at a close, by the command's task: that its cause fits the book's notes and swaps
abbrev pub FoundClose : Setting → List Entry → ℕ → Bool → Option At → Option Task → Type 0
FoundClose s past c done None task = Unit {0}
FoundClose s past c done (Some cause) None = ⊥
FoundClose s past c true (Some cause) (Some task) = FoundLoss past task.parity cause
FoundClose s past c false (Some cause) (Some task) = FoundCause s past c task cause

-- asked of a spoil: it names its diff, what discarded the delta, and the shut at parity
pub record AskedSpoil (s : Setting) (past : List Entry) (c : ℕ) (diff loss shut : At) (task : Task) : Type 0 where
  pub update : task.kind ≡ Update
  pub at_target : diff.lock ≡ task.target + 1
  pub differed : Named past diff (is_act Diffs c)
  pub lost : ((loss ≡ diff) × Named past diff (is_dropped_diff c)) ⊎ ((loss.lock ≡ task.target + 1) × Named past loss (discards c))
  pub at_parity : shut.lock ≡ task.parity + 1
  pub shut_idle : Named past shut (shuts_idle c)

-- asked of a note: it names a loss of a slot
pub record AskedNote (s : Setting) (past : List Entry) (i : ℕ) (lost : At) : Type 0 where
  pub slot : i < s.geometry.targets
  pub at_target : lost.lock ≡ i + 1
  pub names_loss : Named past lost is_loss

-- found at a note: the loss is of the disk that the book has there, and isn't known
pub record FoundNote (past : List Entry) (i : ℕ) (lost : At) : Type 0 where
  pub in_life : Named past lost (is_loss_in (swap_count i past))
  pub not_known : is_unfitted i past ≡ false

abbrev pub AskedBook : Setting → List Entry → Event → Type 0
AskedBook s past (Open command task) = IsTask s task
AskedBook s past (Close command done names cause bytes) =
    SomeTask (λ task. IsOpenWith past command task × AskedClose s past command done names cause bytes task)
AskedBook s past (Spoil command diff loss shut) =
    SomeTask (λ task. IsOpenWith past command task × AskedSpoil s past command diff loss shut task)
AskedBook s past (Note slot lost) = AskedNote s past slot lost
AskedBook s past (Swap slot call) = slot < s.geometry.targets
AskedBook s past (Refuse call piece why) = Unit {0}
AskedBook s past _ = ⊥

abbrev pub AskedTarget : Setting → List Entry → ℕ → Event → Type 0
AskedTarget s past i (Fetch command opened cdb row bytes) =
    SomeTask (λ task. AskedAct s past i command opened cdb row (length bytes) 0 task Fetches)
AskedTarget s past i (Put command opened cdb row bytes names) = SomeTask (λ task. AskedPut s past i command opened cdb row bytes names task)
AskedTarget s past i (Diff command opened cdb row bytes sent dropped back) =
    SomeTask (λ task. AskedDiff s past i command opened cdb row bytes sent back task)
AskedTarget s past i (Take command opened cdb row bytes) =
    SomeTask (λ task. AskedAct s past i command opened cdb row (length bytes) 0 task Takes)
AskedTarget s past i (Fold command opened cdb row bytes names) =
    SomeTask (λ task. (name : At) × AskedFold s past i command opened cdb row bytes names task name)
AskedTarget s past i (Hold command opened cdb row bytes kept names back) =
    SomeTask (λ task. AskedHold s past i command opened cdb row bytes kept names back task)
AskedTarget s past i (Shut command opened acted lost) = SomeTask (λ task. AskedShut s past i command opened task)
AskedTarget s past i (Gone life call commands) = Unit {0}
AskedTarget s past i (Wiped what call commands) = Unit {0}
AskedTarget s past i (Fresh call swap) = AskedFresh past i call swap
AskedTarget s past i _ = ⊥

-- what the caller answers for when an event is made at a lock
abbrev pub Asked : Setting → List Entry → ℕ → Event → Type 0
Asked s past zero event = AskedBook s past event
Asked s past (suc i) event = (i < s.geometry.targets) × AskedTarget s past i event

abbrev pub FoundBook : Setting → List Entry → Event → Type 0
FoundBook s past (Open command task) = FoundOpen s past command task
FoundBook s past (Close command done names cause bytes) = FoundClose s past command done cause (task_of command past)
FoundBook s past (Spoil command diff loss shut) = Unit {0}
FoundBook s past (Note slot lost) = FoundNote past slot lost
FoundBook s past (Swap slot call) = MaySwap s past slot
FoundBook s past (Refuse call piece why) = Unit {0}
FoundBook s past _ = ⊥

abbrev pub FoundTarget : Setting → List Entry → ℕ → Event → Type 0
FoundTarget s past i (Fetch command opened cdb row bytes) = FoundFetch s past i opened row bytes
FoundTarget s past i (Put command opened cdb row bytes names) = FoundAct past i opened
FoundTarget s past i (Diff command opened cdb row bytes sent dropped back) = FoundDiff past i opened sent dropped
FoundTarget s past i (Take command opened cdb row bytes) = FoundTake s past i command opened row bytes
FoundTarget s past i (Fold command opened cdb row bytes names) = FoundAct past i opened
FoundTarget s past i (Hold command opened cdb row bytes kept names back) = FoundHold s past i opened row bytes names
FoundTarget s past i (Shut command opened acted lost) = FoundShut past i command acted lost
FoundTarget s past i (Gone life call commands) = MayGone s past i life commands
FoundTarget s past i (Wiped what call commands) = MayWipe s past i what commands
FoundTarget s past i (Fresh call swap) = count_before 0 (is_swap_of i) swap.stamp past ≡ life_of i past
FoundTarget s past i _ = ⊥

-- what the lock decides when an event is made there
abbrev pub Found : Setting → List Entry → ℕ → Event → Type 0
Found s past zero event = FoundBook s past event
Found s past (suc i) event = FoundTarget s past i event

abbrev pub with_cause : Option At → List At → List At
with_cause None names = names
with_cause (Some cause) names = cause ∷ names

-- the entries that an event names, but for the loss that a shut shows, which stands at its own lock
abbrev pub named_by : Event → List At
named_by (Fetch command opened cdb row bytes) = opened ∷ []
named_by (Put command opened cdb row bytes names) = opened ∷ names
named_by (Diff command opened cdb row bytes sent dropped back) = opened ∷ []
named_by (Take command opened cdb row bytes) = opened ∷ []
named_by (Fold command opened cdb row bytes names) = opened ∷ names
named_by (Hold command opened cdb row bytes kept names back) = opened ∷ names
named_by (Shut command opened acted lost) = opened ∷ []
named_by (Gone life call commands) = []
named_by (Wiped what call commands) = []
named_by (Fresh call swap) = swap ∷ []
named_by (Open command task) = []
named_by (Close command done names cause bytes) = with_cause cause names
named_by (Spoil command diff loss shut) = diff ∷ loss ∷ shut ∷ []
named_by (Note slot lost) = lost ∷ []
named_by (Swap slot call) = []
named_by (Refuse call piece why) = []

-- each of these names has a smaller stamp
abbrev pub AllEarlier : ℕ → List At → Type 0
AllEarlier stamp names = AllByRecursion (λ (name : At). name.stamp < stamp) names

-- the entry's stamp comes later than each stamp here, and than those of the entries that it names
abbrev pub IsLater : List Entry → Entry → Type 0
IsLater past e = (stamps_below e.lock e.stamp past ≡ true) × AllEarlier e.stamp (named_by e.event)

-- the three parts together
pub record HasParts (s : Setting) (past : List Entry) (e : Entry) : Type 0 where
  pub asked : Asked s past e.lock e.event
  pub found : Found s past e.lock e.event
  pub later : IsLater past e

-- an entry that may follow has the three parts
abbrev pub MayHasParts : Type 0
MayHasParts = (s : Setting) (past : List Entry) (e : Entry) → May s past e → HasParts s past e

-- an entry that has the three parts may follow
abbrev pub PartsGiveMay : Type 0
PartsGiveMay = (s : Setting) (past : List Entry) (e : Entry) → HasParts s past e → May s past e
