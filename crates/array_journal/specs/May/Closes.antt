-- Which end of a command may follow a journal: a close in one of three ways, or a spoil.
use Rattle.std.specs.List.{list_any}
use Rattle.std.specs.Prelude.{◌≡◌, ◌==◌, ◌&&◌, ◌||◌, ◌⊎◌, ℕ, zero, suc, ◌+◌, Bool, true, false, List, [], ◌∷◌, map, Option, Some, None, if◌then◌else◌}
use Rattle.blocks_core.specs.Xor.{xor_all}
use Rattle.stripe_layout.specs.Modes.{target_gathers}
use Rattle.array_journal.specs.declared.at.At.{At}
use Rattle.array_journal.specs.declared.entry.Entry.{Entry}
use Rattle.array_journal.specs.declared.event.Event.{Event}
use Rattle.array_journal.specs.declared.event.Event.TheVariants.{Diff, Take, Shut, Gone, Wiped}
use Rattle.array_journal.specs.declared.event.What.TheVariants.{Buffers}
use Rattle.array_journal.specs.declared.setting.Setting.{Setting}
use Rattle.array_journal.specs.declared.task.Kind.{Kind}
use Rattle.array_journal.specs.declared.task.Kind.TheVariants.{Update, DegradedRead, Rebuild}
use Rattle.array_journal.specs.declared.task.Task.{Task}
use Rattle.array_journal.specs.Entries.{entry_at}
use Rattle.array_journal.specs.Commands.{is_open, task_of}
use Rattle.array_journal.specs.declared.act.Act.{Act}
use Rattle.array_journal.specs.declared.act.Act.TheVariants.{Fetches, Puts, Diffs, Takes, Folds, Holds}
use Rattle.array_journal.specs.Acts.{has_act, is_target, targets_that, task_bytes, is_act}
use Rattle.array_journal.specs.Lives.{swap_count}
use Rattle.array_journal.specs.May.NamedEntries.{passes, Names, bytes_named, NamesAt, Rise}
use Rattle.array_journal.specs.May.Slots.{is_loss_in, IsCauseOfLoss}

-- the event is an act of command c that its task has at the target of a lock
abbrev pub is_own_act : Setting → ℕ → Task → ℕ → Event → Bool
is_own_act s c task zero e = false
is_own_act s c task (suc i) e =
    (has_act s Fetches task i && is_act Fetches c e) || (has_act s Puts task i && is_act Puts c e)
    || (has_act s Diffs task i && is_act Diffs c e) || (has_act s Takes task i && is_act Takes c e)
    || (has_act s Folds task i && is_act Folds c e) || (has_act s Holds task i && is_act Holds c e)

-- each name is of an act of the command that its task has there
abbrev pub EachOwn : Setting → List Entry → ℕ → ℕ → Task → List At → Type 0
EachOwn s past stamp c task [] = Unit {0}
EachOwn s past stamp c task (name ∷ names) =
    Names past stamp name (is_own_act s c task name.lock) × EachOwn s past stamp c task names

-- some name is of this act of the command at target i
abbrev pub is_named : List Entry → ℕ → Act → ℕ → List At → Bool
is_named past c act i [] = false
is_named past c act i (name ∷ names) = ((name.lock == i + 1) && passes (is_act act c) (entry_at name past)) || is_named past c act i names

-- this act of the task is named, at each target at which the task has it
abbrev pub AllNamed : Setting → List Entry → ℕ → Task → Act → List At → Type 0
AllNamed s past c task act names = (i : ℕ) → has_act s act task i ≡ true → is_named past c act i names ≡ true

-- the names are acts of the command, each once, in the order of the journal, and each of its acts of five kinds
pub record NamesActs (s : Setting) (past : List Entry) (stamp c : ℕ) (task : Task) (names : List At) : Type 0 where
  pub in_order : Rise names
  pub only : EachOwn s past stamp c task names
  pub fetches : AllNamed s past c task Fetches names
  pub puts : AllNamed s past c task Puts names
  pub diffs : AllNamed s past c task Diffs names
  pub takes : AllNamed s past c task Takes names
  pub holds : AllNamed s past c task Holds names

abbrev pub taken : Option Event → List ℕ → List ℕ
taken (Some (Take command opened cdb row bytes)) others = bytes
taken _ others = others

abbrev pub first_taken : List Entry → List At → List ℕ
first_taken past [] = []
first_taken past (name ∷ names) = taken (entry_at name past) (first_taken past names)

-- the blocks that a degraded read answers: those of its take, or the exclusive-or of its fetches where it takes
-- none
abbrev pub answered : Setting → List Entry → Task → List At → List ℕ
answered s past task names =
    if target_gathers s.mode then first_taken past names
    else xor_all (task_bytes s task) (map (bytes_named past) names)

abbrev pub closed_bytes : Setting → List Entry → Task → List At → Kind → List ℕ
closed_bytes s past task names DegradedRead = answered s past task names
closed_bytes s past task names _ = []

-- Close as done, each act made: all acts are named, and there is no cause.
pub record MayCloseWhole (s : Setting) (past : List Entry) (stamp c : ℕ) (task : Task) (names : List At) (cause : Option At) (bytes : List ℕ) : Type 0 where
  pub acts : NamesActs s past stamp c task names
  pub folds : AllNamed s past c task Folds names
  pub no_cause : cause ≡ None
  pub answer : bytes ≡ closed_bytes s past task names task.kind

-- Close as done of an update whose parity target is gone: all acts but the fold are named, and the loss is the cause.
pub record MayCloseUnfolded (s : Setting) (past : List Entry) (stamp c : ℕ) (task : Task) (names : List At) (cause : At) (bytes : List ℕ) : Type 0 where
  pub update : task.kind ≡ Update
  pub acts : NamesActs s past stamp c task names
  pub no_fold : (i : ℕ) → is_named past c Folds i names ≡ false
  pub parity_lost : IsCauseOfLoss past stamp task.parity cause
  pub no_answer : bytes ≡ []

-- the event shuts the command at a target where none of its acts changed the medium
abbrev pub shuts_idle : ℕ → Event → Bool
shuts_idle c (Shut command opened false lost) = command == c
shuts_idle c _ = false

abbrev pub is_wipe_of : ℕ → Event → Bool
is_wipe_of c (Wiped Buffers call commands) = list_any (λ x. x == c) commands
is_wipe_of c _ = false

-- causes of two kinds alone: for a rebuild, a loss of its slot in the life before; for a degraded read, a wipe that
-- discarded what it held
abbrev pub IsCauseOfKind : List Entry → ℕ → ℕ → Task → At → Kind → Type 0
IsCauseOfKind past stamp c task cause Rebuild =
    (life : ℕ) × ((suc life ≡ swap_count task.target past) × ((cause.lock ≡ task.target + 1) × Names past stamp cause (is_loss_in life)))
IsCauseOfKind past stamp c task cause DegradedRead = Names past stamp cause (is_wipe_of c)
IsCauseOfKind past stamp c task cause _ = ⊥

-- Why a command is given up: a loss at one of its targets that is known and not mended, or a cause of its kind.
abbrev pub IsCause : Setting → List Entry → ℕ → ℕ → Task → At → Type 0
IsCause s past stamp c task cause =
    ((i : ℕ) × ((is_target s task i ≡ true) × IsCauseOfLoss past stamp i cause)) ⊎ IsCauseOfKind past stamp c task cause task.kind

-- Close without effect: the command is shut at each of its targets, where it changed nothing, for a cause.
pub record MayGiveUp (s : Setting) (past : List Entry) (stamp c : ℕ) (task : Task) (names : List At) (cause : At) (bytes : List ℕ) : Type 0 where
  pub shut : NamesAt past stamp (targets_that s (is_target s task)) (shuts_idle c) names
  pub for_cause : IsCause s past stamp c task cause
  pub no_answer : bytes ≡ []

-- Close: of an open command, in one of the three ways.
abbrev pub MayClose : Setting → List Entry → ℕ → ℕ → Bool → List At → Option At → List ℕ → Task → Type 0
MayClose s past stamp c true names None bytes task = MayCloseWhole s past stamp c task names None bytes
MayClose s past stamp c true names (Some cause) bytes task = MayCloseUnfolded s past stamp c task names cause bytes
MayClose s past stamp c false names None bytes task = ⊥
MayClose s past stamp c false names (Some cause) bytes task = MayGiveUp s past stamp c task names cause bytes

-- the event is a diff of the command whose request was dropped
abbrev pub is_dropped_diff : ℕ → Event → Bool
is_dropped_diff c (Diff command opened cdb row bytes sent true back) = command == c
is_dropped_diff c _ = false

-- the event discarded what the command held
abbrev pub discards : ℕ → Event → Bool
discards c (Gone life call commands) = is_wipe_of c (Wiped Buffers call commands)
discards c (Wiped kind_of call commands) = is_wipe_of c (Wiped kind_of call commands)
discards c _ = false

-- Spoil: an open update whose delta was lost after its diff, by a request that was dropped or by an entry that
-- discarded it; and which is shut at parity, where it folded nothing.
pub record MaySpoil (s : Setting) (past : List Entry) (stamp c : ℕ) (diff loss shut : At) (task : Task) : Type 0 where
  pub update : task.kind ≡ Update
  pub at_target : diff.lock ≡ task.target + 1
  pub differed : Names past stamp diff (is_act Diffs c)
  pub lost : ((loss ≡ diff) × Names past stamp diff (is_dropped_diff c)) ⊎ ((loss.lock ≡ task.target + 1) × Names past stamp loss (discards c))
  pub at_parity : shut.lock ≡ task.parity + 1
  pub shut_idle : Names past stamp shut (shuts_idle c)

-- an open command, with its task
abbrev pub IsOpenWith : List Entry → ℕ → Task → Type 0
IsOpenWith past c task = (is_open c past ≡ true) × (task_of c past ≡ Some task)
