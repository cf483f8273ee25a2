-- The answer of a target to an order, and what the target is afterwards.
use Rattle.std.specs.Prelude.{◌≡◌, ◌≤◌, ◌+◌, ◌*◌, ◌==◌, ℕ, Bool, true, false, max, List, [], ◌∷◌, ◌++◌, length, take, Option, Some, None, slice_get, IfSome, MatchOption, if◌then◌else◌}
use Rattle.std.proofs.Common.{subst, lit<}
use Rattle.blocks_core.specs.Lists.{slice}
use Rattle.sense_data.specs.declared.senses.Pointer.{Pointer}
use Rattle.sense_data.specs.declared.senses.Sense.{Sense}
use Rattle.sbc_cdbs.specs.declared.descriptor.Cdb.{Cdb}
use Rattle.sbc_cdbs.specs.Cdbs.{cdb_bytes, spelling}
use Rattle.sbc_cdbs.specs.Kinds.{is_kept}
use Rattle.sbc_cdbs.specs.declared.commands.Command.{Command}
use Rattle.sbc_cdbs.specs.declared.commands.Command.TheVariants as sbc
use Rattle.xor_params.specs.declared.sources.Descriptor.{Descriptor}
use Rattle.xor_mode_page.specs.declared.pages.XorPage.{XorPage}
use Rattle.xor_mode_page.specs.Pages as pages
use Rattle.xor_buffers.specs.Held.{owners_of, held_blocks}
use Rattle.array_journal.specs.declared.entry.Entry.{Entry}
use Rattle.array_journal.specs.declared.event.Event.{Event}
use Rattle.array_journal.specs.declared.event.Event.TheVariants as events
use Rattle.array_journal.specs.declared.at.At.{At}
use Rattle.array_journal.specs.Lives.{life_of}
use Rattle.array_journal.specs.Owners.{discarded_at}
use Rattle.xor_target.specs.declared.order.Order.{Order}
use Rattle.xor_target.specs.declared.order.PeerRequest.{PeerRequest}
use Rattle.xor_target.specs.declared.answer.Answer.{Answer}
use Rattle.xor_target.specs.declared.answer.Answer.TheVariants.{Good, Check, Gone, Peer, Memory}
use Rattle.xor_target.specs.Disks.{HasFailed}
use Rattle.xor_target.specs.Logs.{last_stamp, drops_next}
use Rattle.xor_target.specs.Admission.{command_in, row_of, count_of}
use Rattle.xor_target.specs.Waits.{without_gatherings}
use Rattle.xor_target.specs.Gathers.{GatheringState, IsFirst, done_order, read_request}
use Rattle.xor_target.specs.State.{TargetState}
use Rattle.xor_target.specs.Table.{early_answer}
use Rattle.xor_target.specs.Effects.{Effect, effect_of, bytes_back, rewritten}

-- the greatest stamp here, or that one has seen
abbrev pub newest_stamp : List Entry → ℕ → ℕ
newest_stamp past seen = max (last_stamp past) seen

-- the stamp of the next entry, by one who has seen stamps up to this one
abbrev pub next_stamp : List Entry → ℕ → ℕ
next_stamp past seen = newest_stamp past seen + 1

-- the next entry's name
abbrev pub next_name : TargetState → ℕ → At
next_name t seen = record { stamp = next_stamp t.past seen; lock = t.number + 1 }

-- the next entry
abbrev pub next_entry : TargetState → ℕ → Event → Entry
next_entry t seen event = record { stamp = next_stamp t.past seen; lock = t.number + 1; event = event }

-- ---- what a command of blocks comes to

-- The command was done: what it does is done to the rows that stood there, with one entry, and nothing else is changed.
pub record IsDone (t : TargetState) (order : Order) (command : Command) (bytes : List ℕ) (after : TargetState) : Type 0 where
  pub cdb : Cdb
  pub old : List ℕ
  pub effect : Effect
  pub sent : cdb_bytes cdb ≡ order.cdb
  pub stood : IfSome t.contents (λ told. old ≡ slice told (row_of command * t.block) (count_of command * t.block))
  pub does : effect_of t.block order cdb t.held old (drops_next t.number t.past) command ≡ Some effect
  pub answers : bytes ≡ effect.answer
  pub whole : length bytes ≡ bytes_back t.block command
  pub fills : is_kept command ≡ true → held_blocks t.block after.held ≡ held_blocks t.block t.held + count_of command
  pub counted : t.faults ≤ after.faults
  pub grown : after ≡ record t {
    past = next_entry t order.stamp effect.event ∷ t.past;
    held = effect.held;
    contents = rewritten t.block (row_of command) effect.written t.contents;
    faults = after.faults;
  }

-- the loss of a disk at a target: its life, the call that made it, 0 where the medium failed, and the owners of what is held
abbrev pub loss_here : TargetState → ℕ → Event
loss_here t call = events.Gone (life_of t.number t.past) call (owners_of t.held)

-- The medium failed, and it isn't one that never fails: its count of failures rose, the disk is lost by one entry, and
-- nothing is held or gathered any more. What the medium holds isn't known.
pub record IsStruck (never_fails : Bool) (t : TargetState) (stamp : ℕ) (after : TargetState) : Type 0 where
  pub failed : HasFailed never_fails t.faults after.faults
  pub grown : after ≡ record t {
    past = next_entry t stamp (loss_here t 0) ∷ t.past;
    held = [];
    contents = after.contents;
    faults = after.faults;
    waiting = without_gatherings t.waiting;
  }

-- what a target answers whose disk is lost by its next entry
abbrev pub lost_now : TargetState → ℕ → Option At → Answer
lost_now t seen loss = Gone (next_name t seen) (life_of t.number t.past) loss

-- ---- what the MODE commands come to (SPC)

-- the page that a page control asks for: the current one, the bits that may be changed, the first one
abbrev pub page_shown : TargetState → ℕ → XorPage
page_shown t pc = if pc == 1 then pages.changeable else if pc == 2 then t.first else t.page

-- MODE SENSE answers the header and the page, cut to the allocation length
pub record IsSensed (t : TargetState) (pc allocation : ℕ) (answer : Answer) (after : TargetState) : Type 0 where
  pub says : answer ≡ Good (take allocation (pages.sense_header ++ pages.spelling (page_shown t pc))) []
  pub same : after ≡ t

-- MODE SELECT sets the page by the list
pub record IsSelected (t : TargetState) (order : Order) (answer : Answer) (after : TargetState) : Type 0 where
  pub says : answer ≡ Good [] []
  pub selects : pages.Selects order.bytes t.page after.page
  pub same : after ≡ record t { page = after.page }

-- ---- answers

-- a command of blocks is done and answered GOOD, or the medium failed
pub data IsActed (never_fails : Bool) (t : TargetState) (order : Order) (command : Command) (answer : Answer) (after : TargetState) : Type 0 where
  Does : (bytes : List ℕ) → IsDone t order command bytes after → answer ≡ Good bytes (next_name t order.stamp ∷ []) →
      IsActed never_fails t order command answer after
  Fails : IsStruck never_fails t order.stamp after → answer ≡ lost_now t order.stamp (discarded_at t.number order.owner after.past) →
      IsActed never_fails t order command answer after

-- ABORTED COMMAND: a request to another target was dropped, or that target refused it
abbrev pub communication_failure : Sense
communication_failure = record {
  key = 11;
  information = None;
  specific = 0;
  asc = 8;
  ascq = 0;
  fru = 0;
  pointer = None;
  in_range = lit< tt;
  illegal = λ p e. subst (λ (o : Option Pointer). MatchOption o (Unit {0}) (λ x. ◌≡◌ {A = ℕ} 11 5)) e tt;
}

-- An XPWRITE of the command at a row, which rests on the entry of this name, and folds a delta there.
abbrev pub fold_order : At → Order → ℕ → ℕ → List ℕ → Order
fold_order name order row count delta = record {
  owner = order.owner;
  opened = order.opened;
  names = name ∷ [];
  stamp = name.stamp;
  cdb = spelling (sbc.XpWrite false false row count);
  bytes = delta;
}

-- the request that a delta is folded at another target
abbrev pub fold_request : ℕ → At → Order → ℕ → ℕ → ℕ → List ℕ → PeerRequest
fold_request number name order row count target delta = record { from = number; to = target; order = fold_order name order row count delta }

-- XDWRITE EXTENDED was done, and its delta is sent away, for which it waits; or the request is dropped, and what was made
-- stands; or the medium failed.
pub data IsSent (never_fails : Bool) (t : TargetState) (order : Order) (command : Command) (second count address : ℕ) (answer : Answer) (after : TargetState) : Type 0 where
  Sends : (delta : List ℕ) (done : TargetState) → drops_next t.number t.past ≡ false → IsDone t order command delta done →
      after ≡ record done { waiting = t.waiting ++ record { owner = order.owner; made = next_name t order.stamp ∷ []; gathering = None } ∷ [] } →
      answer ≡ Peer (fold_request t.number (next_name t order.stamp) order second count address delta) (next_name t order.stamp ∷ []) → IsSent never_fails t order command second count address answer after
  Drops : (delta : List ℕ) → drops_next t.number t.past ≡ true → IsDone t order command delta after →
      answer ≡ Check communication_failure (next_name t order.stamp ∷ []) (Some (next_name t order.stamp)) →
      IsSent never_fails t order command second count address answer after
  Loses : IsStruck never_fails t order.stamp after → answer ≡ lost_now t order.stamp (discarded_at t.number order.owner after.past) →
      IsSent never_fails t order command second count address answer after

-- A REBUILD or REGENERATE without sources is done at once; one with sources waits for what it gathers, and asks the first of them.
pub data IsGathered (never_fails : Bool) (t : TargetState) (order : Order) (command : Command) (answer : Answer) (after : TargetState) : Type 0 where
  Alone : (g : GatheringState) → IsFirst t.block order command g → g.sources ≡ [] → IsActed never_fails t (done_order g [] [] order.stamp) command answer after →
      IsGathered never_fails t order command answer after
  Begins : (g : GatheringState) (source : Descriptor) → IsFirst t.block order command g → slice_get g.sources 0 ≡ Some source →
      answer ≡ Peer (read_request t.number (newest_stamp t.past order.stamp) g source) [] →
      after ≡ record t { waiting = t.waiting ++ record { owner = order.owner; made = []; gathering = Some g } ∷ [] } →
      IsGathered never_fails t order command answer after

abbrev pub IsExecuted : Bool → TargetState → Order → Answer → TargetState → Command → Type 0
IsExecuted never_fails t order answer after (sbc.ModeSense dbd pc page allocation) = IsSensed t pc allocation answer after
IsExecuted never_fails t order answer after (sbc.ModeSelect pf sp list) = IsSelected t order answer after
IsExecuted never_fails t order answer after (sbc.XdWriteExtended dpo fua disable lba second count address) =
    IsSent never_fails t order (sbc.XdWriteExtended dpo fua disable lba second count address) second count address answer after
IsExecuted never_fails t order answer after (sbc.Rebuild dpo fua intdata lba count list) =
    IsGathered never_fails t order (sbc.Rebuild dpo fua intdata lba count list) answer after
IsExecuted never_fails t order answer after (sbc.Regenerate dpo fua intdata lba count list) =
    IsGathered never_fails t order (sbc.Regenerate dpo fua intdata lba count list) answer after
IsExecuted never_fails t order answer after command = IsActed never_fails t order command answer after

-- The answer to an order, and the target afterwards. Want of memory comes only where the command would be done; it, and what is
-- said before anything is done, leave all as it was.
pub data IsAnswered (never_fails : Bool) (t : TargetState) (order : Order) (answer : Answer) (after : TargetState) : Type 0 where
  WantsMemory : early_answer t order ≡ None → answer ≡ Memory → after ≡ t → IsAnswered never_fails t order answer after
  Tells : early_answer t order ≡ Some answer → after ≡ t → IsAnswered never_fails t order answer after
  Executes : early_answer t order ≡ None → IsExecuted never_fails t order answer after (command_in order.cdb) →
      IsAnswered never_fails t order answer after
