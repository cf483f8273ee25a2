-- What befalls a target: its owners are shut, its disk is lost and replaced, its buffer is reset.
use Rattle.std.specs.Prelude.{◌≡◌, ◌≤◌, ◌*◌, ◌==◌, not, ℕ, Bool, [], ◌∷◌, filter, None, option_map}
use Rattle.blocks_core.specs.Xor.{zeros}
use Rattle.xor_buffers.specs.Held.{owners_of}
use Rattle.array_journal.specs.declared.at.At.{At}
use Rattle.array_journal.specs.declared.event.Event.{Event}
use Rattle.array_journal.specs.declared.event.Event.TheVariants as events
use Rattle.array_journal.specs.declared.event.What.TheVariants.{Buffers, Request}
use Rattle.array_journal.specs.Lives.{loss_of, life_of}
use Rattle.array_journal.specs.Owners.{has_acted}
use Rattle.xor_target.specs.declared.answer.Answer.{Answer}
use Rattle.xor_target.specs.declared.answer.Answer.TheVariants.{Good, Memory}
use Rattle.xor_target.specs.declared.answer.ShutAnswer.{ShutAnswer}
use Rattle.xor_target.specs.declared.answer.GoneAt.{GoneAt}
use Rattle.xor_target.specs.Waits.{without_gatherings, without_gathering}
use Rattle.xor_target.specs.State.{TargetState}
use Rattle.xor_target.specs.Answers.{next_entry, next_name, loss_here, lost_now, IsStruck}

-- the entry that shuts an owner: whether a write of it stands here, and the newest loss where the disk is gone
abbrev pub shut_event : TargetState → ℕ → At → Event
shut_event t owner opened = events.Shut owner opened (has_acted t.number owner t.past) (loss_of t.number t.past)

-- an owner is shut: its held blocks are let go, and its gathering ends
pub record IsShut (t : TargetState) (owner : ℕ) (opened : At) (seen : ℕ) (answer : ShutAnswer) (after : TargetState) : Type 0 where
  pub says : answer ≡ record {
    at = next_name t seen;
    acted = has_acted t.number owner t.past;
    gone = loss_of t.number t.past;
    life = life_of t.number t.past;
  }
  pub grown : after ≡ record t {
    past = next_entry t seen (shut_event t owner opened) ∷ t.past;
    held = filter (λ h. not (h.owner == owner)) t.held;
    waiting = without_gathering owner t.waiting;
  }

-- the disk is lost, and all that is held and gathered with it; also where it was lost before
pub record IsLost (t : TargetState) (call seen : ℕ) (answer : GoneAt) (after : TargetState) : Type 0 where
  pub says : answer ≡ record { at = next_name t seen; life = life_of t.number t.past }
  pub grown : after ≡ record t { past = next_entry t seen (loss_here t call) ∷ t.past; held = []; waiting = without_gatherings t.waiting }

-- the buffer is reset; what is gathered stays
abbrev pub reset_event : TargetState → ℕ → Event
reset_event t call = events.Wiped Buffers call (owners_of t.held)

pub record IsReset (t : TargetState) (call seen : ℕ) (at : At) (after : TargetState) : Type 0 where
  pub says : at ≡ next_name t seen
  pub grown : after ≡ record t { past = next_entry t seen (reset_event t call) ∷ t.past; held = [] }

-- the next request to a peer will be dropped; nothing is let go
abbrev pub drop_event : ℕ → Event
drop_event call = events.Wiped Request call []

pub record IsDropping (t : TargetState) (call seen : ℕ) (at : At) (after : TargetState) : Type 0 where
  pub says : at ≡ next_name t seen
  pub grown : after ≡ record t { past = next_entry t seen (drop_event call) ∷ t.past }

-- A fresh disk came: zeros, nothing held, and the first mode page. What is gathered stays; where a disk was lost before,
-- nothing is.
pub record IsFresh (t : TargetState) (call : ℕ) (swap : At) (seen : ℕ) (after : TargetState) : Type 0 where
  pub counted : t.faults ≤ after.faults
  pub grown : after ≡ record t {
    page = t.first;
    past = next_entry t seen (events.Fresh call swap) ∷ t.past;
    held = [];
    contents = option_map (λ told. zeros (t.rows * t.block)) t.contents;
    faults = after.faults;
  }

-- a fresh disk was asked for: it came, or the medium failed at it; want of memory leaves all as it was
pub data IsRenewed (never_fails : Bool) (t : TargetState) (call : ℕ) (swap : At) (seen : ℕ) (answer : Answer) (after : TargetState) : Type 0 where
  WantsMemory : answer ≡ Memory → after ≡ t → IsRenewed never_fails t call swap seen answer after
  Renews : IsFresh t call swap seen after → answer ≡ Good [] (next_name t seen ∷ []) → IsRenewed never_fails t call swap seen answer after
  Fails : IsStruck never_fails t seen after → answer ≡ lost_now t seen None → IsRenewed never_fails t call swap seen answer after
