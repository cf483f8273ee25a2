-- The answer to one who hands back what another target answered, and what the target is afterwards.
use Rattle.std.specs.Prelude.{◌≡◌, ◌++◌, ◌+◌, ◌||◌, ℕ, Bool, true, false, List, [], ◌∷◌, length, Option, Some, None, IfSome, is_some, is_none, option_map, unwrap_or, slice_get}
use Rattle.xor_params.specs.declared.sources.Descriptor.{Descriptor}
use Rattle.regen_rebuild.specs.Gatherings.{size}
use Rattle.array_journal.specs.declared.at.At.{At}
use Rattle.array_journal.specs.Lives.{is_gone}
use Rattle.array_journal.specs.Owners.{shut_at}
use Rattle.xor_target.specs.declared.answer.Answer.{Answer}
use Rattle.xor_target.specs.declared.answer.Answer.TheVariants.{Good, Check, Gone, Shut, Peer, Memory}
use Rattle.sbc_cdbs.specs.declared.commands.Command.{Command}
use Rattle.xor_target.specs.declared.order.Order.{Order}
use Rattle.xor_target.specs.declared.answer.PeerBack.{PeerBack}
use Rattle.xor_target.specs.declared.answer.PeerBack.TheVariants as back
use Rattle.xor_target.specs.declared.waiting.Waiting.{Waiting}
use Rattle.xor_target.specs.Gathers.{GatheringState, done_order, read_request}
use Rattle.xor_target.specs.Waits.{waiting_of, without_owner, with_source, sends}
use Rattle.xor_target.specs.State.{TargetState, is_waiting}
use Rattle.xor_target.specs.Table.{first_answer, shut_row, gone_row, loss_for}
use Rattle.xor_target.specs.Answers.{communication_failure, newest_stamp, IsActed}

-- an answer can be handed back for an owner: it is waited for, or the owner was shut here, or the disk is lost
abbrev pub may_resume : TargetState → ℕ → Bool
may_resume t owner = is_waiting t owner || is_some (shut_at t.number owner t.past) || is_gone t.number t.past

-- the blocks of a source are as many as its gathering asked for
abbrev pub IsFitting : TargetState → ℕ → PeerBack → Type 0
IsFitting t owner (back.Good bytes made) = IfSome (waiting_of owner t.waiting) (λ w. IfSome w.gathering (λ g. length bytes ≡ size g.gather))
IsFitting t owner back.Failed = Unit {0}

-- the owner's command has sent its delta
abbrev pub is_sending : TargetState → ℕ → Bool
is_sending t owner = unwrap_or (option_map sends (waiting_of owner t.waiting)) false

-- what is said to an owner that was shut, or whose disk was lost
abbrev pub ended_answer : TargetState → ℕ → Option Answer
ended_answer t owner = first_answer (shut_row t owner ∷ gone_row t owner ∷ [])

-- The command goes on: a delta that was sent is waited for whatever came between, and a gathering until the owner is shut or
-- the disk lost.
abbrev pub goes_on : TargetState → ℕ → Bool
goes_on t owner = is_sending t owner || is_none (ended_answer t owner)

-- the owner's command waits no longer
abbrev pub no_longer : TargetState → ℕ → TargetState
no_longer t owner = record t { waiting = without_owner owner t.waiting }

-- GOOD with further entries before those that it names
abbrev pub with_names : List At → Answer → Answer
with_names names (Good bytes made) = Good bytes (names ++ made)
with_names names (Check sense made loss) = Check sense made loss
with_names names (Gone at life loss) = Gone at life loss
with_names names (Shut at) = Shut at
with_names names (Peer request made) = Peer request made
with_names names Memory = Memory

-- GOOD with these entries, or what else was answered
abbrev pub renamed : List At → Answer → Answer
renamed names (Good bytes made) = Good bytes names
renamed names (Check sense made loss) = Check sense made loss
renamed names (Gone at life loss) = Gone at life loss
renamed names (Shut at) = Shut at
renamed names (Peer request made) = Peer request made
renamed names Memory = Memory

-- the order of an owner that waits is done; it waits no longer, and these are the entries that it had made before
pub record IsFinished (never_fails : Bool) (t : TargetState) (order : Order) (command : Command) (made : List At) (answer : Answer) (after : TargetState) : Type 0 where
  pub done : Answer
  pub acted : IsActed never_fails (no_longer t order.owner) order command done after
  pub says : answer ≡ with_names made done

-- A gathering goes on with the blocks of the source that it asked, and the entries that this made: it asks the next source, or
-- ends, and the command is done with what was gathered.
pub data IsContinued (never_fails : Bool) (t : TargetState) (owner : ℕ) (w : Waiting) (g : GatheringState) (bytes : List ℕ) (made : List At) (seen : ℕ) (answer : Answer) (after : TargetState) : Type 0 where
  Asks : (source : Descriptor) → slice_get g.sources (g.answered + 1) ≡ Some source →
      answer ≡ Peer (read_request t.number (newest_stamp t.past seen) g source) (w.made ++ made) →
      after ≡ record t { waiting = with_source owner (w.made ++ made) bytes t.waiting } → IsContinued never_fails t owner w g bytes made seen answer after
  Finishes : (done : Answer) → slice_get g.sources (g.answered + 1) ≡ None →
      IsActed never_fails (no_longer t owner) (done_order g (w.made ++ made) bytes seen) g.admitted.command done after → answer ≡ with_names (w.made ++ made) done →
      IsContinued never_fails t owner w g bytes made seen answer after

-- the same of the owner's gathering, which is under way
pub record HasContinued (never_fails : Bool) (t : TargetState) (owner : ℕ) (bytes : List ℕ) (made : List At) (seen : ℕ) (answer : Answer) (after : TargetState) : Type 0 where
  pub waiting : Waiting
  pub gathering : GatheringState
  pub waits : waiting_of owner t.waiting ≡ Some waiting
  pub gathers : waiting.gathering ≡ Some gathering
  pub own : gathering.order.owner ≡ owner
  pub continued : IsContinued never_fails t owner waiting gathering bytes made seen answer after

-- The answer to what another target answered. A delta that was folded there is the end of its XDWRITE EXTENDED, and a request
-- that failed the end of any command, whose entries stand. Want of memory leaves the command waiting.
pub data IsResumed (never_fails : Bool) (t : TargetState) (owner : ℕ) (peer : PeerBack) (seen : ℕ) (answer : Answer) (after : TargetState) : Type 0 where
  Ended : goes_on t owner ≡ false → ended_answer t owner ≡ Some answer → after ≡ t → IsResumed never_fails t owner peer seen answer after
  Folded : (w : Waiting) (bytes : List ℕ) (made : List At) → waiting_of owner t.waiting ≡ Some w → w.gathering ≡ None → peer ≡ back.Good bytes made →
      answer ≡ Good [] (w.made ++ made) → after ≡ no_longer t owner → IsResumed never_fails t owner peer seen answer after
  Refused : (w : Waiting) → goes_on t owner ≡ true → waiting_of owner t.waiting ≡ Some w → peer ≡ back.Failed →
      answer ≡ Check communication_failure w.made (loss_for t owner) → after ≡ no_longer t owner →
      IsResumed never_fails t owner peer seen answer after
  Continues : (bytes : List ℕ) (made : List At) → goes_on t owner ≡ true → peer ≡ back.Good bytes made →
      HasContinued never_fails t owner bytes made seen answer after → IsResumed never_fails t owner peer seen answer after
  WantsMemory : (bytes : List ℕ) (made : List At) → goes_on t owner ≡ true → is_waiting t owner ≡ true → peer ≡ back.Good bytes made → answer ≡ Memory →
      after ≡ t → IsResumed never_fails t owner peer seen answer after
