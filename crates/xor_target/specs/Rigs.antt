-- A row of targets that carries requests between them at once.
use Rattle.std.specs.Prelude.{◌≡◌, ◌≢◌, ◌<◌, ◌≤◌, ◌-◌, ℕ, zero, suc, Bool, true, false, max, List, [], ◌∷◌, length, Option, Some, None, option_map, unwrap_or, slice_get, slice_set}
use Rattle.std.specs.List.{AllByRecursion}
use Rattle.array_journal.specs.declared.at.At.{At}
use Rattle.sbc_cdbs.specs.declared.commands.Command.{Command}
use Rattle.sbc_cdbs.specs.declared.commands.Command.TheVariants.{Read, Write, XdWrite, XpWrite, XdRead, XdWriteRead, ModeSelect, ModeSense, XdWriteExtended, Rebuild, Regenerate}
use Rattle.xor_target.specs.declared.order.Order.{Order}
use Rattle.xor_target.specs.declared.order.PeerRequest.{PeerRequest}
use Rattle.xor_target.specs.declared.answer.Answer.{Answer}
use Rattle.xor_target.specs.declared.answer.Answer.TheVariants.{Good, Check, Gone, Shut, Peer, Memory}
use Rattle.xor_target.specs.declared.answer.PeerBack.{PeerBack}
use Rattle.xor_target.specs.declared.answer.PeerBack.TheVariants as back
use Rattle.sbc_cdbs.specs.Cdbs.{spelling}
use Rattle.xor_params.specs.declared.sources.Descriptor.{Descriptor}
use Rattle.xor_target.specs.declared.waiting.Waiting.{Waiting}
use Rattle.xor_target.specs.Admission.{command_in, count_of}
use Rattle.xor_target.specs.Gathers.{GatheringState}
use Rattle.xor_target.specs.Waits.{waiting_of}
use Rattle.xor_target.specs.State.{TargetState, is_waiting}
use Rattle.xor_target.specs.Answers.{IsAnswered}
use Rattle.xor_target.specs.Resumes.{IsResumed, IsFitting, ended_answer}

-- ---- a row

-- the target has this number, was made for so many targets, and has blocks of this size
pub record IsPlaced (t : TargetState) (k many size : ℕ) : Type 0 where
  pub number : t.number ≡ k
  pub targets : t.targets ≡ many
  pub block : t.block ≡ size

-- target k stands at place k, each was made for as many targets as there are, and all have one block
pub record IsRow (ts : List TargetState) : Type 0 where
  pub block : ℕ
  pub placed : (k : ℕ) (t : TargetState) → slice_get ts k ≡ Some t → IsPlaced t k (length ts) block

-- no target waits for the owner
abbrev pub NoneWaits : ℕ → List TargetState → Type 0
NoneWaits owner ts = (k : ℕ) (t : TargetState) → slice_get ts k ≡ Some t → is_waiting t owner ≡ false

-- target k comes to this, and the others stay as they are
pub record Turns (k : ℕ) (comes_to : TargetState → TargetState → Type 0) (ts after : List TargetState) : Type 0 where
  pub before : TargetState
  pub now : TargetState
  pub stands : slice_get ts k ≡ Some before
  pub comes : comes_to before now
  pub others : after ≡ slice_set ts k now

-- ---- a request, there and back

-- What is handed back for what another target answered: that its command was done, with what it read, or that it failed.
-- Want of memory there is told in no way, and a request's command asks no further target.
abbrev pub handed_back : Answer → Option PeerBack
handed_back (Good bytes made) = Some (back.Good bytes made)
handed_back (Check sense made loss) = Some back.Failed
handed_back (Gone at life loss) = Some back.Failed
handed_back (Shut at) = Some back.Failed
handed_back (Peer request made) = None
handed_back Memory = None

-- the greatest stamp among the one given and those of these entries
abbrev pub greatest_stamp : ℕ → List At → ℕ
greatest_stamp seen [] = seen
greatest_stamp seen (name ∷ names) = greatest_stamp (max seen name.stamp) names

-- the greatest stamp that a sender has seen with what is handed back
abbrev pub stamp_with : PeerRequest → PeerBack → ℕ
stamp_with request (back.Good bytes made) = greatest_stamp request.order.stamp made
stamp_with request back.Failed = request.order.stamp

-- the target that is asked answers the request
abbrev pub IsAsked : Bool → PeerRequest → Answer → List TargetState → List TargetState → Type 0
IsAsked never_fails request said ts after = Turns request.to (λ t now. IsAnswered never_fails t request.order said now) ts after

-- the target that asked goes on with what is handed back
abbrev pub IsHanded : Bool → PeerRequest → PeerBack → Answer → List TargetState → List TargetState → Type 0
IsHanded never_fails request peer answer ts after =
    Turns request.from (λ t now. IsResumed never_fails t request.order.owner peer (stamp_with request peer) answer now) ts after

-- A request is carried to the target that it asks, and back what that answered. Where either wants memory, the one that asked
-- is told that the request failed, so that it waits no longer, and want of memory is answered.
pub data IsCarried (never_fails : Bool) (request : PeerRequest) (answer : Answer) (ts after : List TargetState) : Type 0 where
  Returns : (said : Answer) (peer : PeerBack) (asked : List TargetState) → IsAsked never_fails request said ts asked → handed_back said ≡ Some peer →
      IsHanded never_fails request peer answer asked after → answer ≢ Memory → IsCarried never_fails request answer ts after
  AskedWants : (ended : Answer) (asked : List TargetState) → IsAsked never_fails request Memory ts asked →
      IsHanded never_fails request back.Failed ended asked after → answer ≡ Memory → IsCarried never_fails request answer ts after
  SenderWants : (said : Answer) (peer : PeerBack) (ended : Answer) (asked handed : List TargetState) → IsAsked never_fails request said ts asked → handed_back said ≡ Some peer →
      IsHanded never_fails request peer Memory asked handed → IsHanded never_fails request back.Failed ended handed after → answer ≡ Memory →
      IsCarried never_fails request answer ts after

-- ---- an order

-- a request to another target is said
abbrev pub asks_further : Answer → Bool
asks_further (Peer request made) = true
asks_further (Good bytes made) = false
asks_further (Check sense made loss) = false
asks_further (Gone at life loss) = false
asks_further (Shut at) = false
asks_further Memory = false

-- after a target said this, so many requests are carried, each as it is made, until one is answered by something else
abbrev pub IsSettled : ℕ → Bool → Answer → Answer → List TargetState → List TargetState → Type 0
IsSettled zero never_fails said answer ts after = (asks_further said ≡ false) × (answer ≡ said) × (after ≡ ts)
IsSettled (suc n) never_fails said answer ts after =
    (request : PeerRequest) × (made : List At) × (next : Answer) × (carried : List TargetState)
    × (said ≡ Peer request made) × IsCarried never_fails request next ts carried × IsSettled n never_fails next answer carried after

-- The answer of a row of targets to an order that target `number` is sent, and the row afterwards.
pub record IsRigAnswer (never_fails : Bool) (ts : List TargetState) (number : ℕ) (order : Order) (answer : Answer) (after : List TargetState) : Type 0 where
  pub said : Answer
  pub told : List TargetState
  pub executes : Turns number (λ t now. IsAnswered never_fails t order said now) ts told
  pub requests : ℕ
  pub settled : IsSettled requests never_fails said answer told after

-- ---- requests that can be carried

-- the command asks other targets while it is done
abbrev pub asks_others : Command → Bool
asks_others (XdWriteExtended dpo fua disable lba second count address) = true
asks_others (Rebuild dpo fua intdata lba count list) = true
asks_others (Regenerate dpo fua intdata lba count list) = true
asks_others (Read dpo fua lba count) = false
asks_others (Write dpo fua lba count) = false
asks_others (XdWrite dpo fua disable lba count) = false
asks_others (XpWrite dpo fua lba count) = false
asks_others (XdRead lba count) = false
asks_others (XdWriteRead dpo fua disable lba count) = false
asks_others (ModeSelect pf sp list) = false
asks_others (ModeSense dbd pc page allocation) = false

-- target k waits for an answer for the owner, and no other does
pub record WaitsAlone (k owner : ℕ) (ts : List TargetState) : Type 0 where
  pub within : k < length ts
  pub waits : (t : TargetState) → slice_get ts k ≡ Some t → is_waiting t owner ≡ true
  pub others : (j : ℕ) (t : TargetState) → slice_get ts j ≡ Some t → j ≢ k → is_waiting t owner ≡ false

-- A gathering of target `from` that goes on in a row of so many targets with blocks of this size: it still asks a source,
-- each source is another target, and the request is that the one it asks be read.
pub record GoesOn (request : PeerRequest) (many size : ℕ) (g : GatheringState) : Type 0 where
  pub asks : g.answered < length g.sources
  pub others : AllByRecursion (λ (d : Descriptor). (d.target < many) × (d.target ≢ request.from)) g.sources
  pub block : g.gather.block ≡ size
  pub count : g.gather.count ≡ count_of g.admitted.command
  pub few : count_of g.admitted.command ≤ 65535
  pub own : g.order.owner ≡ request.order.owner
  pub lba : ℕ
  pub reads : request.order.cdb ≡ spelling (Read false false lba (count_of g.admitted.command))

-- the same of the target's command, if that gathers; and its owner wasn't shut, nor the disk lost
abbrev pub IsGoingOn : PeerRequest → ℕ → TargetState → Type 0
IsGoingOn request many t =
    (w : Waiting) (g : GatheringState) → waiting_of request.order.owner t.waiting ≡ Some w → w.gathering ≡ Some g →
    (ended_answer t request.order.owner ≡ None) × GoesOn request many t.block g

-- the target that asked waits alone in its row
pub record IsPending (request : PeerRequest) (ts : List TargetState) : Type 0 where
  pub row : IsRow ts
  pub alone : WaitsAlone request.from request.order.owner ts
  pub goes_on : (t : TargetState) → slice_get ts request.from ≡ Some t → IsGoingOn request (length ts) t

-- A request can be carried: it is for another target of the row than the one that asks, which alone waits, and its command
-- asks no further target.
pub record IsRequest (request : PeerRequest) (ts : List TargetState) : Type 0 where
  pub pending : IsPending request ts
  pub to : request.to < length ts
  pub apart : request.to ≢ request.from
  pub plain : asks_others (command_in request.order.cdb) ≡ false

-- a row in which no target waits for the owner
pub record IsIdle (owner : ℕ) (ts : List TargetState) : Type 0 where
  pub row : IsRow ts
  pub none : NoneWaits owner ts

-- what an answer leaves behind: a request that can be carried, or a row in which no target waits for the owner
abbrev pub IsLeft : ℕ → Answer → List TargetState → Type 0
IsLeft owner (Peer request made) ts = IsRequest request ts × (request.order.owner ≡ owner)
IsLeft owner (Good bytes made) ts = IsIdle owner ts
IsLeft owner (Check sense made loss) ts = IsIdle owner ts
IsLeft owner (Gone at life loss) ts = IsIdle owner ts
IsLeft owner (Shut at) ts = IsIdle owner ts
IsLeft owner Memory ts = IsIdle owner ts

-- what is handed back leaves behind: a row in which no target waits for the owner; or a further request that can be carried,
-- or, where it wants memory, the one that asked, which still waits. Neither comes of a failure.
abbrev pub IsLeftBy : PeerRequest → PeerBack → Answer → List TargetState → Type 0
IsLeftBy request peer Memory ts = IsPending request ts × (peer ≢ back.Failed)
IsLeftBy request peer (Peer further made) ts = (peer ≢ back.Failed) × IsRequest further ts × (further.order.owner ≡ request.order.owner)
IsLeftBy request peer (Good bytes made) ts = IsIdle request.order.owner ts
IsLeftBy request peer (Check sense made loss) ts = IsIdle request.order.owner ts
IsLeftBy request peer (Gone at life loss) ts = IsIdle request.order.owner ts
IsLeftBy request peer (Shut at) ts = IsIdle request.order.owner ts

-- what is handed back is as many bytes as the gathering that asked for them takes
abbrev pub IsFittingIn : PeerRequest → PeerBack → List TargetState → Type 0
IsFittingIn request peer ts = (t : TargetState) → slice_get ts request.from ≡ Some t → IsFitting t request.order.owner peer

-- ---- how many requests are still to be carried

-- of a command that waits: one, or one for each source that hasn't answered
abbrev pub requests_left : Option GatheringState → ℕ
requests_left None = 1
requests_left (Some g) = length g.sources - g.answered

-- of an owner's command at a target, if it waits there
abbrev pub requests_of : ℕ → TargetState → ℕ
requests_of owner t = unwrap_or (option_map (λ w. requests_left w.gathering) (waiting_of owner t.waiting)) 0

-- and after this was said: of the command whose request it is
abbrev pub still_asked : Answer → List TargetState → ℕ
still_asked (Peer request made) ts = unwrap_or (option_map (requests_of request.order.owner) (slice_get ts request.from)) 0
still_asked (Good bytes made) ts = 0
still_asked (Check sense made loss) ts = 0
still_asked (Gone at life loss) ts = 0
still_asked (Shut at) ts = 0
still_asked Memory ts = 0
