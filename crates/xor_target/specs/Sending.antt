-- What an XDWRITE EXTENDED answers and who then waits, by how it was done.
use Rattle.std.specs.Prelude.{ℕ, Bool, List, [], ◌∷◌, ◌++◌, Some, None, if◌then◌else◌}
use Rattle.xor_target.specs.declared.answer.Answer.{Answer}
use Rattle.xor_target.specs.declared.answer.Answer.TheVariants.{Good, Check, Gone, Shut, Peer, Memory}
use Rattle.xor_target.specs.declared.order.PeerRequest.{PeerRequest}
use Rattle.xor_target.specs.declared.logical_unit.sending.Sending.{Sending}
use Rattle.xor_target.specs.declared.waiting.Waiting.{Waiting}
use Rattle.xor_target.specs.Answers.{communication_failure}
use Rattle.xor_target.specs.Waits.{without_gatherings}

-- a request with the bytes that it sends
abbrev pub with_bytes : PeerRequest → List ℕ → PeerRequest
with_bytes request bytes = record request { order = record request.order { bytes = bytes } }

-- the bytes of one that was done are sent, unless the request is dropped
abbrev pub sent_answer : Sending → Bool → Answer → Answer
sent_answer s dropped (Good bytes made) = if dropped then Check communication_failure made (Some s.name) else Peer (with_bytes s.request bytes) made
sent_answer s dropped (Check sense made loss) = Check sense made loss
sent_answer s dropped (Gone at life loss) = Gone at life loss
sent_answer s dropped (Shut at) = Shut at
sent_answer s dropped (Peer request made) = Peer request made
sent_answer s dropped Memory = Memory

-- and then it waits; a loss ends all gatherings
abbrev pub waiting_sent : List Waiting → ℕ → Sending → Bool → Answer → List Waiting
waiting_sent ws owner s dropped (Good bytes made) = if dropped then ws else ws ++ record { owner = owner; made = s.kept; gathering = None } ∷ []
waiting_sent ws owner s dropped (Check sense made loss) = ws
waiting_sent ws owner s dropped (Gone at life loss) = without_gatherings ws
waiting_sent ws owner s dropped (Shut at) = ws
waiting_sent ws owner s dropped (Peer request made) = ws
waiting_sent ws owner s dropped Memory = ws
