use Rattle.array_control.proofs.Replies.{ended-served, ended-told, refused-served, refused-told}
use Rattle.array_control.proofs.laws.ended_calls_are_told.Goals as goal

pub returns : goal.returns
returns c = record { served = ended-served; told = ended-told; refused = refused-served; refusal_told = refused-told }
