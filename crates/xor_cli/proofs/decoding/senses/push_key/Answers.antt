use Rattle.std.proofs.Common.{ℕ, [], ◌∷◌, ◌++◌, ap}
use Rattle.std.specs.Prelude.{codes}
use Rattle.xor_cli.specs.DecodeTexts.{key_text}
use Rattle.xor_cli.proofs.Pieces.{both-pieces}
use Rattle.xor_cli.proofs.decoding.senses.push_key.Goals as goal

pub returns-clause-ok : goal.returns-clause-ok
unfolding key_text
returns-clause-ok c = both-pieces c.push.result _ _ _ _ _ _ c.in_ok-push_slice.ensures.ok c.push.ensures.ok (ap (λ (n : ℕ). codes "sense key " ++ (n ∷ [])) c.upper_nibble.ensures)
