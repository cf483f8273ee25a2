use Rattle.std.proofs.Common.{◌≡◌, drop}
use Rattle.target_frames.specs.Heads.{first_wrong}
use Rattle.target_frames.proofs.heads.first_wrong.Given as goal

abbrev pub invariant-loop-place : goal.invariant-loop-place
invariant-loop-place l = first_wrong (drop l.place-index l.fields) ≡ first_wrong l.fields
