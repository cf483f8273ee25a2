-- what is done and the exclusive-or of the rest are the whole
use Rattle.std.proofs.Common.{◌≡◌, ◌++◌, take, drop}
use Rattle.blocks_core.specs.Xor.{xor}
use Rattle.blocks_core.proofs.xor.xor_bytes.Given as goal

abbrev pub invariant-loop-place : goal.invariant-loop-place
invariant-loop-place l = take l.place l.into ++ xor (drop l.place l.into) (drop l.place l.from) ≡ xor l.initial.into l.from
