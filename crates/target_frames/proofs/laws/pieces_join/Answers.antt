use Rattle.std.proofs.Common.{◌≡◌, ◌+◌, length, None, arith, subst, ◌++◌}
use Rattle.target_frames.specs.Frames.{ReadsFrom, all_told, spellings}
use Rattle.target_frames.proofs.Streams.{joined}
use Rattle.target_frames.proofs.laws.pieces_join.Goals as goal

pub returns : goal.returns
returns c first second rest a b end p q =
    let place : length (spellings a) ≡ 0 + length (spellings a) = omega arith in
    joined None 0 first second rest a b end p (subst (λ n. ReadsFrom (all_told None a) n (rest ++ second) b end) place q)
