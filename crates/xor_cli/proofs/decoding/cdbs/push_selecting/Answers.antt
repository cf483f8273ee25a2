use Rattle.std.proofs.Common.{append_assoc}
use Rattle.std.specs.Prelude.{codes}
use Rattle.xor_cli.specs.DecodeTexts.{flag, selecting}
use Rattle.xor_cli.proofs.Pieces.{two-pieces, both-pieces}
use Rattle.xor_cli.proofs.decoding.cdbs.push_selecting.Goals as goal

pub returns-clause-ok : goal.returns-clause-ok
unfolding selecting
returns-clause-ok c =
    both-pieces c.push_flag-2.result _ _ _ _ _ _
    (two-pieces _ _ _ (codes "MODE SELECT") (flag (codes "pf") c.args.pf) c.in_ok-push_slice.ensures.ok c.in_ok-push_flag.ensures.ok)
    c.push_flag-2.ensures.ok
    (append_assoc (codes "MODE SELECT") (flag (codes "pf") c.args.pf) (flag (codes "sp") c.args.sp))
