use Rattle.std.proofs.Common.{◌≡◌, drop}
use Rattle.run_check.specs.ActNameTests.{fold_named}
use Rattle.run_check.proofs.act_names.is_fold_named.Given as goal

abbrev pub invariant-loop-name : goal.invariant-loop-name
invariant-loop-name l = fold_named l.past l.command l.names ≡ fold_named l.past l.command (drop l.name-index l.names)
