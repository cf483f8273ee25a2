use Rattle.std.proofs.Common.{◌≡◌, drop}
use Rattle.array_journal.specs.May.{is_named}
use Rattle.run_check.proofs.act_names.is_named.Given as goal

abbrev pub invariant-loop-name : goal.invariant-loop-name
invariant-loop-name l = is_named l.past l.command l.act l.target l.names ≡ is_named l.past l.command l.act l.target (drop l.name-index l.names)
