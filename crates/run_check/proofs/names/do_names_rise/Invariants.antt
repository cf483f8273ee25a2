use Rattle.std.proofs.Common.{◌≡◌, drop, None}
use Rattle.run_check.specs.NameTests.{rise_after}
use Rattle.run_check.proofs.names.do_names_rise.Given as goal

abbrev pub invariant-loop-name : goal.invariant-loop-name
invariant-loop-name l = rise_after None l.names ≡ rise_after l.last (drop l.name-index l.names)
