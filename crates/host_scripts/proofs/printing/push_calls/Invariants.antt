use Rattle.std.proofs.Common.{◌≡◌, ◌++◌, drop, map}
use Rattle.std.specs.List.{flat_map}
use Rattle.text_fields.specs.Spelling.{line}
use Rattle.host_scripts.specs.Scripts.{call_text}
use Rattle.host_scripts.proofs.printing.push_calls.Given as goal

abbrev pub invariant-loop-call : goal.invariant-loop-call
invariant-loop-call l = l.text ++ flat_map line (map call_text (drop l.call-index l.calls)) ≡ l.initial.text ++ flat_map line (map call_text l.calls)
