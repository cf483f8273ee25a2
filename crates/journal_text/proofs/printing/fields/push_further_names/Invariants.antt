use Rattle.std.proofs.Common.{◌≡◌, ◌++◌, drop}
use Rattle.journal_text.specs.Traces.{further, at_text}
use Rattle.journal_text.proofs.printing.fields.push_further_names.Given as goal

abbrev pub invariant-loop-name : goal.invariant-loop-name
invariant-loop-name l = l.text ++ further at_text (drop l.name-index l.names) ≡ l.initial.text ++ further at_text l.names
