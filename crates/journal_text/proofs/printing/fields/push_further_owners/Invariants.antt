use Rattle.std.proofs.Common.{◌≡◌, ◌++◌, drop}
use Rattle.std.specs.Fmt.{decimal}
use Rattle.journal_text.specs.Traces.{further}
use Rattle.journal_text.proofs.printing.fields.push_further_owners.Given as goal

abbrev pub invariant-loop-owner : goal.invariant-loop-owner
invariant-loop-owner l = l.text ++ further decimal (drop l.owner-index l.owners) ≡ l.initial.text ++ further decimal l.owners
