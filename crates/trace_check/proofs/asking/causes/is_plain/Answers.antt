use Rattle.std.proofs.Common.{ap}
use Rattle.std.proofs.lemmas.Bool.Decides.{Decides-eqb, Decides-like}
use Rattle.array_journal.specs.declared.event.Why.{Why}
use Rattle.trace_check.specs.CauseNumbers.{number_of}
use Rattle.trace_check.proofs.CausesTold.{plain-one}
use Rattle.trace_check.proofs.asking.causes.is_plain.Goals as goal

pub returns : goal.returns
returns c =
    rw (c.cause_number.ensures, c.cause_number-2.ensures)
    (Decides-like _ (plain-one c.args.a c.args.b c.requires) (λ e. ap (λ (w : Why). number_of w) e) (Decides-eqb (number_of c.args.a) (number_of c.args.b)))
