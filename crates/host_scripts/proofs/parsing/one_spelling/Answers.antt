use Rattle.host_scripts.specs.Refusals.{script_grammar}
use Rattle.host_scripts.specs.Reading.{script_at}
use Rattle.host_scripts.proofs.Refused.{script_reading}
use Rattle.host_scripts.proofs.WholeReading.{one-spelling}
use Rattle.host_scripts.proofs.parsing.one_spelling.Goals as goal

pub returns : goal.returns
returns c = one-spelling script_grammar script_at script_reading
