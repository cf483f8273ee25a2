use Rattle.host_scripts.specs.Refusals.{script_grammar}
use Rattle.host_scripts.specs.Reading.{script_at}
use Rattle.host_scripts.proofs.Refused.{script_reading}
use Rattle.host_scripts.proofs.WholeReading.{read-clause, spelt-clause, refused-clause}
use Rattle.host_scripts.proofs.parsing.parse.Goals as goal

pub returns-clause-read : goal.returns-clause-read
returns-clause-read c = read-clause script_grammar script_at script_reading c.args.bytes.now c.read_script.result c.read_script.ensures.value

pub returns-clause-spelt : goal.returns-clause-spelt
returns-clause-spelt c = spelt-clause script_grammar script_at script_reading c.args.bytes.now c.read_script.result c.read_script.ensures.value

pub returns-clause-refused : goal.returns-clause-refused
returns-clause-refused c = refused-clause script_grammar script_at script_reading c.args.bytes.now c.read_script.result c.read_script.ensures.value
