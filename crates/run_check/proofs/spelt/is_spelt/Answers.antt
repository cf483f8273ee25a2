use Rattle.std.proofs.lemmas.Bool.Decides.{same_from_decides}
use Rattle.array_journal.specs.Acts.{cdb_of}
use Rattle.run_check.specs.Spelt.{is_spelt}
use Rattle.run_check.proofs.SpeltDecided.{spelt-decided}
use Rattle.run_check.proofs.spelt.is_spelt.Goals as goal

pub returns : goal.returns
returns c =
    let command = cdb_of c.args.setting.now c.args.task.now c.args.sources c.args.act in
    same_from_decides c.does_spell.result (is_spelt c.args.cdb.now command) c.does_spell.ensures (spelt-decided c.args.cdb.now command)
