use Rattle.host_requests.specs.Settings.{setting_of}
use Rattle.trace_check.proofs.parting.PrintedParted.{printed-parted}
use Rattle.trace_check.proofs.ToldJournals.{told-journal, run-rises}
use Rattle.trace_check.proofs.laws.printed_runs_are_accepted.Goals as goal

pub printed_is_read-requires : goal.printed_is_read-requires
printed_is_read-requires c = record {
  told = told-journal c.args.script.now c.args.journal.now c.requires.asked;
  rises = run-rises (setting_of c.args.script.now) c.args.journal.now c.requires.run;
}

pub returns : goal.returns
returns c = record {
  short = c.requires.short;
  parted = printed-parted c.args.script.now c.args.journal.now c.requires.script;
  in_range = c.requires.script;
  within = c.requires.within;
  readable = c.printed_is_read.ensures;
  run = c.requires.run;
  asked = c.requires.asked;
}
