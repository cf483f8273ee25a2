use Rattle.std.proofs.Common.{inr}
use Rattle.xor_params.proofs.TableLemmas.{bytes_are_clean, lowest_of_bytes}
use Rattle.xor_params.proofs.faults.check.Goals as goal

pub returns-in-Some-clause-refused : goal.returns-in-Some-clause-refused
returns-in-Some-clause-refused c =
    inr (inr (lowest_of_bytes c.args.bytes.now c.args.intdata c.args.bytes_wanted c.table_of.result.now c.in-Some.place c.in_ok-check_head.ensures.head c.in_ok-check_head.ensures.whole c.table_of.ensures.count c.table_of.ensures.places c.in-Some.ensures))

pub returns-in-None-clause-clean : goal.returns-in-None-clause-clean
returns-in-None-clause-clean c =
    bytes_are_clean c.args.bytes.now c.table_of.result.now c.table_of.ensures.count c.table_of.ensures.places c.in-None.ensures
