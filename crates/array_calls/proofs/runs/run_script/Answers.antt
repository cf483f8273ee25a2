use Rattle.std.proofs.Common.{ap, sym, subst, ◌∙◌}
use Rattle.unit_plans.specs.Buses.{merged}
use Rattle.history_locks.specs.PlainBuses.{IsNew, PlainState, lists_of}
use Rattle.array_calls.proofs.FirstRows.{bus-is, bus-new, none-merged}
use Rattle.array_calls.proofs.runs.run_script.Goals as goal

pub new-bus-requires-clause-first : goal.new-bus-requires-clause-first
new-bus-requires-clause-first c =
    subst IsNew (sym (bus-is c.args.script.now c.in_ok-targets.targets.items c.in_ok-book.book c.first_page.result c.in_ok-targets.ensures c.in_ok-book.ensures c.first_page.ensures))
    (bus-new c.args.script.now)

pub serve_script-requires-clause-first : goal.serve_script-requires-clause-first
serve_script-requires-clause-first c =
    ap (λ (bus : PlainState). merged (lists_of bus))
    (c.new-bus.ensures.bus ∙ bus-is c.args.script.now c.in_ok-targets.targets.items c.in_ok-book.book c.first_page.result c.in_ok-targets.ensures c.in_ok-book.ensures c.first_page.ensures)
    ∙ none-merged c.args.script.now
