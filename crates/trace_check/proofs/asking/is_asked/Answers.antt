use Rattle.std.proofs.Common.{◌≡◌, ◌<◌, ◌∙◌, ℕ, List, length, reverse, ap, subst, sym}
use Rattle.std.specs.Prelude.{◌↔◌, IsTrue}
use Rattle.array_journal.specs.declared.entry.Entry.{Entry}
use Rattle.array_journal.specs.Run.{NoneOpen}
use Rattle.stripe_check.specs.Asked.{AreServed}
use Rattle.trace_check.specs.EntrySteps.{AreStepsOf}
use Rattle.trace_check.specs.declared.asking.entry_steps.EntryStep.{EntryStep}
use Rattle.trace_check.proofs.AskedWhole.{asked-decided}
use Rattle.trace_check.proofs.AskedOfSteps.{marked-turns, as-many-entry_steps}
use Rattle.trace_check.proofs.asking.is_asked.Goals as goal

pub are_served-requires-clause-few : goal.are_served-requires-clause-few
are_served-requires-clause-few c =
    let n : length c.as_slice-entry_steps.result.now ≡ length c.args.journal.now
    = ap (λ (l : List EntryStep). length l) c.as_slice-entry_steps.ensures.value
    ∙ as-many-entry_steps c.args.scanned.now.scan.entry_steps.items c.args.journal.now c.requires.scanned.scan.entry_steps in
    subst (λ (x : ℕ). x < 4294967296) (sym n) c.requires.few

pub are_served-requires-clause-marked : goal.are_served-requires-clause-marked
are_served-requires-clause-marked c =
    let entries = c.args.journal.now in
    let marked = subst (λ (l : List EntryStep). AreStepsOf (reverse l) (reverse entries)) (sym c.as_slice-entry_steps.ensures.value) c.requires.scanned.scan.entry_steps in
    subst (λ (l : List Entry). AreStepsOf (reverse c.as_slice-entry_steps.result.now) l) (sym (c.in_ok-noted.ensures ∙ c.new-past.ensures ∙ ap (λ (l : List Entry). reverse l) c.as_slice-entries.ensures)) marked

pub returns : goal.returns
returns c =
    let script = c.args.script.now in
    let entries = c.args.journal.now in
    let scan = c.args.scanned.now.scan in
    let marked = subst (λ (l : List EntryStep). AreStepsOf (reverse l) (reverse entries)) (sym c.as_slice-entry_steps.ensures.value) c.requires.scanned.scan.entry_steps in
    let served = subst (λ (l : List Entry). IsTrue c.in_ok-served.served ↔ AreServed script l 1 script.calls) (c.in_ok-noted.ensures ∙ c.new-past.ensures ∙ ap (λ (l : List Entry). reverse l) c.as_slice-entries.ensures) c.in_ok-served.ensures in
    let closed = subst (λ (l : List Entry). IsTrue c.is_none_open-closed.result ↔ NoneOpen l) (c.new-past.ensures ∙ ap (λ (l : List Entry). reverse l) c.as_slice-entries.ensures) c.is_none_open-closed.ensures in
    rw c.are_all.ensures
    (asked-decided script (reverse entries) c.are_in_turn-in_turn.result c.in_ok-served.served scan.decided scan.owned c.is_none_open-closed.result
    (marked-turns script c.are_in_turn-in_turn.result (reverse c.as_slice-entry_steps.result.now) (reverse entries) marked c.are_in_turn-in_turn.ensures)
    served c.requires.scanned.scan.decided c.requires.scanned.scan.owned closed)
