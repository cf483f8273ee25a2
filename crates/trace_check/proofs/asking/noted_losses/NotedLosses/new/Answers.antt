use Rattle.std.proofs.Common.{◌≡◌, ◌==◌, ◌&&◌, ℕ, List, take, sym, subst, reverse}
use Rattle.array_journal.specs.declared.entry.Entry.{Entry}
use Rattle.stripe_check.specs.Asked.{notes_life}
use Rattle.stripe_check.proofs.Journals.{read_more}
use Rattle.trace_check.specs.NotedLosses.{is_life_of, KeepsLives}
use Rattle.trace_check.proofs.LossesNoted.{lives-more}
use Rattle.trace_check.proofs.asking.noted_losses.NotedLosses.new.Goals as goal

pub loop-entry-init : goal.loop-entry-init
loop-entry-init c = c.new-lives.ensures (reverse c.entries-entries.result.now)

pub loop-entry-preserved : goal.loop-entry-preserved
loop-entry-preserved c =
    let entries = c.entries-entries.result.now in
    let whole : List Entry = reverse entries in
    let index = c.loop-entry.entry-index in
    let entry : Entry = c.entry-item.result in
    let life = c.noted_by.result in
    let Notes : List Entry → Type 0 = λ l. (target other : ℕ) → is_life_of target other life ≡ ((entry.lock == 0) && notes_life l target other entry.event) in
    let noted : Notes whole = subst Notes c.entries-entries.ensures c.noted_by.ensures in
    subst (λ (l : List Entry). KeepsLives whole l c.add.new.self) (sym (read_more entries index entry c.loop-entry-test.true (sym c.entry-item.is)))
    (lives-more whole (reverse (take index entries)) entry c.loop-entry.lives c.add.new.self life noted c.in_ok-add.ensures c.loop-entry.invariant)
