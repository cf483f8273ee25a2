use Rattle.std.proofs.Common.{◌≡◌, ◌==◌, ◌&&◌, ◌+◌, ◌<◌, ℕ, Bool, true, false, List, [], ◌∷◌, Option, None, Some, cond, length, take, get_or, reverse, ap, sym, ◌∙◌}
use Rattle.std.proofs.lemmas.Bool.{false≢true}
use Rattle.std.proofs.lemmas.List.{take_more, reverse-append}
use Rattle.array_journal.specs.declared.at.At.{At}
use Rattle.array_journal.specs.declared.entry.Entry.{Entry}
use Rattle.array_journal.specs.Acts.{shuts_command}
use Rattle.array_journal.specs.Entries.{name_of}
use Rattle.array_journal.specs.Owners.{shut_at}
use Rattle.machine_calls.proofs.target_calls.is_shut.Goals as goal

unnamed : (a b : Bool) (name : At) (before : Option At) → b ≡ false → before ≡ None → cond (a && b) (Some name) before ≡ None
unnamed true true name before quiet none = absurd (false≢true (sym quiet))
unnamed true false name before quiet none = none
unnamed false b name before quiet none = none

-- the entries so far, newest first, with the one that is met
met : (entries : List Entry) (k : ℕ) (e : Entry) → k < length entries → get_or entries k e ≡ e → reverse (take (k + 1) entries) ≡ e ∷ reverse (take k entries)
met entries k e here is =
    ap reverse (take_more entries k e here) ∙ reverse-append (take k entries) (get_or entries k e ∷ []) ∙ ap (λ x. x ∷ reverse (take k entries)) is

-- one more entry that doesn't shut the owner
unshut-more : (i owner : ℕ) (e : Entry) (past : List Entry) → shuts_command owner e.event ≡ false → shut_at i owner past ≡ None → shut_at i owner (e ∷ past) ≡ None
unshut-more i owner e past quiet none = unnamed (e.lock == i + 1) (shuts_command owner e.event) (name_of e) (shut_at i owner past) quiet none

pub loop-entry-preserved : goal.loop-entry-preserved
loop-entry-preserved c =
    rw (met _ c.loop-entry.entry-index c.entry-item.result c.loop-entry-test.true (sym c.entry-item.is))
    (unshut-more _ _ c.entry-item.result _ (sym c.does_shut.ensures ∙ c.if-does_shut.false) c.loop-entry.invariant)
