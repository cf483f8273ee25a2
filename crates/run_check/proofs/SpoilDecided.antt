-- The test of a spoil decides whether it may follow.
use Rattle.std.proofs.Common.{ℕ, ◌+◌, List}
use Rattle.std.specs.Bool.{Decides}
use Rattle.std.proofs.lemmas.Bool.Decides.{Decides-and, Decides-or, Decides-eqb, Decides-like}
use Rattle.array_journal.specs.declared.at.At.{At}
use Rattle.array_journal.specs.declared.entry.Entry.{Entry}
use Rattle.array_journal.specs.declared.setting.Setting.{Setting}
use Rattle.array_journal.specs.declared.task.Kind.TheVariants.{Update}
use Rattle.array_journal.specs.declared.task.Task.{Task}
use Rattle.array_journal.specs.declared.act.Act.TheVariants.{Diffs}
use Rattle.array_journal.specs.Acts.{is_act}
use Rattle.array_journal.specs.May.{MaySpoil, is_dropped_diff, discards, shuts_idle}
use Rattle.run_check.proofs.PlainDecided.{Decides-kind, Decides-at_name}
use Rattle.run_check.proofs.NamesDecided.{names-decided}
use Rattle.run_check.specs.SpoilTest.{may_spoil}

pub spoil-decided : (s : Setting) (past : List Entry) (stamp c : ℕ) (diff loss shut : At) (task : Task) →
    Decides (may_spoil past stamp c diff loss shut task) (MaySpoil s past stamp c diff loss shut task)
spoil-decided s past stamp c diff loss shut task =
    Decides-like (may_spoil past stamp c diff loss shut task)
    (λ p. record { update = p.0.0.0.0.0; at_target = p.0.0.0.0.1; differed = p.0.0.0.1; lost = p.0.0.1; at_parity = p.0.1; shut_idle = p.1 })
    (λ (m : MaySpoil s past stamp c diff loss shut task). (((((m.update, m.at_target), m.differed), m.lost), m.at_parity), m.shut_idle))
    (Decides-and _ _
    (Decides-and _ _
    (Decides-and _ _
    (Decides-and _ _ (Decides-and _ _ (Decides-kind task.kind Update) (Decides-eqb diff.lock (task.target + 1))) (names-decided past stamp diff (is_act Diffs c)))
    (Decides-or _ _
    (Decides-and _ _ (Decides-at_name loss diff) (names-decided past stamp diff (is_dropped_diff c)))
    (Decides-and _ _ (Decides-eqb loss.lock (task.target + 1)) (names-decided past stamp loss (discards c)))))
    (Decides-eqb shut.lock (task.parity + 1)))
    (names-decided past stamp shut (shuts_idle c)))
