-- The test of a diff decides whether it may follow.
use Rattle.std.proofs.Common.{ℕ, ◌&&◌, nat_lt, Bool, List, length}
use Rattle.std.specs.Bool.{Decides}
use Rattle.std.proofs.lemmas.Bool.Decides.{Decides-and, Decides-like}
use Rattle.std.proofs.lemmas.Slice.Eq.{bytes_eq-Decides}
use Rattle.stripe_layout.specs.Modes.{sends_delta, hands_delta_back}
use Rattle.sbc_cdbs.specs.declared.descriptor.Cdb.{Cdb}
use Rattle.array_journal.specs.declared.at.At.{At}
use Rattle.array_journal.specs.declared.entry.Entry.{Entry}
use Rattle.array_journal.specs.declared.setting.Setting.{Setting}
use Rattle.array_journal.specs.declared.act.Act.TheVariants.{Diffs}
use Rattle.array_journal.specs.May.{SomeTask, MayDiff}
use Rattle.array_journal.specs.Media.{drops}
use Rattle.run_check.proofs.PlainDecided.{Decides-bool}
use Rattle.run_check.proofs.ActDecided.{of_opened-decided, act-decided}
use Rattle.run_check.specs.ActTest.{of_opened}
use Rattle.run_check.specs.DiffTest.{may_diff}

pub diff-decided : (s : Setting) (past : List Entry) (stamp i c : ℕ) (opened : At) (cdb : Cdb) (row : ℕ) (bytes : List ℕ) (sent dropped back : Bool) →
    Decides (of_opened past stamp c opened (may_diff s past i c opened cdb row bytes sent dropped back))
    (SomeTask (λ task. MayDiff s past stamp i c opened cdb row bytes sent dropped back task))
diff-decided s past stamp i c opened cdb row bytes sent dropped back =
    of_opened-decided past stamp c opened _ (λ task. MayDiff s past stamp i c opened cdb row bytes sent dropped back task)
    (λ task o.
    Decides-like (may_diff s past i c opened cdb row bytes sent dropped back task)
    (λ p. record { act = p.0.0.0.0; written = p.0.0.0.1; sent_by_mode = p.0.0.1; back_by_mode = p.0.1; dropped_when_due = p.1 })
    (λ (m : MayDiff s past stamp i c opened cdb row bytes sent dropped back task). ((((m.act, m.written), m.sent_by_mode), m.back_by_mode), m.dropped_when_due))
    (Decides-and _ _
    (Decides-and _ _
    (Decides-and _ _
    (Decides-and _ _ (act-decided s past stamp i c opened cdb row (length bytes) 0 task Diffs o) (bytes_eq-Decides bytes task.bytes))
    (Decides-bool sent (sends_delta s.mode)))
    (Decides-bool back (hands_delta_back s.mode)))
    (Decides-bool dropped (sent && nat_lt 0 (drops i past)))))
    (λ task m. record { opening = m.act.opening; in_book = m.act.in_book })
