-- The test of a take decides whether it may follow.
use Rattle.std.proofs.Common.{ℕ, List, length}
use Rattle.std.specs.Bool.{Decides}
use Rattle.std.proofs.lemmas.Bool.Decides.{Decides-and, Decides-like}
use Rattle.sbc_cdbs.specs.declared.descriptor.Cdb.{Cdb}
use Rattle.array_journal.specs.declared.at.At.{At}
use Rattle.array_journal.specs.declared.entry.Entry.{Entry}
use Rattle.array_journal.specs.declared.setting.Setting.{Setting}
use Rattle.array_journal.specs.declared.act.Act.TheVariants.{Takes}
use Rattle.array_journal.specs.May.{SomeTask, MayTake}
use Rattle.xor_buffers.specs.Held.{rows_held}
use Rattle.array_journal.specs.Media.{held}
use Rattle.run_check.proofs.PlainDecided.{Decides-found}
use Rattle.run_check.proofs.ActDecided.{of_opened-decided, act-decided}
use Rattle.run_check.specs.ActTest.{of_opened}
use Rattle.run_check.specs.TakeTest.{may_take}

pub take-decided : (s : Setting) (past : List Entry) (stamp i c : ℕ) (opened : At) (cdb : Cdb) (row : ℕ) (bytes : List ℕ) →
    Decides (of_opened past stamp c opened (may_take s past i c opened cdb row bytes (held s i past)))
    (SomeTask (λ task. MayTake s past stamp i c opened cdb row bytes task))
take-decided s past stamp i c opened cdb row bytes =
    of_opened-decided past stamp c opened _ (λ task. MayTake s past stamp i c opened cdb row bytes task)
    (λ task o.
    Decides-like (may_take s past i c opened cdb row bytes (held s i past) task)
    (λ p. record { act = p.0; taken = p.1 })
    (λ (m : MayTake s past stamp i c opened cdb row bytes task). (m.act, m.taken))
    (Decides-and _ _ (act-decided s past stamp i c opened cdb row (length bytes) 0 task Takes o)
    (Decides-found bytes (rows_held s.geometry.block c row (length bytes) (held s i past)))))
    (λ task m. record { opening = m.act.opening; in_book = m.act.in_book })
