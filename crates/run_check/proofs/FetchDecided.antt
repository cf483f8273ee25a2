-- The test of a fetch decides whether it may follow.
use Rattle.std.proofs.Common.{ℕ, ◌*◌, List, length}
use Rattle.std.specs.Bool.{Decides}
use Rattle.std.proofs.lemmas.Bool.Decides.{Decides-and, Decides-like}
use Rattle.std.proofs.lemmas.Slice.Eq.{bytes_eq-Decides}
use Rattle.sbc_cdbs.specs.declared.descriptor.Cdb.{Cdb}
use Rattle.array_journal.specs.declared.at.At.{At}
use Rattle.array_journal.specs.declared.entry.Entry.{Entry}
use Rattle.array_journal.specs.declared.setting.Setting.{Setting}
use Rattle.array_journal.specs.declared.act.Act.TheVariants.{Fetches}
use Rattle.blocks_core.specs.Lists.{slice}
use Rattle.array_journal.specs.May.{SomeTask, MayFetch}
use Rattle.array_journal.specs.Media.{media}
use Rattle.run_check.proofs.ActDecided.{of_opened-decided, act-decided}
use Rattle.run_check.specs.ActTest.{of_opened}
use Rattle.run_check.specs.FetchTest.{may_fetch}

pub fetch-decided : (s : Setting) (past : List Entry) (stamp i c : ℕ) (opened : At) (cdb : Cdb) (row : ℕ) (bytes : List ℕ) →
    Decides (of_opened past stamp c opened (may_fetch s past stamp i c opened cdb row bytes (media s i past)))
    (SomeTask (λ task. MayFetch s past stamp i c opened cdb row bytes task))
fetch-decided s past stamp i c opened cdb row bytes =
    of_opened-decided past stamp c opened _ (λ task. MayFetch s past stamp i c opened cdb row bytes task)
    (λ task o.
    Decides-like (may_fetch s past stamp i c opened cdb row bytes (media s i past) task)
    (λ p. record { act = p.0; read = p.1 })
    (λ (m : MayFetch s past stamp i c opened cdb row bytes task). (m.act, m.read))
    (Decides-and _ _ (act-decided s past stamp i c opened cdb row (length bytes) 0 task Fetches o)
    (bytes_eq-Decides bytes (slice (media s i past) (row * s.geometry.block) (length bytes)))))
    (λ task m. record { opening = m.act.opening; in_book = m.act.in_book })
