-- The test of a put decides whether it may follow.
use Rattle.std.proofs.Common.{ℕ, List, length, map}
use Rattle.std.specs.Bool.{Decides}
use Rattle.std.proofs.lemmas.Bool.Decides.{Decides-and, Decides-like}
use Rattle.std.proofs.lemmas.Slice.Eq.{bytes_eq-Decides}
use Rattle.blocks_core.specs.Xor.{xor, xor_all}
use Rattle.sbc_cdbs.specs.declared.descriptor.Cdb.{Cdb}
use Rattle.array_journal.specs.declared.at.At.{At}
use Rattle.array_journal.specs.declared.entry.Entry.{Entry}
use Rattle.array_journal.specs.declared.setting.Setting.{Setting}
use Rattle.array_journal.specs.declared.act.Act.TheVariants.{Fetches, Puts}
use Rattle.array_journal.specs.Acts.{is_act}
use Rattle.array_journal.specs.May.{SomeTask, MayPut, bytes_named, fetched_targets}
use Rattle.run_check.proofs.NamesDecided.{names_at-decided}
use Rattle.run_check.proofs.ActDecided.{of_opened-decided, act-decided}
use Rattle.run_check.specs.ActTest.{of_opened}
use Rattle.run_check.specs.PutTest.{may_put}

pub put-decided : (s : Setting) (past : List Entry) (stamp i c : ℕ) (opened : At) (cdb : Cdb) (row : ℕ) (bytes : List ℕ) (list : List At) →
    Decides (of_opened past stamp c opened (may_put s past stamp i c opened cdb row bytes list))
    (SomeTask (λ task. MayPut s past stamp i c opened cdb row bytes list task))
put-decided s past stamp i c opened cdb row bytes list =
    of_opened-decided past stamp c opened _ (λ task. MayPut s past stamp i c opened cdb row bytes list task)
    (λ task o.
    Decides-like (may_put s past stamp i c opened cdb row bytes list task)
    (λ p. record { act = p.0.0; fetched = p.0.1; made = p.1 })
    (λ (m : MayPut s past stamp i c opened cdb row bytes list task). ((m.act, m.fetched), m.made))
    (Decides-and _ _
    (Decides-and _ _ (act-decided s past stamp i c opened cdb row (length bytes) (length list) task Puts o)
    (names_at-decided past stamp (fetched_targets s task) (is_act Fetches c) list))
    (bytes_eq-Decides bytes (xor task.bytes (xor_all (length bytes) (map (bytes_named past) list))))))
    (λ task m. record { opening = m.act.opening; in_book = m.act.in_book })
