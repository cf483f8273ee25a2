-- The test of a hold decides whether it may follow.
use Rattle.std.proofs.Common.{ℕ, ◌*◌, Bool, List, length, map}
use Rattle.std.specs.Bool.{Decides}
use Rattle.std.proofs.lemmas.Bool.Decides.{Decides-and, Decides-like}
use Rattle.std.proofs.lemmas.Slice.Eq.{bytes_eq-Decides}
use Rattle.blocks_core.specs.Xor.{xor, xor_all}
use Rattle.sbc_cdbs.specs.declared.descriptor.Cdb.{Cdb}
use Rattle.array_journal.specs.declared.at.At.{At}
use Rattle.array_journal.specs.declared.entry.Entry.{Entry}
use Rattle.array_journal.specs.declared.setting.Setting.{Setting}
use Rattle.array_journal.specs.declared.act.Act.TheVariants.{Fetches, Holds}
use Rattle.array_journal.specs.Acts.{is_act}
use Rattle.blocks_core.specs.Lists.{slice}
use Rattle.array_journal.specs.May.{SomeTask, MayHold, bytes_named, fetched_targets}
use Rattle.array_journal.specs.Media.{media}
use Rattle.run_check.proofs.PlainDecided.{Decides-true, Decides-false}
use Rattle.run_check.proofs.NamesDecided.{names_at-decided}
use Rattle.run_check.proofs.ActDecided.{of_opened-decided, act-decided}
use Rattle.run_check.specs.ActTest.{of_opened}
use Rattle.run_check.specs.HoldTest.{may_hold}

pub hold-decided : (s : Setting) (past : List Entry) (stamp i c : ℕ) (opened : At) (cdb : Cdb) (row : ℕ) (bytes : List ℕ) (kept : Bool) (list : List At) (back : Bool) →
    Decides (of_opened past stamp c opened (may_hold s past stamp i c opened cdb row bytes kept list back (media s i past)))
    (SomeTask (λ task. MayHold s past stamp i c opened cdb row bytes kept list back task))
hold-decided s past stamp i c opened cdb row bytes kept list back =
    of_opened-decided past stamp c opened _ (λ task. MayHold s past stamp i c opened cdb row bytes kept list back task)
    (λ task o.
    Decides-like (may_hold s past stamp i c opened cdb row bytes kept list back (media s i past) task)
    (λ p. record { act = p.0.0.0.0; kept_here = p.0.0.0.1; not_handed = p.0.0.1; fetched = p.0.1; made = p.1 })
    (λ (m : MayHold s past stamp i c opened cdb row bytes kept list back task). ((((m.act, m.kept_here), m.not_handed), m.fetched), m.made))
    (Decides-and _ _
    (Decides-and _ _
    (Decides-and _ _
    (Decides-and _ _ (act-decided s past stamp i c opened cdb row (length bytes) (length list) task Holds o) (Decides-true kept))
    (Decides-false back))
    (names_at-decided past stamp (fetched_targets s task) (is_act Fetches c) list))
    (bytes_eq-Decides bytes (xor (slice (media s i past) (row * s.geometry.block) (length bytes)) (xor_all (length bytes) (map (bytes_named past) list))))))
    (λ task m. record { opening = m.act.opening; in_book = m.act.in_book })
