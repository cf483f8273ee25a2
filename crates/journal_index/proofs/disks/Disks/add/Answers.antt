use Rattle.std.proofs.Common.{◌<◌, sym, ap, subst, ◌∙◌, cond, lt_of_le_of_lt}
use Rattle.std.specs.Prelude.{◌==◌}
use Rattle.array_journal.specs.Entries.{name_of}
use Rattle.journal_index.specs.Disks.{new_disk, disk_after, disk_at}
use Rattle.journal_index.proofs.Keys.{put_or}
use Rattle.journal_index.proofs.DiskLaws.{life-le, drops-le}
use Rattle.journal_index.proofs.disks.Disks.add.Goals as goal

pub returns-in_ok-insert : goal.returns-in_ok-insert
returns-in_ok-insert c = λ past small keeps lock.
    let e = c.args.entry.now in
    let key = c.from-lock.result in
    let known = c.at.ensures ∙ keeps key in
    let life = subst (λ d. d.life < 9223372036854775808) (sym known) (lt_of_le_of_lt (life-le key past) small) in
    let drops = subst (λ d. d.drops < 9223372036854775808) (sym known) (lt_of_le_of_lt (drops-le key past) small) in
    let made = c.disk_after-disk.ensures life drops ∙ ap (disk_after (name_of e) e.event) known in
    put_or key lock c.disk_after-disk.result new_disk _ _ (λ l. disk_after (name_of e) e.event (disk_at l past)) (disk_at lock past)
    (c.in_ok-insert.ensures.updates.0 lock) made (keeps lock)
    ∙ ap (λ k. cond (k == lock) (disk_after (name_of e) e.event (disk_at lock past)) (disk_at lock past)) c.from-lock.ensures
