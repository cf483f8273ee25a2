-- A controller that served a read.
use Rattle.std.proofs.Common.{◌≡◌, ℕ, ◌+◌, ◌*◌, ◌<◌, true, List, [], ◌∷◌, reverse, None, refl, ap, sym, ◌∙◌, subst, add-one, inl}
use Rattle.sbc_cdbs.specs.declared.descriptor.Cdb.{Cdb}
use Rattle.sbc_cdbs.specs.Cdbs.{cdb_bytes, SpellsCdb}
use Rattle.array_journal.specs.declared.at.At.{At}
use Rattle.array_journal.specs.declared.entry.Entry.{Entry}
use Rattle.array_journal.specs.declared.event.Event.TheVariants.{Fetch, Open, Close}
use Rattle.array_journal.specs.declared.setting.Setting.{Setting}
use Rattle.array_journal.specs.declared.task.Task.{Task}
use Rattle.array_journal.specs.declared.task.Kind.TheVariants.{Read}
use Rattle.blocks_core.specs.Lists.{slice}
use Rattle.array_journal.specs.Commands.{open_count}
use Rattle.array_journal.specs.declared.act.Act.TheVariants.{Fetches}
use Rattle.array_journal.specs.Acts.{cdb_of}
use Rattle.array_journal.specs.Media.{media}
use Rattle.array_journal.specs.Calm.{Calm}
use Rattle.array_journal.specs.Serving.{read_entries}
use Rattle.array_journal.proofs.calm.ReadRuns.{read-media, read-count}
use Rattle.array_journal.proofs.calm.CalmServed.{calm-read}
use Rattle.xor_cli.specs.Arrays.{Array}
use Rattle.xor_cli.specs.declared.array.controller.Served.{Served}
use Rattle.xor_cli.specs.Disks.{disk_of}
use Rattle.xor_cli.specs.Serving.{next_at, with_next}
use Rattle.xor_cli.specs.Rest.{IsAtRest, IsServable, IsServed}
use Rattle.xor_cli.proofs.Journals.{read-appended}

-- what serves a command that a controller opened
abbrev pub served_of : Array → Task → Served
served_of old task = record { command = old.commands; opened = next_at old.journal 0; row = task.row; count = task.count }

-- a controller after the opening of a command
abbrev pub opened : Array → Task → Array
opened old task = record old { journal = with_next old.journal 0 (Open old.commands task); commands = old.commands + 1 }

abbrev pub place_of : Setting → Served → ℕ
place_of s v = v.row * s.geometry.block

abbrev pub length_of : Setting → Served → ℕ
length_of s v = v.count * s.geometry.block

-- after a fetch
abbrev pub fetched : Array → Served → ℕ → Cdb → Array
fetched m v target cdb =
    record m { journal = with_next m.journal (target + 1) (Fetch v.command v.opened cdb v.row (slice (disk_of m.disks target).medium (place_of m.setting v) (length_of m.setting v))) }

-- after a close as done
abbrev pub closed : Array → Served → List At → Array
closed m v names = record m { journal = with_next m.journal 0 (Close v.command true names None []) }

-- a controller that read
abbrev pub after_read : Array → Task → Cdb → Array
after_read old task cdb =
    closed (fetched (opened old task) (served_of old task) task.target cdb) (served_of old task) (next_at (opened old task).journal (task.target + 1) ∷ [])

-- its journal
pub read-journal : (old : Array) (task : Task) (cdb : Cdb) → IsAtRest old → task.target < old.setting.geometry.targets →
    reverse (after_read old task cdb).journal ≡ read_entries old.setting (reverse old.journal) task cdb
read-journal old task cdb rest below =
    read-appended old.setting old.journal task cdb old.commands (next_at old.journal 0) (next_at (with_next old.journal 0 (Open old.commands task)) (task.target + 1))
    (slice (disk_of old.disks task.target).medium (task.row * old.setting.geometry.block) (task.count * old.setting.geometry.block))
    rest.counted refl refl
    (ap (λ m. slice m (task.row * old.setting.geometry.block) (task.count * old.setting.geometry.block)) (rest.targets.media task.target below))

-- the controller is at rest again
pub read-served : (old : Array) (task : Task) (cdb : Cdb) → IsAtRest old → IsServable old.setting task → task.kind ≡ Read →
    SpellsCdb (cdb_bytes cdb) (cdb_of old.setting task 0 Fetches) → IsServed old (after_read old task cdb) task
read-served old task cdb rest can kind spelt =
    let journal : reverse (after_read old task cdb).journal ≡ read_entries old.setting (reverse old.journal) task cdb =
    read-journal old task cdb rest can.sound.target in
    let P : List Entry → Type 0 = λ past. Calm old.setting past in
    record {
      rest = record {
        setting = rest.setting;
        supervised = rest.supervised;
        calm = subst P (sym journal) (calm-read old.setting (reverse old.journal) task cdb rest.calm can.sound kind spelt);
        counted = ap (λ n. n + 1) rest.counted ∙ add-one (open_count (reverse old.journal))
            ∙ sym (read-count old.setting (reverse old.journal) task cdb) ∙ ap open_count (sym journal);
        targets = record {
          count = rest.targets.count;
          media = λ i h. rest.targets.media i h ∙ sym (read-media old.setting (reverse old.journal) task cdb i) ∙ ap (media old.setting i) (sym journal);
        };
      };
      setting = refl;
      answered = inl (cdb, journal);
    }

-- what a controller's steps come to
pub read-steps : (old m1 m2 new : Array) (task : Task) (v : Served) (cdb : Cdb) (at : At) (names : List At) →
    v ≡ served_of old task → m1 ≡ opened old task → m2 ≡ fetched m1 v task.target cdb → at ≡ next_at m1.journal (task.target + 1) →
    names ≡ at ∷ [] → new ≡ closed m2 v names → new ≡ after_read old task cdb
read-steps old m1 m2 new task v cdb at names hv h1 h2 ha hn h3 =
    h3 ∙ ap (λ m. closed m v names) h2 ∙ ap (closed (fetched m1 v task.target cdb) v) (hn ∙ ap (λ a. a ∷ []) ha)
    ∙ ap (λ m. closed (fetched m v task.target cdb) v (next_at m.journal (task.target + 1) ∷ [])) h1
    ∙ ap (λ w. closed (fetched (opened old task) w task.target cdb) w (next_at (opened old task).journal (task.target + 1) ∷ [])) hv
