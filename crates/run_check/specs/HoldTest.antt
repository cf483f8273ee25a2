-- Whether a hold may follow, as a test over what the medium holds.
use Rattle.std.specs.Prelude.{◌&&◌, ◌*◌, not, ℕ, Bool, List, length, map}
use Rattle.std.specs.Str.{bytes_eq}
use Rattle.blocks_core.specs.Xor.{xor, xor_all}
use Rattle.sbc_cdbs.specs.declared.descriptor.Cdb.{Cdb}
use Rattle.array_journal.specs.declared.at.At.{At}
use Rattle.array_journal.specs.declared.entry.Entry.{Entry}
use Rattle.array_journal.specs.declared.setting.Setting.{Setting}
use Rattle.array_journal.specs.declared.task.Task.{Task}
use Rattle.array_journal.specs.declared.act.Act.TheVariants.{Fetches, Holds}
use Rattle.array_journal.specs.Acts.{is_act}
use Rattle.blocks_core.specs.Lists.{slice}
use Rattle.array_journal.specs.May.{bytes_named, fetched_targets}
use Rattle.run_check.specs.NameTests.{names_at}
use Rattle.run_check.specs.ActTest.{may_act}

abbrev pub may_hold : Setting → List Entry → ℕ → ℕ → ℕ → At → Cdb → ℕ → List ℕ → Bool → List At → Bool → List ℕ → Task → Bool
may_hold s past stamp i c opened cdb row bytes kept list back medium task =
    may_act s past i c opened cdb row (length bytes) (length list) task Holds && kept && not back
    && names_at past stamp (fetched_targets s task) (is_act Fetches c) list
    && bytes_eq bytes (xor (slice medium (row * s.geometry.block) (length bytes)) (xor_all (length bytes) (map (bytes_named past) list)))
