-- Whether a put may follow, as a test.
use Rattle.std.specs.Prelude.{◌&&◌, ℕ, Bool, List, length, map}
use Rattle.std.specs.Str.{bytes_eq}
use Rattle.blocks_core.specs.Xor.{xor, xor_all}
use Rattle.sbc_cdbs.specs.declared.descriptor.Cdb.{Cdb}
use Rattle.array_journal.specs.declared.at.At.{At}
use Rattle.array_journal.specs.declared.entry.Entry.{Entry}
use Rattle.array_journal.specs.declared.setting.Setting.{Setting}
use Rattle.array_journal.specs.declared.task.Task.{Task}
use Rattle.array_journal.specs.declared.act.Act.TheVariants.{Fetches, Puts}
use Rattle.array_journal.specs.Acts.{is_act}
use Rattle.array_journal.specs.May.{bytes_named, fetched_targets}
use Rattle.run_check.specs.NameTests.{names_at}
use Rattle.run_check.specs.ActTest.{may_act}

abbrev pub may_put : Setting → List Entry → ℕ → ℕ → ℕ → At → Cdb → ℕ → List ℕ → List At → Task → Bool
may_put s past stamp i c opened cdb row bytes list task =
    may_act s past i c opened cdb row (length bytes) (length list) task Puts
    && names_at past stamp (fetched_targets s task) (is_act Fetches c) list
    && bytes_eq bytes (xor task.bytes (xor_all (length bytes) (map (bytes_named past) list)))
