-- Whether a fetch may follow, as a test over what the medium holds.
use Rattle.std.specs.Prelude.{◌&&◌, ◌*◌, ℕ, Bool, List, length}
use Rattle.std.specs.Str.{bytes_eq}
use Rattle.sbc_cdbs.specs.declared.descriptor.Cdb.{Cdb}
use Rattle.array_journal.specs.declared.at.At.{At}
use Rattle.array_journal.specs.declared.entry.Entry.{Entry}
use Rattle.array_journal.specs.declared.setting.Setting.{Setting}
use Rattle.array_journal.specs.declared.task.Task.{Task}
use Rattle.array_journal.specs.declared.act.Act.TheVariants.{Fetches}
use Rattle.blocks_core.specs.Lists.{slice}
use Rattle.run_check.specs.ActTest.{may_act}

abbrev pub may_fetch : Setting → List Entry → ℕ → ℕ → ℕ → At → Cdb → ℕ → List ℕ → List ℕ → Task → Bool
may_fetch s past stamp i c opened cdb row bytes medium task =
    may_act s past i c opened cdb row (length bytes) 0 task Fetches
    && bytes_eq bytes (slice medium (row * s.geometry.block) (length bytes))
