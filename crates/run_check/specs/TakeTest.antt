-- Whether a take may follow, as a test over what the buffer holds.
use Rattle.std.specs.Prelude.{◌&&◌, ℕ, Bool, List, length}
use Rattle.sbc_cdbs.specs.declared.descriptor.Cdb.{Cdb}
use Rattle.array_journal.specs.declared.at.At.{At}
use Rattle.array_journal.specs.declared.entry.Entry.{Entry}
use Rattle.array_journal.specs.declared.setting.Setting.{Setting}
use Rattle.array_journal.specs.declared.task.Task.{Task}
use Rattle.array_journal.specs.declared.act.Act.TheVariants.{Takes}
use Rattle.xor_buffers.specs.declared.held.HeldBlocks.{HeldBlocks}
use Rattle.xor_buffers.specs.Held.{rows_held}
use Rattle.run_check.specs.Plain.{same_found}
use Rattle.run_check.specs.ActTest.{may_act}

abbrev pub may_take : Setting → List Entry → ℕ → ℕ → At → Cdb → ℕ → List ℕ → List HeldBlocks → Task → Bool
may_take s past i c opened cdb row bytes holds task =
    may_act s past i c opened cdb row (length bytes) 0 task Takes
    && same_found bytes (rows_held s.geometry.block c row (length bytes) holds)
