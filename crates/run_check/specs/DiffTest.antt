-- Whether a diff may follow, as a test.
use Rattle.std.specs.Prelude.{◌&&◌, nat_lt, ℕ, Bool, List, length}
use Rattle.std.specs.Str.{bytes_eq}
use Rattle.stripe_layout.specs.Modes.{sends_delta, hands_delta_back}
use Rattle.sbc_cdbs.specs.declared.descriptor.Cdb.{Cdb}
use Rattle.array_journal.specs.declared.at.At.{At}
use Rattle.array_journal.specs.declared.entry.Entry.{Entry}
use Rattle.array_journal.specs.declared.setting.Setting.{Setting}
use Rattle.array_journal.specs.declared.task.Task.{Task}
use Rattle.array_journal.specs.declared.act.Act.TheVariants.{Diffs}
use Rattle.array_journal.specs.Media.{drops}
use Rattle.run_check.specs.Plain.{same_bool}
use Rattle.run_check.specs.ActTest.{may_act}

abbrev pub may_diff : Setting → List Entry → ℕ → ℕ → At → Cdb → ℕ → List ℕ → Bool → Bool → Bool → Task → Bool
may_diff s past i c opened cdb row bytes sent dropped back task =
    may_act s past i c opened cdb row (length bytes) 0 task Diffs && bytes_eq bytes task.bytes
    && same_bool sent (sends_delta s.mode) && same_bool back (hands_delta_back s.mode)
    && same_bool dropped (sent && nat_lt 0 (drops i past))
