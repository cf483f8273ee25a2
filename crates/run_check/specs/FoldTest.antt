-- Whether a fold may follow, as a test.
use Rattle.std.specs.Prelude.{◌==◌, ◌&&◌, ◌+◌, nat_lt, ℕ, Bool, false, List, [], ◌∷◌, length, Option, Some}
use Rattle.std.specs.Str.{bytes_eq}
use Rattle.sbc_cdbs.specs.declared.descriptor.Cdb.{Cdb}
use Rattle.array_journal.specs.declared.at.At.{At}
use Rattle.array_journal.specs.declared.entry.Entry.{Entry}
use Rattle.array_journal.specs.declared.event.Event.{Event}
use Rattle.array_journal.specs.declared.event.Event.TheVariants.{Diff, Take}
use Rattle.array_journal.specs.declared.setting.Setting.{Setting}
use Rattle.array_journal.specs.declared.task.Task.{Task}
use Rattle.array_journal.specs.declared.act.Act.TheVariants.{Folds}
use Rattle.array_journal.specs.Deltas.{delta_at}
use Rattle.array_journal.specs.Entries.{entry_at}
use Rattle.array_journal.specs.May.{is_under_way}
use Rattle.run_check.specs.Plain.{same_found}
use Rattle.run_check.specs.ActTest.{may_act}

-- what a fold may rest on
abbrev pub is_source : Setting → List Entry → ℕ → Task → At → List ℕ → Option Event → Bool
is_source s past c task name bytes (Some (Take command opened cdb row taken)) = (command == c) && bytes_eq taken bytes
is_source s past c task name bytes (Some (Diff command opened cdb row written sent dropped back)) =
    is_under_way s.mode sent dropped back && (command == c) && same_found bytes (delta_at s task.target name past)
is_source s past c task name bytes _ = false

-- there is one name, of what the fold may rest on
abbrev pub one_source : Setting → List Entry → ℕ → ℕ → Task → List ℕ → List At → Bool
one_source s past stamp c task bytes [] = false
one_source s past stamp c task bytes (name ∷ []) =
    (name.lock == task.target + 1) && nat_lt name.stamp stamp && is_source s past c task name bytes (entry_at name past)
one_source s past stamp c task bytes (name ∷ other ∷ rest) = false

abbrev pub may_fold : Setting → List Entry → ℕ → ℕ → ℕ → At → Cdb → ℕ → List ℕ → List At → Task → Bool
may_fold s past stamp i c opened cdb row bytes list task =
    may_act s past i c opened cdb row (length bytes) 0 task Folds && one_source s past stamp c task bytes list
