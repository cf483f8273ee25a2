-- No order that may be sent over a bus asks anything of another target: it reads, writes, or moves a delta, at once.
use Rattle.std.specs.Prelude.{◌≡◌, ◌&&◌, not, ℕ, Bool, true, false, List, length}
use Rattle.std.proofs.Common.{sym, subst, cond}
use Rattle.std.proofs.lemmas.Bool.{false≢true}
use Rattle.stripe_layout.specs.declared.mode.Mode.{Mode}
use Rattle.stripe_layout.specs.declared.mode.Mode.TheVariants.{Supervised, ThirdParty, Readback}
use Rattle.stripe_layout.specs.Modes.{sends_delta, target_gathers}
use Rattle.sbc_cdbs.specs.declared.commands.Command.{Command}
use Rattle.sbc_cdbs.specs.declared.commands.Command.TheVariants as sbc
use Rattle.array_journal.specs.declared.act.Act.TheVariants.{Fetches, Puts, Diffs, Takes, Folds}
use Rattle.array_journal.specs.declared.entry.Entry.{Entry}
use Rattle.array_journal.specs.declared.setting.Setting.{Setting}
use Rattle.array_journal.specs.declared.task.Task.{Task}
use Rattle.array_journal.specs.Acts.{cdb_of, diff_command, is_data_only, is_degraded_write, list_length}
use Rattle.xor_target.specs.declared.answer.Answer.{Answer}
use Rattle.xor_target.specs.declared.order.Order.{Order}
use Rattle.xor_target.specs.Admission.{command_in}
use Rattle.xor_target.specs.Answers.{IsActed, IsExecuted}
use Rattle.xor_target.specs.Gathers.{IsGatherer}
use Rattle.xor_target.specs.State.{TargetState}
use Rattle.xor_target.proofs.CdbRows.{spelt-in}
use Rattle.unit_plans.specs.Conditions.{IsSentFor, Fetching, Putting, Diffing, Taking, Folding}

-- the command moves blocks, and asks nothing of another target
abbrev pub IsAlone : Command → Type 0
IsAlone (sbc.Read dpo fua lba count) = Unit {0}
IsAlone (sbc.Write dpo fua lba count) = Unit {0}
IsAlone (sbc.XdWrite dpo fua disable lba count) = Unit {0}
IsAlone (sbc.XpWrite dpo fua lba count) = Unit {0}
IsAlone (sbc.XdRead lba count) = Unit {0}
IsAlone (sbc.XdWriteRead dpo fua disable lba count) = Unit {0}
IsAlone (sbc.ModeSelect pf sp list) = ⊥
IsAlone (sbc.ModeSense dbd pc page allocation) = ⊥
IsAlone (sbc.XdWriteExtended dpo fua disable lba second count address) = ⊥
IsAlone (sbc.Rebuild dpo fua intdata lba count list) = ⊥
IsAlone (sbc.Regenerate dpo fua intdata lba count list) = ⊥

-- so it doesn't gather
pub alone-gathers : (command : Command) → IsAlone command → IsGatherer command → ⊥
alone-gathers (sbc.Read dpo fua lba count) alone gathers = gathers
alone-gathers (sbc.Write dpo fua lba count) alone gathers = gathers
alone-gathers (sbc.XdWrite dpo fua disable lba count) alone gathers = gathers
alone-gathers (sbc.XpWrite dpo fua lba count) alone gathers = gathers
alone-gathers (sbc.XdRead lba count) alone gathers = gathers
alone-gathers (sbc.XdWriteRead dpo fua disable lba count) alone gathers = gathers
alone-gathers (sbc.ModeSelect pf sp list) alone gathers = gathers
alone-gathers (sbc.ModeSense dbd pc page allocation) alone gathers = gathers
alone-gathers (sbc.XdWriteExtended dpo fua disable lba second count address) alone gathers = alone
alone-gathers (sbc.Rebuild dpo fua intdata lba count list) alone gathers = alone
alone-gathers (sbc.Regenerate dpo fua intdata lba count list) alone gathers = alone

-- and it is done, or the medium failed
pub alone-acts : (never_fails : Bool) (t after : TargetState) (order : Order) (answer : Answer) (command : Command) → IsAlone command →
    IsExecuted never_fails t order answer after command → IsActed never_fails t order command answer after
alone-acts never_fails t after order answer (sbc.Read dpo fua lba count) alone x = x
alone-acts never_fails t after order answer (sbc.Write dpo fua lba count) alone x = x
alone-acts never_fails t after order answer (sbc.XdWrite dpo fua disable lba count) alone x = x
alone-acts never_fails t after order answer (sbc.XpWrite dpo fua lba count) alone x = x
alone-acts never_fails t after order answer (sbc.XdRead lba count) alone x = x
alone-acts never_fails t after order answer (sbc.XdWriteRead dpo fua disable lba count) alone x = x
alone-acts never_fails t after order answer (sbc.ModeSelect pf sp list) alone x = absurd alone
alone-acts never_fails t after order answer (sbc.ModeSense dbd pc page allocation) alone x = absurd alone
alone-acts never_fails t after order answer (sbc.XdWriteExtended dpo fua disable lba second count address) alone x = absurd alone
alone-acts never_fails t after order answer (sbc.Rebuild dpo fua intdata lba count list) alone x = absurd alone
alone-acts never_fails t after order answer (sbc.Regenerate dpo fua intdata lba count list) alone x = absurd alone

-- where no target gathers for it, a put is a WRITE
put-alone : (s : Setting) (task : Task) (sources : ℕ) → (target_gathers s.mode && not (is_data_only task.kind)) ≡ false → IsAlone (cdb_of s task sources Puts)
put-alone s task sources own = choose (target_gathers s.mode && not (is_data_only task.kind)) own
  where
    choose : (gathered : Bool) → gathered ≡ false →
        IsAlone (cond gathered (sbc.Rebuild false false (is_degraded_write task.kind) task.row task.count (list_length s task sources))
        (sbc.Write false false task.row task.count))
    choose true e = absurd (false≢true (sym e))
    choose false e = tt

-- where no delta is sent, a diff is no XDWRITE EXTENDED
diff-alone : (mode : Mode) (task : Task) → sends_delta mode ≡ false → IsAlone (diff_command mode task)
diff-alone Supervised task stays = tt
diff-alone ThirdParty task stays = absurd (false≢true (sym stays))
diff-alone Readback task stays = tt

-- the command of an order is that of its act
spelt-alone : (order : Order) (command : Command) → command_in order.cdb ≡ command → IsAlone command → IsAlone (command_in order.cdb)
spelt-alone order command is alone = subst IsAlone (sym is) alone

pub sent-alone : (s : Setting) (past : List Entry) (i : ℕ) (order : Order) → IsSentFor s past i order → IsAlone (command_in order.cdb)
sent-alone s past i order (Fetching task a brings) =
    spelt-alone order (cdb_of s task 0 Fetches) (spelt-in order.cdb (cdb_of s task 0 Fetches) a.spelt) tt
sent-alone s past i order (Putting task a own) =
    spelt-alone order (cdb_of s task (length order.names) Puts) (spelt-in order.cdb (cdb_of s task (length order.names) Puts) a.act.spelt)
    (put-alone s task (length order.names) own)
sent-alone s past i order (Diffing task a stays) =
    spelt-alone order (cdb_of s task 0 Diffs) (spelt-in order.cdb (cdb_of s task 0 Diffs) a.act.spelt) (diff-alone s.mode task stays)
sent-alone s past i order (Taking task a brings) =
    spelt-alone order (cdb_of s task 0 Takes) (spelt-in order.cdb (cdb_of s task 0 Takes) a.spelt) tt
sent-alone s past i order (Folding task name a) =
    spelt-alone order (cdb_of s task 0 Folds) (spelt-in order.cdb (cdb_of s task 0 Folds) a.act.spelt) tt
