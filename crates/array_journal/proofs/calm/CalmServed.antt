-- A calm journal stays calm over a served read and a served update, and it starts calm.
use Rattle.std.proofs.Common.{◌≡◌, ◌≤◌, List, []}
use Rattle.stripe_layout.specs.declared.mode.Mode.TheVariants.{Supervised}
use Rattle.sbc_cdbs.specs.declared.descriptor.Cdb.{Cdb}
use Rattle.sbc_cdbs.specs.Cdbs.{SpellsCdb, cdb_bytes}
use Rattle.array_journal.specs.declared.entry.Entry.{Entry}
use Rattle.array_journal.specs.declared.setting.Setting.{Setting}
use Rattle.array_journal.specs.declared.task.Kind.TheVariants.{Read, Update}
use Rattle.array_journal.specs.declared.task.Task.{Task}
use Rattle.array_journal.specs.declared.act.Act.TheVariants.{Fetches, Diffs, Takes, Folds}
use Rattle.array_journal.specs.Acts.{cdb_of}
use Rattle.array_journal.specs.May.{IsTask}
use Rattle.array_journal.specs.Run.{IsSetting}
use Rattle.array_journal.specs.Serving.{read_entries, update_entries}
use Rattle.array_journal.specs.Calm.{Calm}
use Rattle.array_journal.proofs.calm.Opening.{quiet-none}
use Rattle.array_journal.proofs.calm.ReadRuns.{read-grows, read-quiet}
use Rattle.array_journal.proofs.calm.UpdateRuns.{update-grows}
use Rattle.array_journal.proofs.calm.UpdateQuiet.{update-quiet}

pub calm-none : (s : Setting) → Calm s []
calm-none s = record { quiet = quiet-none s; grows = tt }

pub calm-read : (s : Setting) (past : List Entry) (task : Task) (fetch : Cdb) → Calm s past → IsTask s task → task.kind ≡ Read →
    SpellsCdb (cdb_bytes fetch) (cdb_of s task 0 Fetches) → Calm s (read_entries s past task fetch)
calm-read s past task fetch calm sound kind spelt = record {
  quiet = read-quiet s past task fetch calm.quiet kind;
  grows = read-grows s past task fetch calm.quiet calm.grows sound kind spelt;
}

pub calm-update : (s : Setting) (past : List Entry) (task : Task) (diff take fold : Cdb) → IsSetting s → s.mode ≡ Supervised → Calm s past →
    IsTask s task → task.kind ≡ Update → task.count ≤ s.buffer → SpellsCdb (cdb_bytes diff) (cdb_of s task 0 Diffs) →
    SpellsCdb (cdb_bytes take) (cdb_of s task 0 Takes) → SpellsCdb (cdb_bytes fold) (cdb_of s task 0 Folds) → Calm s (update_entries s past task diff take fold)
calm-update s past task diff take fold setting supervised calm sound kind fits by_diff by_take by_fold = record {
  quiet = update-quiet s past task diff take fold supervised calm.quiet sound kind;
  grows = update-grows s past task diff take fold setting supervised calm.quiet calm.grows sound kind fits by_diff by_take by_fold;
}
