-- A stripe's blocks as the hosts know them, and what commands that run alone read of it. past is a run so far, with the
-- newest entry first.
use Rattle.std.specs.Prelude.{◌≡◌, ◌==◌, ◌<◌, ◌+◌, ℕ, true, List, Some, if◌then◌else◌}
use Rattle.std.specs.List.{AllByRecursion}
use Rattle.blocks_core.specs.Xor.{xor_all}
use Rattle.stripe_layout.specs.Layout.{parity_of, lba_at}
use Rattle.array_journal.specs.declared.at.At.{At}
use Rattle.array_journal.specs.declared.entry.Entry.{Entry}
use Rattle.array_journal.specs.declared.event.Event.TheVariants.{Open}
use Rattle.array_journal.specs.declared.setting.Setting.{Setting}
use Rattle.array_journal.specs.declared.task.Kind.TheVariants.{Update}
use Rattle.array_journal.specs.declared.task.Task.{Task}
use Rattle.blocks_core.specs.Lists.{block_at}
use Rattle.array_journal.specs.Entries.{entry_at}
use Rattle.array_journal.specs.Commands.{task_of}
use Rattle.array_journal.specs.declared.act.Act.TheVariants.{Fetches}
use Rattle.array_journal.specs.Acts.{is_act}
use Rattle.array_journal.specs.Deltas.{Delta, outstanding}
use Rattle.array_journal.specs.Host.{unit_at}
use Rattle.array_journal.specs.May.{passes, bytes_named}
use Rattle.array_journal.specs.Run.{Grows, IsSetting, sectors, data_blocks}
use Rattle.array_journal.specs.Laws.{RunsAlone, entries_before}

-- the block of target i on a row of a stripe, as some sectors have it
abbrev pub known_in : Setting → List ℕ → ℕ → ℕ → ℕ → List ℕ
known_in s bytes stripe i r = block_at s.geometry.block bytes (lba_at s.geometry stripe (unit_at (parity_of s.geometry stripe) i) r)

-- and as the hosts know it
abbrev pub known : Setting → List Entry → ℕ → ℕ → ℕ → List ℕ
known s past stripe i r = known_in s (sectors s.geometry past) stripe i r

-- the exclusive-or of the data on a row of a stripe, as the hosts know it
abbrev pub data_sum : Setting → List Entry → ℕ → ℕ → List ℕ
data_sum s past stripe r = xor_all s.geometry.block (data_blocks s.geometry past stripe r)

-- what a target is read as: a data unit as the hosts know it, parity as the exclusive-or of these
abbrev pub view : Setting → List Entry → ℕ → ℕ → ℕ → List ℕ
view s past stripe i r = if i == parity_of s.geometry stripe then data_sum s past stripe r else known s past stripe i r

-- While a command that runs alone is open, each block that it fetched is the plain sector, or the parity that data give,
-- as these were when it was opened. So what it makes of its fetches is right when it writes it.
abbrev pub WindowReadsLaw : Type 0
WindowReadsLaw =
    (s : Setting) (c i j : ℕ) (task : Task) (opened name : At) (past : List Entry) → IsSetting s → Grows s past → RunsAlone c task past → opened.lock ≡ 0 →
    entry_at opened past ≡ Some (Open c task) → name.lock ≡ i + 1 → passes (is_act Fetches c) (entry_at name past) ≡ true → j < task.count →
    block_at s.geometry.block (bytes_named past name) j ≡ view s (entries_before opened past) task.stripe i (task.row + j)

-- the command of a delta is an update
abbrev pub IsOfUpdate : List Entry → Delta → Type 0
IsOfUpdate past d = (task : Task) × ((task_of d.command past ≡ Some task) × (task.kind ≡ Update))

-- only updates owe deltas
abbrev pub UpdatesOweLaw : Type 0
UpdatesOweLaw = (s : Setting) (stripe r : ℕ) (past : List Entry) → Grows s past → AllByRecursion (IsOfUpdate past) (outstanding s past stripe r)
