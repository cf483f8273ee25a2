-- Which entry of a target that is no act of a command may follow a journal: a shut, a loss, a wipe or a new disk.
use Rattle.std.specs.Prelude.{◌≡◌, ◌&&◌, ℕ, ◌+◌, Bool, true, false, List, [], Option}
use Rattle.array_journal.specs.declared.at.At.{At}
use Rattle.array_journal.specs.declared.entry.Entry.{Entry}
use Rattle.array_journal.specs.declared.event.Event.TheVariants.{Open, Swap}
use Rattle.array_journal.specs.declared.event.What.{What}
use Rattle.array_journal.specs.declared.event.What.TheVariants.{Buffers, Request}
use Rattle.array_journal.specs.declared.setting.Setting.{Setting}
use Rattle.array_journal.specs.declared.task.Kind.{Kind}
use Rattle.array_journal.specs.declared.task.Kind.TheVariants.{Read}
use Rattle.array_journal.specs.declared.task.Task.{Task}
use Rattle.array_journal.specs.Entries.{some_at, count_before}
use Rattle.array_journal.specs.declared.act.Act.TheVariants.{Fetches}
use Rattle.array_journal.specs.Acts.{is_target, is_act, shuts_command, changes_medium}
use Rattle.xor_buffers.specs.Held.{owners_of}
use Rattle.array_journal.specs.Media.{held}
use Rattle.array_journal.specs.Lives.{loss_of, life_of, is_swap_of}
use Rattle.array_journal.specs.May.NamedEntries.{StandsBefore}

abbrev pub is_read_task : Kind → Bool
is_read_task Read = true
is_read_task _ = false

-- Shut: target i is one of the command's and isn't shut for it yet; a read that was answered isn't shut. It says
-- whether an act of the command changed the medium here, and the loss where the disk is gone.
pub record MayShut (s : Setting) (past : List Entry) (stamp i c : ℕ) (opened : At) (acted : Bool) (lost : Option At) (task : Task) : Type 0 where
  pub opening : StandsBefore past stamp opened (Open c task)
  pub in_book : opened.lock ≡ 0
  pub of_task : is_target s task i ≡ true
  pub once : some_at (i + 1) (shuts_command c) past ≡ false
  pub unanswered : (is_read_task task.kind && some_at (i + 1) (is_act Fetches c) past) ≡ false
  pub says_acted : acted ≡ some_at (i + 1) (changes_medium c) past
  pub says_lost : lost ≡ loss_of i past

-- Gone: it says the life of the disk, and whose held blocks are lost.
pub record MayGone (s : Setting) (past : List Entry) (i life : ℕ) (commands : List ℕ) : Type 0 where
  pub says_life : life ≡ life_of i past
  pub says_owners : commands ≡ owners_of (held s i past)

-- Wiped: it says whose held blocks are discarded; a request to be dropped discards none.
abbrev pub MayWipe : Setting → List Entry → ℕ → What → List ℕ → Type 0
MayWipe s past i Buffers commands = commands ≡ owners_of (held s i past)
MayWipe s past i Request commands = commands ≡ []

-- Fresh: it names the swap of this slot, of the same call, that has as many swaps of the slot before it as disks
-- were put in here.
pub record MayFresh (past : List Entry) (stamp i call : ℕ) (swap : At) : Type 0 where
  pub swapped : StandsBefore past stamp swap (Swap i call)
  pub in_book : swap.lock ≡ 0
  pub next_disk : count_before 0 (is_swap_of i) swap.stamp past ≡ life_of i past
