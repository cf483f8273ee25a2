-- What is kept while a journal is read, over the entries read so far, the newest first.
use Rattle.std.specs.Prelude.{◌≡◌, ◌==◌, ◌&&◌, ◌+◌, ℕ, ◌<◌, Bool, true, false, if◌then◌else◌, List, [], length, get_or, Option, Some, None}
use Rattle.std.specs.Option.{option_map}
use Rattle.array_journal.specs.declared.entry.Entry.{Entry}
use Rattle.array_journal.specs.declared.setting.Setting.{Setting}
use Rattle.stripe_layout.specs.declared.geometry.Geometry.{Geometry}
use Rattle.array_journal.specs.declared.task.Kind.{Kind}
use Rattle.array_journal.specs.declared.task.Task.{Task}
use Rattle.array_journal.specs.Commands.{task_of}
use Rattle.array_journal.specs.Entries.{some_at}
use Rattle.array_journal.specs.Listed.{listed_for, makes_parity}
use Rattle.dirty_list.specs.Listings.{command_of}
use Rattle.array_journal.specs.Lives.{closes_done, is_rebuild}
use Rattle.array_journal.specs.Media.{media}
use Rattle.stripe_check.specs.declared.command_summary.Brief.{Brief}
use Rattle.stripe_check.specs.declared.command_summary.CommandSummary.{CommandSummary}
use Rattle.stripe_check.specs.declared.command_summary.Tally.{Tally}
use Rattle.stripe_check.specs.declared.failure.Failure.{Failure}
use Rattle.stripe_check.specs.Replies.{bytes_read, failure_of}
use Rattle.stripe_check.specs.Tallies.{untold, tally_of}

-- the media of all targets, in their order
pub record AreMedia (s : Setting) (past : List Entry) (kept : List (List ℕ)) : Type 0 where
  pub count : length kept ≡ s.geometry.targets
  pub each : (i : ℕ) → i < s.geometry.targets → get_or kept i [] ≡ media s i past

-- what a report needs of a task
abbrev pub brief_of : Task → Brief
brief_of t = record { call = t.call; piece = t.piece; kind = t.kind; stripe = t.stripe; target = t.target; renews = makes_parity t.kind t }

-- a command that wasn't opened
abbrev pub unknown : CommandSummary
unknown = record { brief = None; done = false }

-- what entries tell of a command
abbrev pub known_of : ℕ → List Entry → CommandSummary
known_of c past = record { brief = option_map brief_of (task_of c past); done = some_at 0 (closes_done c) past }

-- the commands by their numbers
pub record AreCommands (past : List Entry) (kept : List CommandSummary) : Type 0 where
  pub each : (c : ℕ) → get_or kept c unknown ≡ known_of c past

-- one command of a number is opened, or is closed as done
abbrev pub opened_at : ℕ → Brief → ℕ → CommandSummary → CommandSummary
opened_at number brief c old = if number == c then record old { brief = Some brief } else old

abbrev pub closed_at : ℕ → ℕ → CommandSummary → CommandSummary
closed_at number c old = if number == c then record old { done = true } else old

-- the bytes that a command tells a call, if its kind passes
abbrev pub told_if : (Kind → Bool) → ℕ → Option Brief → List ℕ → List ℕ
told_if test n None bytes = []
told_if test n (Some b) bytes = if test b.kind && (b.call == n) then bytes else []

-- the bytes that each call was told
pub record AreReads (g : Geometry) (past : List Entry) (kept : List (List ℕ)) : Type 0 where
  pub each : (n : ℕ) → n < length kept → get_or kept n [] ≡ bytes_read g (n + 1) past

-- why each call failed
pub record AreFailures (past : List Entry) (kept : List (Option Failure)) : Type 0 where
  pub each : (n : ℕ) → n < length kept → get_or kept n None ≡ failure_of (n + 1) past

-- the tally of each call
pub record AreTallies (past : List Entry) (kept : List Tally) : Type 0 where
  pub each : (n : ℕ) → n < length kept → get_or kept n untold ≡ tally_of (n + 1) past

-- the stripes that are listed, each with its command
pub record AreListed (past : List Entry) (kept : List (ℕ × ℕ)) : Type 0 where
  pub each : (stripe : ℕ) → command_of stripe kept ≡ listed_for stripe past

-- the stripe whose unit of target i a command rebuilt
abbrev pub briefly_rebuilt_by : Option Brief → Bool → ℕ → Option ℕ
briefly_rebuilt_by None done i = None
briefly_rebuilt_by (Some b) done i = if done && is_rebuild b.kind && (b.target == i) then Some b.stripe else None

abbrev pub briefly_rebuilt : CommandSummary → ℕ → Option ℕ
briefly_rebuilt c i = briefly_rebuilt_by c.brief c.done i
