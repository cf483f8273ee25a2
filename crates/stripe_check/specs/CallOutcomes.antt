-- All that is kept of calls, commands and stripes while a journal is read.
use Rattle.std.specs.Prelude.{◌≡◌, ℕ, List, length, Option}
use Rattle.stripe_layout.specs.declared.geometry.Geometry.{Geometry}
use Rattle.array_journal.specs.declared.entry.Entry.{Entry}
use Rattle.stripe_check.specs.declared.command_summary.CommandSummary.{CommandSummary}
use Rattle.stripe_check.specs.declared.command_summary.Tally.{Tally}
use Rattle.stripe_check.specs.declared.failure.Failure.{Failure}
use Rattle.stripe_check.specs.Folds.{AreCommands, AreReads, AreFailures, AreTallies, AreListed}

pub record Tells (calls : ℕ) (past : List Entry) (kept : List CommandSummary) (reads : List (List ℕ)) (failures : List (Option Failure)) (tallies : List Tally) (listed : List (ℕ × ℕ)) : Type 0 where
  pub commands : AreCommands past kept
  pub read : (g : Geometry) → AreReads g past reads
  pub failed : AreFailures past failures
  pub tallied : AreTallies past tallies
  pub dirty : AreListed past listed
  pub read_count : length reads ≡ calls
  pub failed_count : length failures ≡ calls
  pub tallied_count : length tallies ≡ calls
