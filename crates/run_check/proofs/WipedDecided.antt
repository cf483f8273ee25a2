-- The test of a wipe decides whether it may follow.
use Rattle.std.proofs.Common.{ℕ, List}
use Rattle.std.specs.Bool.{Decides}
use Rattle.std.proofs.lemmas.Slice.Eq.{bytes_eq-Decides}
use Rattle.array_journal.specs.declared.entry.Entry.{Entry}
use Rattle.array_journal.specs.declared.event.What.{What}
use Rattle.array_journal.specs.declared.event.What.TheVariants.{Buffers, Request}
use Rattle.array_journal.specs.declared.setting.Setting.{Setting}
use Rattle.array_journal.specs.May.{MayWipe}
use Rattle.xor_buffers.specs.Held.{owners_of}
use Rattle.array_journal.specs.Media.{held}
use Rattle.run_check.proofs.PlainDecided.{Decides-empty}
use Rattle.run_check.specs.WipedTest.{may_wipe}

pub wipe-decided : (s : Setting) (past : List Entry) (i : ℕ) (what : What) (commands : List ℕ) → Decides (may_wipe what commands (held s i past)) (MayWipe s past i what commands)
wipe-decided s past i Buffers commands = bytes_eq-Decides commands (owners_of (held s i past))
wipe-decided s past i Request commands = Decides-empty commands
