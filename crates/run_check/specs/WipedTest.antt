-- Whether a wipe may follow, as a test over what the buffer holds.
use Rattle.std.specs.Prelude.{ℕ, Bool, List}
use Rattle.std.specs.Str.{bytes_eq}
use Rattle.array_journal.specs.declared.event.What.{What}
use Rattle.array_journal.specs.declared.event.What.TheVariants.{Buffers, Request}
use Rattle.xor_buffers.specs.declared.held.HeldBlocks.{HeldBlocks}
use Rattle.xor_buffers.specs.Held.{owners_of}
use Rattle.run_check.specs.Plain.{is_empty}

abbrev pub may_wipe : What → List ℕ → List HeldBlocks → Bool
may_wipe Buffers commands holds = bytes_eq commands (owners_of holds)
may_wipe Request commands holds = is_empty commands
