-- Whether a loss may follow, as a test over what the buffer holds.
use Rattle.std.specs.Prelude.{◌==◌, ◌&&◌, ℕ, Bool, List}
use Rattle.std.specs.Str.{bytes_eq}
use Rattle.array_journal.specs.declared.entry.Entry.{Entry}
use Rattle.array_journal.specs.Lives.{life_of}
use Rattle.xor_buffers.specs.declared.held.HeldBlocks.{HeldBlocks}
use Rattle.xor_buffers.specs.Held.{owners_of}

abbrev pub may_lose : List Entry → ℕ → ℕ → List ℕ → List HeldBlocks → Bool
may_lose past i life commands holds = (life == life_of i past) && bytes_eq commands (owners_of holds)
