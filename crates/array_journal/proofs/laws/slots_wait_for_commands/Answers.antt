use Rattle.array_journal.proofs.lives.WaitingSlots.{slots-wait}
use Rattle.array_journal.proofs.laws.slots_wait_for_commands.Goals as goal

pub returns : goal.returns
returns c = record { waits = slots-wait }
