-- What an entry does to commands: it opens one, ends one, or does neither.
use Rattle.std.specs.Prelude.{◌≡◌, ◌==◌, ℕ, Bool, false, if◌then◌else◌}
use Rattle.array_journal.specs.declared.entry.Entry.{Entry}
use Rattle.array_journal.specs.declared.event.Event.{Event}
use Rattle.array_journal.specs.declared.event.Event.TheVariants as events

-- an entry opens a command, ends one, as done or not, or does neither
pub data CommandStep : Type 0 where
  Opens : ℕ → CommandStep
  Ends : ℕ → Bool → CommandStep
  Neither : CommandStep

abbrev pub step_by : Event → CommandStep
step_by (events.Open command task) = Opens command
step_by (events.Close command done names cause bytes) = Ends command done
step_by (events.Spoil command diff loss shut) = Ends command false
step_by _ = Neither

-- this event ends this command
abbrev pub IsEnd : ℕ → Event → Type 0
IsEnd c (events.Close command done names cause bytes) = command ≡ c
IsEnd c (events.Spoil command diff loss shut) = command ≡ c
IsEnd c _ = ⊥

-- only entries of the book open and end commands
abbrev pub step_of : Entry → CommandStep
step_of e = if e.lock == 0 then step_by e.event else Neither
