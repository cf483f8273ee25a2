-- The slots whose loss is noted: whether they have a new disk, and the rebuilds of a unit that were opened since its
-- slot was last noted lost.
use Rattle.std.specs.Prelude.{◌≡◌, ◌==◌, ℕ, Bool, false, not, List, [], ◌∷◌, ◌++◌, Option, Some, None, option_map, if◌then◌else◌}
use Rattle.std.specs.List.{list_any}
use Rattle.std.specs.Option.{unwrap_or}
use Rattle.std.specs.Ordering.{nat_cmp}
use Rattle.std.specs.BTreeMap.{get}
use Rattle.array_journal.specs.declared.entry.Entry.{Entry}
use Rattle.array_journal.specs.declared.event.Event.{Event}
use Rattle.array_journal.specs.declared.event.Event.TheVariants.{Open, Note}
use Rattle.array_journal.specs.declared.task.Task.{Task}
use Rattle.array_journal.specs.Lives.{rebuilds, is_unfitted}
use Rattle.array_book.specs.declared.noted_slots.NotedSlot.{NotedSlot}
use Rattle.array_book.specs.declared.noted_slots.NotedSlots.{NotedSlots}

-- after an opening of this task for a command, where it rebuilds the unit
abbrev pub since_opening : ℕ → ℕ → ℕ → Task → Option (List ℕ) → Option (List ℕ)
since_opening i stripe command task old = if rebuilds i stripe (Some task) then option_map (λ cs. cs ++ command ∷ []) old else old

-- after one more event: a note begins anew, and an opening of a rebuild of the unit is put to the others
abbrev pub since_after : ℕ → ℕ → Event → Option (List ℕ) → Option (List ℕ)
since_after i stripe (Note slot lost) old = if slot == i then Some [] else old
since_after i stripe (Open command task) old = since_opening i stripe command task old
since_after i stripe _ old = old

-- the commands that were opened to rebuild the unit of target i in a stripe since the newest note of slot i,
-- oldest first; none at all where the slot was never noted
abbrev pub opened_since : ℕ → ℕ → List Entry → Option (List ℕ)
opened_since i stripe [] = None
opened_since i stripe (e ∷ past) = if e.lock == 0 then since_after i stripe e.event (opened_since i stripe past) else opened_since i stripe past

-- whether the unit is missing, by a test of the commands that were opened to rebuild it
abbrev pub missing_by : (ℕ → Bool) → Option (List ℕ) → Bool
missing_by test None = false
missing_by test (Some commands) = not (list_any test commands)

-- the commands that are kept for a stripe
abbrev pub opened_in : NotedSlot → ℕ → List ℕ
opened_in slot stripe = unwrap_or (option_map (λ v. v.items) (get nat_cmp slot.opened stripe)) []

-- the commands that are kept for a unit
abbrev pub since_note : NotedSlots → ℕ → ℕ → Option (List ℕ)
since_note m i stripe = option_map (λ slot. opened_in slot stripe) (get nat_cmp m.noted i)

-- a slot that is noted has no new disk
abbrev pub lacks_disk : Option NotedSlot → Bool
lacks_disk None = false
lacks_disk (Some slot) = not slot.fitted

-- the slot is kept as one that is noted and has no new disk
abbrev pub unfitted_in : NotedSlots → ℕ → Bool
unfitted_in m i = lacks_disk (get nat_cmp m.noted i)

-- what is kept is that of these entries
pub record KeepsNoted (past : List Entry) (m : NotedSlots) : Type 0 where
  pub since : (i stripe : ℕ) → since_note m i stripe ≡ opened_since i stripe past
  pub unfitted : (i : ℕ) → unfitted_in m i ≡ is_unfitted i past
