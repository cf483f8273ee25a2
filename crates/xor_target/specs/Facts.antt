-- What is looked up of a target's entries is what the definitions say that read them all.
use Rattle.std.specs.Prelude.{◌≡◌, ◌||◌, ◌<◌, ◌^◌, ℕ, ◌+◌, Bool, true, false, List, [], ◌∷◌, Some, None, nat_eq, if◌then◌else◌}
use Rattle.std.specs.List.{AllByRecursion}
use Rattle.std.specs.Option.{unwrap_or}
use Rattle.std.specs.HashMap.{get}
use Rattle.array_journal.specs.declared.at.At.{At}
use Rattle.array_journal.specs.declared.entry.Entry.{Entry}
use Rattle.array_journal.specs.declared.event.Event.{Event}
use Rattle.array_journal.specs.declared.event.Event.TheVariants.{Put, Diff, Fold, Shut}
use Rattle.array_journal.specs.Acts.{changes_medium, shuts_command}
use Rattle.array_journal.specs.Lives.{loss_of, life_of}
use Rattle.array_journal.specs.Media.{drops}
use Rattle.array_journal.specs.May.{discards}
use Rattle.array_journal.specs.Owners.{has_acted, shut_at, discarded_at}
use Rattle.xor_target.specs.Logs.{last_stamp}
use Rattle.xor_target.specs.declared.log.owner_states.OwnerState.{OwnerState}
use Rattle.xor_target.specs.declared.log.owner_states.OwnerStates.{OwnerStates}
use Rattle.xor_target.specs.declared.log.facts.LogFacts.{LogFacts}

-- the state of an owner of which nothing stands
abbrev pub no_state : OwnerState
no_state = record { acted = false; shut = None; discarded = None }

-- the state that is kept of an owner
abbrev pub state_of : OwnerStates → ℕ → OwnerState
state_of states c = unwrap_or (get nat_eq states.kept c) no_state

-- what stands at target i of an owner
abbrev pub owner_state : ℕ → ℕ → List Entry → OwnerState
owner_state i c past = record { acted = has_acted i c past; shut = shut_at i c past; discarded = discarded_at i c past }

-- the state of the owner of an act or a shut, after it
abbrev pub acted_after : At → Event → OwnerState → OwnerState
acted_after at (Put command opened cdb row bytes names) s = record s { acted = true }
acted_after at (Diff command opened cdb row bytes sent dropped back) s = record s { acted = true }
acted_after at (Fold command opened cdb row bytes names) s = record s { acted = true }
acted_after at (Shut command opened acted lost) s = record s { shut = Some at }
acted_after at _ s = s

-- the state of an owner after an entry that may discard what it held
abbrev pub discarded_by : At → Bool → OwnerState → OwnerState
discarded_by at discarded s = if discarded then record s { discarded = Some at } else s

-- the state of an owner after an event of its target
abbrev pub owner_after : At → ℕ → Event → OwnerState → OwnerState
owner_after at c event s = record {
  acted = changes_medium c event || s.acted;
  shut = if shuts_command c event then Some at else s.shut;
  discarded = if discards c event then Some at else s.discarded;
}

-- the facts are those of the entries of target i
pub record KeepsFacts (i : ℕ) (past : List Entry) (f : LogFacts) : Type 0 where
  pub last : f.last ≡ last_stamp past
  pub loss : f.loss ≡ loss_of i past
  pub life : f.life ≡ life_of i past
  pub drops : f.drops ≡ drops i past
  pub owners : (c : ℕ) → state_of f.owners c ≡ owner_state i c past

-- the stamps of entries, the newest first, fall
abbrev pub StampsFall : List Entry → Type 0
StampsFall [] = Unit {0}
StampsFall (e ∷ past) = (last_stamp past < e.stamp) × StampsFall past

-- A log: its entries are of the target's lock, their stamps fall from the newest on, its disk's life has a number of 32
-- bits, and the facts are those of the entries.
pub record IsLog (i : ℕ) (past : List Entry) (f : LogFacts) : Type 0 where
  pub number : i < 255
  pub of_lock : AllByRecursion (λ (e : Entry). e.lock ≡ i + 1) past
  pub falls : StampsFall past
  pub short : life_of i past < 2 ^ 32
  pub facts : KeepsFacts i past f
