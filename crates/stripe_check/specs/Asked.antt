-- What a journal must be for the calls of a script. A list called past has the newest entry first, and one called whole
-- has all entries of the journal, the newest first.
--
-- In the order of reading: `AreInTurn`, each host's calls come one after another; `IsServed`, each call has the entries
-- that it asks for; `IsDecided`, a piece is begun as the book decides then; `is_owned`, no entry is of no call.
use Rattle.std.specs.Prelude.{◌≡◌, ◌<◌, ℕ, zero, suc, ◌+◌, ◌==◌, ◌&&◌, ◌||◌, nat_lt, nat_le, if◌then◌else◌, Bool, true, false, List, [], ◌∷◌, ◌++◌, length, reverse, filter, Option, Some, None}
use Rattle.std.specs.List.{list_all}
use Rattle.stripe_layout.specs.Layout.{stripes_of}
use Rattle.array_journal.specs.declared.entry.Entry.{Entry}
use Rattle.array_journal.specs.declared.event.Event.{Event}
use Rattle.array_journal.specs.declared.event.Event.TheVariants.{Gone, Open, Note, Swap, Refuse}
use Rattle.array_journal.specs.declared.event.Why.TheVariants.{Illegal, NotLost}
use Rattle.array_journal.specs.Entries.{same_at, some_at, entry_at}
use Rattle.array_journal.specs.Run.{NoneOpen}
use Rattle.host_scripts.specs.declared.script.Call.{Call}
use Rattle.host_scripts.specs.declared.script.Script.{Script}
use Rattle.host_requests.specs.Begins.{begin_of, transfer_pieces, Opening, Refusal, Swapping}
use Rattle.host_requests.specs.Requests.{Request, Fails, Moves, Loses, Wipes, Replaces, Rebuilds, Resyncs, request_of, call_at}
use Rattle.stripe_check.specs.Steps.{Step, Begins, Ends, Refused, Lost, WipedAt, Swapped, Renewed, Done, GivenUp, Spoilt, call_of, steps_of}

-- ---- each host's calls come one after another

abbrev pub call_list : Option ℕ → List ℕ
call_list None = []
call_list (Some call) = call ∷ []

-- the calls that entries belong to, that of the newest entry first
abbrev pub calls_seen : List Entry → List ℕ
calls_seen [] = []
calls_seen (e ∷ past) = call_list (call_of e.event past) ++ calls_seen past

abbrev pub has_host : ℕ → Option Call → Bool
has_host host None = false
has_host host (Some call) = call.host == host

-- the call of a number is a host's
abbrev pub is_of_host : Script → ℕ → ℕ → Bool
is_of_host script host number = has_host host (call_at script.calls number)

-- no number is greater than one before it
abbrev pub goes_back : List ℕ → Bool
goes_back [] = true
goes_back (n ∷ older) = list_all (λ m. nat_le m n) older && goes_back older

-- Of each host, all entries that belong to an earlier call come before those that belong to a later one.
abbrev pub AreInTurn : Script → List Entry → Type 0
AreInTurn script past = (host : ℕ) → host < script.hosts → goes_back (filter (is_of_host script host) (calls_seen past)) ≡ true

-- ---- each call has the entries that it asks for

-- the piece is the next one, and the call has it
abbrev pub is_next : ℕ → ℕ → ℕ → Bool
is_next piece next count = (piece == next) && nat_lt piece count

abbrev pub is_end : List Step → Bool
is_end [] = true
is_end (step ∷ steps) = false

-- Steps go through the pieces of a call that has so many, from the next one on, while so many commands are open that are
-- to be given up. For a piece, commands are opened and given up, and then, with none of these open, it is refused, or a
-- command is opened that ends as done or spoilt. Where a failure is the end, nothing comes after a piece that is refused
-- or spoilt.
abbrev pub goes_through : Bool → ℕ → ℕ → ℕ → List Step → Bool
goes_through fatal count next zero [] = next == count
goes_through fatal count next zero (Refused piece why ∷ steps) =
    is_next piece next count && (if fatal then is_end steps else goes_through fatal count (suc next) zero steps)
goes_through fatal count next zero (Begins piece command ∷ Ends other Spoilt ∷ steps) =
    is_next piece next count && (other == command) && (if fatal then is_end steps else goes_through fatal count (suc next) zero steps)
goes_through fatal count next zero (Begins piece command ∷ Ends other Done ∷ steps) =
    is_next piece next count && (other == command) && goes_through fatal count (suc next) zero steps
goes_through fatal count next idle (Begins piece command ∷ steps) =
    is_next piece next count && goes_through fatal count next (suc idle) steps
goes_through fatal count next (suc idle) (Ends command GivenUp ∷ steps) = goes_through fatal count next idle steps
goes_through fatal count next idle _ = false

-- the event is a loss in this life
abbrev pub is_loss_in : ℕ → Option Event → Bool
is_loss_in life (Some (Gone other call commands)) = other == life
is_loss_in life _ = false

-- the event notes a loss of the target in this life
abbrev pub notes_life : List Entry → ℕ → ℕ → Event → Bool
notes_life whole target life (Note slot lost) = (slot == target) && (lost.lock == target + 1) && is_loss_in life (entry_at lost whole)
notes_life whole target life _ = false

-- one loss of the target, and somewhere a note of a loss of it in the same life
abbrev pub is_lost : List Entry → ℕ → List Step → Bool
is_lost whole target (Lost lock life ∷ []) = (lock == target + 1) && some_at 0 (notes_life whole target life) whole
is_lost whole target _ = false

-- one swap of the slot's disk, and then the fresh disk that comes for this swap; or one refusal
abbrev pub is_replaced : ℕ → List Step → Bool
is_replaced slot (Swapped other name ∷ Renewed lock swap ∷ []) = (other == slot) && (lock == slot + 1) && same_at swap name
is_replaced slot (Refused piece NotLost ∷ []) = piece == 0
is_replaced slot _ = false

abbrev pub IsServed : Script → List Entry → Request → List Step → Type 0
-- A host's call that fails a test has one entry: piece 0 is refused as illegal, with the sense of the first test that fails.
IsServed script whole (Fails sense) steps = steps ≡ Refused 0 (Illegal sense) ∷ []
-- Any other call of a host goes through its pieces, up to and with the first that is refused or spoilt. So a call of no
-- blocks has no entry.
IsServed script whole (Moves t) steps = goes_through true (length (transfer_pieces script t)) 0 0 steps ≡ true
-- To rebuild and to resync goes through all stripes, whatever becomes of one of them.
IsServed script whole (Rebuilds slot) steps = goes_through false (stripes_of script.geometry) 0 0 steps ≡ true
IsServed script whole Resyncs steps = goes_through false (stripes_of script.geometry) 0 0 steps ≡ true
-- The other calls of the operator have one entry at their target; a new disk has two, or a refusal.
IsServed script whole (Loses target) steps = is_lost whole target steps ≡ true
IsServed script whole (Wipes target what) steps = steps ≡ WipedAt (target + 1) what ∷ []
IsServed script whole (Replaces slot) steps = is_replaced slot steps ≡ true

-- each of these calls is served, the first of them being of this number
abbrev pub AreServed : Script → List Entry → ℕ → List Call → Type 0
AreServed script whole number [] = Unit {0}
AreServed script whole number (call ∷ calls) =
    IsServed script whole (request_of script.geometry call.action) (steps_of number whole) × AreServed script whole (suc number) calls

-- ---- a piece is begun as the book decides

-- An opening has the task of its call and piece. It, a refusal and a swap are what the book decides over the entries
-- before them.
abbrev pub IsDecided : Script → Event → List Entry → Type 0
IsDecided script (Open command task) past = begin_of script task.call task.piece past ≡ Some (Opening task)
IsDecided script (Refuse call piece why) past = begin_of script call piece past ≡ Some (Refusal why)
IsDecided script (Swap slot call) past = begin_of script call 0 past ≡ Some (Swapping slot)
IsDecided script _ past = Unit {0}

abbrev pub AreDecided : Script → List Entry → Type 0
AreDecided script [] = Unit {0}
AreDecided script (e ∷ past) = IsDecided script e.event past × AreDecided script past

-- ---- no entry is of no call

abbrev pub is_call_of : Script → Option ℕ → Bool
is_call_of script None = false
is_call_of script (Some number) = nat_le 1 number && nat_le number (length script.calls)

-- An entry belongs to a call of the script. A note belongs to none, and so does a loss that no call made.
abbrev pub is_owned : Script → Event → List Entry → Bool
is_owned script (Note slot lost) past = true
is_owned script (Gone life call commands) past = (call == 0) || is_call_of script (Some call)
is_owned script e past = is_call_of script (call_of e past)

abbrev pub are_owned : Script → List Entry → Bool
are_owned script [] = true
are_owned script (e ∷ past) = is_owned script e.event past && are_owned script past

-- ---- all of it

-- the newest entry first
pub record IsAskedOf (script : Script) (past : List Entry) : Type 0 where
  pub in_turn : AreInTurn script past
  pub served : AreServed script past 1 script.calls
  pub decided : AreDecided script past
  pub owned : are_owned script past ≡ true
  pub closed : NoneOpen past

-- a journal, the oldest entry first, is what the calls of a script ask for
abbrev pub IsAsked : Script → List Entry → Type 0
IsAsked script journal = IsAskedOf script (reverse journal)
