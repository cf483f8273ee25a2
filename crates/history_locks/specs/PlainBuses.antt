-- A bus of one caller: its targets, its book, and what holds where its pass is handed out. A list called past, and a journal, have
-- the newest entry first; the lists of a bus have the oldest first.
use Rattle.std.specs.Prelude.{◌≡◌, ◌*◌, ℕ, Bool, true, List, [], ◌∷◌, length, map, reverse, Some, slice_get}
use Rattle.std.proofs.Common.{get_or}
use Rattle.blocks_core.specs.Xor.{zeros}
use Rattle.xor_mode_page.specs.declared.pages.XorPage.{XorPage}
use Rattle.array_journal.specs.declared.entry.Entry.{Entry}
use Rattle.array_journal.specs.Calm.{IsStamped}
use Rattle.array_journal.specs.Laws.{lane}
use Rattle.array_journal.specs.OneJournal.{AreKept}
use Rattle.array_journal.specs.Run.{IsSetting}
use Rattle.array_book.specs.Ledgers.{Ledger, AreInOrder}
use Rattle.xor_target.specs.State.{TargetState}
use Rattle.unit_plans.specs.Buses.{BusSetting, HasMaxima, HasNoFailure, merged}
use Rattle.unit_plans.specs.Targets.{IsTargetOf, IsKept}

-- the targets, target k at place k, the book, and the page that has the maxima of each target
pub record PlainState : Type 0 where
  pub targets : List TargetState
  pub book : Ledger
  pub page : XorPage

-- what it was made with
abbrev pub setting_of : PlainState → BusSetting
setting_of bus = record {
  array = bus.book.setting;
  max_write = bus.page.max_write;
  max_regenerate = bus.page.max_regenerate;
  max_rebuild = bus.page.max_rebuild;
}

-- the entries of each lock: the book's, and each target's
abbrev pub entries_of : TargetState → List Entry
entries_of t = reverse t.past

abbrev pub lists_of : PlainState → List (List Entry)
lists_of bus = reverse bus.book.past ∷ map entries_of bus.targets

-- ---- before the first act

-- target k to which nothing happened: zeros, nothing held, and the bus's maxima
pub record IsFirst (b : BusSetting) (k : ℕ) (t : TargetState) : Type 0 where
  pub number : t.number ≡ k
  pub of_array : IsTargetOf b.array t
  pub page : HasMaxima b t.page
  pub first : HasMaxima b t.first
  pub nothing_waits : t.waiting ≡ []
  pub no_entry : t.past ≡ []
  pub nothing_held : t.held ≡ []
  pub tells : t.contents ≡ Some (zeros (t.rows * t.block))

-- a bus on which nothing happened
pub record IsNew (bus : PlainState) : Type 0 where
  pub many : length bus.targets ≡ bus.book.setting.geometry.targets
  pub placed : (k : ℕ) (t : TargetState) → slice_get bus.targets k ≡ Some t → IsFirst (setting_of bus) k t
  pub no_entry : bus.book.past ≡ []

-- ---- between two acts

-- target k of a bus: it has the array's shape and the bus's maxima, what it keeps is what its entries say, and no command waits
pub record IsPlaced (b : BusSetting) (k : ℕ) (t : TargetState) : Type 0 where
  pub number : t.number ≡ k
  pub of_array : IsTargetOf b.array t
  pub kept : IsKept t
  pub page : HasMaxima b t.page
  pub first : HasMaxima b t.first
  pub nothing_waits : t.waiting ≡ []

abbrev pub ArePlaced : BusSetting → List TargetState → Type 0
ArePlaced b targets = (k : ℕ) (t : TargetState) → slice_get targets k ≡ Some t → IsPlaced b k t

-- The lists of all locks, after as many entries as this stamp says: their journal has stamps from 1 on, has at each lock that lock's
-- list, and has no failure of a medium.
pub record AreLists (stamp : ℕ) (lists : List (List Entry)) : Type 0 where
  pub kept : AreKept stamp lists
  pub stamped : IsStamped (merged lists)
  pub lanes : (k : ℕ) → lane k (merged lists) ≡ reverse (get_or lists k [])
  pub quiet : HasNoFailure (merged lists)

-- What holds where the pass with this stamp is handed out. No medium ever fails, for now.
pub record IsPassOf (never_fails : Bool) (bus : PlainState) (stamp : ℕ) : Type 0 where
  pub reliable : never_fails ≡ true
  pub array : IsSetting bus.book.setting
  pub in_order : AreInOrder bus.book.past
  pub many : length bus.targets ≡ bus.book.setting.geometry.targets
  pub placed : ArePlaced (setting_of bus) bus.targets
  pub lists : AreLists stamp (lists_of bus)
