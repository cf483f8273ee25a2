-- What a bus is set to, and what a caller has seen of the array's entries. A journal has the newest entry first here; the lists
-- of a history have the oldest first, one list for each lock from 0 on.
use Rattle.std.specs.Prelude.{◌≡◌, ◌++◌, ℕ, false, List, [], ◌∷◌, reverse}
use Rattle.std.specs.List.{AllByRecursion}
use Rattle.xor_mode_page.specs.declared.pages.XorPage.{XorPage}
use Rattle.array_journal.specs.declared.entry.Entry.{Entry}
use Rattle.array_journal.specs.declared.setting.Setting.{Setting}
use Rattle.array_journal.specs.Joined.{IsBeginning}
use Rattle.array_journal.specs.Laws.{lane}
use Rattle.array_journal.specs.OneJournal.{journal_of}
use Rattle.xor_target.specs.State.{TargetState, is_failure}
use Rattle.unit_plans.specs.Targets.{StandsIn}

-- the array, and the maxima in the first mode page of each of its targets
pub record BusSetting : Type 0 where
  pub array : Setting
  pub max_write : ℕ
  pub max_regenerate : ℕ
  pub max_rebuild : ℕ

-- a mode page has these maxima, and leaves the XOR commands on
pub record HasMaxima (b : BusSetting) (page : XorPage) : Type 0 where
  pub xor_on : page.xordis ≡ false
  pub write : page.max_write ≡ b.max_write
  pub regenerate : page.max_regenerate ≡ b.max_regenerate
  pub rebuild : page.max_rebuild ≡ b.max_rebuild

-- the one journal of the lists of a history
unfoldable pub merged : List (List Entry) → List Entry
merged lists = reverse (journal_of lists)

-- at each lock a journal has what another has there, and perhaps newer entries in front
abbrev pub Outgrows : List Entry → List Entry → Type 0
Outgrows journal past = (k : ℕ) → (newer : List Entry) × (lane k journal ≡ newer ++ lane k past)

-- each list begins with the one in its place
abbrev pub EachBeginsWith : List (List Entry) → List (List Entry) → Type 0
EachBeginsWith [] [] = Unit {0}
EachBeginsWith [] (old ∷ olds) = ⊥
EachBeginsWith (new ∷ news) [] = ⊥
EachBeginsWith (new ∷ news) (old ∷ olds) = IsBeginning old new × EachBeginsWith news olds

-- A target of a bus, over a journal: it stands in it, it has the bus's maxima, now and after a fresh disk, and no command waits
-- there for another target.
pub record StandsOn (b : BusSetting) (t : TargetState) (journal : List Entry) : Type 0 where
  pub stands : StandsIn b.array t journal
  pub page : HasMaxima b t.page
  pub first : HasMaxima b t.first
  pub nothing_waits : t.waiting ≡ []

-- no medium failed: no disk was lost for no call
abbrev pub HasNoFailure : List Entry → Type 0
HasNoFailure journal = AllByRecursion (λ (e : Entry). is_failure e.event ≡ false) journal
