-- Runs of the array, and what holds of them.
use Rattle.std.specs.Prelude.{◌≡◌, ◌<◌, ◌≤◌, ◌-◌, ℕ, true, false, List, [], ◌∷◌, map, reverse, take, None}
use Rattle.std.specs.List.{AllByRecursion}
use Rattle.blocks_core.specs.Xor.{xor_all}
use Rattle.stripe_layout.specs.declared.geometry.Geometry.{Geometry}
use Rattle.stripe_layout.specs.Layout.{IsArray, parity_of, lba_at, target_of_unit, IsRowOf, greatest_unit}
use Rattle.array_journal.specs.declared.entry.Entry.{Entry}
use Rattle.array_journal.specs.declared.setting.Setting.{Setting}
use Rattle.blocks_core.specs.Lists.{block_at}
use Rattle.array_journal.specs.Lists.{numbers}
use Rattle.array_journal.specs.Entries.{name_of, at_lt}
use Rattle.array_journal.specs.Commands.{is_open}
use Rattle.array_journal.specs.Media.{media}
use Rattle.array_journal.specs.Lives.{is_absent}
use Rattle.array_journal.specs.Listed.{listed_for}
use Rattle.array_journal.specs.Deltas.{Delta, outstanding}
use Rattle.array_journal.specs.Host.{host, plain, Legal}
use Rattle.array_journal.specs.May.{May}

-- the ranges of a setting: the array's, and a buffer of at least the greatest unit and at most 65536 blocks
pub record IsSetting (s : Setting) : Type 0 where
  pub array : IsArray s.geometry
  pub least_buffer : greatest_unit s.geometry ≤ s.buffer
  pub most_buffer : s.buffer ≤ 65536

-- an entry's name comes after that of the newest entry
abbrev pub ComesLater : Entry → List Entry → Type 0
ComesLater e [] = Unit {0}
ComesLater e (newest ∷ past) = at_lt (name_of newest) (name_of e) ≡ true

-- each entry may follow the ones before it, and their names rise; the newest entry comes first
abbrev pub Grows : Setting → List Entry → Type 0
Grows s [] = Unit {0}
Grows s (e ∷ past) = (ComesLater e past × May s past e) × Grows s past

-- a journal, the oldest entry first, is a run of the array
abbrev pub Run : Setting → List Entry → Type 0
Run s journal = Grows s (reverse journal)

-- the plain sectors after some entries
abbrev pub sectors : Geometry → List Entry → List ℕ
sectors g past = plain g (host g past)

-- the blocks of a stripe's data units on a row, as the hosts know them
abbrev pub data_blocks : Geometry → List Entry → ℕ → ℕ → List (List ℕ)
data_blocks g past stripe row = map (λ unit. block_at g.block (sectors g past) (lba_at g stripe unit row)) (numbers 0 (g.targets - 1))

-- the block of parity on a row of a stripe, as it stands on the medium
abbrev pub parity_block : Setting → List Entry → ℕ → ℕ → List ℕ
parity_block s past stripe row = block_at s.geometry.block (media s (parity_of s.geometry stripe) past) row

abbrev pub delta_blocks : List Delta → List (List ℕ)
delta_blocks deltas = map (λ d. d.block) deltas

-- On a row of a stripe that isn't listed and whose parity unit isn't absent, data and parity together are the
-- deltas that parity doesn't have yet, each of an open command.
pub record IsBalanced (s : Setting) (past : List Entry) (stripe row : ℕ) : Type 0 where
  pub sum : xor_all s.geometry.block (parity_block s past stripe row ∷ data_blocks s.geometry past stripe row)
      ≡ xor_all s.geometry.block (delta_blocks (outstanding s past stripe row))
  pub owned : AllByRecursion (λ (d : Delta). is_open d.command past ≡ true) (outstanding s past stripe row)

abbrev pub IsTrusted : Setting → List Entry → ℕ → Type 0
IsTrusted s past stripe = (listed_for stripe past ≡ None) × (is_absent (parity_of s.geometry stripe) stripe past ≡ false)

-- Nothing is lost: each trusted stripe is balanced on each of its rows, and a data unit that isn't absent stands
-- on its medium as the hosts know it.
pub record Conserved (s : Setting) (past : List Entry) : Type 0 where
  pub balanced : (stripe row : ℕ) → IsRowOf s.geometry stripe row → IsTrusted s past stripe → IsBalanced s past stripe row
  pub data_stands : (stripe unit row : ℕ) → IsRowOf s.geometry stripe row → unit < s.geometry.targets - 1
      → is_absent (target_of_unit s.geometry stripe unit) stripe past ≡ false
      → block_at s.geometry.block (media s (target_of_unit s.geometry stripe unit) past) row
      ≡ block_at s.geometry.block (sectors s.geometry past) (lba_at s.geometry stripe unit row)

-- nothing is lost after any entry: after the first n entries of the journal, whatever n
abbrev pub ConservedThroughout : Setting → List Entry → Type 0
ConservedThroughout s journal = (n : ℕ) → Conserved s (reverse (take n journal))

-- what hosts were told by a journal, the oldest entry first, is what one plain list of sectors says
abbrev pub IsLegal : Setting → List Entry → Type 0
IsLegal s journal = Legal s.geometry (host s.geometry (reverse journal))

-- no command is open
abbrev pub NoneOpen : List Entry → Type 0
NoneOpen past = (c : ℕ) → is_open c past ≡ false
