-- Deltas: what a write changed, and which of these parity doesn't have yet.
use Rattle.std.specs.Prelude.{◌==◌, ◌&&◌, nat_lt, nat_le, not, ℕ, ◌+◌, ◌-◌, ◌/◌, Bool, true, false, List, [], ◌∷◌, length, Option, Some, None, if◌then◌else◌}
use Rattle.blocks_core.specs.Xor.{xor}
use Rattle.stripe_layout.specs.Layout.{parity_of}
use Rattle.array_journal.specs.declared.at.At.{At}
use Rattle.array_journal.specs.declared.entry.Entry.{Entry}
use Rattle.array_journal.specs.declared.event.Event.{Event}
use Rattle.array_journal.specs.declared.event.Event.TheVariants.{Put, Diff}
use Rattle.array_journal.specs.declared.setting.Setting.{Setting}
use Rattle.blocks_core.specs.Lists.{block_at}
use Rattle.array_journal.specs.Entries.{name_of, same_at}
use Rattle.array_journal.specs.Media.{rows_on}
use Rattle.array_journal.specs.declared.act.Act.{Act}
use Rattle.array_journal.specs.declared.act.Act.TheVariants.{Folds}
use Rattle.array_journal.specs.Acts.{is_act}

-- the delta of bytes written to target i from a row on, over the entries before: what stood there, exclusive-or
-- the new bytes
abbrev pub delta_of : Setting → ℕ → List Entry → ℕ → List ℕ → List ℕ
delta_of s i past row bytes = xor (rows_on s i past row (length bytes)) bytes

-- the delta of an entry that is a diff at target i, over the entries before it
abbrev pub delta_in : Setting → ℕ → List Entry → Event → Option (List ℕ)
delta_in s i past (Diff command opened cdb row bytes sent dropped back) = Some (delta_of s i past row bytes)
delta_in s i past _ = None

-- the delta of the diff at target i that has this name
abbrev pub delta_at : Setting → ℕ → At → List Entry → Option (List ℕ)
delta_at s i name [] = None
delta_at s i name (e ∷ past) = if same_at name (name_of e) then delta_in s i past e.event else delta_at s i name past

-- some entry of any lock is this act of a command
abbrev pub has_acted : Act → ℕ → List Entry → Bool
has_acted act c [] = false
has_acted act c (e ∷ past) = if is_act act c e.event then true else has_acted act c past

-- so many bytes of blocks from row on have a row r among them
abbrev pub covers : ℕ → ℕ → ℕ → ℕ → Bool
covers block row len r = nat_le row r && nat_lt r (row + len / block)

-- a delta of one block, and the command whose it is
pub record Delta : Type 0 where
  pub command : ℕ
  pub block : List ℕ

-- the event writes a row anew
abbrev pub puts_row : Setting → ℕ → Event → Bool
puts_row s r (Put command opened cdb row bytes names) = covers s.geometry.block row (length bytes) r
puts_row s r _ = false

-- the delta on row r of an event at target i over the entries before it, unless its command folded it in all
-- these entries
abbrev pub with_delta : Setting → List Entry → ℕ → List Entry → ℕ → Event → List Delta → List Delta
with_delta s whole i past r (Diff command opened cdb row bytes sent dropped back) older =
    if covers s.geometry.block row (length bytes) r && not (has_acted Folds command whole)
    then record { command = command; block = block_at s.geometry.block (delta_of s i past row bytes) (r - row) } ∷ older
    else older
with_delta s whole i past r _ older = older

-- Deltas of some entries on row r of a stripe: of each diff whose command folded nothing in all these entries,
-- and since which that row of the parity target wasn't written anew.
abbrev pub outstanding_in : Setting → List Entry → ℕ → ℕ → List Entry → List Delta
outstanding_in s whole stripe r [] = []
outstanding_in s whole stripe r (e ∷ past) =
    if (e.lock == parity_of s.geometry stripe + 1) && puts_row s r e.event then []
    else if e.lock == 0 then outstanding_in s whole stripe r past
    else with_delta s whole (e.lock - 1) past r e.event (outstanding_in s whole stripe r past)

-- the deltas on row r of a stripe that parity doesn't have yet, the newest first
abbrev pub outstanding : Setting → List Entry → ℕ → ℕ → List Delta
outstanding s past stripe r = outstanding_in s past stripe r past
