-- Which losses are noted in a journal. Lists called past and whole have the newest entry first.
use Rattle.std.specs.Prelude.{◌≡◌, ◌==◌, ◌&&◌, ℕ, Bool, false, List, Option, Some, None}
use Rattle.std.specs.BTreeSet.{contains}
use Rattle.array_journal.specs.declared.entry.Entry.{Entry}
use Rattle.array_journal.specs.Entries.{some_at}
use Rattle.journal_index.specs.Keys.{pair_cmp}
use Rattle.stripe_check.specs.Asked.{notes_life}
use Rattle.trace_check.specs.declared.asking.noted_losses.Lives.{Lives}

-- the life is this one
abbrev pub is_life : ℕ → Option ℕ → Bool
is_life life None = false
is_life life (Some other) = other == life

-- the target and the life are these
abbrev pub is_life_of : ℕ → ℕ → Option (ℕ × ℕ) → Bool
is_life_of target life None = false
is_life_of target life (Some (slot, other)) = (slot == target) && (other == life)

-- what is kept are the lives whose loss these entries note, where the whole journal has the losses
abbrev pub KeepsLives : List Entry → List Entry → Lives → Type 0
KeepsLives whole past lives = (target life : ℕ) → contains pair_cmp lives.kept (target, life) ≡ some_at 0 (notes_life whole target life) past
