-- Parts of one journal: of each lock, each part has a beginning of the entries that stand there. The oldest entry comes
-- first.
use Rattle.std.specs.Prelude.{◌≡◌, ◌⊎◌, ℕ, suc, false, List, [], ◌∷◌, ◌++◌, length}
use Rattle.sbc_cdbs.specs.declared.descriptor.Cdb.{Cdb}
use Rattle.array_journal.specs.declared.entry.Entry.{Entry}
use Rattle.array_journal.specs.declared.event.Event.TheVariants.{Diff, Gone, Open}
use Rattle.array_journal.specs.declared.setting.Setting.{Setting}
use Rattle.array_journal.specs.declared.act.Act.TheVariants.{Diffs}
use Rattle.array_journal.specs.May.{May}
use Rattle.array_journal.specs.Merge.{Rises}
use Rattle.array_journal.specs.Run.{Run}
use Rattle.array_journal.specs.Laws.{lane}
use Rattle.array_journal.specs.ExampleJournals.{small, at, entry, block, write_task, SpellsAct}

-- some entries are the first of others
abbrev pub IsBeginning : List Entry → List Entry → Type 0
IsBeginning first all = (later : List Entry) × (all ≡ first ++ later)

-- at lock k one of two parts has a beginning of what the other has, and the whole has the longer of both
abbrev pub JoinsLane : ℕ → List Entry → List Entry → List Entry → Type 0
JoinsLane k a b whole =
    (IsBeginning (lane k b) (lane k a) × (lane k whole ≡ lane k a)) ⊎ (IsBeginning (lane k a) (lane k b) × (lane k whole ≡ lane k b))

-- Where both parts are runs, the whole is one, in the order of its names: so two callers of an array, each of which has
-- seen the beginnings of its locks' lists, have seen parts of one run.
abbrev pub JoinedPartsLaw : Type 0
JoinedPartsLaw =
    (s : Setting) (a b whole : List Entry) → Run s a → Run s b → ((k : ℕ) → JoinsLane k a b whole) → Rises whole → Run s whole

-- Why no rule looks at the number of all entries: of two views of one journal, the first half of an update may follow
-- both, but a rule that numbered entries through would let it follow the short view alone.
abbrev pub IsNumbered : List Entry → Entry → Type 0
IsNumbered past e = e.stamp ≡ suc (length past)

-- what the caller of a write has seen, and what stands once another target's disk is lost
abbrev pub short_view : List Entry
short_view = entry 1 0 (Open 0 write_task) ∷ []

abbrev pub long_view : List Entry
long_view = entry 2 2 (Gone 0 3 []) ∷ short_view

abbrev pub written_block : Cdb → Entry
written_block diff = entry 2 1 (Diff 0 (at 1 0) diff 0 block false false false)

pub record FollowsBoth (diff : Cdb) : Type 0 where
  pub short : May small short_view (written_block diff)
  pub long : May small long_view (written_block diff)
  pub numbered_short : IsNumbered short_view (written_block diff)
  pub not_long : IsNumbered long_view (written_block diff) → ⊥

abbrev pub NumbersPartViews : Type 0
NumbersPartViews = (diff : Cdb) → SpellsAct small write_task 0 Diffs diff → FollowsBoth diff
