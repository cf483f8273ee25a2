-- What a target finds over its own entries holds over each journal that has these at its lock: so whoever keeps the entries
-- of all locks knows that the target's entries may follow them. A journal has the newest entry first here.
use Rattle.std.specs.Prelude.{◌≡◌, ◌≢◌, ◌<◌, ◌+◌, ℕ, true, false, List, ◌∷◌, Some}
use Rattle.array_journal.specs.declared.entry.Entry.{Entry}
use Rattle.array_journal.specs.declared.setting.Setting.{Setting}
use Rattle.array_journal.specs.Acts.{changes_medium}
use Rattle.array_journal.specs.Entries.{some_at, stamps_below}
use Rattle.array_journal.specs.Laws.{lane}
use Rattle.array_journal.specs.Lives.{is_gone, loss_of, life_of}
use Rattle.array_journal.specs.Media.{media, held}
use Rattle.array_journal.specs.Owners.{has_acted}
use Rattle.xor_target.specs.Answers.{next_stamp}
use Rattle.xor_target.specs.Logs.{drops_next}
use Rattle.xor_target.specs.State.{TargetState}
use Rattle.unit_plans.specs.Targets.{StandsIn, GrowsBy}

-- What a target keeps is what the journal says of it: the newest loss where its disk is gone, the life of its disk, whether
-- its next request is to be dropped, which commands changed its medium, what it holds, and, unless the disk is gone, what
-- stands on the medium.
pub record KnowsItself (s : Setting) (t : TargetState) (journal : List Entry) : Type 0 where
  pub loss : loss_of t.number journal ≡ loss_of t.number t.past
  pub life : life_of t.number journal ≡ life_of t.number t.past
  pub drops : drops_next t.number journal ≡ drops_next t.number t.past
  pub acted : (c : ℕ) → some_at (t.number + 1) (changes_medium c) journal ≡ has_acted t.number c t.past
  pub blocks : held s t.number journal ≡ t.held
  pub medium : is_gone t.number t.past ≡ false → t.contents ≡ Some (media s t.number journal)

abbrev pub TargetsKnowThemselves : Type 0
TargetsKnowThemselves = (s : Setting) (t : TargetState) (journal : List Entry) → StandsIn s t journal → KnowsItself s t journal

-- the stamp of a target's next entry comes after that of each entry of its lock, and after what was seen
abbrev pub NextIsLater : Type 0
NextIsLater =
    (s : Setting) (t : TargetState) (seen : ℕ) (journal : List Entry) → StandsIn s t journal →
    (stamps_below (t.number + 1) (next_stamp t.past seen) journal ≡ true) × (seen < next_stamp t.past seen)

-- With its new entry in front, the journal has at the target's lock what the target has now, and at every other lock what
-- stood there.
abbrev pub GrowthIsSeen : Type 0
GrowthIsSeen =
    (s : Setting) (t after : TargetState) (journal : List Entry) → lane (t.number + 1) journal ≡ t.past → (g : GrowsBy s journal t after) →
    (lane (t.number + 1) (g.entry ∷ journal) ≡ after.past) × ((k : ℕ) → k ≢ t.number + 1 → lane k (g.entry ∷ journal) ≡ lane k journal)
