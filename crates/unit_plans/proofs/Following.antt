-- An event of a target that is asked for and found so over the journal may follow it, as the target's next entry.
use Rattle.std.specs.Prelude.{◌≡◌, ◌<◌, ◌+◌, ℕ, suc, List, [], ◌∷◌}
use Rattle.std.proofs.Common.{refl, subst, arith}
use Rattle.array_journal.specs.declared.at.At.{At}
use Rattle.array_journal.specs.declared.entry.Entry.{Entry}
use Rattle.array_journal.specs.declared.event.Event.{Event}
use Rattle.array_journal.specs.declared.setting.Setting.{Setting}
use Rattle.array_journal.specs.May.{May}
use Rattle.array_journal.specs.Parts.{Asked, AskedTarget, Found, FoundTarget, AllEarlier, named_by}
use Rattle.array_journal.proofs.runs.MayOfParts.{parts-give_may}
use Rattle.xor_target.specs.Answers.{next_stamp, next_entry}
use Rattle.xor_target.specs.State.{TargetState}
use Rattle.unit_plans.specs.Targets.{StandsIn, AreSeen, GrowsBy}
use Rattle.unit_plans.proofs.Knowing.{next-later}

-- what was seen is earlier than what comes next
seen-earlier : (seen stamp : ℕ) (names : List At) → seen < stamp → AreSeen seen names → AllEarlier stamp names
seen-earlier seen stamp [] less h = tt
seen-earlier seen stamp (name ∷ names) less h = (omega (arith, less, h.0), seen-earlier seen stamp names less h.1)

pub follows : (s : Setting) (t : TargetState) (seen : ℕ) (event : Event) (journal : List Entry) → StandsIn s t journal →
    AskedTarget s journal t.number event → FoundTarget s journal t.number event → AreSeen seen (named_by event) → May s journal (next_entry t seen event)
follows s t seen event journal h asked found names =
    let lock : suc t.number ≡ t.number + 1 = omega arith in
    let later = next-later s t seen journal h in
    parts-give_may s journal (next_entry t seen event) (record {
      asked = subst (λ (k : ℕ). Asked s journal k event) lock (h.of_array.number, asked);
      found = subst (λ (k : ℕ). Found s journal k event) lock found;
      later = (later.0, seen-earlier seen (next_stamp t.past seen) (named_by event) later.1 names);
    })

pub grows : (s : Setting) (t after : TargetState) (seen : ℕ) (event : Event) (journal : List Entry) → StandsIn s t journal →
    AskedTarget s journal t.number event → FoundTarget s journal t.number event → AreSeen seen (named_by event) →
    after.past ≡ next_entry t seen event ∷ t.past → GrowsBy s journal t after
grows s t after seen event journal h asked found names grown = record {
  entry = next_entry t seen event;
  grown = grown;
  at_lock = refl;
  may = follows s t seen event journal h asked found names;
}
