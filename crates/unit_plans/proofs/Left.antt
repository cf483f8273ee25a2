-- Entries of others leave what a plan has asked for.
use Rattle.std.specs.Prelude.{◌≡◌, ◌++◌, ℕ, List, [], ◌∷◌, Option, Some, None}
use Rattle.std.proofs.Common.{refl, sym, ◌∙◌, subst}
use Rattle.std.proofs.lemmas.Bool.{cond-false}
use Rattle.array_journal.specs.declared.act.Act.{Act as Kind}
use Rattle.array_journal.specs.declared.act.Act.TheVariants.{Fetches, Puts, Diffs, Takes, Folds, Holds}
use Rattle.array_journal.specs.declared.at.At.{At}
use Rattle.array_journal.specs.declared.entry.Entry.{Entry}
use Rattle.array_journal.specs.declared.event.Event.{Event}
use Rattle.array_journal.specs.declared.event.Event.TheVariants.{Take, Diff}
use Rattle.array_journal.specs.declared.setting.Setting.{Setting}
use Rattle.array_journal.specs.declared.task.Task.{Task}
use Rattle.array_journal.specs.Deltas.{delta_at, delta_in}
use Rattle.array_journal.specs.Entries.{entry_at, name_of, same_at}
use Rattle.array_journal.specs.May.{IsFoldSource}
use Rattle.array_journal.specs.OwnEntries.{OfCommand}
use Rattle.array_journal.specs.Run.{Grows}
use Rattle.array_journal.proofs.runs.OwnLaws.{others-leave_mine}
use Rattle.array_journal.proofs.runs.Standing.{entry_at-more, not-later}
use Rattle.unit_plans.specs.declared.doings.Do.{Do}
use Rattle.unit_plans.specs.declared.steps.Step.{Step}
use Rattle.unit_plans.specs.declared.steps.Step.TheVariants.{Begun, Acting, Closing, Over}
use Rattle.unit_plans.specs.Buses.{BusSetting}
use Rattle.unit_plans.specs.Follows.{IsOnStep, RestsOn}
use Rattle.unit_plans.specs.PlanLaws.{PlansAreLeft}
use Rattle.unit_plans.specs.Plans.{PlanState}

still-named : (s : Setting) (name : At) (event : Event) (others journal : List Entry) → Grows s (others ++ journal) → entry_at name journal ≡ Some event →
    entry_at name (others ++ journal) ≡ Some event
still-named s name event [] journal g h = h
still-named s name event (e ∷ others) journal g h = entry_at-more name e (others ++ journal) event g.0.1.0 (still-named s name event others journal g.1 h)

still-delta : (s : Setting) (i : ℕ) (name : At) (event : Event) (others journal : List Entry) → Grows s (others ++ journal) → entry_at name journal ≡ Some event →
    delta_at s i name (others ++ journal) ≡ delta_at s i name journal
still-delta s i name event [] journal g h = refl
still-delta s i name event (e ∷ others) journal g h =
    cond-false (same_at name (name_of e)) (delta_in s i (others ++ journal) e.event) (delta_at s i name (others ++ journal))
    (not-later name e (others ++ journal) event g.0.1.0 (still-named s name event others journal g.1 h))
    ∙ still-delta s i name event others journal g.1 h

-- what a fold rests on is read from the entry that it names, and from the delta of it
source-of : (s : Setting) (past more : List Entry) (c : ℕ) (task : Task) (name : At) (bytes : List ℕ) (found : Option Event) →
    delta_at s task.target name more ≡ delta_at s task.target name past → IsFoldSource s past c task name bytes found → IsFoldSource s more c task name bytes found
source-of s past more c task name bytes None same h = h
source-of s past more c task name bytes (Some (Take command opened cdb row taken)) same h = h
source-of s past more c task name bytes (Some (Diff command opened cdb row written sent dropped back)) same h = (h.0, h.1, same ∙ h.2)
source-of s past more c task name bytes (Some _) same h = h

still-source : (s : Setting) (c : ℕ) (task : Task) (name : At) (bytes : List ℕ) (others journal : List Entry) → Grows s (others ++ journal) →
    IsFoldSource s journal c task name bytes (entry_at name journal) → IsFoldSource s (others ++ journal) c task name bytes (entry_at name (others ++ journal))
still-source s c task name bytes others journal g h = by (entry_at name journal) refl h
  where
    by : (found : Option Event) → entry_at name journal ≡ found → IsFoldSource s journal c task name bytes found →
        IsFoldSource s (others ++ journal) c task name bytes (entry_at name (others ++ journal))
    by None is h = absurd h
    by (Some event) is h =
        subst (IsFoldSource s (others ++ journal) c task name bytes) (sym (still-named s name event others journal g is))
        (source-of s journal (others ++ journal) c task name bytes (Some event) (still-delta s task.target name event others journal g is) h)

rests-still : (b : BusSetting) (p : PlanState) (act : Kind) (names : List At) (bytes : List ℕ) (others journal : List Entry) → Grows b.array (others ++ journal) →
    RestsOn b p act names bytes journal → RestsOn b p act names bytes (others ++ journal)
rests-still b p Fetches names bytes others journal g h = h
rests-still b p Diffs names bytes others journal g h = h
rests-still b p Takes names bytes others journal g h = h
rests-still b p Folds [] bytes others journal g h = absurd h
rests-still b p Folds (name ∷ []) bytes others journal g h = (h.0, (h.1.0, still-source b.array p.command p.task name bytes others journal g h.1.1))
rests-still b p Folds (name ∷ x ∷ names) bytes others journal g h = absurd h
rests-still b p Puts names bytes others journal g h = absurd h
rests-still b p Holds names bytes others journal g h = absurd h

on-still : (step : Step) (b : BusSetting) (p : PlanState) (next : Do) (others journal : List Entry) → Grows b.array (others ++ journal) → IsOnStep step b p next journal →
    IsOnStep step b p next (others ++ journal)
on-still Begun b p next others journal g h = absurd h
on-still (Acting act) b p next others journal g h =
    record { kind = h.kind; names = h.names; bytes = h.bytes; says = h.says; rests = rests-still b p act h.names h.bytes others journal g h.rests }
on-still Closing b p next others journal g h = h
on-still Over b p next others journal g h = absurd h

pub plans-left : PlansAreLeft
plans-left b p next others journal plan g not_own asked =
    let f = asked.followed in
    record {
      entries = asked.entries;
      followed = record {
        geometry = f.geometry;
        mode = f.mode;
        fits = f.fits;
        sound = f.sound;
        in_book = f.in_book;
        own = others-leave_mine (OfCommand p.command) others journal not_own ∙ f.own;
        made = f.made;
      };
      named = asked.named;
      replies = asked.replies;
      on = on-still p.step b p next others journal g asked.on;
    }
