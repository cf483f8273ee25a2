-- How the acts of a command go over one more entry.
use Rattle.std.proofs.Common.{◌≡◌, ◌==◌, ◌&&◌, ◌||◌, ℕ, Bool, true, false, List, ◌∷◌, Option, Some, None, refl, ap, sym, ◌∙◌, cond, subst, inl, inr}
use Rattle.std.proofs.lemmas.Bool.{cases_eq, eq-eqb, ne_eqb}
use Rattle.std.specs.BTreeMap.{get, Updates}
use Rattle.std.specs.Option.{unwrap_or}
use Rattle.array_journal.specs.declared.entry.Entry.{Entry}
use Rattle.array_journal.specs.declared.event.Event.{Event}
use Rattle.array_journal.specs.declared.event.Event.TheVariants.{Fetch, Put, Diff, Take, Fold, Hold, Shut}
use Rattle.journal_index.specs.declared.acts_done.ActsDone.{ActsDone}
use Rattle.journal_index.specs.declared.command_acts.CommandActs.{CommandActs}
use Rattle.array_journal.specs.ActEvents.{actor}
use Rattle.journal_index.specs.CommandActs.{KeepsActs, with_act, none_done}
use Rattle.journal_index.specs.ActsDone.{acts_done}
use Rattle.journal_index.specs.Keys.{pair_cmp}
use Rattle.journal_index.proofs.Keys.{tied-pairs}

abbrev seven : Bool → Bool → Bool → Bool → Bool → Bool → Bool → ActsDone
seven f p d t o h s = record { fetched = f; put = p; diffed = d; taken = t; folded = o; held = h; shut = s }

-- whether the command of an event is this one, by its lock and its number
abbrev acts_for : ℕ → ℕ → ℕ → Option ℕ → Bool
acts_for l lock c (Some command) = (l == lock) && (command == c)
acts_for l lock c None = false

-- an event that is no act of a command
quiet : (a : Bool) (d : ActsDone) →
    seven ((a && false) || d.fetched) ((a && false) || d.put) ((a && false) || d.diffed) ((a && false) || d.taken) ((a && false) || d.folded) ((a && false) || d.held) ((a && false) || d.shut) ≡ d
quiet true d = refl
quiet false d = refl

-- the acts after an entry are those before it with its own
pub acts_done-more : (lock c : ℕ) (stamp l : ℕ) (event : Event) (past : List Entry) →
    acts_done lock c (record { stamp = stamp; lock = l; event = event } ∷ past)
    ≡ cond (acts_for l lock c (actor event)) (with_act event (acts_done lock c past)) (acts_done lock c past)
acts_done-more lock c stamp l (Fetch command opened cdb row bytes) past = by (l == lock) (command == c) (acts_done lock c past)
  where
    by : (a b : Bool) (d : ActsDone) →
        seven ((a && b) || d.fetched) ((a && false) || d.put) ((a && false) || d.diffed) ((a && false) || d.taken) ((a && false) || d.folded) ((a && false) || d.held) ((a && false) || d.shut)
        ≡ cond (a && b) (record d { fetched = true }) d
    by true true d = refl
    by true false d = refl
    by false b d = refl
acts_done-more lock c stamp l (Put command opened cdb row bytes names) past = by (l == lock) (command == c) (acts_done lock c past)
  where
    by : (a b : Bool) (d : ActsDone) →
        seven ((a && false) || d.fetched) ((a && b) || d.put) ((a && false) || d.diffed) ((a && false) || d.taken) ((a && false) || d.folded) ((a && false) || d.held) ((a && false) || d.shut)
        ≡ cond (a && b) (record d { put = true }) d
    by true true d = refl
    by true false d = refl
    by false b d = refl
acts_done-more lock c stamp l (Diff command opened cdb row bytes sent dropped back) past = by (l == lock) (command == c) (acts_done lock c past)
  where
    by : (a b : Bool) (d : ActsDone) →
        seven ((a && false) || d.fetched) ((a && false) || d.put) ((a && b) || d.diffed) ((a && false) || d.taken) ((a && false) || d.folded) ((a && false) || d.held) ((a && false) || d.shut)
        ≡ cond (a && b) (record d { diffed = true }) d
    by true true d = refl
    by true false d = refl
    by false b d = refl
acts_done-more lock c stamp l (Take command opened cdb row bytes) past = by (l == lock) (command == c) (acts_done lock c past)
  where
    by : (a b : Bool) (d : ActsDone) →
        seven ((a && false) || d.fetched) ((a && false) || d.put) ((a && false) || d.diffed) ((a && b) || d.taken) ((a && false) || d.folded) ((a && false) || d.held) ((a && false) || d.shut)
        ≡ cond (a && b) (record d { taken = true }) d
    by true true d = refl
    by true false d = refl
    by false b d = refl
acts_done-more lock c stamp l (Fold command opened cdb row bytes names) past = by (l == lock) (command == c) (acts_done lock c past)
  where
    by : (a b : Bool) (d : ActsDone) →
        seven ((a && false) || d.fetched) ((a && false) || d.put) ((a && false) || d.diffed) ((a && false) || d.taken) ((a && b) || d.folded) ((a && false) || d.held) ((a && false) || d.shut)
        ≡ cond (a && b) (record d { folded = true }) d
    by true true d = refl
    by true false d = refl
    by false b d = refl
acts_done-more lock c stamp l (Hold command opened cdb row bytes kept names back) past = by (l == lock) (command == c) (acts_done lock c past)
  where
    by : (a b : Bool) (d : ActsDone) →
        seven ((a && false) || d.fetched) ((a && false) || d.put) ((a && false) || d.diffed) ((a && false) || d.taken) ((a && false) || d.folded) ((a && b) || d.held) ((a && false) || d.shut)
        ≡ cond (a && b) (record d { held = true }) d
    by true true d = refl
    by true false d = refl
    by false b d = refl
acts_done-more lock c stamp l (Shut command opened acted lost) past = by (l == lock) (command == c) (acts_done lock c past)
  where
    by : (a b : Bool) (d : ActsDone) →
        seven ((a && false) || d.fetched) ((a && false) || d.put) ((a && false) || d.diffed) ((a && false) || d.taken) ((a && false) || d.folded) ((a && false) || d.held) ((a && b) || d.shut)
        ≡ cond (a && b) (record d { shut = true }) d
    by true true d = refl
    by true false d = refl
    by false b d = refl
acts_done-more lock c stamp l _ past = quiet (l == lock) (acts_done lock c past)

-- what is kept after an entry of a command that acts
pub kept-more : (stamp l command : ℕ) (event : Event) (past : List Entry) (m n : CommandActs) →
    actor event ≡ Some command → KeepsActs past m →
    Updates pair_cmp m.kept n.kept (l, command) (Some (with_act event (acts_done l command past))) →
    KeepsActs (record { stamp = stamp; lock = l; event = event } ∷ past) n
kept-more stamp l command event past m n acts keeps u lock c =
    ap (λ o. unwrap_or o none_done) (u.0 (lock, c) ∙ ap (λ b. cond b (Some (with_act event (acts_done l command past))) (get pair_cmp m.kept (lock, c))) (tied-pairs l command lock c))
    ∙ chosen
    ∙ sym (acts_done-more lock c stamp l event past ∙ ap (λ o. cond (acts_for l lock c o) (with_act event (acts_done lock c past)) (acts_done lock c past)) acts)
  where
    chosen : unwrap_or (cond ((l == lock) && (command == c)) (Some (with_act event (acts_done l command past))) (get pair_cmp m.kept (lock, c))) none_done
        ≡ cond ((l == lock) && (command == c)) (with_act event (acts_done lock c past)) (acts_done lock c past)
    chosen = elim (cases_eq l lock) [
      | inl e ↦ elim (cases_eq command c) [
        | inl f ↦ rw (eq-eqb l lock e, eq-eqb command c f) (subst (λ (x : ℕ). with_act event (acts_done l command past) ≡ with_act event (acts_done x c past)) e
            (subst (λ (y : ℕ). with_act event (acts_done l command past) ≡ with_act event (acts_done l y past)) f refl))
        | inr f ↦ rw (eq-eqb l lock e, ne_eqb command c f) (keeps lock c)
      ]
      | inr e ↦ rw (ne_eqb l lock e) (keeps lock c)
    ]

-- and after any other
pub kept-quiet : (stamp l : ℕ) (event : Event) (past : List Entry) (m : CommandActs) →
    actor event ≡ None → KeepsActs past m →
    KeepsActs (record { stamp = stamp; lock = l; event = event } ∷ past) m
kept-quiet stamp l event past m idle keeps lock c =
    keeps lock c
    ∙ sym (acts_done-more lock c stamp l event past ∙ ap (λ o. cond (acts_for l lock c o) (with_act event (acts_done lock c past)) (acts_done lock c past)) idle)
