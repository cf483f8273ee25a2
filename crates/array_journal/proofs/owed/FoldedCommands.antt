-- A command that folded is an update that has its diff: so no fold comes before the diff.
use Rattle.std.specs.Prelude.{◌≡◌, ℕ, ◌+◌, Bool, true, false, List, [], ◌∷◌, Some}
use Rattle.std.proofs.Common.{refl, ap, sym, ◌∙◌, cond, subst, inl, inr}
use Rattle.std.proofs.lemmas.Bool.{eqb-true, cases_Bool, both_ways, false≢true}
use Rattle.array_journal.specs.declared.entry.Entry.{Entry}
use Rattle.array_journal.specs.declared.event.Event.{Event}
use Rattle.array_journal.specs.declared.event.Event.TheVariants.{Fold}
use Rattle.array_journal.specs.declared.setting.Setting.{Setting}
use Rattle.array_journal.specs.declared.task.Kind.TheVariants.{Update}
use Rattle.array_journal.specs.declared.task.Task.{Task}
use Rattle.array_journal.specs.Entries.{some_at}
use Rattle.array_journal.specs.Commands.{task_of}
use Rattle.array_journal.specs.declared.act.Act.TheVariants.{Diffs, Folds}
use Rattle.array_journal.specs.Acts.{has_act, is_act}
use Rattle.array_journal.specs.Deltas.{has_acted}
use Rattle.array_journal.specs.May.{MayTarget}
use Rattle.array_journal.specs.Run.{Grows, IsSetting}
use Rattle.array_journal.proofs.runs.Standing.{some_at-newest, some_at-more}
use Rattle.array_journal.proofs.runs.CommandLaws.{named-task, task_of-more, one_task}
use Rattle.array_journal.proofs.owed.DeltaLaws.{act-lock, folds-update, IsDiffed, diff-task, diff-once}
use Rattle.array_journal.proofs.held.HeldDeltas.{fold-delta}

-- a command that folded has its diff, and the fold at its parity target
pub record HasFolded (s : Setting) (c : ℕ) (past : List Entry) (task : Task) : Type 0 where
  pub its_task : task_of c past ≡ Some task
  pub update : task.kind ≡ Update
  pub differed : some_at (task.target + 1) (is_act Diffs c) past ≡ true
  pub folded : some_at (task.parity + 1) (is_act Folds c) past ≡ true

fold-newest : (s : Setting) (past : List Entry) (stamp i c : ℕ) (event : Event) → IsSetting s → Grows s past → MayTarget s past stamp i event → is_act Folds c event ≡ true →
    (task : Task) × ((task_of c past ≡ Some task) × ((has_act s Folds task i ≡ true) × (some_at (task.target + 1) (is_act Diffs c) past ≡ true)))
fold-newest s past stamp i c (Fold command opened cdb row bytes names) set g m h =
    subst (λ (d : ℕ). (task : Task) × ((task_of d past ≡ Some task) × ((has_act s Folds task i ≡ true) × (some_at (task.target + 1) (is_act Diffs d) past ≡ true))))
    (eqb-true command c h) (
      m.0,
      (
        named-task s opened command m.0 past g m.1.1.act.in_book m.1.1.act.opening.0,
        (m.1.1.act.of_task, (fold-delta s past stamp i command opened cdb row bytes names m.0 m.1.0 set g m.1.1).0),
      ),
    )
fold-newest s past stamp i c _ set g m h = absurd (false≢true h)

pub has-folded : (s : Setting) (c : ℕ) (past : List Entry) → IsSetting s → Grows s past → has_acted Folds c past ≡ true → (task : Task) × HasFolded s c past task
has-folded s c [] set g h = absurd (false≢true h)
has-folded s c (e ∷ past) set g h = choose (is_act Folds c e.event) refl (λ k. has-folded s c past set g.1 k) h
  where
    newest : (i : ℕ) × ((e.lock ≡ i + 1) × MayTarget s past e.stamp i e.event) → is_act Folds c e.event ≡ true → (task : Task) × HasFolded s c (e ∷ past) task
    newest (i, (here, m)) acts_so =
        let f : (task : Task) × ((task_of c past ≡ Some task) × ((has_act s Folds task i ≡ true) × (some_at (task.target + 1) (is_act Diffs c) past ≡ true))) =
        fold-newest s past e.stamp i c e.event set g.1 m acts_so in
        let u : (f.0.kind ≡ Update) × (i ≡ f.0.parity) = folds-update s f.0 i f.1.1.0 in (
          f.0,
          record {
            its_task = task_of-more s c e past f.0 g.1 g.0.1 f.1.0;
            update = u.0;
            differed = some_at-more (f.0.target + 1) (is_act Diffs c) e past f.1.1.1;
            folded = some_at-newest (f.0.parity + 1) (is_act Folds c) e past (here ∙ ap (λ (n : ℕ). n + 1) u.1) acts_so;
          },
        )

    choose : (b : Bool) → is_act Folds c e.event ≡ b → (has_acted Folds c past ≡ true → (task : Task) × HasFolded s c past task) →
        cond b true (has_acted Folds c past) ≡ true → (task : Task) × HasFolded s c (e ∷ past) task
    choose true q rec k = newest (act-lock s past e.stamp e.lock c Folds e.event g.0.1.1 q) q
    choose false q rec k = more (rec k)
      where
        more : (task : Task) × HasFolded s c past task → (task : Task) × HasFolded s c (e ∷ past) task
        more (task, f) = (
          task,
          record {
            its_task = task_of-more s c e past task g.1 g.0.1 f.its_task;
            update = f.update;
            differed = some_at-more (task.target + 1) (is_act Diffs c) e past f.differed;
            folded = some_at-more (task.parity + 1) (is_act Folds c) e past f.folded;
          },
        )

-- so no fold of a command comes before its diff
pub diff-unfolded : (s : Setting) (i c : ℕ) (e : Entry) (past : List Entry) → IsSetting s → Grows s (e ∷ past) → e.lock ≡ i + 1 → is_act Diffs c e.event ≡ true →
    has_acted Folds c past ≡ false
diff-unfolded s i c e past set g here h = elim (cases_Bool (has_acted Folds c past)) [
  | inl folded ↦ absurd (never (has-folded s c past set g.1 folded) (diff-task s i c (e ∷ past) g (some_at-newest (i + 1) (is_act Diffs c) e past here h)))
  | inr none ↦ none
]
  where
    never : (task : Task) × HasFolded s c past task → (task : Task) × IsDiffed s i c (e ∷ past) task → ⊥
    never (task, f) (other, d) =
        let same : task ≡ other = one_task task other (sym (task_of-more s c e past task g.1 g.0.1 f.its_task) ∙ d.its_task) in
        let place : task.target ≡ i = ap (λ (t : Task). t.target) same ∙ sym d.at_target in
        both_ways (is_act Diffs c e.event)
        (diff-once s i c e past g (subst (λ (n : ℕ). some_at (n + 1) (is_act Diffs c) past ≡ true) place f.differed) here) h
