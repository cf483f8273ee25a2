-- Units that are there: those that aren't absent, and those that an open rebuild has put. A unit comes by the put of
-- its rebuild alone.
use Rattle.std.specs.Prelude.{◌≡◌, ◌==◌, ◌&&◌, ◌⊎◌, ℕ, ◌+◌, Bool, true, false, List, [], ◌∷◌, Option, Some, is_some, if◌then◌else◌}
use Rattle.std.proofs.Common.{refl, ap, sym, ◌∙◌, arith, inl, inr}
use Rattle.std.proofs.lemmas.Bool.{eq-eqb, ne_eqb, eqb-true, cases_eq, cases_Bool, and_from, and_parts, and_left, and_right, or_parts, both_ways, false≢true, cond-true, cond-false}
use Rattle.array_journal.specs.declared.at.At.{At}
use Rattle.array_journal.specs.declared.entry.Entry.{Entry}
use Rattle.array_journal.specs.declared.setting.Setting.{Setting}
use Rattle.array_journal.specs.declared.task.Task.{Task}
use Rattle.array_journal.specs.Entries.{name_of, some_at}
use Rattle.array_journal.specs.Commands.{opens_command, is_open, task_of}
use Rattle.array_journal.specs.declared.act.Act.TheVariants.{Puts}
use Rattle.array_journal.specs.Acts.{is_act}
use Rattle.array_journal.specs.Lives.{loss_after, loss_of, is_gone, has_rebuilt, puts_rebuilt, is_loss, absent_in, is_absent, is_missing}
use Rattle.array_journal.specs.Run.{Grows}
use Rattle.array_journal.proofs.runs.Standing.{may-here, some_at-more, some_at-newest}
use Rattle.array_journal.proofs.runs.CommandLaws.{opened-once, task-opened}
use Rattle.array_journal.proofs.lives.LifeLaws.{loss_of-here, is_gone-else, DiskStep, loses, renews, keeps, disk-step}
use Rattle.array_journal.proofs.held.HeldOwners.{act-asks, act-works, HasAct, acted-has}
use Rattle.array_journal.proofs.windows.WindowLaws.{older-open, older-task}
use Rattle.array_journal.proofs.lives.DoneRebuilds.{IsRebuild, puts-rebuilt, put-puts}
use Rattle.array_journal.proofs.lives.AbsentLaws.{absent-exactly}
use Rattle.array_journal.proofs.lives.FinishedRebuilds.{Finishes, rebuilt-cases, put-opened, put-unfinished}

-- a put of this command stands at target i, and no loss came there since
abbrev pub put_since : ℕ → ℕ → List Entry → Bool
put_since c i [] = false
put_since c i (e ∷ past) =
    if (e.lock == i + 1) && is_loss e.event then false
    else if (e.lock == i + 1) && is_act Puts c e.event then true
    else put_since c i past

-- the unit of target i in a stripe is there
pub data There (i stripe : ℕ) (past : List Entry) : Type 0 where
  is_present : is_absent i stripe past ≡ false → There i stripe past
  is_put : (c : ℕ) (task : Task) → is_open c past ≡ true → task_of c past ≡ Some task → IsRebuild i stripe task → put_since c i past ≡ true → There i stripe past

-- the entry is the put of an open rebuild of a unit
pub record Makes (i stripe : ℕ) (e : Entry) (past : List Entry) : Type 0 where
  pub command : ℕ
  pub task : Task
  pub at_target : e.lock ≡ i + 1
  pub puts : is_act Puts command e.event ≡ true
  pub opened : is_open command past ≡ true
  pub its_task : task_of command past ≡ Some task
  pub rebuild : IsRebuild i stripe task

put_since-put : (i c : ℕ) (x : Entry) (xs : List Entry) → ((x.lock == i + 1) && is_loss x.event) ≡ false → ((x.lock == i + 1) && is_act Puts c x.event) ≡ true →
    put_since c i (x ∷ xs) ≡ true
put_since-put i c x xs l p = cond-false ((x.lock == i + 1) && is_loss x.event) false _ l ∙ cond-true ((x.lock == i + 1) && is_act Puts c x.event) true _ p

put_since-more : (i c : ℕ) (x : Entry) (xs : List Entry) → ((x.lock == i + 1) && is_loss x.event) ≡ false → put_since c i xs ≡ true → put_since c i (x ∷ xs) ≡ true
put_since-more i c x xs l p = elim (cases_Bool ((x.lock == i + 1) && is_act Puts c x.event)) [
  | inl put ↦ put_since-put i c x xs l put
  | inr other ↦ cond-false ((x.lock == i + 1) && is_loss x.event) false _ l ∙ cond-false ((x.lock == i + 1) && is_act Puts c x.event) true _ other ∙ p
]

-- a unit that is no longer absent in some entries: a rebuild of it was finished, whose put stands there since
absent-finished : (s : Setting) (i stripe : ℕ) (e : Entry) (whole xs : List Entry) → Grows s (e ∷ whole) → Grows s xs →
    ((c : ℕ) → some_at 0 (opens_command c) xs ≡ true → some_at 0 (opens_command c) whole ≡ true) → absent_in (e ∷ whole) i stripe xs ≡ false →
    (absent_in whole i stripe xs ≡ false) ⊎ ((c : ℕ) × (Finishes i stripe c e whole × (put_since c i xs ≡ true)))
absent-finished s i stripe e whole [] g k within h = inl refl
absent-finished s i stripe e whole (x ∷ xs) g k within h = by_loss (cases_Bool ((x.lock == i + 1) && is_loss x.event))
    (λ q. absent-finished s i stripe e whole xs g k.1 (λ c o. within c (some_at-more 0 (opens_command c) x xs o)) q)
  where
    Result : List Entry → Type 0
    Result ys = (absent_in whole i stripe ys ≡ false) ⊎ ((c : ℕ) × (Finishes i stripe c e whole × (put_since c i ys ≡ true)))

    putting : ((x.lock == i + 1) && is_loss x.event) ≡ false → ((x.lock == i + 1) && puts_rebuilt whole i stripe x.event) ≡ false →
        ((x.lock == i + 1) && puts_rebuilt (e ∷ whole) i stripe x.event) ≡ true → Result (x ∷ xs)
    putting l none p =
        let parts : ((x.lock == i + 1) ≡ true) × (puts_rebuilt (e ∷ whole) i stripe x.event ≡ true) =
        and_parts (x.lock == i + 1) (puts_rebuilt (e ∷ whole) i stripe x.event) p in
        let q : (c : ℕ) × ((is_act Puts c x.event ≡ true) × (has_rebuilt (e ∷ whole) i stripe c ≡ true)) = puts-rebuilt (e ∷ whole) i stripe x.event parts.1 in
        let o : some_at 0 (opens_command q.0) xs ≡ true = put-opened s i q.0 x xs k (eqb-true x.lock (i + 1) parts.0) q.1.0 in
        elim (rebuilt-cases s i stripe q.0 e whole g (within q.0 (some_at-more 0 (opens_command q.0) x xs o)) q.1.1) as (λ _. Result (x ∷ xs)) [
          | inl counted ↦ absurd (both_ways ((x.lock == i + 1) && puts_rebuilt whole i stripe x.event) none
              (and_from (x.lock == i + 1) (puts_rebuilt whole i stripe x.event) parts.0 (put-puts whole i stripe q.0 x.event q.1.0 counted)))
          | inr f ↦ inr (q.0, (f, put_since-put i q.0 x xs l (and_from (x.lock == i + 1) (is_act Puts q.0 x.event) parts.0 q.1.0)))
        ]

    later : ((x.lock == i + 1) && is_loss x.event) ≡ false → ((x.lock == i + 1) && puts_rebuilt whole i stripe x.event) ≡ false → Result xs → Result (x ∷ xs)
    later l none (inl q) =
        inl (cond-false ((x.lock == i + 1) && is_loss x.event) true _ l ∙ cond-false ((x.lock == i + 1) && puts_rebuilt whole i stripe x.event) false _ none ∙ q)
    later l none (inr (c, (f, p))) = inr (c, (f, put_since-more i c x xs l p))

    by_put : ((x.lock == i + 1) && is_loss x.event) ≡ false → (absent_in (e ∷ whole) i stripe xs ≡ false → Result xs) →
        (((x.lock == i + 1) && puts_rebuilt whole i stripe x.event) ≡ true) ⊎ (((x.lock == i + 1) && puts_rebuilt whole i stripe x.event) ≡ false) →
        (((x.lock == i + 1) && puts_rebuilt (e ∷ whole) i stripe x.event) ≡ true) ⊎ (((x.lock == i + 1) && puts_rebuilt (e ∷ whole) i stripe x.event) ≡ false) →
        Result (x ∷ xs)
    by_put l rec (inl counted) _ =
        inl (cond-false ((x.lock == i + 1) && is_loss x.event) true _ l ∙ cond-true ((x.lock == i + 1) && puts_rebuilt whole i stripe x.event) false _ counted)
    by_put l rec (inr none) (inl p) = putting l none p
    by_put l rec (inr none) (inr other) =
        later l none (rec (sym (cond-false ((x.lock == i + 1) && is_loss x.event) true _ l
        ∙ cond-false ((x.lock == i + 1) && puts_rebuilt (e ∷ whole) i stripe x.event) false _ other) ∙ h))

    by_loss : (((x.lock == i + 1) && is_loss x.event) ≡ true) ⊎ (((x.lock == i + 1) && is_loss x.event) ≡ false) → (absent_in (e ∷ whole) i stripe xs ≡ false → Result xs) →
        Result (x ∷ xs)
    by_loss (inl l) rec = absurd (false≢true (sym h ∙ cond-true ((x.lock == i + 1) && is_loss x.event) true _ l))
    by_loss (inr l) rec =
        by_put l rec (cases_Bool ((x.lock == i + 1) && puts_rebuilt whole i stripe x.event)) (cases_Bool ((x.lock == i + 1) && puts_rebuilt (e ∷ whole) i stripe x.event))

put_since-made : (i c : ℕ) (past : List Entry) → put_since c i past ≡ true → some_at (i + 1) (is_act Puts c) past ≡ true
put_since-made i c [] h = absurd (false≢true h)
put_since-made i c (e ∷ past) h = by (cases_Bool ((e.lock == i + 1) && is_loss e.event)) (cases_Bool ((e.lock == i + 1) && is_act Puts c e.event)) (put_since-made i c past)
  where
    by : (((e.lock == i + 1) && is_loss e.event) ≡ true) ⊎ (((e.lock == i + 1) && is_loss e.event) ≡ false) →
        (((e.lock == i + 1) && is_act Puts c e.event) ≡ true) ⊎ (((e.lock == i + 1) && is_act Puts c e.event) ≡ false) →
        (put_since c i past ≡ true → some_at (i + 1) (is_act Puts c) past ≡ true) → some_at (i + 1) (is_act Puts c) (e ∷ past) ≡ true
    by (inl l) _ rec = absurd (false≢true (sym (cond-true ((e.lock == i + 1) && is_loss e.event) false _ l) ∙ h))
    by (inr l) (inl p) rec =
        let parts : ((e.lock == i + 1) ≡ true) × (is_act Puts c e.event ≡ true) = and_parts (e.lock == i + 1) (is_act Puts c e.event) p in
        some_at-newest (i + 1) (is_act Puts c) e past (eqb-true e.lock (i + 1) parts.0) parts.1
    by (inr l) (inr other) rec =
        some_at-more (i + 1) (is_act Puts c) e past
        (rec (sym (cond-false ((e.lock == i + 1) && is_loss e.event) false _ l ∙ cond-false ((e.lock == i + 1) && is_act Puts c e.event) true _ other) ∙ h))

-- a unit that is there was there, or the newest entry put it
pub there-step : (s : Setting) (i stripe : ℕ) (e : Entry) (past : List Entry) → Grows s (e ∷ past) → There i stripe (e ∷ past) → There i stripe past ⊎ Makes i stripe e past
there-step s i stripe e past g (is_present h) = by_loss (cases_Bool ((e.lock == i + 1) && is_loss e.event))
  where
    by_loss : (((e.lock == i + 1) && is_loss e.event) ≡ true) ⊎ (((e.lock == i + 1) && is_loss e.event) ≡ false) → There i stripe past ⊎ Makes i stripe e past
    by_loss (inl l) = absurd (false≢true (sym h ∙ cond-true ((e.lock == i + 1) && is_loss e.event) true _ l))
    by_loss (inr l) =
        let k : absent_in (e ∷ past) i stripe past ≡ false =
        sym (cond-false ((e.lock == i + 1) && is_loss e.event) true _ l
        ∙ cond-false ((e.lock == i + 1) && puts_rebuilt (e ∷ past) i stripe e.event) false _ (put-unfinished s i stripe e past g)) ∙ h in
        elim (absent-finished s i stripe e past past g g.1 (λ c o. o) k) as (λ _. There i stripe past ⊎ Makes i stripe e past) [
          | inl kept ↦ inl (is_present kept)
          | inr f ↦ inl (is_put f.0 f.1.0.task f.1.0.opened f.1.0.its_task f.1.0.rebuild f.1.1)
        ]
there-step s i stripe e past g (is_put c task o q r p) = by (cases_Bool ((e.lock == 0) && opens_command c e.event))
  where
    older : ((e.lock ≡ 0) × (opens_command c e.event ≡ true) → ⊥) → There i stripe past ⊎ Makes i stripe e past
    older other = elim (cases_Bool ((e.lock == i + 1) && is_loss e.event)) as (λ _. There i stripe past ⊎ Makes i stripe e past) [
      | inl l ↦ absurd (false≢true (sym (cond-true ((e.lock == i + 1) && is_loss e.event) false _ l) ∙ p))
      | inr l ↦ elim (cases_Bool ((e.lock == i + 1) && is_act Puts c e.event)) as (λ _. There i stripe past ⊎ Makes i stripe e past) [
        | inl put ↦ inr (record {
          command = c;
          task = task;
          at_target = eqb-true e.lock (i + 1) (and_parts (e.lock == i + 1) (is_act Puts c e.event) put).0;
          puts = (and_parts (e.lock == i + 1) (is_act Puts c e.event) put).1;
          opened = older-open c e past other o;
          its_task = sym (older-task c e past other) ∙ q;
          rebuild = r;
        })
        | inr none ↦ inl (is_put c task (older-open c e past other o) (sym (older-task c e past other) ∙ q) r
            (sym (cond-false ((e.lock == i + 1) && is_loss e.event) false _ l ∙ cond-false ((e.lock == i + 1) && is_act Puts c e.event) true _ none) ∙ p))
      ]
    ]

    by : (((e.lock == 0) && opens_command c e.event) ≡ true) ⊎ (((e.lock == 0) && opens_command c e.event) ≡ false) → There i stripe past ⊎ Makes i stripe e past
    by (inr none) = older (λ both. both_ways ((e.lock == 0) && opens_command c e.event) none (and_from (e.lock == 0) (opens_command c e.event) (eq-eqb e.lock 0 both.0) both.1))
    by (inl opened) =
        let parts : ((e.lock == 0) ≡ true) × (opens_command c e.event ≡ true) = and_parts (e.lock == 0) (opens_command c e.event) opened in
        let book : e.lock ≡ 0 = eqb-true e.lock 0 parts.0 in
        let away : (e.lock == i + 1) ≡ false = ne_eqb e.lock (i + 1) (λ k. omega arith) in
        let k : put_since c i past ≡ true =
        sym (cond-false ((e.lock == i + 1) && is_loss e.event) false _ (and_left (e.lock == i + 1) (is_loss e.event) away)
        ∙ cond-false ((e.lock == i + 1) && is_act Puts c e.event) true _ (and_left (e.lock == i + 1) (is_act Puts c e.event) away)) ∙ p in
        let a : HasAct s past i c Puts = acted-has s i c Puts past g.1 (put_since-made i c past k) in
        absurd (both_ways (opens_command c e.event) (opened-once s c e past g.1 g.0.1 book (task-opened c past a.0 a.1.0)) parts.1)

put_since-works : (s : Setting) (i c : ℕ) (past : List Entry) → Grows s past → put_since c i past ≡ true → is_gone i past ≡ false
put_since-works s i c [] g h = absurd (false≢true h)
put_since-works s i c (e ∷ past) g h = elim (cases_eq e.lock (i + 1)) [
  | inl here ↦ at_disk here (disk-step i s past e.stamp e.event (may-here s past e.stamp e.lock i e.event here g.0.1.1)) (cases_Bool (is_act Puts c e.event))
      (put_since-works s i c past g.1)
  | inr other ↦
      let away : (e.lock == i + 1) ≡ false = ne_eqb e.lock (i + 1) other in
      is_gone-else i e past other
      ∙ put_since-works s i c past g.1 (sym (cond-false ((e.lock == i + 1) && is_loss e.event) false _ (and_left (e.lock == i + 1) (is_loss e.event) away)
      ∙ cond-false ((e.lock == i + 1) && is_act Puts c e.event) true _ (and_left (e.lock == i + 1) (is_act Puts c e.event) away)) ∙ h)
]
  where
    same : e.lock ≡ i + 1 → ((at : At) (old : Option At) → loss_after at e.event old ≡ old) → is_gone i (e ∷ past) ≡ is_gone i past
    same here a = ap (λ o. is_some o) (loss_of-here i e past here ∙ a (name_of e) (loss_of i past))

    at_disk : e.lock ≡ i + 1 → DiskStep i past e.stamp e.event → (is_act Puts c e.event ≡ true) ⊎ (is_act Puts c e.event ≡ false) →
        (put_since c i past ≡ true → is_gone i past ≡ false) → is_gone i (e ∷ past) ≡ false
    at_disk here (loses l f a v) p rec =
        absurd (false≢true (sym (cond-true ((e.lock == i + 1) && is_loss e.event) false _ (and_from (e.lock == i + 1) (is_loss e.event) (eq-eqb e.lock (i + 1) here) l)) ∙ h))
    at_disk here (renews l f a v call swap k m) p rec = ap (λ o. is_some o) (loss_of-here i e past here ∙ a (name_of e) (loss_of i past))
    at_disk here (keeps l f a v) (inl put) rec =
        same here a ∙ act-works s past e.stamp i c Puts (act-asks s past e.stamp i c Puts e.event (may-here s past e.stamp e.lock i e.event here g.0.1.1) put)
    at_disk here (keeps l f a v) (inr none) rec =
        same here a ∙ rec (sym (cond-false ((e.lock == i + 1) && is_loss e.event) false _ (and_right (e.lock == i + 1) (is_loss e.event) l)
        ∙ cond-false ((e.lock == i + 1) && is_act Puts c e.event) true _ (and_right (e.lock == i + 1) (is_act Puts c e.event) none)) ∙ h)

-- the disk of a unit that is there works
pub there-works : (s : Setting) (i stripe : ℕ) (past : List Entry) → Grows s past → There i stripe past → is_gone i past ≡ false
there-works s i stripe past g (is_present h) = (or_parts (is_missing i stripe past) (is_gone i past) (sym (absent-exactly s i stripe past g) ∙ h)).1
there-works s i stripe past g (is_put c task o q r p) = put_since-works s i c past g p
