-- While a command is open, a unit of its stripe that was missing at its opening stays missing: the rebuild that could
-- end that runs alone on its stripe.
use Rattle.std.specs.Prelude.{◌≡◌, ◌==◌, ◌&&◌, ◌⊎◌, ℕ, true, false, List, [], ◌∷◌, Some}
use Rattle.std.proofs.Common.{refl, ap, sym, ◌∙◌, subst, inl, inr}
use Rattle.std.proofs.lemmas.Bool.{eq-eqb, eqb-true, cases_eq, cases_Bool, and_from, and_parts, both_ways, false≢true, cond-true, cond-false}
use Rattle.array_journal.specs.declared.entry.Entry.{Entry}
use Rattle.array_journal.specs.declared.event.Event.{Event}
use Rattle.array_journal.specs.declared.event.Event.TheVariants.{Open}
use Rattle.array_journal.specs.declared.setting.Setting.{Setting}
use Rattle.array_journal.specs.declared.task.Kind.{Kind}
use Rattle.array_journal.specs.declared.task.Kind.TheVariants.{Rebuild}
use Rattle.array_journal.specs.declared.task.Task.{Task}
use Rattle.array_journal.specs.Entries.{some_at}
use Rattle.array_journal.specs.Commands.{opens_command, ends_command, is_open, task_of, is_shared}
use Rattle.array_journal.specs.Lives.{is_note_of, rebuilds, closes_done, has_rebuilt, opens_rebuilt, missing_in, is_missing}
use Rattle.array_journal.specs.May.{MayBook, MayOpen}
use Rattle.array_journal.specs.Run.{Grows}
use Rattle.array_journal.proofs.runs.Standing.{may-book, some_at-cases, some_at-more, some_at-newest}
use Rattle.array_journal.proofs.runs.CommandLaws.{opened-once, ended-opened, open-not_ended}
use Rattle.array_journal.proofs.owed.ActBars.{some_at-weaker}
use Rattle.array_journal.proofs.windows.WindowLaws.{opens-event, older-open, older-task, exclusive-alone}
use Rattle.array_journal.proofs.lives.DoneRebuilds.{opens-rebuilt, opened-task, done-ends}
use Rattle.array_journal.proofs.lives.FinishedRebuilds.{Finishes, rebuilt-cases}

-- units that are missing stay so, but where their rebuild is finished
missing-kept : (s : Setting) (i stripe : ℕ) (e : Entry) (whole xs : List Entry) → Grows s (e ∷ whole) →
    ((c : ℕ) → some_at 0 (opens_command c) xs ≡ true → some_at 0 (opens_command c) whole ≡ true) → ((c : ℕ) → Finishes i stripe c e whole → ⊥) →
    missing_in whole i stripe xs ≡ true → missing_in (e ∷ whole) i stripe xs ≡ true
missing-kept s i stripe e whole [] g within none h = h
missing-kept s i stripe e whole (x ∷ xs) g within none h = by_note (cases_Bool ((x.lock == 0) && is_note_of i x.event))
    (missing-kept s i stripe e whole xs g (λ c o. within c (some_at-more 0 (opens_command c) x xs o)) none)
  where
    by_note : (((x.lock == 0) && is_note_of i x.event) ≡ true) ⊎ (((x.lock == 0) && is_note_of i x.event) ≡ false) →
        (missing_in whole i stripe xs ≡ true → missing_in (e ∷ whole) i stripe xs ≡ true) → missing_in (e ∷ whole) i stripe (x ∷ xs) ≡ true
    by_note (inl n) rec = cond-true ((x.lock == 0) && is_note_of i x.event) true _ n
    by_note (inr n) rec = by_opening (cases_Bool ((x.lock == 0) && opens_rebuilt (e ∷ whole) i stripe x.event)) (cases_Bool ((x.lock == 0) && opens_rebuilt whole i stripe x.event))
      where
        by_opening : (((x.lock == 0) && opens_rebuilt (e ∷ whole) i stripe x.event) ≡ true) ⊎ (((x.lock == 0) && opens_rebuilt (e ∷ whole) i stripe x.event) ≡ false) →
            (((x.lock == 0) && opens_rebuilt whole i stripe x.event) ≡ true) ⊎ (((x.lock == 0) && opens_rebuilt whole i stripe x.event) ≡ false) →
            missing_in (e ∷ whole) i stripe (x ∷ xs) ≡ true
        by_opening _ (inl opened) =
            absurd (false≢true (sym (cond-false ((x.lock == 0) && is_note_of i x.event) true _ n ∙ cond-true ((x.lock == 0) && opens_rebuilt whole i stripe x.event) false _ opened) ∙ h))
        by_opening (inr other) (inr o) =
            cond-false ((x.lock == 0) && is_note_of i x.event) true _ n ∙ cond-false ((x.lock == 0) && opens_rebuilt (e ∷ whole) i stripe x.event) false _ other
            ∙ rec (sym (cond-false ((x.lock == 0) && is_note_of i x.event) true _ n ∙ cond-false ((x.lock == 0) && opens_rebuilt whole i stripe x.event) false _ o) ∙ h)
        by_opening (inl now) (inr o) =
            let parts : ((x.lock == 0) ≡ true) × (opens_rebuilt (e ∷ whole) i stripe x.event ≡ true) =
            and_parts (x.lock == 0) (opens_rebuilt (e ∷ whole) i stripe x.event) now in
            let t : (c : ℕ) × ((task : Task) × ((x.event ≡ Open c task) × (has_rebuilt (e ∷ whole) i stripe c ≡ true))) = opens-rebuilt (e ∷ whole) i stripe x.event parts.1 in
            let opened : some_at 0 (opens_command t.0) (x ∷ xs) ≡ true =
            some_at-newest 0 (opens_command t.0) x xs (eqb-true x.lock 0 parts.0) (ap (opens_command t.0) t.1.1.0 ∙ eq-eqb t.0 t.0 refl) in
            elim (rebuilt-cases s i stripe t.0 e whole g (within t.0 opened) t.1.1.1) as (λ _. missing_in (e ∷ whole) i stripe (x ∷ xs) ≡ true) [
              | inl counted ↦ absurd (both_ways ((x.lock == 0) && opens_rebuilt whole i stripe x.event) o
                  (and_from (x.lock == 0) (opens_rebuilt whole i stripe x.event) parts.0 (ap (opens_rebuilt whole i stripe) t.1.1.0 ∙ counted)))
              | inr f ↦ absurd (none t.0 f)
            ]

-- an opening isn't that of a rebuild that is done
opening-unfinished : (s : Setting) (i stripe : ℕ) (e : Entry) (past : List Entry) → Grows s (e ∷ past) → ((e.lock == 0) && opens_rebuilt (e ∷ past) i stripe e.event) ≡ false
opening-unfinished s i stripe e past g = elim (cases_Bool ((e.lock == 0) && opens_rebuilt (e ∷ past) i stripe e.event)) [
  | inl opens ↦ absurd (never (and_parts (e.lock == 0) (opens_rebuilt (e ∷ past) i stripe e.event) opens))
  | inr other ↦ other
]
  where
    not_both : (c : ℕ) (task : Task) (event : Event) → event ≡ Open c task → closes_done c event ≡ true → ⊥
    not_both c task event q h = false≢true (sym (ap (closes_done c) q) ∙ h)

    never : ((e.lock == 0) ≡ true) × (opens_rebuilt (e ∷ past) i stripe e.event ≡ true) → ⊥
    never parts =
        let book : e.lock ≡ 0 = eqb-true e.lock 0 parts.0 in
        let t : (c : ℕ) × ((task : Task) × ((e.event ≡ Open c task) × (has_rebuilt (e ∷ past) i stripe c ≡ true))) = opens-rebuilt (e ∷ past) i stripe e.event parts.1 in
        let d : some_at 0 (closes_done t.0) (e ∷ past) ≡ true =
        (and_parts (rebuilds i stripe (task_of t.0 (e ∷ past))) (some_at 0 (closes_done t.0) (e ∷ past)) t.1.1.1).1 in
        elim (some_at-cases 0 (closes_done t.0) e past d) as (λ _. ⊥) [
          | inl newest ↦ not_both t.0 t.1.0 e.event t.1.1.0 newest.1
          | inr older ↦ both_ways (opens_command t.0 e.event)
              (opened-once s t.0 e past g.1 g.0.1 book (ended-opened s t.0 past g.1 (some_at-weaker 0 (closes_done t.0) (ends_command t.0) past (done-ends t.0) older)))
              (ap (opens_command t.0) t.1.1.0 ∙ eq-eqb t.0 t.0 refl)
        ]

missing-more : (s : Setting) (i stripe : ℕ) (e : Entry) (past : List Entry) → Grows s (e ∷ past) → ((c : ℕ) → Finishes i stripe c e past → ⊥) →
    is_missing i stripe past ≡ true → is_missing i stripe (e ∷ past) ≡ true
missing-more s i stripe e past g none h = elim (cases_Bool ((e.lock == 0) && is_note_of i e.event)) [
  | inl n ↦ cond-true ((e.lock == 0) && is_note_of i e.event) true _ n
  | inr n ↦ cond-false ((e.lock == 0) && is_note_of i e.event) true _ n
      ∙ cond-false ((e.lock == 0) && opens_rebuilt (e ∷ past) i stripe e.event) false _ (opening-unfinished s i stripe e past g)
      ∙ missing-kept s i stripe e past past g (λ c o. o) none h
]

rebuild-alone : (kind : Kind) → kind ≡ Rebuild → is_shared kind ≡ false
rebuild-alone kind k = ap is_shared k

-- no rebuild is finished on the stripe of an open command
open-unfinished : (s : Setting) (i c d : ℕ) (task : Task) (e : Entry) (past : List Entry) → Grows s (e ∷ past) → is_open c past ≡ true → is_open c (e ∷ past) ≡ true →
    task_of c past ≡ Some task → Finishes i task.stripe d e past → ⊥
open-unfinished s i c d task e past g o later q f = elim (cases_eq c d) [
  | inl same ↦ both_ways (some_at 0 (ends_command c) (e ∷ past)) (open-not_ended c (e ∷ past) later)
      (some_at-newest 0 (ends_command c) e past f.in_book (subst (λ (n : ℕ). ends_command n e.event ≡ true) (sym same) (done-ends d e.event f.closes)))
  | inr other ↦ exclusive-alone s d c f.task task past g.1 f.opened f.its_task (rebuild-alone f.task.kind f.rebuild.of_kind) o q other (sym f.rebuild.of_stripe)
]

-- a unit that was missing at the opening of an open command on its stripe is missing
pub missing-stays : (s : Setting) (i c : ℕ) (task : Task) (past : List Entry) → Grows s past → is_open c past ≡ true → task_of c past ≡ Some task →
    ((older : List Entry) → MayOpen s older c task → is_missing i task.stripe older ≡ true) → is_missing i task.stripe past ≡ true
missing-stays s i c task [] g o q at = absurd (false≢true o)
missing-stays s i c task (e ∷ past) g o q at = by (cases_Bool ((e.lock == 0) && opens_command c e.event)) (λ p r. missing-stays s i c task past g.1 p r at)
  where
    not_here : ((e.lock == 0) && opens_command c e.event) ≡ false → (e.lock ≡ 0) × (opens_command c e.event ≡ true) → ⊥
    not_here none both = both_ways ((e.lock == 0) && opens_command c e.event) none (and_from (e.lock == 0) (opens_command c e.event) (eq-eqb e.lock 0 both.0) both.1)

    by : (((e.lock == 0) && opens_command c e.event) ≡ true) ⊎ (((e.lock == 0) && opens_command c e.event) ≡ false) →
        (is_open c past ≡ true → task_of c past ≡ Some task → is_missing i task.stripe past ≡ true) → is_missing i task.stripe (e ∷ past) ≡ true
    by (inl opened) rec =
        let parts : ((e.lock == 0) ≡ true) × (opens_command c e.event ≡ true) = and_parts (e.lock == 0) (opens_command c e.event) opened in
        let book : e.lock ≡ 0 = eqb-true e.lock 0 parts.0 in
        let t : (other : Task) × (e.event ≡ Open c other) = opens-event c e.event parts.1 in
        let its : task_of c (e ∷ past) ≡ Some t.0 = opened-task c t.0 e past book t.1 in
        let same : t.0 ≡ task = cc in
        let m : MayOpen s past c t.0 = subst (λ (x : Event). MayBook s past e.stamp x) t.1 (may-book s past e.stamp e.lock e.event book g.0.1.1) in
        missing-more s i task.stripe e past g (λ d f. no_close d f t.0 t.1) (at past (subst (λ (x : Task). MayOpen s past c x) same m))
      where
        no_close : (d : ℕ) → Finishes i task.stripe d e past → (other : Task) → e.event ≡ Open c other → ⊥
        no_close d f other k = false≢true (sym (ap (closes_done d) k) ∙ f.closes)
    by (inr none) rec =
        let o_before : is_open c past ≡ true = older-open c e past (not_here none) o in
        let q_before : task_of c past ≡ Some task = sym (older-task c e past (not_here none)) ∙ q in
        missing-more s i task.stripe e past g (λ d f. open-unfinished s i c d task e past g o_before o q_before f) (rec o_before q_before)
