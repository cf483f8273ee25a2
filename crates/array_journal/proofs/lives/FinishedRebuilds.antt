-- The entry that finishes a rebuild: no other makes a rebuild count that didn't before, and what a rebuild puts it puts before
-- it counts.
use Rattle.std.specs.Prelude.{◌≡◌, ◌==◌, ◌&&◌, ◌⊎◌, ℕ, ◌+◌, true, false, List, ◌∷◌, Some}
use Rattle.std.proofs.Common.{ap, sym, ◌∙◌, arith, inl, inr}
use Rattle.std.proofs.lemmas.Bool.{eqb-true, cases_Bool, and_from, and_parts, both_ways}
use Rattle.array_journal.specs.declared.entry.Entry.{Entry}
use Rattle.array_journal.specs.declared.setting.Setting.{Setting}
use Rattle.array_journal.specs.declared.task.Task.{Task}
use Rattle.array_journal.specs.Entries.{some_at}
use Rattle.array_journal.specs.Commands.{opens_command, ends_command, is_open, task_of}
use Rattle.array_journal.specs.declared.act.Act.TheVariants.{Puts}
use Rattle.array_journal.specs.Acts.{is_act}
use Rattle.array_journal.specs.Lives.{rebuilds, closes_done, has_rebuilt, puts_rebuilt}
use Rattle.array_journal.specs.Run.{Grows}
use Rattle.array_journal.proofs.runs.Standing.{may-here, some_at-cases}
use Rattle.array_journal.proofs.runs.CommandLaws.{opened-once, ends-open, open-not_ended}
use Rattle.array_journal.proofs.held.HeldOwners.{act-asks}
use Rattle.array_journal.proofs.owed.ActBars.{some_at-weaker}
use Rattle.array_journal.proofs.owed.EndedCommands.{act-open, act-opened}
use Rattle.array_journal.proofs.windows.WindowLaws.{older-task}
use Rattle.array_journal.proofs.lives.DoneRebuilds.{IsRebuild, rebuilds-some, puts-rebuilt, done-ends}

-- the entry closes as done the open command that rebuilds a unit
pub record Finishes (i stripe c : ℕ) (e : Entry) (past : List Entry) : Type 0 where
  pub task : Task
  pub in_book : e.lock ≡ 0
  pub closes : closes_done c e.event ≡ true
  pub opened : is_open c past ≡ true
  pub its_task : task_of c past ≡ Some task
  pub rebuild : IsRebuild i stripe task

-- an opened command keeps its task
pub kept-task : (s : Setting) (c : ℕ) (e : Entry) (past : List Entry) → Grows s (e ∷ past) → some_at 0 (opens_command c) past ≡ true → task_of c (e ∷ past) ≡ task_of c past
kept-task s c e past g h = older-task c e past (λ both. both_ways (opens_command c e.event) (opened-once s c e past g.1 g.0.1 both.0 h) both.1)

-- what one more entry makes of a rebuild that counts
pub rebuilt-cases : (s : Setting) (i stripe c : ℕ) (e : Entry) (past : List Entry) → Grows s (e ∷ past) → some_at 0 (opens_command c) past ≡ true →
    has_rebuilt (e ∷ past) i stripe c ≡ true → (has_rebuilt past i stripe c ≡ true) ⊎ Finishes i stripe c e past
rebuilt-cases s i stripe c e past g opened h = by (some_at-cases 0 (closes_done c) e past parts.1)
  where
    parts : (rebuilds i stripe (task_of c (e ∷ past)) ≡ true) × (some_at 0 (closes_done c) (e ∷ past) ≡ true)
    parts = and_parts (rebuilds i stripe (task_of c (e ∷ past))) (some_at 0 (closes_done c) (e ∷ past)) h

    its : rebuilds i stripe (task_of c past) ≡ true
    its = sym (ap (rebuilds i stripe) (kept-task s c e past g opened)) ∙ parts.0

    by : ((e.lock ≡ 0) × (closes_done c e.event ≡ true)) ⊎ (some_at 0 (closes_done c) past ≡ true) → (has_rebuilt past i stripe c ≡ true) ⊎ Finishes i stripe c e past
    by (inr older) = inl (and_from (rebuilds i stripe (task_of c past)) (some_at 0 (closes_done c) past) its older)
    by (inl here) =
        let t : (task : Task) × ((task_of c past ≡ Some task) × IsRebuild i stripe task) = rebuilds-some i stripe (task_of c past) its in
        inr (record {
          task = t.0;
          in_book = here.0;
          closes = here.1;
          opened = ends-open s c e past g.0.1 here.0 (done-ends c e.event here.1);
          its_task = t.1.0;
          rebuild = t.1.1;
        })

pub put-opened : (s : Setting) (i c : ℕ) (x : Entry) (xs : List Entry) → Grows s (x ∷ xs) → x.lock ≡ i + 1 → is_act Puts c x.event ≡ true → some_at 0 (opens_command c) xs ≡ true
put-opened s i c x xs g here p = act-opened s xs x.stamp i c Puts (act-asks s xs x.stamp i c Puts x.event (may-here s xs x.stamp x.lock i x.event here g.0.1.1) p)

-- a rebuild whose put comes isn't done
pub put-unfinished : (s : Setting) (i stripe : ℕ) (e : Entry) (past : List Entry) → Grows s (e ∷ past) → ((e.lock == i + 1) && puts_rebuilt (e ∷ past) i stripe e.event) ≡ false
put-unfinished s i stripe e past g = elim (cases_Bool ((e.lock == i + 1) && puts_rebuilt (e ∷ past) i stripe e.event)) [
  | inl put ↦ absurd (never (and_parts (e.lock == i + 1) (puts_rebuilt (e ∷ past) i stripe e.event) put))
  | inr other ↦ other
]
  where
    never : ((e.lock == i + 1) ≡ true) × (puts_rebuilt (e ∷ past) i stripe e.event ≡ true) → ⊥
    never parts =
        let here : e.lock ≡ i + 1 = eqb-true e.lock (i + 1) parts.0 in
        let q : (c : ℕ) × ((is_act Puts c e.event ≡ true) × (has_rebuilt (e ∷ past) i stripe c ≡ true)) = puts-rebuilt (e ∷ past) i stripe e.event parts.1 in
        let o : is_open q.0 past ≡ true = act-open s past e.stamp i q.0 Puts e.event g.1 (may-here s past e.stamp e.lock i e.event here g.0.1.1) q.1.0 in
        let d : some_at 0 (closes_done q.0) (e ∷ past) ≡ true =
        (and_parts (rebuilds i stripe (task_of q.0 (e ∷ past))) (some_at 0 (closes_done q.0) (e ∷ past)) q.1.1).1 in
        elim (some_at-cases 0 (closes_done q.0) e past d) as (λ _. ⊥) [
          | inl newest ↦ let book : e.lock ≡ 0 = newest.0 in omega arith
          | inr older ↦ both_ways (some_at 0 (ends_command q.0) past) (open-not_ended q.0 past o)
              (some_at-weaker 0 (closes_done q.0) (ends_command q.0) past (done-ends q.0) older)
        ]
