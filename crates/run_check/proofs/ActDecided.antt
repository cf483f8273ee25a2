-- The test of what each act asks decides it.
use Rattle.array_book.specs.OpenTasks.{passes_task}
use Rattle.std.proofs.Common.{◌≡◌, ◌==◌, ℕ, ◌+◌, ◌<◌, ◌&&◌, nat_lt, Bool, true, false, List, Option, Some, None, refl, if◌then◌else◌}
use Rattle.std.specs.Bool.{Decides}
use Rattle.std.proofs.lemmas.Bool.{false≢true}
use Rattle.std.proofs.lemmas.Bool.Decides.{Decides-and, Decides-eqb, Decides-ltb, Decides-like}
use Rattle.sbc_cdbs.specs.declared.descriptor.Cdb.{Cdb}
use Rattle.array_journal.specs.declared.at.At.{At}
use Rattle.array_journal.specs.declared.entry.Entry.{Entry}
use Rattle.array_journal.specs.declared.event.Event.{Event}
use Rattle.array_journal.specs.declared.event.Event.TheVariants.{Open}
use Rattle.array_journal.specs.declared.setting.Setting.{Setting}
use Rattle.array_journal.specs.declared.task.Task.{Task}
use Rattle.array_journal.specs.declared.act.Act.{Act}
use Rattle.array_journal.specs.Acts.{has_act, is_act, shuts_command, task_bytes, cdb_of}
use Rattle.array_journal.specs.Entries.{entry_at, some_at}
use Rattle.array_journal.specs.Lives.{is_gone}
use Rattle.array_journal.specs.May.{StandsBefore, SomeTask, MayAct, freshes_after}
use Rattle.run_check.proofs.PlainDecided.{Decides-true, Decides-false}
use Rattle.run_check.proofs.SpeltDecided.{spelt-decided}
use Rattle.run_check.specs.NameTests.{task_in, opened_task}
use Rattle.run_check.specs.ActTest.{may_act, of_opened}

-- what a named opening says
pub record IsOpened (past : List Entry) (stamp c : ℕ) (opened : At) (task : Task) : Type 0 where
  pub opening : StandsBefore past stamp opened (Open c task)
  pub in_book : opened.lock ≡ 0

open-said : (c : ℕ) (found : Option Event) (task : Task) → task_in c found ≡ Some task → found ≡ Some (Open c task)
open-said c None task h = cc
open-said c (Some (Open command its_task)) task h = by_number (command == c) (λ e. (Decides-eqb command c).0 e) h
  where
    by_number : (b : Bool) → (b ≡ true → command ≡ c) → (if b then Some its_task else None) ≡ Some task → Some (Open command its_task) ≡ Some (Open c task)
    by_number true same h = let e = same refl in let f : its_task ≡ task = cc in cc
    by_number false same h = cc
open-said c (Some _) task h = cc

opened-said : (past : List Entry) (stamp c : ℕ) (opened : At) (task : Task) → opened_task past stamp c opened ≡ Some task → IsOpened past stamp c opened task
opened-said past stamp c opened task h =
    by_place ((opened.lock == 0) && nat_lt opened.stamp stamp)
    (Decides-and _ _ (Decides-eqb opened.lock 0) (Decides-ltb opened.stamp stamp)).0 h
  where
    by_place : (b : Bool) → (b ≡ true → (opened.lock ≡ 0) × (opened.stamp < stamp)) → (if b then task_in c (entry_at opened past) else None) ≡ Some task → IsOpened past stamp c opened task
    by_place true here h = record { opening = (open-said c (entry_at opened past) task h, (here refl).1); in_book = (here refl).0 }
    by_place false here h = cc

said-opened : (past : List Entry) (stamp c : ℕ) (opened : At) (task : Task) → IsOpened past stamp c opened task → opened_task past stamp c opened ≡ Some task
said-opened past stamp c opened task o =
    let here : ((opened.lock == 0) && nat_lt opened.stamp stamp) ≡ true
    = (Decides-and _ _ (Decides-eqb opened.lock 0) (Decides-ltb opened.stamp stamp)).1 (o.in_book, o.opening.1) in
    let same : (c == c) ≡ true = (Decides-eqb c c).1 refl in
    rw (here, o.opening.0, same) refl

-- a test of the task that a named entry opens decides what is asked of some task
pub of_opened-decided : (past : List Entry) (stamp c : ℕ) (opened : At) (test : Task → Bool) (P : Task → Type 0) →
    ((task : Task) → IsOpened past stamp c opened task → Decides (test task) (P task)) → ((task : Task) → P task → IsOpened past stamp c opened task) →
    Decides (of_opened past stamp c opened test) (SomeTask P)
of_opened-decided past stamp c opened test P each needs = (
  λ h. found (opened_task past stamp c opened) (λ task. opened-said past stamp c opened task) h,
  λ (task, p). rw (said-opened past stamp c opened task (needs task p)) ((each task (needs task p)).1 p),
)
  where
    found : (o : Option Task) → ((task : Task) → o ≡ Some task → IsOpened past stamp c opened task) → passes_task test o ≡ true → SomeTask P
    found None said h = absurd (false≢true h)
    found (Some task) said h = (task, (each task (said task refl)).0 h)

pub act-decided : (s : Setting) (past : List Entry) (stamp i c : ℕ) (opened : At) (cdb : Cdb) (row len sources : ℕ) (task : Task) (act : Act) →
    IsOpened past stamp c opened task → Decides (may_act s past i c opened cdb row len sources task act) (MayAct s past stamp i c opened cdb row len sources task act)
act-decided s past stamp i c opened cdb row len sources task act o =
    Decides-like (may_act s past i c opened cdb row len sources task act)
    (λ p. record {
      opening = o.opening;
      in_book = o.in_book;
      of_task = p.0.0.0.0.0.0;
      not_gone = p.0.0.0.0.0.1;
      not_shut = p.0.0.0.0.1;
      once = p.0.0.0.1;
      same_life = p.0.0.1;
      at_row = p.0.1.0;
      whole = p.0.1.1;
      spelt = p.1;
    })
    (λ (m : MayAct s past stamp i c opened cdb row len sources task act).
    ((((((m.of_task, m.not_gone), m.not_shut), m.once), m.same_life), (m.at_row, m.whole)), m.spelt))
    (Decides-and _ _
    (Decides-and _ _
    (Decides-and _ _
    (Decides-and _ _
    (Decides-and _ _ (Decides-and _ _ (Decides-true (has_act s act task i)) (Decides-false (is_gone i past)))
    (Decides-false (some_at (i + 1) (shuts_command c) past)))
    (Decides-false (some_at (i + 1) (is_act act c) past)))
    (Decides-false (freshes_after i opened past)))
    (Decides-and _ _ (Decides-eqb row task.row) (Decides-eqb len (task_bytes s task))))
    (spelt-decided cdb (cdb_of s task sources act)))
