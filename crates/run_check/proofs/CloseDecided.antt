-- The test of a close decides whether it may follow.
use Rattle.array_book.specs.OpenTasks.{passes_task}
use Rattle.std.proofs.Common.{◌≡◌, ℕ, if◌then◌else◌, Bool, true, false, List, Option, Some, None, refl, sym, subst}
use Rattle.std.specs.Bool.{Decides}
use Rattle.std.proofs.lemmas.Bool.{false≢true}
use Rattle.std.proofs.lemmas.Bool.Decides.{Decides-and, Decides-like}
use Rattle.std.proofs.lemmas.Slice.Eq.{bytes_eq-Decides}
use Rattle.array_journal.specs.declared.at.At.{At}
use Rattle.array_journal.specs.declared.entry.Entry.{Entry}
use Rattle.array_journal.specs.declared.setting.Setting.{Setting}
use Rattle.array_journal.specs.declared.task.Kind.TheVariants.{Update}
use Rattle.array_journal.specs.declared.task.Task.{Task}
use Rattle.array_journal.specs.declared.act.Act.TheVariants.{Fetches, Puts, Diffs, Takes, Folds, Holds}
use Rattle.array_journal.specs.Acts.{is_target, targets_that}
use Rattle.array_journal.specs.Commands.{is_open, task_of}
use Rattle.array_journal.specs.May.{NamesActs, MayCloseWhole, MayCloseUnfolded, MayGiveUp, MayClose, SomeTask, IsOpenWith, closed_bytes, shuts_idle}
use Rattle.run_check.proofs.PlainDecided.{Decides-empty, Decides-kind, Decides-nothing}
use Rattle.run_check.proofs.NamesDecided.{names_at-decided, rise-decided}
use Rattle.run_check.proofs.ActNamesDecided.{own-decided, all-decided, unfolded-decided}
use Rattle.run_check.proofs.CauseDecided.{loss-decided, cause-decided}
use Rattle.run_check.specs.CloseTest.{names_acts, may_close_whole, may_close_unfolded, may_give_up, may_close, of_open}

acts-decided : (s : Setting) (past : List Entry) (stamp c : ℕ) (task : Task) (list : List At) → Decides (names_acts s past stamp c task list) (NamesActs s past stamp c task list)
acts-decided s past stamp c task list =
    Decides-like (names_acts s past stamp c task list)
    (λ p. record {
      in_order = p.0.0.0.0.0.0;
      only = p.0.0.0.0.0.1;
      fetches = p.0.0.0.0.1;
      puts = p.0.0.0.1;
      diffs = p.0.0.1;
      takes = p.0.1;
      holds = p.1;
    })
    (λ (n : NamesActs s past stamp c task list). ((((((n.in_order, n.only), n.fetches), n.puts), n.diffs), n.takes), n.holds))
    (Decides-and _ _
    (Decides-and _ _
    (Decides-and _ _
    (Decides-and _ _
    (Decides-and _ _ (Decides-and _ _ (rise-decided list) (own-decided s past stamp c task list)) (all-decided s past c task Fetches list))
    (all-decided s past c task Puts list))
    (all-decided s past c task Diffs list))
    (all-decided s past c task Takes list))
    (all-decided s past c task Holds list))

whole-decided : (s : Setting) (past : List Entry) (stamp c : ℕ) (task : Task) (list : List At) (bytes : List ℕ) →
    Decides (may_close_whole s past stamp c task list bytes) (MayCloseWhole s past stamp c task list None bytes)
whole-decided s past stamp c task list bytes =
    Decides-like (may_close_whole s past stamp c task list bytes)
    (λ p. record { acts = p.0.0; folds = p.0.1; no_cause = refl; answer = p.1 })
    (λ (m : MayCloseWhole s past stamp c task list None bytes). ((m.acts, m.folds), m.answer))
    (Decides-and _ _ (Decides-and _ _ (acts-decided s past stamp c task list) (all-decided s past c task Folds list))
    (bytes_eq-Decides bytes (closed_bytes s past task list task.kind)))

close_unfolded-decided : (s : Setting) (past : List Entry) (stamp c : ℕ) (task : Task) (list : List At) (cause : At) (bytes : List ℕ) →
    Decides (may_close_unfolded s past stamp c task list cause bytes) (MayCloseUnfolded s past stamp c task list cause bytes)
close_unfolded-decided s past stamp c task list cause bytes =
    Decides-like (may_close_unfolded s past stamp c task list cause bytes)
    (λ p. record { update = p.0.0.0.0; acts = p.0.0.0.1; no_fold = p.0.0.1; parity_lost = p.0.1; no_answer = p.1 })
    (λ (m : MayCloseUnfolded s past stamp c task list cause bytes). ((((m.update, m.acts), m.no_fold), m.parity_lost), m.no_answer))
    (Decides-and _ _
    (Decides-and _ _
    (Decides-and _ _ (Decides-and _ _ (Decides-kind task.kind Update) (acts-decided s past stamp c task list)) (unfolded-decided past c list))
    (loss-decided past stamp task.parity cause))
    (Decides-empty bytes))

give_up-decided : (s : Setting) (past : List Entry) (stamp c : ℕ) (task : Task) (list : List At) (cause : At) (bytes : List ℕ) →
    Decides (may_give_up s past stamp c task list cause bytes) (MayGiveUp s past stamp c task list cause bytes)
give_up-decided s past stamp c task list cause bytes =
    Decides-like (may_give_up s past stamp c task list cause bytes)
    (λ p. record { shut = p.0.0; for_cause = p.0.1; no_answer = p.1 })
    (λ (m : MayGiveUp s past stamp c task list cause bytes). ((m.shut, m.for_cause), m.no_answer))
    (Decides-and _ _
    (Decides-and _ _ (names_at-decided past stamp (targets_that s (is_target s task)) (shuts_idle c) list) (cause-decided s past stamp c task cause))
    (Decides-empty bytes))

pub close-decided : (s : Setting) (past : List Entry) (stamp c : ℕ) (done : Bool) (list : List At) (cause : Option At) (bytes : List ℕ) (task : Task) →
    Decides (may_close s past stamp c done list cause bytes task) (MayClose s past stamp c done list cause bytes task)
close-decided s past stamp c true list None bytes task = whole-decided s past stamp c task list bytes
close-decided s past stamp c true list (Some cause) bytes task = close_unfolded-decided s past stamp c task list cause bytes
close-decided s past stamp c false list None bytes task = Decides-nothing
close-decided s past stamp c false list (Some cause) bytes task = give_up-decided s past stamp c task list cause bytes

no_task : (task : Task) (o : Option Task) → o ≡ None → o ≡ Some task → ⊥
no_task task o a b = cc

-- a test of the task of an open command decides what is asked of it
pub open-with-decided : (past : List Entry) (c : ℕ) (test : Task → Bool) (P : Task → Type 0) → ((task : Task) → Decides (test task) (P task)) →
    Decides (of_open past c test) (SomeTask (λ task. IsOpenWith past c task × P task))
open-with-decided past c test P each = with (is_open c past) (task_of c past)
  where
    with : (opened : Bool) (found : Option Task) → Decides (passes_task test (if opened then found else None)) ((task : Task) × (((opened ≡ true) × (found ≡ Some task)) × P task))
    with true (Some task) = (λ h. (task, ((refl, refl), (each task).0 h)), λ (other, ((o, e), m)). let same : task ≡ other = cc in (each task).1 (subst P (sym same) m))
    with true None = (λ h. absurd (false≢true h), λ (other, ((o, e), m)). absurd (no_task other None refl e))
    with false found = (λ h. absurd (false≢true h), λ (other, ((o, e), m)). absurd (false≢true o))
