-- The test of a shut decides whether it may follow.
use Rattle.std.proofs.Common.{ℕ, ◌+◌, ◌&&◌, Bool, List, Option}
use Rattle.std.specs.Bool.{Decides}
use Rattle.std.proofs.lemmas.Bool.Decides.{Decides-and, Decides-like}
use Rattle.array_journal.specs.declared.at.At.{At}
use Rattle.array_journal.specs.declared.entry.Entry.{Entry}
use Rattle.array_journal.specs.declared.setting.Setting.{Setting}
use Rattle.array_journal.specs.declared.act.Act.TheVariants.{Fetches}
use Rattle.array_journal.specs.Acts.{is_act, is_target, shuts_command, changes_medium}
use Rattle.array_journal.specs.Entries.{some_at}
use Rattle.array_journal.specs.Lives.{loss_of}
use Rattle.array_journal.specs.May.{SomeTask, MayShut, is_read_task}
use Rattle.run_check.proofs.PlainDecided.{Decides-true, Decides-false, Decides-bool, place-decided}
use Rattle.run_check.proofs.ActDecided.{of_opened-decided}
use Rattle.run_check.specs.ActTest.{of_opened}
use Rattle.run_check.specs.ShutTest.{may_shut}

pub shut-decided : (s : Setting) (past : List Entry) (stamp i c : ℕ) (opened : At) (acted : Bool) (lost : Option At) →
    Decides (of_opened past stamp c opened (may_shut s past i c acted lost)) (SomeTask (λ task. MayShut s past stamp i c opened acted lost task))
shut-decided s past stamp i c opened acted lost =
    of_opened-decided past stamp c opened _ (λ task. MayShut s past stamp i c opened acted lost task)
    (λ task o.
    Decides-like (may_shut s past i c acted lost task)
    (λ p. record {
      opening = o.opening;
      in_book = o.in_book;
      of_task = p.0.0.0.0;
      once = p.0.0.0.1;
      unanswered = p.0.0.1;
      says_acted = p.0.1;
      says_lost = p.1;
    })
    (λ (m : MayShut s past stamp i c opened acted lost task). ((((m.of_task, m.once), m.unanswered), m.says_acted), m.says_lost))
    (Decides-and _ _
    (Decides-and _ _
    (Decides-and _ _ (Decides-and _ _ (Decides-true (is_target s task i)) (Decides-false (some_at (i + 1) (shuts_command c) past)))
    (Decides-false (is_read_task task.kind && some_at (i + 1) (is_act Fetches c) past)))
    (Decides-bool acted (some_at (i + 1) (changes_medium c) past)))
    (place-decided lost (loss_of i past))))
    (λ task m. record { opening = m.opening; in_book = m.in_book })
