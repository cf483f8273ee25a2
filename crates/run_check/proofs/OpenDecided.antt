-- The test of an opening decides whether it may follow.
use Rattle.std.proofs.Common.{◌≡◌, ◌≢◌, ℕ, ◌+◌, ◌≤◌, ◌&&◌, List, [], length, ap}
use Rattle.std.specs.Bool.{Decides}
use Rattle.std.proofs.lemmas.Bool.{false≢true}
use Rattle.std.proofs.lemmas.Bool.Decides.{Decides-and, Decides-not, Decides-eqb, Decides-ltb, Decides-like}
use Rattle.stripe_layout.specs.Layout.{parity_of, stripes_of, first_row, unit_rows}
use Rattle.array_journal.specs.declared.entry.Entry.{Entry}
use Rattle.array_journal.specs.declared.setting.Setting.{Setting}
use Rattle.array_journal.specs.declared.task.Kind.{Kind}
use Rattle.array_journal.specs.declared.task.Kind.TheVariants.{Read, Update, DataOnly, DegradedRead, DegradedWrite, Rebuild, Resync}
use Rattle.array_journal.specs.declared.task.Task.{Task}
use Rattle.array_journal.specs.Acts.{task_bytes}
use Rattle.array_journal.specs.Commands.{open_count}
use Rattle.array_journal.specs.declared.decision.Decision.{Decision}
use Rattle.array_journal.specs.declared.decision.Decision.TheVariants.{Opens, Refuses}
use Rattle.array_journal.specs.Decision.{want_of, decision, opens_conflict, has_room}
use Rattle.array_journal.specs.Entries.{some_at}
use Rattle.array_journal.specs.May.{IsTask, IsTaskOfKind, MayOpen}
use Rattle.run_check.proofs.PlainDecided.{Decides-le, Decides-true, Decides-false, Decides-empty, Decides-kind}
use Rattle.run_check.specs.Plain.{is_empty}
use Rattle.run_check.specs.OpenTest.{is_unit, is_of_data, has_blocks, is_task_of_kind, is_in_stripe, is_task, opens_kind, may_open}

data_and_empty : (task : Task) → Decides (is_of_data task && is_empty task.bytes) ((task.target ≢ task.parity) × (task.bytes ≡ []))
data_and_empty task = Decides-and (is_of_data task) (is_empty task.bytes) (Decides-not _ (Decides-eqb task.target task.parity)) (Decides-empty task.bytes)

data_and_blocks : (s : Setting) (task : Task) → Decides (is_of_data task && has_blocks s task) ((task.target ≢ task.parity) × (length task.bytes ≡ task_bytes s task))
data_and_blocks s task =
    Decides-and (is_of_data task) (has_blocks s task) (Decides-not _ (Decides-eqb task.target task.parity)) (Decides-eqb (length task.bytes) (task_bytes s task))

unit_and_empty : (s : Setting) (task : Task) → Decides (is_unit s task && is_empty task.bytes) (((task.row ≡ first_row s.geometry task.stripe) × (task.count ≡ unit_rows s.geometry task.stripe)) × (task.bytes ≡ []))
unit_and_empty s task =
    Decides-and (is_unit s task) (is_empty task.bytes)
    (Decides-and _ _ (Decides-eqb task.row (first_row s.geometry task.stripe)) (Decides-eqb task.count (unit_rows s.geometry task.stripe)))
    (Decides-empty task.bytes)

of_kind : (s : Setting) (task : Task) (kind : Kind) → Decides (is_task_of_kind s task kind) (IsTaskOfKind s task kind)
of_kind s task Read = data_and_empty task
of_kind s task DegradedRead = data_and_empty task
of_kind s task Update = data_and_blocks s task
of_kind s task DataOnly = data_and_blocks s task
of_kind s task DegradedWrite = data_and_blocks s task
of_kind s task Rebuild = Decides-like _ (λ p. (p.0.0, p.0.1, p.1)) (λ p. ((p.0, p.1), p.2)) (unit_and_empty s task)
of_kind s task Resync =
    Decides-like _ (λ p. (p.0.0.0, p.0.0.1, p.0.1, p.1)) (λ p. (((p.0, p.1), p.2), p.3))
    (Decides-and _ _ (unit_and_empty s task) (Decides-eqb task.target task.parity))

in_stripe : (s : Setting) (task : Task) → Decides (is_in_stripe s task)
    (((1 ≤ task.count) × (first_row s.geometry task.stripe ≤ task.row)) × (task.row + task.count ≤ first_row s.geometry task.stripe + unit_rows s.geometry task.stripe))
in_stripe s task =
    Decides-and _ _ (Decides-and _ _ (Decides-le 1 task.count) (Decides-le (first_row s.geometry task.stripe) task.row))
    (Decides-le (task.row + task.count) (first_row s.geometry task.stripe + unit_rows s.geometry task.stripe))

task-decided : (s : Setting) (task : Task) → Decides (is_task s task) (IsTask s task)
task-decided s task =
    Decides-like (is_task s task)
    (λ p. record {
      in_array = p.0.0.0.0;
      parity = p.0.0.0.1;
      target = p.0.0.1;
      some_rows = p.0.1.0.0;
      from_stripe = p.0.1.0.1;
      to_stripe = p.0.1.1;
      by_kind = p.1;
    })
    (λ (t : IsTask s task). ((((t.in_array, t.parity), t.target), ((t.some_rows, t.from_stripe), t.to_stripe)), t.by_kind))
    (Decides-and _ _
    (Decides-and _ _
    (Decides-and _ _ (Decides-and _ _ (Decides-ltb task.stripe (stripes_of s.geometry)) (Decides-eqb task.parity (parity_of s.geometry task.stripe)))
    (Decides-ltb task.target s.geometry.targets))
    (in_stripe s task))
    (of_kind s task task.kind))

kind-opened : (kind : Kind) (d : Decision) → Decides (opens_kind kind d) (d ≡ Opens kind)
kind-opened kind (Opens its_kind) = Decides-like _ (λ e. ap Opens e) (λ e. cc) (Decides-kind its_kind kind)
kind-opened kind (Refuses why) = (λ h. absurd (false≢true h), λ e. cc)

pub open-decided : (s : Setting) (past : List Entry) (c : ℕ) (task : Task) → Decides (may_open s past c task) (MayOpen s past c task)
open-decided s past c task =
    Decides-like (may_open s past c task)
    (λ p. record {
      numbered = p.0.0.0.0;
      sound = p.0.0.0.1;
      decided = p.0.0.1;
      alone = p.0.1;
      room = p.1;
    })
    (λ (m : MayOpen s past c task). ((((m.numbered, m.sound), m.decided), m.alone), m.room))
    (Decides-and _ _
    (Decides-and _ _
    (Decides-and _ _ (Decides-and _ _ (Decides-eqb c (open_count past)) (task-decided s task))
    (kind-opened task.kind (decision s (want_of task.kind) task.stripe task.target past)))
    (Decides-false (some_at 0 (opens_conflict past task) past)))
    (Decides-true (has_room s task past)))
