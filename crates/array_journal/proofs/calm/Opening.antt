-- The opening of a command over a quiet journal.
use Rattle.std.specs.Prelude.{◌≡◌, ◌==◌, ◌&&◌, nat_le, not, ℕ, suc, ◌+◌, ◌*◌, Bool, true, false, List, [], ◌∷◌, Some, None, length}
use Rattle.std.proofs.Common.{refl, ap, sym, ◌∙◌, cond, arith, subst}
use Rattle.std.proofs.lemmas.Bool.{eq-eqb, lt-leb, and_from, or_left}
use Rattle.std.proofs.lemmas.List.{length-replicate}
use Rattle.stripe_layout.specs.Layout.{parity_of, rows_of}
use Rattle.array_journal.specs.declared.entry.Entry.{Entry}
use Rattle.array_journal.specs.declared.event.Event.{Event}
use Rattle.array_journal.specs.declared.event.Event.TheVariants.{Open}
use Rattle.array_journal.specs.declared.setting.Setting.{Setting}
use Rattle.array_journal.specs.declared.task.Kind.{Kind}
use Rattle.array_journal.specs.declared.task.Kind.TheVariants.{Read, Update}
use Rattle.array_journal.specs.declared.task.Task.{Task}
use Rattle.array_journal.specs.Entries.{entry_at, some_at}
use Rattle.array_journal.specs.Commands.{open_count, is_open, task_of, first_task, opens_command, ends_command}
use Rattle.array_journal.specs.Lives.{is_missing}
use Rattle.array_journal.specs.Listed.{is_listed}
use Rattle.array_journal.specs.declared.decision.Decision.{Decision}
use Rattle.array_journal.specs.declared.decision.Decision.TheVariants.{Opens}
use Rattle.array_journal.specs.Decision.{want_of, decision, missing_count, has_room}
use Rattle.array_journal.specs.May.{May, IsTask}
use Rattle.array_journal.specs.Run.{Grows}
use Rattle.array_journal.specs.Serving.{open_entry, opened_name}
use Rattle.array_journal.specs.Calm.{IsCalmEvent, Quiet}
use Rattle.array_journal.proofs.runs.Steps.{entry_at-here, some_at-quiet}
use Rattle.array_journal.proofs.calm.CalmEntries.{AllCalm, some_at-calm, is_missing-calm, missing_count-calm}
use Rattle.array_journal.proofs.calm.CalmCommands.{stamps_below-calm, calm-no_end, alone-calm}
use Rattle.array_journal.proofs.calm.ActSteps.{calm-next, later-calm}

-- before all entries
pub quiet-none : (s : Setting) → Quiet s []
quiet-none s = record {
  entries = tt;
  stamped = tt;
  none_open = λ c. refl;
  none_held = λ i. refl;
  media_size = λ i. length-replicate (rows_of s.geometry * s.geometry.block) 0;
}

-- the journal with a command opened
abbrev pub opened_past : List Entry → Task → List Entry
opened_past past task = open_entry past task ∷ past

pub opened-calm : (s : Setting) (past : List Entry) (task : Task) → Quiet s past → AllCalm (length past + 1) (suc (open_count past)) (opened_past past task)
opened-calm s past task q =
    calm-next (length past) (length past + 1) (open_count past) (suc (open_count past)) (open_entry past task) past
    (omega arith) (omega arith) (omega arith) (omega arith) q.entries

pub opened-stands : (past : List Entry) (task : Task) → entry_at (opened_name past) (opened_past past task) ≡ Some (Open (open_count past) task)
opened-stands past task = entry_at-here (opened_name past) (open_entry past task) past refl refl

-- the command did nothing yet
pub opened-once : (s : Setting) (past : List Entry) (task : Task) (lock : ℕ) (test : Event → Bool) → Quiet s past →
    test (Open (open_count past) task) ≡ false → ((e : Event) → IsCalmEvent (open_count past) e → test e ≡ false) → some_at lock test (opened_past past task) ≡ false
opened-once s past task lock test q h never =
    some_at-quiet lock test (open_entry past task) past h ∙ some_at-calm lock test (length past) (open_count past) past never q.entries

pub opened-task : (past : List Entry) (task : Task) → task_of (open_count past) (opened_past past task) ≡ Some task
opened-task past task =
    ap (λ b. first_task (cond b (Some task) None) (task_of (open_count past) past)) (eq-eqb (open_count past) (open_count past) refl)

pub opened-open : (s : Setting) (past : List Entry) (task : Task) → Quiet s past → is_open (open_count past) (opened_past past task) ≡ true
opened-open s past task q =
    and_from (some_at 0 (opens_command (open_count past)) (opened_past past task)) _
    (or_left (open_count past == open_count past) (some_at 0 (opens_command (open_count past)) past) (eq-eqb (open_count past) (open_count past) refl))
    (ap not (opened-once s past task 0 (ends_command (open_count past)) q refl (calm-no_end (open_count past))))

-- nothing open, nothing missing: it may be opened if it is what the book decides, and has room
pub opened-grows : (s : Setting) (past : List Entry) (task : Task) → Quiet s past → Grows s past → IsTask s task →
    decision s (want_of task.kind) task.stripe task.target past ≡ Opens task.kind → has_room s task past ≡ true → Grows s (opened_past past task)
opened-grows s past task q grows sound decided room =
    ((later-calm (open_entry past task) (length past) (open_count past) past (omega arith) q.entries, may), grows)
  where
    may : May s past (open_entry past task)
    may = (
      stamps_below-calm 0 (length past + 1) (length past) (open_count past) past (omega arith) q.entries,
      record { numbered = refl; sound = sound; decided = decided; alone = alone-calm past task q.none_open; room = room },
    )

-- a read where nothing is missing
decided_read : (m l two : Bool) (a b c d : Decision) → m ≡ false → two ≡ false →
    cond (m && l) a (cond two b (cond (not m) c d)) ≡ c
decided_read m l two a b c d h k =
    ap (λ x. cond (x && l) a (cond two b (cond (not x) c d))) h ∙ ap (λ x. cond x b c) k

decided_write : (m l two p : Bool) (a b c d e : Decision) → m ≡ false → two ≡ false → p ≡ false →
    cond (m && l) a (cond two b (cond m c (cond p d e))) ≡ e
decided_write m l two p a b c d e h k q =
    ap (λ x. cond (x && l) a (cond two b (cond x c (cond p d e)))) h ∙ ap (λ x. cond x b (cond p d e)) k ∙ ap (λ x. cond x d e) q

few_missing : (s : Setting) (past : List Entry) (stripe : ℕ) → Quiet s past → nat_le 2 (missing_count s stripe past) ≡ false
few_missing s past stripe q =
    lt-leb 2 (missing_count s stripe past) (omega (arith, missing_count-calm s stripe (length past) (open_count past) past q.entries))

pub read-decided : (s : Setting) (past : List Entry) (task : Task) → Quiet s past → task.kind ≡ Read →
    decision s (want_of task.kind) task.stripe task.target past ≡ Opens task.kind
read-decided s past task q e =
    subst (λ (k : Kind). decision s (want_of k) task.stripe task.target past ≡ Opens k) (sym e)
    (decided_read (is_missing task.target task.stripe past) (is_listed task.stripe past) (nat_le 2 (missing_count s task.stripe past)) _ _ _ _
    (is_missing-calm task.target task.stripe (length past) (open_count past) past q.entries) (few_missing s past task.stripe q))

pub update-decided : (s : Setting) (past : List Entry) (task : Task) → Quiet s past → task.kind ≡ Update →
    decision s (want_of task.kind) task.stripe task.target past ≡ Opens task.kind
update-decided s past task q e =
    subst (λ (k : Kind). decision s (want_of k) task.stripe task.target past ≡ Opens k) (sym e)
    (decided_write (is_missing task.target task.stripe past) (is_listed task.stripe past) (nat_le 2 (missing_count s task.stripe past))
    (is_missing (parity_of s.geometry task.stripe) task.stripe past) _ _ _ _ _
    (is_missing-calm task.target task.stripe (length past) (open_count past) past q.entries) (few_missing s past task.stripe q)
    (is_missing-calm (parity_of s.geometry task.stripe) task.stripe (length past) (open_count past) past q.entries))
