-- A stripe isn't listed while a command is open there that reads its parity, or that makes it of what the others have:
-- it wasn't when the command was opened, and no update is spoilt there meanwhile.
use Rattle.std.specs.Prelude.{◌≡◌, ◌≢◌, ◌==◌, ◌&&◌, nat_le, not, ℕ, Bool, true, false, List, [], ◌∷◌, Option, Some, None, is_some}
use Rattle.std.proofs.Common.{refl, ap, sym, ◌∙◌, cond, subst, inl, inr}
use Rattle.std.proofs.lemmas.Bool.{eq-eqb, eqb-true, cases_Bool, and_from, and_parts, both_ways, false≢true, cond-true, cond-false}
use Rattle.stripe_layout.specs.Layout.{parity_of}
use Rattle.array_journal.specs.declared.entry.Entry.{Entry}
use Rattle.array_journal.specs.declared.event.Event.{Event}
use Rattle.array_journal.specs.declared.event.Event.TheVariants.{Open, Close, Spoil}
use Rattle.array_journal.specs.declared.event.Why.{Why}
use Rattle.array_journal.specs.declared.event.Why.TheVariants.{Medium, NotReady, Unfitted, Present, Listed, Second}
use Rattle.array_journal.specs.declared.setting.Setting.{Setting}
use Rattle.array_journal.specs.declared.task.Kind.{Kind}
use Rattle.array_journal.specs.declared.task.Kind.TheVariants.{Read, Update, DataOnly, DegradedRead, DegradedWrite, Rebuild, Resync}
use Rattle.array_journal.specs.declared.task.Task.{Task}
use Rattle.array_journal.specs.Commands.{opens_command, is_open, task_of, is_shared}
use Rattle.array_journal.specs.Lives.{is_missing, is_unfitted}
use Rattle.array_journal.specs.Listed.{renews_parity, has_stripe, listed_after, listed_for, is_listed}
use Rattle.array_journal.specs.declared.decision.Decision.TheVariants.{Opens, Refuses}
use Rattle.array_journal.specs.Decision.{want_of, missing_count, decision}
use Rattle.array_journal.specs.May.{MayBook, MayOpen, IsTask}
use Rattle.array_journal.specs.Run.{Grows}
use Rattle.array_journal.proofs.runs.CommandLaws.{one_task}
use Rattle.array_journal.proofs.runs.Standing.{may-book}
use Rattle.array_journal.proofs.windows.WindowLaws.{opens-event, older-open, older-task, exclusive-alone}
use Rattle.array_journal.proofs.lives.DoneRebuilds.{opened-task}

-- a command of this kind and task takes the stripe's blocks as what they are to be together
abbrev pub reads_whole : Kind → Task → Bool
reads_whole DegradedRead task = true
reads_whole DegradedWrite task = true
reads_whole Rebuild task = not (task.target == task.parity)
reads_whole _ task = false

reads_whole-alone : (kind : Kind) (task : Task) → reads_whole kind task ≡ true → is_shared kind ≡ false
reads_whole-alone DegradedRead task h = refl
reads_whole-alone DegradedWrite task h = refl
reads_whole-alone Rebuild task h = refl
reads_whole-alone Read task h = absurd (false≢true h)
reads_whole-alone Update task h = absurd (false≢true h)
reads_whole-alone DataOnly task h = absurd (false≢true h)
reads_whole-alone Resync task h = absurd (false≢true h)

-- the book opens no such command on a listed stripe
apart : {x : Why} {k : Kind} → Refuses x ≡ Opens k → ⊥
apart q = absurd cc

read-unlisted : (m l two : Bool) →
    cond (m && l) (Refuses Medium) (cond two (Refuses NotReady) (cond (not m) (Opens Read) (Opens DegradedRead))) ≡ Opens DegradedRead → l ≡ false
read-unlisted m false two h = refl
read-unlisted true true two h = absurd (apart h)
read-unlisted false true true h = absurd (apart h)
read-unlisted false true false h = absurd (kinds h)
  where
    kinds : Opens Read ≡ Opens DegradedRead → ⊥
    kinds q = absurd cc

write-unlisted : (m l two p : Bool) →
    cond (m && l) (Refuses Medium) (cond two (Refuses NotReady) (cond m (Opens DegradedWrite) (cond p (Opens DataOnly) (Opens Update)))) ≡ Opens DegradedWrite → l ≡ false
write-unlisted m false two p h = refl
write-unlisted true true two p h = absurd (apart h)
write-unlisted false true true p h = absurd (apart h)
write-unlisted false true false true h = absurd (kinds h)
  where
    kinds : Opens DataOnly ≡ Opens DegradedWrite → ⊥
    kinds q = absurd cc
write-unlisted false true false false h = absurd (kinds h)
  where
    kinds : Opens Update ≡ Opens DegradedWrite → ⊥
    kinds q = absurd cc

rebuild-unlisted : (u m l q two : Bool) →
    cond u (Refuses Unfitted) (cond (not m) (Refuses Present) (cond (l && q) (Refuses Listed) (cond two (Refuses Second) (Opens Rebuild)))) ≡ Opens Rebuild → q ≡ true → l ≡ false
rebuild-unlisted u m false q two h k = refl
rebuild-unlisted true m true q two h k = absurd (apart h)
rebuild-unlisted false false true q two h k = absurd (apart h)
rebuild-unlisted false true true true two h k = absurd (apart h)
rebuild-unlisted false true true false two h k = absurd (false≢true k)

decided-unlisted : (s : Setting) (past : List Entry) (kind : Kind) (task : Task) → IsTask s task → decision s (want_of kind) task.stripe task.target past ≡ Opens kind →
    reads_whole kind task ≡ true → is_listed task.stripe past ≡ false
decided-unlisted s past DegradedRead task sound d h =
    read-unlisted (is_missing task.target task.stripe past) (is_listed task.stripe past) (nat_le 2 (missing_count s task.stripe past)) d
decided-unlisted s past DegradedWrite task sound d h =
    write-unlisted (is_missing task.target task.stripe past) (is_listed task.stripe past) (nat_le 2 (missing_count s task.stripe past))
    (is_missing (parity_of s.geometry task.stripe) task.stripe past) d
decided-unlisted s past Rebuild task sound d h =
    rebuild-unlisted (is_unfitted task.target past) (is_missing task.target task.stripe past) (is_listed task.stripe past)
    (not (task.target == parity_of s.geometry task.stripe)) (nat_le 2 (missing_count s task.stripe past)) d
    (ap (λ (n : ℕ). not (task.target == n)) (sym sound.parity) ∙ h)
decided-unlisted s past Read task sound d h = absurd (false≢true h)
decided-unlisted s past Update task sound d h = absurd (false≢true h)
decided-unlisted s past DataOnly task sound d h = absurd (false≢true h)
decided-unlisted s past Resync task sound d h = absurd (false≢true h)

none-listed : (o : Option ℕ) → is_some o ≡ false → o ≡ None
none-listed None h = refl
none-listed (Some c) h = absurd (false≢true (sym h))

-- no update of the stripe is open, so none is spoilt
unlisted-after : (s : Setting) (past : List Entry) (stamp c : ℕ) (task : Task) (event : Event) → Grows s past → MayBook s past stamp event → is_open c past ≡ true →
    task_of c past ≡ Some task → is_shared task.kind ≡ false → listed_after past task.stripe event None ≡ None
unlisted-after s past stamp c task (Spoil command diff loss shut) g m o its alone =
    cond-false (has_stripe task.stripe (task_of command past) && true) (Some command) None (elim (cases_Bool (has_stripe task.stripe (task_of command past) && true)) [
      | inl same ↦ absurd (never (and_parts (has_stripe task.stripe (task_of command past)) true same).0)
      | inr other ↦ other
    ])
  where
    never : has_stripe task.stripe (task_of command past) ≡ true → ⊥
    never h =
        exclusive-alone s c command task m.0 past g o its alone m.1.0.0 m.1.0.1 differs
        (eqb-true m.0.stripe task.stripe (sym (ap (has_stripe task.stripe) m.1.0.1) ∙ h))
      where
        differs : command ≢ c
        differs q =
            let one : m.0 ≡ task = one_task m.0 task (sym m.1.0.1 ∙ ap (λ (n : ℕ). task_of n past) q ∙ its) in
            both_ways (is_shared task.kind) alone (sym (ap (λ (t : Task). is_shared t.kind) one) ∙ ap is_shared m.1.1.update)
unlisted-after s past stamp c task (Close command done names cause bytes) g m o its alone = either (done && renews_parity task.stripe (task_of command past)) None refl
  where
    either : (b : Bool) (old : Option ℕ) → old ≡ None → cond b None old ≡ None
    either true old q = refl
    either false old q = q
unlisted-after s past stamp c task _ g m o its alone = refl

opens-quietly : (past : List Entry) (stripe c : ℕ) (task : Task) (event : Event) (old : Option ℕ) → event ≡ Open c task → listed_after past stripe event old ≡ old
opens-quietly past stripe c task event old q = ap (λ (x : Event). listed_after past stripe x old) q

pub window-unlisted : (s : Setting) (c : ℕ) (task : Task) (past : List Entry) → Grows s past → is_open c past ≡ true → task_of c past ≡ Some task →
    reads_whole task.kind task ≡ true → listed_for task.stripe past ≡ None
window-unlisted s c task [] g o its h = refl
window-unlisted s c task (e ∷ past) g o its h = elim (cases_Bool ((e.lock == 0) && opens_command c e.event)) [
  | inl opens_now ↦ newest (and_parts (e.lock == 0) (opens_command c e.event) opens_now)
  | inr other ↦ later (not_this other) (window-unlisted s c task past g.1 (older-open c e past (not_this other) o) (sym (older-task c e past (not_this other)) ∙ its) h)
]
  where
    not_this : ((e.lock == 0) && opens_command c e.event) ≡ false → (e.lock ≡ 0) × (opens_command c e.event ≡ true) → ⊥
    not_this other both =
        both_ways ((e.lock == 0) && opens_command c e.event) other (and_from (e.lock == 0) (opens_command c e.event) (eq-eqb e.lock 0 both.0) both.1)

    newest : ((e.lock == 0) ≡ true) × (opens_command c e.event ≡ true) → listed_for task.stripe (e ∷ past) ≡ None
    newest both =
        cond-true (e.lock == 0) (listed_after past task.stripe e.event (listed_for task.stripe past)) (listed_for task.stripe past) both.0
        ∙ opens-quietly past task.stripe c opening.0 e.event (listed_for task.stripe past) opening.1
        ∙ none-listed (listed_for task.stripe past) (decided-unlisted s past task.kind task may.sound may.decided h)
      where
        book : e.lock ≡ 0
        book = eqb-true e.lock 0 both.0

        opening : (other : Task) × (e.event ≡ Open c other)
        opening = opens-event c e.event both.1

        same : opening.0 ≡ task
        same = one_task opening.0 task (sym (opened-task c opening.0 e past book opening.1) ∙ its)

        may : MayOpen s past c task
        may = subst (λ (x : Task). MayOpen s past c x) same
            (subst (λ (x : Event). MayBook s past e.stamp x) opening.1 (may-book s past e.stamp e.lock e.event book g.0.1.1))

    later : ((e.lock ≡ 0) × (opens_command c e.event ≡ true) → ⊥) → listed_for task.stripe past ≡ None → listed_for task.stripe (e ∷ past) ≡ None
    later not_opens old = elim (cases_Bool (e.lock == 0)) [
      | inl book ↦ cond-true (e.lock == 0) (listed_after past task.stripe e.event (listed_for task.stripe past)) (listed_for task.stripe past) book
          ∙ ap (listed_after past task.stripe e.event) old
          ∙ unlisted-after s past e.stamp c task e.event g.1 (may-book s past e.stamp e.lock e.event (eqb-true e.lock 0 book) g.0.1.1)
          (older-open c e past not_opens o) (sym (older-task c e past not_opens) ∙ its) (reads_whole-alone task.kind task h)
      | inr away ↦ cond-false (e.lock == 0) (listed_after past task.stripe e.event (listed_for task.stripe past)) (listed_for task.stripe past) away ∙ old
    ]
