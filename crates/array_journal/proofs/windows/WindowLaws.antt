-- While a command that runs alone is open, no other is open on its stripe, and none acts there.
use Rattle.std.specs.Prelude.{◌≡◌, ◌≢◌, ◌==◌, ◌&&◌, ◌<◌, not, ℕ, Bool, true, false, List, [], ◌∷◌, Option, Some, None}
use Rattle.std.proofs.Common.{refl, ap, sym, ◌∙◌, cond, arith, subst, inl, inr}
use Rattle.std.proofs.lemmas.Bool.{eq-eqb, ne_eqb, eqb-true, cases_eq, cases_Bool, and_from, and_parts, or_parts, not-false, both_ways, false≢true, cond-true, cond-false, cases_order}
use Rattle.array_journal.specs.declared.entry.Entry.{Entry}
use Rattle.array_journal.specs.declared.event.Event.{Event}
use Rattle.array_journal.specs.declared.event.Event.TheVariants.{Open}
use Rattle.array_journal.specs.declared.setting.Setting.{Setting}
use Rattle.array_journal.specs.declared.task.Task.{Task}
use Rattle.array_journal.specs.Entries.{some_at}
use Rattle.array_journal.specs.Commands.{opens, opens_command, open_count, ends_command, is_open, task_given, task_of, first_task, is_shared, is_shared_write, rows_meet, tasks_conflict}
use Rattle.array_journal.specs.Decision.{opens_conflict}
use Rattle.array_journal.specs.May.{MayBook, MayOpen}
use Rattle.array_journal.specs.Run.{Grows}
use Rattle.array_journal.proofs.runs.Steps.{task_of-quiet}
use Rattle.array_journal.proofs.runs.Standing.{may-book, some_at-cases, some_at-older, some_at-more, some_at-newest}
use Rattle.array_journal.proofs.runs.CommandLaws.{opened-number, opens-number, no_task, open-opened, open-not_ended, opened-open}

-- an event that gives a command its task opens it with that task
given-event : (c : ℕ) (event : Event) (task : Task) → task_given c event ≡ Some task → event ≡ Open c task
given-event c (Open command other) task h = elim (cases_Bool (command == c)) [
  | inl same ↦ let e : command ≡ c = eqb-true command c same in
      let f : cond (command == c) (Some other) None ≡ Some other = cond-true (command == c) (Some other) None same in
      let t : other ≡ task = cc in ap (λ (n : ℕ). Open n other) e ∙ ap (Open c) t
  | inr differs ↦ let f : cond (command == c) (Some other) None ≡ None = cond-false (command == c) (Some other) None differs in absurd cc
]
given-event c _ task h = absurd cc

pub opens-event : (c : ℕ) (event : Event) → opens_command c event ≡ true → (task : Task) × (event ≡ Open c task)
opens-event c (Open command task) h = (task, ap (λ (n : ℕ). Open n task) (eqb-true command c h))
opens-event c _ h = absurd (false≢true h)

-- what passes the opening of a command with its task stands in the book
pub task-stands : (c : ℕ) (task : Task) (test : Event → Bool) (past : List Entry) → task_of c past ≡ Some task → test (Open c task) ≡ true →
    some_at 0 test past ≡ true
task-stands c task test [] q h = absurd cc
task-stands c task test (e ∷ past) q h = elim (cases_eq e.lock 0) [
  | inl book ↦ newest book (task_given c e.event) refl (λ r. task-stands c task test past r h)
  | inr other ↦ some_at-more 0 test e past (task-stands c task test past (sym (elsewhere other) ∙ q) h)
]
  where
    elsewhere : (e.lock ≡ 0 → ⊥) → task_of c (e ∷ past) ≡ task_of c past
    elsewhere other = ap (λ b. first_task (cond b (task_given c e.event) None) (task_of c past)) (ne_eqb e.lock 0 other)

    here : e.lock ≡ 0 → task_of c (e ∷ past) ≡ first_task (task_given c e.event) (task_of c past)
    here book = ap (λ b. first_task (cond b (task_given c e.event) None) (task_of c past)) (eq-eqb e.lock 0 book)

    newest : e.lock ≡ 0 → (given : Option Task) → task_given c e.event ≡ given → (task_of c past ≡ Some task → some_at 0 test past ≡ true) →
        some_at 0 test (e ∷ past) ≡ true
    newest book (Some found) r rec =
        let same : found ≡ task = some_one found task (sym (ap (λ o. first_task o (task_of c past)) r) ∙ sym (here book) ∙ q) in
        some_at-newest 0 test e past book (ap test (given-event c e.event found r ∙ ap (Open c) same) ∙ h)
      where
        some_one : (x y : Task) → Some x ≡ Some y → x ≡ y
        some_one x y k = cc
    newest book None r rec = some_at-more 0 test e past (rec (sym (ap (λ o. first_task o (task_of c past)) r) ∙ sym (here book) ∙ q))

-- a command that the newest entry doesn't open was as open before
pub older-open : (c : ℕ) (e : Entry) (past : List Entry) → ((e.lock ≡ 0) × (opens_command c e.event ≡ true) → ⊥) → is_open c (e ∷ past) ≡ true → is_open c past ≡ true
older-open c e past other h =
    opened-open c past opened (some_at-older 0 (ends_command c) e past (open-not_ended c (e ∷ past) h))
  where
    opened : some_at 0 (opens_command c) past ≡ true
    opened = elim (some_at-cases 0 (opens_command c) e past (open-opened c (e ∷ past) h)) [
      | inl newest ↦ absurd (other newest)
      | inr older ↦ older
    ]

pub older-task : (c : ℕ) (e : Entry) (past : List Entry) → ((e.lock ≡ 0) × (opens_command c e.event ≡ true) → ⊥) → task_of c (e ∷ past) ≡ task_of c past
older-task c e past other = elim (cases_eq e.lock 0) [
  | inl book ↦ task_of-quiet c e past (no_task c e.event (elim (cases_Bool (opens_command c e.event)) [
    | inl opened ↦ absurd (other (book, opened))
    | inr none ↦ none
  ]))
  | inr away ↦ ap (λ b. first_task (cond b (task_given c e.event) None) (task_of c past)) (ne_eqb e.lock 0 away)
]

-- of two open commands, the one that was opened later didn't conflict with the other
pub open-apart : (s : Setting) (c d : ℕ) (t u : Task) (past : List Entry) → Grows s past → c < d → is_open c past ≡ true → is_open d past ≡ true →
    task_of c past ≡ Some t → task_of d past ≡ Some u → tasks_conflict u t ≡ false
open-apart s c d t u [] g l oc od q r = absurd (false≢true oc)
open-apart s c d t u (e ∷ past) g l oc od q r = elim (cases_Bool ((e.lock == 0) && opens_command d e.event)) [
  | inl newest ↦ opened (eqb-true e.lock 0 (and_parts (e.lock == 0) (opens_command d e.event) newest).0) (and_parts (e.lock == 0) (opens_command d e.event) newest).1
  | inr older ↦ open-apart s c d t u past g.1 l (older-open c e past (not_c older) oc) (older-open d e past (not_d older) od)
      (sym (older-task c e past (not_c older)) ∙ q) (sym (older-task d e past (not_d older)) ∙ r)
]
  where
    not_d : ((e.lock == 0) && opens_command d e.event) ≡ false → (e.lock ≡ 0) × (opens_command d e.event ≡ true) → ⊥
    not_d older both = both_ways ((e.lock == 0) && opens_command d e.event) older (and_from (e.lock == 0) (opens_command d e.event) (eq-eqb e.lock 0 both.0) both.1)

    not_c : ((e.lock == 0) && opens_command d e.event) ≡ false → (e.lock ≡ 0) × (opens_command c e.event ≡ true) → ⊥
    not_c older both =
        let a : d < open_count past = opened-number s d past g.1 (open-opened d past (older-open d e past (not_d older) od)) in
        let b : (c ≡ open_count past) × (opens e.event ≡ true) =
        opens-number s past e.stamp c e.event (may-book s past e.stamp e.lock e.event both.0 g.0.1.1) both.1 in
        let f : c ≡ open_count past = b.0 in omega arith

    opened : e.lock ≡ 0 → opens_command d e.event ≡ true → tasks_conflict u t ≡ false
    opened book h = elim (cases_Bool (tasks_conflict u t)) [
      | inl conflict ↦ absurd (both_ways (some_at 0 (opens_conflict past u) past) alone (met conflict))
      | inr none ↦ none
    ]
      where
        event : (task : Task) × (e.event ≡ Open d task)
        event = opens-event d e.event h

        may : MayOpen s past d event.0
        may = subst (λ (x : Event). MayBook s past e.stamp x) event.1 (may-book s past e.stamp e.lock e.event book g.0.1.1)

        not_this : (e.lock ≡ 0) × (opens_command c e.event ≡ true) → ⊥
        not_this both =
            let dc : (d == c) ≡ true = sym (ap (opens_command c) event.1) ∙ both.1 in
            let f : d ≡ c = eqb-true d c dc in omega arith

        its : event.0 ≡ u
        its = some_one (event.0) u (sym (opened-there) ∙ r)
          where
            some_one : (x y : Task) → Some x ≡ Some y → x ≡ y
            some_one x y k = cc

            opened-there : task_of d (e ∷ past) ≡ Some event.0
            opened-there = ap (λ b. first_task (cond b (task_given d e.event) None) (task_of d past)) (eq-eqb e.lock 0 book)
                ∙ ap (λ (x : Event). first_task (task_given d x) (task_of d past)) event.1
                ∙ ap (λ b. first_task (cond b (Some event.0) None) (task_of d past)) (eq-eqb d d refl)

        alone : some_at 0 (opens_conflict past u) past ≡ false
        alone = subst (λ (x : Task). some_at 0 (opens_conflict past x) past ≡ false) its may.alone

        met : tasks_conflict u t ≡ true → some_at 0 (opens_conflict past u) past ≡ true
        met conflict =
            task-stands c t (opens_conflict past u) past (sym (older-task c e past not_this) ∙ q)
            (and_from (is_open c past) (tasks_conflict u t) (older-open c e past not_this oc) conflict)

-- two commands that don't conflict on one stripe both run beside others
apart-shared : (a b : Task) → tasks_conflict a b ≡ false → a.stripe ≡ b.stripe → (is_shared a.kind ≡ true) × (is_shared b.kind ≡ true)
apart-shared a b h same =
    and_parts (is_shared a.kind) (is_shared b.kind)
    (not-false (is_shared a.kind && is_shared b.kind)
    (second (a.stripe == b.stripe) (not (is_shared a.kind && is_shared b.kind)) (eq-eqb a.stripe b.stripe same)
    (or_parts ((a.stripe == b.stripe) && not (is_shared a.kind && is_shared b.kind))
    (is_shared_write a.kind && is_shared_write b.kind && (a.target == b.target) && rows_meet a b) h).0))
  where
    second : (x y : Bool) → x ≡ true → (x && y) ≡ false → y ≡ false
    second x y p q = sym (ap (λ z. z && y) p) ∙ q

-- while a command that runs alone is open, no other is open on its stripe
pub exclusive-alone : (s : Setting) (c d : ℕ) (t u : Task) (past : List Entry) → Grows s past → is_open c past ≡ true → task_of c past ≡ Some t →
    is_shared t.kind ≡ false → is_open d past ≡ true → task_of d past ≡ Some u → d ≢ c → u.stripe ≢ t.stripe
exclusive-alone s c d t u past g oc q alone od r other same = elim (cases_order c d) [
  | inl equal ↦ other (sym equal)
  | inr (inl less) ↦ both_ways (is_shared t.kind) alone (apart-shared u t (open-apart s c d t u past g less oc od q r) same).1
  | inr (inr more) ↦ both_ways (is_shared t.kind) alone (apart-shared t u (open-apart s d c u t past g more od oc r q) (sym same)).0
]
