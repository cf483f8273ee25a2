-- What the indexes tell: the least command in the way of a task.
use Rattle.std.proofs.Common.{◌≡◌, ◌<◌, ◌≤◌, ◌+◌, ◌==◌, ◌&&◌, ◌||◌, nat_lt, ℕ, Bool, true, false, not, List, [], ◌∷◌, Option, Some, None, refl, sym, ap, ◌∙◌, cond, subst, arith, inl, inr, ◌⊎◌}
use Rattle.std.specs.Prelude.{MatchOption}
use Rattle.std.proofs.lemmas.Bool.{false≢true, and_parts, cases_order, eq-eqb, ltb-true, ne_eqb}
use Rattle.stripe_layout.proofs.StripeLaws.{stripes-apart}
use Rattle.array_journal.specs.declared.entry.Entry.{Entry}
use Rattle.array_journal.specs.declared.event.Event.{Event}
use Rattle.array_journal.specs.declared.event.Event.TheVariants.{Open}
use Rattle.array_journal.specs.declared.setting.Setting.{Setting}
use Rattle.array_journal.specs.declared.task.Task.{Task}
use Rattle.array_journal.specs.Commands.{is_open, task_of, task_given, first_task, tasks_conflict, is_shared, is_shared_write, rows_meet}
use Rattle.array_journal.specs.Decision.{holds_at}
use Rattle.array_journal.specs.May.{IsTask}
use Rattle.array_book.specs.declared.open_index.OpenIndex.{OpenIndex}
use Rattle.array_book.specs.Ledgers.{AreSound, IsSoundOpening}
use Rattle.array_book.specs.OpenIndexes.{is_in, KeepsIndex, IsInStripe, open_task, conflicts_with}
use Rattle.array_book.specs.OpenTasks.{passes_task}
use Rattle.array_book.specs.Waits.{IsOpenSo, IsLeastOpen}

-- a command is open and its task passes, or not, by the task that it has where it is open
open-so : (test : Task → Bool) (past : List Entry) (c : ℕ) → passes_task test (open_task c past) ≡ true → IsOpenSo past test c
open-so test past c h = by_open (is_open c past) refl h
  where
    by_open : (b : Bool) → is_open c past ≡ b → passes_task test (cond b (task_of c past) None) ≡ true → IsOpenSo past test c
    by_open true is p = record { open_still = is; passes = p }
    by_open false is p = absurd (false≢true p)

so-open : (test : Task → Bool) (past : List Entry) (c : ℕ) → IsOpenSo past test c → passes_task test (open_task c past) ≡ true
so-open test past c so = ap (λ (b : Bool). passes_task test (cond b (task_of c past) None)) so.open_still ∙ so.passes

-- the first of those that hold blocks at a target is the least
pub first-holder : (s : Setting) (past : List Entry) (index : OpenIndex) (i : ℕ) (found : Option ℕ) → KeepsIndex s past index →
    MatchOption found ((c : ℕ) → is_in index.holders.commands i c ≡ false)
    (λ by. (is_in index.holders.commands i by ≡ true) × ((c : ℕ) → is_in index.holders.commands i c ≡ true → by ≤ c)) →
    MatchOption found ((c : ℕ) → IsOpenSo past (holds_at s i) c → ⊥) (λ by. IsLeastOpen past (holds_at s i) by)
first-holder s past index i None keeps h = λ c so. false≢true (sym (h c) ∙ keeps.commands i c ∙ so-open (holds_at s i) past c so)
first-holder s past index i (Some by) keeps h = record {
  one = open-so (holds_at s i) past by (sym (keeps.commands i by) ∙ h.0);
  least = λ c so. h.1 c (keeps.commands i c ∙ so-open (holds_at s i) past c so);
}

-- the same commands, by another test of which they are
pub same-members : (one other p : ℕ → Bool) (found : Option ℕ) → ((c : ℕ) → one c ≡ other c) →
    MatchOption found ((c : ℕ) → one c ≡ true → p c ≡ false) (λ by. ((one by ≡ true) × (p by ≡ true)) × ((c : ℕ) → one c ≡ true → p c ≡ true → by ≤ c)) →
    MatchOption found ((c : ℕ) → other c ≡ true → p c ≡ false) (λ by. ((other by ≡ true) × (p by ≡ true)) × ((c : ℕ) → other c ≡ true → p c ≡ true → by ≤ c))
same-members one other p None same h = λ c m. h c (same c ∙ m)
same-members one other p (Some by) same h = ((sym (same by) ∙ h.0.0, h.0.1), λ c m q. h.1 c (same c ∙ m) q)

-- ---- tasks that conflict are of one stripe

in-stripe : (s : Setting) (task : Task) → IsTask s task → IsInStripe s task
in-stripe s task h = record { in_array = h.in_array; from_stripe = h.from_stripe; to_stripe = h.to_stripe }

apart : (s : Setting) (a b : Task) → IsInStripe s a → IsInStripe s b → a.stripe < b.stripe → b.row < a.row + a.count → ⊥
apart s a b p q less meet = let after = stripes-apart s.geometry a.stripe b.stripe less q.in_array in omega (arith, after, p.to_stripe, q.from_stripe, meet)

pub same-stripe : (s : Setting) (a b : Task) → IsInStripe s a → IsInStripe s b → tasks_conflict a b ≡ true → (b.stripe == a.stripe) ≡ true
same-stripe s a b p q h = by_order (cases_order a.stripe b.stripe)
  where
    second : (x sh w v t m : Bool) → x ≡ false → ((x && sh) || (w && v && t && m)) ≡ true → m ≡ true
    second true sh w v t m e g = absurd (false≢true (sym e))
    second false sh true true true m e g = g
    second false sh true true false m e g = absurd (false≢true g)
    second false sh true false t m e g = absurd (false≢true g)
    second false sh false v t m e g = absurd (false≢true g)

    meets : (a.stripe ≡ b.stripe → ⊥) → (nat_lt a.row (b.row + b.count) ≡ true) × (nat_lt b.row (a.row + a.count) ≡ true)
    meets other =
        and_parts (nat_lt a.row (b.row + b.count)) (nat_lt b.row (a.row + a.count))
        (second (a.stripe == b.stripe) (not (is_shared a.kind && is_shared b.kind)) (is_shared_write a.kind) (is_shared_write b.kind) (a.target == b.target) (rows_meet a b)
        (ne_eqb a.stripe b.stripe other) h)

    by_order : (a.stripe ≡ b.stripe) ⊎ ((a.stripe < b.stripe) ⊎ (b.stripe < a.stripe)) → (b.stripe == a.stripe) ≡ true
    by_order (inl same) = eq-eqb b.stripe a.stripe (sym same)
    by_order (inr (inl less)) =
        absurd (apart s a b p q less (ltb-true b.row (a.row + a.count) (meets (λ e. omega (arith, e, less))).1))
    by_order (inr (inr more)) =
        absurd (apart s b a q p more (ltb-true a.row (b.row + b.count) (meets (λ e. omega (arith, e, more))).0))

-- the task of a command is sound
given-sound : (s : Setting) (c : ℕ) (book : Bool) (event : Event) (older : Option Task) (task : Task) → IsSoundOpening s event → (older ≡ Some task → IsTask s task) →
    first_task (cond book (task_given c event) None) older ≡ Some task → IsTask s task
given-sound s c true (Open n t) older task sound before h = by_test (n == c) h
  where
    by_test : (b : Bool) → first_task (cond b (Some t) None) older ≡ Some task → IsTask s task
    by_test true e = let same : t ≡ task = cc in subst (λ (x : Task). IsTask s x) same sound
    by_test false e = before e
given-sound s c true event older task sound before h = before h
given-sound s c false event older task sound before h = before h

task_of-sound : (s : Setting) (c : ℕ) (past : List Entry) (task : Task) → AreSound s past → task_of c past ≡ Some task → IsTask s task
task_of-sound s c [] task sound h = absurd cc
task_of-sound s c (e ∷ past) task sound h = given-sound s c (e.lock == 0) e.event (task_of c past) task sound.0 (task_of-sound s c past task sound.1) h

-- an open command that a task conflicts with is open on its stripe
conflict-here : (s : Setting) (past : List Entry) (index : OpenIndex) (task : Task) (c : ℕ) → KeepsIndex s past index → AreSound s past → IsInStripe s task →
    IsOpenSo past (tasks_conflict task) c → is_in index.on_stripes task.stripe c ≡ true
conflict-here s past index task c keeps sound rows so =
    keeps.stripes task.stripe c
    ∙ so-open (λ t. t.stripe == task.stripe) past c (record { open_still = so.open_still; passes = here (task_of c past) refl so.passes })
  where
    here : (o : Option Task) → task_of c past ≡ o → passes_task (tasks_conflict task) o ≡ true → passes_task (λ t. t.stripe == task.stripe) o ≡ true
    here None is p = absurd (false≢true p)
    here (Some other) is p = same-stripe s task other rows (in-stripe s other (task_of-sound s c past other sound is)) p

-- of those on its stripe, the least that it conflicts with is the least of all
pub least-here : (s : Setting) (past : List Entry) (index : OpenIndex) (task : Task) (found : Option ℕ) → KeepsIndex s past index → AreSound s past → IsInStripe s task →
    MatchOption found ((c : ℕ) → is_in index.on_stripes task.stripe c ≡ true → conflicts_with past task c ≡ false)
    (λ by. ((is_in index.on_stripes task.stripe by ≡ true) × (conflicts_with past task by ≡ true))
    × ((c : ℕ) → is_in index.on_stripes task.stripe c ≡ true → conflicts_with past task c ≡ true → by ≤ c)) →
    MatchOption found ((c : ℕ) → IsOpenSo past (tasks_conflict task) c → ⊥) (λ by. IsLeastOpen past (tasks_conflict task) by)
least-here s past index task None keeps sound rows h = λ c so. false≢true (sym (h c (conflict-here s past index task c keeps sound rows so)) ∙ so.passes)
least-here s past index task (Some by) keeps sound rows h = record {
  one = record {
    open_still = (open-so (λ t. t.stripe == task.stripe) past by (sym (keeps.stripes task.stripe by) ∙ h.0.0)).open_still;
    passes = h.0.1;
  };
  least = λ c so. h.1 c (conflict-here s past index task c keeps sound rows so) so.passes;
}
