-- Named fetches and takes: a command has one at a target, their bytes have its task's size, and names that rise are of
-- different targets.
use Rattle.std.specs.Prelude.{◌≡◌, ◌==◌, ◌<◌, ◌⊎◌, ℕ, ◌+◌, true, false, List, [], ◌∷◌, Option, Some, length}
use Rattle.std.specs.List.{AllByRecursion}
use Rattle.std.proofs.Common.{ap, sym, ◌∙◌, arith, inl, inr}
use Rattle.std.proofs.lemmas.Bool.{eqb-true, cases_Bool, or_cases, both_ways, false≢true}
use Rattle.array_journal.specs.declared.at.At.{At}
use Rattle.array_journal.specs.declared.entry.Entry.{Entry}
use Rattle.array_journal.specs.declared.event.Event.{Event}
use Rattle.array_journal.specs.declared.event.Event.TheVariants.{Fetch, Take}
use Rattle.array_journal.specs.declared.setting.Setting.{Setting}
use Rattle.array_journal.specs.declared.task.Task.{Task}
use Rattle.array_journal.specs.Entries.{entry_at, at_lt, some_at}
use Rattle.array_journal.specs.Commands.{task_of}
use Rattle.array_journal.specs.declared.act.Act.{Act}
use Rattle.array_journal.specs.declared.act.Act.TheVariants.{Fetches, Takes}
use Rattle.array_journal.specs.Acts.{has_act, is_act, task_bytes}
use Rattle.array_journal.specs.May.{MayTarget, Rise, passes, bytes_of, bytes_named}
use Rattle.array_journal.specs.Run.{Grows}
use Rattle.array_journal.proofs.runs.Steps.{entry_at-here}
use Rattle.array_journal.proofs.runs.Standing.{may-here, some-named, passes-cases, passes-event, entry_at-more}
use Rattle.array_journal.proofs.held.HeldOwners.{HasAct, act-asks, act-once, act-task, acted-has}
use Rattle.array_journal.proofs.runs.CommandLaws.{task-opened, one_task}
use Rattle.array_journal.proofs.runs.BeginningLaws.{lt-cases, lt-trans}
use Rattle.array_journal.proofs.sums.TargetSums.{is_named_at, AreAtOthers}
use Rattle.array_journal.proofs.reads.KnownBlocks.{stands, act_task}
use Rattle.array_journal.proofs.lives.FinishedRebuilds.{kept-task}

-- a command has one act of a sort at a target
pub same-act : (s : Setting) (act : Act) (c i : ℕ) (a b : At) (past : List Entry) → Grows s past → a.lock ≡ i + 1 → b.lock ≡ i + 1 →
    passes (is_act act c) (entry_at a past) ≡ true → passes (is_act act c) (entry_at b past) ≡ true → a.stamp ≡ b.stamp
same-act s act c i a b [] g p q h k = absurd (false≢true h)
same-act s act c i a b (e ∷ past) g p q h k = by (passes-cases (is_act act c) a e past h) (passes-cases (is_act act c) b e past k)
    (λ x y. same-act s act c i a b past g.1 p q x y)
  where
    again : (old : At) → e.lock ≡ i + 1 → is_act act c e.event ≡ true → old.lock ≡ i + 1 → passes (is_act act c) (entry_at old past) ≡ true → ⊥
    again old here acts lock older =
        both_ways (some_at (i + 1) (is_act act c) past)
        (act-once s past e.stamp i c act (act-asks s past e.stamp i c act e.event (may-here s past e.stamp e.lock i e.event here g.0.1.1) acts))
        (some-named (i + 1) (is_act act c) old past lock older)

    by : (((a.stamp ≡ e.stamp) × (a.lock ≡ e.lock)) × (is_act act c e.event ≡ true)) ⊎ (passes (is_act act c) (entry_at a past) ≡ true) →
        (((b.stamp ≡ e.stamp) × (b.lock ≡ e.lock)) × (is_act act c e.event ≡ true)) ⊎ (passes (is_act act c) (entry_at b past) ≡ true) →
        (passes (is_act act c) (entry_at a past) ≡ true → passes (is_act act c) (entry_at b past) ≡ true → a.stamp ≡ b.stamp) → a.stamp ≡ b.stamp
    by (inl x) (inl y) rec = x.0.0 ∙ sym y.0.0
    by (inl x) (inr y) rec = absurd (again b (sym x.0.1 ∙ p) x.1 q y)
    by (inr x) (inl y) rec = absurd (again a (sym y.0.1 ∙ q) y.1 p x)
    by (inr x) (inr y) rec = rec x y

-- what a fetch or a take reads has the size of its command's task
event-size : (s : Setting) (past : List Entry) (stamp i c : ℕ) (act : Act) (task : Task) (event : Event) → Grows s past → MayTarget s past stamp i event → is_act act c event ≡ true →
    (act ≡ Fetches) ⊎ (act ≡ Takes) → task_of c past ≡ Some task → length (bytes_of (Some event)) ≡ task_bytes s task
event-size s past stamp i c act task (Fetch command opened cdb row bytes) g m h reads q =
    m.1.act.whole ∙ ap (task_bytes s) (one_task m.0 task (sym (act_task s past stamp i command opened cdb row (length bytes) 0 m.0 Fetches g m.1.act)
    ∙ ap (λ (n : ℕ). task_of n past) (same act command reads h) ∙ q))
  where
    same : (a : Act) (n : ℕ) → (a ≡ Fetches) ⊎ (a ≡ Takes) → is_act a c (Fetch n opened cdb row bytes) ≡ true → n ≡ c
    same a n (inl k) x = eqb-true n c (sym (ap (λ (y : Act). is_act y c (Fetch n opened cdb row bytes)) k) ∙ x)
    same a n (inr k) x = absurd (false≢true (sym (ap (λ (y : Act). is_act y c (Fetch n opened cdb row bytes)) k) ∙ x))
event-size s past stamp i c act task (Take command opened cdb row bytes) g m h reads q =
    m.1.act.whole ∙ ap (task_bytes s) (one_task m.0 task (sym (act_task s past stamp i command opened cdb row (length bytes) 0 m.0 Takes g m.1.act)
    ∙ ap (λ (n : ℕ). task_of n past) (same act command reads h) ∙ q))
  where
    same : (a : Act) (n : ℕ) → (a ≡ Fetches) ⊎ (a ≡ Takes) → is_act a c (Take n opened cdb row bytes) ≡ true → n ≡ c
    same a n (inl k) x = absurd (false≢true (sym (ap (λ (y : Act). is_act y c (Take n opened cdb row bytes)) k) ∙ x))
    same a n (inr k) x = eqb-true n c (sym (ap (λ (y : Act). is_act y c (Take n opened cdb row bytes)) k) ∙ x)
event-size s past stamp i c act task event g m h (inl k) q = absurd (false≢true (sym (ap (λ (y : Act). is_act y c event) k) ∙ h))
event-size s past stamp i c act task event g m h (inr k) q = absurd (false≢true (sym (ap (λ (y : Act). is_act y c event) k) ∙ h))

pub named-size : (s : Setting) (i c : ℕ) (act : Act) (task : Task) (name : At) (past : List Entry) → Grows s past → name.lock ≡ i + 1 →
    passes (is_act act c) (entry_at name past) ≡ true → (act ≡ Fetches) ⊎ (act ≡ Takes) → task_of c past ≡ Some task → length (bytes_named past name) ≡ task_bytes s task
named-size s i c act task name [] g lock h reads q = absurd (false≢true h)
named-size s i c act task name (e ∷ past) g lock h reads q = elim (passes-cases (is_act act c) name e past h) [
  | inl here ↦ newest (sym here.0.1 ∙ lock) here.0 here.1
  | inr older ↦ before older (acted-has s i c act past g.1 (some-named (i + 1) (is_act act c) name past lock older)) (named-size s i c act task name past g.1 lock older reads)
]
  where
    newest : e.lock ≡ i + 1 → (name.stamp ≡ e.stamp) × (name.lock ≡ e.lock) → is_act act c e.event ≡ true → length (bytes_named (e ∷ past) name) ≡ task_bytes s task
    newest here same acts =
        let may : MayTarget s past e.stamp i e.event = may-here s past e.stamp e.lock i e.event here g.0.1.1 in
        let has : HasAct s past i c act = act-task s past e.stamp i c act g.1 (act-asks s past e.stamp i c act e.event may acts) in
        ap (λ (o : Option Event). length (bytes_of o)) (entry_at-here name e past same.0 same.1)
        ∙ event-size s past e.stamp i c act task e.event g.1 may acts reads (sym (kept-task s c e past g (task-opened c past has.0 has.1.0)) ∙ q)

    before : passes (is_act act c) (entry_at name past) ≡ true → HasAct s past i c act → (task_of c past ≡ Some task → length (bytes_named past name) ≡ task_bytes s task) →
        length (bytes_named (e ∷ past) name) ≡ task_bytes s task
    before older has rec =
        let found : (event : Event) × ((entry_at name past ≡ Some event) × (is_act act c event ≡ true)) = passes-event (is_act act c) (entry_at name past) older in
        ap (λ (o : Option Event). length (bytes_of o)) (entry_at-more name e past found.0 g.0.1.0 found.1.0 ∙ sym found.1.0)
        ∙ rec (sym (kept-task s c e past g (task-opened c past has.0 has.1.0)) ∙ q)

-- names that rise
rises-beyond : (a y : At) (names : List At) → at_lt a y ≡ true → Rise (y ∷ names) → AllByRecursion (λ (z : At). at_lt a z ≡ true) names
rises-beyond a y [] h r = tt
rises-beyond a y (z ∷ names) h r = (lt-trans a y z h r.0, rises-beyond a z names (lt-trans a y z h r.0) r.1)

pub rises-after : (a : At) (names : List At) → Rise (a ∷ names) → AllByRecursion (λ (z : At). at_lt a z ≡ true) names
rises-after a [] r = tt
rises-after a (z ∷ names) r = (r.0, rises-beyond a z names r.0 r.1)

pub rise-tail : (a : At) (names : List At) → Rise (a ∷ names) → Rise names
rise-tail a [] r = tt
rise-tail a (z ∷ names) r = r.1

-- a named fetch of a command
pub record IsFetched (s : Setting) (past : List Entry) (c : ℕ) (task : Task) (name : At) : Type 0 where
  pub target : ℕ
  pub at : name.lock ≡ target + 1
  pub has : has_act s Fetches task target ≡ true
  pub stands : passes (is_act Fetches c) (entry_at name past) ≡ true

fetched-twice : (s : Setting) (past : List Entry) (c i : ℕ) (task : Task) (name : At) (names : List At) → Grows s past → name.lock ≡ i + 1 →
    passes (is_act Fetches c) (entry_at name past) ≡ true → AllByRecursion (λ (z : At). at_lt name z ≡ true) names → AllByRecursion (IsFetched s past c task) names →
    is_named_at i names ≡ true → ⊥
fetched-twice s past c i task name [] g lock stands after all h = false≢true h
fetched-twice s past c i task name (y ∷ names) g lock stands after all h = elim (or_cases (y.lock == i + 1) (is_named_at i names) h) [
  | inl this ↦ never (eqb-true y.lock (i + 1) this) (lt-cases name y after.0)
  | inr rest ↦ fetched-twice s past c i task name names g lock stands after.1 all.1 rest
]
  where
    never : y.lock ≡ i + 1 → (name.stamp < y.stamp) ⊎ ((name.stamp ≡ y.stamp) × (name.lock < y.lock)) → ⊥
    never at (inl less) = let e : name.stamp ≡ y.stamp = same-act s Fetches c i name y past g lock at stands all.0.stands in omega arith
    never at (inr less) = let l : name.lock < y.lock = less.1 in omega arith

pub fetched-apart : (s : Setting) (past : List Entry) (c : ℕ) (task : Task) (names : List At) → Grows s past → Rise names → AllByRecursion (IsFetched s past c task) names → AreAtOthers names
fetched-apart s past c task [] g r all = tt
fetched-apart s past c task (name ∷ names) g r all = (
  λ i lock. once i lock (cases_Bool (is_named_at i names)),
  fetched-apart s past c task names g (rise-tail name names r) all.1,
)
  where
    once : (i : ℕ) → name.lock ≡ i + 1 → (is_named_at i names ≡ true) ⊎ (is_named_at i names ≡ false) → is_named_at i names ≡ false
    once i lock (inl again) = absurd (fetched-twice s past c i task name names g lock all.0.stands (rises-after name names r) all.1 again)
    once i lock (inr none) = none
