-- The delta of a command: each command has one diff at most, of an update, at its task's target; what it changed is
-- the command's delta from then on.
use Rattle.std.specs.Prelude.{◌≡◌, ◌==◌, ◌&&◌, ◌<◌, ◌≤◌, ◌⊎◌, nat_lt, ℕ, zero, suc, ◌+◌, ◌-◌, ◌*◌, Bool, true, false, List, [], ◌∷◌, Some, if◌then◌else◌}
use Rattle.std.proofs.Common.{refl, ap, sym, ◌∙◌, cond, arith, subst, inl, inr}
use Rattle.std.proofs.lemmas.Bool.{eq-eqb, ne_eqb, eqb-true, cases_eq, cases_Bool, cases_lt, and_from, and_parts, and_left, and_right, both_ways, false≢true, cond-true, cond-false}
use Rattle.stripe_layout.specs.declared.mode.Mode.{Mode}
use Rattle.array_journal.specs.declared.at.At.{At}
use Rattle.array_journal.specs.declared.entry.Entry.{Entry}
use Rattle.array_journal.specs.declared.event.Event.{Event}
use Rattle.array_journal.specs.declared.event.Event.TheVariants.{Fetch, Put, Diff, Take, Fold, Hold}
use Rattle.array_journal.specs.declared.setting.Setting.{Setting}
use Rattle.array_journal.specs.declared.task.Kind.{Kind}
use Rattle.array_journal.specs.declared.task.Kind.TheVariants.{Read, Update, DataOnly, DegradedRead, DegradedWrite, Rebuild, Resync}
use Rattle.array_journal.specs.declared.task.Task.{Task}
use Rattle.array_journal.specs.Entries.{name_of, same_at, entry_at, some_at}
use Rattle.array_journal.specs.Commands.{task_of}
use Rattle.array_journal.specs.declared.act.Act.{Act}
use Rattle.array_journal.specs.declared.act.Act.TheVariants.{Fetches, Puts, Diffs, Takes, Folds, Holds}
use Rattle.array_journal.specs.Acts.{acts_at, has_act, is_act}
use Rattle.array_journal.specs.Deltas.{covers, delta_of, delta_in, delta_at}
use Rattle.array_journal.specs.May.{MayAt, MayBook, MayTarget}
use Rattle.array_journal.specs.Run.{Grows}
use Rattle.array_journal.proofs.runs.Standing.{may-here, passes-said, some-named}
use Rattle.array_journal.proofs.held.HeldOwners.{act-asks, act-once, HasAct, acted-has}
use Rattle.array_journal.proofs.sums.CoveredRows.{covers-in, covers-beside}

-- rows that a run of whole blocks covers
pub covers-range : (b row len count r : ℕ) → 1 ≤ b → len ≡ count * b → covers b row len r ≡ true → (row ≤ r) × (r < row + count)
covers-range b row len count r h e k = (low (cases_lt r row), high (cases_lt r (row + count)))
  where
    low : (r < row) ⊎ (row ≤ r) → row ≤ r
    low (inl before) = absurd (both_ways (covers b row len r) (covers-beside b row len count r h e (inl before)) k)
    low (inr from) = from

    high : (r < row + count) ⊎ (row + count ≤ r) → r < row + count
    high (inl within) = within
    high (inr after) = absurd (both_ways (covers b row len r) (covers-beside b row len count r h e (inr after)) k)

pub covers-from : (b row len count r : ℕ) → 1 ≤ b → len ≡ count * b → row ≤ r → r < row + count → covers b row len r ≡ true
covers-from b row len count r h e low high =
    subst (λ (x : ℕ). covers b row len x ≡ true) place (covers-in b row len count (r - row) h e (omega arith))
  where
    place : row + (r - row) ≡ r
    place = omega arith

-- an act is made at a target
pub act-lock : (s : Setting) (past : List Entry) (stamp lock c : ℕ) (act : Act) (event : Event) → MayAt s past stamp lock event → is_act act c event ≡ true →
    (i : ℕ) × ((lock ≡ i + 1) × MayTarget s past stamp i event)
act-lock s past stamp zero c act event m h = absurd (no_act act event m h)
  where
    no_act : (x : Act) (found : Event) → MayBook s past stamp found → is_act x c found ≡ true → ⊥
    no_act Fetches (Fetch command opened cdb row bytes) q k = q
    no_act Puts (Put command opened cdb row bytes names) q k = q
    no_act Diffs (Diff command opened cdb row bytes sent dropped back) q k = q
    no_act Takes (Take command opened cdb row bytes) q k = q
    no_act Folds (Fold command opened cdb row bytes names) q k = q
    no_act Holds (Hold command opened cdb row bytes kept names back) q k = q
    no_act Fetches _ q k = false≢true k
    no_act Puts _ q k = false≢true k
    no_act Diffs _ q k = false≢true k
    no_act Takes _ q k = false≢true k
    no_act Folds _ q k = false≢true k
    no_act Holds _ q k = false≢true k
act-lock s past stamp (suc i) c act event m h = (i, (next, m.1))
  where
    next : suc i ≡ i + 1
    next = omega arith

-- a command that has a diff is an update, and has it at its target
diffs-kind : (mode : Mode) (kind : Kind) (task : Task) (i : ℕ) → acts_at mode Diffs kind task i ≡ true → (kind ≡ Update) × (i ≡ task.target)
diffs-kind mode Update task i h = (refl, eqb-true i task.target h)
diffs-kind mode Read task i h = absurd (false≢true h)
diffs-kind mode DataOnly task i h = absurd (false≢true h)
diffs-kind mode DegradedRead task i h = absurd (false≢true h)
diffs-kind mode DegradedWrite task i h = absurd (false≢true h)
diffs-kind mode Rebuild task i h = absurd (false≢true h)
diffs-kind mode Resync task i h = absurd (false≢true h)

pub differs-update : (s : Setting) (task : Task) (i : ℕ) → has_act s Diffs task i ≡ true → (task.kind ≡ Update) × (i ≡ task.target)
differs-update s task i h =
    diffs-kind s.mode task.kind task i (and_parts (nat_lt i s.geometry.targets) (acts_at s.mode Diffs task.kind task i) h).1

-- and one that has a fold is an update, and has it at parity
folds-kind : (mode : Mode) (kind : Kind) (task : Task) (i : ℕ) → acts_at mode Folds kind task i ≡ true → (kind ≡ Update) × (i ≡ task.parity)
folds-kind mode Update task i h = (refl, eqb-true i task.parity h)
folds-kind mode Read task i h = absurd (false≢true h)
folds-kind mode DataOnly task i h = absurd (false≢true h)
folds-kind mode DegradedRead task i h = absurd (false≢true h)
folds-kind mode DegradedWrite task i h = absurd (false≢true h)
folds-kind mode Rebuild task i h = absurd (false≢true h)
folds-kind mode Resync task i h = absurd (false≢true h)

pub folds-update : (s : Setting) (task : Task) (i : ℕ) → has_act s Folds task i ≡ true → (task.kind ≡ Update) × (i ≡ task.parity)
folds-update s task i h =
    folds-kind s.mode task.kind task i (and_parts (nat_lt i s.geometry.targets) (acts_at s.mode Folds task.kind task i) h).1

-- the task of a command with a diff at target i
pub record IsDiffed (s : Setting) (i c : ℕ) (past : List Entry) (task : Task) : Type 0 where
  pub its_task : task_of c past ≡ Some task
  pub update : task.kind ≡ Update
  pub at_target : i ≡ task.target

pub diff-task : (s : Setting) (i c : ℕ) (past : List Entry) → Grows s past → some_at (i + 1) (is_act Diffs c) past ≡ true → (task : Task) × IsDiffed s i c past task
diff-task s i c past g h =
    let a : HasAct s past i c Diffs = acted-has s i c Diffs past g h in
    let u : (a.0.kind ≡ Update) × (i ≡ a.0.target) = differs-update s a.0 i a.1.1 in
    (a.0, record { its_task = a.1.0; update = u.0; at_target = u.1 })

-- no second diff of a command follows
pub diff-once : (s : Setting) (i c : ℕ) (e : Entry) (past : List Entry) → Grows s (e ∷ past) → some_at (i + 1) (is_act Diffs c) past ≡ true → e.lock ≡ i + 1 →
    is_act Diffs c e.event ≡ false
diff-once s i c e past g h here = elim (cases_Bool (is_act Diffs c e.event)) [
  | inl again ↦ absurd (both_ways (some_at (i + 1) (is_act Diffs c) past)
      (act-once s past e.stamp i c Diffs (act-asks s past e.stamp i c Diffs e.event (may-here s past e.stamp e.lock i e.event here g.0.1.1) again)) h)
  | inr none ↦ none
]

-- what a diff changes
abbrev pub diff_delta : Setting → ℕ → List Entry → Event → List ℕ
diff_delta s i past (Diff command opened cdb row bytes sent dropped back) = delta_of s i past row bytes
diff_delta s i past _ = []

-- the delta of a command whose diff is made at target i
abbrev pub delta_made : Setting → ℕ → ℕ → List Entry → List ℕ
delta_made s i c [] = []
delta_made s i c (e ∷ past) = if (e.lock == i + 1) && is_act Diffs c e.event then diff_delta s i past e.event else delta_made s i c past

pub delta_made-newest : (s : Setting) (i c : ℕ) (e : Entry) (past : List Entry) → e.lock ≡ i + 1 → is_act Diffs c e.event ≡ true →
    delta_made s i c (e ∷ past) ≡ diff_delta s i past e.event
delta_made-newest s i c e past here h =
    cond-true ((e.lock == i + 1) && is_act Diffs c e.event) (diff_delta s i past e.event) (delta_made s i c past)
    (and_from (e.lock == i + 1) (is_act Diffs c e.event) (eq-eqb e.lock (i + 1) here) h)

pub delta_made-else : (s : Setting) (i c : ℕ) (e : Entry) (past : List Entry) → (e.lock ≡ i + 1 → is_act Diffs c e.event ≡ false) →
    delta_made s i c (e ∷ past) ≡ delta_made s i c past
delta_made-else s i c e past h =
    cond-false ((e.lock == i + 1) && is_act Diffs c e.event) (diff_delta s i past e.event) (delta_made s i c past) (elim (cases_eq e.lock (i + 1)) [
      | inl here ↦ and_right (e.lock == i + 1) (is_act Diffs c e.event) (h here)
      | inr other ↦ and_left (e.lock == i + 1) (is_act Diffs c e.event) (ne_eqb e.lock (i + 1) other)
    ])

-- once made it stays
pub delta_made-more : (s : Setting) (i c : ℕ) (e : Entry) (past : List Entry) → Grows s (e ∷ past) → some_at (i + 1) (is_act Diffs c) past ≡ true →
    delta_made s i c (e ∷ past) ≡ delta_made s i c past
delta_made-more s i c e past g h = delta_made-else s i c e past (diff-once s i c e past g h)

-- the delta of the diff of a name is its command's
pub delta_at-made : (s : Setting) (i c : ℕ) (name : At) (past : List Entry) (event : Event) → Grows s past → name.lock ≡ i + 1 →
    entry_at name past ≡ Some event → is_act Diffs c event ≡ true → delta_at s i name past ≡ Some (delta_made s i c past)
delta_at-made s i c name [] event g h stands acts_so = absurd cc
delta_at-made s i c name (e ∷ past) event g h stands acts_so =
    choose (same_at name (name_of e)) refl (λ older. delta_at-made s i c name past event g.1 h older acts_so) stands
  where
    some_one : (x y : Event) → Some x ≡ Some y → x ≡ y
    some_one x y k = cc

    found : (x : Event) → is_act Diffs c x ≡ true → delta_in s i past x ≡ Some (diff_delta s i past x)
    found (Diff command opened cdb row bytes sent dropped back) k = refl
    found _ k = absurd (false≢true k)

    choose : (b : Bool) → same_at name (name_of e) ≡ b →
        (entry_at name past ≡ Some event → delta_at s i name past ≡ Some (delta_made s i c past)) →
        cond b (Some e.event) (entry_at name past) ≡ Some event →
        cond b (delta_in s i past e.event) (delta_at s i name past) ≡ Some (delta_made s i c (e ∷ past))
    choose true q rec k =
        let same : e.event ≡ event = some_one e.event event k in
        let act : is_act Diffs c e.event ≡ true = ap (is_act Diffs c) same ∙ acts_so in
        let place : name.lock ≡ e.lock = eqb-true name.lock e.lock (and_parts (name.stamp == e.stamp) (name.lock == e.lock) q).1 in
        found e.event act ∙ ap (λ (x : List ℕ). Some x) (sym (delta_made-newest s i c e past (sym place ∙ h) act))
    choose false q rec k =
        rec k ∙ ap (λ (x : List ℕ). Some x) (sym (delta_made-more s i c e past g
        (some-named (i + 1) (is_act Diffs c) name past h (passes-said (is_act Diffs c) name past event k acts_so))))
