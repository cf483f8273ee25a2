-- What reads answer is what the plain sectors say: a read by its fetch, a degraded read by what was gathered.
use Rattle.std.specs.Prelude.{◌≡◌, ◌≢◌, ◌==◌, ◌&&◌, ◌||◌, ◌<◌, ◌⊎◌, nat_lt, not, map, ℕ, zero, suc, ◌+◌, ◌*◌, Bool, true, false, List, [], ◌∷◌, Option, Some, None, length, take, drop}
use Rattle.std.specs.List.{AllByRecursion}
use Rattle.std.proofs.Common.{refl, ap, sym, ◌∙◌, arith, subst, inl, inr}
use Rattle.std.proofs.lemmas.Bool.{and_from, eq-eqb, eqb-true, cases_Bool, and_parts, and_left, and_right, or_cases, or_from, or_left, or_right, both_ways, false≢true, cond-true, cond-false, cond_both}
use Rattle.std.proofs.lemmas.List.{length-replicate, take_all}
use Rattle.blocks_core.specs.Xor.{xor, xor_all}
use Rattle.blocks_core.proofs.XorLaws.{length-xor}
use Rattle.stripe_layout.specs.Modes.{target_gathers}
use Rattle.stripe_layout.specs.Layout.{lba_at}
use Rattle.sbc_cdbs.specs.declared.descriptor.Cdb.{Cdb}
use Rattle.array_journal.specs.declared.at.At.{At}
use Rattle.array_journal.specs.declared.entry.Entry.{Entry}
use Rattle.array_journal.specs.declared.event.Event.{Event}
use Rattle.array_journal.specs.declared.event.Event.TheVariants.{Take, Hold}
use Rattle.array_journal.specs.declared.setting.Setting.{Setting}
use Rattle.array_journal.specs.declared.task.Kind.{Kind}
use Rattle.array_journal.specs.declared.task.Kind.TheVariants.{Read, DegradedRead}
use Rattle.array_journal.specs.declared.task.Task.{Task}
use Rattle.blocks_core.specs.Lists.{slice, block_at}
use Rattle.array_journal.specs.Entries.{entry_at}
use Rattle.array_journal.specs.Commands.{task_of}
use Rattle.array_journal.specs.declared.act.Act.{Act}
use Rattle.array_journal.specs.declared.act.Act.TheVariants.{Fetches, Puts, Diffs, Takes, Folds, Holds}
use Rattle.array_journal.specs.Acts.{gatherer, acts_at, has_act, is_act, task_bytes}
use Rattle.array_journal.specs.Host.{unit_at, task_lba}
use Rattle.array_journal.specs.May.{MayAct, MayFetch, MayCloseWhole, EachOwn, NamesActs, is_own_act, is_named, passes, bytes_of, bytes_named, first_taken, answered, taken, closed_bytes, IsTask, IsTaskOfKind}
use Rattle.array_journal.specs.Run.{IsSetting, Grows, sectors}
use Rattle.array_journal.specs.Laws.{RunsAlone}
use Rattle.array_journal.proofs.calm.ActSteps.{has-there, acts-there}
use Rattle.array_journal.proofs.runs.Standing.{passes-event, passes-said}
use Rattle.array_journal.proofs.lives.DoneRebuilds.{task-sound}
use Rattle.blocks_core.proofs.BlockLists.{block_at-xor, block_at-zeros, slices_by_blocks}
use Rattle.array_journal.proofs.sums.LayoutLaws.{IsPlaced-task, lba_at-in, task_row}
use Rattle.array_journal.proofs.held.HeldGathers.{IsHoldOf, took-gathered}
use Rattle.array_journal.proofs.sums.TargetSums.{sum-tests, is_named_at, IsOf, sum-named}
use Rattle.array_journal.proofs.reads.KnownBlocks.{known, stands, act_task}
use Rattle.array_journal.proofs.lives.ThereLaws.{is_present}
use Rattle.array_journal.proofs.lives.OpenedUnits.{read-there}
use Rattle.array_journal.proofs.windows.WindowViews.{view, others-known}
use Rattle.array_journal.proofs.windows.WindowReads.{Kept, held_bytes, fetches-test, degraded-target, rows-block, below-targets}
use Rattle.array_journal.proofs.windows.NamedReads.{named-size, fetched-apart, IsFetched}

-- bytes whose blocks are what the hosts know of a task's rows are the plain sectors there
blocks-right : (s : Setting) (past : List Entry) (task : Task) (bytes : List ℕ) → IsTask s task → task.target ≢ task.parity → length bytes ≡ task_bytes s task →
    ((j : ℕ) → j < task.count → block_at s.geometry.block bytes j ≡ known s past task.stripe task.target (task.row + j)) →
    bytes ≡ slice (sectors s.geometry past) (task_lba s.geometry task * s.geometry.block) (length bytes)
blocks-right s past task bytes sound other size same =
    sym (ap (λ (n : ℕ). take (task.count * s.geometry.block) (drop n bytes)) none ∙ take_all (task.count * s.geometry.block) bytes (omega arith))
    ∙ slices_by_blocks s.geometry.block task.count bytes (sectors s.geometry past) 0 (task_lba s.geometry task)
    (λ j h. ap (block_at s.geometry.block bytes) (omega arith) ∙ same j h ∙ place j h)
    ∙ ap (slice (sectors s.geometry past) (task_lba s.geometry task * s.geometry.block)) (sym size)
  where
    none : 0 * s.geometry.block ≡ 0
    none = omega arith

    place : (j : ℕ) → j < task.count → known s past task.stripe task.target (task.row + j) ≡ block_at s.geometry.block (sectors s.geometry past) (task_lba s.geometry task + j)
    place j h =
        ap (λ (p : ℕ). block_at s.geometry.block (sectors s.geometry past) (lba_at s.geometry task.stripe (unit_at p task.target) (task.row + j))) (sym sound.parity)
        ∙ ap (block_at s.geometry.block (sectors s.geometry past)) (lba_at-in s task j (IsPlaced-task s task sound other) h)

-- a read's fetch
pub read-right : (s : Setting) (past : List Entry) (stamp i c : ℕ) (opened : At) (cdb : Cdb) (row : ℕ) (bytes : List ℕ) (task : Task) → IsSetting s → Grows s past → Kept s past →
    MayFetch s past stamp i c opened cdb row bytes task → task.kind ≡ Read →
    bytes ≡ slice (sectors s.geometry past) (task_lba s.geometry task * s.geometry.block) (length bytes)
read-right s past stamp i c opened cdb row bytes task set g kept m k =
    blocks-right s past task bytes sound other m.act.whole
    (λ j h. ap (λ (l : List ℕ). block_at s.geometry.block l j) m.read
    ∙ rows-block s i past row (length bytes) j task m.act.at_row m.act.whole h
    ∙ ap (λ (x : ℕ). stands s past x (task.row + j)) at
    ∙ kept.data_there task.stripe task.target (task.row + j) (task_row s task j sound h) sound.target (λ e. other (e ∙ sym sound.parity))
    (is_present (read-there s past stamp c opened cdb row (length bytes) 0 task Fetches g
    (subst (λ (x : ℕ). MayAct s past stamp x c opened cdb row (length bytes) 0 task Fetches) at m.act) k)))
  where
    sound : IsTask s task
    sound = task-sound s c task past g (act_task s past stamp i c opened cdb row (length bytes) 0 task Fetches g m.act)

    other : task.target ≢ task.parity
    other = (subst (IsTaskOfKind s task) k sound.by_kind).0

    at : i ≡ task.target
    at = eqb-true i task.target
        (sym (ap (λ (x : Kind). acts_at s.mode Fetches x task i) k) ∙ acts-there s Fetches task i m.act.of_task)

-- of six tests the first, and the fourth
or_first : (x y : Bool) → y ≡ false → (x || y) ≡ true → x ≡ true
or_first x y h k = elim (or_cases x y k) [
  | inl p ↦ p
  | inr q ↦ absurd (both_ways y h q)
]

or_second : (x y : Bool) → x ≡ false → (x || y) ≡ true → y ≡ true
or_second x y h k = sym (ap (λ z. z || y) h) ∙ k

six-first : (a b c d e f : Bool) → b ≡ false → c ≡ false → d ≡ false → e ≡ false → f ≡ false → (a || b || c || d || e || f) ≡ true → a ≡ true
six-first a b c d e f p q r t u h =
    or_first a b p (or_first (a || b) c q (or_first (a || b || c) d r (or_first (a || b || c || d) e t (or_first (a || b || c || d || e) f u h))))

six-fourth : (a b c d e f : Bool) → a ≡ false → b ≡ false → c ≡ false → e ≡ false → f ≡ false → (a || b || c || d || e || f) ≡ true → d ≡ true
six-fourth a b c d e f p q r t u h =
    or_second (a || b || c) d (or_from (a || b) c (or_from a b p q) r) (or_first (a || b || c || d) e t (or_first (a || b || c || d || e) f u h))

lacks-act : (s : Setting) (act : Act) (task : Task) (kind : Kind) (i : ℕ) → task.kind ≡ kind → acts_at s.mode act kind task i ≡ false →
    has_act s act task i ≡ false
lacks-act s act task kind i k h =
    and_right (nat_lt i s.geometry.targets) (acts_at s.mode act task.kind task i)
    (ap (λ (x : Kind). acts_at s.mode act x task i) k ∙ h)

-- the acts of a degraded read that the controller gathers are fetches
own-fetched : (s : Setting) (past : List Entry) (c : ℕ) (task : Task) (name : At) (lock : ℕ) → name.lock ≡ lock → task.kind ≡ DegradedRead → target_gathers s.mode ≡ false →
    passes (is_own_act s c task lock) (entry_at name past) ≡ true → IsFetched s past c task name
own-fetched s past c task name zero l k t h = absurd (never (passes-event (is_own_act s c task zero) (entry_at name past) h))
  where
    never : (event : Event) × ((entry_at name past ≡ Some event) × (false ≡ true)) → ⊥
    never found = false≢true found.1.1
own-fetched s past c task name (suc i) l k t h =
    let found : (event : Event) × ((entry_at name past ≡ Some event) × (is_own_act s c task (suc i) event ≡ true)) =
    passes-event (is_own_act s c task (suc i)) (entry_at name past) h in
    let both : (has_act s Fetches task i ≡ true) × (is_act Fetches c found.0 ≡ true) =
    and_parts (has_act s Fetches task i) (is_act Fetches c found.0)
    (six-first (has_act s Fetches task i && is_act Fetches c found.0) (has_act s Puts task i && is_act Puts c found.0)
    (has_act s Diffs task i && is_act Diffs c found.0) (has_act s Takes task i && is_act Takes c found.0)
    (has_act s Folds task i && is_act Folds c found.0) (has_act s Holds task i && is_act Holds c found.0)
    (and_left (has_act s Puts task i) (is_act Puts c found.0) (lacks-act s Puts task DegradedRead i k refl))
    (and_left (has_act s Diffs task i) (is_act Diffs c found.0) (lacks-act s Diffs task DegradedRead i k refl))
    (and_left (has_act s Takes task i) (is_act Takes c found.0) (lacks-act s Takes task DegradedRead i k (and_left (target_gathers s.mode) (i == gatherer task) t)))
    (and_left (has_act s Folds task i) (is_act Folds c found.0) (lacks-act s Folds task DegradedRead i k refl))
    (and_left (has_act s Holds task i) (is_act Holds c found.0) (lacks-act s Holds task DegradedRead i k (and_left (target_gathers s.mode) (i == gatherer task) t)))
    found.1.1) in
    record {
      target = i;
      at = l ∙ omega arith;
      has = both.0;
      stands = passes-said (is_act Fetches c) name past found.0 found.1.0 both.1;
    }

all-fetched : (s : Setting) (past : List Entry) (stamp c : ℕ) (task : Task) (names : List At) → task.kind ≡ DegradedRead → target_gathers s.mode ≡ false →
    EachOwn s past stamp c task names → AllByRecursion (IsFetched s past c task) names
all-fetched s past stamp c task [] k t own = tt
all-fetched s past stamp c task (name ∷ names) k t own =
    (own-fetched s past c task name name.lock refl k t own.0.0, all-fetched s past stamp c task names k t own.1)

named-at : (past : List Entry) (c i : ℕ) (act : Act) (names : List At) → is_named past c act i names ≡ true → is_named_at i names ≡ true
named-at past c i act [] h = h
named-at past c i act (name ∷ names) h = elim (or_cases ((name.lock == i + 1) && passes (is_act act c) (entry_at name past)) (is_named past c act i names) h) [
  | inl this ↦ or_left (name.lock == i + 1) (is_named_at i names) (and_parts (name.lock == i + 1) (passes (is_act act c) (entry_at name past)) this).0
  | inr rest ↦ or_right (name.lock == i + 1) (is_named_at i names) (named-at past c i act names rest)
]

-- a block of the exclusive-or of what names read, in their own order
each-block : (past : List Entry) (b count j : ℕ) (names : List At) → j < count →
    block_at b (xor_all (count * b) (map (bytes_named past) names)) j ≡ xor_all b (map (λ name. block_at b (bytes_named past name) j) names)
each-block past b count j [] h = block_at-zeros b count j h
each-block past b count j (name ∷ names) h =
    block_at-xor b (bytes_named past name) (xor_all (count * b) (map (bytes_named past) names)) j
    ∙ ap (xor (block_at b (bytes_named past name) j)) (each-block past b count j names h)

each-size : (s : Setting) (past : List Entry) (c : ℕ) (task : Task) (names : List At) → Grows s past → task_of c past ≡ Some task →
    AllByRecursion (IsFetched s past c task) names → length (xor_all (task_bytes s task) (map (bytes_named past) names)) ≡ task_bytes s task
each-size s past c task [] g q all = length-replicate (task_bytes s task) 0
each-size s past c task (name ∷ names) g q all =
    let size : length (bytes_named past name) ≡ task_bytes s task = named-size s all.0.target c Fetches task name past g all.0.at all.0.stands (inl refl) q in
    length-xor (bytes_named past name) (xor_all (task_bytes s task) (map (bytes_named past) names)) (size ∙ sym (each-size s past c task names g q all.1)) ∙ size

fetched-of : (s : Setting) (past : List Entry) (c j : ℕ) (task : Task) (names : List At) → Kept s past → RunsAlone c task past → j < task.count →
    AllByRecursion (IsFetched s past c task) names →
    AllByRecursion (IsOf s.geometry.targets (has_act s Fetches task) (λ name. block_at s.geometry.block (bytes_named past name) j) (λ i. view s past task.stripe i (task.row + j))) names
fetched-of s past c j task [] kept alone h all = tt
fetched-of s past c j task (name ∷ names) kept alone h all = (
  record {
    target = all.0.target;
    at = all.0.at;
    below = below-targets s Fetches task all.0.target all.0.has;
    passing = all.0.has;
    says = kept.fetched c all.0.target j task name alone all.0.at all.0.stands h;
  },
  fetched-of s past c j task names kept alone h all.1,
)

-- what a degraded read answers where the controller gathers
gathered-right : (s : Setting) (past : List Entry) (stamp c : ℕ) (task : Task) (names : List At) → IsSetting s → Grows s past → Kept s past → RunsAlone c task past →
    task.kind ≡ DegradedRead → target_gathers s.mode ≡ false → NamesActs s past stamp c task names →
    xor_all (task_bytes s task) (map (bytes_named past) names)
    ≡ slice (sectors s.geometry past) (task_lba s.geometry task * s.geometry.block) (length (xor_all (task_bytes s task) (map (bytes_named past) names)))
gathered-right s past stamp c task names set g kept alone k t a =
    blocks-right s past task (xor_all (task_bytes s task) (map (bytes_named past) names)) sound other (each-size s past c task names g alone.its_task all)
    (λ j h. each-block past s.geometry.block task.count j names h
    ∙ sum-named s.geometry.block s.geometry.targets (λ name. block_at s.geometry.block (bytes_named past name) j) (λ i. view s past task.stripe i (task.row + j)) names
    (has_act s Fetches task) (λ i below has. named-at past c i Fetches names (a.fetches i has)) (fetched-apart s past c task names g a.in_order all)
    (fetched-of s past c j task names kept alone h all)
    ∙ sum-tests s.geometry.block (has_act s Fetches task) (λ x. not (x == task.target)) (λ i. view s past task.stripe i (task.row + j)) s.geometry.targets 0
    (λ x low high. fetches-test s task DegradedRead x k (omega arith)
    ∙ ap (λ (b : Bool). not (x == task.target) && not (b && (x == gatherer task))) t ∙ and_true (not (x == task.target)))
    ∙ others-known s past task.stripe task.target (task.row + j) set g (task_row s task j sound h) sound.target (λ e. other (e ∙ sym sound.parity)))
  where
    sound : IsTask s task
    sound = task-sound s c task past g alone.its_task

    other : task.target ≢ task.parity
    other = degraded-target s task sound (inl k)

    all : AllByRecursion (IsFetched s past c task) names
    all = all-fetched s past stamp c task names k t a.only

    and_true : (y : Bool) → (y && true) ≡ y
    and_true true = refl
    and_true false = refl

-- what a degraded read answers where a target gathers: what was taken from it
taken-right : (s : Setting) (past : List Entry) (c i : ℕ) (name opened : At) (cdb : Cdb) (row : ℕ) (bytes : List ℕ) (task : Task) → IsSetting s → Grows s past → Kept s past →
    RunsAlone c task past → task.kind ≡ DegradedRead → name.lock ≡ i + 1 → entry_at name past ≡ Some (Take c opened cdb row bytes) →
    bytes ≡ slice (sectors s.geometry past) (task_lba s.geometry task * s.geometry.block) (length bytes)
taken-right s past c i name opened cdb row bytes task set g kept alone k lock stands = by (took-gathered s i c name opened cdb row bytes task past set g lock stands alone.its_task k)
  where
    sound : IsTask s task
    sound = task-sound s c task past g alone.its_task

    by : IsHoldOf i c bytes past → bytes ≡ slice (sectors s.geometry past) (task_lba s.geometry task * s.geometry.block) (length bytes)
    by hold =
        blocks-right s past task bytes sound (degraded-target s task sound (inl k))
        (ap (λ (o : Option Event). length (bytes_of o)) (sym stands)
        ∙ named-size s i c Takes task name past g lock (passes-said (is_act Takes c) name past (Take c opened cdb row bytes) stands (eq-eqb c c refl)) (inr refl) alone.its_task)
        (λ j h. ap (λ (o : Option Event). block_at s.geometry.block (held_bytes o) j) (sym hold.stands)
        ∙ kept.gathered c i j task hold.name alone hold.at_target
        (passes-said (is_act Holds c) hold.name past (Hold c hold.opened hold.cdb hold.row bytes hold.kept hold.names hold.back) hold.stands (eq-eqb c c refl)) h)

-- a named take is its command's own
own-take : (s : Setting) (past : List Entry) (c command : ℕ) (opened : At) (cdb : Cdb) (row : ℕ) (bytes : List ℕ) (task : Task) (name : At) (lock : ℕ) → name.lock ≡ lock →
    entry_at name past ≡ Some (Take command opened cdb row bytes) → passes (is_own_act s c task lock) (entry_at name past) ≡ true →
    (command ≡ c) × ((i : ℕ) × (name.lock ≡ i + 1))
own-take s past c command opened cdb row bytes task name zero l stands h =
    absurd (false≢true (sym (ap (passes (is_own_act s c task zero)) stands) ∙ h))
own-take s past c command opened cdb row bytes task name (suc i) l stands h =
    let own : is_own_act s c task (suc i) (Take command opened cdb row bytes) ≡ true = sym (ap (passes (is_own_act s c task (suc i))) stands) ∙ h in (
      eqb-true command c
          (and_parts (has_act s Takes task i) (command == c)
          (six-fourth (has_act s Fetches task i && false) (has_act s Puts task i && false) (has_act s Diffs task i && false) (has_act s Takes task i && (command == c))
          (has_act s Folds task i && false) (has_act s Holds task i && false)
          (and_right (has_act s Fetches task i) false refl) (and_right (has_act s Puts task i) false refl) (and_right (has_act s Diffs task i) false refl)
          (and_right (has_act s Folds task i) false refl) (and_right (has_act s Holds task i) false refl) own)).1,
      (i, l ∙ omega arith),
    )

-- of the named acts the first take
first-right : (s : Setting) (past : List Entry) (stamp c i : ℕ) (task : Task) (names : List At) (P : List ℕ → Type 0) → EachOwn s past stamp c task names →
    ((name opened : At) (cdb : Cdb) (row k : ℕ) (bytes : List ℕ) → name.lock ≡ k + 1 → entry_at name past ≡ Some (Take c opened cdb row bytes) → P bytes) →
    is_named past c Takes i names ≡ true → P (first_taken past names)
first-right s past stamp c i task [] P own right h = absurd (false≢true h)
first-right s past stamp c i task (name ∷ names) P own right h = choose (entry_at name past) refl (first-right s past stamp c i task names P own.1 right)
  where
    rest : passes (is_act Takes c) (entry_at name past) ≡ false → is_named past c Takes i names ≡ true
    rest none = or_second ((name.lock == i + 1) && passes (is_act Takes c) (entry_at name past)) (is_named past c Takes i names)
        (and_right (name.lock == i + 1) (passes (is_act Takes c) (entry_at name past)) none) h

    choose : (found : Option Event) → entry_at name past ≡ found → (is_named past c Takes i names ≡ true → P (first_taken past names)) → P (taken found (first_taken past names))
    choose None q rec = rec (rest (ap (passes (is_act Takes c)) q))
    choose (Some (Take command opened cdb row bytes)) q rec =
        let mine : (command ≡ c) × ((k : ℕ) × (name.lock ≡ k + 1)) = own-take s past c command opened cdb row bytes task name name.lock refl q own.0.0 in
        right name opened cdb row mine.1.0 bytes mine.1.1 (q ∙ ap (λ (n : ℕ). Some (Take n opened cdb row bytes)) mine.0)
    choose (Some event) q rec = rec (rest (ap (passes (is_act Takes c)) q))

-- so a degraded read is answered right
pub closed-right : (s : Setting) (past : List Entry) (stamp c : ℕ) (task : Task) (names : List At) (cause : Option At) (bytes : List ℕ) → IsSetting s → Grows s past →
    Kept s past → RunsAlone c task past → task.kind ≡ DegradedRead → MayCloseWhole s past stamp c task names cause bytes →
    bytes ≡ slice (sectors s.geometry past) (task_lba s.geometry task * s.geometry.block) (length bytes)
closed-right s past stamp c task names cause bytes set g kept alone k m = by (cases_Bool (target_gathers s.mode))
  where
    IsRight : List ℕ → Type 0
    IsRight l = l ≡ slice (sectors s.geometry past) (task_lba s.geometry task * s.geometry.block) (length l)

    answer : bytes ≡ answered s past task names
    answer = m.answer ∙ ap (closed_bytes s past task names) k

    gatherer_below : gatherer task < s.geometry.targets
    gatherer_below = cond_both (task.target == 0) 1 0 (λ (n : ℕ). n < s.geometry.targets) (λ e. omega (arith, set.array.least_targets)) (λ e. omega (arith, set.array.least_targets))

    by : (target_gathers s.mode ≡ true) ⊎ (target_gathers s.mode ≡ false) → IsRight bytes
    by (inl t) =
        subst IsRight (sym (answer ∙ cond-true (target_gathers s.mode) (first_taken past names) _ t))
        (first-right s past stamp c (gatherer task) task names IsRight m.acts.only
        (λ name opened cdb row i l lock stands. taken-right s past c i name opened cdb row l task set g kept alone k lock stands)
        (m.acts.takes (gatherer task) (has-there s Takes task DegradedRead s.mode (gatherer task) k refl gatherer_below
        (and_from (target_gathers s.mode) (gatherer task == gatherer task) t (eq-eqb (gatherer task) (gatherer task) refl)))))
    by (inr t) =
        subst IsRight (sym (answer ∙ cond-false (target_gathers s.mode) (first_taken past names) _ t))
        (gathered-right s past stamp c task names set g kept alone k t m.acts)
