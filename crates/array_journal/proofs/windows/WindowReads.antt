-- What the fetches and holds of a command that runs alone read: what their targets are read as, data units as the hosts
-- know them, parity as the exclusive-or of these. And so what its puts write.
use Rattle.std.specs.Prelude.{◌≡◌, ◌≢◌, ◌==◌, ◌&&◌, ◌<◌, ◌⊎◌, nat_lt, not, map, ℕ, ◌+◌, ◌*◌, Bool, true, false, List, [], Option, Some, None, length}
use Rattle.std.proofs.Common.{refl, ap, sym, ◌∙◌, arith, subst, inl, inr}
use Rattle.std.proofs.lemmas.Bool.{eq-eqb, ne_eqb, eqb-true, eqb-false, ltb-true, lt-ltb, cases_eq, and_parts, not-true, false≢true, cond-true, cond-false}
use Rattle.blocks_core.specs.Xor.{xor, xor_all}
use Rattle.stripe_layout.specs.declared.mode.Mode.{Mode}
use Rattle.stripe_layout.specs.Modes.{target_gathers}
use Rattle.stripe_layout.specs.Layout.{parity_of, IsRowOf}
use Rattle.sbc_cdbs.specs.declared.descriptor.Cdb.{Cdb}
use Rattle.array_journal.specs.declared.at.At.{At}
use Rattle.array_journal.specs.declared.entry.Entry.{Entry}
use Rattle.array_journal.specs.declared.event.Event.{Event}
use Rattle.array_journal.specs.declared.event.Event.TheVariants.{Fetch, Hold}
use Rattle.array_journal.specs.declared.setting.Setting.{Setting}
use Rattle.array_journal.specs.declared.task.Kind.{Kind}
use Rattle.array_journal.specs.declared.task.Kind.TheVariants.{Read, Update, DataOnly, DegradedRead, DegradedWrite, Rebuild, Resync}
use Rattle.array_journal.specs.declared.task.Task.{Task}
use Rattle.blocks_core.specs.Lists.{slice, block_at}
use Rattle.array_journal.specs.Entries.{entry_at}
use Rattle.array_journal.specs.Commands.{is_shared}
use Rattle.array_journal.specs.declared.act.Act.{Act}
use Rattle.array_journal.specs.declared.act.Act.TheVariants.{Fetches, Holds}
use Rattle.array_journal.specs.Acts.{gatherer, acts_at, has_act, is_act, task_bytes}
use Rattle.array_journal.specs.Media.{media, rows_on}
use Rattle.array_journal.specs.Lives.{is_absent}
use Rattle.array_journal.specs.Listed.{listed_for}
use Rattle.array_journal.specs.Deltas.{outstanding}
use Rattle.array_journal.specs.May.{MayAct, MayTarget, MayFetch, MayHold, NamesFetches, passes, bytes_of, bytes_named, IsTask, IsTaskOfKind}
use Rattle.array_journal.specs.Run.{IsSetting, Grows, delta_blocks}
use Rattle.array_journal.specs.Laws.{RunsAlone}
use Rattle.array_journal.proofs.sums.LayoutLaws.{task_row}
use Rattle.array_journal.proofs.owed.OwedLaws.{window-owes_nothing}
use Rattle.array_journal.proofs.windows.ListedWindows.{reads_whole, window-unlisted}
use Rattle.array_journal.proofs.runs.CommandLaws.{one_task}
use Rattle.array_journal.proofs.lives.DoneRebuilds.{task-sound}
use Rattle.blocks_core.proofs.BlockLists.{block_at-xor, block_at-slice}
use Rattle.array_journal.proofs.sums.TargetSums.{sum_where, but, sum-tests, sum-apart}
use Rattle.array_journal.proofs.reads.KnownBlocks.{known, stands, act_task, Tells, by_diff, by_put, by_parity, length-stands}
use Rattle.array_journal.proofs.lives.ThereLaws.{There, is_present}
use Rattle.array_journal.proofs.lives.OpenedUnits.{alone-there}
use Rattle.array_journal.proofs.windows.WindowViews.{data_sum, view, view-data, view-parity, length-data_sum, others-known, named-blocks, cancelled-same}
use Rattle.array_journal.proofs.calm.ActSteps.{acts-there}

-- the exclusive-or of the deltas that parity lacks on a row
abbrev pub owed_sum : Setting → List Entry → ℕ → ℕ → List ℕ
owed_sum s past stripe r = xor_all s.geometry.block (delta_blocks (outstanding s past stripe r))

-- the bytes of a hold
abbrev pub held_bytes : Option Event → List ℕ
held_bytes (Some (Hold command opened cdb row bytes kept names back)) = bytes
held_bytes _ = []

-- What holds after each entry of a run: data units that are there stand as the hosts know them; where parity is there,
-- it and the data together are the outstanding deltas; and what commands that run alone have read and gathered.
pub record Kept (s : Setting) (past : List Entry) : Type 0 where
  pub data_there : (stripe i r : ℕ) → IsRowOf s.geometry stripe r → i < s.geometry.targets → i ≢ parity_of s.geometry stripe → There i stripe past →
      stands s past i r ≡ known s past stripe i r
  pub summed : (stripe r : ℕ) → IsRowOf s.geometry stripe r → There (parity_of s.geometry stripe) stripe past →
      xor (stands s past (parity_of s.geometry stripe) r) (data_sum s past stripe r) ≡ owed_sum s past stripe r
  pub fetched : (c i j : ℕ) (task : Task) (name : At) → RunsAlone c task past → name.lock ≡ i + 1 → passes (is_act Fetches c) (entry_at name past) ≡ true →
      j < task.count → block_at s.geometry.block (bytes_named past name) j ≡ view s past task.stripe i (task.row + j)
  pub gathered : (c i j : ℕ) (task : Task) (name : At) → RunsAlone c task past → name.lock ≡ i + 1 → passes (is_act Holds c) (entry_at name past) ≡ true →
      j < task.count → block_at s.geometry.block (held_bytes (entry_at name past)) j ≡ known s past task.stripe task.target (task.row + j)

-- which targets a command that runs alone reads
pub data ReadsBy (task : Task) (i : ℕ) : Type 0 where
  reads_others : task.kind ≡ DegradedRead → i ≢ task.target → ReadsBy task i
  reads_data : task.kind ≡ DegradedWrite → i ≢ task.target → i ≢ task.parity → ReadsBy task i
  reads_units : task.kind ≡ Rebuild → i ≢ task.target → ReadsBy task i
  reads_all_data : task.kind ≡ Resync → i ≢ task.parity → ReadsBy task i

not-equal : (i d : ℕ) → not (i == d) ≡ true → i ≢ d
not-equal i d h = eqb-false i d (not-true (i == d) h)

fetches-kind : (mode : Mode) (kind : Kind) (task : Task) (i : ℕ) → task.kind ≡ kind → is_shared kind ≡ false → acts_at mode Fetches kind task i ≡ true → ReadsBy task i
fetches-kind mode Read task i k alone h = absurd (false≢true (sym alone))
fetches-kind mode Update task i k alone h = absurd (false≢true (sym alone))
fetches-kind mode DataOnly task i k alone h = absurd (false≢true (sym alone))
fetches-kind mode DegradedRead task i k alone h =
    reads_others k (not-equal i task.target (and_parts (not (i == task.target)) (not (target_gathers mode && (i == gatherer task))) h).0)
fetches-kind mode DegradedWrite task i k alone h =
    let parts : (not (i == task.target) ≡ true) × (not (i == task.parity) ≡ true) = and_parts (not (i == task.target)) (not (i == task.parity)) h in
    reads_data k (not-equal i task.target parts.0) (not-equal i task.parity parts.1)
fetches-kind mode Rebuild task i k alone h = reads_units k (not-equal i task.target h)
fetches-kind mode Resync task i k alone h = reads_all_data k (not-equal i task.parity h)

pub fetches-by : (s : Setting) (task : Task) (i : ℕ) → is_shared task.kind ≡ false → has_act s Fetches task i ≡ true → ReadsBy task i
fetches-by s task i alone h = fetches-kind s.mode task.kind task i refl alone (acts-there s Fetches task i h)

-- a hold is a degraded read's, at the target that gathers
pub record HoldsBy (s : Setting) (task : Task) (i : ℕ) : Type 0 where
  pub of_kind : task.kind ≡ DegradedRead
  pub mode : target_gathers s.mode ≡ true
  pub gathers : i ≡ gatherer task

holds-kind : (s : Setting) (mode : Mode) (kind : Kind) (task : Task) (i : ℕ) → task.kind ≡ kind → s.mode ≡ mode → acts_at mode Holds kind task i ≡ true →
    HoldsBy s task i
holds-kind s mode DegradedRead task i k t h =
    let parts : (target_gathers mode ≡ true) × ((i == gatherer task) ≡ true) = and_parts (target_gathers mode) (i == gatherer task) h in
    record { of_kind = k; mode = ap target_gathers t ∙ parts.0; gathers = eqb-true i (gatherer task) parts.1 }
holds-kind s mode Read task i k t h = absurd (false≢true h)
holds-kind s mode Update task i k t h = absurd (false≢true h)
holds-kind s mode DataOnly task i k t h = absurd (false≢true h)
holds-kind s mode DegradedWrite task i k t h = absurd (false≢true h)
holds-kind s mode Rebuild task i k t h = absurd (false≢true h)
holds-kind s mode Resync task i k t h = absurd (false≢true h)

pub holds-by : (s : Setting) (task : Task) (i : ℕ) → has_act s Holds task i ≡ true → HoldsBy s task i
holds-by s task i h = holds-kind s s.mode task.kind task i refl refl (acts-there s Holds task i h)

gatherer-other : (task : Task) → gatherer task ≢ task.target
gatherer-other task e = elim (cases_eq task.target 0) [
  | inl none ↦ let g : gatherer task ≡ 1 = cond-true (task.target == 0) 1 0 (eq-eqb task.target 0 none) in omega arith
  | inr some ↦ let g : gatherer task ≡ 0 = cond-false (task.target == 0) 1 0 (ne_eqb task.target 0 some) in some (sym e ∙ g)
]

-- facts of a task in its stripe
resync-target : (s : Setting) (task : Task) → IsTask s task → task.kind ≡ Resync → task.target ≡ task.parity
resync-target s task sound k = (subst (IsTaskOfKind s task) k sound.by_kind).3

pub degraded-target : (s : Setting) (task : Task) → IsTask s task → (task.kind ≡ DegradedRead) ⊎ (task.kind ≡ DegradedWrite) → task.target ≢ task.parity
degraded-target s task sound (inl k) = (subst (IsTaskOfKind s task) k sound.by_kind).0
degraded-target s task sound (inr k) = (subst (IsTaskOfKind s task) k sound.by_kind).0

-- a target that is read is none that its command writes for a host
pub read-unwritten : (s : Setting) (task : Task) (i lock c : ℕ) (event : Event) → IsTask s task → ReadsBy task i → Tells task lock c event →
    (i ≢ task.target) × (i ≢ parity_of s.geometry task.stripe)
read-unwritten s task i lock c event sound (reads_data k x y) w = (x, λ e. y (e ∙ sym sound.parity))
read-unwritten s task i lock c event sound (reads_others k x) (by_diff l q h) = absurd cc
read-unwritten s task i lock c event sound (reads_others k x) (by_put l q h) = absurd cc
read-unwritten s task i lock c event sound (reads_others k x) (by_parity l q h) = absurd cc
read-unwritten s task i lock c event sound (reads_units k x) (by_diff l q h) = absurd cc
read-unwritten s task i lock c event sound (reads_units k x) (by_put l q h) = absurd cc
read-unwritten s task i lock c event sound (reads_units k x) (by_parity l q h) = absurd cc
read-unwritten s task i lock c event sound (reads_all_data k x) (by_diff l q h) = absurd cc
read-unwritten s task i lock c event sound (reads_all_data k x) (by_put l q h) = absurd cc
read-unwritten s task i lock c event sound (reads_all_data k x) (by_parity l q h) = absurd cc

pub reads-silent : (task : Task) (lock c : ℕ) (event : Event) → task.kind ≡ DegradedRead → Tells task lock c event → ⊥
reads-silent task lock c event k (by_diff l q h) = absurd cc
reads-silent task lock c event k (by_put l q h) = absurd cc
reads-silent task lock c event k (by_parity l q h) = absurd cc

-- a target that is read isn't the command's own, and is unlisted where it is parity
read-other : (s : Setting) (task : Task) (i : ℕ) → IsTask s task → ReadsBy task i → i ≢ task.target
read-other s task i sound (reads_others k x) e = x e
read-other s task i sound (reads_data k x y) e = x e
read-other s task i sound (reads_units k x) e = x e
read-other s task i sound (reads_all_data k x) e = x (e ∙ resync-target s task sound k)

read-unlisted : (s : Setting) (c i : ℕ) (task : Task) (past : List Entry) → Grows s past → IsTask s task → RunsAlone c task past → ReadsBy task i →
    i ≡ parity_of s.geometry task.stripe → listed_for task.stripe past ≡ None
read-unlisted s c i task past g sound alone (reads_others k x) e = window-unlisted s c task past g alone.opened alone.its_task (ap (λ (x : Kind). reads_whole x task) k)
read-unlisted s c i task past g sound alone (reads_data k x y) e = absurd (y (e ∙ sym sound.parity))
read-unlisted s c i task past g sound alone (reads_units k x) e =
    window-unlisted s c task past g alone.opened alone.its_task
    (ap (λ (y : Kind). reads_whole y task) k ∙ ap not (ne_eqb task.target task.parity (λ q. x (e ∙ sym sound.parity ∙ sym q))))
read-unlisted s c i task past g sound alone (reads_all_data k x) e = absurd (x (e ∙ sym sound.parity))

-- what stands where a command that runs alone reads
seen : (s : Setting) (past : List Entry) (stamp i c : ℕ) (opened : At) (cdb : Cdb) (row len sources r : ℕ) (task : Task) (act : Act) → IsSetting s →
    Grows s past → Kept s past → RunsAlone c task past → MayAct s past stamp i c opened cdb row len sources task act → i < s.geometry.targets → i ≢ task.target →
    (i ≡ parity_of s.geometry task.stripe → listed_for task.stripe past ≡ None) → IsRowOf s.geometry task.stripe r → stands s past i r ≡ view s past task.stripe i r
seen s past stamp i c opened cdb row len sources r task act set g kept alone a below other unlisted at = by (cases_eq i (parity_of s.geometry task.stripe))
  where
    present : is_absent i task.stripe past ≡ false
    present = alone-there s past stamp i c opened cdb row len sources task act g a alone.alone below other

    by : ((i ≡ parity_of s.geometry task.stripe) ⊎ (i ≡ parity_of s.geometry task.stripe → ⊥)) → stands s past i r ≡ view s past task.stripe i r
    by (inr data_unit) = kept.data_there task.stripe i r at below data_unit (is_present present) ∙ sym (view-data s past task.stripe i r data_unit)
    by (inl parity) =
        let p : ℕ = parity_of s.geometry task.stripe in
        let there : is_absent p task.stripe past ≡ false = subst (λ (x : ℕ). is_absent x task.stripe past ≡ false) parity present in
        let none : outstanding s past task.stripe r ≡ [] = window-owes_nothing s c r task past set g alone at (unlisted parity, there) in
        ap (λ (x : ℕ). stands s past x r) parity
        ∙ cancelled-same s.geometry.block (stands s past p r) (data_sum s past task.stripe r) (length-stands s past task.stripe p r g at)
        (length-data_sum s past task.stripe r set g at)
        (kept.summed task.stripe r at (is_present there) ∙ ap (λ l. xor_all s.geometry.block (delta_blocks l)) none)
        ∙ sym (view-parity s past task.stripe i r parity)

-- a block of rows of a medium
pub rows-block : (s : Setting) (i : ℕ) (past : List Entry) (row len j : ℕ) (task : Task) → row ≡ task.row → len ≡ task_bytes s task → j < task.count →
    block_at s.geometry.block (rows_on s i past row len) j ≡ stands s past i (task.row + j)
rows-block s i past row len j task at whole h =
    ap (λ (n : ℕ). block_at s.geometry.block (slice (media s i past) (n * s.geometry.block) len) j) at
    ∙ ap (λ (n : ℕ). block_at s.geometry.block (slice (media s i past) (task.row * s.geometry.block) n) j) whole
    ∙ block_at-slice s.geometry.block (media s i past) task.row task.count j h

pub below-targets : (s : Setting) (act : Act) (task : Task) (i : ℕ) → has_act s act task i ≡ true → i < s.geometry.targets
below-targets s act task i h = ltb-true i s.geometry.targets (and_parts (nat_lt i s.geometry.targets) (acts_at s.mode act task.kind task i) h).0

-- a fetch reads what its target is read as
pub fetch-read : (s : Setting) (past : List Entry) (stamp i c j : ℕ) (task : Task) (event : Event) → IsSetting s → Grows s past → Kept s past → RunsAlone c task past →
    MayTarget s past stamp i event → is_act Fetches c event ≡ true → j < task.count →
    block_at s.geometry.block (bytes_of (Some event)) j ≡ view s past task.stripe i (task.row + j)
fetch-read s past stamp i c j task (Fetch command opened cdb row bytes) set g kept alone m h below =
    same_task command (eqb-true command c h) m.0 m.1
  where
    same_task : (d : ℕ) → d ≡ c → (its : Task) → MayFetch s past stamp i d opened cdb row bytes its →
        block_at s.geometry.block bytes j ≡ view s past task.stripe i (task.row + j)
    same_task d same its f = by_its_own (subst (λ (x : Task). MayFetch s past stamp i c opened cdb row bytes x) (one_task its task (sym (act_task s past stamp i c opened cdb row (length bytes) 0 its Fetches g there.act) ∙ alone.its_task)) there)
      where
        there : MayFetch s past stamp i c opened cdb row bytes its
        there = subst (λ (n : ℕ). MayFetch s past stamp i n opened cdb row bytes its) same f

        by_its_own : MayFetch s past stamp i c opened cdb row bytes task → block_at s.geometry.block bytes j ≡ view s past task.stripe i (task.row + j)
        by_its_own u =
            let sound : IsTask s task = task-sound s c task past g alone.its_task in
            let reads : ReadsBy task i = fetches-by s task i alone.alone u.act.of_task in
            ap (λ (l : List ℕ). block_at s.geometry.block l j) u.read
            ∙ rows-block s i past row (length bytes) j task u.act.at_row u.act.whole below
            ∙ seen s past stamp i c opened cdb row (length bytes) 0 (task.row + j) task Fetches set g kept alone u.act
            (below-targets s Fetches task i u.act.of_task) (read-other s task i sound reads) (read-unlisted s c i task past g sound alone reads) (task_row s task j sound below)
fetch-read s past stamp i c j task _ set g kept alone m h below = absurd (false≢true h)

-- what the named fetches of a command read together
pub fetched-sum : (s : Setting) (past : List Entry) (stamp c j len : ℕ) (task : Task) (names : List At) → Kept s past → RunsAlone c task past →
    NamesFetches s past stamp c task names → len ≡ task_bytes s task → j < task.count →
    block_at s.geometry.block (xor_all len (map (bytes_named past) names)) j
    ≡ sum_where s.geometry.block (has_act s Fetches task) (λ i. view s past task.stripe i (task.row + j)) 0 s.geometry.targets
fetched-sum s past stamp c j len task names kept alone n whole h =
    ap (λ (x : ℕ). block_at s.geometry.block (xor_all x (map (bytes_named past) names)) j) whole
    ∙ named-blocks past stamp s.geometry.block task.count j (is_act Fetches c) (λ i. view s past task.stripe i (task.row + j)) _ names h n
    (λ i name lock says. kept.fetched c i j task name alone lock says h)

-- a target's test for fetching, below the number of targets
pub fetches-test : (s : Setting) (task : Task) (kind : Kind) (x : ℕ) → task.kind ≡ kind → x < s.geometry.targets →
    has_act s Fetches task x ≡ acts_at s.mode Fetches kind task x
fetches-test s task kind x k below =
    ap (λ (b : Bool). b && acts_at s.mode Fetches task.kind task x) (lt-ltb x s.geometry.targets below)
    ∙ ap (λ (y : Kind). acts_at s.mode Fetches y task x) k

-- a hold gathers the missing unit
pub hold-gathers : (s : Setting) (past : List Entry) (stamp i c j : ℕ) (opened : At) (cdb : Cdb) (row : ℕ) (bytes : List ℕ) (kept_here : Bool) (names : List At) (back : Bool) (task : Task) →
    IsSetting s → Grows s past → Kept s past → RunsAlone c task past → MayHold s past stamp i c opened cdb row bytes kept_here names back task → j < task.count →
    block_at s.geometry.block bytes j ≡ known s past task.stripe task.target (task.row + j)
hold-gathers s past stamp i c j opened cdb row bytes kept_here names back task set g kept alone m h =
    ap (λ (l : List ℕ). block_at s.geometry.block l j) m.made
    ∙ block_at-xor s.geometry.block (rows_on s i past row (length bytes)) (xor_all (length bytes) (map (bytes_named past) names)) j
    ∙ ap (λ (x : List ℕ). xor x (block_at s.geometry.block (xor_all (length bytes) (map (bytes_named past) names)) j))
    (rows-block s i past row (length bytes) j task m.act.at_row m.act.whole h
    ∙ seen s past stamp i c opened cdb row (length bytes) (length names) (task.row + j) task Holds set g kept alone m.act below other
    (λ e. window-unlisted s c task past g alone.opened alone.its_task (ap (λ (x : Kind). reads_whole x task) holds.of_kind)) (task_row s task j sound h))
    ∙ ap (xor (view s past task.stripe i (task.row + j)))
    (fetched-sum s past stamp c j (length bytes) task names kept alone m.fetched m.act.whole h
    ∙ sum-tests s.geometry.block (has_act s Fetches task) (but (λ x. not (x == task.target)) i) (λ x. view s past task.stripe x (task.row + j)) s.geometry.targets 0
    (λ x low high. fetches-test s task DegradedRead x holds.of_kind (omega arith)
    ∙ ap (λ (b : Bool). not (x == task.target) && not (b && (x == gatherer task))) holds.mode
    ∙ ap (λ (y : ℕ). not (x == task.target) && not (x == y)) (sym holds.gathers)))
    ∙ sym (sum-apart s.geometry.block (λ x. not (x == task.target)) (λ x. view s past task.stripe x (task.row + j)) i s.geometry.targets 0 (omega arith) (omega (arith, below))
    (ap not (ne_eqb i task.target other)))
    ∙ others-known s past task.stripe task.target (task.row + j) set g (task_row s task j sound h) sound.target not_parity
  where
    sound : IsTask s task
    sound = task-sound s c task past g alone.its_task

    holds : HoldsBy s task i
    holds = holds-by s task i m.act.of_task

    below : i < s.geometry.targets
    below = below-targets s Holds task i m.act.of_task

    other : i ≢ task.target
    other e = gatherer-other task (sym holds.gathers ∙ e)

    not_parity : task.target ≢ parity_of s.geometry task.stripe
    not_parity e = degraded-target s task sound (inl holds.of_kind) (e ∙ sym sound.parity)
