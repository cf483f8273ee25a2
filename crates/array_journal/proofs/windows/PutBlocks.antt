-- What puts write: a rebuild its unit as the hosts know it, what makes parity anew the exclusive-or of the data, and a
-- degraded write that of the data with its own blocks.
use Rattle.std.specs.Prelude.{◌≡◌, ◌≢◌, ◌==◌, ◌&&◌, ◌<◌, ◌⊎◌, nat_lt, not, map, filter, ℕ, zero, suc, ◌+◌, Bool, true, false, List, [], ◌∷◌, length}
use Rattle.std.proofs.Common.{refl, ap, sym, ◌∙◌, cond, arith, subst, inl, inr}
use Rattle.std.proofs.lemmas.Bool.{eq-eqb, ne_eqb, and_parts, and_right, false≢true}
use Rattle.blocks_core.specs.Xor.{xor, xor_all}
use Rattle.blocks_core.proofs.XorLaws.{xor-zeros}
use Rattle.stripe_layout.specs.Layout.{parity_of}
use Rattle.sbc_cdbs.specs.declared.descriptor.Cdb.{Cdb}
use Rattle.array_journal.specs.declared.at.At.{At}
use Rattle.array_journal.specs.declared.entry.Entry.{Entry}
use Rattle.array_journal.specs.declared.event.Event.{Event}
use Rattle.array_journal.specs.declared.event.Event.TheVariants.{Put}
use Rattle.array_journal.specs.declared.setting.Setting.{Setting}
use Rattle.array_journal.specs.declared.task.Kind.{Kind}
use Rattle.array_journal.specs.declared.task.Kind.TheVariants.{DataOnly, DegradedWrite, Rebuild, Resync}
use Rattle.array_journal.specs.declared.task.Task.{Task}
use Rattle.blocks_core.specs.Lists.{block_at}
use Rattle.array_journal.specs.Lists.{numbers}
use Rattle.array_journal.specs.declared.act.Act.TheVariants.{Fetches}
use Rattle.array_journal.specs.Acts.{has_act, acts_at, is_act, task_bytes}
use Rattle.array_journal.specs.May.{MayPut, NamesAt, fetched_targets, bytes_named, IsTask, IsTaskOfKind}
use Rattle.array_journal.specs.Run.{IsSetting, Grows}
use Rattle.array_journal.specs.Laws.{RunsAlone}
use Rattle.array_journal.proofs.sums.LayoutLaws.{task_row}
use Rattle.array_journal.proofs.lives.DoneRebuilds.{task-sound}
use Rattle.blocks_core.proofs.BlockLists.{block_at-xor}
use Rattle.array_journal.proofs.sums.TargetSums.{sum_where, but, sum-tests, sum-blocks, sum-apart}
use Rattle.array_journal.proofs.reads.KnownBlocks.{known_in, known, IsWrite, sectors_with, known-written, known-beside}
use Rattle.array_journal.proofs.windows.WindowViews.{is_data, data_sum, view, view-data, others-known, data-views, is-data}
use Rattle.array_journal.proofs.windows.WindowReads.{Kept, fetched-sum, fetches-test}

-- the exclusive-or of the data on a row, as some sectors have it
abbrev pub data_sum_in : Setting → List ℕ → ℕ → ℕ → List ℕ
data_sum_in s l stripe r = sum_where s.geometry.block (is_data s stripe) (λ i. known_in s l stripe i r) 0 s.geometry.targets

-- a put without blocks of its own
put-sum : (s : Setting) (past : List Entry) (stamp i c j : ℕ) (opened : At) (cdb : Cdb) (row : ℕ) (bytes : List ℕ) (names : List At) (task : Task) → Kept s past →
    RunsAlone c task past → MayPut s past stamp i c opened cdb row bytes names task → task.bytes ≡ [] → j < task.count →
    block_at s.geometry.block bytes j ≡ sum_where s.geometry.block (has_act s Fetches task) (λ x. view s past task.stripe x (task.row + j)) 0 s.geometry.targets
put-sum s past stamp i c j opened cdb row bytes names task kept alone m none h =
    ap (λ (l : List ℕ). block_at s.geometry.block l j) m.made
    ∙ ap (λ (l : List ℕ). block_at s.geometry.block (xor l (xor_all (length bytes) (map (bytes_named past) names))) j) none
    ∙ fetched-sum s past stamp c j (length bytes) task names kept alone m.fetched m.act.whole h

-- a rebuild of a data unit
pub put-unit : (s : Setting) (past : List Entry) (stamp i c j : ℕ) (opened : At) (cdb : Cdb) (row : ℕ) (bytes : List ℕ) (names : List At) (task : Task) → IsSetting s →
    Grows s past → Kept s past → RunsAlone c task past → MayPut s past stamp i c opened cdb row bytes names task → task.kind ≡ Rebuild →
    task.target ≢ parity_of s.geometry task.stripe → j < task.count → block_at s.geometry.block bytes j ≡ known s past task.stripe task.target (task.row + j)
put-unit s past stamp i c j opened cdb row bytes names task set g kept alone m k other h =
    let sound : IsTask s task = task-sound s c task past g alone.its_task in
    let rebuild : IsTaskOfKind s task Rebuild = subst (IsTaskOfKind s task) k sound.by_kind in
    put-sum s past stamp i c j opened cdb row bytes names task kept alone m rebuild.2 h
    ∙ sum-tests s.geometry.block (has_act s Fetches task) (λ x. not (x == task.target)) (λ x. view s past task.stripe x (task.row + j)) s.geometry.targets 0
    (λ x low high. fetches-test s task Rebuild x k (omega arith))
    ∙ others-known s past task.stripe task.target (task.row + j) set g (task_row s task j sound h) sound.target other

-- a rebuild of the parity unit, and a resync
pub put-parity : (s : Setting) (past : List Entry) (stamp i c j : ℕ) (opened : At) (cdb : Cdb) (row : ℕ) (bytes : List ℕ) (names : List At) (task : Task) → IsSetting s →
    Grows s past → Kept s past → RunsAlone c task past → MayPut s past stamp i c opened cdb row bytes names task →
    ((task.kind ≡ Rebuild) × (task.target ≡ parity_of s.geometry task.stripe)) ⊎ (task.kind ≡ Resync) → j < task.count →
    block_at s.geometry.block bytes j ≡ data_sum s past task.stripe (task.row + j)
put-parity s past stamp i c j opened cdb row bytes names task set g kept alone m (inl k) h =
    let sound : IsTask s task = task-sound s c task past g alone.its_task in
    let rebuild : IsTaskOfKind s task Rebuild = subst (IsTaskOfKind s task) k.0 sound.by_kind in
    put-sum s past stamp i c j opened cdb row bytes names task kept alone m rebuild.2 h
    ∙ sum-tests s.geometry.block (has_act s Fetches task) (is_data s task.stripe) (λ x. view s past task.stripe x (task.row + j)) s.geometry.targets 0
    (λ x low high. fetches-test s task Rebuild x k.0 (omega arith) ∙ ap (λ (y : ℕ). not (x == y)) k.1)
    ∙ data-views s past task.stripe (task.row + j) set
put-parity s past stamp i c j opened cdb row bytes names task set g kept alone m (inr k) h =
    let sound : IsTask s task = task-sound s c task past g alone.its_task in
    let resync : IsTaskOfKind s task Resync = subst (IsTaskOfKind s task) k sound.by_kind in
    put-sum s past stamp i c j opened cdb row bytes names task kept alone m resync.2 h
    ∙ sum-tests s.geometry.block (has_act s Fetches task) (is_data s task.stripe) (λ x. view s past task.stripe x (task.row + j)) s.geometry.targets 0
    (λ x low high. fetches-test s task Resync x k (omega arith) ∙ ap (λ (y : ℕ). not (x == y)) sound.parity)
    ∙ data-views s past task.stripe (task.row + j) set

-- a degraded write: the data with the blocks that it tells
pub put-degraded : (s : Setting) (past : List Entry) (stamp i c j lock : ℕ) (opened : At) (cdb : Cdb) (row : ℕ) (bytes : List ℕ) (names : List At) (task : Task) → IsSetting s →
    Grows s past → Kept s past → RunsAlone c task past → MayPut s past stamp i c opened cdb row bytes names task → task.kind ≡ DegradedWrite →
    IsWrite s past c task lock (Put c opened cdb row bytes names) → j < task.count →
    block_at s.geometry.block bytes j ≡ data_sum_in s (sectors_with s past (Put c opened cdb row bytes names)) task.stripe (task.row + j)
put-degraded s past stamp i c j lock opened cdb row bytes names task set g kept alone m k w h =
    ap (λ (l : List ℕ). block_at s.geometry.block l j) m.made
    ∙ block_at-xor s.geometry.block task.bytes (xor_all (length bytes) (map (bytes_named past) names)) j
    ∙ ap (xor (block_at s.geometry.block task.bytes j))
    (fetched-sum s past stamp c j (length bytes) task names kept alone m.fetched m.act.whole h
    ∙ sum-tests s.geometry.block (has_act s Fetches task) others (λ x. view s past task.stripe x (task.row + j)) s.geometry.targets 0
    (λ x low high. fetches-test s task DegradedWrite x k (omega arith)
    ∙ and_comm (not (x == task.target)) (not (x == task.parity)) ∙ ap (λ (y : ℕ). not (x == y) && not (x == task.target)) w.sound.parity)
    ∙ sum-blocks s.geometry.block others (λ x. view s past task.stripe x (task.row + j)) (λ x. known_in s l task.stripe x (task.row + j)) s.geometry.targets 0
    (λ x low high t. view-data s past task.stripe x (task.row + j) (is-data s task.stripe x (and_parts (is_data s task.stripe x) (not (x == task.target)) t).0)
    ∙ sym (known-beside s past c task lock event task.stripe x (task.row + j) set g w (task_row s task j w.sound h) (omega arith)
    (is-data s task.stripe x (and_parts (is_data s task.stripe x) (not (x == task.target)) t).0)
    (λ same own y b e. false≢true (sym (ap not (eq-eqb x task.target own)) ∙ (and_parts (is_data s task.stripe x) (not (x == task.target)) t).1)))))
    ∙ ap (λ (z : List ℕ). xor z (sum_where s.geometry.block others (λ x. known_in s l task.stripe x (task.row + j)) 0 s.geometry.targets))
    (sym (known-written s past c task lock event j set g w h))
    ∙ sym (sum-apart s.geometry.block (is_data s task.stripe) (λ x. known_in s l task.stripe x (task.row + j)) task.target s.geometry.targets 0 (omega arith)
    (omega (arith, w.sound.target)) (ap not (ne_eqb task.target (parity_of s.geometry task.stripe) (λ e. w.not_parity (e ∙ sym w.sound.parity)))))
  where
    event : Event
    event = Put c opened cdb row bytes names

    l : List ℕ
    l = sectors_with s past (Put c opened cdb row bytes names)

    others : ℕ → Bool
    others = but (is_data s task.stripe) task.target

    and_comm : (x y : Bool) → (x && y) ≡ (y && x)
    and_comm true true = refl
    and_comm true false = refl
    and_comm false true = refl
    and_comm false false = refl

-- a write of data alone: its blocks
no-targets : (n first : ℕ) (test : ℕ → Bool) → ((x : ℕ) → test x ≡ false) → filter test (numbers first n) ≡ []
no-targets zero first test none = refl
no-targets (suc n) first test none =
    ap (λ (b : Bool). cond b (first ∷ filter test (numbers (suc first) n)) (filter test (numbers (suc first) n))) (none first) ∙ no-targets n (suc first) test none

no-names : (past : List Entry) (stamp : ℕ) (test : Event → Bool) (targets : List ℕ) (names : List At) → targets ≡ [] → NamesAt past stamp targets test names → names ≡ []
no-names past stamp test [] [] e n = refl
no-names past stamp test [] (name ∷ names) e n = absurd n
no-names past stamp test (i ∷ targets) names e n = absurd cc

pub put-data : (s : Setting) (past : List Entry) (stamp i c : ℕ) (opened : At) (cdb : Cdb) (row : ℕ) (bytes : List ℕ) (names : List At) (task : Task) →
    MayPut s past stamp i c opened cdb row bytes names task → task.kind ≡ DataOnly → length task.bytes ≡ task_bytes s task → bytes ≡ task.bytes
put-data s past stamp i c opened cdb row bytes names task m k size =
    m.made ∙ ap (λ (l : List At). xor task.bytes (xor_all (length bytes) (map (bytes_named past) l)))
    (no-names past stamp (is_act Fetches c) (fetched_targets s task) names (no-targets s.geometry.targets 0 (has_act s Fetches task) none) m.fetched)
    ∙ xor-zeros (length bytes) task.bytes (size ∙ sym m.act.whole)
  where
    none : (x : ℕ) → has_act s Fetches task x ≡ false
    none x = and_right (nat_lt x s.geometry.targets) (acts_at s.mode Fetches task.kind task x)
        (ap (λ (y : Kind). acts_at s.mode Fetches y task x) k)
