-- What parity owes on a row, and the sum of it, after one more entry.
use Rattle.std.specs.Prelude.{◌≡◌, ◌&&◌, not, ℕ, ◌+◌, ◌-◌, Bool, true, false, List, [], ◌∷◌, length, Some}
use Rattle.std.proofs.Common.{refl, ap, sym, ◌∙◌, cond, subst, inl, inr}
use Rattle.std.proofs.lemmas.Bool.{eq-eqb, cases_Bool, and_from, and_left, both_ways, false≢true, cond-true, cond-false}
use Rattle.blocks_core.specs.Xor.{xor, xor_all}
use Rattle.stripe_layout.specs.Layout.{parity_of, IsRowOf}
use Rattle.sbc_cdbs.specs.declared.descriptor.Cdb.{Cdb}
use Rattle.array_journal.specs.declared.at.At.{At}
use Rattle.array_journal.specs.declared.entry.Entry.{Entry}
use Rattle.array_journal.specs.declared.event.Event.{Event}
use Rattle.array_journal.specs.declared.event.Event.TheVariants.{Diff, Fold}
use Rattle.array_journal.specs.declared.setting.Setting.{Setting}
use Rattle.array_journal.specs.declared.task.Kind.TheVariants.{Update}
use Rattle.array_journal.specs.declared.task.Task.{Task}
use Rattle.blocks_core.specs.Lists.{block_at}
use Rattle.array_journal.specs.Entries.{some_at}
use Rattle.array_journal.specs.Commands.{is_open, task_of}
use Rattle.array_journal.specs.declared.act.Act.TheVariants.{Diffs, Folds}
use Rattle.array_journal.specs.Acts.{is_act, task_bytes}
use Rattle.array_journal.specs.Deltas.{Delta, covers, delta_of, has_acted, puts_row, with_delta, outstanding_in, outstanding}
use Rattle.array_journal.specs.May.{MayTarget, MayFold, SomeTask}
use Rattle.array_journal.specs.Run.{Grows, IsSetting, delta_blocks}
use Rattle.array_journal.proofs.runs.Standing.{may-here}
use Rattle.array_journal.proofs.runs.CommandLaws.{named-task, one_task}
use Rattle.array_journal.proofs.owed.EndedCommands.{act-open}
use Rattle.array_journal.proofs.lives.DoneRebuilds.{task-sound}
use Rattle.array_journal.proofs.owed.DeltaLaws.{act-lock, folds-update, delta_made}
use Rattle.array_journal.proofs.held.HeldDeltas.{fold-delta}
use Rattle.array_journal.proofs.owed.OwedLists.{without_command, without_command-none, sum_without, lacks-command, outstanding_in-agrees, outstanding_in-fold, outstanding_in-here, outstanding_in-still, outstanding_in-put}
use Rattle.array_journal.proofs.owed.FoldedCommands.{HasFolded, has-folded, diff-unfolded}
use Rattle.array_journal.proofs.owed.OwedItems.{IsItem, items}
use Rattle.array_journal.proofs.owed.LonePuts.{task-covers}
use Rattle.array_journal.proofs.owed.OwedOnce.{update_block, owed-once}

-- the event makes a delta, or brings one to parity
abbrev pub moves_delta : Event → Bool
moves_delta (Diff command opened cdb row bytes sent dropped back) = true
moves_delta (Fold command opened cdb row bytes names) = true
moves_delta _ = false

still-folds : (c : ℕ) (event : Event) → moves_delta event ≡ false → is_act Folds c event ≡ false
still-folds c (Fold command opened cdb row bytes names) h = absurd (false≢true (sym h))
still-folds c _ h = refl

still-deltas : (s : Setting) (whole : List Entry) (i : ℕ) (past : List Entry) (r : ℕ) (event : Event) (older : List Delta) → moves_delta event ≡ false →
    with_delta s whole i past r event older ≡ older
still-deltas s whole i past r (Diff command opened cdb row bytes sent dropped back) older h = absurd (false≢true (sym h))
still-deltas s whole i past r _ older h = refl

-- an entry that folds nothing leaves what was folded
unfolding_so : (e : Entry) (past : List Entry) → ((c : ℕ) → is_act Folds c e.event ≡ false) → (c : ℕ) → has_acted Folds c (e ∷ past) ≡ has_acted Folds c past
unfolding_so e past none c = cond-false (is_act Folds c e.event) true (has_acted Folds c past) (none c)

-- an entry that neither makes nor folds a delta, nor writes the row of parity anew, leaves what is owed
pub outstanding-still : (s : Setting) (stripe r : ℕ) (e : Entry) (past : List Entry) → moves_delta e.event ≡ false →
    (e.lock ≡ parity_of s.geometry stripe + 1 → puts_row s r e.event ≡ false) → outstanding s (e ∷ past) stripe r ≡ outstanding s past stripe r
outstanding-still s stripe r e past h none =
    outstanding_in-still s (e ∷ past) stripe r e past none (λ i older. still-deltas s (e ∷ past) i past r e.event older h)
    ∙ outstanding_in-agrees s (e ∷ past) past stripe r past (unfolding_so e past (λ c. still-folds c e.event h))

-- one that writes it anew leaves nothing
pub outstanding-put : (s : Setting) (stripe r : ℕ) (e : Entry) (past : List Entry) → e.lock ≡ parity_of s.geometry stripe + 1 → puts_row s r e.event ≡ true →
    outstanding s (e ∷ past) stripe r ≡ []
outstanding-put s stripe r e past here puts = outstanding_in-put s (e ∷ past) stripe r e past here puts

-- a diff over the row adds its delta
pub outstanding-diff : (s : Setting) (stripe r i command : ℕ) (opened : At) (cdb : Cdb) (row : ℕ) (bytes : List ℕ) (sent dropped back : Bool) (e : Entry) (past : List Entry) →
    IsSetting s → Grows s (e ∷ past) → e.lock ≡ i + 1 → e.event ≡ Diff command opened cdb row bytes sent dropped back → covers s.geometry.block row (length bytes) r ≡ true →
    outstanding s (e ∷ past) stripe r ≡ record { command = command; block = block_at s.geometry.block (delta_of s i past row bytes) (r - row) } ∷ outstanding s past stripe r
outstanding-diff s stripe r i command opened cdb row bytes sent dropped back e past set g here q hit =
    outstanding_in-here s (e ∷ past) stripe r i e past here (λ k. ap (puts_row s r) q)
    ∙ ap (λ (x : Event). with_delta s (e ∷ past) i past r x older) q
    ∙ cond-true (covers s.geometry.block row (length bytes) r && not (has_acted Folds command (e ∷ past))) (item ∷ older) older
    (and_from (covers s.geometry.block row (length bytes) r) (not (has_acted Folds command (e ∷ past))) hit (ap not unfolded))
    ∙ ap (λ (l : List Delta). item ∷ l) (outstanding_in-agrees s (e ∷ past) past stripe r past (unfolding_so e past (λ c. ap (is_act Folds c) q)))
  where
    item : Delta
    item = record { command = command; block = block_at s.geometry.block (delta_of s i past row bytes) (r - row) }

    older : List Delta
    older = outstanding_in s (e ∷ past) stripe r past

    unfolded : has_acted Folds command (e ∷ past) ≡ false
    unfolded =
        unfolding_so e past (λ c. ap (is_act Folds c) q) command
        ∙ diff-unfolded s i command e past set g here (ap (is_act Diffs command) q ∙ eq-eqb command command refl)

-- a diff beside it adds none
pub outstanding-diff_beside : (s : Setting) (stripe r command : ℕ) (opened : At) (cdb : Cdb) (row : ℕ) (bytes : List ℕ) (sent dropped back : Bool) (e : Entry) (past : List Entry) →
    e.event ≡ Diff command opened cdb row bytes sent dropped back → covers s.geometry.block row (length bytes) r ≡ false →
    outstanding s (e ∷ past) stripe r ≡ outstanding s past stripe r
outstanding-diff_beside s stripe r command opened cdb row bytes sent dropped back e past q beside =
    outstanding_in-still s (e ∷ past) stripe r e past (λ k. ap (puts_row s r) q) quiet
    ∙ outstanding_in-agrees s (e ∷ past) past stripe r past (unfolding_so e past (λ c. ap (is_act Folds c) q))
  where
    quiet : (i : ℕ) (older : List Delta) → with_delta s (e ∷ past) i past r e.event older ≡ older
    quiet i older =
        ap (λ (x : Event). with_delta s (e ∷ past) i past r x older) q
        ∙ cond-false (covers s.geometry.block row (length bytes) r && not (has_acted Folds command (e ∷ past)))
        (record { command = command; block = block_at s.geometry.block (delta_of s i past row bytes) (r - row) } ∷ older) older
        (and_left (covers s.geometry.block row (length bytes) r) (not (has_acted Folds command (e ∷ past))) beside)

-- a fold takes out its command's
pub outstanding-folded : (s : Setting) (stripe r command : ℕ) (opened : At) (cdb : Cdb) (row : ℕ) (bytes : List ℕ) (names : List At) (e : Entry) (past : List Entry) →
    e.event ≡ Fold command opened cdb row bytes names → outstanding s (e ∷ past) stripe r ≡ without_command command (outstanding s past stripe r)
outstanding-folded s stripe r command opened cdb row bytes names e past q =
    outstanding_in-still s (e ∷ past) stripe r e past (λ k. ap (puts_row s r) q) (λ i older. ap (λ (x : Event). with_delta s (e ∷ past) i past r x older) q)
    ∙ outstanding_in-fold s command (e ∷ past) past stripe r past (λ d. ap (λ (x : Event). cond (is_act Folds d x) true (has_acted Folds d past)) q)

-- what a fold at parity is: of an open update, with its delta
pub record IsFolding (s : Setting) (stripe r i command row : ℕ) (bytes : List ℕ) (past : List Entry) (task : Task) : Type 0 where
  pub its_task : task_of command past ≡ Some task
  pub update : task.kind ≡ Update
  pub at_parity : i ≡ task.parity
  pub opened : is_open command past ≡ true
  pub from_row : row ≡ task.row
  pub whole : length bytes ≡ task_bytes s task
  pub differed : some_at (task.target + 1) (is_act Diffs command) past ≡ true
  pub delta : bytes ≡ delta_made s task.target command past
  pub unfolded : has_acted Folds command past ≡ false

pub folding : (s : Setting) (stripe r i command : ℕ) (opened : At) (cdb : Cdb) (row : ℕ) (bytes : List ℕ) (names : List At) (e : Entry) (past : List Entry) →
    IsSetting s → Grows s (e ∷ past) → e.lock ≡ i + 1 → e.event ≡ Fold command opened cdb row bytes names → (task : Task) × IsFolding s stripe r i command row bytes past task
folding s stripe r i command opened cdb row bytes names e past set g here q = (
  m.0,
  record {
    its_task = its;
    update = u.0;
    at_parity = u.1;
    opened = act-open s past e.stamp i command Folds e.event g.1 (may-here s past e.stamp e.lock i e.event here g.0.1.1)
        (ap (is_act Folds command) q ∙ eq-eqb command command refl);
    from_row = m.1.1.act.at_row;
    whole = m.1.1.act.whole;
    differed = d.0;
    delta = d.1;
    unfolded = unfolded;
  },
)
  where
    m : SomeTask (λ task. (name : At) × MayFold s past e.stamp i command opened cdb row bytes names task name)
    m = subst (λ (x : Event). MayTarget s past e.stamp i x) q (may-here s past e.stamp e.lock i e.event here g.0.1.1)

    its : task_of command past ≡ Some m.0
    its = named-task s opened command m.0 past g.1 m.1.1.act.in_book m.1.1.act.opening.0

    u : (m.0.kind ≡ Update) × (i ≡ m.0.parity)
    u = folds-update s m.0 i m.1.1.act.of_task

    d : (some_at (m.0.target + 1) (is_act Diffs command) past ≡ true) × (bytes ≡ delta_made s m.0.target command past)
    d = fold-delta s past e.stamp i command opened cdb row bytes names m.0 m.1.0 set g.1 m.1.1

    unfolded : has_acted Folds command past ≡ false
    unfolded = elim (cases_Bool (has_acted Folds command past)) [
      | inl folded ↦ absurd (never (has-folded s command past set g.1 folded))
      | inr none ↦ none
    ]
      where
        never : (task : Task) × HasFolded s command past task → ⊥
        never (task, f) =
            let same : task ≡ m.0 = one_task task m.0 (sym f.its_task ∙ its) in
            both_ways (some_at (i + 1) (is_act Folds command) past) m.1.1.act.once
            (subst (λ (n : ℕ). some_at (n + 1) (is_act Folds command) past ≡ true) (ap (λ (t : Task). t.parity) same ∙ sym u.1) f.folded)

-- A fold over the row at parity: the sum loses its block.
pub outstanding-fold : (s : Setting) (stripe r command : ℕ) (opened : At) (cdb : Cdb) (row : ℕ) (bytes : List ℕ) (names : List At) (e : Entry) (past : List Entry) →
    IsSetting s → Grows s (e ∷ past) → IsRowOf s.geometry stripe r → e.lock ≡ parity_of s.geometry stripe + 1 → e.event ≡ Fold command opened cdb row bytes names →
    covers s.geometry.block row (length bytes) r ≡ true →
    xor_all s.geometry.block (delta_blocks (outstanding s past stripe r))
    ≡ xor (block_at s.geometry.block bytes (r - row)) (xor_all s.geometry.block (delta_blocks (outstanding s (e ∷ past) stripe r)))
outstanding-fold s stripe r command opened cdb row bytes names e past set g at here q hit =
    sum_without s.geometry.block command (update_block s past command task r) (outstanding s past stripe r)
    (owed-once s past stripe r command task past set g.1 at f.1.update f.1.unfolded (record {
      opened = f.1.opened;
      its_task = f.1.its_task;
      differed = f.1.differed;
      hit = task_hit;
      of_stripe = task-covers s task stripe r set (task-sound s command task past g.1 f.1.its_task) at task_hit;
    }))
    ∙ ap (λ (x : List ℕ). xor x (xor_all s.geometry.block (delta_blocks (without_command command (outstanding s past stripe r)))))
    (ap (λ (n : ℕ). block_at s.geometry.block (delta_made s task.target command past) (r - n)) (sym f.1.from_row)
    ∙ ap (λ (x : List ℕ). block_at s.geometry.block x (r - row)) (sym f.1.delta))
    ∙ ap (λ (l : List Delta). xor (block_at s.geometry.block bytes (r - row)) (xor_all s.geometry.block (delta_blocks l)))
    (sym (outstanding-folded s stripe r command opened cdb row bytes names e past q))
  where
    f : (found : Task) × IsFolding s stripe r (parity_of s.geometry stripe) command row bytes past found
    f = folding s stripe r (parity_of s.geometry stripe) command opened cdb row bytes names e past set g here q

    task : Task
    task = f.0

    task_hit : covers s.geometry.block f.0.row (task_bytes s f.0) r ≡ true
    task_hit = subst (λ (n : ℕ). covers s.geometry.block f.0.row n r ≡ true) f.1.whole
        (subst (λ (n : ℕ). covers s.geometry.block n (length bytes) r ≡ true) f.1.from_row hit)

-- One beside the row, or at another target, leaves what is owed.
pub outstanding-fold_beside : (s : Setting) (stripe r command : ℕ) (opened : At) (cdb : Cdb) (row : ℕ) (bytes : List ℕ) (names : List At) (e : Entry) (past : List Entry) →
    IsSetting s → Grows s (e ∷ past) → IsRowOf s.geometry stripe r → e.event ≡ Fold command opened cdb row bytes names →
    (e.lock ≡ parity_of s.geometry stripe + 1 → covers s.geometry.block row (length bytes) r ≡ false) →
    outstanding s (e ∷ past) stripe r ≡ outstanding s past stripe r
outstanding-fold_beside s stripe r command opened cdb row bytes names e past set g at q beside =
    outstanding-folded s stripe r command opened cdb row bytes names e past q
    ∙ without_command-none command (outstanding s past stripe r)
    (lacks-command (IsItem s past past r) command (outstanding s past stripe r) (items s past stripe r past g.1) never)
  where
    lock : (i : ℕ) × ((e.lock ≡ i + 1) × MayTarget s past e.stamp i e.event)
    lock = act-lock s past e.stamp e.lock command Folds e.event g.0.1.1 (ap (is_act Folds command) q ∙ eq-eqb command command refl)

    f : (found : Task) × IsFolding s stripe r lock.0 command row bytes past found
    f = folding s stripe r lock.0 command opened cdb row bytes names e past set g lock.1.0 q

    never : (d : Delta) → d.command ≡ command → IsItem s past past r d → ⊥
    never d its x =
        let t : task_of command past ≡ Some x.task = subst (λ (n : ℕ). task_of n past ≡ Some x.task) its x.its_task in
        let same : x.task ≡ f.0 = one_task x.task f.0 (sym t ∙ f.1.its_task) in
        let hit : covers s.geometry.block f.0.row (task_bytes s f.0) r ≡ true = subst (λ (y : Task). covers s.geometry.block y.row (task_bytes s y) r ≡ true) same x.hit in
        let stripe_so : f.0.stripe ≡ stripe = task-covers s f.0 stripe r set (task-sound s command f.0 past g.1 f.1.its_task) at hit in
        let parity : lock.0 ≡ parity_of s.geometry stripe =
        f.1.at_parity ∙ (task-sound s command f.0 past g.1 f.1.its_task).parity ∙ ap (parity_of s.geometry) stripe_so in
        both_ways (covers s.geometry.block row (length bytes) r) (beside (lock.1.0 ∙ ap (λ (n : ℕ). n + 1) parity))
        (ap (λ (n : ℕ). covers s.geometry.block n (length bytes) r) f.1.from_row ∙ ap (λ (n : ℕ). covers s.geometry.block f.0.row n r) f.1.whole ∙ hit)
