-- An entry beside parity's target: a diff changes the data by a delta that is owed from then on, and all else leaves the
-- row's sum as it was.
use Rattle.std.specs.Prelude.{◌≡◌, ◌≢◌, ◌==◌, ◌||◌, ◌<◌, not, ℕ, ◌+◌, ◌-◌, Bool, true, List, ◌∷◌, Some, length}
use Rattle.std.proofs.Common.{refl, ap, sym, ◌∙◌, arith, subst}
use Rattle.std.proofs.lemmas.Bool.{eq-eqb, ne_eqb, and_parts, false≢true}
use Rattle.blocks_core.specs.Xor.{xor, xor_all}
use Rattle.blocks_core.proofs.XorLaws.{xor-assoc, xor-comm, xor-delta, xor-swap}
use Rattle.stripe_layout.specs.Layout.{parity_of, IsRowOf}
use Rattle.sbc_cdbs.specs.declared.descriptor.Cdb.{Cdb}
use Rattle.array_journal.specs.declared.at.At.{At}
use Rattle.array_journal.specs.declared.entry.Entry.{Entry}
use Rattle.array_journal.specs.declared.event.Event.{Event}
use Rattle.array_journal.specs.declared.event.Event.TheVariants.{Put, Diff, Fold}
use Rattle.array_journal.specs.declared.setting.Setting.{Setting}
use Rattle.array_journal.specs.declared.task.Task.{Task}
use Rattle.blocks_core.specs.Lists.{block_at}
use Rattle.array_journal.specs.Commands.{task_of}
use Rattle.array_journal.specs.declared.act.Act.TheVariants.{Puts, Diffs}
use Rattle.array_journal.specs.Acts.{is_act}
use Rattle.array_journal.specs.Media.{rows_on}
use Rattle.array_journal.specs.Host.{is_put_write}
use Rattle.array_journal.specs.Deltas.{Delta, delta_of}
use Rattle.array_journal.specs.May.{MayAct, MayPut, MayDiff, MayAt, MayTarget, IsTask}
use Rattle.array_journal.specs.Run.{IsSetting, Grows, sectors, delta_blocks}
use Rattle.array_journal.proofs.owed.EndedCommands.{act-open}
use Rattle.blocks_core.proofs.BlockLists.{block_at-xor, length-block_at}
use Rattle.array_journal.proofs.sums.LayoutLaws.{Falls, Within, Beside, row_falls}
use Rattle.array_journal.proofs.sums.TargetSums.{sum_where, but, sum-blocks, sum-apart}
use Rattle.array_journal.proofs.reads.KnownBlocks.{known_in, known, stands, act_task, act_sound, PutsBy, puts_data, puts_degraded, puts_unit, puts_parity, puts-by, IsWrite, sectors_with, diff-write, length-known, known-written, known-beside}
use Rattle.array_journal.proofs.lives.ThereLaws.{There, is_present}
use Rattle.array_journal.proofs.lives.OpenedUnits.{data-not_there, update-there}
use Rattle.array_journal.proofs.windows.WindowViews.{is_data, is-data, data_sum, data-by_targets}
use Rattle.array_journal.proofs.windows.WindowReads.{Kept, owed_sum, rows-block}
use Rattle.array_journal.proofs.windows.PutBlocks.{data_sum_in}
use Rattle.array_journal.proofs.reads.DataLaw.{known-at, within-stripe}
use Rattle.array_journal.proofs.owed.DeltaLaws.{act-lock, differs-update}
use Rattle.array_journal.proofs.owed.OwedSteps.{moves_delta, outstanding-still, outstanding-diff, outstanding-diff_beside, outstanding-fold_beside}
use Rattle.array_journal.proofs.sums.RowSums.{hit-within, hit-beside, same-sum}
use Rattle.array_journal.proofs.owed.StillSums.{still-data, put-data_kept, diff-data_kept, parity-else}

-- a diff of another target over the row: the data change by its delta, and it is owed
diffed-in : (b : ℕ) (parity old rest new owed : List ℕ) → length old ≡ b → length new ≡ b → xor parity (xor old rest) ≡ owed →
    xor parity (xor new rest) ≡ xor (xor old new) owed
diffed-in b parity old rest new owed size size_new e =
    ap (λ (x : List ℕ). xor parity (xor x rest)) (sym (xor-delta b old new size size_new))
    ∙ ap (xor parity) (xor-swap old (xor old new) rest) ∙ sym (xor-assoc parity (xor old rest) (xor old new))
    ∙ ap (λ (x : List ℕ). xor x (xor old new)) e ∙ xor-comm owed (xor old new)

diff-over : (s : Setting) (e : Entry) (past : List Entry) (stripe r j i c : ℕ) (opened : At) (cdb : Cdb) (row : ℕ) (bytes : List ℕ) (sent dropped back : Bool) (task : Task) →
    IsSetting s → Grows s (e ∷ past) → Kept s past → IsRowOf s.geometry stripe r → e.event ≡ Diff c opened cdb row bytes sent dropped back → e.lock ≡ i + 1 →
    (e.lock ≡ parity_of s.geometry stripe + 1 → ⊥) → MayDiff s past e.stamp i c opened cdb row bytes sent dropped back task →
    IsWrite s past c task e.lock (Diff c opened cdb row bytes sent dropped back) → stripe ≡ task.stripe → i ≡ task.target → j < task.count → r ≡ task.row + j →
    xor (stands s past (parity_of s.geometry stripe) r) (data_sum s past stripe r) ≡ owed_sum s past stripe r →
    xor (stands s (e ∷ past) (parity_of s.geometry stripe) r) (data_sum s (e ∷ past) stripe r) ≡ owed_sum s (e ∷ past) stripe r
diff-over s e past stripe r j i c opened cdb row bytes sent dropped back task set g kept at q here away m w same own h k old_sum =
    ap (λ (x : List ℕ). xor x (data_sum s (e ∷ past) stripe r)) (parity-else s e past p r away)
    ∙ ap (xor (stands s past p r)) changed
    ∙ diffed-in s.geometry.block (stands s past p r) old rest new (owed_sum s past stripe r) (length-known s past stripe i r set g.1 at below other) size_new
    (ap (xor (stands s past p r)) (sym unchanged) ∙ old_sum)
    ∙ sym (ap (λ (l : List Delta). xor_all s.geometry.block (delta_blocks l))
    (outstanding-diff s stripe r i c opened cdb row bytes sent dropped back e past set g here q (hit-within s task row (length bytes) r j set m.act.at_row m.act.whole h k))
    ∙ ap (λ (x : List ℕ). xor x (owed_sum s past stripe r)) item)
  where
    p : ℕ
    p = parity_of s.geometry stripe

    other : i ≢ parity_of s.geometry stripe
    other e_is = away (here ∙ ap (λ (y : ℕ). y + 1) e_is)

    below : i < s.geometry.targets
    below = subst (λ (y : ℕ). y < s.geometry.targets) (sym own) w.sound.target

    old : List ℕ
    old = known s past stripe i r

    new : List ℕ
    new = block_at s.geometry.block bytes j

    rest : List ℕ
    rest = sum_where s.geometry.block (but (is_data s stripe) i) (λ x. known s past stripe x r) 0 s.geometry.targets

    size_new : length (block_at s.geometry.block bytes j) ≡ s.geometry.block
    size_new = length-block_at s.geometry.block bytes j task.count (omega (arith, m.act.whole)) h

    apart : (l : List ℕ) → sum_where s.geometry.block (is_data s stripe) (λ x. known_in s l stripe x r) 0 s.geometry.targets
        ≡ xor (known_in s l stripe i r) (sum_where s.geometry.block (but (is_data s stripe) i) (λ x. known_in s l stripe x r) 0 s.geometry.targets)
    apart l = sum-apart s.geometry.block (is_data s stripe) (λ x. known_in s l stripe x r) i s.geometry.targets 0 (omega arith) (omega (arith, below))
        (ap not (ne_eqb i (parity_of s.geometry stripe) other))

    unchanged : data_sum s past stripe r ≡ xor (known s past stripe i r) rest
    unchanged = data-by_targets s (sectors s.geometry past) stripe r set ∙ apart (sectors s.geometry past)

    there : There task.target task.stripe past
    there = is_present (update-there s past e.stamp c opened cdb row (length bytes) 0 task Diffs g.1
        (subst (λ (y : ℕ). MayAct s past e.stamp y c opened cdb row (length bytes) 0 task Diffs) own m.act) (differs-update s task i m.act.of_task).0)

    stood : stands s past i r ≡ known s past stripe i r
    stood = kept.data_there stripe i r at below other
        (subst (λ (y : ℕ). There i y past) (sym same) (subst (λ (y : ℕ). There y task.stripe past) (sym own) there))

    item : block_at s.geometry.block (delta_of s i past row bytes) (r - row) ≡ xor (known s past stripe i r) (block_at s.geometry.block bytes j)
    item =
        ap (block_at s.geometry.block (delta_of s i past row bytes)) (offset row task.row r j m.act.at_row k)
        ∙ block_at-xor s.geometry.block (rows_on s i past row (length bytes)) bytes j
        ∙ ap (λ (x : List ℕ). xor x (block_at s.geometry.block bytes j))
        (rows-block s i past row (length bytes) j task m.act.at_row m.act.whole h ∙ sym (ap (stands s past i) k) ∙ stood)
      where
        offset : (a from at_row y : ℕ) → a ≡ from → at_row ≡ from + y → at_row - a ≡ y
        offset a from at_row y x z = omega arith

    event : Event
    event = Diff c opened cdb row bytes sent dropped back

    written : known_in s (sectors_with s past (Diff c opened cdb row bytes sent dropped back)) stripe i r ≡ block_at s.geometry.block bytes j
    written =
        known-at s (sectors_with s past (Diff c opened cdb row bytes sent dropped back)) stripe i r task.stripe task.target (task.row + j) same own k
        ∙ known-written s past c task e.lock (Diff c opened cdb row bytes sent dropped back) j set g.1 w h
        ∙ ap (λ (l : List ℕ). block_at s.geometry.block l j) (sym m.written)

    changed : data_sum s (e ∷ past) stripe r ≡ xor (block_at s.geometry.block bytes j) rest
    changed =
        data-by_targets s (sectors s.geometry (e ∷ past)) stripe r set
        ∙ ap (λ (x : Event). data_sum_in s (sectors_with s past x) stripe r) q
        ∙ apart (sectors_with s past (Diff c opened cdb row bytes sent dropped back))
        ∙ ap (λ (x : List ℕ). xor x (sum_where s.geometry.block (but (is_data s stripe) i)
        (λ y. known_in s (sectors_with s past (Diff c opened cdb row bytes sent dropped back)) stripe y r) 0 s.geometry.targets)) written
        ∙ ap (xor (block_at s.geometry.block bytes j))
        (sum-blocks s.geometry.block (but (is_data s stripe) i) (λ y. known_in s (sectors_with s past (Diff c opened cdb row bytes sent dropped back)) stripe y r)
        (λ y. known s past stripe y r) s.geometry.targets 0
        (λ y low high t. known-beside s past c task e.lock (Diff c opened cdb row bytes sent dropped back) stripe y r set g.1 w at (omega arith)
        (is-data s stripe y (and_parts (is_data s stripe y) (not (y == i)) t).0)
        (λ st ow z a b. false≢true (sym (ap not (eq-eqb y i (ow ∙ sym own))) ∙ (and_parts (is_data s stripe y) (not (y == i)) t).1))))

diff-away : (s : Setting) (e : Entry) (past : List Entry) (stripe r i c : ℕ) (opened : At) (cdb : Cdb) (row : ℕ) (bytes : List ℕ) (sent dropped back : Bool) (task : Task) →
    IsSetting s → Grows s (e ∷ past) → Kept s past → IsRowOf s.geometry stripe r → e.event ≡ Diff c opened cdb row bytes sent dropped back → e.lock ≡ i + 1 →
    (e.lock ≡ parity_of s.geometry stripe + 1 → ⊥) → MayTarget s past e.stamp i (Diff c opened cdb row bytes sent dropped back) →
    MayDiff s past e.stamp i c opened cdb row bytes sent dropped back task → Falls task r →
    xor (stands s past (parity_of s.geometry stripe) r) (data_sum s past stripe r) ≡ owed_sum s past stripe r →
    xor (stands s (e ∷ past) (parity_of s.geometry stripe) r) (data_sum s (e ∷ past) stripe r) ≡ owed_sum s (e ∷ past) stripe r
diff-away s e past stripe r i c opened cdb row bytes sent dropped back task set g kept at q here away may m (Within j h k) old =
    let w : IsWrite s past c task e.lock (Diff c opened cdb row bytes sent dropped back) =
    diff-write s past e.stamp i e.lock c opened cdb row bytes sent dropped back task g.1 may here m.act in
    diff-over s e past stripe r j i c opened cdb row bytes sent dropped back task set g kept at q here away m w (within-stripe s task stripe r j w.sound at h k)
    (differs-update s task i m.act.of_task).1 h k old
diff-away s e past stripe r i c opened cdb row bytes sent dropped back task set g kept at q here away may m (Beside beside) old =
    same-sum s e past stripe r (parity-else s e past (parity_of s.geometry stripe) r away)
    (diff-data_kept s e past stripe r c opened cdb row bytes sent dropped back task set g at q
    (act_task s past e.stamp i c opened cdb row (length bytes) 0 task Diffs g.1 m.act) beside)
    (outstanding-diff_beside s stripe r c opened cdb row bytes sent dropped back e past q (hit-beside s task row (length bytes) r set m.act.at_row m.act.whole beside)) old

-- a put of another target: where it tells a write of the stripe on this row, its parity isn't there
put-away : (s : Setting) (e : Entry) (past : List Entry) (stripe r i c : ℕ) (opened : At) (cdb : Cdb) (row : ℕ) (bytes : List ℕ) (names : List At) (task : Task) →
    IsSetting s → Grows s (e ∷ past) → IsRowOf s.geometry stripe r → e.event ≡ Put c opened cdb row bytes names → e.lock ≡ i + 1 →
    (e.lock ≡ parity_of s.geometry stripe + 1 → ⊥) → MayTarget s past e.stamp i (Put c opened cdb row bytes names) →
    MayPut s past e.stamp i c opened cdb row bytes names task → PutsBy task i → There (parity_of s.geometry stripe) stripe past →
    xor (stands s past (parity_of s.geometry stripe) r) (data_sum s past stripe r) ≡ owed_sum s past stripe r →
    xor (stands s (e ∷ past) (parity_of s.geometry stripe) r) (data_sum s (e ∷ past) stripe r) ≡ owed_sum s (e ∷ past) stripe r
put-away s e past stripe r i c opened cdb row bytes names task set g at q here away may m how there old =
    same-sum s e past stripe r (parity-else s e past (parity_of s.geometry stripe) r away)
    (put-data_kept s e past stripe r c opened cdb row bytes names task set g at q its (λ same j h k writes. never same writes how))
    (outstanding-still s stripe r e past (ap moves_delta q) (λ lock. absurd (away lock))) old
  where
    its : task_of c past ≡ Some task
    its = act_task s past e.stamp i c opened cdb row (length bytes) (length names) task Puts g.1 m.act

    sound : IsTask s task
    sound = act_sound s past e.stamp i c opened cdb row (length bytes) (length names) task Puts g.1 m.act

    never : stripe ≡ task.stripe → is_put_write task.kind ≡ true → PutsBy task i → ⊥
    never same writes (puts_data k x) =
        data-not_there s c task past g.1 (act-open s past e.stamp i c Puts (Put c opened cdb row bytes names) g.1 may (eq-eqb c c refl)) its k
        (subst (λ (y : ℕ). There (parity_of s.geometry y) y past) same there)
    never same writes (puts_degraded k x) = away (here ∙ ap (λ (y : ℕ). y + 1) (x ∙ sound.parity ∙ ap (parity_of s.geometry) (sym same)))
    never same writes (puts_unit k x) = false≢true (sym (ap is_put_write k) ∙ writes)
    never same writes (puts_parity k x) = false≢true (sym (ap is_put_write k) ∙ writes)

-- an entry elsewhere
pub sum-away : (s : Setting) (e : Entry) (past : List Entry) (stripe r : ℕ) (event : Event) → IsSetting s → Grows s (e ∷ past) → Kept s past → IsRowOf s.geometry stripe r →
    e.event ≡ event → (e.lock ≡ parity_of s.geometry stripe + 1 → ⊥) → MayAt s past e.stamp e.lock event → There (parity_of s.geometry stripe) stripe past →
    xor (stands s (e ∷ past) (parity_of s.geometry stripe) r) (data_sum s (e ∷ past) stripe r) ≡ owed_sum s (e ∷ past) stripe r
sum-away s e past stripe r (Put command opened cdb row bytes names) set g kept at q away m there =
    let t : (i : ℕ) × ((e.lock ≡ i + 1) × MayTarget s past e.stamp i (Put command opened cdb row bytes names)) =
    act-lock s past e.stamp e.lock command Puts (Put command opened cdb row bytes names) m (eq-eqb command command refl) in
    put-away s e past stripe r t.0 command opened cdb row bytes names t.1.1.0 set g at q t.1.0 away t.1.1 t.1.1.1 (puts-by s t.1.1.0 t.0 t.1.1.1.act.of_task) there
    (kept.summed stripe r at there)
sum-away s e past stripe r (Diff command opened cdb row bytes sent dropped back) set g kept at q away m there =
    let t : (i : ℕ) × ((e.lock ≡ i + 1) × MayTarget s past e.stamp i (Diff command opened cdb row bytes sent dropped back)) =
    act-lock s past e.stamp e.lock command Diffs (Diff command opened cdb row bytes sent dropped back) m (eq-eqb command command refl) in
    diff-away s e past stripe r t.0 command opened cdb row bytes sent dropped back t.1.1.0 set g kept at q t.1.0 away t.1.1 t.1.1.1 (row_falls t.1.1.0 r)
    (kept.summed stripe r at there)
sum-away s e past stripe r (Fold command opened cdb row bytes names) set g kept at q away m there =
    same-sum s e past stripe r (parity-else s e past (parity_of s.geometry stripe) r away)
    (still-data s e past stripe r set g at (λ d. ap (λ (x : Event). is_act Diffs d x || is_act Puts d x) q))
    (outstanding-fold_beside s stripe r command opened cdb row bytes names e past set g at q (λ lock. absurd (away lock))) (kept.summed stripe r at there)
sum-away s e past stripe r event set g kept at q away m there =
    same-sum s e past stripe r (parity-else s e past (parity_of s.geometry stripe) r away)
    (still-data s e past stripe r set g at (λ d. ap (λ (x : Event). is_act Diffs d x || is_act Puts d x) q))
    (outstanding-still s stripe r e past (ap moves_delta q) (λ lock. absurd (away lock))) (kept.summed stripe r at there)
