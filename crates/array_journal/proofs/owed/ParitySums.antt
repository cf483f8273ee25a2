-- An entry at parity's target: a put writes the sum of the data anew, a fold adds a delta that is no longer owed, and all
-- else leaves the row as it was.
use Rattle.std.specs.Prelude.{◌≡◌, ◌||◌, ◌<◌, ◌≤◌, ℕ, ◌+◌, ◌-◌, ◌*◌, Bool, true, List, ◌∷◌, Some, length}
use Rattle.std.proofs.Common.{refl, ap, sym, ◌∙◌, arith, subst, inl}
use Rattle.std.proofs.lemmas.Bool.{eqb-true, both_ways, false≢true}
use Rattle.blocks_core.specs.Xor.{xor, zeros}
use Rattle.blocks_core.proofs.XorLaws.{xor-assoc, xor-comm, xor-self, xor-swap, xor-zeros_front, length-xor_all}
use Rattle.stripe_layout.specs.Layout.{parity_of, IsRowOf}
use Rattle.sbc_cdbs.specs.declared.descriptor.Cdb.{Cdb}
use Rattle.array_journal.specs.declared.at.At.{At}
use Rattle.array_journal.specs.declared.entry.Entry.{Entry}
use Rattle.array_journal.specs.declared.event.Event.{Event}
use Rattle.array_journal.specs.declared.event.Event.TheVariants.{Put, Diff, Fold, Fresh}
use Rattle.array_journal.specs.declared.setting.Setting.{Setting}
use Rattle.array_journal.specs.declared.task.Kind.TheVariants.{Update, Rebuild}
use Rattle.array_journal.specs.declared.task.Task.{Task}
use Rattle.blocks_core.specs.Lists.{slice, block_at}
use Rattle.array_journal.specs.Commands.{task_of}
use Rattle.array_journal.specs.declared.act.Act.TheVariants.{Puts, Diffs, Folds}
use Rattle.array_journal.specs.Acts.{is_act, task_bytes}
use Rattle.array_journal.specs.Media.{media, medium_after}
use Rattle.array_journal.specs.Lives.{is_gone}
use Rattle.array_journal.specs.Deltas.{puts_row, outstanding}
use Rattle.array_journal.specs.May.{MayPut, MayDiff, MayFold, MayTarget, IsTask, IsTaskOfKind}
use Rattle.array_journal.specs.Run.{IsSetting, Grows, delta_blocks}
use Rattle.array_journal.proofs.runs.CommandLaws.{one_task}
use Rattle.array_journal.proofs.lives.LifeLaws.{fresh-gone}
use Rattle.array_journal.proofs.lives.DoneRebuilds.{IsRebuild}
use Rattle.blocks_core.proofs.BlockLists.{block_at-xor, length-block_at}
use Rattle.array_journal.proofs.sums.LayoutLaws.{Falls, Within, Beside, row_falls}
use Rattle.array_journal.proofs.reads.KnownBlocks.{stands, act_task, act_sound, writes-size, folded-size, media-size, put-within, put-beside}
use Rattle.array_journal.proofs.lives.ThereLaws.{There, there-works}
use Rattle.array_journal.proofs.windows.WindowViews.{data_sum}
use Rattle.array_journal.proofs.windows.WindowReads.{Kept, owed_sum, rows-block}
use Rattle.array_journal.proofs.reads.DataLaw.{within-stripe, not-beside, rebuild-rows}
use Rattle.array_journal.proofs.owed.DeltaLaws.{differs-update}
use Rattle.array_journal.proofs.owed.OwedSteps.{moves_delta, outstanding-still, outstanding-diff_beside, outstanding-fold, outstanding-fold_beside}
use Rattle.array_journal.proofs.sums.RowSums.{hit-within, hit-beside, same-sum, put-over, parity-here}
use Rattle.array_journal.proofs.owed.StillSums.{still-data, still-sum, put-data_kept, diff-data_kept}

-- puts at parity
put-at_parity : (s : Setting) (e : Entry) (past : List Entry) (stripe r c : ℕ) (opened : At) (cdb : Cdb) (row : ℕ) (bytes : List ℕ) (names : List At) (task : Task) →
    IsSetting s → Grows s (e ∷ past) → Kept s past → IsRowOf s.geometry stripe r → e.event ≡ Put c opened cdb row bytes names → e.lock ≡ parity_of s.geometry stripe + 1 →
    MayTarget s past e.stamp (parity_of s.geometry stripe) (Put c opened cdb row bytes names) →
    MayPut s past e.stamp (parity_of s.geometry stripe) c opened cdb row bytes names task → Falls task r →
    xor (stands s past (parity_of s.geometry stripe) r) (data_sum s past stripe r) ≡ owed_sum s past stripe r →
    xor (stands s (e ∷ past) (parity_of s.geometry stripe) r) (data_sum s (e ∷ past) stripe r) ≡ owed_sum s (e ∷ past) stripe r
put-at_parity s e past stripe r c opened cdb row bytes names task set g kept at q here may m (Within j h k) old =
    put-over s e past stripe c opened cdb row bytes names r j task set g kept q here may m at h k
put-at_parity s e past stripe r c opened cdb row bytes names task set g kept at q here may m (Beside beside) old =
    same-sum s e past stripe r
    (parity-here s e past p r (Put c opened cdb row bytes names) here q
    ∙ put-beside s (media s p past) bytes task row r sound m.act.at_row m.act.whole (media-size s p past g.1) beside)
    (put-data_kept s e past stripe r c opened cdb row bytes names task set g at q
    (act_task s past e.stamp p c opened cdb row (length bytes) (length names) task Puts g.1 m.act) (λ same j h k kind. not-beside task r j beside h k))
    (outstanding-still s stripe r e past (ap moves_delta q) (λ lock. ap (puts_row s r) q ∙ hit-beside s task row (length bytes) r set m.act.at_row m.act.whole beside)) old
  where
    p : ℕ
    p = parity_of s.geometry stripe

    sound : IsTask s task
    sound = act_sound s past e.stamp p c opened cdb row (length bytes) (length names) task Puts g.1 m.act

-- a diff at parity's target is of another stripe
diff-at_parity : (s : Setting) (e : Entry) (past : List Entry) (stripe r c : ℕ) (opened : At) (cdb : Cdb) (row : ℕ) (bytes : List ℕ) (sent dropped back : Bool) (task : Task) →
    IsSetting s → Grows s (e ∷ past) → IsRowOf s.geometry stripe r → e.event ≡ Diff c opened cdb row bytes sent dropped back → e.lock ≡ parity_of s.geometry stripe + 1 →
    MayDiff s past e.stamp (parity_of s.geometry stripe) c opened cdb row bytes sent dropped back task → Falls task r →
    xor (stands s past (parity_of s.geometry stripe) r) (data_sum s past stripe r) ≡ owed_sum s past stripe r →
    xor (stands s (e ∷ past) (parity_of s.geometry stripe) r) (data_sum s (e ∷ past) stripe r) ≡ owed_sum s (e ∷ past) stripe r
diff-at_parity s e past stripe r c opened cdb row bytes sent dropped back task set g at q here m (Within j h k) old =
    let p : ℕ = parity_of s.geometry stripe in
    let sound : IsTask s task = act_sound s past e.stamp p c opened cdb row (length bytes) 0 task Diffs g.1 m.act in
    let by : (task.kind ≡ Update) × (p ≡ task.target) = differs-update s task p m.act.of_task in
    absurd ((writes-size s task sound (inl by.0)).0
    (sym by.1 ∙ ap (parity_of s.geometry) (within-stripe s task stripe r j sound at h k) ∙ sym sound.parity))
diff-at_parity s e past stripe r c opened cdb row bytes sent dropped back task set g at q here m (Beside beside) old =
    same-sum s e past stripe r
    (parity-here s e past p r (Diff c opened cdb row bytes sent dropped back) here q
    ∙ put-beside s (media s p past) bytes task row r sound m.act.at_row m.act.whole (media-size s p past g.1) beside)
    (diff-data_kept s e past stripe r c opened cdb row bytes sent dropped back task set g at q
    (act_task s past e.stamp p c opened cdb row (length bytes) 0 task Diffs g.1 m.act) beside)
    (outstanding-diff_beside s stripe r c opened cdb row bytes sent dropped back e past q (hit-beside s task row (length bytes) r set m.act.at_row m.act.whole beside)) old
  where
    p : ℕ
    p = parity_of s.geometry stripe

    sound : IsTask s task
    sound = act_sound s past e.stamp p c opened cdb row (length bytes) 0 task Diffs g.1 m.act

-- folds at parity: what is folded is no longer owed
folded-out : (b : ℕ) (parity data_blocks_sum block owed left : List ℕ) → length block ≡ b → b ≤ length left → xor parity data_blocks_sum ≡ owed → owed ≡ xor block left →
    xor (xor parity block) data_blocks_sum ≡ left
folded-out b parity data_blocks_sum block owed left size long e f =
    xor-swap parity block data_blocks_sum ∙ ap (λ (x : List ℕ). xor x block) (e ∙ f) ∙ xor-comm (xor block left) block
    ∙ sym (xor-assoc block block left) ∙ ap (λ (x : List ℕ). xor x left) (xor-self block ∙ ap zeros size) ∙ xor-zeros_front b left long

fold-at_parity : (s : Setting) (e : Entry) (past : List Entry) (stripe r c : ℕ) (opened : At) (cdb : Cdb) (row : ℕ) (bytes : List ℕ) (names : List At) (name : At) (task : Task) →
    IsSetting s → Grows s (e ∷ past) → IsRowOf s.geometry stripe r → e.event ≡ Fold c opened cdb row bytes names → e.lock ≡ parity_of s.geometry stripe + 1 →
    MayFold s past e.stamp (parity_of s.geometry stripe) c opened cdb row bytes names task name → Falls task r →
    xor (stands s past (parity_of s.geometry stripe) r) (data_sum s past stripe r) ≡ owed_sum s past stripe r →
    xor (stands s (e ∷ past) (parity_of s.geometry stripe) r) (data_sum s (e ∷ past) stripe r) ≡ owed_sum s (e ∷ past) stripe r
fold-at_parity s e past stripe r c opened cdb row bytes names name task set g at q here m falls old = by falls
  where
    p : ℕ
    p = parity_of s.geometry stripe

    sound : IsTask s task
    sound = act_sound s past e.stamp p c opened cdb row (length bytes) 0 task Folds g.1 m.act

    new : List ℕ
    new = xor (slice (media s p past) (row * s.geometry.block) (length bytes)) bytes

    size : length new ≡ task_bytes s task
    size = folded-size s (media s p past) bytes task row sound m.act.at_row m.act.whole (media-size s p past g.1) ∙ m.act.whole

    quiet : data_sum s (e ∷ past) stripe r ≡ data_sum s past stripe r
    quiet = still-data s e past stripe r set g at (λ d. ap (λ (x : Event). is_act Diffs d x || is_act Puts d x) q)

    by : Falls task r → xor (stands s (e ∷ past) p r) (data_sum s (e ∷ past) stripe r) ≡ owed_sum s (e ∷ past) stripe r
    by (Beside beside) =
        same-sum s e past stripe r
        (parity-here s e past p r (Fold c opened cdb row bytes names) here q
        ∙ put-beside s (media s p past) new task row r sound m.act.at_row size (media-size s p past g.1) beside)
        quiet
        (outstanding-fold_beside s stripe r c opened cdb row bytes names e past set g at q
        (λ lock. hit-beside s task row (length bytes) r set m.act.at_row m.act.whole beside)) old
    by (Within j h k) =
        ap (λ (x : List ℕ). xor x (data_sum s (e ∷ past) stripe r)) parity ∙ ap (xor (xor (stands s past p r) block)) quiet
        ∙ folded-out s.geometry.block (stands s past p r) (data_sum s past stripe r) block (owed_sum s past stripe r) (owed_sum s (e ∷ past) stripe r)
        (length-block_at s.geometry.block bytes j task.count (omega (arith, m.act.whole)) h) (length-xor_all s.geometry.block (delta_blocks (outstanding s (e ∷ past) stripe r))) old
        (outstanding-fold s stripe r c opened cdb row bytes names e past set g at here q
        (hit-within s task row (length bytes) r j set m.act.at_row m.act.whole h k)
        ∙ ap (λ (n : ℕ). xor (block_at s.geometry.block bytes n) (owed_sum s (e ∷ past) stripe r)) (offset row task.row r j m.act.at_row k))
      where
        block : List ℕ
        block = block_at s.geometry.block bytes j

        offset : (a from at_row k : ℕ) → a ≡ from → at_row ≡ from + k → at_row - a ≡ k
        offset a from at_row k x y = omega arith

        parity : stands s (e ∷ past) p r ≡ xor (stands s past p r) (block_at s.geometry.block bytes j)
        parity =
            parity-here s e past p r (Fold c opened cdb row bytes names) here q
            ∙ ap (block_at s.geometry.block (medium_after s (Fold c opened cdb row bytes names) (media s p past))) k
            ∙ put-within s (media s p past) new task row j sound m.act.at_row size (media-size s p past g.1) h
            ∙ block_at-xor s.geometry.block (slice (media s p past) (row * s.geometry.block) (length bytes)) bytes j
            ∙ ap (λ (x : List ℕ). xor x (block_at s.geometry.block bytes j))
            (rows-block s p past row (length bytes) j task m.act.at_row m.act.whole h ∙ sym (ap (stands s past p) k))

-- an entry at parity's target
pub sum-here : (s : Setting) (e : Entry) (past : List Entry) (stripe r : ℕ) (event : Event) → IsSetting s → Grows s (e ∷ past) → Kept s past → IsRowOf s.geometry stripe r →
    e.event ≡ event → e.lock ≡ parity_of s.geometry stripe + 1 → MayTarget s past e.stamp (parity_of s.geometry stripe) event →
    There (parity_of s.geometry stripe) stripe past →
    xor (stands s (e ∷ past) (parity_of s.geometry stripe) r) (data_sum s (e ∷ past) stripe r) ≡ owed_sum s (e ∷ past) stripe r
sum-here s e past stripe r (Put command opened cdb row bytes names) set g kept at q here m there =
    put-at_parity s e past stripe r command opened cdb row bytes names m.0 set g kept at q here m m.1 (row_falls m.0 r) (kept.summed stripe r at there)
sum-here s e past stripe r (Diff command opened cdb row bytes sent dropped back) set g kept at q here m there =
    diff-at_parity s e past stripe r command opened cdb row bytes sent dropped back m.0 set g at q here m.1 (row_falls m.0 r) (kept.summed stripe r at there)
sum-here s e past stripe r (Fold command opened cdb row bytes names) set g kept at q here m there =
    fold-at_parity s e past stripe r command opened cdb row bytes names m.1.0 m.0 set g at q here m.1.1 (row_falls m.0 r) (kept.summed stripe r at there)
sum-here s e past stripe r (Fresh call swap) set g kept at q here m there =
    absurd (both_ways (is_gone (parity_of s.geometry stripe) past) (there-works s (parity_of s.geometry stripe) stripe past g.1 there)
    (fresh-gone s past e.stamp (parity_of s.geometry stripe) call swap g.1 m))
sum-here s e past stripe r event set g kept at q here m there =
    still-sum s e past stripe r event set g at q (record { medium = λ old. refl; silent = λ c. refl; deltas = refl; row = refl }) (kept.summed stripe r at there)

-- the put of a rebuild of parity
pub sum-makes : (s : Setting) (e : Entry) (past : List Entry) (stripe r c : ℕ) (task : Task) (event : Event) → IsSetting s → Grows s (e ∷ past) → Kept s past →
    IsRowOf s.geometry stripe r → e.event ≡ event → e.lock ≡ parity_of s.geometry stripe + 1 → MayTarget s past e.stamp (parity_of s.geometry stripe) event →
    is_act Puts c event ≡ true → task_of c past ≡ Some task → IsRebuild (parity_of s.geometry stripe) stripe task →
    xor (stands s (e ∷ past) (parity_of s.geometry stripe) r) (data_sum s (e ∷ past) stripe r) ≡ owed_sum s (e ∷ past) stripe r
sum-makes s e past stripe r c task (Put command opened cdb row bytes names) set g kept at q here m p its rebuild =
    put-over s e past stripe command opened cdb row bytes names r j.0 m.0 set g kept q here m m.1 at j.1.0 j.1.1
  where
    same_task : m.0 ≡ task
    same_task = one_task m.0 task
        (sym (act_task s past e.stamp (parity_of s.geometry stripe) command opened cdb row (length bytes) (length names) m.0 Puts g.1 m.1.act)
        ∙ ap (λ (n : ℕ). task_of n past) (eqb-true command c p) ∙ its)

    sound : IsTask s m.0
    sound = act_sound s past e.stamp (parity_of s.geometry stripe) command opened cdb row (length bytes) (length names) m.0 Puts g.1 m.1.act

    its_rebuild : IsRebuild (parity_of s.geometry stripe) stripe m.0
    its_rebuild = subst (IsRebuild (parity_of s.geometry stripe) stripe) (sym same_task) rebuild

    kind : IsTaskOfKind s m.0 Rebuild
    kind = subst (IsTaskOfKind s m.0) its_rebuild.of_kind sound.by_kind

    j : (j : ℕ) × ((j < m.0.count) × (r ≡ m.0.row + j))
    j = rebuild-rows s m.0 stripe r sound at (kind.0, kind.1) its_rebuild.of_stripe
sum-makes s e past stripe r c task event set g kept at q here m p its rebuild = absurd (false≢true p)
