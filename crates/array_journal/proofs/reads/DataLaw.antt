-- A data unit that is there stands on its medium as the hosts know it: entry by entry.
use Rattle.std.specs.Prelude.{◌≡◌, ◌≢◌, ◌<◌, ◌⊎◌, ℕ, ◌+◌, ◌-◌, ◌*◌, Bool, true, false, List, ◌∷◌, Some, length}
use Rattle.std.proofs.Common.{refl, ap, sym, ◌∙◌, arith, subst, inl, inr}
use Rattle.std.proofs.lemmas.Bool.{eq-eqb, eqb-true, cases_eq, both_ways, false≢true}
use Rattle.blocks_core.specs.Xor.{xor}
use Rattle.stripe_layout.specs.Layout.{parity_of, IsRowOf, first_row, unit_rows}
use Rattle.sbc_cdbs.specs.declared.descriptor.Cdb.{Cdb}
use Rattle.array_journal.specs.declared.at.At.{At}
use Rattle.array_journal.specs.declared.entry.Entry.{Entry}
use Rattle.array_journal.specs.declared.event.Event.{Event}
use Rattle.array_journal.specs.declared.event.Event.TheVariants.{Fetch, Put, Diff, Fold, Fresh, Close}
use Rattle.array_journal.specs.declared.setting.Setting.{Setting}
use Rattle.array_journal.specs.declared.task.Kind.TheVariants.{Rebuild}
use Rattle.array_journal.specs.declared.task.Task.{Task}
use Rattle.blocks_core.specs.Lists.{slice, block_at}
use Rattle.array_journal.specs.Commands.{task_of, is_shared}
use Rattle.array_journal.specs.declared.act.Act.TheVariants.{Puts, Folds}
use Rattle.array_journal.specs.Acts.{is_act}
use Rattle.array_journal.specs.Media.{media, medium_after}
use Rattle.array_journal.specs.Host.{is_put_write}
use Rattle.array_journal.specs.Lives.{is_gone}
use Rattle.array_journal.specs.May.{MayAct, MayPut, MayDiff, MayFold, MayTarget, IsTask, IsTaskOfKind}
use Rattle.array_journal.specs.Run.{IsSetting, Grows}
use Rattle.array_journal.specs.Laws.{RunsAlone}
use Rattle.array_journal.proofs.owed.DeltaLaws.{differs-update, folds-update}
use Rattle.array_journal.proofs.runs.CommandLaws.{one_task}
use Rattle.array_journal.proofs.runs.Steps.{media-here, media-else}
use Rattle.array_journal.proofs.runs.Standing.{may-here}
use Rattle.array_journal.proofs.lives.LifeLaws.{fresh-gone}
use Rattle.array_journal.proofs.owed.EndedCommands.{act-open}
use Rattle.array_journal.proofs.lives.DoneRebuilds.{IsRebuild}
use Rattle.array_journal.proofs.sums.LayoutLaws.{IsBeside, covered-stripe, Falls, Within, Beside, row_falls}
use Rattle.array_journal.proofs.reads.KnownBlocks.{known_in, known, stands, act_task, act_sound, PutsBy, puts_data, puts_degraded, puts_unit, puts_parity, puts-by, folded-size, media-size, Tells, by_diff, by_put, by_parity, IsWrite, SectorStep, tells_none, tells_write, sector-step, sectors_with, fetch-silent, put-write, put-silent, diff-write, known-written, known-beside, put-within, put-beside}
use Rattle.array_journal.proofs.lives.ThereLaws.{There, Makes, there-step, there-works}
use Rattle.array_journal.proofs.lives.OpenedUnits.{degraded-not_there}
use Rattle.array_journal.proofs.windows.WindowReads.{Kept}
use Rattle.array_journal.proofs.windows.PutBlocks.{put-unit, put-data}

-- the command of a put of a kind that runs alone
pub put-alone : (s : Setting) (past : List Entry) (stamp i c : ℕ) (opened : At) (cdb : Cdb) (row : ℕ) (bytes : List ℕ) (names : List At) (task : Task) → Grows s past →
    MayTarget s past stamp i (Put c opened cdb row bytes names) → MayAct s past stamp i c opened cdb row (length bytes) (length names) task Puts →
    is_shared task.kind ≡ false → RunsAlone c task past
put-alone s past stamp i c opened cdb row bytes names task g m a alone = record {
  opened = act-open s past stamp i c Puts (Put c opened cdb row bytes names) g m (eq-eqb c c refl);
  its_task = act_task s past stamp i c opened cdb row (length bytes) (length names) task Puts g a;
  alone = alone;
}

-- a place named otherwise
pub known-at : (s : Setting) (l : List ℕ) (stripe i r stripe_too i_too r_too : ℕ) → stripe ≡ stripe_too → i ≡ i_too → r ≡ r_too →
    known_in s l stripe i r ≡ known_in s l stripe_too i_too r_too
known-at s l stripe i r stripe_too i_too r_too p q e =
    ap (λ (x : ℕ). known_in s l x i r) p ∙ ap (λ (x : ℕ). known_in s l stripe_too x r) q ∙ ap (known_in s l stripe_too i_too) e

-- a row of a task is of its stripe
pub within-stripe : (s : Setting) (task : Task) (stripe r j : ℕ) → IsTask s task → IsRowOf s.geometry stripe r → j < task.count → r ≡ task.row + j → stripe ≡ task.stripe
within-stripe s task stripe r j sound at h e = covered-stripe s task stripe r sound at (omega arith) (omega arith)

-- no row is one of a task's and beside them
pub not-beside : (task : Task) (r j : ℕ) → IsBeside task.row task.count r → j < task.count → r ≡ task.row + j → ⊥
not-beside task r j (inl before) h e = omega arith
not-beside task r j (inr after) h e = omega arith

-- the rows of a rebuild of a unit are all of its stripe
pub rebuild-rows : (s : Setting) (task : Task) (stripe r : ℕ) → IsTask s task → IsRowOf s.geometry stripe r →
    (task.row ≡ first_row s.geometry task.stripe) × (task.count ≡ unit_rows s.geometry task.stripe) → task.stripe ≡ stripe → (j : ℕ) × ((j < task.count) × (r ≡ task.row + j))
rebuild-rows s task stripe r sound at rows same =
    let first : task.row ≡ first_row s.geometry stripe = rows.0 ∙ ap (first_row s.geometry) same in
    let all : task.count ≡ unit_rows s.geometry stripe = rows.1 ∙ ap (unit_rows s.geometry) same in
    (r - task.row, (omega (arith, first, all, at.first, at.last), omega (arith, first, at.first)))

-- a put on the rows of a data unit
put-within_unit : (s : Setting) (past : List Entry) (stamp lock i c : ℕ) (opened : At) (cdb : Cdb) (row : ℕ) (bytes : List ℕ) (names : List At) (stripe r j : ℕ) (task : Task) →
    IsSetting s → Grows s past → Kept s past → lock ≡ i + 1 → MayTarget s past stamp i (Put c opened cdb row bytes names) →
    MayPut s past stamp i c opened cdb row bytes names task → i ≢ parity_of s.geometry stripe → stripe ≡ task.stripe → j < task.count → r ≡ task.row + j → PutsBy task i →
    block_at s.geometry.block bytes j ≡ known_in s (sectors_with s past (Put c opened cdb row bytes names)) stripe i r
put-within_unit s past stamp lock i c opened cdb row bytes names stripe r j task set g kept here may m other same h e (puts_data k x) =
    let w : IsWrite s past c task lock (Put c opened cdb row bytes names) =
    put-write s past stamp i lock c opened cdb row bytes names task g may m.act (ap is_put_write k) (inr (inl k))
    (by_put k (here ∙ ap (λ (y : ℕ). y + 1) x) (eq-eqb c c refl)) in
    ap (λ (l : List ℕ). block_at s.geometry.block l j) (put-data s past stamp i c opened cdb row bytes names task m k w.size)
    ∙ sym (known-written s past c task lock (Put c opened cdb row bytes names) j set g w h)
    ∙ sym (known-at s (sectors_with s past (Put c opened cdb row bytes names)) stripe i r task.stripe task.target (task.row + j) same x e)
put-within_unit s past stamp lock i c opened cdb row bytes names stripe r j task set g kept here may m other same h e (puts_unit k x) =
    put-unit s past stamp i c j opened cdb row bytes names task set g kept
    (put-alone s past stamp i c opened cdb row bytes names task g may m.act (ap is_shared k)) m k
    (λ q. other (x ∙ q ∙ ap (parity_of s.geometry) (sym same))) h
    ∙ sym (ap (λ (l : List ℕ). known_in s l stripe i r) (put-silent s past stamp i c opened cdb row bytes names task g m.act (ap is_put_write k))
    ∙ known-at s _ stripe i r task.stripe task.target (task.row + j) same x e)
put-within_unit s past stamp lock i c opened cdb row bytes names stripe r j task set g kept here may m other same h e (puts_degraded k x) =
    absurd (other (x ∙ (act_sound s past stamp i c opened cdb row (length bytes) (length names) task Puts g m.act).parity ∙ ap (parity_of s.geometry) (sym same)))
put-within_unit s past stamp lock i c opened cdb row bytes names stripe r j task set g kept here may m other same h e (puts_parity k x) =
    absurd (other (x ∙ (act_sound s past stamp i c opened cdb row (length bytes) (length names) task Puts g m.act).parity ∙ ap (parity_of s.geometry) (sym same)))

-- a put beside a row leaves what the hosts know there
put-known_beside : (s : Setting) (past : List Entry) (stamp lock i c : ℕ) (opened : At) (cdb : Cdb) (row : ℕ) (bytes : List ℕ) (names : List At) (stripe d r : ℕ) (task : Task) →
    IsSetting s → Grows s past → lock ≡ i + 1 → MayTarget s past stamp i (Put c opened cdb row bytes names) →
    MayPut s past stamp i c opened cdb row bytes names task → IsRowOf s.geometry stripe r → d < s.geometry.targets → d ≢ parity_of s.geometry stripe →
    (stripe ≡ task.stripe → d ≡ task.target → (j : ℕ) → j < task.count → r ≡ task.row + j → ⊥) → PutsBy task i →
    known_in s (sectors_with s past (Put c opened cdb row bytes names)) stripe d r ≡ known s past stripe d r
put-known_beside s past stamp lock i c opened cdb row bytes names stripe d r task set g here may m at below other apart (puts_data k x) =
    known-beside s past c task lock (Put c opened cdb row bytes names) stripe d r set g
    (put-write s past stamp i lock c opened cdb row bytes names task g may m.act (ap is_put_write k) (inr (inl k))
    (by_put k (here ∙ ap (λ (y : ℕ). y + 1) x) (eq-eqb c c refl))) at below other apart
put-known_beside s past stamp lock i c opened cdb row bytes names stripe d r task set g here may m at below other apart (puts_degraded k x) =
    known-beside s past c task lock (Put c opened cdb row bytes names) stripe d r set g
    (put-write s past stamp i lock c opened cdb row bytes names task g may m.act (ap is_put_write k) (inr (inr k))
    (by_parity k (here ∙ ap (λ (y : ℕ). y + 1) x) (eq-eqb c c refl))) at below other apart
put-known_beside s past stamp lock i c opened cdb row bytes names stripe d r task set g here may m at below other apart (puts_unit k x) =
    ap (λ (l : List ℕ). known_in s l stripe d r) (put-silent s past stamp i c opened cdb row bytes names task g m.act (ap is_put_write k))
put-known_beside s past stamp lock i c opened cdb row bytes names stripe d r task set g here may m at below other apart (puts_parity k x) =
    ap (λ (l : List ℕ). known_in s l stripe d r) (put-silent s past stamp i c opened cdb row bytes names task g m.act (ap is_put_write k))

put-here : (s : Setting) (past : List Entry) (stamp lock i c : ℕ) (opened : At) (cdb : Cdb) (row : ℕ) (bytes : List ℕ) (names : List At) (stripe r : ℕ) (task : Task) →
    IsSetting s → Grows s past → Kept s past → lock ≡ i + 1 → MayTarget s past stamp i (Put c opened cdb row bytes names) →
    MayPut s past stamp i c opened cdb row bytes names task → IsRowOf s.geometry stripe r → i < s.geometry.targets → i ≢ parity_of s.geometry stripe →
    There i stripe past → Falls task r →
    block_at s.geometry.block (medium_after s (Put c opened cdb row bytes names) (media s i past)) r ≡ known_in s (sectors_with s past (Put c opened cdb row bytes names)) stripe i r
put-here s past stamp lock i c opened cdb row bytes names stripe r task set g kept here may m at below other there (Within j h e) =
    let sound : IsTask s task = act_sound s past stamp i c opened cdb row (length bytes) (length names) task Puts g m.act in
    ap (block_at s.geometry.block (medium_after s (Put c opened cdb row bytes names) (media s i past))) e
    ∙ put-within s (media s i past) bytes task row j sound m.act.at_row m.act.whole (media-size s i past g) h
    ∙ put-within_unit s past stamp lock i c opened cdb row bytes names stripe r j task set g kept here may m other (within-stripe s task stripe r j sound at h e) h e
    (puts-by s task i m.act.of_task)
put-here s past stamp lock i c opened cdb row bytes names stripe r task set g kept here may m at below other there (Beside beside) =
    put-beside s (media s i past) bytes task row r (act_sound s past stamp i c opened cdb row (length bytes) (length names) task Puts g m.act) m.act.at_row m.act.whole
    (media-size s i past g) beside
    ∙ kept.data_there stripe i r at below other there
    ∙ sym (put-known_beside s past stamp lock i c opened cdb row bytes names stripe i r task set g here may m at below other (λ same own j h e. not-beside task r j beside h e)
    (puts-by s task i m.act.of_task))

diff-here : (s : Setting) (past : List Entry) (stamp lock i c : ℕ) (opened : At) (cdb : Cdb) (row : ℕ) (bytes : List ℕ) (sent dropped back : Bool) (stripe r : ℕ) (task : Task) →
    IsSetting s → Grows s past → Kept s past → IsWrite s past c task lock (Diff c opened cdb row bytes sent dropped back) →
    MayDiff s past stamp i c opened cdb row bytes sent dropped back task → IsRowOf s.geometry stripe r → i < s.geometry.targets → i ≢ parity_of s.geometry stripe →
    There i stripe past → Falls task r →
    block_at s.geometry.block (medium_after s (Diff c opened cdb row bytes sent dropped back) (media s i past)) r
    ≡ known_in s (sectors_with s past (Diff c opened cdb row bytes sent dropped back)) stripe i r
diff-here s past stamp lock i c opened cdb row bytes sent dropped back stripe r task set g kept w m at below other there (Within j h e) =
    ap (block_at s.geometry.block (medium_after s (Diff c opened cdb row bytes sent dropped back) (media s i past))) e
    ∙ put-within s (media s i past) bytes task row j w.sound m.act.at_row m.act.whole (media-size s i past g) h
    ∙ ap (λ (l : List ℕ). block_at s.geometry.block l j) m.written
    ∙ sym (known-written s past c task lock (Diff c opened cdb row bytes sent dropped back) j set g w h)
    ∙ sym (known-at s (sectors_with s past (Diff c opened cdb row bytes sent dropped back)) stripe i r task.stripe task.target (task.row + j)
    (within-stripe s task stripe r j w.sound at h e) (differs-update s task i m.act.of_task).1 e)
diff-here s past stamp lock i c opened cdb row bytes sent dropped back stripe r task set g kept w m at below other there (Beside beside) =
    put-beside s (media s i past) bytes task row r w.sound m.act.at_row m.act.whole (media-size s i past g) beside
    ∙ kept.data_there stripe i r at below other there
    ∙ sym (known-beside s past c task lock (Diff c opened cdb row bytes sent dropped back) stripe i r set g w at below other (λ same own j h e. not-beside task r j beside h e))

fold-here : (s : Setting) (past : List Entry) (stamp i c : ℕ) (opened : At) (cdb : Cdb) (row : ℕ) (bytes : List ℕ) (names : List At) (name : At) (stripe r : ℕ) (task : Task) →
    Grows s past → Kept s past → MayFold s past stamp i c opened cdb row bytes names task name → IsRowOf s.geometry stripe r → i < s.geometry.targets →
    i ≢ parity_of s.geometry stripe → There i stripe past → Falls task r →
    block_at s.geometry.block (medium_after s (Fold c opened cdb row bytes names) (media s i past)) r ≡ known s past stripe i r
fold-here s past stamp i c opened cdb row bytes names name stripe r task g kept m at below other there (Within j h e) =
    let sound : IsTask s task = act_sound s past stamp i c opened cdb row (length bytes) 0 task Folds g m.act in
    absurd (other ((folds-update s task i m.act.of_task).1 ∙ sound.parity ∙ ap (parity_of s.geometry) (sym (within-stripe s task stripe r j sound at h e))))
fold-here s past stamp i c opened cdb row bytes names name stripe r task g kept m at below other there (Beside beside) =
    let sound : IsTask s task = act_sound s past stamp i c opened cdb row (length bytes) 0 task Folds g m.act in
    put-beside s (media s i past) (xor (slice (media s i past) (row * s.geometry.block) (length bytes)) bytes) task row r sound m.act.at_row
    (folded-size s (media s i past) bytes task row sound m.act.at_row m.act.whole (media-size s i past g) ∙ m.act.whole) (media-size s i past g) beside
    ∙ kept.data_there stripe i r at below other there

-- an entry of the unit's own target
data-here : (s : Setting) (past : List Entry) (stamp lock i stripe r : ℕ) (event : Event) → IsSetting s → Grows s past → Kept s past → lock ≡ i + 1 →
    MayTarget s past stamp i event → IsRowOf s.geometry stripe r → i < s.geometry.targets → i ≢ parity_of s.geometry stripe → There i stripe past →
    block_at s.geometry.block (medium_after s event (media s i past)) r ≡ known_in s (sectors_with s past event) stripe i r
data-here s past stamp lock i stripe r (Put command opened cdb row bytes names) set g kept here m at below other there =
    put-here s past stamp lock i command opened cdb row bytes names stripe r m.0 set g kept here m m.1 at below other there (row_falls m.0 r)
data-here s past stamp lock i stripe r (Diff command opened cdb row bytes sent dropped back) set g kept here m at below other there =
    diff-here s past stamp lock i command opened cdb row bytes sent dropped back stripe r m.0 set g kept
    (diff-write s past stamp i lock command opened cdb row bytes sent dropped back m.0 g m here m.1.act) m.1 at below other there (row_falls m.0 r)
data-here s past stamp lock i stripe r (Fold command opened cdb row bytes names) set g kept here m at below other there =
    fold-here s past stamp i command opened cdb row bytes names m.1.0 stripe r m.0 g kept m.1.1 at below other there (row_falls m.0 r)
data-here s past stamp lock i stripe r (Fresh call swap) set g kept here m at below other there =
    absurd (both_ways (is_gone i past) (there-works s i stripe past g there) (fresh-gone s past stamp i call swap g m))
data-here s past stamp lock i stripe r (Fetch command opened cdb row bytes) set g kept here m at below other there =
    kept.data_there stripe i r at below other there
    ∙ sym (ap (λ (l : List ℕ). known_in s l stripe i r) (fetch-silent s past command opened cdb row bytes (task_of command past)))
data-here s past stamp lock i stripe r (Close command done names cause bytes) set g kept here m at below other there = absurd m
data-here s past stamp lock i stripe r _ set g kept here m at below other there = kept.data_there stripe i r at below other there

-- the put of its rebuild
makes-here : (s : Setting) (past : List Entry) (stamp lock i c stripe r : ℕ) (task : Task) (event : Event) → IsSetting s → Grows s past → Kept s past → lock ≡ i + 1 →
    MayTarget s past stamp i event → is_act Puts c event ≡ true → task_of c past ≡ Some task → IsRebuild i stripe task → IsRowOf s.geometry stripe r →
    i ≢ parity_of s.geometry stripe → block_at s.geometry.block (medium_after s event (media s i past)) r ≡ known_in s (sectors_with s past event) stripe i r
makes-here s past stamp lock i c stripe r task (Put command opened cdb row bytes names) set g kept here m p q rebuild at other = by (m.0) (m.1) same_task
  where
    same_task : m.0 ≡ task
    same_task = one_task m.0 task
        (sym (act_task s past stamp i command opened cdb row (length bytes) (length names) m.0 Puts g m.1.act) ∙ ap (λ (n : ℕ). task_of n past) (eqb-true command c p) ∙ q)

    by : (its : Task) → MayPut s past stamp i command opened cdb row bytes names its → its ≡ task →
        block_at s.geometry.block (medium_after s (Put command opened cdb row bytes names) (media s i past)) r
        ≡ known_in s (sectors_with s past (Put command opened cdb row bytes names)) stripe i r
    by its may same =
        let sound : IsTask s its = act_sound s past stamp i command opened cdb row (length bytes) (length names) its Puts g may.act in
        let its_rebuild : IsRebuild i stripe its = subst (IsRebuild i stripe) (sym same) rebuild in
        let kind : IsTaskOfKind s its Rebuild = subst (IsTaskOfKind s its) its_rebuild.of_kind sound.by_kind in
        let j : (j : ℕ) × ((j < its.count) × (r ≡ its.row + j)) = rebuild-rows s its stripe r sound at (kind.0, kind.1) its_rebuild.of_stripe in
        ap (block_at s.geometry.block (medium_after s (Put command opened cdb row bytes names) (media s i past))) j.1.1
        ∙ put-within s (media s i past) bytes its row j.0 sound may.act.at_row may.act.whole (media-size s i past g) j.1.0
        ∙ put-within_unit s past stamp lock i command opened cdb row bytes names stripe r j.0 its set g kept here m may other (sym its_rebuild.of_stripe) j.1.0 j.1.1
        (puts_unit its_rebuild.of_kind (sym its_rebuild.at_target))
makes-here s past stamp lock i c stripe r task _ set g kept here m p q rebuild at other = absurd (false≢true p)

pub data-step : (s : Setting) (e : Entry) (past : List Entry) → IsSetting s → Grows s (e ∷ past) → Kept s past → (stripe i r : ℕ) → IsRowOf s.geometry stripe r →
    i < s.geometry.targets → i ≢ parity_of s.geometry stripe → There i stripe (e ∷ past) → stands s (e ∷ past) i r ≡ known s (e ∷ past) stripe i r
data-step s e past set g kept stripe i r at below other there = by (there-step s i stripe e past g there)
  where
    elsewhere : (e.lock ≡ i + 1 → ⊥) → There i stripe past → SectorStep s past e.lock e.event → known s (e ∷ past) stripe i r ≡ known s past stripe i r
    elsewhere away old (tells_none same) = ap (λ (l : List ℕ). known_in s l stripe i r) same
    elsewhere away old (tells_write c task w) = known-beside s past c task e.lock e.event stripe i r set g.1 w at below other (λ same own j h k. apart same own w.how)
      where
        apart : stripe ≡ task.stripe → i ≡ task.target → Tells task e.lock c e.event → ⊥
        apart same own (by_diff k l x) = away (l ∙ ap (λ (y : ℕ). y + 1) (sym own))
        apart same own (by_put k l x) = away (l ∙ ap (λ (y : ℕ). y + 1) (sym own))
        apart same own (by_parity k l x) =
            degraded-not_there s c task past g.1 w.opened w.its_task k
            (subst (λ (y : ℕ). There y task.stripe past) own (subst (λ (y : ℕ). There i y past) same old))

    by : There i stripe past ⊎ Makes i stripe e past → stands s (e ∷ past) i r ≡ known s (e ∷ past) stripe i r
    by (inr m) =
        ap (λ (l : List ℕ). block_at s.geometry.block l r) (media-here s i e past m.at_target)
        ∙ makes-here s past e.stamp e.lock i m.command stripe r m.task e.event set g.1 kept m.at_target (may-here s past e.stamp e.lock i e.event m.at_target g.0.1.1)
        m.puts m.its_task m.rebuild at other
    by (inl old) = elim (cases_eq e.lock (i + 1)) [
      | inl here ↦ ap (λ (l : List ℕ). block_at s.geometry.block l r) (media-here s i e past here)
          ∙ data-here s past e.stamp e.lock i stripe r e.event set g.1 kept here (may-here s past e.stamp e.lock i e.event here g.0.1.1) at below other old
      | inr away ↦ ap (λ (l : List ℕ). block_at s.geometry.block l r) (media-else s i e past away)
          ∙ kept.data_there stripe i r at below other old ∙ sym (elsewhere away old (sector-step s past e.stamp e.lock e.event g.1 g.0.1.1))
    ]
