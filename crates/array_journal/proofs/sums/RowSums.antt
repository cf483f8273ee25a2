-- What the exclusive-or of a row's data and parity becomes: nothing new, or parity written anew as the data.
use Rattle.std.specs.Prelude.{◌≡◌, ◌≢◌, ◌==◌, ◌||◌, ◌<◌, map, ℕ, ◌+◌, ◌-◌, Bool, true, false, List, [], ◌∷◌, Some, length}
use Rattle.std.proofs.Common.{refl, ap, sym, ◌∙◌, arith, inl, inr}
use Rattle.std.proofs.lemmas.Bool.{eq-eqb, eqb-true, or_left, or_right}
use Rattle.blocks_core.specs.Xor.{xor, zeros, xor_all}
use Rattle.blocks_core.proofs.XorLaws.{xor-self}
use Rattle.stripe_layout.specs.Layout.{parity_of, lba_at, IsRowOf}
use Rattle.sbc_cdbs.specs.declared.descriptor.Cdb.{Cdb}
use Rattle.array_journal.specs.declared.at.At.{At}
use Rattle.array_journal.specs.declared.entry.Entry.{Entry}
use Rattle.array_journal.specs.declared.event.Event.{Event}
use Rattle.array_journal.specs.declared.event.Event.TheVariants.{Put, Diff}
use Rattle.array_journal.specs.declared.setting.Setting.{Setting}
use Rattle.array_journal.specs.declared.task.Task.{Task}
use Rattle.blocks_core.specs.Lists.{block_at}
use Rattle.array_journal.specs.Lists.{numbers}
use Rattle.array_journal.specs.Commands.{task_of, is_shared}
use Rattle.array_journal.specs.declared.act.Act.TheVariants.{Puts, Diffs}
use Rattle.array_journal.specs.Acts.{is_act, task_bytes}
use Rattle.array_journal.specs.Media.{media, medium_after}
use Rattle.array_journal.specs.Host.{is_put_write}
use Rattle.array_journal.specs.Deltas.{Delta, covers, puts_row, outstanding}
use Rattle.array_journal.specs.May.{MayPut, MayTarget, IsTask}
use Rattle.array_journal.specs.Run.{IsSetting, Grows, sectors, delta_blocks}
use Rattle.array_journal.proofs.runs.CommandLaws.{one_task}
use Rattle.array_journal.proofs.runs.Steps.{media-here}
use Rattle.array_journal.proofs.sums.LayoutLaws.{IsBeside}
use Rattle.array_journal.proofs.sums.CoveredRows.{covers-in, covers-beside}
use Rattle.array_journal.proofs.sums.TargetSums.{sum-blocks}
use Rattle.array_journal.proofs.reads.KnownBlocks.{known_in, known, stands, act_sound, PutsBy, puts_data, puts_degraded, puts_unit, puts_parity, puts-by, writes-size, media-size, Tells, by_diff, by_put, by_parity, IsWrite, SectorStep, tells_none, tells_write, sector-step, sectors_with, put-write, put-silent, known-beside, put-within}
use Rattle.array_journal.proofs.windows.WindowViews.{is_data, is-data, data_sum, data-by_targets, length-data_sum}
use Rattle.array_journal.proofs.windows.WindowReads.{Kept, owed_sum}
use Rattle.array_journal.proofs.windows.PutBlocks.{data_sum_in, put-parity, put-degraded}
use Rattle.array_journal.proofs.reads.DataLaw.{put-alone, within-stripe}
use Rattle.array_journal.proofs.owed.OwedSteps.{outstanding-put}

-- what an entry that writes nothing for hosts here leaves of the data of a row
pub sum-kept : (s : Setting) (e : Entry) (past : List Entry) (stripe r : ℕ) → IsSetting s → Grows s (e ∷ past) → IsRowOf s.geometry stripe r →
    ((c : ℕ) (task : Task) → IsWrite s past c task e.lock e.event → stripe ≡ task.stripe → (j : ℕ) → j < task.count → r ≡ task.row + j → ⊥) →
    data_sum s (e ∷ past) stripe r ≡ data_sum s past stripe r
sum-kept s e past stripe r set g at none =
    data-by_targets s (sectors s.geometry (e ∷ past)) stripe r set
    ∙ sum-blocks s.geometry.block (is_data s stripe) (λ i. known s (e ∷ past) stripe i r) (λ i. known s past stripe i r) s.geometry.targets 0
    (λ x low high t. by x (omega arith) (is-data s stripe x t) (sector-step s past e.stamp e.lock e.event g.1 g.0.1.1))
    ∙ sym (data-by_targets s (sectors s.geometry past) stripe r set)
  where
    by : (x : ℕ) → x < s.geometry.targets → x ≢ parity_of s.geometry stripe → SectorStep s past e.lock e.event → known s (e ∷ past) stripe x r ≡ known s past stripe x r
    by x below other (tells_none same) = ap (λ (l : List ℕ). known_in s l stripe x r) same
    by x below other (tells_write c task w) =
        known-beside s past c task e.lock e.event stripe x r set g.1 w at below other (λ same own j h k. none c task w same j h k)

-- a write is told by a diff or a put of its command
pub tells-moves : (task : Task) (lock c : ℕ) (event : Event) → Tells task lock c event → (is_act Diffs c event || is_act Puts c event) ≡ true
tells-moves task lock c event (by_diff k l h) = or_left (is_act Diffs c event) (is_act Puts c event) h
tells-moves task lock c event (by_put k l h) = or_right (is_act Diffs c event) (is_act Puts c event) h
tells-moves task lock c event (by_parity k l h) = or_right (is_act Diffs c event) (is_act Puts c event) h

-- so it is of the task of the command that acts
pub write-task : (s : Setting) (past : List Entry) (lock c command : ℕ) (task its : Task) (event : Event) → IsWrite s past c task lock event →
    ((d : ℕ) → (is_act Diffs d event || is_act Puts d event) ≡ true → command ≡ d) → task_of command past ≡ Some its → task ≡ its
write-task s past lock c command task its event w only q =
    one_task task its (sym w.its_task ∙ ap (λ (n : ℕ). task_of n past) (sym (only c (tells-moves task lock c event w.how))) ∙ q)

pub put-only : (c command : ℕ) (opened : At) (cdb : Cdb) (row : ℕ) (bytes : List ℕ) (names : List At) (event : Event) → event ≡ Put command opened cdb row bytes names →
    (is_act Diffs c event || is_act Puts c event) ≡ true → command ≡ c
put-only c command opened cdb row bytes names event q h = eqb-true command c (sym (ap (λ (x : Event). is_act Diffs c x || is_act Puts c x) q) ∙ h)

pub diff-only : (c command : ℕ) (opened : At) (cdb : Cdb) (row : ℕ) (bytes : List ℕ) (sent dropped back : Bool) (event : Event) → event ≡ Diff command opened cdb row bytes sent dropped back →
    (is_act Diffs c event || is_act Puts c event) ≡ true → command ≡ c
diff-only c command opened cdb row bytes sent dropped back event q h =
    eqb-true command c (sym (or_false (command == c)) ∙ sym (ap (λ (x : Event). is_act Diffs c x || is_act Puts c x) q) ∙ h)
  where
    or_false : (b : Bool) → (b || false) ≡ b
    or_false true = refl
    or_false false = refl

-- a row within a task's bytes, and one beside them
pub hit-within : (s : Setting) (task : Task) (row len r j : ℕ) → IsSetting s → row ≡ task.row → len ≡ task_bytes s task → j < task.count → r ≡ task.row + j →
    covers s.geometry.block row len r ≡ true
hit-within s task row len r j set at whole h e =
    ap (λ (n : ℕ). covers s.geometry.block n len r) at ∙ ap (covers s.geometry.block task.row len) e
    ∙ covers-in s.geometry.block task.row len task.count j set.array.least_block whole h

pub hit-beside : (s : Setting) (task : Task) (row len r : ℕ) → IsSetting s → row ≡ task.row → len ≡ task_bytes s task → IsBeside task.row task.count r →
    covers s.geometry.block row len r ≡ false
hit-beside s task row len r set at whole beside =
    ap (λ (n : ℕ). covers s.geometry.block n len r) at ∙ covers-beside s.geometry.block task.row len task.count r set.array.least_block whole beside

-- nothing changes, so the sum stays
pub same-sum : (s : Setting) (e : Entry) (past : List Entry) (stripe r : ℕ) → stands s (e ∷ past) (parity_of s.geometry stripe) r ≡ stands s past (parity_of s.geometry stripe) r →
    data_sum s (e ∷ past) stripe r ≡ data_sum s past stripe r → outstanding s (e ∷ past) stripe r ≡ outstanding s past stripe r →
    xor (stands s past (parity_of s.geometry stripe) r) (data_sum s past stripe r) ≡ owed_sum s past stripe r →
    xor (stands s (e ∷ past) (parity_of s.geometry stripe) r) (data_sum s (e ∷ past) stripe r) ≡ owed_sum s (e ∷ past) stripe r
same-sum s e past stripe r p d o old =
    ap (λ (x : List ℕ). xor x (data_sum s (e ∷ past) stripe r)) p ∙ ap (xor (stands s past (parity_of s.geometry stripe) r)) d ∙ old
    ∙ sym (ap (λ (l : List Delta). xor_all s.geometry.block (delta_blocks l)) o)

-- parity is written anew as the data, and nothing is outstanding
renewed-sum : (s : Setting) (e : Entry) (past : List Entry) (stripe r : ℕ) → IsSetting s → Grows s (e ∷ past) → IsRowOf s.geometry stripe r →
    stands s (e ∷ past) (parity_of s.geometry stripe) r ≡ data_sum s (e ∷ past) stripe r → outstanding s (e ∷ past) stripe r ≡ [] →
    xor (stands s (e ∷ past) (parity_of s.geometry stripe) r) (data_sum s (e ∷ past) stripe r) ≡ owed_sum s (e ∷ past) stripe r
renewed-sum s e past stripe r set g at p o =
    ap (λ (x : List ℕ). xor x (data_sum s (e ∷ past) stripe r)) p ∙ xor-self (data_sum s (e ∷ past) stripe r)
    ∙ ap zeros (length-data_sum s (e ∷ past) stripe r set g at)
    ∙ sym (ap (λ (l : List Delta). xor_all s.geometry.block (delta_blocks l)) o)

-- the sum of a row of what is to be parity anew
put-anew : (s : Setting) (e : Entry) (past : List Entry) (stripe i c : ℕ) (opened : At) (cdb : Cdb) (row : ℕ) (bytes : List ℕ) (names : List At) (r j : ℕ) (task : Task) →
    IsSetting s → Grows s (e ∷ past) → Kept s past → e.event ≡ Put c opened cdb row bytes names → e.lock ≡ i + 1 → i ≡ parity_of s.geometry stripe →
    MayTarget s past e.stamp i (Put c opened cdb row bytes names) → MayPut s past e.stamp i c opened cdb row bytes names task → stripe ≡ task.stripe →
    j < task.count → r ≡ task.row + j → PutsBy task i → block_at s.geometry.block bytes j ≡ data_sum s (e ∷ past) stripe r
put-anew s e past stripe i c opened cdb row bytes names r j task set g kept q here parity may m same h k (puts_data kind x) =
    let sound : IsTask s task = act_sound s past e.stamp i c opened cdb row (length bytes) (length names) task Puts g.1 m.act in
    absurd ((writes-size s task sound (inr (inl kind))).0 (sym x ∙ parity ∙ ap (parity_of s.geometry) same ∙ sym sound.parity))
put-anew s e past stripe i c opened cdb row bytes names r j task set g kept q here parity may m same h k (puts_degraded kind x) =
    let w : IsWrite s past c task e.lock (Put c opened cdb row bytes names) =
    put-write s past e.stamp i e.lock c opened cdb row bytes names task g.1 may m.act (ap is_put_write kind) (inr (inr kind))
    (by_parity kind (here ∙ ap (λ (y : ℕ). y + 1) x) (eq-eqb c c refl)) in
    put-degraded s past e.stamp i c j e.lock opened cdb row bytes names task set g.1 kept
    (put-alone s past e.stamp i c opened cdb row bytes names task g.1 may m.act (ap is_shared kind)) m kind w h
    ∙ ap (λ (y : ℕ). data_sum_in s (sectors_with s past (Put c opened cdb row bytes names)) y (task.row + j)) (sym same)
    ∙ ap (data_sum_in s (sectors_with s past (Put c opened cdb row bytes names)) stripe) (sym k)
    ∙ ap (λ (y : Event). data_sum_in s (sectors_with s past y) stripe r) (sym q)
    ∙ sym (data-by_targets s (sectors s.geometry (e ∷ past)) stripe r set)
put-anew s e past stripe i c opened cdb row bytes names r j task set g kept q here parity may m same h k (puts_unit kind x) =
    put-parity s past e.stamp i c j opened cdb row bytes names task set g.1 kept
    (put-alone s past e.stamp i c opened cdb row bytes names task g.1 may m.act (ap is_shared kind)) m
    (inl (kind, sym x ∙ parity ∙ ap (parity_of s.geometry) same)) h
    ∙ ap (λ (y : ℕ). data_sum s past y (task.row + j)) (sym same) ∙ ap (data_sum s past stripe) (sym k)
    ∙ sym (ap (λ (l : List ℕ). xor_all s.geometry.block (map (λ unit. block_at s.geometry.block l (lba_at s.geometry stripe unit r)) (numbers 0 (s.geometry.targets - 1))))
    (ap (sectors_with s past) q ∙ put-silent s past e.stamp i c opened cdb row bytes names task g.1 m.act (ap is_put_write kind)))
put-anew s e past stripe i c opened cdb row bytes names r j task set g kept q here parity may m same h k (puts_parity kind x) =
    put-parity s past e.stamp i c j opened cdb row bytes names task set g.1 kept
    (put-alone s past e.stamp i c opened cdb row bytes names task g.1 may m.act (ap is_shared kind)) m (inr kind) h
    ∙ ap (λ (y : ℕ). data_sum s past y (task.row + j)) (sym same) ∙ ap (data_sum s past stripe) (sym k)
    ∙ sym (ap (λ (l : List ℕ). xor_all s.geometry.block (map (λ unit. block_at s.geometry.block l (lba_at s.geometry stripe unit r)) (numbers 0 (s.geometry.targets - 1))))
    (ap (sectors_with s past) q ∙ put-silent s past e.stamp i c opened cdb row bytes names task g.1 m.act (ap is_put_write kind)))

-- the medium of parity after the newest entry, at its own lock
pub parity-here : (s : Setting) (e : Entry) (past : List Entry) (p r : ℕ) (event : Event) → e.lock ≡ p + 1 → e.event ≡ event →
    stands s (e ∷ past) p r ≡ block_at s.geometry.block (medium_after s event (media s p past)) r
parity-here s e past p r event here q =
    ap (λ (l : List ℕ). block_at s.geometry.block l r) (media-here s p e past here ∙ ap (λ (x : Event). medium_after s x (media s p past)) q)

-- a put at parity over the row
pub put-over : (s : Setting) (e : Entry) (past : List Entry) (stripe c : ℕ) (opened : At) (cdb : Cdb) (row : ℕ) (bytes : List ℕ) (names : List At) (r j : ℕ) (task : Task) →
    IsSetting s → Grows s (e ∷ past) → Kept s past → e.event ≡ Put c opened cdb row bytes names → e.lock ≡ parity_of s.geometry stripe + 1 →
    MayTarget s past e.stamp (parity_of s.geometry stripe) (Put c opened cdb row bytes names) →
    MayPut s past e.stamp (parity_of s.geometry stripe) c opened cdb row bytes names task → IsRowOf s.geometry stripe r → j < task.count → r ≡ task.row + j →
    xor (stands s (e ∷ past) (parity_of s.geometry stripe) r) (data_sum s (e ∷ past) stripe r) ≡ owed_sum s (e ∷ past) stripe r
put-over s e past stripe c opened cdb row bytes names r j task set g kept q here may m at h k =
    renewed-sum s e past stripe r set g at
    (parity-here s e past p r (Put c opened cdb row bytes names) here q
    ∙ ap (block_at s.geometry.block (medium_after s (Put c opened cdb row bytes names) (media s p past))) k
    ∙ put-within s (media s p past) bytes task row j sound m.act.at_row m.act.whole (media-size s p past g.1) h
    ∙ put-anew s e past stripe p c opened cdb row bytes names r j task set g kept q here refl may m (within-stripe s task stripe r j sound at h k) h k
    (puts-by s task p m.act.of_task))
    (outstanding-put s stripe r e past here (ap (puts_row s r) q ∙ hit-within s task row (length bytes) r j set m.act.at_row m.act.whole h k))
  where
    p : ℕ
    p = parity_of s.geometry stripe

    sound : IsTask s task
    sound = act_sound s past e.stamp p c opened cdb row (length bytes) (length names) task Puts g.1 m.act
