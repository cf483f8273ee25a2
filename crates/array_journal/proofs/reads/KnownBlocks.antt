-- Blocks as hosts know them, by target and row, beside the blocks that stand; and what one more entry leaves of both.
use Rattle.std.specs.Prelude.{◌≡◌, ◌≢◌, ◌<◌, ◌≤◌, ◌⊎◌, nat_lt, ℕ, zero, suc, ◌+◌, ◌-◌, ◌*◌, Bool, true, false, List, [], ◌∷◌, ◌++◌, Option, Some, None, length}
use Rattle.std.proofs.Common.{refl, ap, sym, ◌∙◌, cond, arith, subst, inl, inr}
use Rattle.std.proofs.lemmas.Bool.{cases_eq, eq-eqb, eqb-true, false≢true}
use Rattle.std.proofs.lemmas.List.{length-replicate}
use Rattle.blocks_core.specs.Xor.{xor}
use Rattle.blocks_core.proofs.XorLaws.{length-xor}
use Rattle.stripe_layout.specs.declared.mode.Mode.{Mode}
use Rattle.stripe_layout.specs.Layout.{parity_of, capacity_of, rows_of, lba_at, IsRowOf}
use Rattle.sbc_cdbs.specs.declared.descriptor.Cdb.{Cdb}
use Rattle.array_journal.specs.declared.at.At.{At}
use Rattle.array_journal.specs.declared.entry.Entry.{Entry}
use Rattle.array_journal.specs.declared.event.Event.{Event}
use Rattle.array_journal.specs.declared.event.Event.TheVariants.{Fetch, Put, Diff, Fold, Fresh, Close}
use Rattle.array_journal.specs.declared.setting.Setting.{Setting}
use Rattle.array_journal.specs.declared.task.Kind.{Kind}
use Rattle.array_journal.specs.declared.task.Kind.TheVariants.{Read, Update, DataOnly, DegradedRead, DegradedWrite, Rebuild, Resync}
use Rattle.array_journal.specs.declared.task.Task.{Task}
use Rattle.blocks_core.specs.Lists.{slice, put, block_at}
use Rattle.blocks_core.proofs.BlockLists.{length-slice, length-put, length-block_at, block_at-put_in, block_at-put_out}
use Rattle.array_journal.specs.Commands.{is_open, task_of}
use Rattle.array_journal.specs.declared.act.Act.{Act}
use Rattle.array_journal.specs.declared.act.Act.TheVariants.{Puts, Diffs, Folds}
use Rattle.array_journal.specs.Acts.{acts_at, has_act, is_act, task_bytes}
use Rattle.array_journal.specs.Media.{media, medium_after}
use Rattle.array_journal.specs.Host.{unit_at, task_lba, is_read, is_degraded_read, is_put_write, read_item, wrote_item, told_by, teller, teller_task, host, plain}
use Rattle.array_journal.specs.May.{MayAct, MayAt, MayTarget, IsTask, IsTaskOfKind}
use Rattle.array_journal.specs.Run.{IsSetting, Grows, sectors}
pub use Rattle.array_journal.specs.Known.{known_in, known}
use Rattle.array_journal.proofs.owed.DeltaLaws.{differs-update}
use Rattle.array_journal.proofs.runs.Steps.{media-here, media-else}
use Rattle.array_journal.proofs.runs.Standing.{may-here}
use Rattle.array_journal.proofs.runs.CommandLaws.{named-task}
use Rattle.array_journal.proofs.owed.EndedCommands.{act-open}
use Rattle.array_journal.proofs.lives.DoneRebuilds.{task-sound}
use Rattle.array_journal.proofs.held.TaskPlaces.{rows-fit_bytes}
use Rattle.array_journal.proofs.sums.LayoutLaws.{IsBeside, IsPlaced, IsPlaced-task, task_unit, lba_at-in, lba_at-other_unit, lba_at-other_row, lba_at-below, lba-fit_bytes, target_of-unit_at, unit_at-below, parity_of-below, row-below, Falls, Within, Beside, row_falls}
use Rattle.array_journal.proofs.calm.ActSteps.{acts-there}

-- the block that stands on a row of a target
abbrev pub stands : Setting → List Entry → ℕ → ℕ → List ℕ
stands s past i r = block_at s.geometry.block (media s i past) r

pub act_task : (s : Setting) (past : List Entry) (stamp i c : ℕ) (opened : At) (cdb : Cdb) (row len sources : ℕ) (task : Task) (act : Act) → Grows s past →
    MayAct s past stamp i c opened cdb row len sources task act → task_of c past ≡ Some task
act_task s past stamp i c opened cdb row len sources task act g a = named-task s opened c task past g a.in_book a.opening.0

pub act_sound : (s : Setting) (past : List Entry) (stamp i c : ℕ) (opened : At) (cdb : Cdb) (row len sources : ℕ) (task : Task) (act : Act) → Grows s past →
    MayAct s past stamp i c opened cdb row len sources task act → IsTask s task
act_sound s past stamp i c opened cdb row len sources task act g a =
    task-sound s c task past g (act_task s past stamp i c opened cdb row len sources task act g a)

-- which commands put, and where
pub data PutsBy (task : Task) (i : ℕ) : Type 0 where
  puts_data : task.kind ≡ DataOnly → i ≡ task.target → PutsBy task i
  puts_degraded : task.kind ≡ DegradedWrite → i ≡ task.parity → PutsBy task i
  puts_unit : task.kind ≡ Rebuild → i ≡ task.target → PutsBy task i
  puts_parity : task.kind ≡ Resync → i ≡ task.parity → PutsBy task i

puts-kind : (mode : Mode) (kind : Kind) (task : Task) (i : ℕ) → task.kind ≡ kind → acts_at mode Puts kind task i ≡ true → PutsBy task i
puts-kind mode DataOnly task i k h = puts_data k (eqb-true i task.target h)
puts-kind mode DegradedWrite task i k h = puts_degraded k (eqb-true i task.parity h)
puts-kind mode Rebuild task i k h = puts_unit k (eqb-true i task.target h)
puts-kind mode Resync task i k h = puts_parity k (eqb-true i task.parity h)
puts-kind mode Read task i k h = absurd (false≢true h)
puts-kind mode Update task i k h = absurd (false≢true h)
puts-kind mode DegradedRead task i k h = absurd (false≢true h)

pub puts-by : (s : Setting) (task : Task) (i : ℕ) → has_act s Puts task i ≡ true → PutsBy task i
puts-by s task i h = puts-kind s.mode task.kind task i refl (acts-there s Puts task i h)

-- tasks of writing for a host
pub writes-size : (s : Setting) (task : Task) → IsTask s task → (task.kind ≡ Update) ⊎ ((task.kind ≡ DataOnly) ⊎ (task.kind ≡ DegradedWrite)) →
    (task.target ≢ task.parity) × (length task.bytes ≡ task_bytes s task)
writes-size s task sound (inl k) = subst (IsTaskOfKind s task) k sound.by_kind
writes-size s task sound (inr (inl k)) = subst (IsTaskOfKind s task) k sound.by_kind
writes-size s task sound (inr (inr k)) = subst (IsTaskOfKind s task) k sound.by_kind

-- an act that writes rows of a medium, by whole blocks
put-size : (s : Setting) (old bytes : List ℕ) (task : Task) (row : ℕ) → IsTask s task → row ≡ task.row → length bytes ≡ task_bytes s task →
    length old ≡ rows_of s.geometry * s.geometry.block → length (put old (row * s.geometry.block) bytes) ≡ rows_of s.geometry * s.geometry.block
put-size s old bytes task row sound at size whole =
    let fit : task.row * s.geometry.block + task_bytes s task ≤ rows_of s.geometry * s.geometry.block = rows-fit_bytes s task sound in
    let place : row * s.geometry.block ≡ task.row * s.geometry.block = ap (λ (n : ℕ). n * s.geometry.block) at in
    length-put old (row * s.geometry.block) bytes (omega arith) ∙ whole

pub folded-size : (s : Setting) (old bytes : List ℕ) (task : Task) (row : ℕ) → IsTask s task → row ≡ task.row → length bytes ≡ task_bytes s task →
    length old ≡ rows_of s.geometry * s.geometry.block → length (xor (slice old (row * s.geometry.block) (length bytes)) bytes) ≡ length bytes
folded-size s old bytes task row sound at size whole =
    let fit : task.row * s.geometry.block + task_bytes s task ≤ rows_of s.geometry * s.geometry.block = rows-fit_bytes s task sound in
    let place : row * s.geometry.block ≡ task.row * s.geometry.block = ap (λ (n : ℕ). n * s.geometry.block) at in
    let cut : length (slice old (row * s.geometry.block) (length bytes)) ≡ length bytes = length-slice old (row * s.geometry.block) (length bytes) (omega arith) in
    length-xor (slice old (row * s.geometry.block) (length bytes)) bytes cut ∙ cut

size-after : (s : Setting) (i : ℕ) (past : List Entry) (stamp : ℕ) (event : Event) (old : List ℕ) → Grows s past → MayTarget s past stamp i event →
    length old ≡ rows_of s.geometry * s.geometry.block → length (medium_after s event old) ≡ rows_of s.geometry * s.geometry.block
size-after s i past stamp (Put command opened cdb row bytes names) old g m whole =
    put-size s old bytes m.0 row (act_sound s past stamp i command opened cdb row (length bytes) (length names) m.0 Puts g m.1.act) m.1.act.at_row m.1.act.whole whole
size-after s i past stamp (Diff command opened cdb row bytes sent dropped back) old g m whole =
    put-size s old bytes m.0 row (act_sound s past stamp i command opened cdb row (length bytes) 0 m.0 Diffs g m.1.act) m.1.act.at_row m.1.act.whole whole
size-after s i past stamp (Fold command opened cdb row bytes names) old g m whole =
    let sound : IsTask s m.0 = act_sound s past stamp i command opened cdb row (length bytes) 0 m.0 Folds g m.1.1.act in
    put-size s old (xor (slice old (row * s.geometry.block) (length bytes)) bytes) m.0 row sound m.1.1.act.at_row
    (folded-size s old bytes m.0 row sound m.1.1.act.at_row m.1.1.act.whole whole ∙ m.1.1.act.whole) whole
size-after s i past stamp (Fresh call swap) old g m whole = length-replicate (rows_of s.geometry * s.geometry.block) 0
size-after s i past stamp _ old g m whole = whole

-- the size of a medium
pub media-size : (s : Setting) (i : ℕ) (past : List Entry) → Grows s past → length (media s i past) ≡ rows_of s.geometry * s.geometry.block
media-size s i [] g = length-replicate (rows_of s.geometry * s.geometry.block) 0
media-size s i (e ∷ past) g = elim (cases_eq e.lock (i + 1)) [
  | inl here ↦ ap length (media-here s i e past here)
      ∙ size-after s i past e.stamp e.event (media s i past) g.1 (may-here s past e.stamp e.lock i e.event here g.0.1.1) (media-size s i past g.1)
  | inr other ↦ ap length (media-else s i e past other) ∙ media-size s i past g.1
]

-- how a command tells a write: an update by its diff, a write of data alone by its put there, a degraded write by its put at parity
pub data Tells (task : Task) (lock c : ℕ) (event : Event) : Type 0 where
  by_diff : task.kind ≡ Update → lock ≡ task.target + 1 → is_act Diffs c event ≡ true → Tells task lock c event
  by_put : task.kind ≡ DataOnly → lock ≡ task.target + 1 → is_act Puts c event ≡ true → Tells task lock c event
  by_parity : task.kind ≡ DegradedWrite → lock ≡ task.parity + 1 → is_act Puts c event ≡ true → Tells task lock c event

-- the sectors after an event
abbrev pub sectors_with : Setting → List Entry → Event → List ℕ
sectors_with s past event = plain s.geometry (told_by s.geometry event (teller_task (teller event) past) ++ host s.geometry past)

-- an event by which an open command tells a write
pub record IsWrite (s : Setting) (past : List Entry) (c : ℕ) (task : Task) (lock : ℕ) (event : Event) : Type 0 where
  pub its_task : task_of c past ≡ Some task
  pub opened : is_open c past ≡ true
  pub sound : IsTask s task
  pub not_parity : task.target ≢ task.parity
  pub size : length task.bytes ≡ task_bytes s task
  pub how : Tells task lock c event
  pub written : sectors_with s past event ≡ put (sectors s.geometry past) (task_lba s.geometry task * s.geometry.block) task.bytes

-- each event leaves the sectors as they were, or tells a write
pub data SectorStep (s : Setting) (past : List Entry) (lock : ℕ) (event : Event) : Type 0 where
  tells_none : sectors_with s past event ≡ sectors s.geometry past → SectorStep s past lock event
  tells_write : (c : ℕ) (task : Task) → IsWrite s past c task lock event → SectorStep s past lock event

pub fetch-silent : (s : Setting) (past : List Entry) (command : ℕ) (opened : At) (cdb : Cdb) (row : ℕ) (bytes : List ℕ) (found : Option Task) →
    plain s.geometry (told_by s.geometry (Fetch command opened cdb row bytes) found ++ host s.geometry past) ≡ sectors s.geometry past
fetch-silent s past command opened cdb row bytes None = refl
fetch-silent s past command opened cdb row bytes (Some task) = choose (is_read task.kind)
  where
    choose : (b : Bool) → plain s.geometry (cond b (read_item s.geometry task bytes ∷ []) [] ++ host s.geometry past) ≡ sectors s.geometry past
    choose true = refl
    choose false = refl

close-silent : (s : Setting) (past : List Entry) (command : ℕ) (done : Bool) (names : List At) (cause : Option At) (bytes : List ℕ) (found : Option Task) →
    plain s.geometry (told_by s.geometry (Close command done names cause bytes) found ++ host s.geometry past) ≡ sectors s.geometry past
close-silent s past command true names cause bytes None = refl
close-silent s past command false names cause bytes None = refl
close-silent s past command false names cause bytes (Some task) = refl
close-silent s past command true names cause bytes (Some task) = choose (is_degraded_read task.kind)
  where
    choose : (b : Bool) → plain s.geometry (cond b (read_item s.geometry task bytes ∷ []) [] ++ host s.geometry past) ≡ sectors s.geometry past
    choose true = refl
    choose false = refl

-- a put of a write of data alone or of a degraded write tells it
pub put-write : (s : Setting) (past : List Entry) (stamp i lock command : ℕ) (opened : At) (cdb : Cdb) (row : ℕ) (bytes : List ℕ) (names : List At) (task : Task) → Grows s past →
    MayTarget s past stamp i (Put command opened cdb row bytes names) →
    MayAct s past stamp i command opened cdb row (length bytes) (length names) task Puts → is_put_write task.kind ≡ true →
    (task.kind ≡ Update) ⊎ ((task.kind ≡ DataOnly) ⊎ (task.kind ≡ DegradedWrite)) → Tells task lock command (Put command opened cdb row bytes names) →
    IsWrite s past command task lock (Put command opened cdb row bytes names)
put-write s past stamp i lock command opened cdb row bytes names task g m a k w tells =
    let its : task_of command past ≡ Some task = act_task s past stamp i command opened cdb row (length bytes) (length names) task Puts g a in
    let sound : IsTask s task = act_sound s past stamp i command opened cdb row (length bytes) (length names) task Puts g a in
    record {
      its_task = its;
      opened = act-open s past stamp i command Puts (Put command opened cdb row bytes names) g m (eq-eqb command command refl);
      sound = sound;
      not_parity = (writes-size s task sound w).0;
      size = (writes-size s task sound w).1;
      how = tells;
      written =
          ap (λ (o : Option Task). plain s.geometry (told_by s.geometry (Put command opened cdb row bytes names) o ++ host s.geometry past)) its
          ∙ ap (λ (x : Bool). plain s.geometry (cond x (wrote_item s.geometry task ∷ []) [] ++ host s.geometry past)) k;
    }

-- a put of a rebuild or a resync tells none
pub put-silent : (s : Setting) (past : List Entry) (stamp i command : ℕ) (opened : At) (cdb : Cdb) (row : ℕ) (bytes : List ℕ) (names : List At) (task : Task) → Grows s past →
    MayAct s past stamp i command opened cdb row (length bytes) (length names) task Puts → is_put_write task.kind ≡ false →
    sectors_with s past (Put command opened cdb row bytes names) ≡ sectors s.geometry past
put-silent s past stamp i command opened cdb row bytes names task g a k =
    ap (λ (o : Option Task). plain s.geometry (told_by s.geometry (Put command opened cdb row bytes names) o ++ host s.geometry past))
    (act_task s past stamp i command opened cdb row (length bytes) (length names) task Puts g a)
    ∙ ap (λ (x : Bool). plain s.geometry (cond x (wrote_item s.geometry task ∷ []) [] ++ host s.geometry past)) k

put-step : (s : Setting) (past : List Entry) (stamp i lock command : ℕ) (opened : At) (cdb : Cdb) (row : ℕ) (bytes : List ℕ) (names : List At) (task : Task) → Grows s past →
    MayTarget s past stamp i (Put command opened cdb row bytes names) → lock ≡ i + 1 →
    MayAct s past stamp i command opened cdb row (length bytes) (length names) task Puts → PutsBy task i →
    SectorStep s past lock (Put command opened cdb row bytes names)
put-step s past stamp i lock command opened cdb row bytes names task g m here a (puts_data k e) =
    tells_write command task (put-write s past stamp i lock command opened cdb row bytes names task g m a (ap is_put_write k) (inr (inl k))
    (by_put k (here ∙ ap (λ (x : ℕ). x + 1) e) (eq-eqb command command refl)))
put-step s past stamp i lock command opened cdb row bytes names task g m here a (puts_degraded k e) =
    tells_write command task (put-write s past stamp i lock command opened cdb row bytes names task g m a (ap is_put_write k) (inr (inr k))
    (by_parity k (here ∙ ap (λ (x : ℕ). x + 1) e) (eq-eqb command command refl)))
put-step s past stamp i lock command opened cdb row bytes names task g m here a (puts_unit k e) =
    tells_none (put-silent s past stamp i command opened cdb row bytes names task g a (ap is_put_write k))
put-step s past stamp i lock command opened cdb row bytes names task g m here a (puts_parity k e) =
    tells_none (put-silent s past stamp i command opened cdb row bytes names task g a (ap is_put_write k))

-- a diff tells the write of its update
pub diff-write : (s : Setting) (past : List Entry) (stamp i lock command : ℕ) (opened : At) (cdb : Cdb) (row : ℕ) (bytes : List ℕ) (sent dropped back : Bool) (task : Task) → Grows s past →
    MayTarget s past stamp i (Diff command opened cdb row bytes sent dropped back) → lock ≡ i + 1 →
    MayAct s past stamp i command opened cdb row (length bytes) 0 task Diffs → IsWrite s past command task lock (Diff command opened cdb row bytes sent dropped back)
diff-write s past stamp i lock command opened cdb row bytes sent dropped back task g m here a =
    let its : task_of command past ≡ Some task = act_task s past stamp i command opened cdb row (length bytes) 0 task Diffs g a in
    let sound : IsTask s task = act_sound s past stamp i command opened cdb row (length bytes) 0 task Diffs g a in
    let by : (task.kind ≡ Update) × (i ≡ task.target) = differs-update s task i a.of_task in
    record {
      its_task = its;
      opened = act-open s past stamp i command Diffs (Diff command opened cdb row bytes sent dropped back) g m (eq-eqb command command refl);
      sound = sound;
      not_parity = (writes-size s task sound (inl by.0)).0;
      size = (writes-size s task sound (inl by.0)).1;
      how = by_diff by.0 (here ∙ ap (λ (x : ℕ). x + 1) by.1) (eq-eqb command command refl);
      written = ap (λ (o : Option Task). plain s.geometry (told_by s.geometry (Diff command opened cdb row bytes sent dropped back) o ++ host s.geometry past)) its;
    }

suc-lock : (i : ℕ) → suc i ≡ i + 1
suc-lock i = omega arith

pub sector-step : (s : Setting) (past : List Entry) (stamp lock : ℕ) (event : Event) → Grows s past → MayAt s past stamp lock event → SectorStep s past lock event
sector-step s past stamp zero (Close command done names cause bytes) g m = tells_none (close-silent s past command done names cause bytes (task_of command past))
sector-step s past stamp zero (Fetch command opened cdb row bytes) g m = absurd m
sector-step s past stamp zero (Put command opened cdb row bytes names) g m = absurd m
sector-step s past stamp zero (Diff command opened cdb row bytes sent dropped back) g m = absurd m
sector-step s past stamp zero _ g m = tells_none refl
sector-step s past stamp (suc i) (Fetch command opened cdb row bytes) g m = tells_none (fetch-silent s past command opened cdb row bytes (task_of command past))
sector-step s past stamp (suc i) (Put command opened cdb row bytes names) g m =
    put-step s past stamp i (suc i) command opened cdb row bytes names m.1.0 g m.1 (suc-lock i) m.1.1.act (puts-by s m.1.0 i m.1.1.act.of_task)
sector-step s past stamp (suc i) (Diff command opened cdb row bytes sent dropped back) g m =
    tells_write command m.1.0 (diff-write s past stamp i (suc i) command opened cdb row bytes sent dropped back m.1.0 g m.1 (suc-lock i) m.1.1.act)
sector-step s past stamp (suc i) (Close command done names cause bytes) g m = absurd m.1
sector-step s past stamp (suc i) _ g m = tells_none refl

-- the size of the sectors
sectors-size : (s : Setting) (past : List Entry) → IsSetting s → Grows s past → length (sectors s.geometry past) ≡ capacity_of s.geometry * s.geometry.block
sectors-size s [] set g = length-replicate (capacity_of s.geometry * s.geometry.block) 0
sectors-size s (e ∷ past) set g = by (sector-step s past e.stamp e.lock e.event g.1 g.0.1.1) (sectors-size s past set g.1)
  where
    by : SectorStep s past e.lock e.event → length (sectors s.geometry past) ≡ capacity_of s.geometry * s.geometry.block →
        length (sectors s.geometry (e ∷ past)) ≡ capacity_of s.geometry * s.geometry.block
    by (tells_none same) old = ap length same ∙ old
    by (tells_write c task w) old =
        let fit : task_lba s.geometry task * s.geometry.block + task_bytes s task ≤ capacity_of s.geometry * s.geometry.block =
        lba-fit_bytes s task set w.sound w.not_parity in
        let size : length task.bytes ≡ task_bytes s task = w.size in
        ap length w.written ∙ length-put (sectors s.geometry past) (task_lba s.geometry task * s.geometry.block) task.bytes (omega arith) ∙ old

pub length-known : (s : Setting) (past : List Entry) (stripe i r : ℕ) → IsSetting s → Grows s past → IsRowOf s.geometry stripe r → i < s.geometry.targets →
    i ≢ parity_of s.geometry stripe → length (known s past stripe i r) ≡ s.geometry.block
length-known s past stripe i r set g at below other =
    length-block_at s.geometry.block (sectors s.geometry past) (lba_at s.geometry stripe (unit_at (parity_of s.geometry stripe) i) r) (capacity_of s.geometry)
    (omega (arith, sectors-size s past set g))
    (lba_at-below s stripe (unit_at (parity_of s.geometry stripe) i) r set at
    (unit_at-below (parity_of s.geometry stripe) i s.geometry.targets other below (parity_of-below s stripe set)))

pub length-stands : (s : Setting) (past : List Entry) (stripe i r : ℕ) → Grows s past → IsRowOf s.geometry stripe r → length (stands s past i r) ≡ s.geometry.block
length-stands s past stripe i r g at =
    length-block_at s.geometry.block (media s i past) r (rows_of s.geometry) (omega (arith, media-size s i past g)) (row-below s stripe r at)

-- two data targets of a stripe have different units
units-differ : (p i d : ℕ) → i ≢ p → d ≢ p → unit_at p i ≡ unit_at p d → i ≡ d
units-differ p i d h k e =
    sym (target_of-unit_at p i h) ∙ ap (λ (u : ℕ). cond (nat_lt u p) u (u + 1)) e ∙ target_of-unit_at p d k

-- a write that is told is what the hosts know of its rows
pub known-written : (s : Setting) (past : List Entry) (c : ℕ) (task : Task) (lock : ℕ) (event : Event) (j : ℕ) → IsSetting s → Grows s past →
    IsWrite s past c task lock event → j < task.count →
    known_in s (sectors_with s past event) task.stripe task.target (task.row + j) ≡ block_at s.geometry.block task.bytes j
known-written s past c task lock event j set g w h =
    ap (λ (p : ℕ). block_at s.geometry.block (sectors_with s past event) (lba_at s.geometry task.stripe (unit_at p task.target) (task.row + j))) (sym w.sound.parity)
    ∙ ap (block_at s.geometry.block (sectors_with s past event)) (lba_at-in s task j placed h)
    ∙ ap (λ (l : List ℕ). block_at s.geometry.block l (task_lba s.geometry task + j)) w.written
    ∙ block_at-put_in s.geometry.block (sectors s.geometry past) (task_lba s.geometry task) task.bytes task.count j fit w.size h
  where
    placed : IsPlaced s task
    placed = IsPlaced-task s task w.sound w.not_parity

    fit : task_lba s.geometry task * s.geometry.block ≤ length (sectors s.geometry past)
    fit = omega (arith, lba-fit_bytes s task set w.sound w.not_parity, sectors-size s past set g)

-- and of no others
pub known-beside : (s : Setting) (past : List Entry) (c : ℕ) (task : Task) (lock : ℕ) (event : Event) (stripe i r : ℕ) → IsSetting s → Grows s past →
    IsWrite s past c task lock event → IsRowOf s.geometry stripe r → i < s.geometry.targets → i ≢ parity_of s.geometry stripe →
    (stripe ≡ task.stripe → i ≡ task.target → (j : ℕ) → j < task.count → r ≡ task.row + j → ⊥) →
    known_in s (sectors_with s past event) stripe i r ≡ known s past stripe i r
known-beside s past c task lock event stripe i r set g w at below other apart =
    ap (λ (l : List ℕ). known_in s l stripe i r) w.written
    ∙ block_at-put_out s.geometry.block (sectors s.geometry past) (task_lba s.geometry task) task.bytes task.count
    (lba_at s.geometry stripe (unit_at (parity_of s.geometry stripe) i) r) fit w.size (by_row (row_falls task r))
  where
    placed : IsPlaced s task
    placed = IsPlaced-task s task w.sound w.not_parity

    fit : task_lba s.geometry task * s.geometry.block ≤ length (sectors s.geometry past)
    fit = omega (arith, lba-fit_bytes s task set w.sound w.not_parity, sectors-size s past set g)

    unit : unit_at (parity_of s.geometry stripe) i < s.geometry.targets - 1
    unit = unit_at-below (parity_of s.geometry stripe) i s.geometry.targets other below (parity_of-below s stripe set)

    same_target : stripe ≡ task.stripe → unit_at (parity_of s.geometry stripe) i ≡ task_unit task → i ≡ task.target
    same_target same e =
        let p : parity_of s.geometry stripe ≡ task.parity = ap (parity_of s.geometry) same ∙ sym w.sound.parity in
        units-differ task.parity i task.target (λ q. other (q ∙ sym p)) w.not_parity (ap (λ (x : ℕ). unit_at x i) (sym p) ∙ e)

    by_row : Falls task r → IsBeside (task_lba s.geometry task) task.count (lba_at s.geometry stripe (unit_at (parity_of s.geometry stripe) i) r)
    by_row (Within j h e) =
        lba_at-other_unit s task stripe (unit_at (parity_of s.geometry stripe) i) r set placed at unit (λ same own. apart same (same_target same own) j h e)
    by_row (Beside beside) = lba_at-other_row s task stripe (unit_at (parity_of s.geometry stripe) i) r set placed at unit beside

-- what a put leaves of the blocks of a medium: those of the task's rows, and the others
pub put-within : (s : Setting) (old bytes : List ℕ) (task : Task) (row j : ℕ) → IsTask s task → row ≡ task.row → length bytes ≡ task_bytes s task →
    length old ≡ rows_of s.geometry * s.geometry.block → j < task.count →
    block_at s.geometry.block (put old (row * s.geometry.block) bytes) (task.row + j) ≡ block_at s.geometry.block bytes j
put-within s old bytes task row j sound at size whole h =
    ap (λ (n : ℕ). block_at s.geometry.block (put old (n * s.geometry.block) bytes) (task.row + j)) at
    ∙ block_at-put_in s.geometry.block old task.row bytes task.count j (omega (arith, rows-fit_bytes s task sound)) size h

pub put-beside : (s : Setting) (old bytes : List ℕ) (task : Task) (row r : ℕ) → IsTask s task → row ≡ task.row → length bytes ≡ task_bytes s task →
    length old ≡ rows_of s.geometry * s.geometry.block → IsBeside task.row task.count r →
    block_at s.geometry.block (put old (row * s.geometry.block) bytes) r ≡ block_at s.geometry.block old r
put-beside s old bytes task row r sound at size whole beside =
    ap (λ (n : ℕ). block_at s.geometry.block (put old (n * s.geometry.block) bytes) r) at
    ∙ block_at-put_out s.geometry.block old task.row bytes task.count r (omega (arith, rows-fit_bytes s task sound)) size beside
