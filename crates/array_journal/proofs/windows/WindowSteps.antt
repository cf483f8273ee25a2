-- What a command that runs alone has read and gathered stays what its targets are read as, entry by entry.
use Rattle.std.specs.Prelude.{◌≡◌, ◌<◌, ◌⊎◌, ℕ, ◌+◌, true, List, ◌∷◌, Option, Some}
use Rattle.std.proofs.Common.{ap, sym, ◌∙◌, subst, inl, inr}
use Rattle.std.proofs.lemmas.Bool.{both_ways, eqb-true, false≢true}
use Rattle.array_journal.specs.declared.at.At.{At}
use Rattle.array_journal.specs.declared.entry.Entry.{Entry}
use Rattle.array_journal.specs.declared.event.Event.{Event}
use Rattle.array_journal.specs.declared.event.Event.TheVariants.{Hold}
use Rattle.array_journal.specs.declared.setting.Setting.{Setting}
use Rattle.array_journal.specs.declared.task.Task.{Task}
use Rattle.blocks_core.specs.Lists.{block_at}
use Rattle.array_journal.specs.Entries.{entry_at, some_at}
use Rattle.array_journal.specs.Commands.{opens_command, task_of}
use Rattle.array_journal.specs.declared.act.Act.{Act}
use Rattle.array_journal.specs.declared.act.Act.TheVariants.{Fetches, Holds}
use Rattle.array_journal.specs.Acts.{has_act, is_act}
use Rattle.array_journal.specs.May.{MayTarget, MayHold, passes, bytes_of, bytes_named, IsTask}
use Rattle.array_journal.specs.Run.{IsSetting, Grows}
use Rattle.array_journal.specs.Laws.{RunsAlone}
use Rattle.array_journal.proofs.sums.LayoutLaws.{task_row}
use Rattle.array_journal.proofs.runs.Steps.{entry_at-here}
use Rattle.array_journal.proofs.runs.Standing.{may-here, some-named, passes-cases, passes-event, entry_at-more, IsNameOf}
use Rattle.array_journal.proofs.runs.CommandLaws.{opened-once, task-opened, one_task}
use Rattle.array_journal.proofs.held.HeldOwners.{HasAct, act-asks, act-task, acted-has}
use Rattle.array_journal.proofs.windows.WindowLaws.{older-open}
use Rattle.array_journal.proofs.lives.DoneRebuilds.{task-sound}
use Rattle.array_journal.proofs.reads.KnownBlocks.{known, act_task}
use Rattle.array_journal.proofs.lives.FinishedRebuilds.{kept-task}
use Rattle.array_journal.proofs.windows.WindowViews.{view, view-still, known-still}
use Rattle.array_journal.proofs.windows.WindowReads.{Kept, fetches-by, holds-by, HoldsBy, held_bytes, read-unwritten, reads-silent, degraded-target, below-targets, fetch-read, hold-gathers}

-- a window that was opened before the newest entry
older-alone : (s : Setting) (c : ℕ) (task : Task) (e : Entry) (past : List Entry) → Grows s (e ∷ past) → some_at 0 (opens_command c) past ≡ true →
    RunsAlone c task (e ∷ past) → RunsAlone c task past
older-alone s c task e past g opened alone = record {
  opened = older-open c e past (λ both. both_ways (opens_command c e.event) (opened-once s c e past g.1 g.0.1 both.0 opened) both.1) alone.opened;
  its_task = sym (kept-task s c e past g opened) ∙ alone.its_task;
  alone = alone.alone;
}

-- an act of a command, its newest entry or an older one, comes after its opening
opened-here : (s : Setting) (i c : ℕ) (act : Act) (e : Entry) (past : List Entry) → Grows s (e ∷ past) → e.lock ≡ i + 1 → is_act act c e.event ≡ true →
    some_at 0 (opens_command c) past ≡ true
opened-here s i c act e past g here h =
    let a : HasAct s past i c act =
    act-task s past e.stamp i c act g.1 (act-asks s past e.stamp i c act e.event (may-here s past e.stamp e.lock i e.event here g.0.1.1) h) in
    task-opened c past a.0 a.1.0

acted-named : (s : Setting) (i c : ℕ) (act : Act) (name : At) (task : Task) (past : List Entry) → Grows s past → name.lock ≡ i + 1 →
    passes (is_act act c) (entry_at name past) ≡ true → HasAct s past i c act
acted-named s i c act name task past g lock h = acted-has s i c act past g (some-named (i + 1) (is_act act c) name past lock h)

its-act : (s : Setting) (i c : ℕ) (act : Act) (task : Task) (past : List Entry) → task_of c past ≡ Some task → HasAct s past i c act → has_act s act task i ≡ true
its-act s i c act task past q a = subst (λ (x : Task). has_act s act x i ≡ true) (one_task a.0 task (sym a.1.0 ∙ q)) a.1.1

-- what a fetch at target i reads stands still
fetch-still : (s : Setting) (c i j : ℕ) (task : Task) (e : Entry) (past : List Entry) → IsSetting s → Grows s (e ∷ past) → RunsAlone c task past →
    has_act s Fetches task i ≡ true → j < task.count → view s (e ∷ past) task.stripe i (task.row + j) ≡ view s past task.stripe i (task.row + j)
fetch-still s c i j task e past set g alone has h =
    let sound : IsTask s task = task-sound s c task past g.1 alone.its_task in
    view-still s c i (task.row + j) task e past set g alone (task_row s task j sound h) (below-targets s Fetches task i has)
    (λ w. read-unwritten s task i e.lock c e.event sound (fetches-by s task i alone.alone has) w)

pub fetched-step : (s : Setting) (e : Entry) (past : List Entry) → IsSetting s → Grows s (e ∷ past) → Kept s past →
    (c i j : ℕ) (task : Task) (name : At) → RunsAlone c task (e ∷ past) → name.lock ≡ i + 1 → passes (is_act Fetches c) (entry_at name (e ∷ past)) ≡ true →
    j < task.count → block_at s.geometry.block (bytes_named (e ∷ past) name) j ≡ view s (e ∷ past) task.stripe i (task.row + j)
fetched-step s e past set g kept c i j task name alone lock says h = by (passes-cases (is_act Fetches c) name e past says)
  where
    newest : e.lock ≡ i + 1 → is_act Fetches c e.event ≡ true → IsNameOf name e → RunsAlone c task past →
        block_at s.geometry.block (bytes_named (e ∷ past) name) j ≡ view s (e ∷ past) task.stripe i (task.row + j)
    newest here fetches same before =
        let may : MayTarget s past e.stamp i e.event = may-here s past e.stamp e.lock i e.event here g.0.1.1 in
        ap (λ (o : Option Event). block_at s.geometry.block (bytes_of o) j) (entry_at-here name e past same.0 same.1)
        ∙ fetch-read s past e.stamp i c j task e.event set g.1 kept before may fetches h
        ∙ sym (fetch-still s c i j task e past set g before
        (its-act s i c Fetches task past before.its_task (act-task s past e.stamp i c Fetches g.1 (act-asks s past e.stamp i c Fetches e.event may fetches))) h)

    older : passes (is_act Fetches c) (entry_at name past) ≡ true → RunsAlone c task past → HasAct s past i c Fetches →
        block_at s.geometry.block (bytes_named (e ∷ past) name) j ≡ view s (e ∷ past) task.stripe i (task.row + j)
    older stood before has =
        let found : (event : Event) × ((entry_at name past ≡ Some event) × (is_act Fetches c event ≡ true)) = passes-event (is_act Fetches c) (entry_at name past) stood in
        ap (λ (o : Option Event). block_at s.geometry.block (bytes_of o) j) (entry_at-more name e past found.0 g.0.1.0 found.1.0 ∙ sym found.1.0)
        ∙ kept.fetched c i j task name before lock stood h
        ∙ sym (fetch-still s c i j task e past set g before (its-act s i c Fetches task past before.its_task has) h)

    by : (IsNameOf name e × (is_act Fetches c e.event ≡ true)) ⊎ (passes (is_act Fetches c) (entry_at name past) ≡ true) →
        block_at s.geometry.block (bytes_named (e ∷ past) name) j ≡ view s (e ∷ past) task.stripe i (task.row + j)
    by (inl here) =
        let at : e.lock ≡ i + 1 = sym here.0.1 ∙ lock in
        newest at here.1 here.0 (older-alone s c task e past g (opened-here s i c Fetches e past g at here.1) alone)
    by (inr stood) =
        let has : HasAct s past i c Fetches = acted-named s i c Fetches name task past g.1 lock stood in
        older stood (older-alone s c task e past g (task-opened c past has.0 has.1.0) alone) has

-- the unit that a degraded read gathers stands still
lost-still : (s : Setting) (c i j : ℕ) (task : Task) (e : Entry) (past : List Entry) → IsSetting s → Grows s (e ∷ past) → RunsAlone c task past →
    has_act s Holds task i ≡ true → j < task.count → known s (e ∷ past) task.stripe task.target (task.row + j) ≡ known s past task.stripe task.target (task.row + j)
lost-still s c i j task e past set g alone has h =
    let sound : IsTask s task = task-sound s c task past g.1 alone.its_task in
    let holds : HoldsBy s task i = holds-by s task i has in
    known-still s c task.target (task.row + j) task e past set g alone (task_row s task j sound h) sound.target
    (λ q. degraded-target s task sound (inl holds.of_kind) (q ∙ sym sound.parity)) (λ w. absurd (reads-silent task e.lock c e.event holds.of_kind w))

hold-read : (s : Setting) (past : List Entry) (stamp i c j : ℕ) (task : Task) (event : Event) → IsSetting s → Grows s past → Kept s past → RunsAlone c task past →
    MayTarget s past stamp i event → is_act Holds c event ≡ true → j < task.count →
    block_at s.geometry.block (held_bytes (Some event)) j ≡ known s past task.stripe task.target (task.row + j)
hold-read s past stamp i c j task (Hold command opened cdb row bytes kept_here names back) set g kept alone m h below =
    same_task command (eqb-true command c h) m.0 m.1
  where
    same_task : (d : ℕ) → d ≡ c → (its : Task) → MayHold s past stamp i d opened cdb row bytes kept_here names back its →
        block_at s.geometry.block bytes j ≡ known s past task.stripe task.target (task.row + j)
    same_task d same its f =
        hold-gathers s past stamp i c j opened cdb row bytes kept_here names back task set g kept alone
        (subst (λ (x : Task). MayHold s past stamp i c opened cdb row bytes kept_here names back x)
        (one_task its task (sym (act_task s past stamp i c opened cdb row _ _ its Holds g there.act) ∙ alone.its_task)) there) below
      where
        there : MayHold s past stamp i c opened cdb row bytes kept_here names back its
        there = subst (λ (n : ℕ). MayHold s past stamp i n opened cdb row bytes kept_here names back its) same f
hold-read s past stamp i c j task _ set g kept alone m h below = absurd (false≢true h)

pub gathered-step : (s : Setting) (e : Entry) (past : List Entry) → IsSetting s → Grows s (e ∷ past) → Kept s past →
    (c i j : ℕ) (task : Task) (name : At) → RunsAlone c task (e ∷ past) → name.lock ≡ i + 1 → passes (is_act Holds c) (entry_at name (e ∷ past)) ≡ true →
    j < task.count → block_at s.geometry.block (held_bytes (entry_at name (e ∷ past))) j ≡ known s (e ∷ past) task.stripe task.target (task.row + j)
gathered-step s e past set g kept c i j task name alone lock says h = by (passes-cases (is_act Holds c) name e past says)
  where
    newest : e.lock ≡ i + 1 → is_act Holds c e.event ≡ true → IsNameOf name e → RunsAlone c task past →
        block_at s.geometry.block (held_bytes (entry_at name (e ∷ past))) j ≡ known s (e ∷ past) task.stripe task.target (task.row + j)
    newest here holds same before =
        let may : MayTarget s past e.stamp i e.event = may-here s past e.stamp e.lock i e.event here g.0.1.1 in
        ap (λ (o : Option Event). block_at s.geometry.block (held_bytes o) j) (entry_at-here name e past same.0 same.1)
        ∙ hold-read s past e.stamp i c j task e.event set g.1 kept before may holds h
        ∙ sym (lost-still s c i j task e past set g before
        (its-act s i c Holds task past before.its_task (act-task s past e.stamp i c Holds g.1 (act-asks s past e.stamp i c Holds e.event may holds))) h)

    older : passes (is_act Holds c) (entry_at name past) ≡ true → RunsAlone c task past → HasAct s past i c Holds →
        block_at s.geometry.block (held_bytes (entry_at name (e ∷ past))) j ≡ known s (e ∷ past) task.stripe task.target (task.row + j)
    older stood before has =
        let found : (event : Event) × ((entry_at name past ≡ Some event) × (is_act Holds c event ≡ true)) = passes-event (is_act Holds c) (entry_at name past) stood in
        ap (λ (o : Option Event). block_at s.geometry.block (held_bytes o) j) (entry_at-more name e past found.0 g.0.1.0 found.1.0 ∙ sym found.1.0)
        ∙ kept.gathered c i j task name before lock stood h
        ∙ sym (lost-still s c i j task e past set g before (its-act s i c Holds task past before.its_task has) h)

    by : (IsNameOf name e × (is_act Holds c e.event ≡ true)) ⊎ (passes (is_act Holds c) (entry_at name past) ≡ true) →
        block_at s.geometry.block (held_bytes (entry_at name (e ∷ past))) j ≡ known s (e ∷ past) task.stripe task.target (task.row + j)
    by (inl here) =
        let at : e.lock ≡ i + 1 = sym here.0.1 ∙ lock in
        newest at here.1 here.0 (older-alone s c task e past g (opened-here s i c Holds e past g at here.1) alone)
    by (inr stood) =
        let has : HasAct s past i c Holds = acted-named s i c Holds name task past g.1 lock stood in
        older stood (older-alone s c task e past g (task-opened c past has.0 has.1.0) alone) has
