-- That a target's disk is what its entries say, and that its losses of no call are no more than its medium's failures,
-- goes over from entry to entry.
use Rattle.std.specs.Prelude.{◌≡◌, ◌==◌, ◌≤◌, ◌<◌, ◌+◌, ◌-◌, ◌*◌, ◌^◌, ℕ, suc, min, Bool, true, false, List, [], ◌∷◌, length, Option, Some, None, IfSome}
use Rattle.std.proofs.Common.{refl, sym, ◌∙◌, cond, arith}
use Rattle.blocks_core.specs.Lists.{put}
use Rattle.xor_buffers.specs.declared.held.HeldBlocks.{HeldBlocks}
use Rattle.array_journal.specs.declared.entry.Entry.{Entry}
use Rattle.array_journal.specs.declared.event.Event.{Event}
use Rattle.array_journal.specs.declared.event.Event.TheVariants.{Gone, Fresh}
use Rattle.array_journal.specs.Entries.{count_at, name_of}
use Rattle.array_journal.specs.Lives.{loss_of, loss_after}
use Rattle.array_journal.specs.Media.{media, medium_after, held, held_after}
use Rattle.array_journal.proofs.runs.Steps.{media-here, held-here, count_at-quiet}
use Rattle.xor_target.specs.declared.waiting.Waiting.{Waiting}
use Rattle.xor_target.specs.State.{TargetState, IsRecorded, target_setting, has_failed, has_failed_after, is_failure}
use Rattle.xor_target.specs.Effects.{rewritten}

-- bytes with others written over them, or not
abbrev pub written_over : ℕ → ℕ → Option (List ℕ) → List ℕ → List ℕ
written_over block row None told = told
written_over block row (Some blocks) told = put told (row * block) blocks

told-after : (block row : ℕ) (written contents : Option (List ℕ)) (P : List ℕ → Type 0) → IfSome contents (λ told. P (written_over block row written told)) →
    IfSome (rewritten block row written contents) P
told-after block row None None P h = tt
told-after block row None (Some told) P h = h
told-after block row (Some blocks) None P h = tt
told-after block row (Some blocks) (Some told) P h = h

pub told-map : (contents : Option (List ℕ)) (P Q : List ℕ → Type 0) → ((told : List ℕ) → contents ≡ Some told → P told → Q told) → IfSome contents P → IfSome contents Q
told-map None P Q f h = tt
told-map (Some told) P Q f h = f told refl h

-- who waits is nothing to what the entries say
pub told-waiting : (t : TargetState) (waiting : List Waiting) (contents : Option (List ℕ)) → IfSome contents (IsRecorded t) → IfSome contents (IsRecorded (record t { waiting = waiting }))
told-waiting t waiting contents h = told-map contents (IsRecorded t) (IsRecorded (record t { waiting = waiting })) (λ told is r. record { held = r.held; media = r.media }) h

-- what a step has to keep: what is held, and what stands on the medium, go as the entry's event says
pub record Keeps (t : TargetState) (e : Entry) (now : List HeldBlocks) (bytes : List ℕ) : Type 0 where
  pub held : now ≡ held_after (target_setting t) (media (target_setting t) t.number t.past) e.event (held (target_setting t) t.number t.past)
  pub media : has_failed t.number (e ∷ t.past) ≡ false → bytes ≡ medium_after (target_setting t) e.event (media (target_setting t) t.number t.past)

kept : (t : TargetState) (e : Entry) (now : List HeldBlocks) (contents : Option (List ℕ)) (faults : ℕ) (bytes : List ℕ) → e.lock ≡ t.number + 1 → Keeps t e now bytes →
    IsRecorded (record t { past = e ∷ t.past; held = now; contents = contents; faults = faults }) bytes
kept t e now contents faults bytes here k = record {
  held = k.held ∙ sym (held-here (target_setting t) t.number e t.past here);
  media = λ sound. k.media sound ∙ sym (media-here (target_setting t) t.number e t.past here);
}

-- a disk that was what the entries say is so with one entry more
pub step-recorded : (t : TargetState) (e : Entry) (now : List HeldBlocks) (row : ℕ) (written contents : Option (List ℕ)) (faults : ℕ) → e.lock ≡ t.number + 1 →
    IfSome t.contents (IsRecorded t) →
    ((told : List ℕ) → t.contents ≡ Some told → IsRecorded t told → Keeps t e now (written_over t.block row written told)) →
    IfSome (rewritten t.block row written t.contents) (IsRecorded (record t { past = e ∷ t.past; held = now; contents = contents; faults = faults }))
step-recorded t e now row written contents faults here recorded keeps =
    told-after t.block row written t.contents (IsRecorded (record t { past = e ∷ t.past; held = now; contents = contents; faults = faults }))
    (told-map t.contents (IsRecorded t) (λ told. IsRecorded (record t { past = e ∷ t.past; held = now; contents = contents; faults = faults }) (written_over t.block row written told))
    (λ told is r. kept t e now contents faults (written_over t.block row written told) here (keeps told is r)) recorded)

-- a disk that isn't lost has a medium that didn't fail
pub present-sound : (i : ℕ) (past : List Entry) → loss_of i past ≡ None → has_failed i past ≡ false
present-sound i [] p = refl
present-sound i (e ∷ past) p = choose (e.lock == i + 1) e.event p (present-sound i past)
  where
    by_event : (event : Event) (older : Bool) → loss_after (name_of e) event (loss_of i past) ≡ None → (loss_of i past ≡ None → older ≡ false) →
        has_failed_after event older ≡ false
    by_event (Gone life call commands) older p f = absurd cc
    by_event (Fresh call swap) older p f = refl
    by_event _ older p f = f p

    choose : (b : Bool) (event : Event) → cond b (loss_after (name_of e) event (loss_of i past)) (loss_of i past) ≡ None → (loss_of i past ≡ None → has_failed i past ≡ false) →
        cond b (has_failed_after event (has_failed i past)) (has_failed i past) ≡ false
    choose true event p f = by_event event (has_failed i past) p f
    choose false event p f = f p

-- no more entries say so than there are
pub count-most : (lock : ℕ) (test : Event → Bool) (past : List Entry) → count_at lock test past ≤ length past
count-most lock test [] = omega arith
count-most lock test (e ∷ past) = choose _ (count-most lock test past)
  where
    choose : (b : Bool) → count_at lock test past ≤ length past → cond b (suc (count_at lock test past)) (count_at lock test past) ≤ suc (length past)
    choose true h = omega arith
    choose false h = omega arith

-- an entry that says so adds one
count-more : (lock : ℕ) (test : Event → Bool) (e : Entry) (past : List Entry) → count_at lock test (e ∷ past) ≤ suc (count_at lock test past)
count-more lock test e past = choose _
  where
    choose : (b : Bool) → cond b (suc (count_at lock test past)) (count_at lock test past) ≤ suc (count_at lock test past)
    choose true = omega arith
    choose false = omega arith

-- losses of no call are no more than failures: an entry that isn't one, and one that comes with a failure
pub quiet-failures : (i before now : ℕ) (e : Entry) (past : List Entry) → is_failure e.event ≡ false → before ≤ now → count_at (i + 1) is_failure past ≤ before →
    count_at (i + 1) is_failure (e ∷ past) ≤ now
quiet-failures i before now e past quiet more few = let same = count_at-quiet (i + 1) is_failure e past quiet in omega arith

pub risen-failures : (i before now : ℕ) (e : Entry) (past : List Entry) → min (before + 1) (2 ^ 64 - 1) ≤ now → length (e ∷ past) < 2 ^ 63 →
    count_at (i + 1) is_failure past ≤ before → count_at (i + 1) is_failure (e ∷ past) ≤ now
risen-failures i before now e past risen short few =
    let more = count-more (i + 1) is_failure e past in
    let most = count-most (i + 1) is_failure (e ∷ past) in
    omega arith
