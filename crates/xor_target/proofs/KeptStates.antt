-- What a command leaves is again a target whose disk is what its entries say.
use Rattle.std.specs.Prelude.{◌≡◌, ◌<◌, ◌≤◌, ◌+◌, ◌*◌, ◌^◌, ℕ, Bool, true, false, List, [], ◌∷◌, ◌++◌, length, Option, Some, None, IfSome}
use Rattle.std.specs.List.{AllByRecursion}
use Rattle.std.proofs.Common.{refl, ap, sym, ◌∙◌, subst, arith}
use Rattle.std.proofs.lemmas.Bool.{false≢true}
use Rattle.blocks_core.specs.Lists.{slice, put}
use Rattle.blocks_core.specs.Xor.{xor}
use Rattle.sbc_cdbs.specs.declared.descriptor.Cdb.{Cdb}
use Rattle.sbc_cdbs.specs.declared.commands.Command.{Command}
use Rattle.sbc_cdbs.specs.declared.commands.Command.TheVariants.{Read, Write, XdWrite, XpWrite, XdRead, XdWriteRead, ModeSelect, ModeSense, XdWriteExtended, Rebuild, Regenerate}
use Rattle.xor_buffers.specs.declared.held.HeldBlocks.{HeldBlocks}
use Rattle.xor_buffers.specs.Held.{holder_of, take_rows, held_blocks}
use Rattle.array_journal.specs.Media.{media, medium_after, held, held_after}
use Rattle.array_journal.proofs.runs.Steps.{held-here, chosen_here}
use Rattle.xor_target.specs.declared.order.Order.{Order}
use Rattle.xor_target.specs.Admission.{row_of, count_of}
use Rattle.xor_target.specs.Table.{is_take}
use Rattle.xor_target.specs.State.{TargetState, IsRecorded, IsAsideFree, IsTarget, target_setting, has_failed, is_failure}
use Rattle.xor_target.specs.Effects.{Effect, effect_of, rewritten, read_effect, write_effect, xdwrite_effect, xdwrite_disabled_effect, xdwriteread_effect, xdwriteread_disabled_effect, xdwrite_extended_effect, xdwrite_extended_disabled_effect, xpwrite_effect, xdread_effect}
use Rattle.xor_target.specs.declared.answer.Answer.{Answer}
use Rattle.xor_target.specs.declared.waiting.Waiting.{Waiting}
use Rattle.xor_target.specs.Logs.{drops_next}
use Rattle.xor_target.specs.Gathers.{IsUnderWayIf}
use Rattle.xor_target.specs.Waits.{sends, without_gatherings}
use Rattle.xor_target.proofs.WaitLists.{all-filtered, all-more}
use Rattle.xor_target.specs.Acts.{IsFewWhereGone, bytes_due}
use Rattle.xor_target.specs.Answers.{IsDone, IsStruck, IsActed, Does, Fails, IsSent, Sends, Drops, Loses, next_entry, next_name, loss_here}
use Rattle.sbc_cdbs.specs.Kinds.{is_kept}
use Rattle.xor_target.proofs.Asides.{free-taken, fewer-taken}
use Rattle.xor_target.proofs.AsideStates.{FindsRoom, aside-fewer, aside-left, aside-held, aside-waits}
use Rattle.xor_target.proofs.TakenBlocks.{taken-length, taken-some}
use Rattle.xor_target.proofs.Recorded.{step-recorded, told-waiting, Keeps, written_over, quiet-failures, risen-failures}

-- what an effect has to be
pub record Sound (t : TargetState) (row : ℕ) (stamp : ℕ) (contents : Option (List ℕ)) (faults : ℕ) (e : Effect) : Type 0 where
  pub quiet : is_failure e.event ≡ false
  pub keeps : (told : List ℕ) → t.contents ≡ Some told → IsRecorded t told → Keeps t (next_entry t stamp e.event) e.held (written_over t.block row e.written told)

-- the old rows as the entries tell them
old-media : (t : TargetState) (told old : List ℕ) (at len : ℕ) → t.contents ≡ Some told → IfSome t.contents (λ x. old ≡ slice x at len) → has_failed t.number t.past ≡ false →
    IsRecorded t told → old ≡ slice (media (target_setting t) t.number t.past) at len
old-media t told old at len is stood sound r =
    let here : IfSome (Some told) (λ x. old ≡ slice x at len) = subst (λ (o : Option (List ℕ)). IfSome o (λ x. old ≡ slice x at len)) is stood in
    here ∙ ap (λ x. slice x at len) (r.media sound)

-- each command of blocks has a sound effect
pub sound-effect : (t : TargetState) (order : Order) (cdb : Cdb) (old : List ℕ) (dropped : Bool) (command : Command) (contents : Option (List ℕ)) (faults : ℕ) (effect : Effect) →
    has_failed t.number t.past ≡ false → length order.bytes ≡ bytes_due t.block command →
    (is_take command ≡ true → holder_of t.block (row_of command) (count_of command * t.block) t.held ≡ None → ⊥) →
    IfSome t.contents (λ told. old ≡ slice told (row_of command * t.block) (count_of command * t.block)) →
    effect_of t.block order cdb t.held old dropped command ≡ Some effect → Sound t (row_of command) order.stamp contents faults effect
sound-effect t order cdb old dropped (Read dpo fua lba count) contents faults effect sound due held stood does =
    let e : read_effect order cdb t.held old lba ≡ effect = cc in
    subst (λ (x : Effect). Sound t lba order.stamp contents faults x) e (record { quiet = refl; keeps = λ told is r. record { held = r.held; media = λ s. r.media sound } })
sound-effect t order cdb old dropped (Write dpo fua lba count) contents faults effect sound due held stood does =
    let e : write_effect order cdb t.held lba ≡ effect = cc in
    subst (λ (x : Effect). Sound t lba order.stamp contents faults x) e
    (record { quiet = refl; keeps = λ told is r. record { held = r.held; media = λ s. ap (λ m. put m (lba * t.block) order.bytes) (r.media sound) } })
sound-effect t order cdb old dropped (XdWrite dpo fua false lba count) contents faults effect sound due held stood does =
    let e : xdwrite_effect order cdb t.held old lba ≡ effect = cc in
    let row : List HeldBlocks → List ℕ → List HeldBlocks = λ h o. h ++ record { owner = order.owner; row = lba; bytes = xor o order.bytes } ∷ [] in
    subst (λ (x : Effect). Sound t lba order.stamp contents faults x) e (record {
      quiet = refl;
      keeps = λ told is r. record {
        held =
            ap (λ h. row h old) r.held
            ∙ ap (λ o. row (Rattle.array_journal.specs.Media.held (target_setting t) t.number t.past) o)
            (old-media t told old (lba * t.block) (count * t.block) is stood sound r ∙ ap (λ n. slice (media (target_setting t) t.number t.past) (lba * t.block) n) (sym due));
        media = λ s. ap (λ m. put m (lba * t.block) order.bytes) (r.media sound);
      };
    })
sound-effect t order cdb old dropped (XdWrite dpo fua true lba count) contents faults effect sound due held stood does =
    let e : xdwrite_disabled_effect order cdb t.held old lba ≡ effect = cc in
    subst (λ (x : Effect). Sound t lba order.stamp contents faults x) e (record {
      quiet = refl;
      keeps = λ told is r. record {
        held = ap (λ (h : List HeldBlocks). h ++ record { owner = order.owner; row = lba; bytes = xor old order.bytes } ∷ []) r.held;
        media = λ s. r.media sound;
      };
    })
sound-effect t order cdb old dropped (XdWriteRead dpo fua false lba count) contents faults effect sound due held stood does =
    let e : xdwriteread_effect order cdb t.held old lba ≡ effect = cc in
    subst (λ (x : Effect). Sound t lba order.stamp contents faults x) e
    (record { quiet = refl; keeps = λ told is r. record { held = r.held; media = λ s. ap (λ m. put m (lba * t.block) order.bytes) (r.media sound) } })
sound-effect t order cdb old dropped (XdWriteRead dpo fua true lba count) contents faults effect sound due held stood does =
    let e : xdwriteread_disabled_effect order cdb t.held old lba ≡ effect = cc in
    subst (λ (x : Effect). Sound t lba order.stamp contents faults x) e (record { quiet = refl; keeps = λ told is r. record { held = r.held; media = λ s. r.media sound } })
sound-effect t order cdb old dropped (XpWrite dpo fua lba count) contents faults effect sound due held stood does =
    let e : xpwrite_effect order cdb t.held old lba ≡ effect = cc in
    subst (λ (x : Effect). Sound t lba order.stamp contents faults x) e (record {
      quiet = refl;
      keeps = λ told is r. record {
        held = r.held;
        media = λ s.
            ap (λ m. put m (lba * t.block) (xor old order.bytes)) (r.media sound)
            ∙ ap (λ o. put (media (target_setting t) t.number t.past) (lba * t.block) (xor o order.bytes))
            (old-media t told old (lba * t.block) (count * t.block) is stood sound r ∙ ap (λ n. slice (media (target_setting t) t.number t.past) (lba * t.block) n) (sym due));
      };
    })
sound-effect t order cdb old dropped (XdRead lba count) contents faults effect sound due held stood does =
    let e : xdread_effect t.block order cdb t.held lba (count * t.block) ≡ effect = cc in
    let len = taken-length t.block lba (count * t.block) t.held _ (taken-some t.block lba (count * t.block) t.held (held refl)) in
    subst (λ (x : Effect). Sound t lba order.stamp contents faults x) e (record {
      quiet = refl;
      keeps = λ told is r. record {
        held = ap (λ h. take_rows t.block lba (count * t.block) h) r.held
            ∙ ap (λ n. take_rows t.block lba n (Rattle.array_journal.specs.Media.held (target_setting t) t.number t.past)) (sym len);
        media = λ s. r.media sound;
      };
    })
sound-effect t order cdb old dropped (ModeSelect pf sp list) contents faults effect sound due held stood does = absurd cc
sound-effect t order cdb old dropped (ModeSense dbd pc page allocation) contents faults effect sound due held stood does = absurd cc
sound-effect t order cdb old dropped (XdWriteExtended dpo fua false lba second count address) contents faults effect sound due held stood does =
    let e : xdwrite_extended_effect order cdb t.held old dropped lba ≡ effect = cc in
    subst (λ (x : Effect). Sound t lba order.stamp contents faults x) e
    (record { quiet = refl; keeps = λ told is r. record { held = r.held; media = λ s. ap (λ m. put m (lba * t.block) order.bytes) (r.media sound) } })
sound-effect t order cdb old dropped (XdWriteExtended dpo fua true lba second count address) contents faults effect sound due held stood does =
    let e : xdwrite_extended_disabled_effect order cdb t.held old lba ≡ effect = cc in
    subst (λ (x : Effect). Sound t lba order.stamp contents faults x) e (record { quiet = refl; keeps = λ told is r. record { held = r.held; media = λ s. r.media sound } })
sound-effect t order cdb old dropped (Rebuild dpo fua intdata lba count list) contents faults effect sound due held stood does =
    let e : write_effect order cdb t.held lba ≡ effect = cc in
    subst (λ (x : Effect). Sound t lba order.stamp contents faults x) e
    (record { quiet = refl; keeps = λ told is r. record { held = r.held; media = λ s. ap (λ m. put m (lba * t.block) order.bytes) (r.media sound) } })
sound-effect t order cdb old dropped (Regenerate dpo fua intdata lba count list) contents faults effect sound due held stood does =
    let e : xdwrite_disabled_effect order cdb t.held old lba ≡ effect = cc in
    subst (λ (x : Effect). Sound t lba order.stamp contents faults x) e (record {
      quiet = refl;
      keeps = λ told is r. record {
        held = ap (λ (h : List HeldBlocks). h ++ record { owner = order.owner; row = lba; bytes = xor old order.bytes } ∷ []) r.held;
        media = λ s. r.media sound;
      };
    })

-- what a command holds in the end leaves free and finds room what is set aside
effect-aside : (t : TargetState) (order : Order) (cdb : Cdb) (old : List ℕ) (dropped : Bool) (command : Command) (effect : Effect) → 1 ≤ t.block →
    (is_kept command ≡ true → FindsRoom t command) → (is_kept command ≡ true → held_blocks t.block effect.held ≡ held_blocks t.block t.held + count_of command) →
    IsAsideFree t.block t.buffer t.held t.waiting → effect_of t.block order cdb t.held old dropped command ≡ Some effect → IsAsideFree t.block t.buffer effect.held t.waiting
effect-aside t order cdb old dropped (Read dpo fua lba count) effect some finds fills i does =
    let e : read_effect order cdb t.held old lba ≡ effect = cc in
    subst (λ (x : Effect). IsAsideFree t.block t.buffer x.held t.waiting) e i
effect-aside t order cdb old dropped (Write dpo fua lba count) effect some finds fills i does =
    let e : write_effect order cdb t.held lba ≡ effect = cc in
    subst (λ (x : Effect). IsAsideFree t.block t.buffer x.held t.waiting) e i
effect-aside t order cdb old dropped (XdWrite dpo fua false lba count) effect some finds fills i does =
    let e : xdwrite_effect order cdb t.held old lba ≡ effect = cc in
    subst (λ (x : Effect). IsAsideFree t.block t.buffer x.held t.waiting) e
    (aside-held t lba count order.owner (xor old order.bytes) (finds refl).apart (finds refl).room (ap (λ (x : Effect). held_blocks t.block x.held) e ∙ fills refl) i)
effect-aside t order cdb old dropped (XdWrite dpo fua true lba count) effect some finds fills i does =
    let e : xdwrite_disabled_effect order cdb t.held old lba ≡ effect = cc in
    subst (λ (x : Effect). IsAsideFree t.block t.buffer x.held t.waiting) e
    (aside-held t lba count order.owner (xor old order.bytes) (finds refl).apart (finds refl).room (ap (λ (x : Effect). held_blocks t.block x.held) e ∙ fills refl) i)
effect-aside t order cdb old dropped (XdWriteRead dpo fua false lba count) effect some finds fills i does =
    let e : xdwriteread_effect order cdb t.held old lba ≡ effect = cc in
    subst (λ (x : Effect). IsAsideFree t.block t.buffer x.held t.waiting) e i
effect-aside t order cdb old dropped (XdWriteRead dpo fua true lba count) effect some finds fills i does =
    let e : xdwriteread_disabled_effect order cdb t.held old lba ≡ effect = cc in
    subst (λ (x : Effect). IsAsideFree t.block t.buffer x.held t.waiting) e i
effect-aside t order cdb old dropped (XpWrite dpo fua lba count) effect some finds fills i does =
    let e : xpwrite_effect order cdb t.held old lba ≡ effect = cc in
    subst (λ (x : Effect). IsAsideFree t.block t.buffer x.held t.waiting) e i
effect-aside t order cdb old dropped (XdRead lba count) effect some finds fills i does =
    let e : xdread_effect t.block order cdb t.held lba (count * t.block) ≡ effect = cc in
    subst (λ (x : Effect). IsAsideFree t.block t.buffer x.held t.waiting) e
    (aside-fewer t.block t.buffer t.held (take_rows t.block lba (count * t.block) t.held) t.waiting (λ row n free. free-taken t.block row n lba (count * t.block) t.held some free)
    (fewer-taken t.block lba (count * t.block) t.held some) i)
effect-aside t order cdb old dropped (ModeSelect pf sp list) effect some finds fills i does = absurd cc
effect-aside t order cdb old dropped (ModeSense dbd pc page allocation) effect some finds fills i does = absurd cc
effect-aside t order cdb old dropped (XdWriteExtended dpo fua false lba second count address) effect some finds fills i does =
    let e : xdwrite_extended_effect order cdb t.held old dropped lba ≡ effect = cc in
    subst (λ (x : Effect). IsAsideFree t.block t.buffer x.held t.waiting) e i
effect-aside t order cdb old dropped (XdWriteExtended dpo fua true lba second count address) effect some finds fills i does =
    let e : xdwrite_extended_disabled_effect order cdb t.held old lba ≡ effect = cc in
    subst (λ (x : Effect). IsAsideFree t.block t.buffer x.held t.waiting) e i
effect-aside t order cdb old dropped (Rebuild dpo fua intdata lba count list) effect some finds fills i does =
    let e : write_effect order cdb t.held lba ≡ effect = cc in
    subst (λ (x : Effect). IsAsideFree t.block t.buffer x.held t.waiting) e i
effect-aside t order cdb old dropped (Regenerate dpo fua intdata lba count list) effect some finds fills i does =
    let e : xdwrite_disabled_effect order cdb t.held old lba ≡ effect = cc in
    subst (λ (x : Effect). IsAsideFree t.block t.buffer x.held t.waiting) e
    (aside-held t lba count order.owner (xor old order.bytes) (finds refl).apart (finds refl).room (ap (λ (x : Effect). held_blocks t.block x.held) e ∙ fills refl) i)

-- a command that is done leaves a target
pub done-target : (t : TargetState) (order : Order) (command : Command) (bytes : List ℕ) (after : TargetState) → IsTarget t →
    has_failed t.number t.past ≡ false → length order.bytes ≡ bytes_due t.block command →
    (is_take command ≡ true → holder_of t.block (row_of command) (count_of command * t.block) t.held ≡ None → ⊥) →
    (is_kept command ≡ true → FindsRoom t command) → IsDone t order command bytes after → IsTarget after
done-target t order command bytes after i sound due held finds d =
    let contents = rewritten t.block (row_of command) d.effect.written t.contents in
    let s = sound-effect t order d.cdb d.old (drops_next t.number t.past) command contents after.faults d.effect sound due held d.stood d.does in
    let entry = next_entry t order.stamp d.effect.event in
    subst (λ (x : TargetState). IsTarget x) (sym d.grown) (record {
      some = i.some;
      recorded = step-recorded t entry d.effect.held (row_of command) d.effect.written contents after.faults refl i.recorded s.keeps;
      failures = quiet-failures t.number t.faults after.faults entry t.past s.quiet d.counted i.failures;
      aside = effect-aside t order d.cdb d.old (drops_next t.number t.past) command d.effect i.some finds
          (λ kept. ap (λ (x : TargetState). held_blocks t.block x.held) (sym d.grown) ∙ d.fills kept) i.aside d.does;
      gathers = i.gathers;
    })

-- whatever a disk held, a loss leaves nothing held; what a failed medium holds isn't asked
lost-recorded : (t : TargetState) (stamp faults : ℕ) (contents told-by : Option (List ℕ)) →
    IfSome told-by (IsRecorded (record t { past = next_entry t stamp (loss_here t 0) ∷ t.past; held = []; contents = contents; faults = faults }))
lost-recorded t stamp faults contents None = tt
lost-recorded t stamp faults contents (Some told) =
    let entry = next_entry t stamp (loss_here t 0) in
    record {
      held = sym (held-here (target_setting t) t.number entry t.past refl);
      media = λ sound. absurd (false≢true (sym sound ∙ chosen_here (t.number + 1) (t.number + 1) true (has_failed t.number t.past) refl));
    }

-- a disk that failed leaves a target
pub struck-target : (never_fails : Bool) (t : TargetState) (stamp : ℕ) (after : TargetState) → IsTarget t → length after.past < 2 ^ 63 → IsStruck never_fails t stamp after → IsTarget after
struck-target never_fails t stamp after i few s =
    let entry = next_entry t stamp (loss_here t 0) in
    let short = subst (λ (x : TargetState). length x.past < 2 ^ 63) s.grown few in
    subst (λ (x : TargetState). IsTarget x) (sym s.grown) (record {
      some = i.some;
      recorded = told-waiting (record t { past = entry ∷ t.past; held = []; contents = after.contents; faults = after.faults }) (without_gatherings t.waiting) after.contents
          (lost-recorded t stamp after.faults after.contents after.contents);
      failures = risen-failures t.number t.faults after.faults entry t.past s.failed.risen short i.failures;
      aside = aside-fewer t.block t.buffer t.held [] (without_gatherings t.waiting) (λ row n free. refl) (omega arith) (aside-left t.block t.buffer t.held sends t.waiting i.aside);
      gathers = all-filtered (λ (w : Waiting). IsUnderWayIf t.block t.rows w.owner w.gathering) sends t.waiting i.gathers;
    })

-- a command of blocks leaves a target, done or failed
pub acted-target : (never_fails : Bool) (t : TargetState) (order : Order) (command : Command) (answer : Answer) (after : TargetState) → IsTarget t →
    has_failed t.number t.past ≡ false → length order.bytes ≡ bytes_due t.block command →
    (is_take command ≡ true → holder_of t.block (row_of command) (count_of command * t.block) t.held ≡ None → ⊥) →
    (is_kept command ≡ true → FindsRoom t command) → IsFewWhereGone after.past answer → IsActed never_fails t order command answer after → IsTarget after
acted-target never_fails t order command answer after i sound due held finds few (Does bytes done says) = done-target t order command bytes after i sound due held finds done
acted-target never_fails t order command answer after i sound due held finds few (Fails struck says) =
    struck-target never_fails t order.stamp after i (subst (λ (a : Answer). IsFewWhereGone after.past a) says few) struck

-- who waits is nothing to the disk
pub waiting-target : (t : TargetState) (waiting : List Waiting) → IsTarget t → IsAsideFree t.block t.buffer t.held waiting → AllByRecursion (λ (w : Waiting). IsUnderWayIf t.block t.rows w.owner w.gathering) waiting →
    IsTarget (record t { waiting = waiting })
waiting-target t waiting i aside gathers = record {
  some = i.some;
  recorded = told-waiting t waiting t.contents i.recorded;
  failures = i.failures;
  aside = aside;
  gathers = gathers;
}

-- one more waits
pub more-waiting : (t : TargetState) (ws : List Waiting) (w : Waiting) → IsTarget t → t.waiting ≡ ws → IsAsideFree t.block t.buffer t.held (ws ++ w ∷ []) →
    IsUnderWayIf t.block t.rows w.owner w.gathering →
    IsTarget (record t { waiting = ws ++ w ∷ [] })
more-waiting t ws w i same aside way =
    waiting-target t (ws ++ w ∷ []) i aside
    (subst (λ (l : List Waiting). AllByRecursion (λ (x : Waiting). IsUnderWayIf t.block t.rows x.owner x.gathering) (l ++ w ∷ [])) same
    (all-more (λ (x : Waiting). IsUnderWayIf t.block t.rows x.owner x.gathering) t.waiting w i.gathers way))

-- an XDWRITE EXTENDED leaves a target, sent, dropped or failed
pub sent-target : (never_fails : Bool) (t : TargetState) (order : Order) (command : Command) (second count address : ℕ) (answer : Answer) (after : TargetState) → IsTarget t →
    has_failed t.number t.past ≡ false → length order.bytes ≡ bytes_due t.block command →
    (is_take command ≡ true → holder_of t.block (row_of command) (count_of command * t.block) t.held ≡ None → ⊥) →
    (is_kept command ≡ true → FindsRoom t command) → IsFewWhereGone after.past answer → IsSent never_fails t order command second count address answer after → IsTarget after
sent-target never_fails t order command second count address answer after i sound due held finds few (Sends delta done undropped d waits says) =
    let names = next_name t order.stamp ∷ [] in
    let same : done.waiting ≡ t.waiting = ap (λ (x : TargetState). x.waiting) d.grown in
    let i' = done-target t order command delta done i sound due held finds d in
    subst (λ (x : TargetState). IsTarget x) (sym waits)
    (more-waiting done t.waiting (record { owner = order.owner; made = names; gathering = None }) i' same
    (aside-waits done.block done.buffer done.held t.waiting order.owner names (subst (λ (ws : List Waiting). IsAsideFree done.block done.buffer done.held ws) same i'.aside)) tt)
sent-target never_fails t order command second count address answer after i sound due held finds few (Drops delta dropped d says) =
    done-target t order command delta after i sound due held finds d
sent-target never_fails t order command second count address answer after i sound due held finds few (Loses struck says) =
    struck-target never_fails t order.stamp after i (subst (λ (a : Answer). IsFewWhereGone after.past a) says few) struck
