-- What befalls a target leaves one whose disk is what its entries say.
use Rattle.std.specs.Prelude.{◌≡◌, ◌≢◌, ◌==◌, ◌||◌, ◌+◌, ◌*◌, not, ℕ, Bool, true, List, [], ◌∷◌, filter, Option, Some, None, option_map, IfSome}
use Rattle.std.proofs.Common.{refl, ap, sym, ◌∙◌, subst, cond, arith}
use Rattle.std.proofs.lemmas.Bool.{ne_eqb}
use Rattle.blocks_core.specs.Xor.{zeros}
use Rattle.xor_buffers.specs.declared.held.HeldBlocks.{HeldBlocks}
use Rattle.array_journal.specs.declared.at.At.{At}
use Rattle.array_journal.specs.declared.event.Event.{Event}
use Rattle.array_journal.specs.declared.event.Event.TheVariants.{Fresh}
use Rattle.array_journal.proofs.runs.Steps.{media-here, held-here, chosen_here}
use Rattle.xor_target.specs.declared.answer.ShutAnswer.{ShutAnswer}
use Rattle.xor_target.specs.declared.answer.GoneAt.{GoneAt}
use Rattle.xor_target.specs.declared.waiting.Waiting.{Waiting}
use Rattle.xor_target.specs.Gathers.{IsUnderWayIf}
use Rattle.xor_target.specs.Waits.{sends, without_gathering, without_gatherings}
use Rattle.xor_target.specs.State.{TargetState, IsRecorded, IsTarget, target_setting, has_failed, has_failed_after}
use Rattle.xor_target.specs.Answers.{next_entry, loss_here}
use Rattle.xor_target.specs.Befalls.{IsShut, IsLost, IsReset, IsDropping, IsFresh, shut_event, reset_event, drop_event}
use Rattle.xor_target.proofs.Recorded.{step-recorded, told-waiting, quiet-failures}
use Rattle.xor_target.proofs.WaitLists.{all-filtered}
use Rattle.xor_target.proofs.Asides.{free-filtered, fewer-filtered}
use Rattle.xor_target.proofs.AsideStates.{aside-fewer, aside-left}

-- an entry that neither is a failure nor ends one leaves it
same-failed : (t : TargetState) (stamp : ℕ) (event : Event) → has_failed_after event (has_failed t.number t.past) ≡ has_failed t.number t.past →
    has_failed t.number (next_entry t stamp event ∷ t.past) ≡ has_failed t.number t.past
same-failed t stamp event h = chosen_here (t.number + 1) (t.number + 1) _ _ refl ∙ h

pub shut-target : (t : TargetState) (owner : ℕ) (opened : At) (seen : ℕ) (answer : ShutAnswer) (after : TargetState) → IsTarget t → IsShut t owner opened seen answer after → IsTarget after
shut-target t owner opened seen answer after i s =
    let entry = next_entry t seen (shut_event t owner opened) in
    let left = filter (λ (h : HeldBlocks). not (h.owner == owner)) t.held in
    subst (λ (x : TargetState). IsTarget x) (sym s.grown) (record {
      some = i.some;
      recorded = told-waiting (record t { past = entry ∷ t.past; held = left; contents = t.contents; faults = t.faults }) (without_gathering owner t.waiting) t.contents
          (step-recorded t entry left 0 None t.contents t.faults refl i.recorded
          (λ told is r. record {
            held = ap (λ (hs : List HeldBlocks). filter (λ (h : HeldBlocks). not (h.owner == owner)) hs) r.held;
            media = λ sound. r.media (sym (same-failed t seen (shut_event t owner opened) refl) ∙ sound);
          }));
      failures = quiet-failures t.number t.faults t.faults entry t.past refl (omega arith) i.failures;
      aside = aside-left t.block t.buffer left (λ (w : Waiting). not (w.owner == owner) || sends w) t.waiting
          (aside-fewer t.block t.buffer t.held left t.waiting (λ row n free. free-filtered t.block row n (λ (h : HeldBlocks). not (h.owner == owner)) t.held free)
          (fewer-filtered t.block (λ (h : HeldBlocks). not (h.owner == owner)) t.held) i.aside);
      gathers = all-filtered (λ (w : Waiting). IsUnderWayIf t.block t.rows w.owner w.gathering) (λ (w : Waiting). not (w.owner == owner) || sends w) t.waiting i.gathers;
    })

-- a loss for a call leaves a medium as it was
lost-failed : (call : ℕ) (before : Bool) → call ≢ 0 → cond (call == 0) true before ≡ before
lost-failed call before h = ap (λ b. cond b true before) (ne_eqb call 0 h)

pub lost-target : (t : TargetState) (call seen : ℕ) (answer : GoneAt) (after : TargetState) → call ≢ 0 → IsTarget t → IsLost t call seen answer after → IsTarget after
lost-target t call seen answer after some i s =
    let entry = next_entry t seen (loss_here t call) in
    subst (λ (x : TargetState). IsTarget x) (sym s.grown) (record {
      some = i.some;
      recorded = told-waiting (record t { past = entry ∷ t.past; held = []; contents = t.contents; faults = t.faults }) (without_gatherings t.waiting) t.contents
          (step-recorded t entry [] 0 None t.contents t.faults refl i.recorded
          (λ told is r. record {
            held = refl;
            media = λ sound. r.media (sym (same-failed t seen (loss_here t call) (lost-failed call (has_failed t.number t.past) some)) ∙ sound);
          }));
      failures = quiet-failures t.number t.faults t.faults entry t.past (ne_eqb call 0 some) (omega arith) i.failures;
      aside = aside-left t.block t.buffer [] sends t.waiting (aside-fewer t.block t.buffer t.held [] t.waiting (λ row n free. refl) (omega arith) i.aside);
      gathers = all-filtered (λ (w : Waiting). IsUnderWayIf t.block t.rows w.owner w.gathering) sends t.waiting i.gathers;
    })

pub reset-target : (t : TargetState) (call seen : ℕ) (at : At) (after : TargetState) → IsTarget t → IsReset t call seen at after → IsTarget after
reset-target t call seen at after i s =
    let entry = next_entry t seen (reset_event t call) in
    subst (λ (x : TargetState). IsTarget x) (sym s.grown) (record {
      some = i.some;
      recorded = step-recorded t entry [] 0 None t.contents t.faults refl i.recorded
          (λ told is r. record { held = refl; media = λ sound. r.media (sym (same-failed t seen (reset_event t call) refl) ∙ sound) });
      failures = quiet-failures t.number t.faults t.faults entry t.past refl (omega arith) i.failures;
      aside = aside-fewer t.block t.buffer t.held [] t.waiting (λ row n free. refl) (omega arith) i.aside;
      gathers = i.gathers;
    })

pub dropping-target : (t : TargetState) (call seen : ℕ) (at : At) (after : TargetState) → IsTarget t → IsDropping t call seen at after → IsTarget after
dropping-target t call seen at after i s =
    let entry = next_entry t seen (drop_event call) in
    subst (λ (x : TargetState). IsTarget x) (sym s.grown) (record {
      some = i.some;
      recorded = step-recorded t entry t.held 0 None t.contents t.faults refl i.recorded
          (λ told is r. record { held = r.held; media = λ sound. r.media (sym (same-failed t seen (drop_event call) refl) ∙ sound) });
      failures = quiet-failures t.number t.faults t.faults entry t.past refl (omega arith) i.failures;
      aside = i.aside;
      gathers = i.gathers;
    })

-- a fresh disk is zeros, and holds nothing
fresh-recorded : (t : TargetState) (call : ℕ) (swap : At) (seen faults rows : ℕ) (told-by contents : Option (List ℕ)) →
    IfSome (option_map (λ (told : List ℕ). zeros (t.rows * t.block)) told-by)
    (IsRecorded (record t { page = t.first; past = next_entry t seen (Fresh call swap) ∷ t.past; held = []; contents = contents; faults = faults }))
fresh-recorded t call swap seen faults rows None contents = tt
fresh-recorded t call swap seen faults rows (Some told) contents =
    let entry = next_entry t seen (Fresh call swap) in
    let all : t.rows ≡ 1 * t.rows + 0 = omega arith in
    record {
      held = sym (held-here (target_setting t) t.number entry t.past refl);
      media = λ sound. ap (λ n. zeros (n * t.block)) all ∙ sym (media-here (target_setting t) t.number entry t.past refl);
    }

pub fresh-target : (t : TargetState) (call : ℕ) (swap : At) (seen : ℕ) (after : TargetState) → IsTarget t → IsFresh t call swap seen after → IsTarget after
fresh-target t call swap seen after i s =
    let entry = next_entry t seen (Fresh call swap) in
    subst (λ (x : TargetState). IsTarget x) (sym s.grown) (record {
      some = i.some;
      recorded = fresh-recorded t call swap seen after.faults t.rows t.contents (option_map (λ (told : List ℕ). zeros (t.rows * t.block)) t.contents);
      failures = quiet-failures t.number t.faults after.faults entry t.past refl s.counted i.failures;
      aside = aside-fewer t.block t.buffer t.held [] t.waiting (λ row n free. refl) (omega arith) i.aside;
      gathers = i.gathers;
    })
