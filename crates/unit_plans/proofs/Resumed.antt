-- Whatever a target answers to what another target answered, it has no entry more or one that may follow the journal.
use Rattle.std.specs.Prelude.{◌≡◌, ◌++◌, ◌+◌, ℕ, Bool, true, false, List, [], ◌∷◌, Option, Some, None, is_some, is_none, option_map, unwrap_or, slice_get}
use Rattle.std.proofs.Common.{refl, ap, ◌∙◌, subst, inl, inr}
use Rattle.array_journal.specs.declared.at.At.{At}
use Rattle.array_journal.specs.declared.entry.Entry.{Entry}
use Rattle.array_journal.specs.declared.setting.Setting.{Setting}
use Rattle.array_journal.specs.Lives.{loss_of, is_gone}
use Rattle.array_journal.specs.Owners.{shut_at}
use Rattle.xor_target.specs.declared.answer.Answer.{Answer}
use Rattle.xor_target.specs.declared.answer.PeerBack.{PeerBack}
use Rattle.xor_target.specs.declared.answer.PeerBack.TheVariants as back
use Rattle.xor_target.specs.declared.waiting.Waiting.{Waiting}
use Rattle.xor_target.specs.Gathers.{GatheringState, done_order}
use Rattle.xor_target.specs.Resumes.{goes_on, is_sending, no_longer, IsContinued, Asks, Finishes, Ended, Folded, Refused, Continues, WantsMemory}
use Rattle.xor_target.specs.State.{TargetState}
use Rattle.xor_target.specs.Table.{first_answer}
use Rattle.xor_target.specs.Waits.{waiting_of, sends}
use Rattle.xor_target.proofs.Resuming.{gathering-goes}
use Rattle.unit_plans.specs.Targets.{StandsIn}
use Rattle.unit_plans.specs.Answered.{StaysOrGrows, AskedBack, CanEnd, ResumesMayFollow}
use Rattle.unit_plans.proofs.Befallen.{past-of}
use Rattle.unit_plans.proofs.Answered.{acted-follows}

-- who waits is nothing to where a target stands
stands-waiting : (s : Setting) (t : TargetState) (owner : ℕ) (journal : List Entry) → StandsIn s t journal → StandsIn s (no_longer t owner) journal
stands-waiting s t owner journal h = record {
  of_array = record { number = h.of_array.number; targets = h.of_array.targets; block = h.of_array.block; rows = h.of_array.rows; buffer = h.of_array.buffer };
  kept = record {
    told = h.kept.told;
    tells = h.kept.tells;
    recorded = record { held = h.kept.recorded.held; media = h.kept.recorded.media };
    rise = h.kept.rise;
  };
  entries = h.entries;
}

-- a disk of which nothing is told works
told-works : (shut loss : Option At) (said lost : At → Answer) → first_answer (option_map said shut ∷ option_map lost loss ∷ []) ≡ None → is_some loss ≡ false
told-works None None said lost h = refl
told-works None (Some at) said lost h = absurd cc
told-works (Some at) loss said lost h = absurd cc

-- a gathering that goes on has a disk that works
gathering-works : (t : TargetState) (owner : ℕ) (w : Waiting) (g : GatheringState) → goes_on t owner ≡ true → waiting_of owner t.waiting ≡ Some w → w.gathering ≡ Some g →
    is_gone t.number t.past ≡ false
gathering-works t owner w g goes waits gathers =
    let apart : is_sending t owner ≡ false = ap (λ (o : Option Waiting). unwrap_or (option_map sends o) false) waits ∙ ap (λ (o : Option GatheringState). is_none o) gathers in
    told-works (shut_at t.number owner t.past) (loss_of t.number t.past) _ _ (gathering-goes t owner goes apart)

continued-follows : (s : Setting) (never_fails : Bool) (t after : TargetState) (owner : ℕ) (w : Waiting) (g : GatheringState) (bytes : List ℕ) (made : List At) (seen : ℕ) (answer : Answer)
    (journal : List Entry) → StandsIn s t journal → is_gone t.number t.past ≡ false →
    (slice_get g.sources (g.answered + 1) ≡ None → CanEnd s t g (done_order g (w.made ++ made) bytes seen) journal) →
    IsContinued never_fails t owner w g bytes made seen answer after → StaysOrGrows s journal t after
continued-follows s never_fails t after owner w g bytes made seen answer journal h works asked (Asks source some says same) = inl (past-of same)
continued-follows s never_fails t after owner w g bytes made seen answer journal h works asked (Finishes done none acted says) =
    let can = asked none in
    let grown = acted-follows s never_fails (no_longer t owner) after (done_order g (w.made ++ made) bytes seen) g.admitted.command done journal (stands-waiting s t owner journal h) works
    (record { same_life = can.follows.same_life; asked = can.follows.asked }) can.commanded acted in
    inr (record { entry = grown.entry; grown = grown.grown; at_lock = grown.at_lock; may = grown.may })

pub resumes-follow : ResumesMayFollow
resumes-follow s never_fails t after owner peer seen answer journal h asked (Ended goes ended same) = inl (past-of same)
resumes-follow s never_fails t after owner peer seen answer journal h asked (Folded w bytes made waits none is says same) = inl (past-of same)
resumes-follow s never_fails t after owner peer seen answer journal h asked (Refused w goes waits is says same) = inl (past-of same)
resumes-follow s never_fails t after owner peer seen answer journal h asked (WantsMemory bytes made goes waits is says same) = inl (past-of same)
resumes-follow s never_fails t after owner peer seen answer journal h asked (Continues bytes made goes is c) =
    let good : AskedBack s t owner (back.Good bytes made) seen journal = subst (λ (p : PeerBack). AskedBack s t owner p seen journal) is asked in
    continued-follows s never_fails t after owner c.waiting c.gathering bytes made seen answer journal h (gathering-works t owner c.waiting c.gathering goes c.waits c.gathers)
    (good c.waiting c.gathering c.waits c.gathers) c.continued
