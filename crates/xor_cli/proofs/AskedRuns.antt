-- A controller that serves the calls of a script in their turn makes the journal that they ask for.
use Rattle.std.specs.Prelude.{nat_le, ◌/◌}
use Rattle.std.proofs.Common.{◌≡◌, ℕ, suc, ◌+◌, ◌*◌, ◌<◌, ◌≤◌, Bool, true, false, List, [], ◌∷◌, length, refl, ap, sym, ◌∙◌, subst, arith, add-one, cond, inl, inr, get_or, reverse, Some}
use Rattle.std.specs.Prelude.{filter, slice_get}
use Rattle.std.specs.List.{AllByRecursion, list_all}
use Rattle.std.proofs.lemmas.Bool.{and_from, and_parts}
use Rattle.std.proofs.lemmas.Option.{slice_get_read, slice_get_within, get_or_from_slice_get}
use Rattle.host_scripts.specs.declared.script.Script.{Script}
use Rattle.host_scripts.specs.declared.script.Call.{Call}
use Rattle.host_scripts.specs.declared.script.Action.{Action}
use Rattle.host_scripts.specs.declared.script.Action.TheVariants as actions
use Rattle.host_scripts.specs.Scripts.{IsCall, IsAction}
use Rattle.array_journal.specs.declared.entry.Entry.{Entry}
use Rattle.array_journal.specs.declared.setting.Setting.{Setting}
use Rattle.array_journal.specs.declared.task.Kind.TheVariants.{Read, Update}
use Rattle.array_journal.specs.declared.task.Task.{Task}
use Rattle.array_journal.specs.Commands.{open_count}
use Rattle.array_journal.specs.Calm.{Calm, Quiet}
use Rattle.array_journal.specs.Run.{IsSetting, NoneOpen}
use Rattle.array_journal.proofs.runs.GuardedRuns.{guarded_law}
use Rattle.array_journal.proofs.owed.KeptRuns.{conserved_law}
use Rattle.array_journal.proofs.calm.Opening.{read-decided, update-decided}
use Rattle.array_journal.proofs.reads.ReadsRight.{legal_law}
use Rattle.stripe_check.specs.Asked.{IsAskedOf, IsServed as IsCallServed, goes_back, is_of_host, calls_seen}
use Rattle.host_requests.specs.Begins.{Opening}
use Rattle.host_requests.specs.Requests.{request_of, call_at, reading, writing, Transfer}
use Rattle.host_requests.specs.Settings.{setting_of}
use Rattle.stripe_check.specs.Steps.{Begins, Ends, Done, steps_of}
use Rattle.stripe_check.proofs.OnePiece.{pieces-one, moved-read, moved-write}
use Rattle.xor_cli.specs.Arrays.{Array}
use Rattle.xor_cli.specs.Headline.{IsJournalOf}
use Rattle.xor_cli.specs.Rest.{IsAtRest, IsAnswer}
use Rattle.xor_cli.specs.Tasks.{read_task, write_task, HasServed}
use Rattle.xor_cli.proofs.Today.{CanRun, CanCall, CanDo}
use Rattle.xor_cli.proofs.Answered.{IsBegun, going-read, going-update}
use Rattle.xor_cli.proofs.CleanRuns.{dirty-calm, no_medium_loss-calm}
use Rattle.xor_cli.proofs.FirstCalls.{whole-blocks, all-get_or}
use Rattle.xor_cli.proofs.Going.{Going, going-next}
use Rattle.xor_cli.proofs.OnePieces.{IsOnePiece, opens-one, steps-serve, all-served, write-whole}

-- ---- a call is one piece

-- the job of a call of such a script is one piece
one-piece : (script : Script) (number : ℕ) (call : Call) (action : Action) → CanRun script → call_at script.calls number ≡ Some call → call.action ≡ action →
    IsAction script.geometry action → CanDo script action → (t : Transfer) × IsOnePiece script number call t
one-piece script number call (actions.Read lba count) can there is spelt fit = (
  reading lba count [],
  record {
    there = there;
    job = ap (request_of script.geometry) is ∙ moved-read script.geometry lba count fit.within;
    whole = pieces-one script lba count fit.some fit.most (omega (arith, fit.some, fit.in_unit));
  },
)
one-piece script number call (actions.Write lba bytes) can there is spelt fit =
    let count : ℕ = length bytes / script.geometry.block in
    let whole : length bytes ≡ count * script.geometry.block = whole-blocks (length bytes) script.geometry.block can.in_range.geometry.least_block spelt.2.0.1 in (
      writing lba count bytes,
      record {
        there = there;
        job = ap (request_of script.geometry) is ∙ moved-write script.geometry lba count bytes fit.within whole;
        whole = pieces-one script lba count fit.some fit.most (omega (arith, fit.some, fit.in_unit));
      },
    )
one-piece script number call _ can there is spelt fit = absurd fit

-- ---- one more call

-- the entries of a task serve the call at work
answer-goes : (script : Script) (s : Setting) (number : ℕ) (task : Task) (past later : List Entry) → IsBegun script number past task → Going script number [] past →
    IsAnswer s task past later → Going script (suc number) [] later
answer-goes script s number task past later begun going (inl (cdb, is)) =
    going-next script number (open_count past) later
    (subst (Going script number (Begins 0 (open_count past) ∷ Ends (open_count past) Done ∷ [])) (sym is) (going-read script number past task begun going s cdb))
answer-goes script s number task past later begun going (inr (diff, (take, (fold, is)))) =
    going-next script number (open_count past) later
    (subst (Going script number (Begins 0 (open_count past) ∷ Ends (open_count past) Done ∷ [])) (sym is) (going-update script number past task begun going s diff take fold))

call-goes : (script : Script) (old new : Array) (number : ℕ) (call : Call) (action : Action) → CanRun script → old.setting ≡ setting_of script →
    1 ≤ number → number ≤ length script.calls → call_at script.calls number ≡ Some call → call.action ≡ action → IsAction script.geometry action → CanDo script action →
    Quiet (setting_of script) (reverse old.journal) → Going script number [] (reverse old.journal) → HasServed old new number action →
    Going script (suc number) [] (reverse new.journal)
call-goes script old new number call (actions.Read lba count) can same least most there is spelt fit quiet going served =
    let past : List Entry = reverse old.journal in
    let task : Task = read_task script.geometry number lba count in
    let one : IsOnePiece script number call (reading lba count []) = record {
      there = there;
      job = ap (request_of script.geometry) is ∙ moved-read script.geometry lba count fit.within;
      whole = pieces-one script lba count fit.some fit.most (omega (arith, fit.some, fit.in_unit));
    } in
    let begun : IsBegun script number past task = record {
      call = refl;
      piece = refl;
      least = least;
      most = most;
      begun = opens-one script number call (reading lba count []) past Read one (read-decided (setting_of script) past task quiet refl);
    } in
    let answered : IsAnswer old.setting task past (reverse new.journal) =
    subst (λ (s : Setting). IsAnswer old.setting (read_task s.geometry number lba count) past (reverse new.journal)) same served.answered in
    answer-goes script old.setting number task past (reverse new.journal) begun going answered
call-goes script old new number call (actions.Write lba bytes) can same least most there is spelt fit quiet going served =
    let past : List Entry = reverse old.journal in
    let count : ℕ = length bytes / script.geometry.block in
    let task : Task = write_task script.geometry number lba bytes in
    let whole : length bytes ≡ count * script.geometry.block = whole-blocks (length bytes) script.geometry.block can.in_range.geometry.least_block spelt.2.0.1 in
    let one : IsOnePiece script number call (writing lba count bytes) = record {
      there = there;
      job = ap (request_of script.geometry) is ∙ moved-write script.geometry lba count bytes fit.within whole;
      whole = pieces-one script lba count fit.some fit.most (omega (arith, fit.some, fit.in_unit));
    } in
    let begun : IsBegun script number past task = record {
      call = refl;
      piece = refl;
      least = least;
      most = most;
      begun = opens-one script number call (writing lba count bytes) past Update one (update-decided (setting_of script) past task quiet refl)
          ∙ ap (λ (t : Task). Some (Opening t)) (write-whole script number lba count bytes Update whole);
    } in
    let answered : IsAnswer old.setting task past (reverse new.journal) =
    subst (λ (s : Setting). IsAnswer old.setting (write_task s.geometry number lba bytes) past (reverse new.journal)) same served.answered in
    answer-goes script old.setting number task past (reverse new.journal) begun going answered
call-goes script old new number call _ can same least most there is spelt fit quiet going served = absurd fit

-- who served a call is at rest again
pub served-rest : (old new : Array) (number : ℕ) (action : Action) → HasServed old new number action → IsAtRest new × (new.setting ≡ old.setting)
served-rest old new number (actions.Read lba count) served = (served.rest, served.setting)
served-rest old new number (actions.Write lba bytes) served = (served.rest, served.setting)
served-rest old new number _ served = absurd served

-- what holds of all calls holds of the call of a place
all-at : {X : Type 0} (P : X → Type 0) (xs : List X) (i : ℕ) (x : X) → AllByRecursion P xs → slice_get xs i ≡ Some x → P x
all-at P xs i x all is = subst P (get_or_from_slice_get xs i x x is) (all-get_or P xs i x all (slice_get_within xs i x is))

-- a controller served the call of a place
pub served-goes : (script : Script) (old new : Array) (place : ℕ) (call : Call) → CanRun script → old.setting ≡ setting_of script → place < length script.calls →
    call ≡ get_or script.calls place call → IsAtRest old → Going script (place + 1) [] (reverse old.journal) → HasServed old new (place + 1) call.action →
    Going script (place + 1 + 1) [] (reverse new.journal)
served-goes script old new place call can same below is rest going served =
    let there : slice_get script.calls place ≡ Some call = slice_get_read script.calls (length script.calls) place call refl below is in
    let number : place + 1 ≡ suc place = add-one place in
    let own : CanCall script call = all-at (CanCall script) script.calls place call can.calls there in
    let spelt : IsCall script call = all-at (IsCall script) script.calls place call can.in_range.calls there in
    let quiet : Quiet (setting_of script) (reverse old.journal) = subst (λ (s : Setting). Quiet s (reverse old.journal)) same rest.calm.quiet in
    subst (λ (n : ℕ). Going script n [] (reverse new.journal)) (ap suc (sym number) ∙ sym (add-one (place + 1)))
    (call-goes script old new (suc place) call call.action can same (omega arith) (omega (arith, below)) there refl spelt.1 own.1 quiet
    (subst (λ (n : ℕ). Going script n [] (reverse old.journal)) number going) (subst (λ (n : ℕ). HasServed old new n call.action) number served))

-- ---- all calls

all-filtered : (p q : ℕ → Bool) (l : List ℕ) → list_all q l ≡ true → list_all q (filter p l) ≡ true
all-filtered p q [] h = refl
all-filtered p q (m ∷ l) h =
    let parts = and_parts (q m) (list_all q l) h in
    by_test (p m) parts.0 (all-filtered p q l parts.1)
  where
    by_test : (b : Bool) → q m ≡ true → list_all q (filter p l) ≡ true → list_all q (cond b (m ∷ filter p l) (filter p l)) ≡ true
    by_test true own rest = and_from (q m) (list_all q (filter p l)) own rest
    by_test false own rest = rest

-- the calls of one host go back no further than all fit
one-host : (p : ℕ → Bool) (calls : List ℕ) → goes_back calls ≡ true → goes_back (filter p calls) ≡ true
one-host p [] h = refl
one-host p (n ∷ older) h =
    let parts = and_parts (list_all (λ m. nat_le m n) older) (goes_back older) h in
    by_test (p n) (all-filtered p (λ m. nat_le m n) older parts.0) (one-host p older parts.1)
  where
    by_test : (b : Bool) → list_all (λ m. nat_le m n) (filter p older) ≡ true → goes_back (filter p older) ≡ true → goes_back (cond b (n ∷ filter p older) (filter p older)) ≡ true
    by_test true all back = and_from (list_all (λ m. nat_le m n) (filter p older)) (goes_back (filter p older)) all back
    by_test false all back = back

asked-of : (script : Script) (number : ℕ) (past : List Entry) → CanRun script → number ≡ length script.calls + 1 → Going script number [] past → NoneOpen past →
    IsAskedOf script past
asked-of script number past can all going closed = record {
  in_turn = λ host h. one-host (is_of_host script host) (calls_seen past) going.back;
  served = all-served script past script.calls 1 each;
  decided = going.decided;
  owned = going.owned;
  closed = closed;
}
  where
    each : (place : ℕ) (call : Call) → slice_get script.calls place ≡ Some call → IsCallServed script past (request_of script.geometry call.action) (steps_of (1 + place) past)
    each place call there =
        let own : CanCall script call = all-at (CanCall script) script.calls place call can.calls there in
        let spelt : IsCall script call = all-at (IsCall script) script.calls place call can.in_range.calls there in
        let below : place < length script.calls = slice_get_within script.calls place call there in
        let one = one-piece script (suc place) call call.action can there refl spelt.1 own.1 in
        let steps = going.before (suc place) (omega arith) (omega (arith, below, all)) in
        let number : 1 + place ≡ suc place = omega arith in
        subst (λ (n : ℕ). IsCallServed script past (request_of script.geometry call.action) (steps_of n past)) (sym number)
        (steps-serve script past (suc place) call one.0 steps.0 one.1 steps.1)

-- a controller that served all calls has the journal of the script
pub journal-of : (script : Script) (c : Array) (number : ℕ) → CanRun script → IsAtRest c → c.setting ≡ setting_of script → number ≡ length script.calls + 1 →
    Going script number [] (reverse c.journal) → IsJournalOf script c.journal
journal-of script c number can rest same all going =
    let setting : IsSetting (setting_of script) = subst IsSetting same rest.setting in
    let calm : Calm (setting_of script) (reverse c.journal) = subst (λ (s : Setting). Calm s (reverse c.journal)) same rest.calm in
    record {
      run = calm.grows;
      asked = asked-of script number (reverse c.journal) can all going calm.quiet.none_open;
      conserved = conserved_law (setting_of script) c.journal setting calm.grows;
      legal = legal_law (setting_of script) c.journal setting calm.grows;
      guarded = guarded_law (setting_of script) c.journal calm.grows;
      stamped = calm.quiet.stamped;
      none_open = calm.quiet.none_open;
      none_listed = dirty-calm (setting_of script) (length (reverse c.journal)) (open_count (reverse c.journal)) (reverse c.journal) calm.quiet.entries;
      none_failed = no_medium_loss-calm (length (reverse c.journal)) (open_count (reverse c.journal)) (reverse c.journal) calm.quiet.entries;
    }
