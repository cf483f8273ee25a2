-- A host stands where it stood when an entry of a call that isn't its own comes; and what a report says of a call that was told.
use Rattle.std.specs.Prelude.{◌≡◌, ◌≢◌, ◌⊎◌, ℕ, zero, suc, true, false, List, [], ◌∷◌, take, drop, length, Option, Some, None}
use Rattle.std.specs.List.{AllByRecursion}
use Rattle.std.proofs.Common.{refl, ap, sym, ◌∙◌, subst, inl, inr}
use Rattle.std.proofs.lemmas.Bool.{cases_Bool, both_ways, false≢true}
use Rattle.stripe_layout.specs.declared.geometry.Geometry.{Geometry}
use Rattle.array_journal.specs.declared.entry.Entry.{Entry}
use Rattle.array_journal.specs.declared.event.Event.{Event}
use Rattle.array_journal.specs.declared.event.Event.TheVariants.{Fetch, Put, Diff, Take, Fold, Hold, Shut, Open, Close, Spoil}
use Rattle.array_journal.specs.declared.event.Why.TheVariants.{Illegal}
use Rattle.array_journal.specs.declared.setting.Setting.{Setting}
use Rattle.array_journal.specs.declared.task.Task.{Task}
use Rattle.array_journal.specs.Commands.{ends_command, opens_command, task_of}
use Rattle.array_journal.specs.May.{MayAt}
use Rattle.array_journal.specs.OwnEntries.{OfCommand, carries}
use Rattle.array_journal.specs.Run.{Grows}
use Rattle.host_requests.specs.Requests.{Request, Fails, Moves, Loses, Wipes, Replaces, Rebuilds, Resyncs, request_of}
use Rattle.host_scripts.specs.declared.script.Action.{Action}
use Rattle.host_scripts.specs.declared.script.Action.TheVariants as actions
use Rattle.stripe_check.specs.declared.command_summary.Tally.{Tally}
use Rattle.stripe_check.specs.declared.failure.Failure.{Failure}
use Rattle.stripe_check.specs.declared.failure.Failure.TheVariants as failures
use Rattle.stripe_check.specs.Replies.{reply_line}
use Rattle.stripe_check.specs.Steps.{call_of}
use Rattle.stripe_check.specs.Tallies.{tally_of, untold}
use Rattle.unit_plans.specs.declared.doings.Reply.{Reply}
use Rattle.unit_plans.specs.Buses.{BusSetting}
use Rattle.unit_plans.proofs.Left.{plans-left}
use Rattle.array_control.specs.declared.call_run.CallRun.{CallRun}
use Rattle.array_control.specs.declared.call_run.PieceRun.{PieceRun}
use Rattle.array_control.specs.ApartLaws.{IsOfThis}
use Rattle.array_control.specs.Arrays.{HasGrownBy, IsAtPiece, IsUnderWay}
use Rattle.array_control.specs.Begins.{IsOfHost, pieces_by}
use Rattle.array_control.specs.HostCalls.{calls_of, left_of}
use Rattle.array_control.specs.HostLaws.{OthersLeaveHosts, ToldCallsAreReported}
use Rattle.array_control.specs.Progress.{AreOfOthers, OpenNo, is_doing}
use Rattle.array_control.specs.Replies.{reply_of}
use Rattle.array_control.specs.ReplyLaws.{told_line}
use Rattle.array_control.specs.Turns.{AreNew, IsCurrent, WasTold, WereTold, not_taken, request_in}
use Rattle.array_control.proofs.Apart.{calls-apart, commands-call, none-again}
use Rattle.array_control.proofs.Progress.{others-leave}
use Rattle.array_control.proofs.Replies.{ended-told, refused-told}

-- ---- what a report says

-- the reply to a call of a host doesn't tell how many pieces were done
untallied : (g : Geometry) (action : Action) (bytes : List ℕ) (failure : Option Failure) (tally : Tally) → IsOfHost (request_of g action) →
    reply_of action bytes failure tally ≡ reply_of action bytes failure untold
untallied g (actions.Read lba count) bytes failure tally host = refl
untallied g (actions.Write lba sent) bytes failure tally host = refl
untallied g (actions.Fill lba count byte) bytes failure tally host = refl
untallied g (actions.Raw cdb sent) bytes failure tally host = refl
untallied g (actions.Lose target) bytes failure tally host = absurd host
untallied g (actions.Reset target) bytes failure tally host = absurd host
untallied g (actions.DropNext target) bytes failure tally host = absurd host
untallied g (actions.Replace target) bytes failure tally host = absurd host
untallied g (actions.Rebuild target) bytes failure tally host = absurd host
untallied g actions.Resync bytes failure tally host = absurd host

pub told-reported : ToldCallsAreReported
told-reported b journal n call reply told = by (request_of b.array.geometry call.action) refl told
  where
    by : (request : Request) → request_of b.array.geometry call.action ≡ request → WasTold b n call.action request reply journal →
        reply_line b.array.geometry journal n call ≡ told_line n call reply
    by (Moves t) is told =
        ended-told b.array.geometry journal n (length (pieces_by b t)) call told.bytes told.failure told.ended
        ∙ ap (told_line n call) (untallied b.array.geometry call.action told.bytes told.failure (tally_of n journal) (subst IsOfHost (sym is) tt) ∙ sym told.tells)
    by (Fails sense) is told =
        refused-told b.array.geometry journal n call sense told.refused
        ∙ ap (told_line n call)
        (untallied b.array.geometry call.action [] (Some (failures.Refused (Illegal sense))) (tally_of n journal) (subst IsOfHost (sym is) tt) ∙ sym told.tells)
    by (Loses target) is told = absurd told
    by (Wipes target what) is told = absurd told
    by (Replaces target) is told = absurd told
    by (Rebuilds target) is told = absurd told
    by Resyncs is told = absurd told

-- ---- entries that carry a command

-- an opening stands in the book
opens-in_book : (s : Setting) (past : List Entry) (stamp lock c : ℕ) (event : Event) → MayAt s past stamp lock event → opens_command c event ≡ true → lock ≡ 0
opens-in_book s past stamp zero c event may opens = refl
opens-in_book s past stamp (suc i) c (Open command task) may opens = absurd may.1
opens-in_book s past stamp (suc i) c _ may opens = absurd (false≢true opens)

-- what carries a command opens it, ends it or is done for it
carried-ways : (c : ℕ) (event : Event) → carries (OfCommand c) event ≡ true →
    ((is_doing c event ≡ true) ⊎ (ends_command c event ≡ true)) ⊎ (opens_command c event ≡ true)
carried-ways c (Fetch command opened cdb row bytes) h = inl (inl h)
carried-ways c (Put command opened cdb row bytes names) h = inl (inl h)
carried-ways c (Diff command opened cdb row bytes sent dropped back) h = inl (inl h)
carried-ways c (Take command opened cdb row bytes) h = inl (inl h)
carried-ways c (Fold command opened cdb row bytes names) h = inl (inl h)
carried-ways c (Hold command opened cdb row bytes kept names back) h = inl (inl h)
carried-ways c (Shut command opened acted lost) h = inl (inl h)
carried-ways c (Close command done names cause bytes) h = inl (inr h)
carried-ways c (Spoil command diff loss shut) h = inl (inr h)
carried-ways c (Open command task) h = inr h
carried-ways c _ h = absurd (false≢true h)

-- an entry of one call carries no command of another
others-carry_none : (s : Setting) (c n : ℕ) (task : Task) (e : Entry) (past : List Entry) → Grows s (e ∷ past) → task_of c past ≡ Some task → task.call ≢ n →
    IsOfThis n e past → carries (OfCommand c) e.event ≡ false
others-carry_none s c n task e past grows its other of_this = elim (cases_Bool (carries (OfCommand c) e.event)) [
  | inl carried ↦ absurd (by (carried-ways c e.event carried))
  | inr none ↦ none
]
  where
    apart : (call_of e.event past ≡ Some n) ⊎ (call_of e.event past ≡ None) → call_of e.event past ≡ Some task.call → ⊥
    apart (inl this) own = other cc
    apart (inr none) own = cc

    by : ((is_doing c e.event ≡ true) ⊎ (ends_command c e.event ≡ true)) ⊎ (opens_command c e.event ≡ true) → ⊥
    by (inl does) = apart of_this (commands-call c task e past its does)
    by (inr opens) = both_ways (opens_command c e.event)
        ((none-again s c task (e ∷ []) past grows its).0 (opens-in_book s past e.stamp e.lock c e.event grows.0.1.1 opens)) opens

-- ---- the calls that have other numbers

abbrev AreApart : ℕ → List (ℕ × Action) → Type 0
AreApart n calls = AllByRecursion (λ (call : ℕ × Action). call.0 ≢ n) calls

first-apart : (n k : ℕ) (calls : List (ℕ × Action)) → AreApart n calls → AreApart n (take k calls)
first-apart n zero calls apart = tt
first-apart n (suc k) [] apart = tt
first-apart n (suc k) (call ∷ calls) apart = (apart.0, first-apart n k calls apart.1)

left-apart : (n k : ℕ) (calls : List (ℕ × Action)) → AreApart n calls → AreApart n (drop k calls)
left-apart n zero calls apart = apart
left-apart n (suc k) [] apart = tt
left-apart n (suc k) (call ∷ calls) apart = left-apart n k calls apart.1

not_taken-apart : (n : ℕ) (current : Option CallRun) (left : List (ℕ × Action)) → AreApart n left → AreApart n (not_taken current left)
not_taken-apart n None left apart = apart
not_taken-apart n (Some call) left apart = left-apart n 1 left apart

-- ---- what stays with an entry of another call

module _ (b : BusSetting) (n : ℕ) (request : Request) (journal now : List Entry) (grown : HasGrownBy b n request journal now) where
  others : (k : ℕ) → k ≢ n → AreOfOthers k (grown.entry ∷ []) journal
  others k other = calls-apart n k (grown.entry ∷ []) journal (λ q. other (sym q)) (grown.is_for.of_this, tt)

  -- what calls were told
  one-stays : (k : ℕ) (action : Action) (asked : Request) (reply : Reply) → k ≢ n → WasTold b k action asked reply journal →
      WasTold b k action asked reply (grown.entry ∷ journal)
  one-stays k action (Moves t) reply other told = record {
    bytes = told.bytes;
    failure = told.failure;
    ended = (others-leave b.array.geometry k (length (pieces_by b t)) told.bytes (grown.entry ∷ []) journal (others k other)).ended told.failure told.ended;
    tells = told.tells;
  }
  one-stays k action (Fails sense) reply other told = record {
    refused = (others-leave b.array.geometry k 0 [] (grown.entry ∷ []) journal (others k other)).refused sense told.refused;
    tells = told.tells;
  }
  one-stays k action (Loses target) reply other told = absurd told
  one-stays k action (Wipes target what) reply other told = absurd told
  one-stays k action (Replaces target) reply other told = absurd told
  one-stays k action (Rebuilds target) reply other told = absurd told
  one-stays k action Resyncs reply other told = absurd told

  all-stay : (calls : List (ℕ × Action)) (replies : List Reply) → AreApart n calls → WereTold b calls replies journal →
      WereTold b calls replies (grown.entry ∷ journal)
  all-stay [] [] apart told = tt
  all-stay [] (reply ∷ replies) apart told = absurd told
  all-stay (call ∷ calls) [] apart told = absurd told
  all-stay (call ∷ calls) (reply ∷ replies) apart told =
      (one-stays call.0 call.1 (request_in b call) reply apart.0 told.0, all-stay calls replies apart.1 told.1)

  pub told-stays : (calls : List (ℕ × Action)) (replies : List Reply) → AreApart n calls → WereTold b calls replies journal → WereTold b calls replies now
  told-stays calls replies apart told = subst (WereTold b calls replies) (sym grown.newest) (all-stay calls replies apart told)

  -- that there is no entry of them
  all-new : (calls : List (ℕ × Action)) → AreApart n calls → AreNew calls journal → AreNew calls (grown.entry ∷ journal)
  all-new [] apart new = tt
  all-new (call ∷ calls) apart new = ((grown.is_for.own call.0 apart.0, new.0), all-new calls apart.1 new.1)

  pub new-stays : (calls : List (ℕ × Action)) → AreApart n calls → AreNew calls journal → AreNew calls now
  new-stays calls apart new = subst (AreNew calls) (sym grown.newest) (all-new calls apart new)

  -- how far a call is in its pieces, in a run
  module _ (grows : Grows b.array now) where
    grown-grows : Grows b.array (grown.entry ∷ journal)
    grown-grows = subst (Grows b.array) grown.newest grows

    piece-stays : (k count piece : ℕ) (read : List ℕ) (doing : Option PieceRun) → k ≢ n → IsAtPiece b k count piece read doing journal →
        IsAtPiece b k count piece read doing (grown.entry ∷ journal)
    piece-stays k count piece read None other at =
        (others-leave b.array.geometry k count read (grown.entry ∷ []) journal (others k other)).come piece at
    piece-stays k count piece read (Some doing) other at =
        let c : ℕ = doing.plan.command in let task : Task = doing.plan.task in
        let apart : OpenNo c (grown.entry ∷ []) = none-again b.array c task (grown.entry ∷ []) journal grown-grows at.serving.its_task in
        let not_own : carries (OfCommand c) grown.entry.event ≡ false =
        others-carry_none b.array c n task grown.entry journal grown-grows at.serving.its_task (λ q. other (sym at.serving.of_call ∙ q)) grown.is_for.of_this in
        record {
          more = at.more;
          serving = (others-leave b.array.geometry k count read (grown.entry ∷ []) journal (others k other)).serving piece c task at.more apart at.serving;
          plan = at.plan;
          asked = plans-left b doing.plan doing.next (grown.entry ∷ []) journal at.plan grown-grows (not_own, tt) at.asked;
          told = at.told;
        }

    pub way-stays : (call : CallRun) → call.number ≢ n → IsUnderWay b call journal → IsUnderWay b call now
    way-stays call other way = record {
      transfer = way.transfer;
      counted = way.counted;
      at_piece = subst (IsAtPiece b call.number call.count call.piece call.read call.doing) (sym grown.newest)
          (piece-stays call.number call.count call.piece call.read call.doing other way.at_piece);
    }

    current-stays : (left : List (ℕ × Action)) (current : Option CallRun) → AreApart n left → IsCurrent b left current journal → IsCurrent b left current now
    current-stays left None apart taken = tt
    current-stays [] (Some call) apart taken = absurd taken
    current-stays (next ∷ left) (Some call) apart taken = record {
      number = taken.number;
      asks = taken.asks;
      way = way-stays call (λ q. apart.0 (sym taken.number ∙ q)) taken.way;
      more = taken.more;
    }

pub others-leave_hosts : OthersLeaveHosts
others-leave_hosts b run n request journal now setting grows grown apart stands =
    let left : AreApart n (left_of run) = left-apart n (length run.replies) (calls_of run.host run.calls) apart in record {
      told = told-stays b n request journal now grown (take (length run.replies) (calls_of run.host run.calls)) run.replies
          (first-apart n (length run.replies) (calls_of run.host run.calls) apart) stands.told;
      current = current-stays b n request journal now grown grows (left_of run) run.current left stands.current;
      new = new-stays b n request journal now grown (not_taken run.current (left_of run)) (not_taken-apart n run.current (left_of run) left) stands.new;
      hosts = stands.hosts;
    }
