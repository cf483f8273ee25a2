-- A plan is followed by one entry: what the call has come to then.
use Rattle.std.specs.Prelude.{◌≡◌, ◌++◌, ◌⊎◌, ◌+◌, suc, ℕ, Bool, true, false, List, [], ◌∷◌, length, Option, Some, None}
use Rattle.std.proofs.Common.{refl, ap, sym, ◌∙◌, subst, cond, arith, inl, inr}
use Rattle.std.proofs.lemmas.List.{append-nil}
use Rattle.std.proofs.lemmas.Bool.{eq-eqb}
use Rattle.stripe_layout.specs.declared.mode.Mode.{Mode}
use Rattle.stripe_layout.specs.Modes.{takes_delta}
use Rattle.sbc_cdbs.specs.declared.descriptor.Cdb.{Cdb}
use Rattle.array_journal.specs.declared.act.Act.{Act as ActKind}
use Rattle.array_journal.specs.declared.act.Act.TheVariants.{Fetches, Puts, Diffs, Takes, Folds, Holds}
use Rattle.array_journal.specs.declared.at.At.{At}
use Rattle.array_journal.specs.declared.entry.Entry.{Entry}
use Rattle.array_journal.specs.declared.event.Event.{Event}
use Rattle.array_journal.specs.declared.task.Kind.{Kind}
use Rattle.array_journal.specs.declared.task.Kind.TheVariants as kinds
use Rattle.array_journal.specs.declared.task.Task.{Task}
use Rattle.array_journal.specs.Calls.{is_of_call}
use Rattle.array_journal.specs.Commands.{ends_command}
use Rattle.array_journal.specs.Entries.{name_of}
use Rattle.array_journal.specs.Host.{is_read}
use Rattle.array_journal.specs.May.{bytes_of}
use Rattle.array_journal.specs.Run.{Grows}
use Rattle.host_requests.specs.declared.requests.Transfer.{Transfer}
use Rattle.host_requests.specs.Forms.{transfer_as}
use Rattle.host_requests.specs.Requests.{Request, Moves}
use Rattle.stripe_check.specs.Steps.{call_of}
use Rattle.xor_target.specs.declared.order.Order.{Order}
use Rattle.unit_plans.specs.declared.doings.Do.{Do}
use Rattle.unit_plans.specs.declared.doings.Do.TheVariants as dos
use Rattle.unit_plans.specs.declared.doings.Reply.TheVariants as replies
use Rattle.unit_plans.specs.declared.doings.Said.{Said}
use Rattle.unit_plans.specs.declared.steps.Step.{Step}
use Rattle.unit_plans.specs.declared.steps.Step.TheVariants.{Begun, Acting, Closing, Over}
use Rattle.unit_plans.specs.Buses.{BusSetting}
use Rattle.unit_plans.specs.Follows.{HasAsked, HasGrown, IsAnswered, IsOnStep, IsMadeBy, ActWasDone, WasClosed, IsTold, IsToldAt, kind_making}
use Rattle.unit_plans.specs.Plans.{PlanState, IsPlan, GoesOn, TakesOrFolds, NextAt, HasNext, with_made}
use Rattle.unit_plans.specs.ServedOrders.{act_event}
use Rattle.unit_plans.proofs.GoesOn.{plans-go_on}
use Rattle.array_control.specs.declared.call_run.CallRun.{CallRun}
use Rattle.array_control.specs.declared.call_run.PieceRun.{PieceRun}
use Rattle.array_control.specs.Arrays.{ActsOrReads, ComesTo, IsEntryFor, IsServedBy, IsSameCall, IsTransferOf, IsUnderWay, IsAtPiece, WentOn, kept_by}
use Rattle.array_control.specs.Begins.{IsBegunAs, pieces_by}
use Rattle.array_control.specs.declared.serving.Advanced.TheVariants.{Made}
use Rattle.array_control.specs.Progress.{HasCome, IsServing, is_doing, bytes_by_act, bytes_by_close}
use Rattle.array_control.proofs.Apart.{commands-call}
use Rattle.array_control.proofs.Progress.{acts-go_on, piece-ends}

-- what is no reply is done next
pub kept-other : (run : CallRun) (doing : PieceRun) (next : Do) → ((bytes : List ℕ) → next ≡ dos.Reply (replies.Good bytes) → ⊥) → kept_by run doing next ≡ record run { doing = Some doing }
kept-other run doing (dos.Reply (replies.Good bytes)) other = absurd (other bytes refl)
kept-other run doing (dos.Reply (replies.Check sense)) other = refl
kept-other run doing (dos.Reply (replies.Done made left)) other = refl
kept-other run doing (dos.Reply replies.Refused) other = refl
kept-other run doing (dos.Target number act) other = refl
kept-other run doing (dos.Book act) other = refl
kept-other run doing dos.Anew other = refl

kept-asked : (b : BusSetting) (run : CallRun) (doing : PieceRun) (journal : List Entry) → HasAsked b doing.plan doing.next journal →
    kept_by run doing doing.next ≡ record run { doing = Some doing }
kept-asked b run doing journal asked = kept-other run doing doing.next (λ bytes is. by doing.plan.step asked.on bytes is)
  where
    by : (step : Step) → IsOnStep step b doing.plan doing.next journal → (bytes : List ℕ) → doing.next ≡ dos.Reply (replies.Good bytes) → ⊥
    by Begun on bytes is = on
    by (Acting act) on bytes is = let says = on.says in cc
    by Closing on bytes is = cc
    by Over on bytes is = on

-- the event of an act is of its command, and tells its call what it has fetched
act-doing : (mode : Mode) (act : ActKind) (order : Order) (cdb : Cdb) (row : ℕ) (bytes : List ℕ) (c : ℕ) → order.owner ≡ c →
    is_doing c (act_event mode act order cdb row bytes) ≡ true
act-doing mode Fetches order cdb row bytes c h = eq-eqb order.owner c h
act-doing mode Puts order cdb row bytes c h = eq-eqb order.owner c h
act-doing mode Diffs order cdb row bytes c h = eq-eqb order.owner c h
act-doing mode Takes order cdb row bytes c h = eq-eqb order.owner c h
act-doing mode Folds order cdb row bytes c h = eq-eqb order.owner c h
act-doing mode Holds order cdb row bytes c h = eq-eqb order.owner c h

-- and is of no call by itself
acts-of_none : (k : ℕ) (mode : Mode) (act : ActKind) (order : Order) (cdb : Cdb) (row : ℕ) (bytes : List ℕ) → is_of_call k (act_event mode act order cdb row bytes) ≡ false
acts-of_none k mode Fetches order cdb row bytes = refl
acts-of_none k mode Puts order cdb row bytes = refl
acts-of_none k mode Diffs order cdb row bytes = refl
acts-of_none k mode Takes order cdb row bytes = refl
acts-of_none k mode Folds order cdb row bytes = refl
acts-of_none k mode Holds order cdb row bytes = refl

-- and begins no piece
acts-begin_none : (b : BusSetting) (request : Request) (past : List Entry) (mode : Mode) (act : ActKind) (order : Order) (cdb : Cdb) (row : ℕ) (bytes : List ℕ) →
    IsBegunAs b request (act_event mode act order cdb row bytes) past
acts-begin_none b request past mode Fetches order cdb row bytes = tt
acts-begin_none b request past mode Puts order cdb row bytes = tt
acts-begin_none b request past mode Diffs order cdb row bytes = tt
acts-begin_none b request past mode Takes order cdb row bytes = tt
acts-begin_none b request past mode Folds order cdb row bytes = tt
acts-begin_none b request past mode Holds order cdb row bytes = tt

-- the same command, and the bytes that it will reply
record GoesOnWith (p new : PlanState) (reply : List ℕ) : Type 0 where
  command : new.command ≡ p.command
  task : new.task ≡ p.task
  bytes : new.bytes ≡ reply

of-new : (p new model : PlanState) (bytes : List ℕ) → new ≡ model → model.command ≡ p.command → model.task ≡ p.task → model.bytes ≡ bytes → GoesOnWith p new bytes
of-new p new model bytes is command task same = record {
  command = ap (λ (q : PlanState). q.command) is ∙ command;
  task = ap (λ (q : PlanState). q.task) is ∙ task;
  bytes = ap (λ (q : PlanState). q.bytes) is ∙ same;
}

abbrev replied_after : ActKind → List ℕ → List ℕ → List ℕ
replied_after Fetches bytes before = bytes
replied_after _ bytes before = before

goes-with : (p new : PlanState) (act : ActKind) (made : List At) (bytes : List ℕ) (next : Do) → GoesOn p act made bytes next new →
    GoesOnWith p new (replied_after act bytes p.bytes)
goes-with p new Fetches made bytes next goes = of-new p new _ bytes goes.goes_on refl refl refl
goes-with p new Diffs made bytes next goes = by (takes_delta p.mode) goes
  where
    by : (x : Bool) → TakesOrFolds x (with_made p made) made bytes next new → GoesOnWith p new p.bytes
    by true h = of-new p new _ p.bytes h.goes_on refl refl refl
    by false h = of-new p new _ p.bytes h.goes_on refl refl refl
goes-with p new Takes made bytes next goes = of-new p new _ p.bytes goes.goes_on refl refl refl
goes-with p new Folds made bytes next goes = of-new p new _ p.bytes goes.goes_on refl refl refl
goes-with p new Puts made bytes next goes = absurd goes
goes-with p new Holds made bytes next goes = absurd goes

-- what the call was told by an act is what its plan will reply
told-more : (b : BusSetting) (p : PlanState) (act : ActKind) (e : Entry) (m : IsMadeBy p act e) (bytes : List ℕ) (journal : List Entry) → p.task.kind ≡ kind_making act →
    IsAnswered b p act e bytes journal → bytes_by_act p.task e.event ≡ replied_after act bytes []
told-more b p Fetches e m bytes journal kind answered =
    ap (bytes_by_act p.task) m.event ∙ ap (λ (k : Kind). cond (is_read k) m.bytes []) kind ∙ sym (answered ∙ ap (λ (x : Event). bytes_of (Some x)) m.event)
told-more b p Diffs e m bytes journal kind answered = ap (bytes_by_act p.task) m.event
told-more b p Takes e m bytes journal kind answered = ap (bytes_by_act p.task) m.event
told-more b p Folds e m bytes journal kind answered = ap (bytes_by_act p.task) m.event
told-more b p Puts e m bytes journal kind answered = absurd answered
told-more b p Holds e m bytes journal kind answered = absurd answered

after-none : (act : ActKind) (bytes before : List ℕ) → before ≡ [] → replied_after act bytes before ≡ replied_after act bytes []
after-none act bytes before is = ap (replied_after act bytes) is

module _ (b : BusSetting) (run : CallRun) (doing new : PieceRun) (journal now : List Entry) (served : IsServedBy b run.number run.count run.piece run.read doing journal) (plan : IsPlan new.plan) (runs : Grows b.array now) (grown : HasGrown journal now) where
  -- the entry that came is the one that was said
  same-past : (e : Entry) (past : List Entry) → now ≡ e ∷ past → past ≡ journal
  same-past e past is = let both : e ∷ past ≡ grown.0 ∷ journal = sym is ∙ grown.1 in cc

  by-act : (act : ActKind) (said : Option Said) → (doing.plan.step ≡ Acting act) → ActWasDone b doing.plan act said now → NextAt (Acting act) said doing.plan new.next new.plan →
      HasAsked b new.plan new.next now → IsServedBy b run.number run.count run.piece run.read new now
  by-act act said at w next asked =
      let m : IsMadeBy doing.plan act w.entry = w.followed.made.0 in
      let goes : GoesOn doing.plan act (name_of w.entry ∷ []) w.bytes new.next new.plan =
      subst (λ (x : Option Said). NextAt (Acting act) x doing.plan new.next new.plan) w.says next in
      let with = goes-with doing.plan new.plan act (name_of w.entry ∷ []) w.bytes new.next goes in
      let does : is_doing doing.plan.command w.entry.event ≡ true =
      ap (is_doing doing.plan.command) m.event ∙ act-doing doing.plan.mode act m.order m.cdb doing.plan.task.row m.bytes doing.plan.command m.owner in
      let before : IsServing b.array.geometry run.number run.count run.piece run.read doing.plan.command doing.plan.task served.more w.past =
      subst (IsServing b.array.geometry run.number run.count run.piece run.read doing.plan.command doing.plan.task served.more) (sym (same-past w.entry w.past w.newest)) served.serving in
      let after = acts-go_on b.array.geometry run.number run.count run.piece run.read doing.plan.command doing.plan.task served.more w.entry w.past before does in
      let more : List ℕ = served.more ++ bytes_by_act doing.plan.task w.entry.event in
      let none : served.more ≡ [] = served.told ∙ w.replies in
      let tells : more ≡ new.plan.bytes =
      ap (λ (x : List ℕ). x ++ bytes_by_act doing.plan.task w.entry.event) none ∙ told-more b doing.plan act w.entry m w.bytes now w.kind w.answered
      ∙ sym (after-none act w.bytes doing.plan.bytes w.replies) ∙ sym with.bytes in
      record {
        more = more;
        serving =
            subst (λ (t : Task). IsServing b.array.geometry run.number run.count run.piece run.read new.plan.command t more now) (sym with.task)
            (subst (λ (c : ℕ). IsServing b.array.geometry run.number run.count run.piece run.read c doing.plan.task more now) (sym with.command)
            (subst (IsServing b.array.geometry run.number run.count run.piece run.read doing.plan.command doing.plan.task more) (sym w.newest) after));
        plan = plan;
        asked = asked;
        told = tells;
      }

  no-made : (kind : Kind) (read : List ℕ) → bytes_by_close (record doing.plan.task { kind = kind }) [] ≡ []
  no-made kinds.Read read = refl
  no-made kinds.Update read = refl
  no-made kinds.DataOnly read = refl
  no-made kinds.DegradedRead read = refl
  no-made kinds.DegradedWrite read = refl
  no-made kinds.Rebuild read = refl
  no-made kinds.Resync read = refl

  -- with its close the piece is done
  by-close : (said : Option Said) → WasClosed b doing.plan said now → HasCome b.array.geometry run.number run.count (run.piece + 1) (run.read ++ doing.plan.bytes) now
  by-close said w =
      let before : IsServing b.array.geometry run.number run.count run.piece run.read doing.plan.command doing.plan.task served.more w.past =
      subst (IsServing b.array.geometry run.number run.count run.piece run.read doing.plan.command doing.plan.task served.more) (sym (same-past w.entry w.past w.newest)) served.serving in
      let ended = piece-ends b.array.geometry run.number run.count run.piece run.read doing.plan.command doing.plan.task served.more doing.plan.names None [] w.entry w.past before w.event in
      let read : run.read ++ (served.more ++ bytes_by_close doing.plan.task []) ≡ run.read ++ doing.plan.bytes =
      ap (λ (x : List ℕ). run.read ++ (served.more ++ x)) (no-made doing.plan.task.kind []) ∙ ap (λ (x : List ℕ). run.read ++ x) (append-nil served.more ∙ served.told) in
      let next : suc run.piece ≡ run.piece + 1 = omega arith in
      subst (HasCome b.array.geometry run.number run.count (run.piece + 1) (run.read ++ doing.plan.bytes)) (sym w.newest)
      (subst (λ (x : List ℕ). HasCome b.array.geometry run.number run.count (run.piece + 1) x (w.entry ∷ w.past)) read
      (subst (λ (k : ℕ). HasCome b.array.geometry run.number run.count k (run.read ++ (served.more ++ bytes_by_close doing.plan.task [])) (w.entry ∷ w.past)) next ended))

  -- ---- either way

  abbrev Comes : Type 0
  Comes = ActsOrReads new.next × IsAtPiece b run.number run.count (kept_by run new new.next).piece (kept_by run new new.next).read (kept_by run new new.next).doing now

  asks-on : HasAsked b new.plan new.next now → IsServedBy b run.number run.count run.piece run.read new now → Comes
  asks-on asked served = (
    by new.plan.step asked.on,
    subst (λ (r : CallRun). IsAtPiece b run.number run.count r.piece r.read r.doing now) (sym (kept-asked b run new now asked)) served,
  )
    where
      by : (step : Step) → IsOnStep step b new.plan new.next now → ActsOrReads new.next
      by Begun on = absurd on
      by (Acting act) on = subst ActsOrReads (sym on.says) tt
      by Closing on = subst ActsOrReads (sym on) tt
      by Over on = absurd on

  comes-by : (step : Step) (said : Option Said) → doing.plan.step ≡ step → run.doing ≡ None → IsTold b doing.plan said now → IsToldAt step b doing.plan said now →
      HasNext doing.plan said new.next new.plan → NextAt step said doing.plan new.next new.plan → (step ≡ Begun → ⊥) → Comes
  comes-by Begun said is idle told at has next begun = absurd (begun refl)
  comes-by (Acting act) said is idle told at has next begun =
      let asked : HasAsked b new.plan new.next now = plans-go_on b doing.plan new.plan said new.next now served.plan runs (λ no. let never : Acting act ≡ Closing = sym is ∙ no in cc) told has in
      asks-on asked (by-act act said is at next asked)
  comes-by Closing said is idle told at has next begun =
      let ends = subst (λ (x : Option Said). NextAt Closing x doing.plan new.next new.plan) at.says next in (
        subst ActsOrReads (sym ends.says) tt,
        subst (λ (d : Do). IsAtPiece b run.number run.count (kept_by run new d).piece (kept_by run new d).read (kept_by run new d).doing now) (sym ends.says)
            (subst (λ (o : Option PieceRun). IsAtPiece b run.number run.count (run.piece + 1) (run.read ++ doing.plan.bytes) o now) (sym idle) (by-close said at)),
      )
  comes-by Over said is idle told at has next begun = absurd at

  -- ---- the entry is of no call by itself

  same-entry : (e : Entry) (past : List Entry) → now ≡ e ∷ past → e ≡ grown.0
  same-entry e past is = let both : e ∷ past ≡ grown.0 ∷ journal = sym is ∙ grown.1 in cc

  none-carries : (k : ℕ) (step : Step) (said : Option Said) → IsToldAt step b doing.plan said now → (step ≡ Begun → ⊥) → is_of_call k grown.0.event ≡ false
  none-carries k Begun said at begun = absurd (begun refl)
  none-carries k (Acting act) said at begun =
      let m : IsMadeBy doing.plan act at.entry = at.followed.made.0 in
      subst (λ (e : Entry). is_of_call k e.event ≡ false) (same-entry at.entry at.past at.newest)
      (ap (is_of_call k) m.event ∙ acts-of_none k doing.plan.mode act m.order m.cdb doing.plan.task.row m.bytes)
  none-carries k Closing said at begun =
      subst (λ (e : Entry). is_of_call k e.event ≡ false) (same-entry at.entry at.past at.newest) (ap (is_of_call k) at.event)
  none-carries k Over said at begun = absurd at

  never-begun : doing.plan.step ≡ Begun → ⊥
  never-begun is = subst (λ (step : Step). IsOnStep step b doing.plan doing.next journal) is served.asked.on

  pub followed-own : WentOn b doing.plan new journal now → (k : ℕ) → is_of_call k grown.0.event ≡ false
  followed-own went k = none-carries k doing.plan.step went.said went.told never-begun

  -- and begins nothing
  nothing-begun : (request : Request) (step : Step) (said : Option Said) → IsToldAt step b doing.plan said now → (step ≡ Begun → ⊥) →
      IsBegunAs b request grown.0.event journal
  nothing-begun request Begun said at begun = absurd (begun refl)
  nothing-begun request (Acting act) said at begun =
      let m : IsMadeBy doing.plan act at.entry = at.followed.made.0 in
      subst (λ (e : Entry). IsBegunAs b request e.event journal) (same-entry at.entry at.past at.newest)
      (subst (λ (x : Event). IsBegunAs b request x journal) (sym m.event) (acts-begin_none b request journal doing.plan.mode act m.order m.cdb doing.plan.task.row m.bytes))
  nothing-begun request Closing said at begun =
      subst (λ (e : Entry). IsBegunAs b request e.event journal) (same-entry at.entry at.past at.newest)
      (subst (λ (x : Event). IsBegunAs b request x journal) (sym at.event) tt)
  nothing-begun request Over said at begun = absurd at

  -- but of the call of its command
  of-its_call : (e : Entry) (past : List Entry) → now ≡ e ∷ past → (is_doing doing.plan.command e.event ≡ true) ⊎ (ends_command doing.plan.command e.event ≡ true) →
      call_of grown.0.event journal ≡ Some run.number
  of-its_call e past newest does =
      subst (λ (x : Entry). call_of x.event journal ≡ Some run.number) (same-entry e past newest)
      (commands-call doing.plan.command doing.plan.task e journal served.serving.its_task does ∙ ap Some served.serving.of_call)

  its-call : (step : Step) (said : Option Said) → IsToldAt step b doing.plan said now → (step ≡ Begun → ⊥) → call_of grown.0.event journal ≡ Some run.number
  its-call Begun said at begun = absurd (begun refl)
  its-call (Acting act) said at begun =
      let m : IsMadeBy doing.plan act at.entry = at.followed.made.0 in
      of-its_call at.entry at.past at.newest (inl (
      ap (is_doing doing.plan.command) m.event ∙ act-doing doing.plan.mode act m.order m.cdb doing.plan.task.row m.bytes doing.plan.command m.owner
      ))
  its-call Closing said at begun =
      of-its_call at.entry at.past at.newest (inr (ap (ends_command doing.plan.command) at.event ∙ eq-eqb doing.plan.command doing.plan.command refl))
  its-call Over said at begun = absurd at

  pub followed-is_for : (request : Request) → WentOn b doing.plan new journal now → IsEntryFor b run.number request grown.0 journal
  followed-is_for request went = record {
    of_this = inl (its-call doing.plan.step went.said went.told never-begun);
    own = λ k other. followed-own went k;
    begun = nothing-begun request doing.plan.step went.said went.told never-begun;
  }

  pub followed : WentOn b doing.plan new journal now → run.doing ≡ None → Comes
  followed went idle = comes-by doing.plan.step went.said refl idle went.told went.told went.next went.next
      (λ is. subst (λ (step : Step). IsOnStep step b doing.plan doing.next journal) is served.asked.on)

-- it is the same call
kept-same : (run : CallRun) (doing : PieceRun) (next : Do) → IsSameCall run (kept_by run doing next)
kept-same run doing (dos.Reply (replies.Good bytes)) = record { number = refl; transfer = refl; count = refl }
kept-same run doing (dos.Reply (replies.Check sense)) = record { number = refl; transfer = refl; count = refl }
kept-same run doing (dos.Reply (replies.Done made left)) = record { number = refl; transfer = refl; count = refl }
kept-same run doing (dos.Reply replies.Refused) = record { number = refl; transfer = refl; count = refl }
kept-same run doing (dos.Target number act) = record { number = refl; transfer = refl; count = refl }
kept-same run doing (dos.Book act) = record { number = refl; transfer = refl; count = refl }
kept-same run doing dos.Anew = record { number = refl; transfer = refl; count = refl }

pub followed-comes : (b : BusSetting) (run : CallRun) (doing new : PieceRun) (journal now : List Entry) → IsUnderWay b (record run { doing = Some doing }) journal → IsPlan new.plan →
    Grows b.array now → run.doing ≡ None → WentOn b doing.plan new journal now → (after : CallRun) → after ≡ kept_by run new new.next →
    ComesTo b (record run { doing = Some doing }) Made after journal now
followed-comes b run doing new journal now way plan runs idle went after is =
    let came = followed b run doing new journal now way.at_piece plan runs went.grown went idle in
    let same : IsSameCall run (kept_by run new new.next) = kept-same run new new.next in
    let k : CallRun = kept_by run new new.next in (
      record {
        entry = went.grown.0;
        newest = went.grown.1;
        is_for = followed-is_for b run doing new journal now way.at_piece plan runs went.grown (Moves (transfer_as run.transfer)) went;
      },
      (
        subst (λ (r : CallRun). IsUnderWay b r now) (sym is) (record {
          transfer = subst (λ (t : Transfer). IsTransferOf b (transfer_as t)) (sym same.transfer) way.transfer;
          counted = same.count ∙ way.counted ∙ ap (λ (t : Transfer). length (pieces_by b (transfer_as t))) (sym same.transfer);
          at_piece =
              subst (λ (n : ℕ). IsAtPiece b n (kept_by run new new.next).count (kept_by run new new.next).piece (kept_by run new new.next).read (kept_by run new new.next).doing now) (sym same.number)
              (subst (λ (n : ℕ). IsAtPiece b run.number n (kept_by run new new.next).piece (kept_by run new new.next).read (kept_by run new new.next).doing now) (sym same.count) came.1);
        }),
        subst (IsSameCall (record run { doing = Some doing })) (sym is) (record { number = same.number; transfer = same.transfer; count = same.count }),
      ),
    )

pub followed-reads : (b : BusSetting) (run : CallRun) (doing new : PieceRun) (journal now : List Entry) → IsUnderWay b (record run { doing = Some doing }) journal → IsPlan new.plan →
    Grows b.array now → run.doing ≡ None → WentOn b doing.plan new journal now → ActsOrReads new.next
followed-reads b run doing new journal now way plan runs idle went = (followed b run doing new journal now way.at_piece plan runs went.grown went idle).0
