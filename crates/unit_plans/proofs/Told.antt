-- What came of an act is said to the plan that asked for it.
use Rattle.std.specs.List.{AllByRecursion}
use Rattle.std.specs.Prelude.{◌≡◌, ◌≢◌, ◌++◌, ◌==◌, ◌+◌, ◌*◌, ℕ, true, false, List, [], ◌∷◌, length, map, reverse, Some}
use Rattle.std.proofs.Common.{refl, ap, sym, ◌∙◌, subst}
use Rattle.std.proofs.lemmas.Bool.{cond-true, eq-eqb, and_from}
use Rattle.std.proofs.lemmas.List.{append_cancel_right}
use Rattle.stripe_layout.specs.declared.mode.Mode.{Mode}
use Rattle.stripe_layout.specs.Modes.{takes_delta, hands_delta_back}
use Rattle.xor_buffers.specs.Held.{rows_held}
use Rattle.array_journal.specs.declared.act.Act.{Act as Kind}
use Rattle.array_journal.specs.declared.act.Act.TheVariants.{Fetches, Puts, Diffs, Takes, Folds, Holds}
use Rattle.array_journal.specs.declared.at.At.{At}
use Rattle.array_journal.specs.declared.entry.Entry.{Entry}
use Rattle.array_journal.specs.declared.event.Event.{Event}
use Rattle.array_journal.specs.declared.event.Event.TheVariants.{Diff}
use Rattle.array_journal.specs.declared.task.Kind.{Kind as TaskKind}
use Rattle.array_journal.specs.declared.task.Kind.TheVariants.{Read, Update}
use Rattle.array_journal.specs.Acts.{is_act, shuts_command, task_bytes}
use Rattle.array_journal.specs.Deltas.{delta_at, delta_in, delta_of}
use Rattle.array_journal.specs.Entries.{entry_at, name_of, same_at, some_at}
use Rattle.array_journal.specs.Laws.{releases}
use Rattle.array_journal.specs.Lives.{is_gone}
use Rattle.array_journal.specs.Media.{media, held}
use Rattle.array_journal.specs.OwnEntries.{OfCommand, carries, mine}
use Rattle.array_journal.specs.Run.{Grows, IsSetting}
use Rattle.array_journal.specs.Served.{IsDue}
use Rattle.array_journal.proofs.held.ExactlyHeld.{delta-exactly}
use Rattle.array_journal.proofs.held.FoundRows.{delta-found}
use Rattle.array_journal.proofs.held.NewlyHeld.{delta-length}
use Rattle.xor_target.specs.declared.answer.Answer.{Answer}
use Rattle.xor_target.specs.declared.answer.Answer.TheVariants.{Memory}
use Rattle.xor_target.specs.declared.order.Order.{Order}
use Rattle.xor_target.specs.Answers.{IsAnswered as IsAnsweredBy, next_entry}
use Rattle.xor_target.specs.Logs.{last_stamp}
use Rattle.xor_target.specs.State.{TargetState}
use Rattle.unit_plans.specs.declared.acts.Act.{Act}
use Rattle.unit_plans.specs.declared.acts.Act.TheVariants.{Run}
use Rattle.unit_plans.specs.declared.acts.Acted.{Acted}
use Rattle.unit_plans.specs.declared.acts.Acted.TheVariants as acted
use Rattle.unit_plans.specs.declared.doings.Do.TheVariants as dos
use Rattle.unit_plans.specs.declared.doings.Said.TheVariants as says
use Rattle.unit_plans.specs.declared.steps.Step.{Step}
use Rattle.unit_plans.specs.declared.steps.Step.TheVariants.{Begun, Acting, Closing, Over}
use Rattle.unit_plans.specs.Buses.{BusSetting, StandsOn}
use Rattle.unit_plans.specs.Conditions.{stamped}
use Rattle.unit_plans.specs.Conditions.IsSentFor.{Fetching, Diffing, Taking, Folding}
use Rattle.unit_plans.specs.Effects.{IsDoneAt}
use Rattle.unit_plans.specs.Follows.{IsFollowed, IsMadeBy, AreMadeBy, IsOnStep, RestsOn, RestsOnOne, ActWasDone, IsToldAt, IsAnswered, IsUndisturbed, HasGrown, before_act, made_at, replied, kind_making}
use Rattle.unit_plans.specs.Orders.{AskedOrder}
use Rattle.unit_plans.specs.PlanLaws.{PlansAreToldOfActs}
use Rattle.unit_plans.specs.Plans.{PlanState, IsPlan, plan_order}
use Rattle.unit_plans.specs.ServedOrders.{OrdersAreServed, IsServed, HoldsWhatIsTaken, act_event}
use Rattle.unit_plans.specs.Steps.{target_of}
use Rattle.unit_plans.proofs.AskedActs.{fetch-asked, diff-asked, take-asked, fold-asked, not-sent, written}
use Rattle.unit_plans.proofs.MadeActs.{act-own, shut-own, shut-quiet, each-act, IsQuiet, never-says, made-stand, open-still, event-owned}
use Rattle.unit_plans.proofs.Undisturbed.{none-gone, none-releases, acts-befall_none}

-- the order as the bus sends it
abbrev sent_order : PlanState → Kind → List At → List ℕ → List Entry → Order
sent_order p act names bytes journal = stamped journal (plan_order p act names bytes)

module _ (served : OrdersAreServed) (b : BusSetting) (p : PlanState) (entries journal : List Entry) (set : IsSetting b.array) (plan : IsPlan p) (g : Grows b.array journal) (calm : IsUndisturbed journal) where
  -- what is asked of an order of an open command is due
  due : (act : Kind) (i : ℕ) (names : List At) (bytes : List ℕ) → IsFollowed b p (before_act p.mode act) entries journal →
      AskedOrder b.array journal i (sent_order p act names bytes journal) 0 p.task act → IsDue b.array journal i p.command p.opened p.task act
  due act i names bytes f asked = record {
    in_book = asked.in_book;
    opening = asked.opening;
    open_still = open-still b p (before_act p.mode act) entries journal g f;
    of_task = asked.of_task;
    once = asked.once;
  }

  -- an update's delta is held until it is taken
  holds : IsFollowed b p (Diffs ∷ []) entries journal → p.task.kind ≡ Update → takes_delta p.mode ≡ true →
      HoldsWhatIsTaken b.array p.task.target Takes (sent_order p Takes [] [] journal) p.task journal
  holds f kind takes = by entries f.made (made-stand b p (Diffs ∷ []) entries journal g f)
    where
      free : some_at (p.task.target + 1) (releases p.command) journal ≡ false
      free =
          none-releases p.command (p.task.target + 1) journal calm
          (never-says b p (Diffs ∷ []) entries journal g f (p.task.target + 1) (is_act Takes p.command) (act-own Takes p.command) (λ order cdb bytes. refl, tt) refl)
          (never-says b p (Diffs ∷ []) entries journal g f (p.task.target + 1) (shuts_command p.command) (shut-own p.command)
          (each-act (IsQuiet p.mode p.task.row (shuts_command p.command)) (Diffs ∷ []) (shut-quiet p.mode p.task.row p.command)) refl)

      supervised : takes_delta b.array.mode ≡ true
      supervised = ap takes_delta (sym f.mode) ∙ takes

      diffed : (e : Entry) → IsMadeBy p Diffs e → entry_at (name_of e) journal ≡ Some e.event →
          HoldsWhatIsTaken b.array p.task.target Takes (sent_order p Takes [] [] journal) p.task journal
      diffed e m stands =
          let said : entry_at (name_of e) journal ≡ Some (Diff m.order.owner m.order.opened m.cdb p.task.row m.order.bytes false false (hands_delta_back p.mode)) =
          stands ∙ ap Some m.event in
          let size : length m.order.bytes ≡ task_bytes b.array p.task =
          ap (λ (l : List ℕ). length l) (m.written refl) ∙ written b p entries journal set plan g f.sound kind in
          let free_of : some_at (p.task.target + 1) (releases m.order.owner) journal ≡ false =
          subst (λ (c : ℕ). some_at (p.task.target + 1) (releases c) journal ≡ false) (sym m.owner) free in
          let delta = delta-exactly b.array p.task.target m.order.owner p.task.row (name_of e) m.order.opened m.cdb m.order.bytes false false (hands_delta_back p.mode) journal set supervised g m.lock said free_of in
          let found = delta-found b.array p.task.target m.order.owner p.task.row (name_of e) m.order.opened m.cdb m.order.bytes false false (hands_delta_back p.mode) journal set supervised g m.lock said free_of in (
            delta.0,
            ap (λ (c : ℕ). rows_held b.array.geometry.block c p.task.row (task_bytes b.array p.task) (held b.array p.task.target journal)) (sym m.owner)
                ∙ ap (λ (n : ℕ). rows_held b.array.geometry.block m.order.owner p.task.row n (held b.array p.task.target journal)) (sym size) ∙ found ∙ delta.1.0,
          )

      by : (es : List Entry) → AreMadeBy p (Diffs ∷ []) es → AllByRecursion (λ (e : Entry). entry_at (name_of e) journal ≡ Some e.event) es →
          HoldsWhatIsTaken b.array p.task.target Takes (sent_order p Takes [] [] journal) p.task journal
      by [] made stand = absurd made
      by (e ∷ es) made stand = diffed e made.0 stand.0

  -- ---- each act that was asked for is served

  abbrev Serves : Kind → TargetState → Answer → TargetState → List At → List ℕ → Type 0
  Serves act t answer after names bytes =
      IsAnsweredBy true t (sent_order p act names bytes journal) answer after → IsServed b.array t (sent_order p act names bytes journal) act p.task answer after journal

  module _ (t after : TargetState) (answer : Answer) (stands : StandsOn b t journal) (not_memory : answer ≢ Memory) where
    works : is_gone t.number t.past ≡ false
    works = none-gone t.number t.past journal stands.stands.entries calm

    at-number : (act : Kind) (names : List At) (bytes : List ℕ) → t.number ≡ target_of p.task act →
        AskedOrder b.array journal (target_of p.task act) (sent_order p act names bytes journal) 0 p.task act →
        AskedOrder b.array journal t.number (sent_order p act names bytes journal) 0 p.task act
    at-number act names bytes number asked = subst (λ (i : ℕ). AskedOrder b.array journal i (sent_order p act names bytes journal) 0 p.task act) (sym number) asked

    serve-fetch : t.number ≡ p.task.target → IsFollowed b p [] entries journal → p.task.kind ≡ Read → Serves Fetches t answer after [] []
    serve-fetch number f kind answered =
        let asked = at-number Fetches [] [] number (fetch-asked b p entries journal set plan g f kind) in
        served b t after (sent_order p Fetches [] [] journal) answer journal set g stands (Fetching p.task asked refl) (due Fetches t.number [] [] f asked) tt tt works answered not_memory

    serve-diff : t.number ≡ p.task.target → IsFollowed b p [] entries journal → p.task.kind ≡ Update → Serves Diffs t answer after [] p.task.bytes
    serve-diff number f kind answered =
        let order = diff-asked b p entries journal set plan g f kind in
        let asked = at-number Diffs [] p.task.bytes number order.act in
        served b t after (sent_order p Diffs [] p.task.bytes journal) answer journal set g stands
        (Diffing p.task (record { act = asked; whole = order.whole; written = order.written }) (not-sent b p entries journal set plan g f kind))
        (due Diffs t.number [] p.task.bytes f asked) tt (f.fits kind) works answered not_memory

    serve-take : t.number ≡ p.task.target → IsFollowed b p (Diffs ∷ []) entries journal → p.task.kind ≡ Update → takes_delta p.mode ≡ true → Serves Takes t answer after [] []
    serve-take number f kind takes answered =
        let asked = at-number Takes [] [] number (take-asked b p entries journal set plan g f kind takes) in
        let held = subst (λ (i : ℕ). HoldsWhatIsTaken b.array i Takes (sent_order p Takes [] [] journal) p.task journal) (sym number) (holds f kind takes) in
        served b t after (sent_order p Takes [] [] journal) answer journal set g stands (Taking p.task asked refl) (due Takes t.number [] [] f asked) held tt works answered not_memory

    serve-fold : t.number ≡ p.task.parity → IsFollowed b p (before_act p.mode Folds) entries journal → p.task.kind ≡ Update → (name : At) (bytes : List ℕ) →
        RestsOnOne b p (name ∷ []) bytes journal → Serves Folds t answer after (name ∷ []) bytes
    serve-fold number f kind name bytes rests answered =
        let order = fold-asked b p entries journal set plan g f kind name bytes rests in
        let asked = at-number Folds (name ∷ []) bytes number order.act in
        served b t after (sent_order p Folds (name ∷ []) bytes journal) answer journal set g stands
        (Folding p.task name (record { act = asked; whole = order.whole; one = order.one; at_source = order.at_source; source = order.source }))
        (due Folds t.number (name ∷ []) bytes f asked) tt (f.fits kind) works answered not_memory

    serve : (act : Kind) (names : List At) (bytes : List ℕ) → t.number ≡ target_of p.task act → IsFollowed b p (before_act p.mode act) entries journal →
        p.task.kind ≡ kind_making act → RestsOn b p act names bytes journal → Serves act t answer after names bytes
    serve Fetches names bytes number f kind rests =
        subst (λ (x : List At). Serves Fetches t answer after x bytes) (sym rests.0)
        (subst (λ (x : List ℕ). Serves Fetches t answer after [] x) (sym rests.1) (serve-fetch number f kind))
    serve Diffs names bytes number f kind rests =
        subst (λ (x : List At). Serves Diffs t answer after x bytes) (sym rests.0)
        (subst (λ (x : List ℕ). Serves Diffs t answer after [] x) (sym rests.1) (serve-diff number f kind))
    serve Takes names bytes number f kind rests =
        subst (λ (x : List At). Serves Takes t answer after x bytes) (sym rests.1.0)
        (subst (λ (x : List ℕ). Serves Takes t answer after [] x) (sym rests.1.1) (serve-take number f kind rests.0))
    serve Folds names bytes number f kind rests = fold names rests
      where
        fold : (ns : List At) → RestsOnOne b p ns bytes journal → Serves Folds t answer after ns bytes
        fold [] h = absurd h
        fold (name ∷ []) h = serve-fold number f kind name bytes h
        fold (name ∷ x ∷ ns) h = absurd h
    serve Puts names bytes number f kind rests = absurd rests
    serve Holds names bytes number f kind rests = absurd rests

    -- ---- its entry stands then, and is said

    written-by : (act : Kind) (names : List At) (bytes : List ℕ) → RestsOn b p act names bytes journal → act ≡ Diffs → bytes ≡ p.task.bytes
    written-by Fetches names bytes rests is = cc
    written-by Diffs names bytes rests is = rests.1
    written-by Takes names bytes rests is = cc
    written-by Folds names bytes rests is = cc
    written-by Puts names bytes rests is = absurd rests
    written-by Holds names bytes rests is = absurd rests

    own-name : (e : Entry) → same_at (name_of e) (name_of e) ≡ true
    own-name e = and_from (e.stamp == e.stamp) (e.lock == e.lock) (eq-eqb e.stamp e.stamp refl) (eq-eqb e.lock e.lock refl)

    module _ (act : Kind) (names : List At) (bytes : List ℕ) (number : t.number ≡ target_of p.task act) (f : IsFollowed b p (before_act p.mode act) entries journal) (kind : p.task.kind ≡ kind_making act) (rests : RestsOn b p act names bytes journal) (done : IsServed b.array t (sent_order p act names bytes journal) act p.task answer after journal) where
      abbrev new_event : Event
      new_event = act_event b.array.mode act (sent_order p act names bytes journal) done.cdb p.task.row done.bytes

      abbrev new_entry : Entry
      new_entry = next_entry t (last_stamp journal) new_event

      -- it is one more act of the command
      made-more : IsMadeBy p act new_entry
      made-more = record {
        order = sent_order p act names bytes journal;
        cdb = done.cdb;
        bytes = done.bytes;
        lock = ap (λ (n : ℕ). n + 1) number;
        event = ap (λ (m : Mode). act_event m act (sent_order p act names bytes journal) done.cdb p.task.row done.bytes) (sym f.mode);
        owner = refl;
        written = written-by act names bytes rests;
      }

      followed-more : IsFollowed b p (act ∷ before_act p.mode act) (new_entry ∷ entries) (new_entry ∷ journal)
      followed-more = record {
        geometry = f.geometry;
        mode = f.mode;
        fits = f.fits;
        sound = f.sound;
        in_book = f.in_book;
        own =
            cond-true (carries (OfCommand p.command) new_event) (new_entry ∷ mine (OfCommand p.command) journal) (mine (OfCommand p.command) journal)
            (event-owned b.array.mode act (sent_order p act names bytes journal) done.cdb p.task.row done.bytes p.command refl)
            ∙ ap (λ (es : List Entry). new_entry ∷ es) f.own;
        made = (made-more, f.made);
      }

      -- what it was answered
      diff-answered : act ≡ Diffs → (delta_at b.array p.task.target (name_of new_entry) (new_entry ∷ journal) ≡ delta_in b.array p.task.target journal new_event)
      diff-answered is =
          cond-true (same_at (name_of new_entry) (name_of new_entry)) (delta_in b.array p.task.target journal new_event) (delta_at b.array p.task.target (name_of new_entry) journal)
          (own-name new_entry)

    answered-of : (act : Kind) (names : List At) (bytes : List ℕ) (number : t.number ≡ target_of p.task act) (f : IsFollowed b p (before_act p.mode act) entries journal)
        (kind : p.task.kind ≡ kind_making act) (rests : RestsOn b p act names bytes journal) (done : IsServed b.array t (sent_order p act names bytes journal) act p.task answer after journal) →
        IsAnswered b p act (new_entry act names bytes number f kind rests done) done.bytes (new_entry act names bytes number f kind rests done ∷ journal)
    answered-of Fetches names bytes number f kind rests done = refl
    answered-of Diffs names bytes number f kind rests done = λ back.
        let handed : hands_delta_back b.array.mode ≡ true = ap hands_delta_back (sym f.mode) ∙ back in
        let delta : done.bytes ≡ delta_of b.array p.task.target journal p.task.row bytes =
        done.read handed ∙ ap (λ (i : ℕ). delta_of b.array i journal p.task.row bytes) number in
        let size : length bytes ≡ task_bytes b.array p.task = ap (λ (l : List ℕ). length l) rests.1 ∙ written b p entries journal set plan g f.sound kind in (
          diff-answered Diffs names bytes number f kind rests done refl ∙ ap Some (sym delta),
          ap (λ (l : List ℕ). length l) delta ∙ delta-length (media b.array p.task.target journal) bytes (p.task.row * b.array.geometry.block) ∙ size,
        )
    answered-of Takes names bytes number f kind rests done = (rests.0, (refl, done.read))
    answered-of Folds names bytes number f kind rests done = tt
    answered-of Puts names bytes number f kind rests done = absurd rests
    answered-of Holds names bytes number f kind rests done = absurd rests

    told : (act : Kind) (names : List At) (bytes : List ℕ) (made now : List Entry) → t.number ≡ target_of p.task act → IsFollowed b p (before_act p.mode act) entries journal →
        p.task.kind ≡ kind_making act → RestsOn b p act names bytes journal → p.names ≡ map name_of (reverse entries) → p.bytes ≡ [] →
        IsServed b.array t (sent_order p act names bytes journal) act p.task answer after journal → after.past ≡ made ++ t.past → now ≡ made ++ journal →
        ActWasDone b p act (Some (says.Target (acted.Answer answer))) now × IsUndisturbed now × HasGrown journal now
    told act names bytes made now number f kind rests named replies done grown now_is =
        let e : Entry = new_entry act names bytes number f kind rests done in
        let one : made ≡ e ∷ [] = append_cancel_right made (e ∷ []) t.past (sym grown ∙ done.grown) in
        let is : now ≡ e ∷ journal = now_is ∙ ap (λ (es : List Entry). es ++ journal) one in (
          subst (ActWasDone b p act (Some (says.Target (acted.Answer answer)))) (sym is) (record {
            entry = e;
            entries = entries;
            past = journal;
            newest = refl;
            bytes = done.bytes;
            kind = kind;
            says = ap (λ (a : Answer). Some (says.Target (acted.Answer a))) done.says;
            followed = followed-more act names bytes number f kind rests done;
            named = named;
            replies = replies;
            answered = answered-of act names bytes number f kind rests done;
          }),
          subst IsUndisturbed (sym is) (acts-befall_none b.array.mode act (sent_order p act names bytes journal) done.cdb p.task.row done.bytes, calm),
          (e, is),
        )

-- ---- all together

no-reply : (p : PlanState) (act : Kind) (entries : List Entry) → p.task.kind ≡ kind_making act → AreMadeBy p (before_act p.mode act) entries →
    replied p.task.kind entries ≡ []
no-reply p Fetches [] kind made = subst (λ (k : TaskKind). replied k [] ≡ []) (sym kind) refl
no-reply p Fetches (e ∷ entries) kind made = absurd made
no-reply p Diffs entries kind made = subst (λ (k : TaskKind). replied k entries ≡ []) (sym kind) refl
no-reply p Takes entries kind made = subst (λ (k : TaskKind). replied k entries ≡ []) (sym kind) refl
no-reply p Folds entries kind made = subst (λ (k : TaskKind). replied k entries ≡ []) (sym kind) refl
no-reply p Puts entries kind made = subst (λ (k : TaskKind). replied k entries ≡ []) (sym kind) refl
no-reply p Holds entries kind made = subst (λ (k : TaskKind). replied k entries ≡ []) (sym kind) refl

same-number : (n m : ℕ) (a c : Act) → dos.Target n a ≡ dos.Target m c → n ≡ m
same-number n m a c h = cc

same-act : (n m : ℕ) (a c : Act) → dos.Target n a ≡ dos.Target m c → a ≡ c
same-act n m a c h = cc

module _ (served : OrdersAreServed) (b : BusSetting) (p : PlanState) (journal now : List Entry) (set : IsSetting b.array) (plan : IsPlan p) (g : Grows b.array journal) (calm : IsUndisturbed journal) where
  told-order : (act : Kind) (names : List At) (bytes : List ℕ) (entries : List Entry) (answer : Acted) → IsFollowed b p (before_act p.mode act) entries journal →
      p.names ≡ map name_of (reverse entries) → p.bytes ≡ replied p.task.kind entries → p.task.kind ≡ kind_making act → RestsOn b p act names bytes journal →
      IsDoneAt true true b (target_of p.task act) (Run (plan_order p act names bytes)) answer journal journal now now →
      ActWasDone b p act (Some (says.Target answer)) now × IsUndisturbed now × HasGrown journal now
  told-order act names bytes entries (acted.Answer answer) f named replies kind rests d =
      let over : d.over ≡ journal = d.come.at_once refl in
      let stands : StandsOn b d.target journal = subst (StandsOn b d.target) over d.stands in
      told served b p entries journal set plan g calm d.target d.after answer stands d.does.1 act names bytes d.entries now d.number f kind rests named
      (replies ∙ no-reply p act entries kind f.made)
      (serve served b p entries journal set plan g calm d.target d.after answer stands d.does.1 act names bytes d.number f kind rests d.does.0)
      d.grown (d.come.alone_after refl ∙ ap (λ (j : List Entry). d.entries ++ j) over)
  told-order act names bytes entries (acted.Shut answer) f named replies kind rests d = absurd d.does
  told-order act names bytes entries (acted.Gone answer) f named replies kind rests d = absurd d.does
  told-order act names bytes entries (acted.Made at) f named replies kind rests d = absurd d.does

  told-at : (step : Step) (number : ℕ) (act : Act) (answer : Acted) (entries : List Entry) → IsFollowed b p (made_at p.mode p.task.kind step) entries journal →
      p.names ≡ map name_of (reverse entries) → p.bytes ≡ replied p.task.kind entries → IsOnStep step b p (dos.Target number act) journal →
      IsDoneAt true true b number act answer journal journal now now → IsToldAt step b p (Some (says.Target answer)) now × IsUndisturbed now × HasGrown journal now
  told-at Begun number act answer entries f named replies on d = absurd on
  told-at (Acting kind) number act answer entries f named replies on d =
      told-order kind on.names on.bytes entries answer f named replies on.kind on.rests
      (subst (λ (n : ℕ). IsDoneAt true true b n (Run (plan_order p kind on.names on.bytes)) answer journal journal now now) (same-number number (target_of p.task kind) act (Run (plan_order p kind on.names on.bytes)) on.says)
      (subst (λ (a : Act). IsDoneAt true true b number a answer journal journal now now) (same-act number (target_of p.task kind) act (Run (plan_order p kind on.names on.bytes)) on.says) d))
  told-at Closing number act answer entries f named replies on d = cc
  told-at Over number act answer entries f named replies on d = absurd on

pub told-acts : OrdersAreServed → PlansAreToldOfActs
told-acts served b p number act answer journal now set plan g calm asked d =
    told-at served b p journal now set plan g calm p.step number act answer asked.entries asked.followed asked.named asked.replies asked.on d
