-- A plan goes on from what it is told.
use Rattle.std.specs.Prelude.{◌≡◌, ◌++◌, ◌&&◌, ◌||◌, ℕ, Bool, true, false, List, [], ◌∷◌, map, reverse, Option, Some}
use Rattle.std.proofs.Common.{refl, ap, sym, ◌∙◌, subst, cond}
use Rattle.std.proofs.lemmas.List.{reverse-append, map-append}
use Rattle.stripe_layout.specs.declared.mode.Mode.{Mode}
use Rattle.stripe_layout.specs.declared.mode.Mode.TheVariants.{Supervised, ThirdParty, Readback}
use Rattle.stripe_layout.specs.Modes.{takes_delta, sends_delta, hands_delta_back}
use Rattle.array_journal.specs.declared.act.Act.{Act as Kind}
use Rattle.array_journal.specs.declared.act.Act.TheVariants.{Fetches, Puts, Diffs, Takes, Folds, Holds}
use Rattle.array_journal.specs.declared.at.At.{At}
use Rattle.array_journal.specs.declared.entry.Entry.{Entry}
use Rattle.array_journal.specs.declared.event.Event.{Event}
use Rattle.array_journal.specs.declared.task.Kind.{Kind as TaskKind}
use Rattle.array_journal.specs.declared.task.Kind.TheVariants.{Read, Update}
use Rattle.array_journal.specs.Entries.{entry_at, name_of}
use Rattle.array_journal.specs.May.{IsTaskOfKind, IsFoldSource, bytes_of, is_under_way}
use Rattle.array_journal.specs.Run.{Grows}
use Rattle.unit_plans.specs.declared.doings.Do.{Do}
use Rattle.unit_plans.specs.declared.doings.Said.{Said}
use Rattle.unit_plans.specs.declared.steps.Step.{Step}
use Rattle.unit_plans.specs.declared.steps.Step.TheVariants.{Begun, Acting, Closing, Over}
use Rattle.unit_plans.specs.Buses.{BusSetting}
use Rattle.unit_plans.specs.Follows.{HasAsked, IsFollowed, IsMadeBy, AreMadeBy, RestsOn, ActWasDone, IsToldAt, IsAnswered, before_act, all_acts, replied, kind_making}
use Rattle.unit_plans.specs.PlanLaws.{PlansGoOn, PlansAreAnswered}
use Rattle.unit_plans.specs.Plans.{PlanState, IsPlan, IsPlanned, IsPlannedAct, Asks, Closes, GoesOn, TakesOrFolds, NextAt, AnswersAt, with_made}
use Rattle.unit_plans.specs.Steps.{first_act}
use Rattle.unit_plans.proofs.MadeActs.{made-stand}

-- ---- what was said is an answer

planned-act : (b : BusSetting) (p : PlanState) (act : Kind) (e : Entry) (bytes : List ℕ) (journal : List Entry) → IsAnswered b p act e bytes journal → IsPlannedAct act
planned-act b p Fetches e bytes journal h = tt
planned-act b p Diffs e bytes journal h = tt
planned-act b p Takes e bytes journal h = tt
planned-act b p Folds e bytes journal h = tt
planned-act b p Puts e bytes journal h = absurd h
planned-act b p Holds e bytes journal h = absurd h

answered-at : (b : BusSetting) (p : PlanState) (said : Option Said) (journal : List Entry) (step : Step) → IsToldAt step b p said journal → AnswersAt step said
answered-at b p said journal Begun told = subst (AnswersAt Begun) (sym told.0) tt
answered-at b p said journal (Acting act) told = subst (AnswersAt (Acting act)) (sym told.says) (planned-act b p act told.entry told.bytes journal told.answered)
answered-at b p said journal Closing told = subst (AnswersAt Closing) (sym told.says) tt
answered-at b p said journal Over told = absurd told

pub plans-answered : PlansAreAnswered
plans-answered b p said journal told = answered-at b p said journal p.step told

-- ---- the same command by a plan that went on

abbrev went_on : PlanState → List At → List ℕ → Step → PlanState
went_on p names bytes step = record p { names = names; bytes = bytes; step = step }

made-on : (p : PlanState) (names : List At) (bytes : List ℕ) (step : Step) (acts : List Kind) (entries : List Entry) → AreMadeBy p acts entries →
    AreMadeBy (went_on p names bytes step) acts entries
made-on p names bytes step [] [] made = tt
made-on p names bytes step [] (e ∷ entries) made = absurd made
made-on p names bytes step (act ∷ acts) [] made = absurd made
made-on p names bytes step (act ∷ acts) (e ∷ entries) made =
    let m = made.0 in
    (record { order = m.order; cdb = m.cdb; bytes = m.bytes; lock = m.lock; event = m.event; owner = m.owner; written = m.written }, made-on p names bytes step acts entries made.1)

followed-on : (b : BusSetting) (p : PlanState) (names : List At) (bytes : List ℕ) (step : Step) (acts : List Kind) (entries journal : List Entry) →
    IsFollowed b p acts entries journal → IsFollowed b (went_on p names bytes step) acts entries journal
followed-on b p names bytes step acts entries journal f = record {
  geometry = f.geometry;
  mode = f.mode;
  fits = f.fits;
  sound = f.sound;
  in_book = f.in_book;
  own = f.own;
  made = made-on p names bytes step acts entries f.made;
}

-- one name more
named-more : (names : List At) (e : Entry) (entries : List Entry) → names ≡ map name_of (reverse entries) → names ++ name_of e ∷ [] ≡ map name_of (reverse (e ∷ entries))
named-more names e entries h =
    ap (λ (ns : List At). ns ++ name_of e ∷ []) h ∙ sym (ap (map name_of) (reverse-append (e ∷ []) entries) ∙ map-append name_of (reverse entries) (e ∷ []))

replied-update : (kind : TaskKind) (entries : List Entry) → kind ≡ Update → [] ≡ replied kind entries
replied-update kind entries is = subst (λ (k : TaskKind). [] ≡ replied k entries) (sym is) refl

-- where an update's delta isn't taken nor sent, it is handed back
handed-back : (mode : Mode) → takes_delta mode ≡ false → sends_delta mode ≡ false → hands_delta_back mode ≡ true
handed-back Supervised takes sends = cc
handed-back ThirdParty takes sends = cc
handed-back Readback takes sends = refl

under-way : (mode other : Mode) → mode ≡ other → hands_delta_back mode ≡ true → is_under_way other false false (hands_delta_back mode) ≡ true
under-way mode other is back =
    subst (λ (m : Mode). is_under_way m false false (hands_delta_back mode) ≡ true) is
    (subst (λ (h : Bool). ((sends_delta mode && false && true) || (h && h)) ≡ true) (sym back) (ors (sends_delta mode)))
  where
    ors : (x : Bool) → ((x && false && true) || true) ≡ true
    ors true = refl
    ors false = refl

module _ (b : BusSetting) (p : PlanState) (journal : List Entry) (plan : IsPlan p) (g : Grows b.array journal) where
  -- ---- the first act

  begins : (next : Do) (new : PlanState) (kind : TaskKind) → p.task.kind ≡ kind → p.names ≡ [] → p.bytes ≡ [] → IsFollowed b p [] [] journal →
      Asks p (first_act kind) [] p.task.bytes next new → HasAsked b new next journal
  begins next new Read is names bytes f asks =
      subst (λ (q : PlanState). HasAsked b q next journal) (sym asks.goes_on)
      (record {
        entries = [];
        followed = followed-on b p p.names p.bytes (Acting Fetches) [] [] journal f;
        named = names;
        replies = bytes ∙ subst (λ (k : TaskKind). [] ≡ replied k []) (sym is) refl;
        on = record {
          kind = is;
          names = [];
          bytes = p.task.bytes;
          says = asks.says;
          rests = (refl, (subst (λ (k : TaskKind). IsTaskOfKind b.array p.task k) is f.sound.by_kind).1);
        };
      })
  begins next new Update is names bytes f asks =
      subst (λ (q : PlanState). HasAsked b q next journal) (sym asks.goes_on)
      (record {
        entries = [];
        followed = followed-on b p p.names p.bytes (Acting Diffs) [] [] journal f;
        named = names;
        replies = bytes ∙ replied-update p.task.kind [] is;
        on = record { kind = is; names = []; bytes = p.task.bytes; says = asks.says; rests = (refl, refl) };
      })
  begins next new _ is names bytes f asks = absurd (subst (λ (k : TaskKind). IsPlanned p.mode k) is plan.planned)

  -- ---- after an act

  module _ (act : Kind) (said : Option Said) (told : ActWasDone b p act said journal) (next : Do) (new : PlanState) where
    -- it closes its command, having made all its acts
    closes : (bytes : List ℕ) → act ∷ before_act p.mode act ≡ all_acts p.mode p.task.kind → bytes ≡ replied p.task.kind (told.entry ∷ told.entries) →
        Closes (record (with_made p (name_of told.entry ∷ [])) { bytes = bytes }) next new → HasAsked b new next journal
    closes bytes all read closing =
        subst (λ (q : PlanState). HasAsked b q next journal) (sym closing.goes_on)
        (record {
          entries = told.entry ∷ told.entries;
          followed = followed-on b p (p.names ++ name_of told.entry ∷ []) bytes Closing (all_acts p.mode p.task.kind) (told.entry ∷ told.entries) journal
              (subst (λ (acts : List Kind). IsFollowed b p acts (told.entry ∷ told.entries) journal) all told.followed);
          named = named-more p.names told.entry told.entries told.named;
          replies = read;
          on = closing.says;
        })

    -- it asks for a further act of an update
    asks : (later : Kind) (names : List At) (bytes : List ℕ) → p.task.kind ≡ Update → kind_making later ≡ Update → act ∷ before_act p.mode act ≡ before_act p.mode later →
        RestsOn b p later names bytes journal → Asks (with_made p (name_of told.entry ∷ [])) later names bytes next new → HasAsked b new next journal
    asks later names bytes kind making before rests asking =
        subst (λ (q : PlanState). HasAsked b q next journal) (sym asking.goes_on)
        (record {
          entries = told.entry ∷ told.entries;
          followed = followed-on b p (p.names ++ name_of told.entry ∷ []) p.bytes (Acting later) (before_act p.mode later) (told.entry ∷ told.entries) journal
              (subst (λ (acts : List Kind). IsFollowed b p acts (told.entry ∷ told.entries) journal) before told.followed);
          named = named-more p.names told.entry told.entries told.named;
          replies = told.replies ∙ replied-update p.task.kind (told.entry ∷ told.entries) kind;
          on = record { kind = kind ∙ sym making; names = names; bytes = bytes; says = asking.says; rests = rests-on later rests };
        })
      where
        -- what it rests on doesn't hang on how far the plan has come
        rests-on : (k : Kind) → RestsOn b p k names bytes journal → RestsOn b (went_on p (p.names ++ name_of told.entry ∷ []) p.bytes (Acting later)) k names bytes journal
        rests-on Fetches h = h
        rests-on Diffs h = h
        rests-on Takes h = h
        rests-on Folds h = by names h
          where
            by : (ns : List At) → RestsOn b p Folds ns bytes journal → RestsOn b (went_on p (p.names ++ name_of told.entry ∷ []) p.bytes (Acting later)) Folds ns bytes journal
            by [] h = absurd h
            by (n ∷ []) h = h
            by (n ∷ x ∷ ns) h = absurd h
        rests-on Puts h = absurd h
        rests-on Holds h = absurd h

  -- ---- one act after the other

  all-read : (kind : TaskKind) → kind ≡ Read → Fetches ∷ [] ≡ all_acts p.mode kind
  all-read kind is = subst (λ (k : TaskKind). Fetches ∷ [] ≡ all_acts p.mode k) (sym is) refl

  all-update : (kind : TaskKind) → kind ≡ Update → Folds ∷ before_act p.mode Folds ≡ all_acts p.mode kind
  all-update kind is = subst (λ (k : TaskKind). Folds ∷ before_act p.mode Folds ≡ all_acts p.mode k) (sym is) refl

  before-fold : (x : Bool) → takes_delta p.mode ≡ x → cond x (Takes ∷ Diffs ∷ []) (Diffs ∷ []) ≡ before_act p.mode Folds
  before-fold x is = ap (λ y. cond y (Takes ∷ Diffs ∷ []) (Diffs ∷ [])) (sym is)

  not-sent : p.task.kind ≡ Update → sends_delta p.mode ≡ false
  not-sent kind = subst (λ (k : TaskKind). IsPlanned p.mode k) kind plan.planned

  stands : (act : Kind) (said : Option Said) (told : ActWasDone b p act said journal) → entry_at (name_of told.entry) journal ≡ Some told.entry.event
  stands act said told = (made-stand b p (act ∷ before_act p.mode act) (told.entry ∷ told.entries) journal g told.followed).0

  after-fetch : (said : Option Said) (told : ActWasDone b p Fetches said journal) (next : Do) (new : PlanState) →
      GoesOn p Fetches (name_of told.entry ∷ []) told.bytes next new → HasAsked b new next journal
  after-fetch said told next new goes =
      closes Fetches said told next new told.bytes (all-read p.task.kind told.kind)
      (told.answered ∙ subst (λ (k : TaskKind). bytes_of (Some told.entry.event) ≡ replied k (told.entry ∷ told.entries)) (sym told.kind) refl) goes

  after-fold : (said : Option Said) (told : ActWasDone b p Folds said journal) (next : Do) (new : PlanState) →
      GoesOn p Folds (name_of told.entry ∷ []) told.bytes next new → HasAsked b new next journal
  after-fold said told next new goes =
      closes Folds said told next new p.bytes (all-update p.task.kind told.kind) (told.replies ∙ replied-update p.task.kind (told.entry ∷ told.entries) told.kind) goes

  after-take : (said : Option Said) (told : ActWasDone b p Takes said journal) (next : Do) (new : PlanState) →
      GoesOn p Takes (name_of told.entry ∷ []) told.bytes next new → HasAsked b new next journal
  after-take said told next new goes =
      asks Takes said told next new Folds (name_of told.entry ∷ []) told.bytes told.kind refl (before-fold true told.answered.0)
      (m.lock, (told.answered.1.1, source)) goes
    where
      m : IsMadeBy p Takes told.entry
      m = told.followed.made.0

      source : IsFoldSource b.array journal p.command p.task (name_of told.entry) told.bytes (entry_at (name_of told.entry) journal)
      source =
          subst (IsFoldSource b.array journal p.command p.task (name_of told.entry) told.bytes) (sym (stands Takes said told ∙ ap Some m.event))
          (m.owner, sym (told.answered.1.0 ∙ ap (λ (e : Event). bytes_of (Some e)) m.event))

  after-diff : (said : Option Said) (told : ActWasDone b p Diffs said journal) (next : Do) (new : PlanState) →
      GoesOn p Diffs (name_of told.entry ∷ []) told.bytes next new → HasAsked b new next journal
  after-diff said told next new goes = by (takes_delta p.mode) refl goes
    where
      m : IsMadeBy p Diffs told.entry
      m = told.followed.made.0

      by : (x : Bool) → takes_delta p.mode ≡ x → TakesOrFolds x (with_made p (name_of told.entry ∷ [])) (name_of told.entry ∷ []) told.bytes next new → HasAsked b new next journal
      by true is goes = asks Diffs said told next new Takes [] [] told.kind refl refl (is, (refl, refl)) goes
      by false is goes =
          let back = handed-back p.mode is (not-sent told.kind) in
          let delta = told.answered back in
          asks Diffs said told next new Folds (name_of told.entry ∷ []) told.bytes told.kind refl (before-fold false is) (
            m.lock,
            (
              delta.1,
              subst (IsFoldSource b.array journal p.command p.task (name_of told.entry) told.bytes) (sym (stands Diffs said told ∙ ap Some m.event))
                  (under-way p.mode b.array.mode told.followed.mode back, m.owner, delta.0),
            ),
          ) goes

  after : (act : Kind) (said : Option Said) (told : ActWasDone b p act said journal) (next : Do) (new : PlanState) →
      GoesOn p act (name_of told.entry ∷ []) told.bytes next new → HasAsked b new next journal
  after Fetches said told next new goes = after-fetch said told next new goes
  after Diffs said told next new goes = after-diff said told next new goes
  after Takes said told next new goes = after-take said told next new goes
  after Folds said told next new goes = after-fold said told next new goes
  after Puts said told next new goes = absurd goes
  after Holds said told next new goes = absurd goes

  goes-on : (said : Option Said) (next : Do) (new : PlanState) (step : Step) → (step ≡ Closing → ⊥) → IsToldAt step b p said journal → NextAt step said p next new →
      HasAsked b new next journal
  goes-on said next new Begun not_closing told goes =
      begins next new p.task.kind refl told.1.0 told.1.1.0 told.1.1.1 (subst (λ (x : Option Said). NextAt Begun x p next new) told.0 goes)
  goes-on said next new (Acting act) not_closing told goes =
      after act said told next new (subst (λ (x : Option Said). NextAt (Acting act) x p next new) told.says goes)
  goes-on said next new Closing not_closing told goes = absurd (not_closing refl)
  goes-on said next new Over not_closing told goes = absurd told

pub plans-go_on : PlansGoOn
plans-go_on b p new said next journal plan g not_closing told has = goes-on b p journal plan g said next new p.step not_closing told has
