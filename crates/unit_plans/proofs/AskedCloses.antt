-- The close that a plan asks for may be done: it names each act of its command, once.
use Rattle.std.specs.List.{AllByRecursion}
use Rattle.std.specs.Prelude.{◌≡◌, ◌==◌, ◌&&◌, ◌<◌, ◌+◌, suc, ℕ, Bool, true, false, List, [], ◌∷◌, map, reverse, None}
use Rattle.std.proofs.Common.{refl, ap, sym, ◌∙◌, subst, cond, arith}
use Rattle.std.proofs.lemmas.Bool.{eq-eqb, and_from, both_ways}
use Rattle.stripe_layout.specs.declared.mode.Mode.{Mode}
use Rattle.stripe_layout.specs.Modes.{takes_delta}
use Rattle.array_journal.specs.declared.act.Act.{Act as Kind}
use Rattle.array_journal.specs.declared.act.Act.TheVariants.{Fetches, Puts, Diffs, Takes, Folds, Holds}
use Rattle.array_journal.specs.declared.at.At.{At}
use Rattle.array_journal.specs.declared.entry.Entry.{Entry}
use Rattle.array_journal.specs.declared.event.Event.{Event}
use Rattle.array_journal.specs.declared.event.Event.TheVariants.{Close}
use Rattle.array_journal.specs.declared.setting.Setting.{Setting}
use Rattle.array_journal.specs.declared.task.Kind.{Kind as TaskKind}
use Rattle.array_journal.specs.declared.task.Kind.TheVariants.{Read, Update}
use Rattle.array_journal.specs.declared.task.Task.{Task}
use Rattle.array_journal.specs.Acts.{has_act, is_act}
use Rattle.array_journal.specs.Entries.{name_of}
use Rattle.array_journal.specs.May.{is_own_act, is_named, AllNamed, closed_bytes}
use Rattle.array_journal.specs.OwnEntries.{OfCommand}
use Rattle.array_journal.specs.Parts.{Named, EachNamed}
use Rattle.array_journal.specs.Run.{Grows, IsSetting}
use Rattle.array_journal.proofs.calm.ActSteps.{has-there, all_named-none, all_named-one, named-here, named-later, own-fetches, own-diffs, own-takes, own-folds}
use Rattle.array_journal.proofs.sums.LayoutLaws.{parity_of-below}
use Rattle.array_journal.proofs.runs.CommandLaws.{named-task}
use Rattle.array_journal.proofs.runs.JoinedParts.{reverse-all}
use Rattle.array_journal.proofs.runs.Standing.{passes-said}
use Rattle.unit_plans.specs.Buses.{BusSetting}
use Rattle.unit_plans.specs.Conditions.{CanEndBy}
use Rattle.unit_plans.specs.Follows.{IsFollowed, IsMadeBy, AreMadeBy, all_acts, opening_of}
use Rattle.unit_plans.specs.Plans.{PlanState, IsPlan, IsPlanned, IsPlannedAct}
use Rattle.unit_plans.specs.Steps.{target_of}
use Rattle.unit_plans.proofs.MadeActs.{event-acts, made-stand, opening-stands, open-still, own-command}
use Rattle.unit_plans.proofs.OwnEntries.{Stands, own-rise}

pub made-act : (p : PlanState) (act : Kind) (e : Entry) → IsMadeBy p act e → is_act act p.command e.event ≡ true
made-act p act e m = ap (is_act act p.command) m.event ∙ event-acts p.mode act m.order m.cdb p.task.row m.bytes p.command m.owner

own-event : (s : Setting) (c : ℕ) (task : Task) (act : Kind) (i lock : ℕ) (e : Event) → lock ≡ i + 1 → IsPlannedAct act → has_act s act task i ≡ true → is_act act c e ≡ true →
    is_own_act s c task lock e ≡ true
own-event s c task act i lock e at planned has is =
    let next : lock ≡ suc i = omega (arith, at) in subst (λ (l : ℕ). is_own_act s c task l e ≡ true) (sym next) (by act planned has is)
  where
    by : (a : Kind) → IsPlannedAct a → has_act s a task i ≡ true → is_act a c e ≡ true → is_own_act s c task (suc i) e ≡ true
    by Fetches planned has is = own-fetches s c task i e has is
    by Diffs planned has is = own-diffs s c task i e has is
    by Takes planned has is = own-takes s c task i e has is
    by Folds planned has is = own-folds s c task i e has is
    by Puts planned has is = absurd planned
    by Holds planned has is = absurd planned

-- a plan's task has this act, where it is made
abbrev HasHere : Setting → Task → Kind → Type 0
HasHere s task act = IsPlannedAct act × (has_act s act task (target_of task act) ≡ true)

module _ (b : BusSetting) (p : PlanState) (journal : List Entry) where
  IsNamedOwn : Entry → Type 0
  IsNamedOwn e = Named journal (name_of e) (is_own_act b.array p.command p.task e.lock)

  own-named : (acts : List Kind) (entries : List Entry) → AllByRecursion (HasHere b.array p.task) acts → AreMadeBy p acts entries → AllByRecursion (Stands journal) entries →
      AllByRecursion IsNamedOwn entries
  unfolding IsNamedOwn
  own-named [] [] has made stand = tt
  own-named [] (e ∷ entries) has made stand = absurd made
  own-named (act ∷ acts) [] has made stand = absurd made
  own-named (act ∷ acts) (e ∷ entries) has made stand = (
    passes-said (is_own_act b.array p.command p.task e.lock) (name_of e) journal e.event stand.0
        (own-event b.array p.command p.task act (target_of p.task act) e.lock e.event made.0.lock has.0.0 has.0.1 (made-act p act e made.0)),
    own-named acts entries has.1 made.1 stand.1,
  )

  each-own : (entries : List Entry) → AllByRecursion IsNamedOwn entries → EachNamed b.array journal p.command p.task (map name_of entries)
  unfolding IsNamedOwn
  each-own [] h = tt
  each-own (e ∷ entries) h = (h.0, each-own entries h.1)

  pub only-own : (acts : List Kind) (entries : List Entry) → AllByRecursion (HasHere b.array p.task) acts → AreMadeBy p acts entries → AllByRecursion (Stands journal) entries →
      EachNamed b.array journal p.command p.task (map name_of (reverse entries))
  only-own acts entries has made stand = each-own (reverse entries) (reverse-all IsNamedOwn entries (own-named acts entries has made stand))

  -- an entry is named for its act
  here : (act : Kind) (e : Entry) (names : List At) → IsMadeBy p act e → Stands journal e → is_named journal p.command act (target_of p.task act) (name_of e ∷ names) ≡ true
  here act e names m stands = named-here journal p.command act (target_of p.task act) (name_of e) names e.event m.lock stands (made-act p act e m)

  later : (act : Kind) (e : Entry) (names : List At) → is_named journal p.command act (target_of p.task act) names ≡ true →
      is_named journal p.command act (target_of p.task act) (name_of e ∷ names) ≡ true
  later act e names h = named-later journal p.command act (target_of p.task act) (name_of e) names h

-- ---- the close

no-answer : (kind : TaskKind) (mode : Mode) → IsPlanned mode kind → (s : Setting) (journal : List Entry) (task : Task) (names : List At) → [] ≡ closed_bytes s journal task names kind
no-answer Read mode h s journal task names = refl
no-answer Update mode h s journal task names = refl
no-answer _ mode h s journal task names = absurd h

module _ (b : BusSetting) (p : PlanState) (entries journal : List Entry) (set : IsSetting b.array) (plan : IsPlan p) (g : Grows b.array journal) (f : IsFollowed b p (all_acts p.mode p.task.kind) entries journal) where
  -- its acts are named, so it may be closed
  by-names : AllByRecursion (HasHere b.array p.task) (all_acts p.mode p.task.kind) →
      ((names : List At) → names ≡ map name_of (reverse entries) → (act : Kind) → AllNamed b.array journal p.command p.task act names) →
      CanEndBy b.array journal journal p.command (Close p.command true (map name_of (reverse entries)) None [])
  by-names has named =
      let acts = all_acts p.mode p.task.kind in
      let names = map name_of (reverse entries) in
      let opening = opening-stands b p acts entries journal g f in
      record {
        own = own-command b p acts entries journal g f;
        asked = (
          p.task,
          (
            (open-still b p acts entries journal g f, named-task b.array p.opened p.command p.task journal g f.in_book opening),
            record {
              acts = record {
                in_order = own-rise b.array (OfCommand p.command) journal entries (opening_of p ∷ []) g f.own;
                only = only-own b p journal acts entries has f.made (made-stand b p acts entries journal g f);
                fetches = named names refl Fetches;
                puts = named names refl Puts;
                diffs = named names refl Diffs;
                takes = named names refl Takes;
                holds = named names refl Holds;
              };
              folds = named names refl Folds;
              answer = no-answer p.task.kind p.mode plan.planned b.array journal p.task names;
            },
          ),
        );
        found = tt;
      }

-- a read made its one fetch
module _ (b : BusSetting) (p : PlanState) (journal : List Entry) (e : Entry) (kind : p.task.kind ≡ Read) (made : IsMadeBy p Fetches e) (stands : Stands journal e) where
  read-named : (act : Kind) → AllNamed b.array journal p.command p.task act (name_of e ∷ [])
  read-named Fetches =
      all_named-one b.array journal p.command p.task Fetches (name_of e ∷ []) Read b.array.mode p.task.target kind refl (λ i. refl) (here b p journal Fetches e [] made stands)
  read-named Puts = all_named-none b.array journal p.command p.task Puts (name_of e ∷ []) Read b.array.mode kind refl (λ i. refl)
  read-named Diffs = all_named-none b.array journal p.command p.task Diffs (name_of e ∷ []) Read b.array.mode kind refl (λ i. refl)
  read-named Takes = all_named-none b.array journal p.command p.task Takes (name_of e ∷ []) Read b.array.mode kind refl (λ i. refl)
  read-named Folds = all_named-none b.array journal p.command p.task Folds (name_of e ∷ []) Read b.array.mode kind refl (λ i. refl)
  read-named Holds = all_named-none b.array journal p.command p.task Holds (name_of e ∷ []) Read b.array.mode kind refl (λ i. refl)

-- an update made its diff and its fold, and its take where the mode has one
module _ (b : BusSetting) (p : PlanState) (journal : List Entry) (names : List At) (kind : p.task.kind ≡ Update) where
  update-named : is_named journal p.command Diffs p.task.target names ≡ true → (takes_delta b.array.mode ≡ true → is_named journal p.command Takes p.task.target names ≡ true) →
      is_named journal p.command Folds p.task.parity names ≡ true → (act : Kind) → AllNamed b.array journal p.command p.task act names
  update-named diff take fold Fetches = all_named-none b.array journal p.command p.task Fetches names Update b.array.mode kind refl (λ i. refl)
  update-named diff take fold Puts = all_named-none b.array journal p.command p.task Puts names Update b.array.mode kind refl (λ i. refl)
  update-named diff take fold Diffs = all_named-one b.array journal p.command p.task Diffs names Update b.array.mode p.task.target kind refl (λ i. refl) diff
  update-named diff take fold Takes = by (takes_delta b.array.mode) refl
    where
      by : (x : Bool) → takes_delta b.array.mode ≡ x → AllNamed b.array journal p.command p.task Takes names
      by true is =
          all_named-one b.array journal p.command p.task Takes names Update b.array.mode p.task.target kind refl (λ i. ap (λ y. y && (i == p.task.target)) is) (take is)
      by false is = all_named-none b.array journal p.command p.task Takes names Update b.array.mode kind refl (λ i. ap (λ y. y && (i == p.task.target)) is)
  update-named diff take fold Folds = all_named-one b.array journal p.command p.task Folds names Update b.array.mode p.task.parity kind refl (λ i. refl) fold
  update-named diff take fold Holds = all_named-none b.array journal p.command p.task Holds names Update b.array.mode kind refl (λ i. refl)

module _ (b : BusSetting) (p : PlanState) (entries journal : List Entry) (set : IsSetting b.array) (plan : IsPlan p) (g : Grows b.array journal) (f : IsFollowed b p (all_acts p.mode p.task.kind) entries journal) where
  abbrev Ends : Type 0
  Ends = CanEndBy b.array journal journal p.command (Close p.command true (map name_of (reverse entries)) None [])

  stand : AllByRecursion (Stands journal) entries
  stand = made-stand b p (all_acts p.mode p.task.kind) entries journal g f

  same-mode : p.mode ≡ b.array.mode
  same-mode = f.mode

  made-of : (kind : TaskKind) → p.task.kind ≡ kind → AreMadeBy p (all_acts p.mode kind) entries
  made-of kind is = subst (λ (k : TaskKind). AreMadeBy p (all_acts p.mode k) entries) is f.made

  close-read : p.task.kind ≡ Read → Ends
  close-read kind =
      by-names b p entries journal set plan g f
      (subst (λ (k : TaskKind). AllByRecursion (HasHere b.array p.task) (all_acts p.mode k)) (sym kind)
      ((tt, has-there b.array Fetches p.task Read b.array.mode p.task.target kind refl f.sound.target (eq-eqb p.task.target p.task.target refl)), tt))
      (names-of entries (made-of Read kind) stand)
    where
      names-of : (es : List Entry) → AreMadeBy p (Fetches ∷ []) es → AllByRecursion (Stands journal) es → (names : List At) → names ≡ map name_of (reverse es) → (act : Kind) →
          AllNamed b.array journal p.command p.task act names
      names-of [] made there names is act = absurd made
      names-of (e ∷ []) made there names is act =
          subst (λ (ns : List At). AllNamed b.array journal p.command p.task act ns) (sym is) (read-named b p journal e kind made.0 there.0 act)
      names-of (e ∷ x ∷ es) made there names is act = absurd made.1

  has-diff : p.task.kind ≡ Update → HasHere b.array p.task Diffs
  has-diff kind = (tt, has-there b.array Diffs p.task Update b.array.mode p.task.target kind refl f.sound.target (eq-eqb p.task.target p.task.target refl))

  has-take : p.task.kind ≡ Update → takes_delta p.mode ≡ true → HasHere b.array p.task Takes
  has-take kind takes = (
    tt,
    has-there b.array Takes p.task Update b.array.mode p.task.target kind refl f.sound.target
        (and_from (takes_delta b.array.mode) (p.task.target == p.task.target) (ap takes_delta (sym f.mode) ∙ takes) (eq-eqb p.task.target p.task.target refl)),
  )

  has-fold : p.task.kind ≡ Update → HasHere b.array p.task Folds
  has-fold kind =
      let below = subst (λ (n : ℕ). n < b.array.geometry.targets) (sym f.sound.parity) (parity_of-below b.array p.task.stripe set) in
      (tt, has-there b.array Folds p.task Update b.array.mode p.task.parity kind refl below (eq-eqb p.task.parity p.task.parity refl))

  close-update : p.task.kind ≡ Update → Ends
  close-update kind =
      by-names b p entries journal set plan g f
      (subst (λ (k : TaskKind). AllByRecursion (HasHere b.array p.task) (all_acts p.mode k)) (sym kind) (has-fold kind, has-others (takes_delta p.mode) refl))
      (names-of (takes_delta p.mode) refl entries (made-of Update kind) stand)
    where
      has-others : (x : Bool) → takes_delta p.mode ≡ x → AllByRecursion (HasHere b.array p.task) (cond x (Takes ∷ Diffs ∷ []) (Diffs ∷ []))
      has-others true is = (has-take kind is, (has-diff kind, tt))
      has-others false is = (has-diff kind, tt)

      names-of : (x : Bool) → takes_delta p.mode ≡ x → (es : List Entry) → AreMadeBy p (Folds ∷ cond x (Takes ∷ Diffs ∷ []) (Diffs ∷ [])) es → AllByRecursion (Stands journal) es →
          (names : List At) → names ≡ map name_of (reverse es) → (act : Kind) → AllNamed b.array journal p.command p.task act names
      names-of x takes [] made there names is act = absurd made
      names-of true takes (f ∷ []) made there names is act = absurd made.1
      names-of true takes (f ∷ t ∷ []) made there names is act = absurd made.1.1
      names-of true takes (f ∷ t ∷ d ∷ []) made there names is act =
          subst (λ (ns : List At). AllNamed b.array journal p.command p.task act ns) (sym is)
          (update-named b p journal (name_of d ∷ name_of t ∷ name_of f ∷ []) kind
          (here b p journal Diffs d (name_of t ∷ name_of f ∷ []) made.1.1.0 there.1.1.0)
          (λ takes. later b p journal Takes d (name_of t ∷ name_of f ∷ []) (here b p journal Takes t (name_of f ∷ []) made.1.0 there.1.0))
          (later b p journal Folds d (name_of t ∷ name_of f ∷ []) (later b p journal Folds t (name_of f ∷ []) (here b p journal Folds f [] made.0 there.0))) act)
      names-of true takes (f ∷ t ∷ d ∷ x ∷ es) made there names is act = absurd made.1.1.1
      names-of false takes (f ∷ []) made there names is act = absurd made.1
      names-of false takes (f ∷ d ∷ []) made there names is act =
          subst (λ (ns : List At). AllNamed b.array journal p.command p.task act ns) (sym is)
          (update-named b p journal (name_of d ∷ name_of f ∷ []) kind (here b p journal Diffs d (name_of f ∷ []) made.1.0 there.1.0)
          (λ yes. absurd (both_ways (takes_delta p.mode) takes (ap takes_delta same-mode ∙ yes)))
          (later b p journal Folds d (name_of f ∷ []) (here b p journal Folds f [] made.0 there.0)) act)
      names-of false takes (f ∷ d ∷ x ∷ es) made there names is act = absurd made.1.1

  -- a command that has made all its acts may be closed
  pub can-close : CanEndBy b.array journal journal p.command (Close p.command true (map name_of (reverse entries)) None [])
  can-close = by p.task.kind refl
    where
      by : (kind : TaskKind) → p.task.kind ≡ kind → Ends
      by Read is = close-read is
      by Update is = close-update is
      by _ is = absurd (subst (λ (k : TaskKind). IsPlanned p.mode k) is plan.planned)
