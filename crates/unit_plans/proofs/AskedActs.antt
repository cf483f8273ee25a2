-- An act that a plan asks for may be done.
use Rattle.std.specs.List.{AllByRecursion}
use Rattle.std.specs.Prelude.{◌≡◌, ◌==◌, ◌≤◌, ◌<◌, ◌+◌, ℕ, Bool, true, false, List, [], ◌∷◌, length, Option, Some, None}
use Rattle.std.proofs.Common.{refl, ap, sym, ◌∙◌, subst, cond}
use Rattle.std.proofs.lemmas.Bool.{eq-eqb, and_from}
use Rattle.stripe_layout.specs.declared.mode.Mode.{Mode}
use Rattle.stripe_layout.specs.Modes.{takes_delta, sends_delta}
use Rattle.sbc_cdbs.specs.declared.commands.Command.{Command}
use Rattle.sbc_cdbs.specs.Cdbs.{spelling, SpellsCdb}
use Rattle.array_journal.specs.declared.act.Act.{Act as Kind}
use Rattle.array_journal.specs.declared.act.Act.TheVariants.{Fetches, Puts, Diffs, Takes, Folds, Holds}
use Rattle.array_journal.specs.declared.at.At.{At}
use Rattle.array_journal.specs.declared.entry.Entry.{Entry}
use Rattle.array_journal.specs.declared.event.Event.{Event}
use Rattle.array_journal.specs.declared.event.Event.TheVariants.{Open}
use Rattle.array_journal.specs.declared.setting.Setting.{Setting}
use Rattle.array_journal.specs.declared.task.Kind.{Kind as TaskKind}
use Rattle.array_journal.specs.declared.task.Kind.TheVariants.{Read, Update}
use Rattle.array_journal.specs.Acts.{has_act, cdb_of, is_act, shuts_command, task_bytes}
use Rattle.array_journal.specs.Entries.{entry_at}
use Rattle.array_journal.specs.May.{IsTask, IsTaskOfKind, IsFoldSource}
use Rattle.array_journal.specs.Run.{Grows, IsSetting}
use Rattle.array_journal.proofs.calm.ActSteps.{has-there}
use Rattle.array_journal.proofs.sums.LayoutLaws.{parity_of-below}
use Rattle.xor_target.specs.Logs.{last_stamp}
use Rattle.unit_plans.specs.declared.acts.Act.TheVariants.{Run}
use Rattle.unit_plans.specs.Buses.{BusSetting}
use Rattle.unit_plans.specs.Conditions.{CanAct, stamped}
use Rattle.unit_plans.specs.Conditions.IsSentFor.{Fetching, Diffing, Taking, Folding}
use Rattle.unit_plans.specs.Follows.{IsFollowed, RestsOn, RestsOnOne, kind_making, before_act}
use Rattle.unit_plans.specs.Orders.{AskedOrder, AskedDiffOrder, AskedFoldOrder}
use Rattle.unit_plans.specs.Plans.{PlanState, IsPlan, IsPlanned, plan_order, setting_of}
use Rattle.unit_plans.specs.Steps.{target_of}
use Rattle.unit_plans.specs.Targets.{AreSeen}
use Rattle.unit_plans.proofs.MadeActs.{IsQuiet, act-own, shut-own, shut-quiet, each-act, never-says, opening-stands, own-command}
use Rattle.unit_plans.proofs.OwnEntries.{named-seen}
use Rattle.unit_plans.proofs.PlanFits.{plan-fits}

-- the act isn't one of those before it
not-before : (mode : Mode) (row c : ℕ) (act : Kind) → AllByRecursion (IsQuiet mode row (is_act act c)) (before_act mode act)
not-before mode row c Fetches = tt
not-before mode row c Puts = tt
not-before mode row c Diffs = tt
not-before mode row c Takes = (λ order cdb bytes. refl, tt)
not-before mode row c Folds = by (takes_delta mode)
  where
    by : (b : Bool) → AllByRecursion (IsQuiet mode row (is_act Folds c)) (cond b (Takes ∷ Diffs ∷ []) (Diffs ∷ []))
    by true = (λ order cdb bytes. refl, (λ order cdb bytes. refl, tt))
    by false = (λ order cdb bytes. refl, tt)
not-before mode row c Holds = tt

same-cdb : (p : PlanState) (s : Setting) (act : Kind) → p.geometry ≡ s.geometry → p.mode ≡ s.mode → cdb_of (setting_of p) p.task 0 act ≡ cdb_of s p.task 0 act
same-cdb p s act geometry mode =
    ap (λ (x : Setting). cdb_of (record { geometry = x.geometry; buffer = s.buffer; mode = p.mode }) p.task 0 act) (at-geometry p s geometry)
    ∙ ap (λ (m : Mode). cdb_of (record { geometry = s.geometry; buffer = s.buffer; mode = m }) p.task 0 act) mode
  where
    at-geometry : (p : PlanState) (s : Setting) → p.geometry ≡ s.geometry → setting_of p ≡ record (setting_of p) { geometry = s.geometry }
    at-geometry p s h = ap (λ g. record (setting_of p) { geometry = g }) h

module _ (b : BusSetting) (p : PlanState) (entries journal : List Entry) (act : Kind) (set : IsSetting b.array) (plan : IsPlan p) (g : Grows b.array journal) (f : IsFollowed b p (before_act p.mode act) entries journal) (kind : p.task.kind ≡ kind_making act) where
  abbrev pub s : Setting
  s = b.array

  pub parity-below : p.task.parity < s.geometry.targets
  parity-below = subst (λ (n : ℕ). n < s.geometry.targets) (sym f.sound.parity) (parity_of-below s p.task.stripe set)

  pub target-below : target_of p.task act < s.geometry.targets
  target-below = by act
    where
      by : (a : Kind) → target_of p.task a < s.geometry.targets
      by Folds = parity-below
      by _ = f.sound.target

  spelt : SpellsCdb (spelling (cdb_of (setting_of p) p.task 0 act)) (cdb_of s p.task 0 act)
  spelt =
      subst (λ (x : Command). SpellsCdb (spelling (cdb_of (setting_of p) p.task 0 act)) x) (same-cdb p s act f.geometry f.mode) (refl, plan-fits p act plan)

  pub asked : (names : List At) (bytes : List ℕ) → has_act s act p.task (target_of p.task act) ≡ true → AreSeen (last_stamp journal) names →
      AskedOrder s journal (target_of p.task act) (stamped journal (plan_order p act names bytes)) 0 p.task act
  asked names bytes has seen = record {
    opening = opening-stands b p (before_act p.mode act) entries journal g f;
    in_book = f.in_book;
    of_task = has;
    not_shut =
        never-says b p (before_act p.mode act) entries journal g f (target_of p.task act + 1) (shuts_command p.command) (shut-own p.command)
        (each-act (IsQuiet p.mode p.task.row (shuts_command p.command)) (before_act p.mode act) (shut-quiet p.mode p.task.row p.command)) refl;
    once =
        never-says b p (before_act p.mode act) entries journal g f (target_of p.task act + 1) (is_act act p.command) (act-own act p.command)
        (not-before p.mode p.task.row p.command act) (opening act);
    spelt = spelt;
    seen = (named-seen s p.opened journal _ g (opening-stands b p (before_act p.mode act) entries journal g f), seen);
  }
    where
      opening : (a : Kind) → is_act a p.command (Open p.command p.task) ≡ false
      opening Fetches = refl
      opening Puts = refl
      opening Diffs = refl
      opening Takes = refl
      opening Folds = refl
      opening Holds = refl

-- ---- one act after the other

module _ (b : BusSetting) (p : PlanState) (entries journal : List Entry) (set : IsSetting b.array) (plan : IsPlan p) (g : Grows b.array journal) where
  pub fetch-asked : IsFollowed b p [] entries journal → p.task.kind ≡ Read →
      AskedOrder b.array journal p.task.target (stamped journal (plan_order p Fetches [] [])) 0 p.task Fetches
  fetch-asked f kind =
      asked b p entries journal Fetches set plan g f kind [] []
      (has-there b.array Fetches p.task Read b.array.mode p.task.target kind refl f.sound.target (eq-eqb p.task.target p.task.target refl)) tt

  pub written : IsTask b.array p.task → p.task.kind ≡ Update → length p.task.bytes ≡ task_bytes b.array p.task
  written sound kind = (subst (λ (k : TaskKind). IsTaskOfKind b.array p.task k) kind sound.by_kind).1

  pub not-sent : IsFollowed b p [] entries journal → p.task.kind ≡ Update → sends_delta b.array.mode ≡ false
  not-sent f kind = ap sends_delta (sym f.mode) ∙ subst (λ (k : TaskKind). IsPlanned p.mode k) kind plan.planned

  pub diff-asked : IsFollowed b p [] entries journal → p.task.kind ≡ Update →
      AskedDiffOrder b.array journal p.task.target (stamped journal (plan_order p Diffs [] p.task.bytes)) p.task
  diff-asked f kind = record {
    act = asked b p entries journal Diffs set plan g f kind [] p.task.bytes
        (has-there b.array Diffs p.task Update b.array.mode p.task.target kind refl f.sound.target (eq-eqb p.task.target p.task.target refl)) tt;
    whole = written f.sound kind;
    written = refl;
  }

  pub take-asked : IsFollowed b p (Diffs ∷ []) entries journal → p.task.kind ≡ Update → takes_delta p.mode ≡ true →
      AskedOrder b.array journal p.task.target (stamped journal (plan_order p Takes [] [])) 0 p.task Takes
  take-asked f kind takes =
      asked b p entries journal Takes set plan g f kind [] []
      (has-there b.array Takes p.task Update b.array.mode p.task.target kind refl f.sound.target
      (and_from (takes_delta b.array.mode) (p.task.target == p.task.target) (ap takes_delta (sym f.mode) ∙ takes) (eq-eqb p.task.target p.task.target refl))) tt

  pub fold-asked : IsFollowed b p (before_act p.mode Folds) entries journal → p.task.kind ≡ Update → (name : At) (bytes : List ℕ) →
      RestsOnOne b p (name ∷ []) bytes journal → AskedFoldOrder b.array journal p.task.parity (stamped journal (plan_order p Folds (name ∷ []) bytes)) p.task name
  fold-asked f kind name bytes rests = record {
    act = asked b p entries journal Folds set plan g f kind (name ∷ []) bytes
        (has-there b.array Folds p.task Update b.array.mode p.task.parity kind refl (parity-below b p entries journal Folds set plan g f kind) (eq-eqb p.task.parity p.task.parity refl))
        (source-seen name bytes (entry_at name journal) refl rests.1.1, tt);
    whole = rests.1.0;
    one = refl;
    at_source = rests.0;
    source = rests.1.1;
  }
    where
      source-seen : (name : At) (bytes : List ℕ) (found : Option Event) → entry_at name journal ≡ found → IsFoldSource b.array journal p.command p.task name bytes found →
          name.stamp ≤ last_stamp journal
      source-seen name bytes None is h = absurd h
      source-seen name bytes (Some event) is h = named-seen b.array name journal event g is

  pub can-act : (act : Kind) (names : List At) (bytes : List ℕ) → IsFollowed b p (before_act p.mode act) entries journal → p.task.kind ≡ kind_making act →
      RestsOn b p act names bytes journal → CanAct b.array journal journal (target_of p.task act) (Run (plan_order p act names bytes))
  can-act Fetches names bytes f kind rests =
      subst (λ (x : List At). CanAct b.array journal journal p.task.target (Run (plan_order p Fetches x bytes))) (sym rests.0)
      (subst (λ (x : List ℕ). CanAct b.array journal journal p.task.target (Run (plan_order p Fetches [] x))) (sym rests.1)
      (own-command b p [] entries journal g f, Fetching p.task (fetch-asked f kind) refl))
  can-act Diffs names bytes f kind rests =
      subst (λ (x : List At). CanAct b.array journal journal p.task.target (Run (plan_order p Diffs x bytes))) (sym rests.0)
      (subst (λ (x : List ℕ). CanAct b.array journal journal p.task.target (Run (plan_order p Diffs [] x))) (sym rests.1)
      (own-command b p [] entries journal g f, Diffing p.task (diff-asked f kind) (not-sent f kind)))
  can-act Takes names bytes f kind rests =
      subst (λ (x : List At). CanAct b.array journal journal p.task.target (Run (plan_order p Takes x bytes))) (sym rests.1.0)
      (subst (λ (x : List ℕ). CanAct b.array journal journal p.task.target (Run (plan_order p Takes [] x))) (sym rests.1.1)
      (own-command b p (Diffs ∷ []) entries journal g f, Taking p.task (take-asked f kind rests.0) refl))
  can-act Folds names bytes f kind rests = fold names rests
    where
      fold : (ns : List At) → RestsOnOne b p ns bytes journal → CanAct b.array journal journal p.task.parity (Run (plan_order p Folds ns bytes))
      fold [] h = absurd h
      fold (name ∷ []) h = (own-command b p (before_act p.mode Folds) entries journal g f, Folding p.task name (fold-asked f kind name bytes h))
      fold (name ∷ x ∷ ns) h = absurd h
  can-act Puts names bytes f kind rests = absurd rests
  can-act Holds names bytes f kind rests = absurd rests
