-- What a target holds of a degraded read is what it gathered; so that is what is taken from it.
use Rattle.std.specs.Prelude.{◌≡◌, ◌==◌, ◌≤◌, ◌⊎◌, not, ℕ, ◌+◌, ◌*◌, Bool, true, false, List, [], ◌∷◌, length, Some, filter}
use Rattle.std.specs.List.{AllByRecursion}
use Rattle.std.proofs.Common.{refl, ap, sym, ◌∙◌, subst, inl, inr}
use Rattle.std.proofs.lemmas.Bool.{eq-eqb, cases_eq}
use Rattle.blocks_core.specs.Xor.{xor}
use Rattle.sbc_cdbs.specs.declared.descriptor.Cdb.{Cdb}
use Rattle.array_journal.specs.declared.at.At.{At}
use Rattle.array_journal.specs.declared.entry.Entry.{Entry}
use Rattle.array_journal.specs.declared.event.Event.{Event}
use Rattle.array_journal.specs.declared.event.Event.TheVariants.{Diff, Take, Hold, Shut, Gone, Wiped, Fresh}
use Rattle.array_journal.specs.declared.event.What.TheVariants.{Buffers, Request}
use Rattle.array_journal.specs.declared.setting.Setting.{Setting}
use Rattle.array_journal.specs.declared.task.Kind.TheVariants.{Update, DegradedRead}
use Rattle.array_journal.specs.declared.task.Task.{Task}
use Rattle.blocks_core.specs.Lists.{slice}
use Rattle.array_journal.specs.Entries.{name_of, entry_at, some_at, stamps_below}
use Rattle.array_journal.specs.Commands.{task_of}
use Rattle.array_journal.specs.declared.act.Act.TheVariants.{Diffs, Takes}
use Rattle.array_journal.specs.Acts.{is_act}
use Rattle.xor_buffers.specs.declared.held.HeldBlocks.{HeldBlocks}
use Rattle.xor_buffers.proofs.HeldLists.{all-owned, all-kept, all-joined}
use Rattle.array_journal.specs.Media.{media, held, held_after}
use Rattle.array_journal.specs.May.{MayTarget}
use Rattle.array_journal.specs.Run.{Grows, IsSetting}
use Rattle.array_journal.proofs.runs.Steps.{held-here, held-else, entry_at-here}
use Rattle.array_journal.proofs.runs.Standing.{may-here, some_at-newest, some_at-more, IsNameOf, entry_at-cases, entry_at-more, passes-said, some-named}
use Rattle.array_journal.proofs.runs.CommandLaws.{task_of-more}
use Rattle.array_journal.proofs.held.HeldOwners.{act-asks, HasAct, act-task, acted-has}
use Rattle.array_journal.proofs.held.Holding.{holding, taken-without}
use Rattle.array_journal.proofs.held.TakenWhole.{Found, taken-whole}
use Rattle.array_journal.proofs.owed.DeltaLaws.{differs-update}

-- a hold of a command that stands at target i, with its bytes
pub record IsHoldOf (i c : ℕ) (bytes : List ℕ) (past : List Entry) : Type 0 where
  pub name : At
  pub opened : At
  pub cdb : Cdb
  pub row : ℕ
  pub kept : Bool
  pub names : List At
  pub back : Bool
  pub at_target : name.lock ≡ i + 1
  pub stands : entry_at name past ≡ Some (Hold c opened cdb row bytes kept names back)

hold-more : (i c : ℕ) (bytes : List ℕ) (e : Entry) (past : List Entry) → stamps_below e.lock e.stamp past ≡ true → IsHoldOf i c bytes past → IsHoldOf i c bytes (e ∷ past)
hold-more i c bytes e past b h = record {
  name = h.name;
  opened = h.opened;
  cdb = h.cdb;
  row = h.row;
  kept = h.kept;
  names = h.names;
  back = h.back;
  at_target = h.at_target;
  stands = entry_at-more h.name e past (Hold c h.opened h.cdb h.row bytes h.kept h.names h.back) b h.stands;
}

-- held blocks come from a diff or are those of a hold
abbrev pub IsGathered : ℕ → List Entry → HeldBlocks → Type 0
IsGathered i past h = (some_at (i + 1) (is_act Diffs h.owner) past ≡ true) ⊎ IsHoldOf i h.owner h.bytes past

abbrev AllGathered : ℕ → List Entry → List HeldBlocks → Type 0
AllGathered i past hs = AllByRecursion (IsGathered i past) hs

gathered-more : (i : ℕ) (e : Entry) (past : List Entry) (hs : List HeldBlocks) → stamps_below e.lock e.stamp past ≡ true → AllGathered i past hs → AllGathered i (e ∷ past) hs
gathered-more i e past hs b p = all-owned (IsGathered i past) (IsGathered i (e ∷ past)) hs (λ h owned x. more h x) p
  where
    more : (h : HeldBlocks) → IsGathered i past h → IsGathered i (e ∷ past) h
    more h (inl differed) = inl (some_at-more (i + 1) (is_act Diffs h.owner) e past differed)
    more h (inr holds) = inr (hold-more i h.owner h.bytes e past b holds)

kept-gathered : (i : ℕ) (past : List Entry) (keeps : HeldBlocks → Bool) (hs : List HeldBlocks) → AllGathered i past hs → AllGathered i past (filter keeps hs)
kept-gathered i past keeps hs p = all-kept (IsGathered i past) (IsGathered i past) keeps hs (λ h k x. x) p

gathered-after : (s : Setting) (i : ℕ) (e : Entry) (past : List Entry) (event : Event) → e.event ≡ event → e.lock ≡ i + 1 → 1 ≤ s.geometry.block →
    Grows s (e ∷ past) → MayTarget s past e.stamp i event → AllGathered i (e ∷ past) (held s i past) →
    AllGathered i (e ∷ past) (held_after s (media s i past) event (held s i past))
gathered-after s i e past (Diff command opened cdb row bytes true dropped back) q here b g may p = p
gathered-after s i e past (Diff command opened cdb row bytes false dropped true) q here b g may p = p
gathered-after s i e past (Diff command opened cdb row bytes false dropped false) q here b g may p =
    all-joined (IsGathered i (e ∷ past)) (held s i past)
    (record { owner = command; row = row; bytes = xor (slice (media s i past) (row * s.geometry.block) (length bytes)) bytes }) p
    (inl (some_at-newest (i + 1) (is_act Diffs command) e past here (ap (is_act Diffs command) q ∙ eq-eqb command command refl)))
gathered-after s i e past (Hold command opened cdb row bytes true names back) q here b g may p =
    all-joined (IsGathered i (e ∷ past)) (held s i past) (record { owner = command; row = row; bytes = bytes }) p
    (inr (record {
      name = name_of e;
      opened = opened;
      cdb = cdb;
      row = row;
      kept = true;
      names = names;
      back = back;
      at_target = here;
      stands = entry_at-here (name_of e) e past refl refl ∙ ap (λ (x : Event). Some x) q;
    }))
gathered-after s i e past (Hold command opened cdb row bytes false names back) q here b g may p = p
gathered-after s i e past (Take command opened cdb row bytes) q here b g may p =
    subst (AllGathered i (e ∷ past))
    (sym (taken-without s i command past e.stamp (Take command opened cdb row bytes) opened may.0 0 row (length bytes) cdb bytes b g.1 may
    (eq-eqb command command refl) may.1.act may.1.taken (holding s i past b g.1)))
    (kept-gathered i (e ∷ past) (λ h. not (h.owner == command)) (held s i past) p)
gathered-after s i e past (Shut command opened acted lost) q here b g may p = kept-gathered i (e ∷ past) (λ h. not (h.owner == command)) (held s i past) p
gathered-after s i e past (Gone life call commands) q here b g may p = tt
gathered-after s i e past (Wiped Buffers call commands) q here b g may p = tt
gathered-after s i e past (Wiped Request call commands) q here b g may p = p
gathered-after s i e past (Fresh call swap) q here b g may p = tt
gathered-after s i e past _ q here b g may p = p

-- all that a target holds is so
pub held-gathered : (s : Setting) (i : ℕ) (past : List Entry) → 1 ≤ s.geometry.block → Grows s past → AllByRecursion (IsGathered i past) (held s i past)
held-gathered s i [] b g = tt
held-gathered s i (e ∷ past) b g = elim (cases_eq e.lock (i + 1)) [
  | inl here ↦ subst (AllGathered i (e ∷ past)) (sym (held-here s i e past here))
      (gathered-after s i e past e.event refl here b g (may-here s past e.stamp e.lock i e.event here g.0.1.1)
      (gathered-more i e past (held s i past) g.0.1.0 (held-gathered s i past b g.1)))
  | inr other ↦ subst (AllGathered i (e ∷ past)) (sym (held-else s i e past other)) (gathered-more i e past (held s i past) g.0.1.0 (held-gathered s i past b g.1))
]

-- a take of a degraded read takes what it gathered
taken-gathered : (s : Setting) (past : List Entry) (stamp i c : ℕ) (opened : At) (cdb : Cdb) (row : ℕ) (bytes : List ℕ) (task : Task) → 1 ≤ s.geometry.block → Grows s past →
    MayTarget s past stamp i (Take c opened cdb row bytes) → task_of c past ≡ Some task → task.kind ≡ DegradedRead → IsHoldOf i c bytes past
taken-gathered s past stamp i c opened cdb row bytes task b g m its k =
    by (taken-whole (IsGathered i past) s past stamp i c opened cdb row bytes b g m (held-gathered s i past b g))
  where
    one : (x y : Task) → Some x ≡ Some y → x ≡ y
    one x y e = cc

    apart : DegradedRead ≡ Update → ⊥
    apart e = absurd cc

    never : HasAct s past i c Diffs → ⊥
    never (other, (r, a)) = apart (sym k ∙ ap (λ (t : Task). t.kind) (one task other (sym its ∙ r)) ∙ (differs-update s other i a).0)

    by : Found (IsGathered i past) c bytes → IsHoldOf i c bytes past
    by (h, (own, (same, inl differed))) =
        absurd (never (acted-has s i c Diffs past g (subst (λ (n : ℕ). some_at (i + 1) (is_act Diffs n) past ≡ true) own differed)))
    by (h, (own, (same, inr holds))) =
        subst (λ (n : ℕ). IsHoldOf i n bytes past) own (subst (λ (x : List ℕ). IsHoldOf i h.owner x past) (sym same) holds)

-- so does one that stands
pub took-gathered : (s : Setting) (i c : ℕ) (name opened : At) (cdb : Cdb) (row : ℕ) (bytes : List ℕ) (task : Task) (past : List Entry) → IsSetting s → Grows s past →
    name.lock ≡ i + 1 → entry_at name past ≡ Some (Take c opened cdb row bytes) → task_of c past ≡ Some task → task.kind ≡ DegradedRead → IsHoldOf i c bytes past
took-gathered s i c name opened cdb row bytes task [] set g h stands its k = absurd cc
took-gathered s i c name opened cdb row bytes task (e ∷ past) set g h stands its k = elim (entry_at-cases name e past (Take c opened cdb row bytes) stands) [
  | inl here ↦ newest here
  | inr older ↦ hold-more i c bytes e past g.0.1.0 (took-gathered s i c name opened cdb row bytes task past set g.1 h older (before (taking older)) k)
]
  where
    one : (x y : Task) → Some x ≡ Some y → x ≡ y
    one x y q = cc

    -- the task that the command had before
    before : HasAct s past i c Takes → task_of c past ≡ Some task
    before (other, (q, a)) = q ∙ ap (λ (t : Task). Some t) (one other task (sym (task_of-more s c e past other g.1 g.0.1 q) ∙ its))

    taking : entry_at name past ≡ Some (Take c opened cdb row bytes) → HasAct s past i c Takes
    taking older =
        acted-has s i c Takes past g.1
        (some-named (i + 1) (is_act Takes c) name past h (passes-said (is_act Takes c) name past (Take c opened cdb row bytes) older (eq-eqb c c refl)))

    newest : IsNameOf name e × (e.event ≡ Take c opened cdb row bytes) → IsHoldOf i c bytes (e ∷ past)
    newest here =
        let place : e.lock ≡ i + 1 = sym here.0.1 ∙ h in
        let may : MayTarget s past e.stamp i (Take c opened cdb row bytes) =
        subst (λ (x : Event). MayTarget s past e.stamp i x) here.1 (may-here s past e.stamp e.lock i e.event place g.0.1.1) in
        hold-more i c bytes e past g.0.1.0
        (taken-gathered s past e.stamp i c opened cdb row bytes task set.array.least_block g.1 may
        (before (act-task s past e.stamp i c Takes g.1 (act-asks s past e.stamp i c Takes (Take c opened cdb row bytes) may (eq-eqb c c refl)))) k)
