-- What a target holds of an update is the update's delta. So that is what its take hands out, and what its fold brings to
-- parity.
use Rattle.std.specs.Prelude.{◌≡◌, ◌==◌, ◌≤◌, nat_lt, not, ℕ, ◌+◌, ◌*◌, Bool, true, false, List, [], ◌∷◌, length, Option, Some, filter}
use Rattle.std.specs.List.{AllByRecursion}
use Rattle.std.proofs.Common.{refl, ap, sym, ◌∙◌, subst, inl, inr}
use Rattle.std.proofs.lemmas.Bool.{eq-eqb, ne_eqb, cases_eq, and_parts, or_left, or_cases, both_ways, false≢true}
use Rattle.blocks_core.specs.Xor.{xor}
use Rattle.stripe_layout.specs.declared.mode.Mode.{Mode}
use Rattle.sbc_cdbs.specs.declared.descriptor.Cdb.{Cdb}
use Rattle.array_journal.specs.declared.at.At.{At}
use Rattle.array_journal.specs.declared.entry.Entry.{Entry}
use Rattle.array_journal.specs.declared.event.Event.{Event}
use Rattle.array_journal.specs.declared.event.Event.TheVariants.{Fetch, Put, Diff, Take, Fold, Hold, Shut, Gone, Wiped, Fresh}
use Rattle.array_journal.specs.declared.event.What.TheVariants.{Buffers, Request}
use Rattle.array_journal.specs.declared.setting.Setting.{Setting}
use Rattle.array_journal.specs.declared.task.Kind.{Kind}
use Rattle.array_journal.specs.declared.task.Kind.TheVariants.{Read, Update, DataOnly, DegradedRead, DegradedWrite, Rebuild, Resync}
use Rattle.array_journal.specs.declared.task.Task.{Task}
use Rattle.blocks_core.specs.Lists.{slice}
use Rattle.array_journal.specs.Entries.{entry_at, some_at}
use Rattle.array_journal.specs.Commands.{task_of}
use Rattle.array_journal.specs.declared.act.Act.TheVariants.{Diffs, Takes, Holds}
use Rattle.array_journal.specs.Acts.{acts_at, is_act}
use Rattle.xor_buffers.specs.declared.held.HeldBlocks.{HeldBlocks}
use Rattle.xor_buffers.specs.Held.{has_owner}
use Rattle.xor_buffers.proofs.HeldLists.{all-owned, all-kept, all-joined, without}
use Rattle.array_journal.specs.Media.{media, held, held_after}
use Rattle.array_journal.specs.May.{MayTarget, MayFold, IsFoldSource}
use Rattle.array_journal.specs.Run.{Grows, IsSetting}
use Rattle.array_journal.proofs.runs.Steps.{held-here, held-else}
use Rattle.array_journal.proofs.runs.Standing.{may-here, some_at-cases, some_at-newest, IsNameOf, entry_at-cases, passes-said, some-named}
use Rattle.array_journal.proofs.runs.CommandLaws.{named-task, task_of-more}
use Rattle.array_journal.proofs.held.HeldOwners.{HasAct, acted-has, never-both}
use Rattle.array_journal.proofs.held.NewlyHeld.{new-distinct, taken-source}
use Rattle.array_journal.proofs.held.Holding.{holding, taken-without}
use Rattle.array_journal.proofs.held.TakenWhole.{Found, taken-whole}
use Rattle.array_journal.proofs.owed.DeltaLaws.{folds-update, diff-task, IsDiffed, diff_delta, delta_made, delta_made-newest, delta_made-else, delta_made-more, delta_at-made}

-- held blocks of a command whose diff stands here are its delta
abbrev pub IsDelta : Setting → ℕ → List Entry → HeldBlocks → Type 0
IsDelta s i past h = some_at (i + 1) (is_act Diffs h.owner) past ≡ true → h.bytes ≡ delta_made s i h.owner past

abbrev AllDeltas : Setting → ℕ → List Entry → List HeldBlocks → Type 0
AllDeltas s i past hs = AllByRecursion (IsDelta s i past) hs

-- the same after an entry that isn't a diff of the owner here
delta-same : (s : Setting) (i : ℕ) (e : Entry) (past : List Entry) (h : HeldBlocks) → (e.lock ≡ i + 1 → is_act Diffs h.owner e.event ≡ false) →
    IsDelta s i past h → IsDelta s i (e ∷ past) h
delta-same s i e past h other p differed = p older ∙ sym (delta_made-else s i h.owner e past other)
  where
    older : some_at (i + 1) (is_act Diffs h.owner) past ≡ true
    older = elim (some_at-cases (i + 1) (is_act Diffs h.owner) e past differed) [
      | inl here ↦ absurd (both_ways (is_act Diffs h.owner e.event) (other here.0) here.1)
      | inr before ↦ before
    ]

-- an event that isn't a diff
abbrev IsNoDiff : Event → Type 0
IsNoDiff event = (c : ℕ) → is_act Diffs c event ≡ false

quiet-deltas : (s : Setting) (i : ℕ) (e : Entry) (past : List Entry) (event : Event) (hs : List HeldBlocks) → e.event ≡ event → IsNoDiff event →
    AllDeltas s i past hs → AllDeltas s i (e ∷ past) hs
quiet-deltas s i e past event hs q none p =
    all-owned (IsDelta s i past) (IsDelta s i (e ∷ past)) hs (λ h owned x. delta-same s i e past h (λ here. ap (is_act Diffs h.owner) q ∙ none h.owner) x) p

kept-deltas : (s : Setting) (i : ℕ) (past : List Entry) (keeps : HeldBlocks → Bool) (hs : List HeldBlocks) → AllDeltas s i past hs → AllDeltas s i past (filter keeps hs)
kept-deltas s i past keeps hs p = all-kept (IsDelta s i past) (IsDelta s i past) keeps hs (λ h k x. x) p

-- the blocks of others after a diff of a command that held none
others-deltas : (s : Setting) (i c : ℕ) (e : Entry) (past : List Entry) → has_owner c (held s i past) ≡ false →
    ((d : ℕ) → (c ≡ d → ⊥) → is_act Diffs d e.event ≡ false) → AllDeltas s i past (held s i past) → AllDeltas s i (e ∷ past) (held s i past)
others-deltas s i c e past none other p =
    all-owned (IsDelta s i past) (IsDelta s i (e ∷ past)) (held s i past)
    (λ h owned x. delta-same s i e past h
    (λ here. other h.owner (λ same. both_ways (has_owner c (held s i past)) none (subst (λ (n : ℕ). has_owner n (held s i past) ≡ true) (sym same) owned))) x) p

other-diff : (command : ℕ) (event : Event) → ((c : ℕ) → is_act Diffs c event ≡ (command == c)) → (e : Entry) → e.event ≡ event → (d : ℕ) → (command ≡ d → ⊥) → is_act Diffs d e.event ≡ false
other-diff command event reads e q d differs = ap (is_act Diffs d) q ∙ reads d ∙ ne_eqb command d differs

deltas-after : (s : Setting) (i : ℕ) (e : Entry) (past : List Entry) (event : Event) → e.event ≡ event → e.lock ≡ i + 1 → 1 ≤ s.geometry.block →
    Grows s (e ∷ past) → MayTarget s past e.stamp i event → AllDeltas s i past (held s i past) → AllDeltas s i (e ∷ past) (held_after s (media s i past) event (held s i past))
deltas-after s i e past (Diff command opened cdb row bytes true dropped back) q here b g may p =
    others-deltas s i command e past
    (new-distinct s i command past e.stamp (Diff command opened cdb row bytes true dropped back) g.1 may (or_left (command == command) false (eq-eqb command command refl)))
    (other-diff command (Diff command opened cdb row bytes true dropped back) (λ c. refl) e q) p
deltas-after s i e past (Diff command opened cdb row bytes false dropped true) q here b g may p =
    others-deltas s i command e past
    (new-distinct s i command past e.stamp (Diff command opened cdb row bytes false dropped true) g.1 may (or_left (command == command) false (eq-eqb command command refl)))
    (other-diff command (Diff command opened cdb row bytes false dropped true) (λ c. refl) e q) p
deltas-after s i e past (Diff command opened cdb row bytes false dropped false) q here b g may p =
    let added : HeldBlocks = record { owner = command; row = row; bytes = xor (slice (media s i past) (row * s.geometry.block) (length bytes)) bytes } in
    all-joined (IsDelta s i (e ∷ past)) (held s i past) added
    (others-deltas s i command e past
    (new-distinct s i command past e.stamp (Diff command opened cdb row bytes false dropped false) g.1 may (or_left (command == command) false (eq-eqb command command refl)))
    (other-diff command (Diff command opened cdb row bytes false dropped false) (λ c. refl) e q) p)
    (λ differed. sym (delta_made-newest s i command e past here (ap (is_act Diffs command) q ∙ eq-eqb command command refl)
    ∙ ap (diff_delta s i past) q))
deltas-after s i e past (Hold command opened cdb row bytes true names back) q here b g may p =
    let event : Event = Hold command opened cdb row bytes true names back in
    all-joined (IsDelta s i (e ∷ past)) (held s i past) (record { owner = command; row = row; bytes = bytes })
    (quiet-deltas s i e past event (held s i past) q (λ c. refl) p)
    (λ differed. absurd (never-both s i command (e ∷ past) (acted-has s i command Diffs (e ∷ past) g differed)
    (acted-has s i command Holds (e ∷ past) g (some_at-newest (i + 1) (is_act Holds command) e past here (ap (is_act Holds command) q ∙ eq-eqb command command refl)))))
deltas-after s i e past (Hold command opened cdb row bytes false names back) q here b g may p =
    quiet-deltas s i e past (Hold command opened cdb row bytes false names back) (held s i past) q (λ c. refl) p
deltas-after s i e past (Take command opened cdb row bytes) q here b g may p =
    subst (AllDeltas s i (e ∷ past))
    (sym (taken-without s i command past e.stamp (Take command opened cdb row bytes) opened may.0 0 row (length bytes) cdb bytes b g.1 may
    (eq-eqb command command refl) may.1.act may.1.taken (holding s i past b g.1)))
    (quiet-deltas s i e past (Take command opened cdb row bytes) (without command (held s i past)) q (λ c. refl)
    (kept-deltas s i past (λ h. not (h.owner == command)) (held s i past) p))
deltas-after s i e past (Shut command opened acted lost) q here b g may p =
    quiet-deltas s i e past (Shut command opened acted lost) (without command (held s i past)) q (λ c. refl)
    (kept-deltas s i past (λ h. not (h.owner == command)) (held s i past) p)
deltas-after s i e past (Gone life call commands) q here b g may p = tt
deltas-after s i e past (Wiped Buffers call commands) q here b g may p = tt
deltas-after s i e past (Wiped Request call commands) q here b g may p = quiet-deltas s i e past (Wiped Request call commands) (held s i past) q (λ c. refl) p
deltas-after s i e past (Fresh call swap) q here b g may p = tt
deltas-after s i e past (Fetch command opened cdb row bytes) q here b g may p =
    quiet-deltas s i e past (Fetch command opened cdb row bytes) (held s i past) q (λ c. refl) p
deltas-after s i e past (Put command opened cdb row bytes names) q here b g may p =
    quiet-deltas s i e past (Put command opened cdb row bytes names) (held s i past) q (λ c. refl) p
deltas-after s i e past (Fold command opened cdb row bytes names) q here b g may p =
    quiet-deltas s i e past (Fold command opened cdb row bytes names) (held s i past) q (λ c. refl) p
deltas-after s i e past _ q here b g may p = absurd may

-- all that a target holds of updates are their deltas
pub held-deltas : (s : Setting) (i : ℕ) (past : List Entry) → 1 ≤ s.geometry.block → Grows s past → AllByRecursion (IsDelta s i past) (held s i past)
held-deltas s i [] b g = tt
held-deltas s i (e ∷ past) b g = elim (cases_eq e.lock (i + 1)) [
  | inl here ↦ subst (AllDeltas s i (e ∷ past)) (sym (held-here s i e past here))
      (deltas-after s i e past e.event refl here b g (may-here s past e.stamp e.lock i e.event here g.0.1.1) (held-deltas s i past b g.1))
  | inr other ↦ subst (AllDeltas s i (e ∷ past)) (sym (held-else s i e past other))
      (all-owned (IsDelta s i past) (IsDelta s i (e ∷ past)) (held s i past) (λ h owned x. delta-same s i e past h (λ here. absurd (other here)) x) (held-deltas s i past b g.1))
]

-- a take of a command whose diff stands takes its delta
taken-delta : (s : Setting) (past : List Entry) (stamp i c : ℕ) (opened : At) (cdb : Cdb) (row : ℕ) (bytes : List ℕ) → 1 ≤ s.geometry.block → Grows s past →
    MayTarget s past stamp i (Take c opened cdb row bytes) → some_at (i + 1) (is_act Diffs c) past ≡ true → bytes ≡ delta_made s i c past
taken-delta s past stamp i c opened cdb row bytes b g m differed = by (taken-whole (IsDelta s i past) s past stamp i c opened cdb row bytes b g m (held-deltas s i past b g))
  where
    by : Found (IsDelta s i past) c bytes → bytes ≡ delta_made s i c past
    by (h, (own, (same, d))) =
        same ∙ d (subst (λ (n : ℕ). some_at (i + 1) (is_act Diffs n) past ≡ true) (sym own) differed) ∙ ap (λ (n : ℕ). delta_made s i n past) own

-- an update that takes had its diff
update_hold : (mode : Mode) (kind : Kind) (task : Task) (i : ℕ) → kind ≡ Update → acts_at mode Holds kind task i ≡ true → ⊥
update_hold mode Update task i k h = false≢true h
update_hold mode Read task i k h = false≢true h
update_hold mode DataOnly task i k h = false≢true h
update_hold mode DegradedRead task i k h = apart k
  where
    apart : DegradedRead ≡ Update → ⊥
    apart q = absurd cc
update_hold mode DegradedWrite task i k h = false≢true h
update_hold mode Rebuild task i k h = false≢true h
update_hold mode Resync task i k h = false≢true h

took-differed : (s : Setting) (i c : ℕ) (past : List Entry) (task : Task) → Grows s past → task_of c past ≡ Some task → task.kind ≡ Update →
    some_at (i + 1) (is_act Takes c) past ≡ true → some_at (i + 1) (is_act Diffs c) past ≡ true
took-differed s i c past task g q k h = elim (or_cases (some_at (i + 1) (is_act Diffs c) past) (some_at (i + 1) (is_act Holds c) past) (taken-source s i c past g h)) [
  | inl differed ↦ differed
  | inr held_so ↦ absurd (never (acted-has s i c Holds past g held_so))
]
  where
    one : (x y : Task) → Some x ≡ Some y → x ≡ y
    one x y e = cc

    never : HasAct s past i c Holds → ⊥
    never (other, (r, a)) =
        let same : other ≡ task = one other task (sym r ∙ q) in
        update_hold s.mode other.kind other i (ap (λ (t : Task). t.kind) same ∙ k)
        (and_parts (nat_lt i s.geometry.targets) (acts_at s.mode Holds other.kind other i) a).1

-- a take that stands took its command's delta
took-delta : (s : Setting) (i c : ℕ) (name : At) (past : List Entry) (opened : At) (cdb : Cdb) (row : ℕ) (bytes : List ℕ) → 1 ≤ s.geometry.block → Grows s past →
    name.lock ≡ i + 1 → entry_at name past ≡ Some (Take c opened cdb row bytes) → some_at (i + 1) (is_act Diffs c) past ≡ true → bytes ≡ delta_made s i c past
took-delta s i c name [] opened cdb row bytes b g h stands differed = absurd cc
took-delta s i c name (e ∷ past) opened cdb row bytes b g h stands differed = elim (entry_at-cases name e past (Take c opened cdb row bytes) stands) [
  | inl here ↦ newest here
  | inr older ↦ later older (λ x. took-delta s i c name past opened cdb row bytes b g.1 h older x)
]
  where
    apart : (event : Event) → event ≡ Take c opened cdb row bytes → is_act Diffs c event ≡ false
    apart event q = ap (is_act Diffs c) q

    newest : IsNameOf name e × (e.event ≡ Take c opened cdb row bytes) → bytes ≡ delta_made s i c (e ∷ past)
    newest here =
        let place : e.lock ≡ i + 1 = sym here.0.1 ∙ h in
        taken-delta s past e.stamp i c opened cdb row bytes b g.1
        (subst (λ (x : Event). MayTarget s past e.stamp i x) here.1 (may-here s past e.stamp e.lock i e.event place g.0.1.1)) before
        ∙ sym (delta_made-else s i c e past (λ k. apart e.event here.1))
      where
        before : some_at (i + 1) (is_act Diffs c) past ≡ true
        before = elim (some_at-cases (i + 1) (is_act Diffs c) e past differed) [
          | inl this ↦ absurd (both_ways (is_act Diffs c e.event) (apart e.event here.1) this.1)
          | inr older ↦ older
        ]

    later : entry_at name past ≡ Some (Take c opened cdb row bytes) →
        (some_at (i + 1) (is_act Diffs c) past ≡ true → bytes ≡ delta_made s i c past) → bytes ≡ delta_made s i c (e ∷ past)
    later older rec = rec before ∙ sym (delta_made-more s i c e past g before)
      where
        took : some_at (i + 1) (is_act Takes c) past ≡ true
        took = some-named (i + 1) (is_act Takes c) name past h (passes-said (is_act Takes c) name past (Take c opened cdb row bytes) older (eq-eqb c c refl))

        its : (task : Task) × IsDiffed s i c (e ∷ past) task
        its = diff-task s i c (e ∷ past) g differed

        before : some_at (i + 1) (is_act Diffs c) past ≡ true
        before = source (acted-has s i c Takes past g.1 took)
          where
            one : (x y : Task) → Some x ≡ Some y → x ≡ y
            one x y k = cc

            source : HasAct s past i c Takes → some_at (i + 1) (is_act Diffs c) past ≡ true
            source (task, (q, a)) =
                let same : task ≡ its.0 = one task its.0 (sym (task_of-more s c e past task g.1 g.0.1 q) ∙ its.1.its_task) in
                took-differed s i c past task g.1 q (ap (λ (t : Task). t.kind) same ∙ its.1.update) took

-- what a fold brings is the delta of its command's diff, which stands
pub fold-delta : (s : Setting) (past : List Entry) (stamp i c : ℕ) (opened : At) (cdb : Cdb) (row : ℕ) (bytes : List ℕ) (names : List At) (task : Task) (name : At) →
    IsSetting s → Grows s past → MayFold s past stamp i c opened cdb row bytes names task name →
    (some_at (task.target + 1) (is_act Diffs c) past ≡ true) × (bytes ≡ delta_made s task.target c past)
fold-delta s past stamp i c opened cdb row bytes names task name set g m = by (entry_at name past) refl m.source
  where
    its : task_of c past ≡ Some task
    its = named-task s opened c task past g m.act.in_book m.act.opening.0

    named : (test : Event → Bool) (event : Event) → entry_at name past ≡ Some event → test event ≡ true → some_at (task.target + 1) test past ≡ true
    named test event q k = some-named (task.target + 1) test name past m.at_source (passes-said test name past event q k)

    one : (x y : List ℕ) → Some x ≡ Some y → x ≡ y
    one x y e = cc

    by : (found : Option Event) → entry_at name past ≡ found → IsFoldSource s past c task name bytes found →
        (some_at (task.target + 1) (is_act Diffs c) past ≡ true) × (bytes ≡ delta_made s task.target c past)
    by (Some (Take command old place from was)) q source =
        let same : command ≡ c = source.0 in
        let took : some_at (task.target + 1) (is_act Takes c) past ≡ true = named (is_act Takes c) (Take command old place from was) q (eq-eqb command c same) in
        let differed : some_at (task.target + 1) (is_act Diffs c) past ≡ true =
        took-differed s task.target c past task g its (folds-update s task i m.act.of_task).0 took in (
          differed,
          sym source.1 ∙ took-delta s task.target c name past old place from was set.array.least_block g m.at_source
              (q ∙ ap (λ (n : ℕ). Some (Take n old place from was)) same) differed,
        )
    by (Some (Diff command old place from was sent dropped back)) q source =
        let act : is_act Diffs c (Diff command old place from was sent dropped back) ≡ true = eq-eqb command c source.1 in (
          named (is_act Diffs c) (Diff command old place from was sent dropped back) q act,
          one bytes (delta_made s task.target c past)
              (sym source.2 ∙ delta_at-made s task.target c name past (Diff command old place from was sent dropped back) g m.at_source q act),
        )
    by _ q source = absurd source
