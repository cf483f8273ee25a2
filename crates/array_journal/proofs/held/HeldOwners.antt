-- Whose blocks a target holds in a run: those of a diff or a hold that stands, and of none that was discarded.
use Rattle.std.specs.Prelude.{◌≡◌, ◌==◌, ◌||◌, ◌⊎◌, nat_lt, not, ℕ, ◌+◌, Bool, true, false, List, [], ◌∷◌, Option, Some, is_some, filter, length}
use Rattle.std.specs.List.{list_any}
use Rattle.std.proofs.Common.{refl, ap, sym, ◌∙◌, subst, inl, inr}
use Rattle.std.proofs.lemmas.Bool.{eqb-true, cases_eq, and_parts, or_left, or_right, or_cases, both_ways, false≢true}
use Rattle.stripe_layout.specs.declared.mode.Mode.{Mode}
use Rattle.sbc_cdbs.specs.declared.descriptor.Cdb.{Cdb}
use Rattle.array_journal.specs.declared.at.At.{At}
use Rattle.array_journal.specs.declared.entry.Entry.{Entry}
use Rattle.array_journal.specs.declared.event.Event.{Event}
use Rattle.array_journal.specs.declared.event.Event.TheVariants.{Fetch, Put, Diff, Take, Fold, Hold, Shut, Gone, Wiped, Fresh}
use Rattle.array_journal.specs.declared.event.What.TheVariants.{Buffers, Request}
use Rattle.array_journal.specs.declared.setting.Setting.{Setting}
use Rattle.array_journal.specs.declared.task.Kind.{Kind}
use Rattle.array_journal.specs.declared.task.Kind.TheVariants.{Read, Update, DataOnly, DegradedRead, DegradedWrite, Rebuild, Resync}
use Rattle.array_journal.specs.declared.task.Task.{Task}
use Rattle.array_journal.specs.Entries.{name_of, some_at}
use Rattle.array_journal.specs.Commands.{task_of}
use Rattle.array_journal.specs.declared.act.Act.{Act}
use Rattle.array_journal.specs.declared.act.Act.TheVariants.{Fetches, Puts, Diffs, Takes, Folds, Holds}
use Rattle.array_journal.specs.Acts.{acts_at, has_act, is_act}
use Rattle.xor_buffers.specs.declared.held.HeldBlocks.{HeldBlocks}
use Rattle.xor_buffers.specs.Held.{has_owner}
use Rattle.xor_buffers.proofs.OwnerLaws.{has_owner-joined, taken-owner, kept-owner, named-owner}
use Rattle.array_journal.specs.Media.{media, held, held_after}
use Rattle.array_journal.specs.Lives.{loss_after, loss_of, is_gone}
use Rattle.array_journal.specs.May.{MayAct, MayTarget, discards}
use Rattle.array_journal.specs.Run.{Grows}
use Rattle.array_journal.proofs.runs.Steps.{held-here, held-else}
use Rattle.array_journal.proofs.runs.Standing.{may-here, some_at-else, some_at-cases, some_at-more, some_at-newest}
use Rattle.array_journal.proofs.runs.CommandLaws.{named-task, task_of-more}
use Rattle.array_journal.proofs.lives.LifeLaws.{loss_of-here, is_gone-else}

-- an act of a command, with all that it asks
pub data ActAt (s : Setting) (past : List Entry) (stamp i c : ℕ) (act : Act) : Type 0 where
  acts : (opened : At) (task : Task) (sources row len : ℕ) (cdb : Cdb) → MayAct s past stamp i c opened cdb row len sources task act → ActAt s past stamp i c act

at_command : (s : Setting) (past : List Entry) (stamp i command c : ℕ) (act : Act) → (command == c) ≡ true → ActAt s past stamp i command act → ActAt s past stamp i c act
at_command s past stamp i command c act h a = subst (λ (d : ℕ). ActAt s past stamp i d act) (eqb-true command c h) a

pub act-asks : (s : Setting) (past : List Entry) (stamp i c : ℕ) (act : Act) (event : Event) → MayTarget s past stamp i event → is_act act c event ≡ true →
    ActAt s past stamp i c act
act-asks s past stamp i c Fetches (Fetch command opened cdb row bytes) m h =
    at_command s past stamp i command c Fetches h (acts opened m.0 0 row (length bytes) cdb m.1.act)
act-asks s past stamp i c Puts (Put command opened cdb row bytes names) m h =
    at_command s past stamp i command c Puts h (acts opened m.0 (length names) row (length bytes) cdb m.1.act)
act-asks s past stamp i c Diffs (Diff command opened cdb row bytes sent dropped back) m h =
    at_command s past stamp i command c Diffs h (acts opened m.0 0 row (length bytes) cdb m.1.act)
act-asks s past stamp i c Takes (Take command opened cdb row bytes) m h =
    at_command s past stamp i command c Takes h (acts opened m.0 0 row (length bytes) cdb m.1.act)
act-asks s past stamp i c Folds (Fold command opened cdb row bytes names) m h =
    at_command s past stamp i command c Folds h (acts opened m.0 0 row (length bytes) cdb m.1.1.act)
act-asks s past stamp i c Holds (Hold command opened cdb row bytes kept names back) m h =
    at_command s past stamp i command c Holds h (acts opened m.0 (length names) row (length bytes) cdb m.1.act)
act-asks s past stamp i c Fetches _ m h = absurd (false≢true h)
act-asks s past stamp i c Puts _ m h = absurd (false≢true h)
act-asks s past stamp i c Diffs _ m h = absurd (false≢true h)
act-asks s past stamp i c Takes _ m h = absurd (false≢true h)
act-asks s past stamp i c Folds _ m h = absurd (false≢true h)
act-asks s past stamp i c Holds _ m h = absurd (false≢true h)

-- the task of a command that made an act has that act
abbrev pub HasAct : Setting → List Entry → ℕ → ℕ → Act → Type 0
HasAct s past i c act = (task : Task) × ((task_of c past ≡ Some task) × (has_act s act task i ≡ true))

pub act-task : (s : Setting) (past : List Entry) (stamp i c : ℕ) (act : Act) → Grows s past → ActAt s past stamp i c act → HasAct s past i c act
act-task s past stamp i c act g (acts opened task sources row len cdb m) = (task, (named-task s opened c task past g m.in_book m.opening.0, m.of_task))

pub acted-has : (s : Setting) (i c : ℕ) (act : Act) (past : List Entry) → Grows s past → some_at (i + 1) (is_act act c) past ≡ true → HasAct s past i c act
acted-has s i c act [] g h = absurd (false≢true h)
acted-has s i c act (e ∷ past) g h = elim (some_at-cases (i + 1) (is_act act c) e past h) [
  | inl here ↦ more (act-task s past e.stamp i c act g.1 (act-asks s past e.stamp i c act e.event (may-here s past e.stamp e.lock i e.event here.0 g.0.1.1) here.1))
  | inr older ↦ more (acted-has s i c act past g.1 older)
]
  where
    more : HasAct s past i c act → HasAct s (e ∷ past) i c act
    more (task, (q, a)) = (task, (task_of-more s c e past task g.1 g.0.1 q, a))

-- an act is made once, on a disk that works, before its command is shut there
pub act-once : (s : Setting) (past : List Entry) (stamp i c : ℕ) (act : Act) → ActAt s past stamp i c act → some_at (i + 1) (is_act act c) past ≡ false
act-once s past stamp i c act (acts opened task sources row len cdb m) = m.once

pub act-works : (s : Setting) (past : List Entry) (stamp i c : ℕ) (act : Act) → ActAt s past stamp i c act → is_gone i past ≡ false
act-works s past stamp i c act (acts opened task sources row len cdb m) = m.not_gone

-- no command both writes a delta and gathers
diff_hold : (mode : Mode) (kind : Kind) (task : Task) (i : ℕ) → acts_at mode Diffs kind task i ≡ true → acts_at mode Holds kind task i ≡ true → ⊥
diff_hold mode Read task i h k = false≢true h
diff_hold mode Update task i h k = false≢true k
diff_hold mode DataOnly task i h k = false≢true h
diff_hold mode DegradedRead task i h k = false≢true h
diff_hold mode DegradedWrite task i h k = false≢true h
diff_hold mode Rebuild task i h k = false≢true h
diff_hold mode Resync task i h k = false≢true h

pub never-both : (s : Setting) (i c : ℕ) (past : List Entry) → HasAct s past i c Diffs → HasAct s past i c Holds → ⊥
never-both s i c past (task, (q, a)) (other, (r, b)) =
    let same : task ≡ other = cc in
    let b_there : has_act s Holds task i ≡ true = subst (λ (t : Task). has_act s Holds t i ≡ true) (sym same) b in
    diff_hold s.mode task.kind task i
    (and_parts (nat_lt i s.geometry.targets) (acts_at s.mode Diffs task.kind task i) a).1
    (and_parts (nat_lt i s.geometry.targets) (acts_at s.mode Holds task.kind task i) b_there).1

-- a target whose disk is gone holds nothing
empty-after : (s : Setting) (past : List Entry) (stamp i : ℕ) (at : At) (m : List ℕ) (event : Event) → Grows s past → MayTarget s past stamp i event →
    (is_gone i past ≡ true → held s i past ≡ []) → is_some (loss_after at event (loss_of i past)) ≡ true → held_after s m event (held s i past) ≡ []
empty-after s past stamp i at m (Fetch command opened cdb row bytes) g q old h = absurd (both_ways (is_gone i past) q.1.act.not_gone h)
empty-after s past stamp i at m (Put command opened cdb row bytes names) g q old h = absurd (both_ways (is_gone i past) q.1.act.not_gone h)
empty-after s past stamp i at m (Diff command opened cdb row bytes sent dropped back) g q old h = absurd (both_ways (is_gone i past) q.1.act.not_gone h)
empty-after s past stamp i at m (Take command opened cdb row bytes) g q old h = absurd (both_ways (is_gone i past) q.1.act.not_gone h)
empty-after s past stamp i at m (Fold command opened cdb row bytes names) g q old h = absurd (both_ways (is_gone i past) q.1.1.act.not_gone h)
empty-after s past stamp i at m (Hold command opened cdb row bytes kept names back) g q old h = absurd (both_ways (is_gone i past) q.1.act.not_gone h)
empty-after s past stamp i at m (Shut command opened acted lost) g q old h = ap (filter (λ (x : HeldBlocks). not (x.owner == command))) (old h)
empty-after s past stamp i at m (Gone life call commands) g q old h = refl
empty-after s past stamp i at m (Wiped Buffers call commands) g q old h = refl
empty-after s past stamp i at m (Wiped Request call commands) g q old h = old h
empty-after s past stamp i at m (Fresh call swap) g q old h = absurd (false≢true h)
empty-after s past stamp i at m _ g q old h = old h

pub gone-holds_nothing : (s : Setting) (i : ℕ) (past : List Entry) → Grows s past → is_gone i past ≡ true → held s i past ≡ []
gone-holds_nothing s i [] g h = refl
gone-holds_nothing s i (e ∷ past) g h = elim (cases_eq e.lock (i + 1)) [
  | inl here ↦ held-here s i e past here
      ∙ empty-after s past e.stamp i (name_of e) (media s i past) e.event g.1 (may-here s past e.stamp e.lock i e.event here g.0.1.1)
      (λ k. gone-holds_nothing s i past g.1 k) (sym (ap (λ (o : Option At). is_some o) (loss_of-here i e past here)) ∙ h)
  | inr other ↦ held-else s i e past other ∙ gone-holds_nothing s i past g.1 (sym (is_gone-else i e past other) ∙ h)
]

-- what is held comes from a diff or a hold
abbrev pub has_source : ℕ → ℕ → List Entry → Bool
has_source i c past = some_at (i + 1) (is_act Diffs c) past || some_at (i + 1) (is_act Holds c) past

pub has_source-more : (i c : ℕ) (e : Entry) (past : List Entry) → has_source i c past ≡ true → has_source i c (e ∷ past) ≡ true
has_source-more i c e past h = elim (or_cases (some_at (i + 1) (is_act Diffs c) past) (some_at (i + 1) (is_act Holds c) past) h) [
  | inl diff ↦ or_left (some_at (i + 1) (is_act Diffs c) (e ∷ past)) (some_at (i + 1) (is_act Holds c) (e ∷ past)) (some_at-more (i + 1) (is_act Diffs c) e past diff)
  | inr hold ↦ or_right (some_at (i + 1) (is_act Diffs c) (e ∷ past)) (some_at (i + 1) (is_act Holds c) (e ∷ past)) (some_at-more (i + 1) (is_act Holds c) e past hold)
]

-- the owner is new, by a diff or a hold, or it was one before
owner-after : (s : Setting) (c : ℕ) (m : List ℕ) (event : Event) (old : List HeldBlocks) → has_owner c (held_after s m event old) ≡ true →
    ((is_act Diffs c event || is_act Holds c event) ≡ true) ⊎ (has_owner c old ≡ true)
owner-after s c m (Diff command opened cdb row bytes true dropped back) old h = inr h
owner-after s c m (Diff command opened cdb row bytes false dropped true) old h = inr h
owner-after s c m (Diff command opened cdb row bytes false dropped false) old h = elim (or_cases (has_owner c old) _ (sym (has_owner-joined c old _) ∙ h)) [
  | inl older ↦ inr older
  | inr new ↦ inl new
]
owner-after s c m (Hold command opened cdb row bytes true names back) old h = elim (or_cases (has_owner c old) _ (sym (has_owner-joined c old _) ∙ h)) [
  | inl older ↦ inr older
  | inr new ↦ elim (or_cases (command == c) false new) [
    | inl this ↦ inl this
    | inr none ↦ absurd (false≢true none)
  ]
]
owner-after s c m (Hold command opened cdb row bytes false names back) old h = inr h
owner-after s c m (Take command opened cdb row bytes) old h = inr (taken-owner c s.geometry.block row (length bytes) old h)
owner-after s c m (Shut command opened acted lost) old h = inr (kept-owner c (λ (x : HeldBlocks). not (x.owner == command)) old h)
owner-after s c m (Gone life call commands) old h = absurd (false≢true h)
owner-after s c m (Wiped Buffers call commands) old h = absurd (false≢true h)
owner-after s c m (Wiped Request call commands) old h = inr h
owner-after s c m (Fresh call swap) old h = absurd (false≢true h)
owner-after s c m _ old h = inr h

pub owner-source : (s : Setting) (i c : ℕ) (past : List Entry) → Grows s past → has_owner c (held s i past) ≡ true → has_source i c past ≡ true
owner-source s i c [] g h = absurd (false≢true h)
owner-source s i c (e ∷ past) g h = elim (cases_eq e.lock (i + 1)) [
  | inl here ↦ elim (owner-after s c (media s i past) e.event (held s i past) (sym (ap (has_owner c) (held-here s i e past here)) ∙ h)) [
    | inl new ↦ newest here new
    | inr old ↦ has_source-more i c e past (owner-source s i c past g.1 old)
  ]
  | inr other ↦ has_source-more i c e past (owner-source s i c past g.1 (sym (ap (has_owner c) (held-else s i e past other)) ∙ h))
]
  where
    newest : e.lock ≡ i + 1 → (is_act Diffs c e.event || is_act Holds c e.event) ≡ true → has_source i c (e ∷ past) ≡ true
    newest here new = elim (or_cases (is_act Diffs c e.event) (is_act Holds c e.event) new) [
      | inl diff ↦ or_left (some_at (i + 1) (is_act Diffs c) (e ∷ past)) (some_at (i + 1) (is_act Holds c) (e ∷ past))
          (some_at-newest (i + 1) (is_act Diffs c) e past here diff)
      | inr hold ↦ or_right (some_at (i + 1) (is_act Diffs c) (e ∷ past)) (some_at (i + 1) (is_act Holds c) (e ∷ past))
          (some_at-newest (i + 1) (is_act Holds c) e past here hold)
    ]

-- what discards a command's blocks finds them held, and leaves nothing
discard-owner : (s : Setting) (past : List Entry) (stamp i c : ℕ) (event : Event) → MayTarget s past stamp i event → discards c event ≡ true →
    has_owner c (held s i past) ≡ true
discard-owner s past stamp i c (Gone life call commands) m h =
    named-owner c (held s i past) (subst (λ (xs : List ℕ). list_any (λ x. x == c) xs ≡ true) m.says_owners h)
discard-owner s past stamp i c (Wiped Buffers call commands) m h =
    named-owner c (held s i past) (subst (λ (xs : List ℕ). list_any (λ x. x == c) xs ≡ true) m h)
discard-owner s past stamp i c (Wiped Request call commands) m h = absurd (false≢true h)
discard-owner s past stamp i c _ m h = absurd (false≢true h)

pub discarded-source : (s : Setting) (i c : ℕ) (past : List Entry) → Grows s past → some_at (i + 1) (discards c) past ≡ true → has_source i c past ≡ true
discarded-source s i c [] g h = absurd (false≢true h)
discarded-source s i c (e ∷ past) g h = elim (some_at-cases (i + 1) (discards c) e past h) [
  | inl here ↦ has_source-more i c e past
      (owner-source s i c past g.1 (discard-owner s past e.stamp i c e.event (may-here s past e.stamp e.lock i e.event here.0 g.0.1.1) here.1))
  | inr older ↦ has_source-more i c e past (discarded-source s i c past g.1 older)
]

discard-empties : (s : Setting) (c : ℕ) (m : List ℕ) (event : Event) (old : List HeldBlocks) → discards c event ≡ true → held_after s m event old ≡ []
discard-empties s c m (Gone life call commands) old h = refl
discard-empties s c m (Wiped Buffers call commands) old h = refl
discard-empties s c m (Wiped Request call commands) old h = absurd (false≢true h)
discard-empties s c m _ old h = absurd (false≢true h)

-- a command with a source doesn't get another
pub source-once : (s : Setting) (past : List Entry) (stamp i c : ℕ) (event : Event) → Grows s past → MayTarget s past stamp i event → has_source i c past ≡ true →
    (is_act Diffs c event || is_act Holds c event) ≡ true → ⊥
source-once s past stamp i c event g m h new = elim (or_cases (is_act Diffs c event) (is_act Holds c event) new) [
  | inl diff ↦ let a : ActAt s past stamp i c Diffs = act-asks s past stamp i c Diffs event m diff in
      elim (or_cases (some_at (i + 1) (is_act Diffs c) past) (some_at (i + 1) (is_act Holds c) past) h) [
        | inl old ↦ both_ways (some_at (i + 1) (is_act Diffs c) past) (act-once s past stamp i c Diffs a) old
        | inr old ↦ never-both s i c past (act-task s past stamp i c Diffs g a) (acted-has s i c Holds past g old)
      ]
  | inr hold ↦ let a : ActAt s past stamp i c Holds = act-asks s past stamp i c Holds event m hold in
      elim (or_cases (some_at (i + 1) (is_act Diffs c) past) (some_at (i + 1) (is_act Holds c) past) h) [
        | inl old ↦ never-both s i c past (acted-has s i c Diffs past g old) (act-task s past stamp i c Holds g a)
        | inr old ↦ both_ways (some_at (i + 1) (is_act Holds c) past) (act-once s past stamp i c Holds a) old
      ]
]

-- blocks that were discarded aren't held again
pub discarded-lacks : (s : Setting) (i c : ℕ) (past : List Entry) → Grows s past → some_at (i + 1) (discards c) past ≡ true → has_owner c (held s i past) ≡ true → ⊥
discarded-lacks s i c [] g h k = false≢true h
discarded-lacks s i c (e ∷ past) g h k = elim (cases_eq e.lock (i + 1)) [
  | inl here ↦ at_disk here (λ p q. discarded-lacks s i c past g.1 p q) (some_at-cases (i + 1) (discards c) e past h)
  | inr other ↦ discarded-lacks s i c past g.1 (sym (some_at-else (i + 1) (discards c) e past other) ∙ h) (sym (ap (has_owner c) (held-else s i e past other)) ∙ k)
]
  where
    at_disk : e.lock ≡ i + 1 → (some_at (i + 1) (discards c) past ≡ true → has_owner c (held s i past) ≡ true → ⊥) →
        ((e.lock ≡ i + 1) × (discards c e.event ≡ true)) ⊎ (some_at (i + 1) (discards c) past ≡ true) → ⊥
    at_disk here rec (inl newest) =
        false≢true (sym (ap (has_owner c) (held-here s i e past here ∙ discard-empties s c (media s i past) e.event (held s i past) newest.1)) ∙ k)
    at_disk here rec (inr older) = elim (owner-after s c (media s i past) e.event (held s i past) (sym (ap (has_owner c) (held-here s i e past here)) ∙ k)) [
      | inl new ↦ source-once s past e.stamp i c e.event g.1 (may-here s past e.stamp e.lock i e.event here g.0.1.1) (discarded-source s i c past g.1 older) new
      | inr old ↦ rec older old
    ]
