-- A supervised delta is held exactly from its diff to the entry that takes, shuts or discards it.
use Rattle.std.specs.Prelude.{◌≡◌, ◌==◌, ◌||◌, ◌≤◌, ◌⊎◌, not, ℕ, ◌+◌, true, false, List, [], ◌∷◌, length}
use Rattle.std.specs.List.{list_any}
use Rattle.std.proofs.Common.{refl, ap, sym, ◌∙◌, subst, inl, inr}
use Rattle.std.proofs.lemmas.Bool.{eq-eqb, cases_eq, cases_Bool, or_parts, or_left, or_right, or_cases, both_ways, false≢true}
use Rattle.stripe_layout.specs.Modes.{takes_delta, sends_delta, hands_delta_back}
use Rattle.stripe_layout.proofs.ModeLaws.{taken-unsent, taken-unhanded}
use Rattle.array_journal.specs.declared.entry.Entry.{Entry}
use Rattle.array_journal.specs.declared.event.Event.{Event}
use Rattle.array_journal.specs.declared.event.Event.TheVariants.{Diff, Take, Hold, Shut, Gone, Wiped, Fresh}
use Rattle.array_journal.specs.declared.event.What.TheVariants.{Buffers, Request}
use Rattle.array_journal.specs.declared.setting.Setting.{Setting}
use Rattle.array_journal.specs.Entries.{some_at}
use Rattle.array_journal.specs.declared.act.Act.TheVariants.{Diffs, Takes}
use Rattle.array_journal.specs.Acts.{is_act, shuts_command}
use Rattle.xor_buffers.specs.declared.held.HeldBlocks.{HeldBlocks}
use Rattle.xor_buffers.specs.Held.{has_owner}
use Rattle.xor_buffers.proofs.OwnerLaws.{has_owner-joined, owner-named}
use Rattle.xor_buffers.proofs.HeldLists.{held-of, owner-without}
use Rattle.array_journal.specs.Media.{media, held, held_after}
use Rattle.array_journal.specs.Lives.{is_gone}
use Rattle.array_journal.specs.May.{MayTarget, discards}
use Rattle.array_journal.specs.Run.{Grows}
use Rattle.array_journal.specs.Laws.{releases}
use Rattle.array_journal.proofs.runs.Steps.{held-here, held-else}
use Rattle.array_journal.proofs.runs.Standing.{may-here, some_at-here, some_at-cases, some_at-more, some_at-newest, some_at-older}
use Rattle.array_journal.proofs.lives.LifeLaws.{fresh-gone}
use Rattle.array_journal.proofs.held.HeldOwners.{discarded-lacks}
use Rattle.array_journal.proofs.held.HeldOfOpen.{IsHeld, holder-works}
use Rattle.array_journal.proofs.held.Holding.{taken-without, holding}

-- a delta stays until its command's take or shut, or an entry that discards it
pub kept-after : (s : Setting) (i c : ℕ) (past : List Entry) (stamp : ℕ) (m : List ℕ) (event : Event) → 1 ≤ s.geometry.block → Grows s past →
    MayTarget s past stamp i event → releases c event ≡ false → has_owner c (held s i past) ≡ true → has_owner c (held_after s m event (held s i past)) ≡ true
kept-after s i c past stamp m (Diff command opened cdb row bytes true dropped back) b g may r h = h
kept-after s i c past stamp m (Diff command opened cdb row bytes false dropped true) b g may r h = h
kept-after s i c past stamp m (Diff command opened cdb row bytes false dropped false) b g may r h =
    has_owner-joined c (held s i past) _ ∙ or_left (has_owner c (held s i past)) _ h
kept-after s i c past stamp m (Hold command opened cdb row bytes true names back) b g may r h =
    has_owner-joined c (held s i past) _ ∙ or_left (has_owner c (held s i past)) _ h
kept-after s i c past stamp m (Hold command opened cdb row bytes false names back) b g may r h = h
kept-after s i c past stamp m (Take command opened cdb row bytes) b g may r h =
    ap (has_owner c) (taken-without s i command past stamp (Take command opened cdb row bytes) opened may.0 0 row (length bytes) cdb bytes b g may
    (eq-eqb command command refl) may.1.act may.1.taken (holding s i past b g))
    ∙ owner-without c command (held s i past) (or_parts (command == c) false (or_parts ((command == c) || false) false r).0).0 h
kept-after s i c past stamp m (Shut command opened acted lost) b g may r h =
    owner-without c command (held s i past) (or_parts false (command == c) (or_parts (false || (command == c)) false r).0).1 h
kept-after s i c past stamp m (Gone life call commands) b g may r h =
    absurd (both_ways (list_any (λ x. x == c) commands) r (subst (λ (xs : List ℕ). list_any (λ x. x == c) xs ≡ true) (sym may.says_owners) (owner-named c (held s i past) h)))
kept-after s i c past stamp m (Wiped Buffers call commands) b g may r h =
    absurd (both_ways (list_any (λ x. x == c) commands) r (subst (λ (xs : List ℕ). list_any (λ x. x == c) xs ≡ true) (sym may) (owner-named c (held s i past) h)))
kept-after s i c past stamp m (Wiped Request call commands) b g may r h = h
kept-after s i c past stamp m (Fresh call swap) b g may r h =
    absurd (both_ways (is_gone i past) (holder-works s i c past g h) (fresh-gone s past stamp i call swap g may))
kept-after s i c past stamp m _ b g may r h = h

diff-holds : (s : Setting) (i c : ℕ) (past : List Entry) (stamp : ℕ) (m : List ℕ) (event : Event) → takes_delta s.mode ≡ true → MayTarget s past stamp i event →
    is_act Diffs c event ≡ true → has_owner c (held_after s m event (held s i past)) ≡ true
diff-holds s i c past stamp m (Diff command opened cdb row bytes true dropped back) mode may h = absurd (both_ways (sends_delta s.mode) (taken-unsent s.mode mode) (sym may.1.sent_by_mode))
diff-holds s i c past stamp m (Diff command opened cdb row bytes false dropped true) mode may h = absurd (both_ways (hands_delta_back s.mode) (taken-unhanded s.mode mode) (sym may.1.back_by_mode))
diff-holds s i c past stamp m (Diff command opened cdb row bytes false dropped false) mode may h =
    has_owner-joined c (held s i past) _ ∙ or_right (has_owner c (held s i past)) _ (or_left (command == c) false h)
diff-holds s i c past stamp m _ mode may h = absurd (false≢true h)

delta-kept : (s : Setting) (i c : ℕ) (past : List Entry) → 1 ≤ s.geometry.block → takes_delta s.mode ≡ true → Grows s past →
    some_at (i + 1) (is_act Diffs c) past ≡ true → some_at (i + 1) (releases c) past ≡ false → has_owner c (held s i past) ≡ true
delta-kept s i c [] b mode g h r = absurd (false≢true h)
delta-kept s i c (e ∷ past) b mode g h r = elim (some_at-cases (i + 1) (is_act Diffs c) e past h) [
  | inl here ↦ ap (has_owner c) (held-here s i e past here.0)
      ∙ diff-holds s i c past e.stamp (media s i past) e.event mode (may-here s past e.stamp e.lock i e.event here.0 g.0.1.1) here.1
  | inr older ↦ later (delta-kept s i c past b mode g.1 older (some_at-older (i + 1) (releases c) e past r))
]
  where
    later : has_owner c (held s i past) ≡ true → has_owner c (held s i (e ∷ past)) ≡ true
    later old = elim (cases_eq e.lock (i + 1)) [
      | inl here ↦ ap (has_owner c) (held-here s i e past here)
          ∙ kept-after s i c past e.stamp (media s i past) e.event b g.1 (may-here s past e.stamp e.lock i e.event here g.0.1.1)
          (or_parts (releases c e.event) (some_at (i + 1) (releases c) past) (sym (some_at-here (i + 1) (releases c) e past here) ∙ r)).0 old
      | inr other ↦ ap (has_owner c) (held-else s i e past other) ∙ old
    ]

-- what is released isn't held
released-parts : (k c : ℕ) (past : List Entry) → some_at k (releases c) past ≡ true →
    (some_at k (is_act Takes c) past ≡ true) ⊎ ((some_at k (shuts_command c) past ≡ true) ⊎ (some_at k (discards c) past ≡ true))
released-parts k c [] h = absurd (false≢true h)
released-parts k c (e ∷ past) h = elim (some_at-cases k (releases c) e past h) [
  | inl here ↦ newest here.0 (or_cases (is_act Takes c e.event || shuts_command c e.event) (discards c e.event) here.1)
  | inr older ↦ more (released-parts k c past older)
]
  where
    newest : e.lock ≡ k → ((is_act Takes c e.event || shuts_command c e.event) ≡ true) ⊎ (discards c e.event ≡ true) →
        (some_at k (is_act Takes c) (e ∷ past) ≡ true) ⊎ ((some_at k (shuts_command c) (e ∷ past) ≡ true) ⊎ (some_at k (discards c) (e ∷ past) ≡ true))
    newest here (inl ends) = elim (or_cases (is_act Takes c e.event) (shuts_command c e.event) ends) [
      | inl takes ↦ inl (some_at-newest k (is_act Takes c) e past here takes)
      | inr shuts ↦ inr (inl (some_at-newest k (shuts_command c) e past here shuts))
    ]
    newest here (inr lost) = inr (inr (some_at-newest k (discards c) e past here lost))

    more : (some_at k (is_act Takes c) past ≡ true) ⊎ ((some_at k (shuts_command c) past ≡ true) ⊎ (some_at k (discards c) past ≡ true)) →
        (some_at k (is_act Takes c) (e ∷ past) ≡ true) ⊎ ((some_at k (shuts_command c) (e ∷ past) ≡ true) ⊎ (some_at k (discards c) (e ∷ past) ≡ true))
    more (inl takes) = inl (some_at-more k (is_act Takes c) e past takes)
    more (inr (inl shuts)) = inr (inl (some_at-more k (shuts_command c) e past shuts))
    more (inr (inr lost)) = inr (inr (some_at-more k (discards c) e past lost))

released-lacks : (s : Setting) (i c : ℕ) (past : List Entry) → 1 ≤ s.geometry.block → Grows s past → some_at (i + 1) (releases c) past ≡ true →
    has_owner c (held s i past) ≡ true → ⊥
released-lacks s i c past b g r h = by (held-of (IsHeld s i past) c (held s i past) (holding s i past b g).each h) (released-parts (i + 1) c past r)
  where
    by : (x : HeldBlocks) × ((x.owner ≡ c) × IsHeld s i past x) →
        (some_at (i + 1) (is_act Takes c) past ≡ true) ⊎ ((some_at (i + 1) (shuts_command c) past ≡ true) ⊎ (some_at (i + 1) (discards c) past ≡ true)) → ⊥
    by (x, (own, p)) (inl takes) = both_ways (some_at (i + 1) (is_act Takes c) past) (subst (λ (n : ℕ). some_at (i + 1) (is_act Takes n) past ≡ false) own p.not_taken) takes
    by (x, (own, p)) (inr (inl shuts)) =
        both_ways (some_at (i + 1) (shuts_command c) past) (subst (λ (n : ℕ). some_at (i + 1) (shuts_command n) past ≡ false) own p.not_shut) shuts
    by (x, (own, p)) (inr (inr lost)) = discarded-lacks s i c past g lost h

-- a supervised delta is held exactly from its diff to its release
pub delta-held : (s : Setting) (i c : ℕ) (past : List Entry) → 1 ≤ s.geometry.block → takes_delta s.mode ≡ true → Grows s past →
    some_at (i + 1) (is_act Diffs c) past ≡ true → has_owner c (held s i past) ≡ not (some_at (i + 1) (releases c) past)
delta-held s i c past b mode g h = elim (cases_Bool (some_at (i + 1) (releases c) past)) [
  | inl released ↦ lacking released ∙ sym (ap not released)
  | inr kept ↦ delta-kept s i c past b mode g h kept ∙ sym (ap not kept)
]
  where
    lacking : some_at (i + 1) (releases c) past ≡ true → has_owner c (held s i past) ≡ false
    lacking released = elim (cases_Bool (has_owner c (held s i past))) [
      | inl owned ↦ absurd (released-lacks s i c past b g released owned)
      | inr none ↦ none
    ]
