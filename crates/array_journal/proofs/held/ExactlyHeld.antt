-- What is held stays held, to the byte, until it is released.
use Rattle.std.specs.Prelude.{◌≡◌, ◌==◌, ◌||◌, ◌⊎◌, ◌≤◌, ℕ, ◌+◌, Bool, true, false, List, [], ◌∷◌, length, Some}
use Rattle.std.specs.List.{list_any}
use Rattle.std.proofs.Common.{refl, ap, sym, ◌∙◌, subst, cond, inl, inr}
use Rattle.std.proofs.lemmas.Bool.{cases_eq, eq-eqb, or_parts, and_from, cond-false, both_ways, false≢true}
use Rattle.stripe_layout.specs.Modes.{takes_delta, sends_delta, hands_delta_back}
use Rattle.stripe_layout.proofs.ModeLaws.{taken-unsent, taken-unhanded}
use Rattle.sbc_cdbs.specs.declared.descriptor.Cdb.{Cdb}
use Rattle.array_journal.specs.declared.at.At.{At}
use Rattle.array_journal.specs.declared.entry.Entry.{Entry}
use Rattle.array_journal.specs.declared.event.Event.{Event}
use Rattle.array_journal.specs.declared.event.Event.TheVariants.{Diff, Take, Hold, Shut, Gone, Wiped, Fresh}
use Rattle.array_journal.specs.declared.event.What.TheVariants.{Buffers, Request}
use Rattle.array_journal.specs.declared.setting.Setting.{Setting}
use Rattle.array_journal.specs.Entries.{entry_at, some_at, same_at, name_of}
use Rattle.xor_buffers.specs.declared.held.HeldBlocks.{HeldBlocks}
use Rattle.xor_buffers.specs.Held.{AreAmong}
use Rattle.xor_buffers.proofs.HeldLists.{among-owner, among-joined, among-last, among-without}
use Rattle.xor_buffers.proofs.OwnerLaws.{owner-named}
use Rattle.array_journal.specs.Media.{held, held_after, media}
use Rattle.array_journal.specs.Deltas.{delta_in, delta_of, delta_at}
use Rattle.array_journal.specs.May.{MayTarget}
use Rattle.array_journal.specs.Run.{Grows}
use Rattle.array_journal.specs.Laws.{releases}
use Rattle.array_journal.specs.HeldExactly.{AreHeldThere, DeltaHeldExactlyLaw, GatheredHeldExactlyLaw}
use Rattle.array_journal.proofs.runs.Steps.{held-here, held-else}
use Rattle.array_journal.proofs.runs.Standing.{IsNameOf, not-later, may-here, entry_at-cases, some_at-here, some_at-older}
use Rattle.array_journal.proofs.held.Holding.{holding, taken-without}
use Rattle.array_journal.proofs.held.HeldUntil.{kept-after}

-- an event that releases nothing of a command leaves what it holds
exactly-after : (s : Setting) (i : ℕ) (h : HeldBlocks) (past : List Entry) (stamp : ℕ) (m : List ℕ) (event : Event) → 1 ≤ s.geometry.block → Grows s past →
    MayTarget s past stamp i event → releases h.owner event ≡ false → AreAmong h (held s i past) → AreAmong h (held_after s m event (held s i past))
exactly-after s i h past stamp m (Diff command opened cdb row bytes true dropped back) b g may r a = a
exactly-after s i h past stamp m (Diff command opened cdb row bytes false dropped true) b g may r a = a
exactly-after s i h past stamp m (Diff command opened cdb row bytes false dropped false) b g may r a = among-joined h (held s i past) _ a
exactly-after s i h past stamp m (Hold command opened cdb row bytes true names back) b g may r a = among-joined h (held s i past) _ a
exactly-after s i h past stamp m (Hold command opened cdb row bytes false names back) b g may r a = a
exactly-after s i h past stamp m (Take command opened cdb row bytes) b g may r a =
    subst (AreAmong h)
    (sym (taken-without s i command past stamp (Take command opened cdb row bytes) opened may.0 0 row (length bytes) cdb bytes b g may
    (eq-eqb command command refl) may.1.act may.1.taken (holding s i past b g)))
    (among-without h command (held s i past) (or_parts (command == h.owner) false (or_parts ((command == h.owner) || false) false r).0).0 a)
exactly-after s i h past stamp m (Shut command opened acted lost) b g may r a =
    among-without h command (held s i past) (or_parts false (command == h.owner) (or_parts (false || (command == h.owner)) false r).0).1 a
exactly-after s i h past stamp m (Gone life call commands) b g may r a =
    absurd (both_ways (list_any (λ x. x == h.owner) commands) r
    (subst (λ (xs : List ℕ). list_any (λ x. x == h.owner) xs ≡ true) (sym may.says_owners) (owner-named h.owner (held s i past) (among-owner h (held s i past) a))))
exactly-after s i h past stamp m (Wiped Buffers call commands) b g may r a =
    absurd (both_ways (list_any (λ x. x == h.owner) commands) r
    (subst (λ (xs : List ℕ). list_any (λ x. x == h.owner) xs ≡ true) (sym may) (owner-named h.owner (held s i past) (among-owner h (held s i past) a))))
exactly-after s i h past stamp m (Wiped Request call commands) b g may r a = a
exactly-after s i h past stamp m (Fresh call swap) b g may r a =
    absurd (false≢true (kept-after s i h.owner past stamp m (Fresh call swap) b g may r (among-owner h (held s i past) a)))
exactly-after s i h past stamp m _ b g may r a = a

-- and so does any entry
exactly-more : (s : Setting) (i : ℕ) (h : HeldBlocks) (e : Entry) (past : List Entry) → 1 ≤ s.geometry.block → Grows s (e ∷ past) →
    some_at (i + 1) (releases h.owner) (e ∷ past) ≡ false → AreAmong h (held s i past) → AreAmong h (held s i (e ∷ past))
exactly-more s i h e past b g r a = elim (cases_eq e.lock (i + 1)) [
  | inl here ↦ subst (AreAmong h) (sym (held-here s i e past here))
      (exactly-after s i h past e.stamp (media s i past) e.event b g.1 (may-here s past e.stamp e.lock i e.event here g.0.1.1)
      (or_parts (releases h.owner e.event) (some_at (i + 1) (releases h.owner) past) (sym (some_at-here (i + 1) (releases h.owner) e past here) ∙ r)).0 a)
  | inr other ↦ subst (AreAmong h) (sym (held-else s i e past other)) a
]

-- a delta that is neither sent nor handed back is held from its diff on
diff-held : (s : Setting) (i c row stamp : ℕ) (opened : At) (cdb : Cdb) (bytes : List ℕ) (sent dropped back : Bool) (past : List Entry) → takes_delta s.mode ≡ true →
    MayTarget s past stamp i (Diff c opened cdb row bytes sent dropped back) →
    AreAmong (record { owner = c; row = row; bytes = delta_of s i past row bytes }) (held_after s (media s i past) (Diff c opened cdb row bytes sent dropped back) (held s i past))
diff-held s i c row stamp opened cdb bytes true dropped back past mode may =
    absurd (both_ways (sends_delta s.mode) (taken-unsent s.mode mode) (sym may.1.sent_by_mode))
diff-held s i c row stamp opened cdb bytes false dropped true past mode may =
    absurd (both_ways (hands_delta_back s.mode) (taken-unhanded s.mode mode) (sym may.1.back_by_mode))
diff-held s i c row stamp opened cdb bytes false dropped false past mode may =
    among-last (record { owner = c; row = row; bytes = delta_of s i past row bytes }) (held s i past)

-- a name is that of an entry with its stamp and lock
name-same : (name : At) (e : Entry) → IsNameOf name e → same_at name (name_of e) ≡ true
name-same name e same = and_from (name.stamp == e.stamp) (name.lock == e.lock) (eq-eqb name.stamp e.stamp same.0) (eq-eqb name.lock e.lock same.1)

pub delta-exactly : DeltaHeldExactlyLaw
delta-exactly s i c row name opened cdb bytes sent dropped back [] set mode g at stands r = cc
delta-exactly s i c row name opened cdb bytes sent dropped back (e ∷ past) set mode g at stands r =
    by (delta-exactly s i c row name opened cdb bytes sent dropped back past set mode g.1 at)
    (entry_at-cases name e past (Diff c opened cdb row bytes sent dropped back) stands)
  where
    Is : List Entry → Type 0
    Is p = (delta : List ℕ) × ((delta_at s i name p ≡ Some delta) × AreHeldThere s i p c row delta)

    by : (entry_at name past ≡ Some (Diff c opened cdb row bytes sent dropped back) → some_at (i + 1) (releases c) past ≡ false → Is past) →
        (IsNameOf name e × (e.event ≡ Diff c opened cdb row bytes sent dropped back)) ⊎ (entry_at name past ≡ Some (Diff c opened cdb row bytes sent dropped back)) →
        Is (e ∷ past)
    by rec (inl here) =
        let place : e.lock ≡ i + 1 = sym here.0.1 ∙ at in
        let may : MayTarget s past e.stamp i (Diff c opened cdb row bytes sent dropped back) =
        subst (λ (x : Event). MayTarget s past e.stamp i x) here.1 (may-here s past e.stamp e.lock i e.event place g.0.1.1) in (
          delta_of s i past row bytes,
          (
            ap (λ b. cond b (delta_in s i past e.event) (delta_at s i name past)) (name-same name e here.0) ∙ ap (delta_in s i past) here.1,
            subst (AreAmong (record { owner = c; row = row; bytes = delta_of s i past row bytes }))
                (sym (held-here s i e past place ∙ ap (λ (x : Event). held_after s (media s i past) x (held s i past)) here.1))
                (diff-held s i c row e.stamp opened cdb bytes sent dropped back past mode may),
          ),
        )
    by rec (inr older) =
        let old : Is past = rec older (some_at-older (i + 1) (releases c) e past r) in
        let found : entry_at name past ≡ Some (Diff c opened cdb row bytes sent dropped back) = older in (
          old.0,
          (
            cond-false (same_at name (name_of e)) (delta_in s i past e.event) (delta_at s i name past) (not-newest found) ∙ old.1.0,
            exactly-more s i (record { owner = c; row = row; bytes = old.0 }) e past set.array.least_block g r old.1.1,
          ),
        )
      where
        not-newest : entry_at name past ≡ Some (Diff c opened cdb row bytes sent dropped back) → same_at name (name_of e) ≡ false
        not-newest q = not-later name e past (Diff c opened cdb row bytes sent dropped back) g.0.1.0 q

pub gathered-exactly : GatheredHeldExactlyLaw
gathered-exactly s i c row name opened cdb bytes names back [] set g at stands r = cc
gathered-exactly s i c row name opened cdb bytes names back (e ∷ past) set g at stands r =
    by (gathered-exactly s i c row name opened cdb bytes names back past set g.1 at)
    (entry_at-cases name e past (Hold c opened cdb row bytes true names back) stands)
  where
    by : (entry_at name past ≡ Some (Hold c opened cdb row bytes true names back) → some_at (i + 1) (releases c) past ≡ false → AreHeldThere s i past c row bytes) →
        (IsNameOf name e × (e.event ≡ Hold c opened cdb row bytes true names back)) ⊎ (entry_at name past ≡ Some (Hold c opened cdb row bytes true names back)) →
        AreHeldThere s i (e ∷ past) c row bytes
    by rec (inl here) =
        subst (AreAmong (record { owner = c; row = row; bytes = bytes }))
        (sym (held-here s i e past (sym here.0.1 ∙ at) ∙ ap (λ (x : Event). held_after s (media s i past) x (held s i past)) here.1))
        (among-last (record { owner = c; row = row; bytes = bytes }) (held s i past))
    by rec (inr older) =
        exactly-more s i (record { owner = c; row = row; bytes = bytes }) e past set.array.least_block g r
        (rec older (some_at-older (i + 1) (releases c) e past r))
