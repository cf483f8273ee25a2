-- What a target holds in a run: blocks of open commands, each of its own owner, from the diff or the hold that they are of
-- to the entry that takes, shuts or discards them.
use Rattle.std.specs.Prelude.{◌≡◌, ◌==◌, ◌||◌, ◌≤◌, not, ℕ, ◌+◌, ◌*◌, true, false, List, [], ◌∷◌, Some, length}
use Rattle.std.specs.List.{AllByRecursion}
use Rattle.std.proofs.Common.{refl, sym, subst, inl, inr}
use Rattle.std.proofs.lemmas.Bool.{eq-eqb, ne_eqb, cases_eq, or_left, not-true, both_ways}
use Rattle.blocks_core.specs.Xor.{xor}
use Rattle.stripe_layout.proofs.ModeLaws.{left-taken}
use Rattle.sbc_cdbs.specs.declared.descriptor.Cdb.{Cdb}
use Rattle.array_journal.specs.declared.at.At.{At}
use Rattle.array_journal.specs.declared.entry.Entry.{Entry}
use Rattle.array_journal.specs.declared.event.Event.{Event}
use Rattle.array_journal.specs.declared.event.Event.TheVariants.{Fetch, Put, Diff, Take, Fold, Hold, Shut, Gone, Wiped, Fresh}
use Rattle.array_journal.specs.declared.event.What.TheVariants.{Buffers, Request}
use Rattle.array_journal.specs.declared.setting.Setting.{Setting}
use Rattle.array_journal.specs.declared.task.Task.{Task}
use Rattle.blocks_core.specs.Lists.{slice}
use Rattle.array_journal.specs.Commands.{is_open}
use Rattle.array_journal.specs.declared.act.Act.TheVariants.{Diffs, Takes, Holds}
use Rattle.array_journal.specs.Acts.{is_act}
use Rattle.xor_buffers.specs.declared.held.HeldBlocks.{HeldBlocks}
use Rattle.xor_buffers.specs.Held.{take_rows, rows_held}
use Rattle.xor_buffers.proofs.OwnerLaws.{found-owner}
use Rattle.xor_buffers.proofs.HeldLists.{AreDistinct, all-owned, all-kept, all-joined, distinct-kept, distinct-joined, without, IsBesideTaken, take-removes}
use Rattle.array_journal.specs.Media.{media, held, held_after}
use Rattle.array_journal.specs.May.{MayAct, MayTarget}
use Rattle.array_journal.specs.Run.{Grows}
use Rattle.array_journal.proofs.runs.Steps.{held-here, held-else}
use Rattle.array_journal.proofs.runs.Standing.{may-here}
use Rattle.array_journal.proofs.runs.CommandLaws.{named-task}
use Rattle.array_journal.proofs.owed.EndedCommands.{act-open}
use Rattle.array_journal.proofs.held.HeldOfOpen.{IsHeld, AllHeld, held-more, holder-open, held-beside}
use Rattle.array_journal.proofs.held.NewlyHeld.{delta-length, diff-takes, hold-takes, takes-from, IsQuietHere, here-quiet, new-held, new-distinct}

-- all that a target holds is held so, of commands that differ
pub record Holding (s : Setting) (i : ℕ) (past : List Entry) : Type 0 where
  pub each : AllHeld s i past (held s i past)
  pub distinct : AreDistinct (held s i past)

abbrev HoldingAfter : Setting → ℕ → Entry → List Entry → List HeldBlocks → Type 0
HoldingAfter s i e past hs = AllHeld s i (e ∷ past) hs × AreDistinct hs

quiet-holding : (s : Setting) (i : ℕ) (e : Entry) (past : List Entry) (event : Event) → e.event ≡ event → Grows s (e ∷ past) → ((c : ℕ) → IsQuietHere c event) →
    Holding s i past → HoldingAfter s i e past (held s i past)
quiet-holding s i e past event q g quiet p = (
  all-owned (IsHeld s i past) (IsHeld s i (e ∷ past)) (held s i past)
      (λ h owned x. held-more s i e past h g.0.1.0 (here-quiet e i h.owner event q (quiet h.owner)) x) p.each,
  p.distinct,
)

-- the blocks of others, where those of one command go
without-holding : (s : Setting) (i c : ℕ) (e : Entry) (past : List Entry) (event : Event) → e.event ≡ event → Grows s (e ∷ past) →
    ((d : ℕ) → (c == d) ≡ false → IsQuietHere d event) → Holding s i past → HoldingAfter s i e past (without c (held s i past))
without-holding s i c e past event q g quiet p = (
  all-kept (IsHeld s i past) (IsHeld s i (e ∷ past)) (λ h. not (h.owner == c)) (held s i past)
      (λ h other x. held-more s i e past h g.0.1.0 (here-quiet e i h.owner event q
      (quiet h.owner (ne_eqb c h.owner (λ same. both_ways (h.owner == c) (not-true (h.owner == c) other) (eq-eqb h.owner c (sym same)))))) x) p.each,
  distinct-kept (λ h. not (h.owner == c)) (held s i past) p.distinct,
)

-- what a take leaves
pub taken-without : (s : Setting) (i c : ℕ) (past : List Entry) (stamp : ℕ) (event : Event) (opened : At) (task : Task) (sources row len : ℕ) (cdb : Cdb) (bytes : List ℕ) →
    1 ≤ s.geometry.block → Grows s past → MayTarget s past stamp i event → is_act Takes c event ≡ true →
    MayAct s past stamp i c opened cdb row len sources task Takes → rows_held s.geometry.block c row len (held s i past) ≡ Some bytes → Holding s i past →
    take_rows s.geometry.block row len (held s i past) ≡ without c (held s i past)
taken-without s i c past stamp event opened task sources row len cdb bytes b g m h a found p =
    take-removes c s.geometry.block row len (held s i past) p.distinct
    (all-owned (IsHeld s i past) (IsBesideTaken c s.geometry.block row len) (held s i past)
    (λ x owned q. held-beside s i c past task row len x b g (act-open s past stamp i c Takes event g m h)
    (named-task s opened c task past g a.in_book a.opening.0) a.of_task a.at_row a.whole owned q) p.each)
    (found-owner s.geometry.block c row len bytes (held s i past) found)

holding-after : (s : Setting) (i : ℕ) (e : Entry) (past : List Entry) (m : List ℕ) (event : Event) → e.event ≡ event → e.lock ≡ i + 1 → 1 ≤ s.geometry.block →
    Grows s (e ∷ past) → MayTarget s past e.stamp i event → Holding s i past → HoldingAfter s i e past (held_after s m event (held s i past))
holding-after s i e past m (Fetch command opened cdb row bytes) q here b g may p =
    quiet-holding s i e past (Fetch command opened cdb row bytes) q g (λ c name. (refl, refl, refl)) p
holding-after s i e past m (Put command opened cdb row bytes names) q here b g may p =
    quiet-holding s i e past (Put command opened cdb row bytes names) q g (λ c name. (refl, refl, refl)) p
holding-after s i e past m (Diff command opened cdb row bytes true dropped back) q here b g may p =
    quiet-holding s i e past (Diff command opened cdb row bytes true dropped back) q g (λ c name. (refl, refl, refl)) p
holding-after s i e past m (Diff command opened cdb row bytes false dropped true) q here b g may p =
    quiet-holding s i e past (Diff command opened cdb row bytes false dropped true) q g (λ c name. (refl, refl, refl)) p
holding-after s i e past m (Diff command opened cdb row bytes false dropped false) q here b g may p =
    let old : HoldingAfter s i e past (held s i past) =
    quiet-holding s i e past (Diff command opened cdb row bytes false dropped false) q g (λ c name. (refl, refl, refl)) p in
    let source : ((command == command) || false) ≡ true = or_left (command == command) false (eq-eqb command command refl) in
    let added : HeldBlocks = record { owner = command; row = row; bytes = xor (slice m (row * s.geometry.block) (length bytes)) bytes } in (
      all-joined (IsHeld s i (e ∷ past)) (held s i past) added old.0
          (new-held s i command e past (Diff command opened cdb row bytes false dropped false) Diffs opened may.0 0 row (length bytes) cdb
          (xor (slice m (row * s.geometry.block) (length bytes)) bytes) q here g may source (λ name. (refl, refl, refl)) may.1.act
          (takes-from s Diffs may.0 i may.1.act.of_task (diff-takes s.mode may.0.kind may.0 i (left-taken s.mode (sym may.1.sent_by_mode) (sym may.1.back_by_mode))))
          (delta-length m bytes (row * s.geometry.block))),
      distinct-joined (held s i past) added old.1 (new-distinct s i command past e.stamp (Diff command opened cdb row bytes false dropped false) g.1 may source),
    )
holding-after s i e past m (Hold command opened cdb row bytes true names back) q here b g may p =
    let old : HoldingAfter s i e past (held s i past) =
    quiet-holding s i e past (Hold command opened cdb row bytes true names back) q g (λ c name. (refl, refl, refl)) p in
    let source : (false || (command == command)) ≡ true = eq-eqb command command refl in
    let added : HeldBlocks = record { owner = command; row = row; bytes = bytes } in (
      all-joined (IsHeld s i (e ∷ past)) (held s i past) added old.0
          (new-held s i command e past (Hold command opened cdb row bytes true names back) Holds opened may.0 (length names) row (length bytes) cdb bytes q here g may source
          (λ name. (refl, refl, refl)) may.1.act
          (takes-from s Holds may.0 i may.1.act.of_task (hold-takes s.mode may.0.kind may.0 i)) refl),
      distinct-joined (held s i past) added old.1 (new-distinct s i command past e.stamp (Hold command opened cdb row bytes true names back) g.1 may source),
    )
holding-after s i e past m (Hold command opened cdb row bytes false names back) q here b g may p =
    quiet-holding s i e past (Hold command opened cdb row bytes false names back) q g (λ c name. (refl, refl, refl)) p
holding-after s i e past m (Take command opened cdb row bytes) q here b g may p =
    subst (HoldingAfter s i e past)
    (sym (taken-without s i command past e.stamp (Take command opened cdb row bytes) opened may.0 0 row (length bytes) cdb bytes b g.1 may
    (eq-eqb command command refl) may.1.act may.1.taken p))
    (without-holding s i command e past (Take command opened cdb row bytes) q g (λ d other name. (other, refl, refl)) p)
holding-after s i e past m (Fold command opened cdb row bytes names) q here b g may p =
    quiet-holding s i e past (Fold command opened cdb row bytes names) q g (λ c name. (refl, refl, refl)) p
holding-after s i e past m (Shut command opened acted lost) q here b g may p =
    without-holding s i command e past (Shut command opened acted lost) q g (λ d other name. (refl, other, refl)) p
holding-after s i e past m (Gone life call commands) q here b g may p = (tt, tt)
holding-after s i e past m (Wiped Buffers call commands) q here b g may p = (tt, tt)
holding-after s i e past m (Wiped Request call commands) q here b g may p =
    quiet-holding s i e past (Wiped Request call commands) q g (λ c name. (refl, refl, refl)) p
holding-after s i e past m (Fresh call swap) q here b g may p = (tt, tt)
holding-after s i e past m _ q here b g may p = absurd may

pub holding : (s : Setting) (i : ℕ) (past : List Entry) → 1 ≤ s.geometry.block → Grows s past → Holding s i past
holding s i [] b g = record { each = tt; distinct = tt }
holding s i (e ∷ past) b g = elim (cases_eq e.lock (i + 1)) [
  | inl here ↦ packed (held s i (e ∷ past)) refl (subst (HoldingAfter s i e past) (sym (held-here s i e past here))
      (holding-after s i e past (media s i past) e.event refl here b g (may-here s past e.stamp e.lock i e.event here g.0.1.1) (holding s i past b g.1)))
  | inr other ↦ packed (held s i (e ∷ past)) refl (subst (HoldingAfter s i e past) (sym (held-else s i e past other)) (elsewhere other (holding s i past b g.1)))
]
  where
    packed : (hs : List HeldBlocks) → hs ≡ held s i (e ∷ past) → HoldingAfter s i e past (held s i (e ∷ past)) → Holding s i (e ∷ past)
    packed hs q p = record { each = p.0; distinct = p.1 }

    elsewhere : (e.lock ≡ i + 1 → ⊥) → Holding s i past → HoldingAfter s i e past (held s i past)
    elsewhere other p = (
      all-owned (IsHeld s i past) (IsHeld s i (e ∷ past)) (held s i past) (λ h owned x. held-more s i e past h g.0.1.0 (λ name here. absurd (other here)) x) p.each,
      p.distinct,
    )

pub owners-open : (s : Setting) (i : ℕ) (past : List Entry) → 1 ≤ s.geometry.block → Grows s past →
    AllByRecursion (λ (h : HeldBlocks). is_open h.owner past ≡ true) (held s i past)
owners-open s i past b g =
    all-owned (IsHeld s i past) (λ (h : HeldBlocks). is_open h.owner past ≡ true) (held s i past) (λ h owned p. holder-open s i past h g owned p) (holding s i past b g).each
