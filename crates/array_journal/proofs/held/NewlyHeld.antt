-- Blocks that a diff or a hold adds to what is held: they are of an opened command, and of one that held nothing here.
use Rattle.std.specs.Prelude.{◌≡◌, ◌==◌, ◌||◌, nat_lt, ℕ, ◌+◌, true, false, List, [], ◌∷◌, Some, length, drop}
use Rattle.std.proofs.Common.{ap, ◌∙◌, arith, inl, inr}
use Rattle.std.proofs.lemmas.Bool.{cases_Bool, and_from, and_parts, false≢true}
use Rattle.std.proofs.lemmas.List.{length-take}
use Rattle.blocks_core.specs.Xor.{xor}
use Rattle.stripe_layout.specs.declared.mode.Mode.{Mode}
use Rattle.stripe_layout.specs.Modes.{takes_delta}
use Rattle.sbc_cdbs.specs.declared.descriptor.Cdb.{Cdb}
use Rattle.array_journal.specs.declared.at.At.{At}
use Rattle.array_journal.specs.declared.entry.Entry.{Entry}
use Rattle.array_journal.specs.declared.event.Event.{Event}
use Rattle.array_journal.specs.declared.setting.Setting.{Setting}
use Rattle.array_journal.specs.declared.task.Kind.{Kind}
use Rattle.array_journal.specs.declared.task.Kind.TheVariants.{Read, Update, DataOnly, DegradedRead, DegradedWrite, Rebuild, Resync}
use Rattle.array_journal.specs.declared.task.Task.{Task}
use Rattle.blocks_core.specs.Lists.{slice}
use Rattle.array_journal.specs.Entries.{some_at}
use Rattle.array_journal.specs.declared.act.Act.{Act}
use Rattle.array_journal.specs.declared.act.Act.TheVariants.{Diffs, Takes, Holds}
use Rattle.array_journal.specs.Acts.{acts_at, has_act, is_act, shuts_command}
use Rattle.xor_buffers.specs.Held.{rows_held, has_owner}
use Rattle.xor_buffers.proofs.OwnerLaws.{found-owner}
use Rattle.array_journal.specs.Media.{held}
use Rattle.array_journal.specs.May.{MayAct, MayTarget, swapped_since}
use Rattle.array_journal.specs.Run.{Grows}
use Rattle.array_journal.proofs.runs.Standing.{may-here, some_at-cases}
use Rattle.array_journal.proofs.held.HeldOwners.{has_source, has_source-more, owner-source, source-once}
use Rattle.array_journal.proofs.owed.EndedCommands.{taken-bytes}
use Rattle.array_journal.proofs.held.HeldOfOpen.{IsHeld, held-more}
use Rattle.blocks_core.proofs.XorLaws.{length-xor_le}

pub delta-length : (medium bytes : List ℕ) (at : ℕ) → length (xor (slice medium at (length bytes)) bytes) ≡ length bytes
delta-length medium bytes at = length-xor_le (slice medium at (length bytes)) bytes (omega (arith, length-take (length bytes) (drop at medium)))

-- a take finds what it takes
pub taken-source : (s : Setting) (i c : ℕ) (past : List Entry) → Grows s past → some_at (i + 1) (is_act Takes c) past ≡ true → has_source i c past ≡ true
taken-source s i c [] g h = absurd (false≢true h)
taken-source s i c (e ∷ past) g h = elim (some_at-cases (i + 1) (is_act Takes c) e past h) [
  | inl here ↦ newest (taken-bytes s past e.stamp i c e.event (may-here s past e.stamp e.lock i e.event here.0 g.0.1.1) here.1)
  | inr older ↦ has_source-more i c e past (taken-source s i c past g.1 older)
]
  where
    newest : (row len : ℕ) × ((bytes : List ℕ) × (rows_held s.geometry.block c row len (held s i past) ≡ Some bytes)) → has_source i c (e ∷ past) ≡ true
    newest (row, len, (bytes, q)) = has_source-more i c e past (owner-source s i c past g.1 (found-owner s.geometry.block c row len bytes (held s i past) q))

pub diff-takes : (mode : Mode) (kind : Kind) (task : Task) (i : ℕ) → takes_delta mode ≡ true → acts_at mode Diffs kind task i ≡ true → acts_at mode Takes kind task i ≡ true
diff-takes mode Update task i t h = and_from (takes_delta mode) (i == task.target) t h
diff-takes mode Read task i t h = absurd (false≢true h)
diff-takes mode DataOnly task i t h = absurd (false≢true h)
diff-takes mode DegradedRead task i t h = absurd (false≢true h)
diff-takes mode DegradedWrite task i t h = absurd (false≢true h)
diff-takes mode Rebuild task i t h = absurd (false≢true h)
diff-takes mode Resync task i t h = absurd (false≢true h)

pub hold-takes : (mode : Mode) (kind : Kind) (task : Task) (i : ℕ) → acts_at mode Holds kind task i ≡ true → acts_at mode Takes kind task i ≡ true
hold-takes mode DegradedRead task i h = h
hold-takes mode Read task i h = absurd (false≢true h)
hold-takes mode Update task i h = absurd (false≢true h)
hold-takes mode DataOnly task i h = absurd (false≢true h)
hold-takes mode DegradedWrite task i h = absurd (false≢true h)
hold-takes mode Rebuild task i h = absurd (false≢true h)
hold-takes mode Resync task i h = absurd (false≢true h)

pub takes-from : (s : Setting) (act : Act) (task : Task) (i : ℕ) → has_act s act task i ≡ true →
    (acts_at s.mode act task.kind task i ≡ true → acts_at s.mode Takes task.kind task i ≡ true) → has_act s Takes task i ≡ true
takes-from s act task i h f =
    let parts : (nat_lt i s.geometry.targets ≡ true) × (acts_at s.mode act task.kind task i ≡ true) =
    and_parts (nat_lt i s.geometry.targets) (acts_at s.mode act task.kind task i) h in
    and_from (nat_lt i s.geometry.targets) (acts_at s.mode Takes task.kind task i) parts.0 (f parts.1)

-- an event that neither takes, shuts nor replaces a disk
abbrev pub IsQuietHere : ℕ → Event → Type 0
IsQuietHere c event = (opened : At) → (is_act Takes c event ≡ false) × (shuts_command c event ≡ false) × (swapped_since opened event ≡ false)

pub here-quiet : (e : Entry) (i c : ℕ) (event : Event) → e.event ≡ event → IsQuietHere c event → (opened : At) → e.lock ≡ i + 1 →
    (is_act Takes c e.event ≡ false) × (shuts_command c e.event ≡ false) × (swapped_since opened e.event ≡ false)
here-quiet e i c event q quiet opened here =
    (ap (is_act Takes c) q ∙ (quiet opened).0, ap (shuts_command c) q ∙ (quiet opened).1, ap (swapped_since opened) q ∙ (quiet opened).2)

-- blocks that a diff or a hold adds
pub new-held : (s : Setting) (i c : ℕ) (e : Entry) (past : List Entry) (event : Event) (act : Act) (opened : At) (task : Task) (sources row len : ℕ) (cdb : Cdb) (bytes : List ℕ) →
    e.event ≡ event → e.lock ≡ i + 1 → Grows s (e ∷ past) → MayTarget s past e.stamp i event → (is_act Diffs c event || is_act Holds c event) ≡ true →
    IsQuietHere c event → MayAct s past e.stamp i c opened cdb row len sources task act → has_act s Takes task i ≡ true → length bytes ≡ len →
    IsHeld s i (e ∷ past) (record { owner = c; row = row; bytes = bytes })
new-held s i c e past event act opened task sources row len cdb bytes q here g m source quiet a takes size =
    held-more s i e past (record { owner = c; row = row; bytes = bytes }) g.0.1.0 (here-quiet e i c event q quiet) (record {
      opened = opened;
      task = task;
      in_book = a.in_book;
      opening = a.opening.0;
      takes = takes;
      from_row = a.at_row;
      whole = size ∙ a.whole;
      not_taken = untaken;
      not_shut = a.not_shut;
      same_life = a.same_life;
    })
  where
    untaken : some_at (i + 1) (is_act Takes c) past ≡ false
    untaken = elim (cases_Bool (some_at (i + 1) (is_act Takes c) past)) [
      | inl taken ↦ absurd (source-once s past e.stamp i c event g.1 m (taken-source s i c past g.1 taken) source)
      | inr none ↦ none
    ]

pub new-distinct : (s : Setting) (i c : ℕ) (past : List Entry) (stamp : ℕ) (event : Event) → Grows s past → MayTarget s past stamp i event →
    (is_act Diffs c event || is_act Holds c event) ≡ true → has_owner c (held s i past) ≡ false
new-distinct s i c past stamp event g m source = elim (cases_Bool (has_owner c (held s i past))) [
  | inl owned ↦ absurd (source-once s past stamp i c event g m (owner-source s i c past g owned) source)
  | inr none ↦ none
]
