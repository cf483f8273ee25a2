-- The task of a command for what is asked is sound, where what is asked is of the array.
use Rattle.std.proofs.Common.{◌≡◌, ◌≢◌, ◌*◌, ◌≤◌, ◌<◌, ℕ, List, [], length, refl, sym, ap, ◌∙◌, subst, arith}
use Rattle.std.specs.Prelude.{Ok}
use Rattle.stripe_layout.specs.declared.geometry.Place.{Place}
use Rattle.stripe_layout.specs.declared.pieces.Piece.{Piece}
use Rattle.stripe_layout.specs.Layout.{IsRowOf, place_of, stripe_of, unit_of, row_of, stripes_of, parity_of}
use Rattle.stripe_layout.proofs.AreaRows.{unit-some, unit-most}
use Rattle.stripe_layout.proofs.PlaceLaws.{unit_of-below, offset-below, row_of-stripe}
use Rattle.stripe_layout.proofs.PlaceRuns.{target_of-below, target_of-other}
use Rattle.array_journal.specs.declared.decision.Want.{Want as Service}
use Rattle.array_journal.specs.declared.decision.Want.TheVariants as services
use Rattle.array_journal.specs.declared.setting.Setting.{Setting}
use Rattle.array_journal.specs.declared.task.Kind.{Kind}
use Rattle.array_journal.specs.declared.task.Kind.TheVariants as kinds
use Rattle.array_journal.specs.declared.task.Task.{Task}
use Rattle.array_journal.specs.Decision.{want_of}
use Rattle.array_journal.specs.May.{IsTask, IsTaskOfKind}
use Rattle.array_journal.specs.Run.{IsSetting}
use Rattle.array_book.specs.declared.asks.Aim.{Aim}
use Rattle.array_book.specs.declared.asks.Want.{Want}
use Rattle.array_book.specs.declared.asks.Want.TheVariants.{Read, Write, Rebuild, Resync, Illegal}
use Rattle.array_book.specs.Asks.{IsPiece, IsWant, piece_aim, unit_aim, aim_of, bytes_of, task_at}

module _ (s : Setting) (is : IsSetting s) (call number : ℕ) where
  -- blocks of one data unit
  piece-sound : (want : Service) (piece : Piece) (kind : Kind) (bytes : List ℕ) → IsPiece s piece →
      ((task : Task) → task.target ≢ task.parity → task.bytes ≡ bytes → task.count ≡ piece.count → IsTaskOfKind s task kind) →
      IsTask s (task_at s.geometry call number kind (piece_aim want piece) bytes)
  piece-sound want piece kind bytes at by_kind =
      let here : IsRowOf s.geometry (stripe_of s.geometry piece.first) (row_of s.geometry piece.first) = row_of-stripe s.geometry piece.first is.array at.in_array in
      subst (λ (place : Place). IsTask s (task_at s.geometry call number kind (record { want = want; stripe = place.stripe; target = place.target; row = place.row; count = piece.count }) bytes))
      (sym at.placed) (record {
        in_array = here.in_array;
        parity = refl;
        target = target_of-below s.geometry (stripe_of s.geometry piece.first) (unit_of s.geometry piece.first) is.array (unit_of-below s.geometry piece.first is.array at.in_array);
        some_rows = at.some;
        from_stripe = here.first;
        to_stripe = let below = offset-below s.geometry piece.first is.array at.in_array in omega (arith, below, at.in_unit);
        by_kind = by_kind (task_at s.geometry call number kind (piece_aim want (record { place = place_of s.geometry piece.first; first = piece.first; count = piece.count })) bytes)
            (target_of-other s.geometry (stripe_of s.geometry piece.first) (unit_of s.geometry piece.first)) refl refl;
      })

  -- a whole unit
  unit-sound : (want : Service) (stripe target : ℕ) (kind : Kind) → stripe < stripes_of s.geometry → target < s.geometry.targets →
      IsTaskOfKind s (task_at s.geometry call number kind (unit_aim s.geometry want stripe target) []) kind →
      IsTask s (task_at s.geometry call number kind (unit_aim s.geometry want stripe target) [])
  unit-sound want stripe target kind in_array below by_kind = record {
    in_array = in_array;
    parity = refl;
    target = below;
    some_rows = unit-some s.geometry.areas stripe is.array.areas in_array;
    from_stripe = omega arith;
    to_stripe = omega arith;
    by_kind = by_kind;
  }

  read-kind : (kind : Kind) → want_of kind ≡ services.Read → (task : Task) → task.target ≢ task.parity → task.bytes ≡ [] → IsTaskOfKind s task kind
  read-kind kinds.Read w task other none = (other, none)
  read-kind kinds.DegradedRead w task other none = (other, none)
  read-kind kinds.Update w task other none = absurd cc
  read-kind kinds.DataOnly w task other none = absurd cc
  read-kind kinds.DegradedWrite w task other none = absurd cc
  read-kind kinds.Rebuild w task other none = absurd cc
  read-kind kinds.Resync w task other none = absurd cc

  write-kind : (kind : Kind) → want_of kind ≡ services.Write → (task : Task) → task.target ≢ task.parity → length task.bytes ≡ task.count * s.geometry.block → IsTaskOfKind s task kind
  write-kind kinds.Read w task other size = absurd cc
  write-kind kinds.DegradedRead w task other size = absurd cc
  write-kind kinds.Update w task other size = (other, size)
  write-kind kinds.DataOnly w task other size = (other, size)
  write-kind kinds.DegradedWrite w task other size = (other, size)
  write-kind kinds.Rebuild w task other size = absurd cc
  write-kind kinds.Resync w task other size = absurd cc

  rebuild-kind : (kind : Kind) → want_of kind ≡ services.Rebuild → kind ≡ kinds.Rebuild
  rebuild-kind kinds.Read w = absurd cc
  rebuild-kind kinds.DegradedRead w = absurd cc
  rebuild-kind kinds.Update w = absurd cc
  rebuild-kind kinds.DataOnly w = absurd cc
  rebuild-kind kinds.DegradedWrite w = absurd cc
  rebuild-kind kinds.Rebuild w = refl
  rebuild-kind kinds.Resync w = absurd cc

  resync-kind : (kind : Kind) → want_of kind ≡ services.Resync → kind ≡ kinds.Resync
  resync-kind kinds.Read w = absurd cc
  resync-kind kinds.DegradedRead w = absurd cc
  resync-kind kinds.Update w = absurd cc
  resync-kind kinds.DataOnly w = absurd cc
  resync-kind kinds.DegradedWrite w = absurd cc
  resync-kind kinds.Rebuild w = absurd cc
  resync-kind kinds.Resync w = refl

  by-want : (want : Want) (kind : Kind) → IsWant s want → (aim : Aim) → aim_of s.geometry want ≡ Ok aim → want_of kind ≡ aim.want →
      IsTask s (task_at s.geometry call number kind aim (bytes_of want))
  by-want (Read piece) kind at aim e w =
      let same : piece_aim services.Read piece ≡ aim = cc in
      subst (λ (a : Aim). want_of kind ≡ a.want → IsTask s (task_at s.geometry call number kind a [])) same
      (λ w'. piece-sound services.Read piece kind [] at (λ task other bytes count. read-kind kind w' task other bytes)) w
  by-want (Write piece bytes) kind at aim e w =
      let same : piece_aim services.Write piece ≡ aim = cc in
      subst (λ (a : Aim). want_of kind ≡ a.want → IsTask s (task_at s.geometry call number kind a bytes)) same
      (λ w'. piece-sound services.Write piece kind bytes at.0
      (λ task other same_bytes count. write-kind kind w' task other (ap (λ (xs : List ℕ). length xs) same_bytes ∙ at.1 ∙ ap (λ (n : ℕ). n * s.geometry.block) (sym count)))) w
  by-want (Rebuild slot stripe) kind at aim e w =
      let same : unit_aim s.geometry services.Rebuild stripe slot ≡ aim = cc in
      subst (λ (a : Aim). want_of kind ≡ a.want → IsTask s (task_at s.geometry call number kind a [])) same
      (λ w'. subst (λ (k : Kind). IsTask s (task_at s.geometry call number k (unit_aim s.geometry services.Rebuild stripe slot) [])) (sym (rebuild-kind kind w'))
      (unit-sound services.Rebuild stripe slot kinds.Rebuild at.1 at.0 (refl, refl, refl))) w
  by-want (Resync stripe) kind at aim e w =
      let same : unit_aim s.geometry services.Resync stripe (parity_of s.geometry stripe) ≡ aim = cc in
      let below : parity_of s.geometry stripe < s.geometry.targets = omega (arith, is.array.least_targets) in
      subst (λ (a : Aim). want_of kind ≡ a.want → IsTask s (task_at s.geometry call number kind a [])) same
      (λ w'. subst (λ (k : Kind). IsTask s (task_at s.geometry call number k (unit_aim s.geometry services.Resync stripe (parity_of s.geometry stripe)) [])) (sym (resync-kind kind w'))
      (unit-sound services.Resync stripe (parity_of s.geometry stripe) kinds.Resync at below (refl, refl, refl, refl))) w
  by-want (Illegal sense) kind at aim e w = absurd cc

pub task-sound : (s : Setting) (call number : ℕ) (want : Want) (kind : Kind) (aim : Aim) → IsSetting s → IsWant s want → aim_of s.geometry want ≡ Ok aim →
    want_of kind ≡ aim.want → IsTask s (task_at s.geometry call number kind aim (bytes_of want))
task-sound s call number want kind aim is at e w = by-want s is call number want kind at aim e w

-- what is asked about is no more than a buffer has room for
pub aim-small : (s : Setting) (want : Want) (aim : Aim) → IsSetting s → IsWant s want → aim_of s.geometry want ≡ Ok aim → aim.count ≤ s.buffer
aim-small s (Read piece) aim is at e =
    let same : piece_aim services.Read piece ≡ aim = cc in subst (λ (a : Aim). a.count ≤ s.buffer) same at.in_buffer
aim-small s (Write piece bytes) aim is at e =
    let same : piece_aim services.Write piece ≡ aim = cc in subst (λ (a : Aim). a.count ≤ s.buffer) same at.0.in_buffer
aim-small s (Rebuild slot stripe) aim is at e =
    let same : unit_aim s.geometry services.Rebuild stripe slot ≡ aim = cc in
    subst (λ (a : Aim). a.count ≤ s.buffer) same (omega (arith, unit-most s.geometry.areas stripe, is.least_buffer))
aim-small s (Resync stripe) aim is at e =
    let same : unit_aim s.geometry services.Resync stripe (parity_of s.geometry stripe) ≡ aim = cc in
    subst (λ (a : Aim). a.count ≤ s.buffer) same (omega (arith, unit-most s.geometry.areas stripe, is.least_buffer))
aim-small s (Illegal sense) aim is at e = absurd cc
