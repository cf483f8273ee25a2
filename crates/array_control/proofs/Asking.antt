-- What is asked of the book about a piece of a call is a sound want, of no more blocks than a command may have.
use Rattle.std.specs.Prelude.{◌≡◌, ◌≢◌, ◌≤◌, ◌<◌, ◌⊎◌, ◌-◌, ◌*◌, ◌==◌, ℕ, zero, suc, Bool, true, false, min, [], length, Some, None, get_or, slice_get}
use Rattle.std.proofs.Common.{refl, ap, sym, ◌∙◌, subst, cond, arith, inl, inr}
use Rattle.std.proofs.lemmas.Bool.{eqb-true}
use Rattle.std.proofs.lemmas.Option.{slice_get_cases}
use Rattle.blocks_core.specs.Lists.{slice}
use Rattle.stripe_layout.specs.declared.geometry.Geometry.{Geometry}
use Rattle.stripe_layout.specs.declared.mode.Mode.{Mode}
use Rattle.stripe_layout.specs.declared.pieces.Piece.{Piece}
use Rattle.stripe_layout.specs.Pieces.{pieces_of}
use Rattle.stripe_layout.proofs.StripeLaws.{some-greatest}
use Rattle.array_journal.specs.declared.decision.Want.{Want}
use Rattle.array_journal.specs.declared.decision.Want.TheVariants.{Read, Write}
use Rattle.array_journal.specs.Run.{IsSetting}
use Rattle.array_book.specs.declared.asks.Want.{Want as BookWant}
use Rattle.array_book.specs.Asks.{IsWant}
use Rattle.host_requests.specs.Forms.{transfer_as, payload_bytes}
use Rattle.host_requests.specs.Requests.{Transfer, bytes_due}
use Rattle.unit_plans.specs.Buses.{BusSetting}
use Rattle.array_control.specs.declared.call_run.CallRun.{CallRun}
use Rattle.array_control.specs.Arrays.{IsArrayOf, IsAskFor, IsMove, IsTransferOf, part_of, want_for}
use Rattle.array_control.specs.Begins.{most_of, pieces_by}
use Rattle.array_control.proofs.PieceWants.{piece-is, piece-within, piece-most, piece-bytes}

pub most-some : (b : BusSetting) → IsSetting b.array → 1 ≤ most_of b
most-some b set = by (b.max_write == 0) refl
  where
    by : (x : Bool) → (b.max_write == 0) ≡ x → 1 ≤ cond x b.array.buffer (min b.array.buffer b.max_write)
    by true is = omega (arith, some-greatest b.array.geometry set.array, set.least_buffer)
    by false is = omega (arith, some-greatest b.array.geometry set.array, set.least_buffer, not-none b.max_write is)
      where
        not-none : (n : ℕ) → (n == 0) ≡ false → 1 ≤ n
        not-none zero h = absurd cc
        not-none (suc n) h = omega arith

pub most-buffer : (b : BusSetting) → most_of b ≤ b.array.buffer
most-buffer b = by (b.max_write == 0)
  where
    by : (x : Bool) → cond x b.array.buffer (min b.array.buffer b.max_write) ≤ b.array.buffer
    by true = omega arith
    by false = omega arith

pub most-write : (b : BusSetting) → b.max_write ≢ 0 → most_of b ≤ b.max_write
most-write b some = by (b.max_write == 0) refl
  where
    by : (x : Bool) → (b.max_write == 0) ≡ x → cond x b.array.buffer (min b.array.buffer b.max_write) ≤ b.max_write
    by true is = absurd (some (eqb-true b.max_write 0 is))
    by false is = omega arith

module _ (b : BusSetting) (t : Transfer) (number : ℕ) (piece : Piece) (set : IsSetting b.array) (is : IsTransferOf b t) (at : slice_get (pieces_by b t) number ≡ Some piece) where
  pub asked-from : t.lba ≤ piece.first
  asked-from = (piece-within b.array (most_of b) t.lba t.count number piece set (most-some b set) (most-buffer b) is.within at).0

  pub asked-most : b.max_write ≢ 0 → piece.count ≤ b.max_write
  asked-most some =
      omega (arith, piece-most b.array (most_of b) t.lba t.count number piece set (most-some b set) (most-buffer b) is.within at, most-write b some)

  pub asked-read : IsWant b.array (want_for Read piece [])
  asked-read = piece-is b.array (most_of b) t.lba t.count number piece set (most-some b set) (most-buffer b) is.within at

  pub asked-write : t.want ≡ Write →
      IsWant b.array (want_for Write piece (slice t.bytes ((piece.first - t.lba) * b.array.geometry.block) (piece.count * b.array.geometry.block)))
  asked-write writes =
      let due : length t.bytes ≡ t.count * b.array.geometry.block = is.due ∙ ap (λ (w : Want). bytes_due b.array.geometry w t.count) writes in (
        piece-is b.array (most_of b) t.lba t.count number piece set (most-some b set) (most-buffer b) is.within at,
        piece-bytes b.array (most_of b) t.lba t.count number piece t.bytes set (most-some b set) (most-buffer b) is.within at due,
      )

  pub asked-sound : IsWant b.array (want_for t.want piece (slice t.bytes ((piece.first - t.lba) * b.array.geometry.block) (piece.count * b.array.geometry.block)))
  asked-sound = by t.want refl is.moves
    where
      by : (want : Want) → t.want ≡ want → IsMove want →
          IsWant b.array (want_for want piece (slice t.bytes ((piece.first - t.lba) * b.array.geometry.block) (piece.count * b.array.geometry.block)))
      by Read wants moves = asked-read
      by Write wants moves = asked-write wants
      by _ wants moves = absurd moves

-- an array's pieces are those of its bus
module _ (b : BusSetting) (geometry : Geometry) (mode : Mode) (max : ℕ) (array : IsArrayOf b geometry mode max) (lba count number : ℕ) where
  pub pieces-same : slice_get (pieces_of geometry max lba count) number ≡ slice_get (pieces_of b.array.geometry (most_of b) lba count) number
  pieces-same =
      ap (λ (g : Geometry). slice_get (pieces_of g max lba count) number) array.geometry_is
      ∙ ap (λ (m : ℕ). slice_get (pieces_of b.array.geometry m lba count) number) array.max_is

  -- a piece below their number is there
  pub piece-there : number < length (pieces_of b.array.geometry (most_of b) lba count) → slice_get (pieces_of geometry max lba count) number ≡ None → ⊥
  piece-there below none = by (slice_get_cases (pieces_of b.array.geometry (most_of b) lba count) number).1
    where
      absent : slice_get (pieces_of b.array.geometry (most_of b) lba count) number ≡ None
      absent = sym pieces-same ∙ none

      by : ((x : Piece) × (number < length (pieces_of b.array.geometry (most_of b) lba count)) × (slice_get (pieces_of b.array.geometry (most_of b) lba count) number ≡ Some x)
          × (get_or (pieces_of b.array.geometry (most_of b) lba count) number x ≡ x))
          ⊎ ((length (pieces_of b.array.geometry (most_of b) lba count) ≤ number) × (slice_get (pieces_of b.array.geometry (most_of b) lba count) number ≡ None)) → ⊥
      by (inl there) = let no : Some there.0 ≡ None = sym there.2 ∙ absent in cc
      by (inr past) = let p = past.0 in omega (arith, below, p)

-- so what is asked of them is sound
pub asked-for : (b : BusSetting) (geometry : Geometry) (mode : Mode) (max : ℕ) (run : CallRun) (piece : Piece) (want : BookWant) → IsArrayOf b geometry mode max →
    IsSetting b.array → IsTransferOf b (transfer_as run.transfer) → slice_get (pieces_of geometry max run.transfer.lba run.transfer.count) run.piece ≡ Some piece →
    want ≡ want_for run.transfer.wanted piece (slice (payload_bytes run.transfer.bytes) ((piece.first - run.transfer.lba) * geometry.block) (piece.count * geometry.block)) →
    IsAskFor b run.number (transfer_as run.transfer) run.piece (record { call = run.number; piece = run.piece; want = want })
asked-for b geometry mode max run piece want array set is at wants =
    let there = sym (pieces-same b geometry mode max array run.transfer.lba run.transfer.count run.piece) ∙ at in
    let t = transfer_as run.transfer in
    let same : want ≡ want_for run.transfer.wanted piece (part_of b.array.geometry t piece) =
    wants ∙ ap (λ (g : Geometry). want_for run.transfer.wanted piece (part_of g t piece)) array.geometry_is in
    record {
      blocks = piece;
      at = there;
      call = refl;
      piece_is = refl;
      want = same;
      sound = subst (IsWant b.array) (sym same) (asked-sound b t run.piece piece set is there);
      most = asked-most b t run.piece piece set is there;
    }

pub asked-after : (b : BusSetting) (geometry : Geometry) (mode : Mode) (max : ℕ) (run : CallRun) (piece : Piece) → IsArrayOf b geometry mode max → IsSetting b.array →
    IsTransferOf b (transfer_as run.transfer) → slice_get (pieces_of geometry max run.transfer.lba run.transfer.count) run.piece ≡ Some piece → run.transfer.lba ≤ piece.first
asked-after b geometry mode max run piece array set is at =
    asked-from b (transfer_as run.transfer) run.piece piece set is (sym (pieces-same b geometry mode max array run.transfer.lba run.transfer.count run.piece) ∙ at)

-- and as many
pub pieces-length : (b : BusSetting) (geometry : Geometry) (mode : Mode) (max lba count : ℕ) → IsArrayOf b geometry mode max →
    length (pieces_of geometry max lba count) ≡ length (pieces_of b.array.geometry (most_of b) lba count)
pieces-length b geometry mode max lba count array =
    ap (λ (g : Geometry). length (pieces_of g max lba count)) array.geometry_is ∙ ap (λ (m : ℕ). length (pieces_of b.array.geometry m lba count)) array.max_is
