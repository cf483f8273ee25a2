-- No row is held twice at a target.
use Rattle.std.specs.Prelude.{◌≡◌, ◌≢◌, ◌==◌, ◌<◌, ◌≤◌, ℕ, ◌+◌, ◌*◌, true, false, List, [], ◌∷◌, length}
use Rattle.std.proofs.Common.{refl, sym, arith, subst, inl, inr}
use Rattle.std.proofs.lemmas.Bool.{eq-eqb, cases_lt, and_left, and_right, or_left, or_right, both_ways}
use Rattle.array_journal.specs.declared.entry.Entry.{Entry}
use Rattle.array_journal.specs.declared.setting.Setting.{Setting}
use Rattle.array_journal.specs.declared.task.Task.{Task}
use Rattle.xor_buffers.specs.declared.held.HeldBlocks.{HeldBlocks}
use Rattle.xor_buffers.specs.Held.{has_owner}
use Rattle.xor_buffers.proofs.HeldLists.{AreDistinct, all-owned}
use Rattle.array_journal.specs.Media.{held}
use Rattle.array_journal.specs.Deltas.{covers}
use Rattle.array_journal.specs.Run.{Grows}
use Rattle.array_journal.specs.Laws.{shares_row, ShareNoRow}
use Rattle.array_journal.proofs.runs.CommandLaws.{named-task}
use Rattle.array_journal.proofs.sums.CoveredRows.{covers-beside}
use Rattle.array_journal.proofs.held.TakersApart.{AreApart, open-takers-apart}
use Rattle.array_journal.proofs.held.HeldOfOpen.{IsHeld, AllHeld, holder-open}
use Rattle.array_journal.proofs.held.Holding.{holding}

-- no row is held twice
pub apart-rows : (block : ℕ) (x y : HeldBlocks) (t u : Task) (r : ℕ) → 1 ≤ block → x.row ≡ t.row → y.row ≡ u.row → length x.bytes ≡ t.count * block →
    length y.bytes ≡ u.count * block → AreApart t u → shares_row block x y r ≡ false
apart-rows block x y t u r b p q l m apart = elim (cases_lt r (x.row + t.count)) [
  | inl below ↦ left below apart
  | inr above ↦ and_left (covers block x.row (length x.bytes) r) (covers block y.row (length y.bytes) r) (covers-beside block x.row (length x.bytes) t.count r b l (inr above))
]
  where
    left : r < x.row + t.count → AreApart t u → shares_row block x y r ≡ false
    left below (inl before) =
        and_right (covers block x.row (length x.bytes) r) (covers block y.row (length y.bytes) r)
        (covers-beside block y.row (length y.bytes) u.count r b m (inl (omega arith)))
    left below (inr after) = elim (cases_lt r x.row) [
      | inl under ↦ and_left (covers block x.row (length x.bytes) r) (covers block y.row (length y.bytes) r)
          (covers-beside block x.row (length x.bytes) t.count r b l (inl under))
      | inr over ↦ and_right (covers block x.row (length x.bytes) r) (covers block y.row (length y.bytes) r)
          (covers-beside block y.row (length y.bytes) u.count r b m (inr (omega arith)))
    ]

two-apart : (s : Setting) (i : ℕ) (past : List Entry) (x y : HeldBlocks) → 1 ≤ s.geometry.block → Grows s past → has_owner x.owner (held s i past) ≡ true →
    has_owner y.owner (held s i past) ≡ true → x.owner ≢ y.owner → IsHeld s i past x → IsHeld s i past y → (r : ℕ) → shares_row s.geometry.block x y r ≡ false
two-apart s i past x y b g ox oy other p q r =
    apart-rows s.geometry.block x y p.task q.task r b p.from_row q.from_row p.whole q.whole
    (open-takers-apart s i x.owner y.owner p.task q.task past g other (holder-open s i past x g ox p) (holder-open s i past y g oy q)
    (named-task s p.opened x.owner p.task past g p.in_book p.opening) (named-task s q.opened y.owner q.task past g q.in_book q.opening) p.takes q.takes)

all-apart : (s : Setting) (i : ℕ) (past : List Entry) (hs : List HeldBlocks) → 1 ≤ s.geometry.block → Grows s past →
    ((c : ℕ) → has_owner c hs ≡ true → has_owner c (held s i past) ≡ true) → AreDistinct hs → AllHeld s i past hs → ShareNoRow s.geometry.block hs
all-apart s i past [] b g within d p = tt
all-apart s i past (x ∷ hs) b g within d p = (
  all-owned (IsHeld s i past) (λ (y : HeldBlocks). (r : ℕ) → shares_row s.geometry.block x y r ≡ false) hs
      (λ y owned q. two-apart s i past x y b g (within x.owner (or_left (x.owner == x.owner) (has_owner x.owner hs) (eq-eqb x.owner x.owner refl)))
      (within y.owner (or_right (x.owner == y.owner) (has_owner y.owner hs) owned))
      (λ same. both_ways (has_owner x.owner hs) d.0 (subst (λ (n : ℕ). has_owner n hs ≡ true) (sym same) owned)) p.0 q) p.1,
  all-apart s i past hs b g (λ c owned. within c (or_right (x.owner == c) (has_owner c hs) owned)) d.1 p.1,
)

pub held-apart : (s : Setting) (i : ℕ) (past : List Entry) → 1 ≤ s.geometry.block → Grows s past → ShareNoRow s.geometry.block (held s i past)
held-apart s i past b g =
    all-apart s i past (held s i past) b g (λ c owned. owned) (holding s i past b g).distinct (holding s i past b g).each
