-- What the book decides where no target was disturbed: no unit is missing, so a read fetches and a write updates.
use Rattle.std.specs.Prelude.{◌≡◌, ◌==◌, ◌&&◌, nat_le, not, ℕ, ◌+◌, Bool, true, false, List, [], ◌∷◌, length, filter}
use Rattle.std.proofs.Common.{refl, ap, sym, ◌∙◌, cond, arith, inl, inr}
use Rattle.std.proofs.lemmas.Bool.{lt-leb, and_right, or_parts, cases_Bool, both_ways, false≢true}
use Rattle.stripe_layout.specs.Layout.{parity_of}
use Rattle.array_journal.specs.declared.decision.Decision.{Decision}
use Rattle.array_journal.specs.declared.decision.Decision.TheVariants.{Opens}
use Rattle.array_journal.specs.declared.decision.Want.TheVariants.{Read as WantsRead, Write as WantsWrite}
use Rattle.array_journal.specs.declared.entry.Entry.{Entry}
use Rattle.array_journal.specs.declared.event.Event.{Event}
use Rattle.array_journal.specs.declared.event.Event.TheVariants.{Gone}
use Rattle.array_journal.specs.declared.setting.Setting.{Setting}
use Rattle.array_journal.specs.declared.task.Kind.TheVariants.{Read, Update}
use Rattle.array_journal.specs.Lists.{numbers}
use Rattle.array_journal.specs.Decision.{decision, missing_count}
use Rattle.array_journal.specs.Listed.{is_listed}
use Rattle.array_journal.specs.Lives.{is_gone, is_loss, is_missing, is_unfitted, absent_in, puts_rebuilt}
use Rattle.array_journal.specs.Run.{Grows}
use Rattle.array_journal.proofs.lives.AbsentLaws.{absent-exactly}
use Rattle.array_journal.proofs.lives.LifeLaws.{unfitted-gone}
use Rattle.unit_plans.specs.Follows.{befalls, IsUndisturbed}

-- ---- no disk was lost

-- a loss befalls a target
no-loss : (event : Event) → befalls event ≡ false → is_loss event ≡ false
no-loss (Gone life call commands) h = absurd (false≢true (sym h))
no-loss _ h = refl

-- two tests in turn, neither of which is passed for true
two-tests : (a b x : Bool) → a ≡ false → x ≡ false → cond a true (cond b false x) ≡ false
two-tests true b x h k = h
two-tests false true x h k = refl
two-tests false false x h k = k

none-absent_in : (whole : List Entry) (i stripe : ℕ) (past : List Entry) → IsUndisturbed past → absent_in whole i stripe past ≡ false
none-absent_in whole i stripe [] u = refl
none-absent_in whole i stripe (e ∷ past) u =
    two-tests ((e.lock == i + 1) && is_loss e.event) ((e.lock == i + 1) && puts_rebuilt whole i stripe e.event) (absent_in whole i stripe past)
    (and_right (e.lock == i + 1) (is_loss e.event) (no-loss e.event u.0)) (none-absent_in whole i stripe past u.1)

-- so no unit is missing and no disk is gone
present : (s : Setting) (i stripe : ℕ) (past : List Entry) → Grows s past → IsUndisturbed past → (is_missing i stripe past ≡ false) × (is_gone i past ≡ false)
present s i stripe past g u =
    or_parts (is_missing i stripe past) (is_gone i past) (sym (absent-exactly s i stripe past g) ∙ none-absent_in past i stripe past u)

pub calm-present : (s : Setting) (i stripe : ℕ) (past : List Entry) → Grows s past → IsUndisturbed past → is_missing i stripe past ≡ false
calm-present s i stripe past g u = (present s i stripe past g u).0

pub calm-works : (s : Setting) (i : ℕ) (past : List Entry) → Grows s past → IsUndisturbed past → is_gone i past ≡ false
calm-works s i past g u = (present s i 0 past g u).1

-- a slot with a noted loss and no new disk has no disk that works
pub calm-unfitted : (s : Setting) (i : ℕ) (past : List Entry) → Grows s past → IsUndisturbed past → is_unfitted i past ≡ false
calm-unfitted s i past g u = elim (cases_Bool (is_unfitted i past)) [
  | inl unfitted ↦ absurd (both_ways (is_gone i past) (calm-works s i past g u) (unfitted-gone s i past g unfitted))
  | inr fitted ↦ fitted
]

-- ---- none is missing

-- a filter by a test that nothing passes
filter-none : (test : ℕ → Bool) (xs : List ℕ) → ((x : ℕ) → test x ≡ false) → filter test xs ≡ []
filter-none test [] never = refl
filter-none test (x ∷ xs) never = ap (λ b. cond b (x ∷ filter test xs) (filter test xs)) (never x) ∙ filter-none test xs never

pub calm-count : (s : Setting) (stripe : ℕ) (past : List Entry) → Grows s past → IsUndisturbed past → missing_count s stripe past ≡ 0
calm-count s stripe past g u = ap length (filter-none (λ i. is_missing i stripe past) (numbers 0 s.geometry.targets) (λ i. calm-present s i stripe past g u))

few : (s : Setting) (stripe : ℕ) (past : List Entry) → Grows s past → IsUndisturbed past → nat_le 2 (missing_count s stripe past) ≡ false
few s stripe past g u = lt-leb 2 (missing_count s stripe past) (omega (arith, calm-count s stripe past g u))

-- ---- decisions

-- a read where nothing is missing
reads : (m l two : Bool) (a b c d : Decision) → m ≡ false → two ≡ false → cond (m && l) a (cond two b (cond (not m) c d)) ≡ c
reads m l two a b c d h k = ap (λ x. cond (x && l) a (cond two b (cond (not x) c d))) h ∙ ap (λ x. cond x b c) k

-- and a write
writes : (m l two p : Bool) (a b c d e : Decision) → m ≡ false → two ≡ false → p ≡ false → cond (m && l) a (cond two b (cond m c (cond p d e))) ≡ e
writes m l two p a b c d e h k q =
    ap (λ x. cond (x && l) a (cond two b (cond x c (cond p d e)))) h ∙ ap (λ x. cond x b (cond p d e)) k ∙ ap (λ x. cond x d e) q

pub calm-reads : (s : Setting) (stripe i : ℕ) (past : List Entry) → Grows s past → IsUndisturbed past → decision s WantsRead stripe i past ≡ Opens Read
calm-reads s stripe i past g u =
    reads (is_missing i stripe past) (is_listed stripe past) (nat_le 2 (missing_count s stripe past)) _ _ _ _
    (calm-present s i stripe past g u) (few s stripe past g u)

pub calm-writes : (s : Setting) (stripe i : ℕ) (past : List Entry) → Grows s past → IsUndisturbed past → decision s WantsWrite stripe i past ≡ Opens Update
calm-writes s stripe i past g u =
    writes (is_missing i stripe past) (is_listed stripe past) (nat_le 2 (missing_count s stripe past))
    (is_missing (parity_of s.geometry stripe) stripe past) _ _ _ _ _
    (calm-present s i stripe past g u) (few s stripe past g u) (calm-present s (parity_of s.geometry stripe) stripe past g u)
