-- Where the blocks of a task stand: among the sectors, and on the rows of its stripe.
use Rattle.std.proofs.Common.{◌≡◌, ℕ, ◌+◌, ◌-◌, ◌*◌, ◌<◌, ◌≤◌, ◌⊎◌, inl, inr, cond, ap, sym, ◌∙◌, subst, arith}
use Rattle.std.specs.Prelude.{◌≢◌, nat_lt}
use Rattle.std.proofs.Math.Nat.{add-mul, mul-le-mul_right}
use Rattle.std.proofs.lemmas.Bool.{cases_lt, cases_order, lt-ltb, le-ltb}
use Rattle.stripe_layout.specs.Layout.{parity_of, capacity_of, rows_of, lba_at, IsRowOf}
use Rattle.stripe_layout.proofs.StripeLaws as strips
use Rattle.stripe_layout.proofs.StripeLaws.{one-stripe}
use Rattle.stripe_layout.proofs.PlaceLaws.{lba_at-stands, lba_at-next}
use Rattle.stripe_layout.proofs.PlaceRuns.{same-place}
use Rattle.array_journal.specs.declared.setting.Setting.{Setting}
use Rattle.array_journal.specs.declared.task.Task.{Task}
use Rattle.array_journal.specs.Acts.{task_bytes}
use Rattle.array_journal.specs.Host.{unit_at, task_lba}
use Rattle.array_journal.specs.May.{IsTask}
use Rattle.array_journal.specs.Run.{IsSetting}

-- a place lies before a run of places, or after it
abbrev pub IsBeside : ℕ → ℕ → ℕ → Type 0
IsBeside from count k = (k < from) ⊎ (from + count ≤ k)

-- a choice by a comparison of numbers
pub chosen_below : {A : Type 0} (m n : ℕ) (x y : A) → m < n → cond (nat_lt m n) x y ≡ x
chosen_below m n x y h = ap (λ b. cond b x y) (lt-ltb m n h)

pub chosen_above : {A : Type 0} (m n : ℕ) (x y : A) → n ≤ m → cond (nat_lt m n) x y ≡ y
chosen_above m n x y h = ap (λ b. cond b x y) (le-ltb m n h)

-- the target of a target's unit is that target
pub target_of-unit_at : (p d : ℕ) → d ≢ p → cond (nat_lt (unit_at p d) p) (unit_at p d) (unit_at p d + 1) ≡ d
target_of-unit_at p d other = by_order (cases_order d p)
  where
    by_order : (d ≡ p) ⊎ ((d < p) ⊎ (p < d)) → cond (nat_lt (unit_at p d) p) (unit_at p d) (unit_at p d + 1) ≡ d
    by_order (inl same) = absurd (other same)
    by_order (inr (inl less)) =
        ap (λ x. cond (nat_lt x p) x (x + 1)) (chosen_below d p d (d - 1) less) ∙ chosen_below d p d (d + 1) less
    by_order (inr (inr more)) =
        ap (λ x. cond (nat_lt x p) x (x + 1)) (chosen_above d p d (d - 1) (omega arith))
        ∙ chosen_above (d - 1) p (d - 1) (d - 1 + 1) (omega arith) ∙ omega arith

-- a unit of that target is its unit
pub unit_of_target : (p x d : ℕ) → cond (nat_lt x p) x (x + 1) ≡ d → x ≡ unit_at p d
unit_of_target p x d e = by_order (cases_lt x p)
  where
    by_order : (x < p) ⊎ (p ≤ x) → x ≡ unit_at p d
    by_order (inl less) = let k : x ≡ d = sym (chosen_below x p x (x + 1) less) ∙ e in k ∙ sym (chosen_below d p d (d - 1) (omega arith))
    by_order (inr more) =
        let k : x + 1 ≡ d = sym (chosen_above x p x (x + 1) more) ∙ e in
        let i : x ≡ d - 1 = omega arith in i ∙ sym (chosen_above d p d (d - 1) (omega arith))

-- no data unit stands on the parity target
pub target_of-other : (p x : ℕ) → cond (nat_lt x p) x (x + 1) ≢ p
target_of-other p x e = by_order (cases_lt x p)
  where
    by_order : (x < p) ⊎ (p ≤ x) → ⊥
    by_order (inl less) = let k : x ≡ p = sym (chosen_below x p x (x + 1) less) ∙ e in omega arith
    by_order (inr more) = let k : x + 1 ≡ p = sym (chosen_above x p x (x + 1) more) ∙ e in omega arith

pub unit_at-below : (p d n : ℕ) → d ≢ p → d < n → p < n → unit_at p d < n - 1
unit_at-below p d n other h k = by_order (cases_order d p)
  where
    by_order : (d ≡ p) ⊎ ((d < p) ⊎ (p < d)) → unit_at p d < n - 1
    by_order (inl same) = absurd (other same)
    by_order (inr (inl less)) = subst (λ x. x < n - 1) (sym (chosen_below d p d (d - 1) less)) (omega arith)
    by_order (inr (inr more)) = subst (λ x. x < n - 1) (sym (chosen_above d p d (d - 1) (omega arith))) (omega arith)

pub parity_of-below : (s : Setting) (stripe : ℕ) → IsSetting s → parity_of s.geometry stripe < s.geometry.targets
parity_of-below s stripe set = strips.parity_of-below s.geometry stripe set.array

pub row-below : (s : Setting) (stripe r : ℕ) → IsRowOf s.geometry stripe r → r < rows_of s.geometry
row-below s stripe r at = strips.row-below s.geometry stripe r at

pub lba_at-below : (s : Setting) (stripe unit r : ℕ) → IsSetting s → IsRowOf s.geometry stripe r → unit < s.geometry.targets - 1 →
    lba_at s.geometry stripe unit r < capacity_of s.geometry
lba_at-below s stripe unit r set at k = let stands = lba_at-stands s.geometry stripe unit r set.array k at in stands.below

-- the data unit of a task
abbrev pub task_unit : Task → ℕ
task_unit task = unit_at task.parity task.target

-- which is one of the array's
unit-below : (s : Setting) (task : Task) → IsTask s task → task.target ≢ task.parity → task_unit task < s.geometry.targets - 1
unit-below s task sound other = unit_at-below task.parity task.target s.geometry.targets other sound.target (omega (arith, sound.parity, sound.target))

-- rows of a task are rows of its stripe
pub task_row : (s : Setting) (task : Task) (j : ℕ) → IsTask s task → j < task.count → IsRowOf s.geometry task.stripe (task.row + j)
task_row s task j sound h = record { in_array = sound.in_array; first = omega (arith, sound.from_stripe); last = omega (arith, sound.to_stripe) }

first-row : (s : Setting) (task : Task) → IsTask s task → IsRowOf s.geometry task.stripe task.row
first-row s task sound = record { in_array = sound.in_array; first = sound.from_stripe; last = omega (arith, sound.to_stripe, sound.some_rows) }

-- where the rows of a task of reading or updating are
pub record IsPlaced (s : Setting) (task : Task) : Type 0 where
  pub unit_below : task_unit task < s.geometry.targets - 1
  pub sound : IsTask s task

pub IsPlaced-task : (s : Setting) (task : Task) → IsTask s task → task.target ≢ task.parity → IsPlaced s task
IsPlaced-task s task sound other = record { unit_below = unit-below s task sound other; sound = sound }

-- the blocks of a task stand one after another
pub lba_at-in : (s : Setting) (task : Task) (j : ℕ) → IsPlaced s task → j < task.count →
    lba_at s.geometry task.stripe (task_unit task) (task.row + j) ≡ task_lba s.geometry task + j
lba_at-in s task j placed h =
    lba_at-next s.geometry task.stripe (task_unit task) task.row j (first-row s task placed.sound) (task_row s task j placed.sound h)

-- and are among those of the array
lba-fit : (s : Setting) (task : Task) → IsSetting s → IsTask s task → task.target ≢ task.parity → task_lba s.geometry task + task.count ≤ capacity_of s.geometry
lba-fit s task set sound other =
    let last : lba_at s.geometry task.stripe (task_unit task) (task.row + (task.count - 1)) < capacity_of s.geometry =
    lba_at-below s task.stripe (task_unit task) (task.row + (task.count - 1)) set (task_row s task (task.count - 1) sound (omega (arith, sound.some_rows)))
    (unit-below s task sound other) in
    omega (arith, last, lba_at-in s task (task.count - 1) (IsPlaced-task s task sound other) (omega (arith, sound.some_rows)), sound.some_rows)

-- so are its bytes among those of the sectors
pub lba-fit_bytes : (s : Setting) (task : Task) → IsSetting s → IsTask s task → task.target ≢ task.parity →
    task_lba s.geometry task * s.geometry.block + task_bytes s task ≤ capacity_of s.geometry * s.geometry.block
lba-fit_bytes s task set sound other =
    let part : (task_lba s.geometry task + task.count) * s.geometry.block ≤ capacity_of s.geometry * s.geometry.block =
    mul-le-mul_right s.geometry.block (lba-fit s task set sound other) in
    omega (arith, add-mul (task_lba s.geometry task) task.count s.geometry.block)

-- a row that a task covers is of its stripe
pub covered-stripe : (s : Setting) (task : Task) (stripe r : ℕ) → IsTask s task → IsRowOf s.geometry stripe r →
    task.row ≤ r → r < task.row + task.count → stripe ≡ task.stripe
covered-stripe s task stripe r sound at low high =
    one-stripe s.geometry stripe task.stripe r at
    (record { in_array = sound.in_array; first = omega (arith, sound.from_stripe, low); last = omega (arith, sound.to_stripe, high) })

-- a block is one of the task's, or beside them
beside-or-in : (from count k : ℕ) → ((j : ℕ) → j < count → k ≢ from + j) → IsBeside from count k
beside-or-in from count k none = by_order (cases_lt k from) (cases_lt k (from + count))
  where
    by_order : (k < from) ⊎ (from ≤ k) → (k < from + count) ⊎ (from + count ≤ k) → IsBeside from count k
    by_order (inl before) _ = inl before
    by_order (inr _) (inr after) = inr after
    by_order (inr low) (inl high) = absurd (none (k - from) (omega arith) (omega arith))

-- a block of a data unit is none of a task's, but where unit and row are
pub lba_at-beside : (s : Setting) (task : Task) (stripe unit r : ℕ) → IsSetting s → IsPlaced s task → IsRowOf s.geometry stripe r →
    unit < s.geometry.targets - 1 → ((j : ℕ) → j < task.count → (stripe ≡ task.stripe) → (unit ≡ task_unit task) → r ≡ task.row + j → ⊥) →
    IsBeside (task_lba s.geometry task) task.count (lba_at s.geometry stripe unit r)
lba_at-beside s task stripe unit r set placed at below apart =
    beside-or-in (task_lba s.geometry task) task.count (lba_at s.geometry stripe unit r)
    (λ j h e.
    let one = same-place s.geometry stripe unit r task.stripe (task_unit task) (task.row + j) set.array below placed.unit_below at
    (task_row s task j placed.sound h) (e ∙ sym (lba_at-in s task j placed h)) in
    apart j h one.0 one.1.0 one.1.1)

-- a block of another unit is none of a task's
pub lba_at-other_unit : (s : Setting) (task : Task) (stripe unit r : ℕ) → IsSetting s → IsPlaced s task → IsRowOf s.geometry stripe r →
    unit < s.geometry.targets - 1 → ((stripe ≡ task.stripe) → (unit ≡ task_unit task) → ⊥) →
    IsBeside (task_lba s.geometry task) task.count (lba_at s.geometry stripe unit r)
lba_at-other_unit s task stripe unit r set placed at below other = lba_at-beside s task stripe unit r set placed at below (λ j h same also e. other same also)

-- nor is a block on another row
pub lba_at-other_row : (s : Setting) (task : Task) (stripe unit r : ℕ) → IsSetting s → IsPlaced s task →
    IsRowOf s.geometry stripe r → unit < s.geometry.targets - 1 → IsBeside task.row task.count r →
    IsBeside (task_lba s.geometry task) task.count (lba_at s.geometry stripe unit r)
lba_at-other_row s task stripe unit r set placed at below beside =
    lba_at-beside s task stripe unit r set placed at below (λ j h same also e. none beside j h e)
  where
    none : IsBeside task.row task.count r → (j : ℕ) → j < task.count → r ≡ task.row + j → ⊥
    none (inl before) j h e = omega arith
    none (inr after) j h e = omega arith

-- a row is one of the task's, or beside them
pub data Falls (task : Task) (r : ℕ) : Type 0 where
  Within : (j : ℕ) → j < task.count → r ≡ task.row + j → Falls task r
  Beside : IsBeside task.row task.count r → Falls task r

pub row_falls : (task : Task) (r : ℕ) → Falls task r
row_falls task r = by_order (cases_lt r task.row) (cases_lt r (task.row + task.count))
  where
    by_order : (r < task.row) ⊎ (task.row ≤ r) → (r < task.row + task.count) ⊎ (task.row + task.count ≤ r) → Falls task r
    by_order (inl before) _ = Beside (inl before)
    by_order (inr _) (inr after) = Beside (inr after)
    by_order (inr from) (inl to) = Within (r - task.row) (omega arith) (omega arith)
