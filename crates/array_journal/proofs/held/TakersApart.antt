-- Open commands that take at one target have no row in common: of two updates whose rows meet one waits for the other, and a
-- degraded read runs alone on its stripe.
use Rattle.std.specs.Prelude.{◌≡◌, ◌≢◌, ◌==◌, ◌&&◌, ◌<◌, ◌≤◌, ◌⊎◌, nat_lt, nat_le, not, ℕ, ◌+◌, ◌-◌, ◌*◌, Bool, true, false, List, Some}
use Rattle.std.proofs.Common.{refl, ap, sym, ◌∙◌, arith, inl, inr}
use Rattle.std.proofs.lemmas.Bool.{eq-eqb, eqb-true, lt-leb, ltb-false, cases_order, and_from, and_parts, and_cases, and_left, and_right, or_parts, both_ways, false≢true}
use Rattle.std.proofs.lemmas.Nat.{mul-le}
use Rattle.stripe_layout.specs.declared.mode.Mode.{Mode}
use Rattle.stripe_layout.specs.Modes.{takes_delta, target_gathers}
use Rattle.stripe_layout.proofs.ModeLaws.{taken-ungathered}
use Rattle.array_journal.specs.declared.entry.Entry.{Entry}
use Rattle.stripe_layout.proofs.StripeLaws as strips
use Rattle.array_journal.specs.declared.setting.Setting.{Setting}
use Rattle.array_journal.specs.declared.task.Kind.{Kind}
use Rattle.array_journal.specs.declared.task.Kind.TheVariants.{Read, Update, DataOnly, DegradedRead, DegradedWrite, Rebuild, Resync}
use Rattle.array_journal.specs.declared.task.Task.{Task}
use Rattle.array_journal.specs.Commands.{is_open, task_of, is_shared, is_shared_write, rows_meet, tasks_conflict}
use Rattle.array_journal.specs.declared.act.Act.TheVariants.{Takes}
use Rattle.array_journal.specs.Acts.{acts_at, gatherer, has_act}
use Rattle.array_journal.specs.May.{IsTask}
use Rattle.array_journal.specs.Run.{Grows}
use Rattle.array_journal.proofs.windows.WindowLaws.{open-apart}
use Rattle.array_journal.proofs.lives.DoneRebuilds.{task-sound}
use Rattle.array_journal.proofs.calm.ActSteps.{acts-there}

-- which commands take: updates whose delta is held, or degraded reads that a target gathers
abbrev pub TakesBy : Mode → Task → ℕ → Type 0
TakesBy mode task i = ((task.kind ≡ Update) × (takes_delta mode ≡ true) × (i ≡ task.target)) ⊎ ((task.kind ≡ DegradedRead) × (target_gathers mode ≡ true))

-- two runs of rows that don't meet
abbrev pub AreApart : Task → Task → Type 0
AreApart a b = (a.row + a.count ≤ b.row) ⊎ (b.row + b.count ≤ a.row)

takes-kind : (mode : Mode) (kind : Kind) (task : Task) (i : ℕ) → task.kind ≡ kind → acts_at mode Takes kind task i ≡ true → TakesBy mode task i
takes-kind mode Update task i k h =
    let parts : (takes_delta mode ≡ true) × ((i == task.target) ≡ true) = and_parts (takes_delta mode) (i == task.target) h in
    inl (k, parts.0, eqb-true i task.target parts.1)
takes-kind mode DegradedRead task i k h = inr (k, (and_parts (target_gathers mode) (i == gatherer task) h).0)
takes-kind mode Read task i k h = absurd (false≢true h)
takes-kind mode DataOnly task i k h = absurd (false≢true h)
takes-kind mode DegradedWrite task i k h = absurd (false≢true h)
takes-kind mode Rebuild task i k h = absurd (false≢true h)
takes-kind mode Resync task i k h = absurd (false≢true h)

takes-by : (s : Setting) (task : Task) (i : ℕ) → has_act s Takes task i ≡ true → TakesBy s.mode task i
takes-by s task i h = takes-kind s.mode task.kind task i refl (acts-there s Takes task i h)

rows-apart : (a b : Task) → rows_meet a b ≡ false → AreApart a b
rows-apart a b h = elim (and_cases (nat_lt a.row (b.row + b.count)) (nat_lt b.row (a.row + a.count)) h) [
  | inl after ↦ inr (ltb-false a.row (b.row + b.count) after)
  | inr before ↦ inl (ltb-false b.row (a.row + a.count) before)
]

-- the rows of two stripes
stripes-apart : (s : Setting) (a b : Task) → IsTask s a → IsTask s b → a.stripe < b.stripe → a.row + a.count ≤ b.row
stripes-apart s a b p q h = omega (arith, p.to_stripe, q.from_stripe, strips.stripes-apart s.geometry a.stripe b.stripe h q.in_array)

-- two commands that take at one target and don't conflict have no row in common
takers-apart : (s : Setting) (i : ℕ) (a b : Task) → IsTask s a → IsTask s b → TakesBy s.mode a i → TakesBy s.mode b i →
    tasks_conflict a b ≡ false → AreApart a b
takers-apart s i a b p q (inl x) (inl y) h =
    rows-apart a b (last (is_shared_write a.kind) (is_shared_write b.kind) (a.target == b.target) (rows_meet a b)
    (ap is_shared_write x.0) (ap is_shared_write y.0) (eq-eqb a.target b.target (sym x.2 ∙ y.2))
    (or_parts ((a.stripe == b.stripe) && not (is_shared a.kind && is_shared b.kind))
    (is_shared_write a.kind && is_shared_write b.kind && (a.target == b.target) && rows_meet a b) h).1)
  where
    last : (u v w x : Bool) → u ≡ true → v ≡ true → w ≡ true → (u && v && w && x) ≡ false → x ≡ false
    last u v w x e f g h =
        sym (ap (λ z. z && v && w && x) e ∙ ap (λ z. z && w && x) f ∙ ap (λ z. z && x) g) ∙ h
takers-apart s i a b p q (inr x) (inr y) h = elim (cases_order a.stripe b.stripe) [
  | inl same ↦ absurd (both_ways ((a.stripe == b.stripe) && not (is_shared a.kind && is_shared b.kind))
      (or_parts ((a.stripe == b.stripe) && not (is_shared a.kind && is_shared b.kind))
      (is_shared_write a.kind && is_shared_write b.kind && (a.target == b.target) && rows_meet a b) h).0
      (and_from (a.stripe == b.stripe) (not (is_shared a.kind && is_shared b.kind)) (eq-eqb a.stripe b.stripe same)
      (ap (λ (k : Kind). not (is_shared k && is_shared b.kind)) x.0)))
  | inr (inl less) ↦ inl (stripes-apart s a b p q less)
  | inr (inr more) ↦ inr (stripes-apart s b a q p more)
]
takers-apart s i a b p q (inl x) (inr y) h = absurd (both_ways (target_gathers s.mode) (taken-ungathered s.mode x.1) y.1)
takers-apart s i a b p q (inr x) (inl y) h = absurd (both_ways (target_gathers s.mode) (taken-ungathered s.mode y.1) x.1)

apart-other : (a b : Task) → AreApart a b → AreApart b a
apart-other a b (inl x) = inr x
apart-other a b (inr x) = inl x

pub open-takers-apart : (s : Setting) (i c d : ℕ) (t u : Task) (past : List Entry) → Grows s past → c ≢ d → is_open c past ≡ true → is_open d past ≡ true →
    task_of c past ≡ Some t → task_of d past ≡ Some u → has_act s Takes t i ≡ true → has_act s Takes u i ≡ true → AreApart t u
open-takers-apart s i c d t u past g other oc od q r x y = elim (cases_order c d) [
  | inl same ↦ absurd (other same)
  | inr (inl less) ↦ apart-other u t
      (takers-apart s i u t (task-sound s d u past g r) (task-sound s c t past g q) (takes-by s u i y) (takes-by s t i x) (open-apart s c d t u past g less oc od q r))
  | inr (inr more) ↦ takers-apart s i t u (task-sound s c t past g q) (task-sound s d u past g r) (takes-by s t i x) (takes-by s u i y) (open-apart s d c u t past g more od oc r q)
]

-- rows that lie apart aren't contained
pub beside-rows : (block r n row count len size : ℕ) → 1 ≤ block → 1 ≤ count → len ≡ count * block → size ≡ n * block →
    (r + n ≤ row) ⊎ (row + count ≤ r) → (nat_le r row && nat_le ((row - r) * block + len) size) ≡ false
beside-rows block r n row count len size b k l z (inr after) = and_left (nat_le r row) (nat_le ((row - r) * block + len) size) (lt-leb r row (omega arith))
beside-rows block r n row count len size b k l z (inl before) =
    let m : n * block ≤ (row - r) * block = mul-le n block (row - r) block (omega arith) (omega arith) in
    let o : 1 * 1 ≤ count * block = mul-le 1 1 count block k b in
    and_right (nat_le r row) (nat_le ((row - r) * block + len) size) (lt-leb ((row - r) * block + len) size (omega arith))
