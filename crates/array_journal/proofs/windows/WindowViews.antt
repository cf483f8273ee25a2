-- What is read of a stripe while a command that runs alone is open on it: of a data unit the blocks as hosts know them,
-- of parity their exclusive-or. Both stand still but for the command's own write.
use Rattle.std.specs.Prelude.{◌≡◌, ◌≢◌, ◌==◌, ◌&&◌, ◌<◌, ◌≤◌, ◌⊎◌, not, map, filter, ℕ, zero, suc, ◌+◌, ◌-◌, ◌*◌, Bool, true, false, List, [], ◌∷◌, length}
use Rattle.std.proofs.Common.{refl, ap, sym, ◌∙◌, cond, arith, subst, inl, inr}
use Rattle.std.proofs.lemmas.Bool.{eq-eqb, ne_eqb, eqb-false, cases_eq, and_parts, not-true, cond-true, cond-false}
use Rattle.std.proofs.lemmas.List.{length-replicate}
use Rattle.blocks_core.specs.Xor.{xor, zeros, xor_all}
use Rattle.blocks_core.proofs.XorLaws.{xor-undone, length-xor, xor-zeros_l}
use Rattle.stripe_layout.specs.Layout.{parity_of, lba_at, target_of_unit, IsRowOf}
use Rattle.array_journal.specs.declared.at.At.{At}
use Rattle.array_journal.specs.declared.entry.Entry.{Entry}
use Rattle.array_journal.specs.declared.event.Event.{Event}
use Rattle.array_journal.specs.declared.setting.Setting.{Setting}
use Rattle.array_journal.specs.declared.task.Task.{Task}
use Rattle.blocks_core.specs.Lists.{block_at}
use Rattle.array_journal.specs.Lists.{numbers}
use Rattle.array_journal.specs.Entries.{entry_at}
use Rattle.array_journal.specs.Commands.{task_of}
use Rattle.array_journal.specs.May.{NamesAt, passes, bytes_named}
use Rattle.array_journal.specs.Run.{IsSetting, Grows, sectors}
use Rattle.array_journal.specs.Laws.{RunsAlone}
pub use Rattle.array_journal.specs.Known.{data_sum, view}
use Rattle.array_journal.proofs.runs.CommandLaws.{one_task}
use Rattle.array_journal.proofs.windows.WindowLaws.{exclusive-alone}
use Rattle.blocks_core.proofs.BlockLists.{block_at-xor, block_at-zeros}
use Rattle.array_journal.proofs.sums.LayoutLaws.{unit_of_target, parity_of-below}
use Rattle.array_journal.proofs.sums.XorSums.{same_blocks}
use Rattle.array_journal.proofs.sums.TargetSums.{sum_where, but, sum-blocks, sum-tests, sum-apart, units-others}
use Rattle.array_journal.proofs.reads.KnownBlocks.{known_in, known, Tells, SectorStep, tells_none, tells_write, sector-step, length-known, known-beside}

-- a target of a stripe that isn't its parity target
abbrev pub is_data : Setting → ℕ → ℕ → Bool
is_data s stripe i = not (i == parity_of s.geometry stripe)

pub view-data : (s : Setting) (past : List Entry) (stripe i r : ℕ) → i ≢ parity_of s.geometry stripe → view s past stripe i r ≡ known s past stripe i r
view-data s past stripe i r other = cond-false (i == parity_of s.geometry stripe) _ _ (ne_eqb i (parity_of s.geometry stripe) other)

pub view-parity : (s : Setting) (past : List Entry) (stripe i r : ℕ) → i ≡ parity_of s.geometry stripe → view s past stripe i r ≡ data_sum s past stripe r
view-parity s past stripe i r same = cond-true (i == parity_of s.geometry stripe) _ _ (eq-eqb i (parity_of s.geometry stripe) same)

-- the data of a row, target by target
pub data-by_targets : (s : Setting) (l : List ℕ) (stripe r : ℕ) → IsSetting s →
    xor_all s.geometry.block (map (λ unit. block_at s.geometry.block l (lba_at s.geometry stripe unit r)) (numbers 0 (s.geometry.targets - 1)))
    ≡ sum_where s.geometry.block (is_data s stripe) (λ i. known_in s l stripe i r) 0 s.geometry.targets
data-by_targets s l stripe r set =
    ap (xor_all s.geometry.block) (same_blocks (λ x. known_in s l stripe (target_of_unit s.geometry stripe x) r)
    (λ x. block_at s.geometry.block l (lba_at s.geometry stripe x r)) (s.geometry.targets - 1) 0
    (λ x low high. ap (λ (u : ℕ). block_at s.geometry.block l (lba_at s.geometry stripe u r))
    (unit_of_target (parity_of s.geometry stripe) x (target_of_unit s.geometry stripe x) refl)))
    ∙ ap (xor_all s.geometry.block)
    (sym (units-others (λ i. known_in s l stripe i r) (parity_of s.geometry stripe) (s.geometry.targets - 1) 0 (omega arith) (omega (arith, parity_of-below s stripe set))))
    ∙ ap (λ (n : ℕ). sum_where s.geometry.block (is_data s stripe) (λ i. known_in s l stripe i r) 0 n) whole
  where
    whole : suc (s.geometry.targets - 1) ≡ s.geometry.targets
    whole = omega (arith, set.array.least_targets)

-- the length of a sum of whole blocks
length-sum : (b : ℕ) (test : ℕ → Bool) (f : ℕ → List ℕ) (m first : ℕ) → ((x : ℕ) → first ≤ x → x < first + m → test x ≡ true → length (f x) ≡ b) →
    length (sum_where b test f first m) ≡ b
length-sum b test f zero first sizes = length-replicate b 0
length-sum b test f (suc m) first sizes = choose (test first) refl (length-sum b test f m (suc first) (λ x low high t. sizes x (omega arith) (omega arith) t))
  where
    rest : List ℕ
    rest = filter test (numbers (suc first) m)

    choose : (y : Bool) → test first ≡ y → length (xor_all b (map f rest)) ≡ b → length (xor_all b (map f (cond y (first ∷ rest) rest))) ≡ b
    choose true q e =
        let size : length (f first) ≡ b = sizes first (omega arith) (omega arith) q in
        length-xor (f first) (xor_all b (map f rest)) (size ∙ sym e) ∙ size
    choose false q e = e

pub is-data : (s : Setting) (stripe i : ℕ) → is_data s stripe i ≡ true → i ≢ parity_of s.geometry stripe
is-data s stripe i h = eqb-false i (parity_of s.geometry stripe) (not-true (i == parity_of s.geometry stripe) h)

pub length-data_sum : (s : Setting) (past : List Entry) (stripe r : ℕ) → IsSetting s → Grows s past → IsRowOf s.geometry stripe r →
    length (data_sum s past stripe r) ≡ s.geometry.block
length-data_sum s past stripe r set g at =
    ap length (data-by_targets s (sectors s.geometry past) stripe r set)
    ∙ length-sum s.geometry.block (is_data s stripe) (λ i. known s past stripe i r) s.geometry.targets 0
    (λ x low high t. length-known s past stripe x r set g at (omega arith) (is-data s stripe x t))

-- the other targets of a stripe, parity among them, give a data unit
pub others-known : (s : Setting) (past : List Entry) (stripe d r : ℕ) → IsSetting s → Grows s past → IsRowOf s.geometry stripe r → d < s.geometry.targets →
    d ≢ parity_of s.geometry stripe →
    sum_where s.geometry.block (λ i. not (i == d)) (λ i. view s past stripe i r) 0 s.geometry.targets ≡ known s past stripe d r
others-known s past stripe d r set g at below other =
    sum-apart s.geometry.block (λ i. not (i == d)) (λ i. view s past stripe i r) p s.geometry.targets 0 (omega arith) (omega (arith, parity_of-below s stripe set))
    (ap not (ne_eqb p d (λ e. other (sym e))))
    ∙ ap (λ (x : List ℕ). xor x (sum_where s.geometry.block (but (λ i. not (i == d)) p) (λ i. view s past stripe i r) 0 s.geometry.targets))
    (view-parity s past stripe p r refl ∙ data-by_targets s (sectors s.geometry past) stripe r set
    ∙ sum-apart s.geometry.block (is_data s stripe) (λ i. known s past stripe i r) d s.geometry.targets 0 (omega arith) (omega arith) (ap not (ne_eqb d p other)))
    ∙ ap (xor (xor (known s past stripe d r) rest))
    (sum-tests s.geometry.block (but (λ i. not (i == d)) p) (but (is_data s stripe) d) (λ i. view s past stripe i r) s.geometry.targets 0
    (λ x low high. and_comm (not (x == d)) (not (x == p)))
    ∙ sum-blocks s.geometry.block (but (is_data s stripe) d) (λ i. view s past stripe i r) (λ i. known s past stripe i r) s.geometry.targets 0
    (λ x low high t. view-data s past stripe x r (is-data s stripe x (and_parts (is_data s stripe x) (not (x == d)) t).0)))
    ∙ xor-undone (known s past stripe d r) rest (length-known s past stripe d r set g at below other ∙ sym size)
  where
    p : ℕ
    p = parity_of s.geometry stripe

    rest : List ℕ
    rest = sum_where s.geometry.block (but (is_data s stripe) d) (λ i. known s past stripe i r) 0 s.geometry.targets

    and_comm : (x y : Bool) → (x && y) ≡ (y && x)
    and_comm true true = refl
    and_comm true false = refl
    and_comm false true = refl
    and_comm false false = refl

    size : length rest ≡ s.geometry.block
    size = length-sum s.geometry.block (but (is_data s stripe) d) (λ i. known s past stripe i r) s.geometry.targets 0
        (λ x low high t. length-known s past stripe x r set g at (omega arith) (is-data s stripe x (and_parts (is_data s stripe x) (not (x == d)) t).0))

-- the data targets together are the sum
pub data-views : (s : Setting) (past : List Entry) (stripe r : ℕ) → IsSetting s →
    sum_where s.geometry.block (is_data s stripe) (λ i. view s past stripe i r) 0 s.geometry.targets ≡ data_sum s past stripe r
data-views s past stripe r set =
    sum-blocks s.geometry.block (is_data s stripe) (λ i. view s past stripe i r) (λ i. known s past stripe i r) s.geometry.targets 0
    (λ x low high t. view-data s past stripe x r (is-data s stripe x t))
    ∙ sym (data-by_targets s (sectors s.geometry past) stripe r set)

-- what the hosts know of a stripe stands still in a window, but for the window's own write
pub known-still : (s : Setting) (c i r : ℕ) (task : Task) (e : Entry) (past : List Entry) → IsSetting s → Grows s (e ∷ past) → RunsAlone c task past →
    IsRowOf s.geometry task.stripe r → i < s.geometry.targets → i ≢ parity_of s.geometry task.stripe → (Tells task e.lock c e.event → i ≢ task.target) →
    known s (e ∷ past) task.stripe i r ≡ known s past task.stripe i r
known-still s c i r task e past set g alone at below other own = by (sector-step s past e.stamp e.lock e.event g.1 g.0.1.1)
  where
    by : SectorStep s past e.lock e.event → known s (e ∷ past) task.stripe i r ≡ known s past task.stripe i r
    by (tells_none same) = ap (λ (l : List ℕ). known_in s l task.stripe i r) same
    by (tells_write d write w) = known-beside s past d write e.lock e.event task.stripe i r set g.1 w at below other (apart (cases_eq d c))
      where
        its_own : d ≡ c → write ≡ task
        its_own same = one_task write task (sym w.its_task ∙ ap (λ (n : ℕ). task_of n past) same ∙ alone.its_task)

        tells : d ≡ c → Tells task e.lock c e.event
        tells same = subst (λ (x : Task). Tells x e.lock c e.event) (its_own same) (subst (λ (n : ℕ). Tells write e.lock n e.event) same w.how)

        apart : ((d ≡ c) ⊎ (d ≡ c → ⊥)) → task.stripe ≡ write.stripe → i ≡ write.target → (j : ℕ) → j < write.count → r ≡ write.row + j → ⊥
        apart (inl same) stripe target j h k = own (tells same) (target ∙ ap (λ (x : Task). x.target) (its_own same))
        apart (inr differs) stripe target j h k =
            exclusive-alone s c d task write past g.1 alone.opened alone.its_task alone.alone w.opened w.its_task differs (sym stripe)

-- and so does the sum, where the window has no write
sum-still : (s : Setting) (c r : ℕ) (task : Task) (e : Entry) (past : List Entry) → IsSetting s → Grows s (e ∷ past) → RunsAlone c task past →
    IsRowOf s.geometry task.stripe r → (Tells task e.lock c e.event → ⊥) → data_sum s (e ∷ past) task.stripe r ≡ data_sum s past task.stripe r
sum-still s c r task e past set g alone at none =
    data-by_targets s (sectors s.geometry (e ∷ past)) task.stripe r set
    ∙ sum-blocks s.geometry.block (is_data s task.stripe) (λ i. known s (e ∷ past) task.stripe i r) (λ i. known s past task.stripe i r) s.geometry.targets 0
    (λ x low high t. known-still s c x r task e past set g alone at (omega arith) (is-data s task.stripe x t) (λ w. absurd (none w)))
    ∙ sym (data-by_targets s (sectors s.geometry past) task.stripe r set)

pub view-still : (s : Setting) (c i r : ℕ) (task : Task) (e : Entry) (past : List Entry) → IsSetting s → Grows s (e ∷ past) → RunsAlone c task past →
    IsRowOf s.geometry task.stripe r → i < s.geometry.targets →
    (Tells task e.lock c e.event → (i ≢ task.target) × (i ≢ parity_of s.geometry task.stripe)) →
    view s (e ∷ past) task.stripe i r ≡ view s past task.stripe i r
view-still s c i r task e past set g alone at below own = elim (cases_eq i (parity_of s.geometry task.stripe)) [
  | inl parity ↦ view-parity s (e ∷ past) task.stripe i r parity ∙ sum-still s c r task e past set g alone at (λ w. (own w).1 parity)
      ∙ sym (view-parity s past task.stripe i r parity)
  | inr other ↦ view-data s (e ∷ past) task.stripe i r other ∙ known-still s c i r task e past set g alone at below other (λ w. (own w).0)
      ∙ sym (view-data s past task.stripe i r other)
]

-- a block of the exclusive-or of what some names read
pub named-blocks : (past : List Entry) (stamp b count j : ℕ) (test : Event → Bool) (f : ℕ → List ℕ) (targets : List ℕ) (names : List At) → j < count →
    NamesAt past stamp targets test names →
    ((i : ℕ) (name : At) → name.lock ≡ i + 1 → passes test (entry_at name past) ≡ true → block_at b (bytes_named past name) j ≡ f i) →
    block_at b (xor_all (count * b) (map (bytes_named past) names)) j ≡ xor_all b (map f targets)
named-blocks past stamp b count j test f [] [] h n says = block_at-zeros b count j h
named-blocks past stamp b count j test f [] (name ∷ names) h n says = absurd n
named-blocks past stamp b count j test f (i ∷ targets) [] h n says = absurd n
named-blocks past stamp b count j test f (i ∷ targets) (name ∷ names) h n says =
    block_at-xor b (bytes_named past name) (xor_all (count * b) (map (bytes_named past) names)) j
    ∙ ap (λ (x : List ℕ). xor x (block_at b (xor_all (count * b) (map (bytes_named past) names)) j)) (says i name n.0.0 n.0.1.0)
    ∙ ap (xor (f i)) (named-blocks past stamp b count j test f targets names h n.1 says)

-- two blocks that cancel out are one
pub cancelled-same : (b : ℕ) (x y : List ℕ) → length x ≡ b → length y ≡ b → xor x y ≡ zeros b → x ≡ y
cancelled-same b x y h k e = sym (xor-undone x y (h ∙ sym k)) ∙ ap (λ (z : List ℕ). xor z y) e ∙ xor-zeros_l b y k
