-- Lists of deltas that parity doesn't have yet: what one more entry leaves of them, and their sum without a command's.
use Rattle.std.specs.Prelude.{◌≡◌, ◌≢◌, ◌==◌, ◌&&◌, ◌||◌, ◌⊎◌, not, ℕ, ◌+◌, ◌-◌, Bool, true, false, List, [], ◌∷◌, length, filter}
use Rattle.std.specs.List.{AllByRecursion}
use Rattle.std.proofs.Common.{refl, ap, sym, ◌∙◌, cond, arith, subst, inl, inr}
use Rattle.std.proofs.lemmas.Bool.{eq-eqb, ne_eqb, eqb-true, cases_eq, cases_Bool, and_from, and_left, and_right, or_parts, or_cases, false≢true, cond-true, cond-false, cond_both}
use Rattle.blocks_core.specs.Xor.{xor, xor_all}
use Rattle.stripe_layout.specs.Layout.{parity_of}
use Rattle.array_journal.specs.declared.entry.Entry.{Entry}
use Rattle.array_journal.specs.declared.event.Event.{Event}
use Rattle.array_journal.specs.declared.event.Event.TheVariants.{Diff}
use Rattle.array_journal.specs.declared.setting.Setting.{Setting}
use Rattle.blocks_core.specs.Lists.{block_at}
use Rattle.array_journal.specs.declared.act.Act.TheVariants.{Folds}
use Rattle.array_journal.specs.Deltas.{Delta, covers, delta_of, has_acted, puts_row, with_delta, outstanding_in}
use Rattle.array_journal.specs.Run.{delta_blocks}
use Rattle.array_journal.proofs.sums.XorSums.{xor-front}

-- some delta of a list is a command's
abbrev pub has_command : ℕ → List Delta → Bool
has_command c [] = false
has_command c (d ∷ ds) = (d.command == c) || has_command c ds

-- the deltas of other commands
abbrev pub without_command : ℕ → List Delta → List Delta
without_command c ds = filter (λ d. not (d.command == c)) ds

-- just one of the deltas is a command's, and this is its block
abbrev pub OwesOnce : ℕ → List ℕ → List Delta → Type 0
OwesOnce c block [] = ⊥
OwesOnce c block (d ∷ ds) = ((d.command ≡ c) × (d.block ≡ block) × (has_command c ds ≡ false)) ⊎ ((d.command ≢ c) × OwesOnce c block ds)

pub without_command-none : (c : ℕ) (ds : List Delta) → has_command c ds ≡ false → without_command c ds ≡ ds
without_command-none c [] h = refl
without_command-none c (d ∷ ds) h =
    let parts : ((d.command == c) ≡ false) × (has_command c ds ≡ false) = or_parts (d.command == c) (has_command c ds) h in
    cond-true (not (d.command == c)) (d ∷ without_command c ds) (without_command c ds) (ap not parts.0)
    ∙ ap (λ (l : List Delta). d ∷ l) (without_command-none c ds parts.1)

-- the sum of all is that of the others with the command's block
pub sum_without : (b c : ℕ) (block : List ℕ) (ds : List Delta) → OwesOnce c block ds →
    xor_all b (delta_blocks ds) ≡ xor block (xor_all b (delta_blocks (without_command c ds)))
sum_without b c block [] p = absurd p
sum_without b c block (d ∷ ds) (inl own) =
    ap (λ x. xor x (xor_all b (delta_blocks ds))) own.1
    ∙ ap (λ (l : List Delta). xor block (xor_all b (delta_blocks l)))
    (sym (cond-false (not (d.command == c)) (d ∷ without_command c ds) (without_command c ds) (ap not (eq-eqb d.command c own.0)) ∙ without_command-none c ds own.2))
sum_without b c block (d ∷ ds) (inr rest) =
    ap (xor d.block) (sum_without b c block ds rest.1)
    ∙ xor-front d.block block (xor_all b (delta_blocks (without_command c ds)))
    ∙ ap (λ (l : List Delta). xor block (xor_all b (delta_blocks l)))
    (sym (cond-true (not (d.command == c)) (d ∷ without_command c ds) (without_command c ds) (ap not (ne_eqb d.command c rest.0))))

-- what holds of each delta holds of each that is kept, and of one that is a command's
pub all-deltas : (P Q : Delta → Type 0) (ds : List Delta) → ((d : Delta) → P d → Q d) → AllByRecursion P ds → AllByRecursion Q ds
all-deltas P Q [] f p = tt
all-deltas P Q (d ∷ ds) f p = (f d p.0, all-deltas P Q ds f p.1)

pub kept-others : (P : Delta → Type 0) (c : ℕ) (ds : List Delta) → AllByRecursion P ds → AllByRecursion (λ (d : Delta). (d.command ≢ c) × P d) (without_command c ds)
kept-others P c [] p = tt
kept-others P c (d ∷ ds) p = elim (cases_eq d.command c) [
  | inl own ↦ rest (cond-false (not (d.command == c)) (d ∷ without_command c ds) (without_command c ds) (ap not (eq-eqb d.command c own))) (kept-others P c ds p.1)
  | inr other ↦ rest (cond-true (not (d.command == c)) (d ∷ without_command c ds) (without_command c ds) (ap not (ne_eqb d.command c other)))
      ((other, p.0), kept-others P c ds p.1)
]
  where
    rest : {l : List Delta} → without_command c (d ∷ ds) ≡ l → AllByRecursion (λ (x : Delta). (x.command ≢ c) × P x) l →
        AllByRecursion (λ (x : Delta). (x.command ≢ c) × P x) (without_command c (d ∷ ds))
    rest q p = subst (AllByRecursion (λ (x : Delta). (x.command ≢ c) × P x)) (sym q) p

pub command-of : (P : Delta → Type 0) (c : ℕ) (ds : List Delta) → AllByRecursion P ds → has_command c ds ≡ true → (d : Delta) × ((d.command ≡ c) × P d)
command-of P c [] p h = absurd (false≢true h)
command-of P c (d ∷ ds) p h = elim (or_cases (d.command == c) (has_command c ds) h) [
  | inl this ↦ (d, (eqb-true d.command c this, p.0))
  | inr others ↦ command-of P c ds p.1 others
]

pub lacks-command : (P : Delta → Type 0) (c : ℕ) (ds : List Delta) → AllByRecursion P ds → ((d : Delta) → d.command ≡ c → P d → ⊥) → has_command c ds ≡ false
lacks-command P c ds p never = elim (cases_Bool (has_command c ds)) [
  | inl owed ↦ absurd (found (command-of P c ds p owed))
  | inr none ↦ none
]
  where
    found : (d : Delta) × ((d.command ≡ c) × P d) → ⊥
    found (d, (own, q)) = never d own q

pub none-left : (P : Delta → Type 0) (ds : List Delta) → ((d : Delta) → P d → ⊥) → AllByRecursion P ds → ds ≡ []
none-left P [] never p = refl
none-left P (d ∷ ds) never p = absurd (never d p.0)

-- two journals in which the same commands folded
with_delta-agrees : (s : Setting) (v w : List Entry) (i : ℕ) (past : List Entry) (r : ℕ) (event : Event) (older : List Delta) →
    ((c : ℕ) → has_acted Folds c v ≡ has_acted Folds c w) → with_delta s v i past r event older ≡ with_delta s w i past r event older
with_delta-agrees s v w i past r (Diff command opened cdb row bytes sent dropped back) older same =
    ap (λ b. cond (covers s.geometry.block row (length bytes) r && not b)
    (record { command = command; block = block_at s.geometry.block (delta_of s i past row bytes) (r - row) } ∷ older) older) (same command)
with_delta-agrees s v w i past r _ older same = refl

pub outstanding_in-agrees : (s : Setting) (v w : List Entry) (stripe r : ℕ) (past : List Entry) →
    ((c : ℕ) → has_acted Folds c v ≡ has_acted Folds c w) → outstanding_in s v stripe r past ≡ outstanding_in s w stripe r past
outstanding_in-agrees s v w stripe r [] same = refl
outstanding_in-agrees s v w stripe r (e ∷ past) same =
    ap (λ (o : List Delta). cond ((e.lock == parity_of s.geometry stripe + 1) && puts_row s r e.event) []
    (cond (e.lock == 0) o (with_delta s v (e.lock - 1) past r e.event o))) (outstanding_in-agrees s v w stripe r past same)
    ∙ ap (λ (o : List Delta). cond ((e.lock == parity_of s.geometry stripe + 1) && puts_row s r e.event) []
    (cond (e.lock == 0) (outstanding_in s w stripe r past) o)) (with_delta-agrees s v w (e.lock - 1) past r e.event (outstanding_in s w stripe r past) same)

-- one journal in which a command folded beside those of another
abbrev pub FoldsBeside : ℕ → List Entry → List Entry → Type 0
FoldsBeside c v w = (d : ℕ) → has_acted Folds d v ≡ cond (c == d) true (has_acted Folds d w)

with_delta-fold : (s : Setting) (c : ℕ) (v w : List Entry) (i : ℕ) (past : List Entry) (r : ℕ) (event : Event) (older : List Delta) → FoldsBeside c v w →
    with_delta s v i past r event (without_command c older) ≡ without_command c (with_delta s w i past r event older)
with_delta-fold s c v w i past r (Diff command opened cdb row bytes sent dropped back) older beside = elim (cases_eq c command) [
  | inl own ↦ cond-false (hit && not (has_acted Folds command v)) (item ∷ without_command c older) (without_command c older)
      (and_right hit (not (has_acted Folds command v)) (ap not (beside command ∙ cond-true (c == command) true (has_acted Folds command w) (eq-eqb c command own))))
      ∙ cond_both (hit && not (has_acted Folds command w)) (item ∷ older) older (λ (l : List Delta). without_command c older ≡ without_command c l)
      (λ h. sym (cond-false (not (command == c)) (item ∷ without_command c older) (without_command c older) (ap not (eq-eqb command c (sym own))))) (λ h. refl)
  | inr other ↦ ap (λ b. cond (hit && not b) (item ∷ without_command c older) (without_command c older))
      (beside command ∙ cond-false (c == command) true (has_acted Folds command w) (ne_eqb c command other))
      ∙ kept (hit && not (has_acted Folds command w)) (λ same. other (sym same))
]
  where
    hit : Bool
    hit = covers s.geometry.block row (length bytes) r

    item : Delta
    item = record { command = command; block = block_at s.geometry.block (delta_of s i past row bytes) (r - row) }

    kept : (b : Bool) → (command ≡ c → ⊥) → cond b (item ∷ without_command c older) (without_command c older) ≡ without_command c (cond b (item ∷ older) older)
    kept true other = sym (cond-true (not (command == c)) (item ∷ without_command c older) (without_command c older) (ap not (ne_eqb command c other)))
    kept false other = refl
with_delta-fold s c v w i past r _ older beside = refl

pub outstanding_in-fold : (s : Setting) (c : ℕ) (v w : List Entry) (stripe r : ℕ) (past : List Entry) → FoldsBeside c v w →
    outstanding_in s v stripe r past ≡ without_command c (outstanding_in s w stripe r past)
outstanding_in-fold s c v w stripe r [] beside = refl
outstanding_in-fold s c v w stripe r (e ∷ past) beside =
    choose ((e.lock == parity_of s.geometry stripe + 1) && puts_row s r e.event) (e.lock == 0) (outstanding_in-fold s c v w stripe r past beside)
  where
    choose : (b z : Bool) → outstanding_in s v stripe r past ≡ without_command c (outstanding_in s w stripe r past) →
        cond b [] (cond z (outstanding_in s v stripe r past) (with_delta s v (e.lock - 1) past r e.event (outstanding_in s v stripe r past)))
        ≡ without_command c (cond b [] (cond z (outstanding_in s w stripe r past) (with_delta s w (e.lock - 1) past r e.event (outstanding_in s w stripe r past))))
    choose true z old = refl
    choose false true old = old
    choose false false old =
        ap (with_delta s v (e.lock - 1) past r e.event) old ∙ with_delta-fold s c v w (e.lock - 1) past r e.event (outstanding_in s w stripe r past) beside

-- an entry that doesn't write the row of parity anew
abbrev pub LeavesRow : Setting → ℕ → ℕ → Entry → Type 0
LeavesRow s stripe r e = e.lock ≡ parity_of s.geometry stripe + 1 → puts_row s r e.event ≡ false

no_put : (s : Setting) (stripe r : ℕ) (e : Entry) → LeavesRow s stripe r e → ((e.lock == parity_of s.geometry stripe + 1) && puts_row s r e.event) ≡ false
no_put s stripe r e none = elim (cases_eq e.lock (parity_of s.geometry stripe + 1)) [
  | inl here ↦ and_right (e.lock == parity_of s.geometry stripe + 1) (puts_row s r e.event) (none here)
  | inr other ↦ and_left (e.lock == parity_of s.geometry stripe + 1) (puts_row s r e.event) (ne_eqb e.lock (parity_of s.geometry stripe + 1) other)
]

-- at a target
pub outstanding_in-here : (s : Setting) (whole : List Entry) (stripe r i : ℕ) (e : Entry) (past : List Entry) → e.lock ≡ i + 1 → LeavesRow s stripe r e →
    outstanding_in s whole stripe r (e ∷ past) ≡ with_delta s whole i past r e.event (outstanding_in s whole stripe r past)
outstanding_in-here s whole stripe r i e past here none =
    cond-false ((e.lock == parity_of s.geometry stripe + 1) && puts_row s r e.event) []
    (cond (e.lock == 0) older (with_delta s whole (e.lock - 1) past r e.event older)) (no_put s stripe r e none)
    ∙ cond-false (e.lock == 0) older (with_delta s whole (e.lock - 1) past r e.event older) (ne_eqb e.lock 0 (λ q. omega arith))
    ∙ ap (λ k. with_delta s whole k past r e.event older) place
  where
    older : List Delta
    older = outstanding_in s whole stripe r past

    place : e.lock - 1 ≡ i
    place = omega arith

-- in the book
pub outstanding_in-book : (s : Setting) (whole : List Entry) (stripe r : ℕ) (e : Entry) (past : List Entry) → e.lock ≡ 0 →
    outstanding_in s whole stripe r (e ∷ past) ≡ outstanding_in s whole stripe r past
outstanding_in-book s whole stripe r e past book =
    cond-false ((e.lock == parity_of s.geometry stripe + 1) && puts_row s r e.event) []
    (cond (e.lock == 0) older (with_delta s whole (e.lock - 1) past r e.event older)) (no_put s stripe r e (λ here. absurd (omega arith)))
    ∙ cond-true (e.lock == 0) older (with_delta s whole (e.lock - 1) past r e.event older) (eq-eqb e.lock 0 book)
  where
    older : List Delta
    older = outstanding_in s whole stripe r past

-- that has no delta on the row
pub outstanding_in-still : (s : Setting) (whole : List Entry) (stripe r : ℕ) (e : Entry) (past : List Entry) → LeavesRow s stripe r e →
    ((i : ℕ) (older : List Delta) → with_delta s whole i past r e.event older ≡ older) →
    outstanding_in s whole stripe r (e ∷ past) ≡ outstanding_in s whole stripe r past
outstanding_in-still s whole stripe r e past none quiet =
    cond-false ((e.lock == parity_of s.geometry stripe + 1) && puts_row s r e.event) []
    (cond (e.lock == 0) older (with_delta s whole (e.lock - 1) past r e.event older)) (no_put s stripe r e none)
    ∙ cond_both (e.lock == 0) older (with_delta s whole (e.lock - 1) past r e.event older) (λ (l : List Delta). l ≡ older) (λ h. refl) (λ h. quiet (e.lock - 1) older)
  where
    older : List Delta
    older = outstanding_in s whole stripe r past

-- one that writes it anew
pub outstanding_in-put : (s : Setting) (whole : List Entry) (stripe r : ℕ) (e : Entry) (past : List Entry) → e.lock ≡ parity_of s.geometry stripe + 1 →
    puts_row s r e.event ≡ true → outstanding_in s whole stripe r (e ∷ past) ≡ []
outstanding_in-put s whole stripe r e past here puts =
    cond-true ((e.lock == parity_of s.geometry stripe + 1) && puts_row s r e.event) []
    (cond (e.lock == 0) (outstanding_in s whole stripe r past) (with_delta s whole (e.lock - 1) past r e.event (outstanding_in s whole stripe r past)))
    (and_from (e.lock == parity_of s.geometry stripe + 1) (puts_row s r e.event) (eq-eqb e.lock (parity_of s.geometry stripe + 1) here) puts)
