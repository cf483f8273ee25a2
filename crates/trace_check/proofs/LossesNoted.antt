-- The losses that are noted, entry by entry.
use Rattle.std.proofs.Common.{◌≡◌, ◌==◌, ◌&&◌, ◌||◌, ℕ, ◌+◌, Bool, true, false, List, ◌∷◌, refl, sym, ap, ◌∙◌, ⊎_elim, arith, inl, inr, Some, cond}
use Rattle.std.specs.Prelude.{Option}
use Rattle.std.specs.BTreeSet.{contains}
use Rattle.std.proofs.lemmas.Bool.{cases_eq, cases_order, eq-eqb, ne_eqb, le-ltb, lt-ltb}
use Rattle.std.specs.Cmp.{tied_then}
use Rattle.std.specs.Ordering.{nat_cmp, is_eq}
use Rattle.array_journal.specs.declared.entry.Entry.{Entry}
use Rattle.journal_index.specs.Keys.{pair_cmp}
use Rattle.stripe_check.specs.Asked.{notes_life}
use Rattle.trace_check.specs.NotedLosses.{is_life_of, KeepsLives}
use Rattle.trace_check.specs.declared.asking.noted_losses.Lives.{Lives}

-- two numbers compare as equal where they are one
tied-numbers : (a b : ℕ) → is_eq (nat_cmp a b) ≡ (a == b)
tied-numbers a b = elim (cases_order a b) [
  | inl e ↦ rw (le-ltb a b (omega arith), eq-eqb a b e) refl
  | inr (inl l) ↦ rw (lt-ltb a b l, ne_eqb a b (λ e. omega (arith, e, l))) refl
  | inr (inr g) ↦ rw (le-ltb a b (omega arith), ne_eqb a b (λ e. omega (arith, e, g))) refl
]

-- and so do keys that are pairs
pub tied-lives : (target other : ℕ) (life : ℕ × ℕ) → is_eq (pair_cmp life (target, other)) ≡ is_life_of target other (Some life)
tied-lives target other (slot, lost) =
    sym (tied_then (nat_cmp slot target) (nat_cmp lost other))
    ∙ ap (λ (t : Bool). t && is_eq (nat_cmp lost other)) (tied-numbers slot target)
    ∙ ap (λ (t : Bool). (slot == target) && t) (tied-numbers lost other)

-- what is kept once one more is
pub life-put : (target other : ℕ) (life : ℕ × ℕ) (before : Bool)
    → cond (is_eq (pair_cmp life (target, other))) true before ≡ (is_life_of target other (Some life) || before)
life-put target other life before = ap (λ (t : Bool). cond t true before) (tied-lives target other life) ∙ either (is_life_of target other (Some life)) before
  where
    either : (a b : Bool) → cond a true b ≡ (a || b)
    either true b = refl
    either false b = refl

-- the slot may stand for the target, where they are one
pub slot-stands : (slot target lock : ℕ) (loss : Bool) → ((slot == target) && ((lock == slot + 1) && loss)) ≡ ((slot == target) && (lock == target + 1) && loss)
slot-stands slot target lock loss = ⊎_elim same apart (cases_eq slot target)
  where
    shuffled : (a b c : Bool) → (a && (b && c)) ≡ ((a && b) && c)
    shuffled true b c = refl
    shuffled false b c = refl

    same : slot ≡ target → ((slot == target) && ((lock == slot + 1) && loss)) ≡ ((slot == target) && (lock == target + 1) && loss)
    same e = ap (λ (n : ℕ). (slot == target) && ((lock == n + 1) && loss)) e ∙ shuffled (slot == target) (lock == target + 1) loss

    apart : (slot ≡ target → ⊥) → ((slot == target) && ((lock == slot + 1) && loss)) ≡ ((slot == target) && (lock == target + 1) && loss)
    apart h = rw (ne_eqb slot target h) refl

-- one more entry
pub lives-more : (whole past : List Entry) (e : Entry) (old new : Lives) (life : Option (ℕ × ℕ))
    → ((target other : ℕ) → is_life_of target other life ≡ ((e.lock == 0) && notes_life whole target other e.event))
    → ((target other : ℕ) → contains pair_cmp new.kept (target, other) ≡ (is_life_of target other life || contains pair_cmp old.kept (target, other)))
    → KeepsLives whole past old → KeepsLives whole (e ∷ past) new
lives-more whole past e old new life is grown keeps =
    λ target other.
    grown target other
    ∙ ap (λ (b : Bool). b || contains pair_cmp old.kept (target, other)) (is target other)
    ∙ ap (λ (b : Bool). ((e.lock == 0) && notes_life whole target other e.event) || b) (keeps target other)
