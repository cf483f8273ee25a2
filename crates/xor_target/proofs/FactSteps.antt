-- How what is looked up goes over one more entry of the target's lock.
use Rattle.std.proofs.Common.{suc, ◌≡◌, ◌&&◌, ◌||◌, ◌+◌, ℕ, Bool, cond, List, ◌∷◌, Some, ap, sym}
use Rattle.std.proofs.lemmas.Bool.{eq-eqb}
use Rattle.array_journal.specs.declared.entry.Entry.{Entry}
use Rattle.array_journal.specs.Acts.{changes_medium, shuts_command}
use Rattle.array_journal.specs.May.{discards}
use Rattle.array_journal.specs.Entries.{name_of}
use Rattle.array_journal.specs.Lives.{loss_after, loss_of, life_after, life_of, is_fresh}
use Rattle.array_journal.specs.Media.{drops_after, drops}
use Rattle.xor_target.specs.Facts.{owner_state, owner_after}
use Rattle.xor_target.specs.declared.log.owner_states.OwnerState.{OwnerState}

-- the state with one more entry, if it is of this lock
abbrev with_entry : Bool → Entry → ℕ → OwnerState → OwnerState
with_entry b e c s = record {
  acted = (b && changes_medium c e.event) || s.acted;
  shut = cond (b && shuts_command c e.event) (Some (name_of e)) s.shut;
  discarded = cond (b && discards c e.event) (Some (name_of e)) s.discarded;
}

pub owner-more : (i c : ℕ) (e : Entry) (past : List Entry) → e.lock ≡ i + 1 →
    owner_after (name_of e) c e.event (owner_state i c past) ≡ owner_state i c (e ∷ past)
owner-more i c e past h = ap (λ b. with_entry b e c (owner_state i c past)) (sym (eq-eqb e.lock (i + 1) h))

pub loss-more : (i : ℕ) (e : Entry) (past : List Entry) → e.lock ≡ i + 1 → loss_after (name_of e) e.event (loss_of i past) ≡ loss_of i (e ∷ past)
loss-more i e past h = ap (λ b. cond b (loss_after (name_of e) e.event (loss_of i past)) (loss_of i past)) (sym (eq-eqb e.lock (i + 1) h))

pub life-more : (i : ℕ) (e : Entry) (past : List Entry) → e.lock ≡ i + 1 → life_after e.event (life_of i past) ≡ life_of i (e ∷ past)
life-more i e past h = ap (λ b. cond (b && is_fresh e.event) (suc (life_of i past)) (life_of i past)) (sym (eq-eqb e.lock (i + 1) h))

pub drops-more : (i : ℕ) (e : Entry) (past : List Entry) → e.lock ≡ i + 1 → drops_after e.event (drops i past) ≡ drops i (e ∷ past)
drops-more i e past h = ap (λ b. cond b (drops_after e.event (drops i past)) (drops i past)) (sym (eq-eqb e.lock (i + 1) h))
