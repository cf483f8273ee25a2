-- Which names are one, as keys of a map.
use Rattle.std.proofs.Common.{◌≡◌, ◌==◌, ◌&&◌, ℕ, refl, ap, sym, ◌∙◌, arith, inl, inr}
use Rattle.std.proofs.lemmas.Bool.{cases_order, eq-eqb, ne_eqb, le-ltb, lt-ltb}
use Rattle.std.specs.Cmp.{tied_then}
use Rattle.std.specs.Ordering.{nat_cmp, is_eq}
use Rattle.array_journal.specs.declared.at.At.{At}
use Rattle.array_journal.specs.declared.entry.Entry.{Entry}
use Rattle.array_journal.specs.Entries.{name_of, same_at}
use Rattle.journal_index.specs.Keys.{pair_cmp}

tied-numbers : (a b : ℕ) → is_eq (nat_cmp a b) ≡ (b == a)
tied-numbers a b = elim (cases_order a b) [
  | inl e ↦ rw (le-ltb a b (omega arith), eq-eqb a b e, eq-eqb b a (sym e)) refl
  | inr (inl l) ↦ rw (lt-ltb a b l, ne_eqb b a (λ e. omega (arith, e, l))) refl
  | inr (inr g) ↦ rw (le-ltb a b (omega arith), ne_eqb a b (λ e. omega (arith, e, g)), ne_eqb b a (λ e. omega (arith, e, g))) refl
]

-- an entry's key is that of a name where the name is the entry's
pub is_named : (e : Entry) (name : At) → is_eq (pair_cmp (e.stamp, e.lock) (name.stamp, name.lock)) ≡ same_at name (name_of e)
is_named e name =
    sym (tied_then (nat_cmp e.stamp name.stamp) (nat_cmp e.lock name.lock))
    ∙ ap (λ t. t && is_eq (nat_cmp e.lock name.lock)) (tied-numbers e.stamp name.stamp)
    ∙ ap (λ t. (name.stamp == e.stamp) && t) (tied-numbers e.lock name.lock)
