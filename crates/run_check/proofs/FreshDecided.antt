-- The test of a fresh disk decides whether it may follow.
use Rattle.std.proofs.Common.{◌≡◌, ℕ, List, Option, Some, None}
use Rattle.std.specs.Bool.{Decides}
use Rattle.std.proofs.lemmas.Bool.{false≢true}
use Rattle.std.proofs.lemmas.Bool.Decides.{Decides-and, Decides-eqb, Decides-ltb, Decides-like}
use Rattle.array_journal.specs.declared.at.At.{At}
use Rattle.array_journal.specs.declared.entry.Entry.{Entry}
use Rattle.array_journal.specs.declared.event.Event.{Event}
use Rattle.array_journal.specs.declared.event.Event.TheVariants.{Swap}
use Rattle.array_journal.specs.Entries.{entry_at, count_before}
use Rattle.array_journal.specs.Lives.{life_of, is_swap_of}
use Rattle.array_journal.specs.May.{MayFresh}
use Rattle.run_check.specs.FreshTest.{is_swap_for, may_freshen}

swap_for-decided : (i call : ℕ) (o : Option Event) → Decides (is_swap_for i call o) (o ≡ Some (Swap i call))
swap_for-decided i call (Some (Swap slot its_call)) =
    Decides-like (is_swap_for i call (Some (Swap slot its_call)))
    (λ p. let a = p.0 in let b = p.1 in cc) (λ e. ((let a : slot ≡ i = cc in a), (let b : its_call ≡ call = cc in b)))
    (Decides-and _ _ (Decides-eqb slot i) (Decides-eqb its_call call))
swap_for-decided i call (Some _) = (λ h. absurd (false≢true h), λ e. cc)
swap_for-decided i call None = (λ h. absurd (false≢true h), λ e. cc)

pub fresh-decided : (past : List Entry) (stamp i call : ℕ) (swap : At) → Decides (may_freshen past stamp i call swap) (MayFresh past stamp i call swap)
fresh-decided past stamp i call swap =
    Decides-like (may_freshen past stamp i call swap)
    (λ p. record { swapped = (p.0.0.0, p.0.0.1); in_book = p.0.1; next_disk = p.1 })
    (λ (m : MayFresh past stamp i call swap). (((m.swapped.0, m.swapped.1), m.in_book), m.next_disk))
    (Decides-and _ _
    (Decides-and _ _ (Decides-and _ _ (swap_for-decided i call (entry_at swap past)) (Decides-ltb swap.stamp stamp)) (Decides-eqb swap.lock 0))
    (Decides-eqb (count_before 0 (is_swap_of i) swap.stamp past) (life_of i past)))
