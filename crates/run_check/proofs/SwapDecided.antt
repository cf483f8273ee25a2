-- The test of a swap decides whether it may follow.
use Rattle.std.proofs.Common.{ℕ, List}
use Rattle.std.specs.Bool.{Decides}
use Rattle.std.proofs.lemmas.Bool.Decides.{Decides-and, Decides-like}
use Rattle.array_journal.specs.declared.entry.Entry.{Entry}
use Rattle.array_journal.specs.declared.setting.Setting.{Setting}
use Rattle.array_journal.specs.Entries.{some_at}
use Rattle.array_journal.specs.Lives.{is_unfitted}
use Rattle.array_journal.specs.May.{MaySwap, opens_at}
use Rattle.run_check.proofs.PlainDecided.{Decides-true, Decides-false}
use Rattle.run_check.specs.SwapTest.{may_swap}

pub swap-decided : (s : Setting) (past : List Entry) (i : ℕ) → Decides (may_swap s past i) (MaySwap s past i)
swap-decided s past i =
    Decides-like (may_swap s past i)
    (λ p. record { known = p.0; idle = p.1 })
    (λ (m : MaySwap s past i). (m.known, m.idle))
    (Decides-and _ _ (Decides-true (is_unfitted i past)) (Decides-false (some_at 0 (opens_at s past i) past)))
