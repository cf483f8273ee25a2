-- The test of a loss decides whether it may follow.
use Rattle.std.proofs.Common.{ℕ, List}
use Rattle.std.specs.Bool.{Decides}
use Rattle.std.proofs.lemmas.Bool.Decides.{Decides-and, Decides-eqb, Decides-like}
use Rattle.std.proofs.lemmas.Slice.Eq.{bytes_eq-Decides}
use Rattle.array_journal.specs.declared.entry.Entry.{Entry}
use Rattle.array_journal.specs.declared.setting.Setting.{Setting}
use Rattle.array_journal.specs.Lives.{life_of}
use Rattle.array_journal.specs.May.{MayGone}
use Rattle.xor_buffers.specs.Held.{owners_of}
use Rattle.array_journal.specs.Media.{held}
use Rattle.run_check.specs.GoneTest.{may_lose}

pub gone-decided : (s : Setting) (past : List Entry) (i life : ℕ) (commands : List ℕ) → Decides (may_lose past i life commands (held s i past)) (MayGone s past i life commands)
gone-decided s past i life commands =
    Decides-like (may_lose past i life commands (held s i past))
    (λ p. record { says_life = p.0; says_owners = p.1 })
    (λ (m : MayGone s past i life commands). (m.says_life, m.says_owners))
    (Decides-and _ _ (Decides-eqb life (life_of i past)) (bytes_eq-Decides commands (owners_of (held s i past))))
