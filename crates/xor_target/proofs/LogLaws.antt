-- The entries of a log, and the log of none.
use Rattle.std.proofs.Common.{◌≡◌, ◌<◌, ◌+◌, ℕ, List, [], ◌∷◌, reverse, sym, subst, arith}
use Rattle.std.specs.List.{AllByRecursion}
use Rattle.std.proofs.lemmas.List.{reverse-append, reverse-reverse}
use Rattle.array_journal.specs.declared.entry.Entry.{Entry}
use Rattle.array_journal.specs.Merge.{Rises}
use Rattle.array_journal.proofs.runs.JoinedParts.{reverse-all}
use Rattle.array_journal.proofs.runs.MergeOrder.{rises-more}
use Rattle.xor_target.specs.Logs.{last_stamp}
use Rattle.xor_target.specs.Facts.{KeepsFacts, StampsFall, IsLog}
use Rattle.xor_target.specs.declared.log.facts.LogFacts.{LogFacts}

pub log-none : (i : ℕ) (f : LogFacts) → i < 255 → KeepsFacts i [] f → IsLog i [] f
log-none i f small keeps = record { number = small; of_lock = tt; falls = tt; short = omega arith; facts = keeps }

below-newest : (past : List Entry) (stamp : ℕ) → StampsFall past → last_stamp past < stamp → AllByRecursion (λ (x : Entry). x.stamp < stamp) past
below-newest [] stamp falls h = tt
below-newest (e ∷ past) stamp falls h = (h, below-newest past stamp falls.1 (omega (arith, falls.0, h)))

-- the entries of a log rise, the oldest first
pub log-rises : (past : List Entry) → StampsFall past → Rises (reverse past)
log-rises [] falls = tt
log-rises (e ∷ past) falls =
    subst Rises (sym (reverse-append (e ∷ []) past))
    (rises-more (reverse past) e (log-rises past falls.1)
    (reverse-all (λ (x : Entry). x.stamp < e.stamp) past (below-newest past e.stamp falls.1 falls.0)))

-- the same of entries as they are kept, the oldest first
pub kept-rise : (entries : List Entry) → StampsFall (reverse entries) → Rises entries
kept-rise entries falls = subst Rises (reverse-reverse entries) (log-rises (reverse entries) falls)

pub kept-lock : (lock number : ℕ) (entries : List Entry) → AllByRecursion (λ (e : Entry). e.lock ≡ lock + 1) (reverse entries) → lock ≡ number →
    AllByRecursion (λ (e : Entry). e.lock ≡ number + 1) entries
kept-lock lock number entries all same =
    subst (λ (n : ℕ). AllByRecursion (λ (e : Entry). e.lock ≡ n + 1) entries) same
    (subst (AllByRecursion (λ (e : Entry). e.lock ≡ lock + 1)) (reverse-reverse entries) (reverse-all (λ (e : Entry). e.lock ≡ lock + 1) (reverse entries) all))
