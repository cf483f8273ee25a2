-- Where parity is there, it and the data of a row together are the outstanding deltas: entry by entry.
use Rattle.std.specs.Prelude.{◌≡◌, ◌⊎◌, ℕ, ◌+◌, List, ◌∷◌}
use Rattle.std.proofs.Common.{refl, inl, inr}
use Rattle.std.proofs.lemmas.Bool.{cases_eq}
use Rattle.blocks_core.specs.Xor.{xor}
use Rattle.stripe_layout.specs.Layout.{parity_of, IsRowOf}
use Rattle.array_journal.specs.declared.entry.Entry.{Entry}
use Rattle.array_journal.specs.declared.setting.Setting.{Setting}
use Rattle.array_journal.specs.Run.{IsSetting, Grows}
use Rattle.array_journal.proofs.runs.Standing.{may-here}
use Rattle.array_journal.proofs.reads.KnownBlocks.{stands}
use Rattle.array_journal.proofs.lives.ThereLaws.{There, Makes, there-step}
use Rattle.array_journal.proofs.windows.WindowViews.{data_sum}
use Rattle.array_journal.proofs.windows.WindowReads.{Kept, owed_sum}
use Rattle.array_journal.proofs.owed.ParitySums.{sum-here, sum-makes}
use Rattle.array_journal.proofs.owed.DataSums.{sum-away}

pub sum-step : (s : Setting) (e : Entry) (past : List Entry) → IsSetting s → Grows s (e ∷ past) → Kept s past → (stripe r : ℕ) → IsRowOf s.geometry stripe r →
    There (parity_of s.geometry stripe) stripe (e ∷ past) →
    xor (stands s (e ∷ past) (parity_of s.geometry stripe) r) (data_sum s (e ∷ past) stripe r) ≡ owed_sum s (e ∷ past) stripe r
sum-step s e past set g kept stripe r at there = by (there-step s (parity_of s.geometry stripe) stripe e past g there)
  where
    p : ℕ
    p = parity_of s.geometry stripe

    by : There (parity_of s.geometry stripe) stripe past ⊎ Makes (parity_of s.geometry stripe) stripe e past →
        xor (stands s (e ∷ past) (parity_of s.geometry stripe) r) (data_sum s (e ∷ past) stripe r) ≡ owed_sum s (e ∷ past) stripe r
    by (inr m) =
        sum-makes s e past stripe r m.command m.task e.event set g kept at refl m.at_target
        (may-here s past e.stamp e.lock (parity_of s.geometry stripe) e.event m.at_target g.0.1.1) m.puts m.its_task m.rebuild
    by (inl old) = elim (cases_eq e.lock (parity_of s.geometry stripe + 1)) [
      | inl here ↦ sum-here s e past stripe r e.event set g kept at refl here (may-here s past e.stamp e.lock (parity_of s.geometry stripe) e.event here g.0.1.1) old
      | inr away ↦ sum-away s e past stripe r e.event set g kept at refl away g.0.1.1 old
    ]
