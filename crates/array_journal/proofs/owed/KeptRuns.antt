-- After each entry of a run data and parity are kept: the steps together.
use Rattle.std.specs.Prelude.{◌≡◌, ◌≢◌, ◌<◌, nat_lt, ℕ, ◌+◌, ◌-◌, List, [], ◌∷◌, reverse, take}
use Rattle.std.proofs.Common.{refl, ap, sym, ◌∙◌, arith}
use Rattle.std.proofs.lemmas.Bool.{cond_both, false≢true}
use Rattle.blocks_core.specs.Xor.{xor, zeros}
use Rattle.blocks_core.proofs.XorLaws.{zeros-zeros}
use Rattle.stripe_layout.specs.Layout.{parity_of, capacity_of, rows_of, lba_at, target_of_unit, IsRowOf}
use Rattle.array_journal.specs.declared.entry.Entry.{Entry}
use Rattle.array_journal.specs.declared.setting.Setting.{Setting}
use Rattle.blocks_core.specs.Lists.{block_at}
use Rattle.blocks_core.proofs.BlockLists.{block_at-zeros}
use Rattle.array_journal.specs.Host.{unit_at}
use Rattle.array_journal.specs.Run.{IsSetting, Grows, Conserved, sectors}
use Rattle.array_journal.specs.Laws.{ConservedLaw}
use Rattle.array_journal.proofs.runs.BeginningLaws.{beginning-run}
use Rattle.array_journal.proofs.sums.LayoutLaws.{unit_of_target, target_of-other, unit_at-below, parity_of-below, row-below, lba_at-below}
use Rattle.array_journal.proofs.sums.XorSums.{xor_all-zeros}
use Rattle.array_journal.proofs.owed.OwedLaws.{owed-open}
use Rattle.array_journal.proofs.reads.KnownBlocks.{known, stands}
use Rattle.array_journal.proofs.lives.ThereLaws.{is_present}
use Rattle.array_journal.proofs.windows.WindowViews.{data_sum}
use Rattle.array_journal.proofs.windows.WindowReads.{Kept}
use Rattle.array_journal.proofs.windows.WindowSteps.{fetched-step, gathered-step}
use Rattle.array_journal.proofs.reads.DataLaw.{data-step}
use Rattle.array_journal.proofs.owed.SumLaw.{sum-step}

-- at first all is zeros
zeros-stand : (s : Setting) (stripe i r : ℕ) → IsRowOf s.geometry stripe r → stands s [] i r ≡ zeros s.geometry.block
zeros-stand s stripe i r at = block_at-zeros s.geometry.block (rows_of s.geometry) r (row-below s stripe r at)

zeros-known : (s : Setting) (stripe i r : ℕ) → IsSetting s → IsRowOf s.geometry stripe r → i < s.geometry.targets → i ≢ parity_of s.geometry stripe →
    known s [] stripe i r ≡ zeros s.geometry.block
zeros-known s stripe i r set at below other =
    block_at-zeros s.geometry.block (capacity_of s.geometry) (lba_at s.geometry stripe (unit_at (parity_of s.geometry stripe) i) r)
    (lba_at-below s stripe (unit_at (parity_of s.geometry stripe) i) r set at
    (unit_at-below (parity_of s.geometry stripe) i s.geometry.targets other below (parity_of-below s stripe set)))

zeros-sum : (s : Setting) (stripe r : ℕ) → IsSetting s → IsRowOf s.geometry stripe r → data_sum s [] stripe r ≡ zeros s.geometry.block
zeros-sum s stripe r set at =
    xor_all-zeros s.geometry.block (λ unit. block_at s.geometry.block (sectors s.geometry []) (lba_at s.geometry stripe unit r)) (s.geometry.targets - 1) 0
    (λ x low high. block_at-zeros s.geometry.block (capacity_of s.geometry) (lba_at s.geometry stripe x r) (lba_at-below s stripe x r set at (omega arith)))

pub kept-run : (s : Setting) (past : List Entry) → IsSetting s → Grows s past → Kept s past
kept-run s [] set g = record {
  data_there = λ stripe i r at below other there. zeros-stand s stripe i r at ∙ sym (zeros-known s stripe i r set at below other);
  summed = λ stripe r at there.
      ap (λ (x : List ℕ). xor x (data_sum s [] stripe r)) (zeros-stand s stripe (parity_of s.geometry stripe) r at)
      ∙ ap (xor (zeros s.geometry.block)) (zeros-sum s stripe r set at) ∙ zeros-zeros s.geometry.block;
  fetched = λ c i j task name alone lock says h. absurd (false≢true says);
  gathered = λ c i j task name alone lock says h. absurd (false≢true says);
}
kept-run s (e ∷ past) set g = next (kept-run s past set g.1)
  where
    next : Kept s past → Kept s (e ∷ past)
    next kept = record {
      data_there = data-step s e past set g kept;
      summed = sum-step s e past set g kept;
      fetched = fetched-step s e past set g kept;
      gathered = gathered-step s e past set g kept;
    }

-- a data unit's target
unit-below : (s : Setting) (stripe unit : ℕ) → unit < s.geometry.targets - 1 → target_of_unit s.geometry stripe unit < s.geometry.targets
unit-below s stripe unit h =
    cond_both (nat_lt unit (parity_of s.geometry stripe)) unit (unit + 1) (λ (n : ℕ). n < s.geometry.targets) (λ e. omega arith) (λ e. omega arith)

-- nothing is lost
pub conserved-run : (s : Setting) (past : List Entry) → IsSetting s → Grows s past → Conserved s past
conserved-run s past set g = by (kept-run s past set g)
  where
    by : Kept s past → Conserved s past
    by kept = record {
      balanced = λ stripe row at trusted. record {
        sum = kept.summed stripe row at (is_present trusted.1);
        owned = owed-open s stripe row past set g at trusted;
      };
      data_stands = λ stripe unit row at below present.
          kept.data_there stripe (target_of_unit s.geometry stripe unit) row at (unit-below s stripe unit below) (target_of-other (parity_of s.geometry stripe) unit)
          (is_present present)
          ∙ ap (λ (u : ℕ). block_at s.geometry.block (sectors s.geometry past) (lba_at s.geometry stripe u row))
          (sym (unit_of_target (parity_of s.geometry stripe) unit (target_of_unit s.geometry stripe unit) refl));
    }

pub conserved_law : ConservedLaw
conserved_law s journal set run n = conserved-run s (reverse (take n journal)) set (beginning-run s journal n run)
