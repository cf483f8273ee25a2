-- The facts by which the book decides how a piece is served.
use Rattle.std.specs.Prelude.{◌==◌, ℕ, List}
use Rattle.stripe_layout.specs.Layout.{parity_of}
use Rattle.array_journal.specs.declared.entry.Entry.{Entry}
use Rattle.array_journal.specs.declared.setting.Setting.{Setting}
use Rattle.array_journal.specs.Decision.{missing_count}
use Rattle.array_journal.specs.Listed.{is_listed}
use Rattle.array_journal.specs.Lives.{is_missing, is_unfitted}
use Rattle.array_book.specs.declared.decision.Facts.{Facts}

-- the facts about target i of a stripe, after some entries
abbrev pub facts_of : Setting → ℕ → ℕ → List Entry → Facts
facts_of s stripe i past = record {
  missing = is_missing i stripe past;
  listed = is_listed stripe past;
  missing_count = missing_count s stripe past;
  parity_missing = is_missing (parity_of s.geometry stripe) stripe past;
  unfitted = is_unfitted i past;
  at_parity = i == parity_of s.geometry stripe;
}
