-- What is true of every book.
use Rattle.std.specs.Prelude.{List}
use Rattle.array_journal.specs.declared.entry.Entry.{Entry}
use Rattle.array_journal.specs.declared.setting.Setting.{Setting}
use Rattle.array_journal.specs.Run.{IsSetting}
use Rattle.array_book.specs.declared.open_index.OpenIndex.{OpenIndex}
use Rattle.array_book.specs.Ledgers.{AreNumbered, AreInOrder, AreSound}
use Rattle.array_book.specs.OpenIndexes.{KeepsIndex}

pub record IsKept (s : Setting) (past : List Entry) (index : OpenIndex) : Type 0 where
  pub setting : IsSetting s
  pub numbered : AreNumbered past
  pub in_order : AreInOrder past
  pub sound : AreSound s past
  pub indexed : KeepsIndex s past index
