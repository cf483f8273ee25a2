-- What a controller has, seen as one: its setting, its count of commands, its disks, and the one journal of all locks.
use Rattle.std.specs.Prelude.{ℕ, List, ◌∷◌, map}
use Rattle.array_journal.specs.declared.entry.Entry.{Entry}
use Rattle.array_journal.specs.declared.setting.Setting.{Setting}
use Rattle.xor_cli.specs.Disks.{Disk, Lane}
use Rattle.array_journal.specs.OneJournal.{journal_of, AreKept}
use Rattle.xor_cli.specs.declared.array.controller.Controller.{Controller}

pub record Array : Type 0 where
  pub setting : Setting
  pub commands : ℕ
  pub journal : List Entry
  pub disks : List Disk

-- the lists of entries: the book's, and each target's
abbrev pub lists_of : Controller → List (List Entry)
lists_of c = c.book.entries ∷ map (λ (t : Lane). t.entries) c.targets.items

abbrev pub array_of : Controller → Array
array_of c = record {
  setting = c.setting;
  commands = c.book.commands;
  journal = journal_of (lists_of c);
  disks = map (λ (t : Lane). t.disk) c.targets.items;
}

abbrev pub IsKept : Controller → Type 0
IsKept c = AreKept c.stamp (lists_of c)
