use Rattle.std.proofs.Common.{List, [], ◌∷◌, ap, sym, subst}
use Rattle.array_journal.specs.declared.entry.Entry.{Entry}
use Rattle.xor_cli.specs.Arrays.{array_of}
use Rattle.xor_cli.specs.Disks.{Disk}
use Rattle.array_journal.specs.OneJournal.{journal_of, AreKept}
use Rattle.xor_cli.proofs.Appends.{entries_in, disk_in, lists-same, disk-done, same-array}
use Rattle.xor_cli.proofs.array.controller.Controller.release.Goals as goal

pub returns-clause-kept : goal.returns-clause-kept
returns-clause-kept c =
    let Kept : List (List Entry) → Type 0 = λ lists. AreKept c.args.self.now.stamp (c.args.self.now.book.entries ∷ lists) in
    subst Kept (sym (lists-same c.args.self.now.targets.items c.args.target c.index_mut.result.now c.xdread.new.self c.index_mut.ensures.value (ap entries_in c.xdread.ensures.released)))
    c.requires.kept

pub returns-clause-array : goal.returns-clause-array
returns-clause-array c =
    let done : Disk → Disk = λ d. record { medium = d.medium; held = [] } in
    let lists = lists-same c.args.self.now.targets.items c.args.target c.index_mut.result.now c.xdread.new.self c.index_mut.ensures.value (ap entries_in c.xdread.ensures.released) in
    same-array (array_of c.args.self.now) _ _ _ _ (ap (λ (lists : List (List Entry)). journal_of (c.args.self.now.book.entries ∷ lists)) lists)
    (disk-done c.args.self.now.targets.items c.args.target c.index_mut.result.now c.xdread.new.self c.index_mut.ensures.value done c.requires.there (ap disk_in c.xdread.ensures.released))
