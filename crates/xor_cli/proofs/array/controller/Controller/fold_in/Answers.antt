use Rattle.std.proofs.Common.{ℕ, List, ◌∷◌, length, ap, sym, subst, ◌∙◌, arith}
use Rattle.std.proofs.lemmas.List.{length-map}
use Rattle.blocks_core.specs.Xor.{xor}
use Rattle.array_journal.specs.declared.entry.Entry.{Entry}
use Rattle.blocks_core.specs.Lists.{slice, put}
use Rattle.xor_cli.specs.Arrays.{array_of}
use Rattle.xor_cli.specs.Disks.{Disk, with_fold}
use Rattle.array_journal.specs.OneJournal.{journal_of, AreKept}
use Rattle.xor_cli.proofs.Appends.{entries_in, disk_in, lists-same, disk-done, same-array}
use Rattle.xor_cli.proofs.array.controller.Controller.fold_in.Goals as goal

pub returns-clause-kept : goal.returns-clause-kept
returns-clause-kept c =
    let Kept : List (List Entry) → Type 0 = λ lists. AreKept c.args.self.now.stamp (c.args.self.now.book.entries ∷ lists) in
    subst Kept (sym (lists-same c.args.self.now.targets.items c.args.target c.index_mut.result.now c.xpwrite.new.self c.index_mut.ensures.value (ap entries_in c.xpwrite.ensures)))
    c.requires.kept

pub returns-clause-array : goal.returns-clause-array
returns-clause-array c =
    let done : Disk → Disk = λ d. record { medium = put d.medium c.byte_of-at.result (xor (slice d.medium c.byte_of-at.result (length c.args.bytes.now)) c.args.bytes.now); held = d.held } in
    let lists = lists-same c.args.self.now.targets.items c.args.target c.index_mut.result.now c.xpwrite.new.self c.index_mut.ensures.value (ap entries_in c.xpwrite.ensures) in
    same-array (array_of c.args.self.now) _ _ _ _ (ap (λ (lists : List (List Entry)). journal_of (c.args.self.now.book.entries ∷ lists)) lists)
    (disk-done c.args.self.now.targets.items c.args.target c.index_mut.result.now c.xpwrite.new.self c.index_mut.ensures.value done (omega (arith, c.requires.on_disk.0, length-map c.args.self.now.targets.items disk_in)) (ap disk_in c.xpwrite.ensures)
    ∙ ap (λ (at : ℕ). with_fold (array_of c.args.self.now).disks c.args.target at c.args.bytes.now) c.byte_of-at.ensures)
