use Rattle.std.proofs.Common.{◌≡◌, ◌*◌, [], ◌∷◌, map, refl, sym, subst}
use Rattle.blocks_core.specs.Xor.{zeros}
use Rattle.stripe_layout.specs.Layout.{rows_of}
use Rattle.xor_cli.specs.declared.array.book.Book.{Book}
use Rattle.xor_cli.specs.Disks.{Lane}
use Rattle.array_journal.specs.OneJournal.{journal_of, AreKept}
use Rattle.xor_cli.specs.Rest.{IsRest}
use Rattle.xor_cli.proofs.Appends.{disk_in, entries_in}
use Rattle.xor_cli.proofs.FirstCalls.{start-rest}
use Rattle.xor_cli.proofs.Starts.{blank-kept, blank-journal, blank-disks}
use Rattle.xor_cli.proofs.array.controller.Controller.start.Goals as goal

pub returns-clause-kept : goal.returns-clause-kept
returns-clause-kept c =
    let Kept : Book → Type 0 = λ b. AreKept 0 (b.entries ∷ map entries_in c.in_ok-targets.targets.items) in
    subst Kept (sym c.new.ensures) (blank-kept c.in_ok-targets.targets.items c.args.setting.geometry.targets _ c.in_ok-targets.ensures refl)

pub returns-clause-empty : goal.returns-clause-empty
returns-clause-empty c =
    let Empty : Book → Type 0 = λ b. journal_of (b.entries ∷ map entries_in c.in_ok-targets.targets.items) ≡ [] in
    subst Empty (sym c.new.ensures) (blank-journal c.in_ok-targets.targets.items c.args.setting.geometry.targets _ c.in_ok-targets.ensures refl)

pub returns-clause-rest : goal.returns-clause-rest
returns-clause-rest c =
    let lanes = c.in_ok-targets.targets.items in
    let lane : Lane = record { disk = record { medium = zeros (rows_of c.args.setting.geometry * c.args.setting.geometry.block); held = [] }; entries = [] } in
    let AtRest : Book → Type 0 = λ b. IsRest c.args.setting b.commands (journal_of (b.entries ∷ map entries_in lanes)) (map disk_in lanes) in
    subst AtRest (sym c.new.ensures)
    (start-rest c.args.setting (map disk_in lanes) (journal_of ([] ∷ map entries_in lanes)) c.requires
    (blank-disks lanes c.args.setting.geometry.targets lane c.in_ok-targets.ensures)
    (blank-journal lanes c.args.setting.geometry.targets lane c.in_ok-targets.ensures refl))
