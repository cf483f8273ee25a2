use Rattle.std.proofs.Common.{◌≡◌, sym, subst}
use Rattle.std.specs.Prelude.{Ok}
use Rattle.array_journal.specs.Run.{IsSetting}
use Rattle.array_book.specs.Asks.{aim_of}
use Rattle.array_book.specs.Ledgers.{Ledger}
use Rattle.array_book.proofs.Beginnings.{asked-sound, verdict-is}
use Rattle.array_book.proofs.SoundTasks.{aim-small}
use Rattle.array_book.proofs.ledger.Book.verdict.Goals as goal

pub verdict_of-requires : goal.verdict_of-requires
verdict_of-requires c =
    let setting : IsSetting c.args.self.now.setting = subst (λ (l : Ledger). IsSetting l.setting) c.self.view_is c.self.invariant.setting in
    let at : aim_of c.args.self.now.setting.geometry c.args.ask.now.want ≡ Ok c.in-Ok.aim =
    subst (λ (l : Ledger). aim_of l.setting.geometry c.args.ask.now.want ≡ Ok c.in-Ok.aim) c.self.view_is (sym c.in-Ok.ensures) in
    record {
      small = aim-small c.args.self.now.setting c.args.ask.now.want c.in-Ok.aim setting c.requires at;
      sound = asked-sound c.args.self.now c.args.ask.now c.in-Opens.kind c.in-Ok.aim setting c.requires at (sym c.in-Opens.ensures);
    }

pub returns-in-Opens : goal.returns-in-Opens
returns-in-Opens c =
    verdict-is c.args.self.now c.args.ask.now c.in-Opens.kind c.in-Ok.aim c.verdict_of.result
    (subst (λ (l : Ledger). Ok c.in-Ok.aim ≡ aim_of l.setting.geometry c.args.ask.now.want) c.self.view_is c.in-Ok.ensures)
    c.in-Opens.ensures c.verdict_of.ensures
