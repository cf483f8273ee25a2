use Rattle.std.proofs.Common.{rules, ◌*◌}
use Rattle.xor_target.proofs.StoodRows.{rows-stood}
use Rattle.xor_target.proofs.logged_disk.LoggedDisk.write.Goals as goal

pub returns-clause-done : goal.returns-clause-done
returns-clause-done g c =
    let stood = rows-stood c.args.self.now.disk.contents (c.args.act.now.row * c.args.self.now.disk.block) (c.args.act.now.count * c.args.self.now.disk.block) in
    record {
      old = stood.0;
      stood = stood.1;
      written = search rules;
      answers = search rules;
      counted = search rules;
      kept = search rules;
      logged = search rules;
      number = search rules;
    }
