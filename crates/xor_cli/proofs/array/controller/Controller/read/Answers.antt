use Rattle.std.proofs.Common.{List, ◌*◌, ◌++◌, ◌∷◌, [], sym, ap, ◌∙◌, subst}
use Rattle.array_journal.specs.declared.at.At.{At}
use Rattle.xor_cli.specs.Arrays.{Array, array_of}
use Rattle.xor_cli.specs.declared.array.controller.Served.{Served}
use Rattle.xor_cli.specs.Disks.{IsOnDisk}
use Rattle.xor_cli.specs.Rest.{IsServed}
use Rattle.xor_cli.proofs.ServedReads.{read-steps, read-served}
use Rattle.xor_cli.proofs.TaskRanges.{task-fits, rows-on_disk}
use Rattle.xor_cli.proofs.array.controller.Controller.read.Goals as goal

pub fetch-requires-clause-on_disk : goal.fetch-requires-clause-on_disk
fetch-requires-clause-on_disk c =
    let block = (array_of c.args.self.now).setting.geometry.block in
    let on_disk = rows-on_disk (array_of c.args.self.now) c.args.task c.args.task.target c.requires.rest c.requires.task.sound c.requires.task.sound.target in
    let P : Array → Type 0 = λ m. IsOnDisk m.disks c.args.task.target (c.args.task.row * m.setting.geometry.block) (c.args.task.count * m.setting.geometry.block) in
    let Q : Served → Type 0 = λ v. IsOnDisk (array_of c.open.new.self).disks c.args.task.target (v.row * (array_of c.open.new.self).setting.geometry.block) (v.count * (array_of c.open.new.self).setting.geometry.block) in
    subst Q (sym c.in_ok-served.ensures.served) (subst P (sym c.in_ok-served.ensures.entry) on_disk)

pub returns-clause-served : goal.returns-clause-served
returns-clause-served c =
    let steps = read-steps (array_of c.args.self.now) (array_of c.open.new.self) (array_of c.fetch.new.self) (array_of c.close.new.self) c.args.task c.in_ok-served.served c.act_cdb-read.result
    c.in_ok-fetched.fetched c.push.new.self c.in_ok-served.ensures.served c.in_ok-served.ensures.entry c.in_ok-fetched.ensures.entry c.in_ok-fetched.ensures.name
    (c.in_ok-push.ensures.ok ∙ ap (λ (l : List At). l ++ c.in_ok-fetched.fetched ∷ []) c.new-names.ensures) c.in_ok-close.ensures.array in
    let P : Array → Type 0 = λ m. IsServed (array_of c.args.self.now) m c.args.task in
    subst P (sym steps)
    (read-served (array_of c.args.self.now) c.args.task c.act_cdb-read.result c.requires.rest c.requires.task c.requires.kind c.act_cdb-read.ensures)

pub act_cdb-read-requires : goal.act_cdb-read-requires
act_cdb-read-requires c = task-fits (array_of c.args.self.now).setting c.args.task c.requires.rest.setting c.requires.task.sound
