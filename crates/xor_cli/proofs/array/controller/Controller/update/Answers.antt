use Rattle.xor_cli.specs.Arrays.{array_of}
use Rattle.xor_cli.proofs.TaskRanges.{task-fits}
use Rattle.xor_cli.proofs.UpdateMade.{diff-on_disk, fold-on_disk, update-made, diff-fits}
use Rattle.xor_cli.proofs.ServedUpdates.{update-served}
use Rattle.xor_cli.proofs.array.controller.Controller.update.Goals as goal

pub diff-requires-clause-on_disk : goal.diff-requires-clause-on_disk
diff-requires-clause-on_disk c =
    diff-on_disk (array_of c.args.self.now) (array_of c.open.new.self) c.args.task c.in_ok-served.served c.in_ok-bytes.bytes c.requires.rest c.requires.task c.requires.kind
    c.in_ok-served.ensures.served c.in_ok-served.ensures.entry c.in_ok-bytes.ensures

pub fold-requires-clause-on_disk : goal.fold-requires-clause-on_disk
fold-requires-clause-on_disk c =
    fold-on_disk (array_of c.args.self.now) (array_of c.open.new.self) (array_of c.diff.new.self) (array_of c.take.new.self) c.args.task c.in_ok-served.served c.act_cdb-diff.result c.act_cdb-take.result
    c.in_ok-bytes.bytes c.in_ok-taken.delta c.in_ok-differed.differed c.in_ok-taken.taken c.requires.rest c.requires.task c.requires.kind
    (record {
      served = c.in_ok-served.ensures.served;
      opening = c.in_ok-served.ensures.entry;
      blocks = c.in_ok-bytes.ensures;
      differed_at = c.in_ok-differed.ensures.name;
      diffed = c.in_ok-differed.ensures.array;
      taken_at = c.in_ok-taken.ensures.name;
      delta_is = c.in_ok-taken.ensures.delta;
      taken_out = c.in_ok-taken.ensures.array;
    })

pub returns-clause-served : goal.returns-clause-served
returns-clause-served c =
    let old = array_of c.args.self.now in
    let task = c.args.task in
    let served = c.in_ok-served.served in
    update-served old (array_of c.close.new.self) task c.act_cdb-diff.result c.act_cdb-take.result c.act_cdb-fold.result (array_of c.open.new.self).journal (array_of c.diff.new.self).journal
    (array_of c.take.new.self).journal (array_of c.fold.new.self).journal c.in_ok-differed.differed c.in_ok-taken.taken c.in_ok-folded.folded c.in_ok-taken.delta
    c.requires.rest c.requires.task c.requires.kind
    (record {
      diffs = c.act_cdb-diff.ensures;
      takes = c.act_cdb-take.ensures;
      folds = c.act_cdb-fold.ensures;
    })
    (update-made old (array_of c.open.new.self) (array_of c.diff.new.self) (array_of c.take.new.self) (array_of c.fold.new.self) (array_of c.close.new.self) task served c.act_cdb-diff.result c.act_cdb-take.result
    c.act_cdb-fold.result c.in_ok-bytes.bytes c.in_ok-taken.delta c.in_ok-differed.differed c.in_ok-taken.taken c.in_ok-folded.folded c.in_ok-names.names
    c.requires.rest c.requires.task c.requires.kind
    (record {
      served = c.in_ok-served.ensures.served;
      opening = c.in_ok-served.ensures.entry;
      blocks = c.in_ok-bytes.ensures;
      differed_at = c.in_ok-differed.ensures.name;
      diffed = c.in_ok-differed.ensures.array;
      taken_at = c.in_ok-taken.ensures.name;
      delta_is = c.in_ok-taken.ensures.delta;
      taken_out = c.in_ok-taken.ensures.array;
    })
    (record {
      folded_at = c.in_ok-folded.ensures.name;
      folded_in = c.in_ok-folded.ensures.array;
      named = c.in_ok-names.ensures;
      closing = c.in_ok-close.ensures.array;
    }))

pub act_cdb-diff-requires : goal.act_cdb-diff-requires
act_cdb-diff-requires c =
    let s = (array_of c.args.self.now).setting in
    diff-fits s c.args.task c.requires.rest.supervised (task-fits s c.args.task c.requires.rest.setting c.requires.task.sound)

pub act_cdb-take-requires : goal.act_cdb-take-requires
act_cdb-take-requires c = task-fits (array_of c.args.self.now).setting c.args.task c.requires.rest.setting c.requires.task.sound

pub act_cdb-fold-requires : goal.act_cdb-fold-requires
act_cdb-fold-requires c = task-fits (array_of c.args.self.now).setting c.args.task c.requires.rest.setting c.requires.task.sound
