use Rattle.std.proofs.Common.{◌≡◌, ◌+◌, rules, ap}
use Rattle.xor_cli.specs.Arrays.{array_of}
use Rattle.xor_cli.proofs.Appends.{entries_in, disk_in, at_target-kept, at_target-journal, named_at, same-array, disks-same}
use Rattle.xor_cli.proofs.array.controller.Controller.append_at_target.Goals as goal

pub returns-clause-kept : goal.returns-clause-kept
returns-clause-kept c =
    let next : c.in_ok-stamp.stamp ≡ c.args.self.now.stamp + 1 = search rules in
    at_target-kept c.args.self.now.stamp c.in_ok-stamp.stamp c.args.self.now.book.entries c.args.self.now.targets.items c.args.event c.requires.kept next
    c.args.target c.index_mut.result.now c.keep.new.self c.index_mut.ensures.value c.requires.there (ap entries_in c.in_ok-keep.ensures)

pub returns-clause-name : goal.returns-clause-name
returns-clause-name c =
    let next : c.in_ok-stamp.stamp ≡ c.args.self.now.stamp + 1 = search rules in
    named_at c.args.self.now.stamp c.in_ok-stamp.stamp c.args.self.now.book.entries c.args.self.now.targets.items c.args.event c.requires.kept next
    (c.args.target + 1)

pub returns-clause-entry : goal.returns-clause-entry
returns-clause-entry c =
    let next : c.in_ok-stamp.stamp ≡ c.args.self.now.stamp + 1 = search rules in
    same-array (array_of c.args.self.now) _ _ _ _
    (at_target-journal c.args.self.now.stamp c.in_ok-stamp.stamp c.args.self.now.book.entries c.args.self.now.targets.items c.args.event c.requires.kept next
    c.args.target c.index_mut.result.now c.keep.new.self c.index_mut.ensures.value c.requires.there (ap entries_in c.in_ok-keep.ensures))
    (disks-same c.args.self.now.targets.items c.args.target c.index_mut.result.now c.keep.new.self c.index_mut.ensures.value (ap disk_in c.in_ok-keep.ensures))
