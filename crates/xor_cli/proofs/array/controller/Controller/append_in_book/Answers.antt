use Rattle.std.proofs.Common.{◌≡◌, ◌+◌, rules, refl}
use Rattle.xor_cli.specs.Arrays.{array_of}
use Rattle.xor_cli.proofs.Appends.{in_book-kept, in_book-journal, named_at, same-array}
use Rattle.xor_cli.proofs.array.controller.Controller.append_in_book.Goals as goal

pub returns-clause-kept : goal.returns-clause-kept
returns-clause-kept c =
    let next : c.in_ok-stamp.stamp ≡ c.args.self.now.stamp + 1 = search rules in
    in_book-kept c.args.self.now.stamp c.in_ok-stamp.stamp c.args.self.now.book.entries c.args.self.now.targets.items c.args.event c.requires.kept next
    c.push.new.self c.in_ok-push.ensures.ok

pub returns-clause-name : goal.returns-clause-name
returns-clause-name c =
    let next : c.in_ok-stamp.stamp ≡ c.args.self.now.stamp + 1 = search rules in
    named_at c.args.self.now.stamp c.in_ok-stamp.stamp c.args.self.now.book.entries c.args.self.now.targets.items c.args.event c.requires.kept next 0

pub returns-clause-entry : goal.returns-clause-entry
returns-clause-entry c =
    let next : c.in_ok-stamp.stamp ≡ c.args.self.now.stamp + 1 = search rules in
    same-array (array_of c.args.self.now) _ _ (array_of c.args.self.now).disks _
    (in_book-journal c.args.self.now.stamp c.in_ok-stamp.stamp c.args.self.now.book.entries c.args.self.now.targets.items c.args.event c.requires.kept next
    c.push.new.self c.in_ok-push.ensures.ok) refl
