use Rattle.std.proofs.Common.{rules, arith, ◌≡◌, ◌*◌, ◌∷◌, ◌+◌, ℕ, List, ap, sym, ◌∙◌}
use Rattle.array_journal.specs.declared.entry.Entry.{Entry}
use Rattle.array_journal.specs.declared.event.Event.TheVariants.{Take}
use Rattle.std.proofs.lemmas.Grind.{common_steps}
use Rattle.xor_target.proofs.StoodRows.{rows-stood, some-bytes}
use Rattle.xor_target.proofs.logged_disk.LoggedDisk.xdread.Goals as goal

pub returns-clause-done : goal.returns-clause-done
returns-clause-done g c =
    let disk = c.args.self.now.disk in
    let log = c.args.self.now.log in
    let order = c.args.order.now in
    let act = c.args.act.now in
    let stood = rows-stood disk.contents (act.row * disk.block) (act.count * disk.block) in
    let taken = some-bytes _ _ c.take.ensures.rows in
    let answered : c.from_vec-2.result ≡ c.take.new.into = grind (arith, common_steps) in
    let kept : c.from_vec.result ≡ c.take.new.into = grind (arith, common_steps) in
    let entry : List ℕ → Entry = λ b. record { stamp = act.stamp; lock = log.number + 1; event = Take order.owner order.opened act.cdb act.row b } in
    record {
      old = stood.0;
      stood = stood.1;
      written = search rules;
      answers = answered ∙ sym taken;
      counted = search rules;
      kept = search rules;
      logged = c.append.ensures.past ∙ ap (λ b. entry b ∷ log.past) (kept ∙ sym taken);
      number = search rules;
    }
