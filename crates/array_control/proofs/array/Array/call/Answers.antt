use Rattle.std.proofs.Common.{◌≤◌, ℕ, List, sym, subst, ◌∙◌}
use Rattle.array_control.specs.Progress.{HasCome}
use Rattle.array_control.proofs.Asking.{most-some, pieces-length}
use Rattle.array_control.proofs.Progress.{new-begins}
use Rattle.array_control.proofs.array.Array.call.Goals as goal

pub piece_count-count-requires-clause-some : goal.piece_count-count-requires-clause-some
piece_count-count-requires-clause-some g c = subst (λ (n : ℕ). 1 ≤ n) (sym c.requires.array.max_is) (most-some (g.B.Bus.setting c.args.self.now.bus) c.requires.in_range)

pub returns-clause-starts : goal.returns-clause-starts
returns-clause-starts g c = λ journal new. record {
  transfer = c.requires.transfer;
  counted =
      c.piece_count-count.ensures.value
      ∙ pieces-length (g.B.Bus.setting c.args.self.now.bus) c.args.self.now.geometry c.args.self.now.mode c.args.self.now.max c.args.transfer.lba c.args.transfer.count c.requires.array;
  at_piece =
      subst (λ (read : List ℕ). HasCome (g.B.Bus.setting c.args.self.now.bus).array.geometry c.args.number c.piece_count-count.result 0 read journal) (sym c.new.ensures)
      (new-begins (g.B.Bus.setting c.args.self.now.bus).array.geometry c.args.number c.piece_count-count.result journal new);
}
