use Rattle.std.proofs.Common.{◌≤◌, ℕ, sym, ◌∙◌, subst}
use Rattle.array_control.proofs.Asking.{most-some, piece-there, asked-after, asked-for}
use Rattle.array_control.proofs.array.Array.ask_for.Goals as goal

pub piece_at-requires-clause-some : goal.piece_at-requires-clause-some
piece_at-requires-clause-some g c = subst (λ (n : ℕ). 1 ≤ n) (sym c.requires.array.max_is) (most-some (g.B.Bus.setting c.args.self.now.bus) c.requires.in_range)

pub unreachable-requires : goal.unreachable-requires
unreachable-requires g c =
    piece-there (g.B.Bus.setting c.args.self.now.bus) c.args.self.now.geometry c.args.self.now.mode c.args.self.now.max c.requires.array c.args.run.now.transfer.lba
    c.args.run.now.transfer.count c.args.run.now.piece c.requires.more (sym c.piece_at.ensures ∙ c.in_default.is)

pub want_of-requires : goal.want_of-requires
want_of-requires g c = record {
  from = asked-after (g.B.Bus.setting c.args.self.now.bus) c.args.self.now.geometry c.args.self.now.mode c.args.self.now.max c.args.run.now c.in-Some.piece c.requires.array
      c.requires.in_range c.requires.transfer (sym c.piece_at.ensures ∙ c.in-Some.is);
}

pub returns : goal.returns
returns g c =
    asked-for (g.B.Bus.setting c.args.self.now.bus) c.args.self.now.geometry c.args.self.now.mode c.args.self.now.max c.args.run.now c.in-Some.piece c.in_ok-want.want
    c.requires.array c.requires.in_range c.requires.transfer (sym c.piece_at.ensures ∙ c.in-Some.is) c.in_ok-want.ensures
