use Rattle.std.proofs.Common.{◌≡◌, ◌++◌, rules, sym, ap, ◌∙◌}
use Rattle.target_frames.specs.Frames.{Refused}
use Rattle.target_frames.specs.Splits.{Splits, passed}
use Rattle.target_frames.specs.State.{State, end_of, IsReading, bytes_of}
use Rattle.target_frames.proofs.Feeds.{stays, handed_out, held_back, with_piece}
use Rattle.target_frames.proofs.frames.Frames.feed.Goals as goal

pub returns-in-Some-clause-refused : goal.returns-in-Some-clause-refused
returns-in-Some-clause-refused c byte e stream given f =
    let end : c.args.self.now.end ≡ Refused c.in-Some.byte =
    ap (λ (s : State). s.end) (sym c.self.view_is) ∙ ap (λ r. end_of r c.self.inside.rest.items) c.in-Some.is in
    stays c.args.self.now c.in-Some.byte stream c.args.piece.now given end f

pub returns-in-Ok-clause-items : goal.returns-in-Ok-clause-items
returns-in-Ok-clause-items c =
    let reading : IsReading c.args.self.now = search rules in
    let cut : Splits c.args.self.now.targets (bytes_of c.args.self.now.end ++ c.args.piece.now) c.in-Ok.split = search rules in
    let state : c.pass.new.self ≡ passed (with_piece c.args.self.now c.args.piece.now) c.in-Ok.split = search rules in
    handed_out c.args.self.now c.pass.new.self c.args.piece.now c.in-Ok.split c.pass.result reading cut state c.pass.ensures.items

pub returns-in-Ok-clause-refused : goal.returns-in-Ok-clause-refused
returns-in-Ok-clause-refused c =
    let reading : IsReading c.args.self.now = search rules in
    let cut : Splits c.args.self.now.targets (bytes_of c.args.self.now.end ++ c.args.piece.now) c.in-Ok.split = search rules in
    let state : c.pass.new.self ≡ passed (with_piece c.args.self.now c.args.piece.now) c.in-Ok.split = search rules in
    held_back c.args.self.now c.pass.new.self c.args.piece.now c.in-Ok.split c.pass.result reading cut state (search rules)
