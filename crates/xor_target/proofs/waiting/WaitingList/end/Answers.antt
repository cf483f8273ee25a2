use Rattle.std.proofs.Common.{rules, ◌≡◌, ◌==◌, not, sym, ap, ◌∙◌, get_or, filter}
use Rattle.std.specs.List.{position}
use Rattle.std.proofs.lemmas.Fn.{filter_same}
use Rattle.xor_target.specs.declared.waiting.Waiting.{Waiting}
use Rattle.xor_target.specs.declared.waiting.WaitingList.TheInside.{Inside}
use Rattle.xor_target.specs.Waits.{WaitingRoom}
use Rattle.xor_target.proofs.WaitLists.{found-at, found-none, without-first}
use Rattle.xor_target.proofs.waiting.WaitingList.end.Goals as goal
use Rattle.xor_target.proofs.waiting.WaitingList.end.Goals.{in-Some, in-None}

pub returns-clause-first : goal.returns-clause-first
returns-clause-first c =
    let list = c.args.self.now.list in
    let is_own = λ (w : Waiting). w.owner == c.args.owner in
    elim c.match-place_of.branch [
      | in-Some w ↦
          w.ended-is
          ∙ found-at is_own list w.in-Some.place w.remove.result (sym c.place_of.ensures ∙ w.in-Some.is)
          (w.remove.ensures.value ∙ ap (λ (r : WaitingRoom). get_or r.list w.in-Some.place w.remove.result) c.self.view_is)
      | in-None w ↦ w.ended-is ∙ found-none is_own list (sym c.place_of.ensures ∙ w.in-None.is)
    ]

pub returns-clause-rest : goal.returns-clause-rest
returns-clause-rest c =
    let is_own = λ (w : Waiting). w.owner == c.args.owner in
    let is_other = λ (w : Waiting). not (w.owner == c.args.owner) in
    let inside = c.self.inside in
    let view = ap (λ (r : WaitingRoom). filter is_other r.list) c.self.view_is in
    let left : filter is_other c.match-place_of.self-inside.kept.items ≡ filter is_other c.args.self.now.list =
    elim c.match-place_of.branch [
      | in-Some w ↦
          ap (λ (i : Inside). filter is_other i.kept.items) w.self-inside-is ∙ ap (λ ws. filter is_other ws) w.remove.ensures.items
          ∙ without-first is_own is_other inside.kept.items w.in-Some.place w.remove.result (λ x h. ap not h)
          (ap (λ (r : WaitingRoom). position is_own r.list) c.self.view_is ∙ sym c.place_of.ensures ∙ w.in-Some.is)
          ∙ view
      | in-None w ↦ ap (λ (i : Inside). filter is_other i.kept.items) w.self-inside-is ∙ view
    ] in
    filter_same _ is_other _ (λ h b f called. search rules) _ _ c.retain.ensures.filtered ∙ left
