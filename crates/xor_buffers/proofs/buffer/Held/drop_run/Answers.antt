use Rattle.std.proofs.Common.{◌≡◌, ◌*◌, ◌<◌, ◌+◌, ◌-◌, ◌++◌, List, take, drop, refl, sym, ap, ◌∙◌, subst, length, arith}
use Rattle.xor_buffers.specs.declared.buffer.table.Run.{Run}
use Rattle.xor_buffers.specs.Held.{held_blocks}
use Rattle.xor_buffers.specs.Slots.{Slotted, released}
use Rattle.xor_buffers.specs.Runs.{AreBetween, runs_of, blocks_in, IsRun, IsTable}
use Rattle.xor_buffers.specs.Holding.{Holding}
use Rattle.std.specs.Vec.{vec_capacity}
use Rattle.xor_buffers.proofs.HeldViews.{bytes_inside, holding}
use Rattle.xor_buffers.proofs.RunLaws.{held_blocks-runs}
use Rattle.xor_buffers.proofs.Cuts.{IsCut, is_cut}
use Rattle.xor_buffers.proofs.Wiping.{between-dropped, length-runs_of, take-runs_of, run-at, own-place, rest-none, front-bytes, list-dropped, table-dropped}
use Rattle.xor_buffers.proofs.buffer.Held.drop_run.Goals as goal

pub index-run-requires : goal.index-run-requires
index-run-requires c =
    let len : length c.self.inside.runs.items ≡ length c.args.self.now.list =
    sym (length-runs_of c.self.inside.slots.block c.self.inside.slots.bytes c.self.inside.runs.items) ∙ ap (λ (h : Holding). length h.list) c.self.view_is in
    omega (arith, c.self.inside.runs.ok.0, len, c.requires.inside)

pub release-requires-clause-within : goal.release-requires-clause-within
release-requires-clause-within c =
    let len : length c.self.inside.runs.items ≡ length c.args.self.now.list =
    sym (length-runs_of c.self.inside.slots.block c.self.inside.slots.bytes c.self.inside.runs.items) ∙ ap (λ (h : Holding). length h.list) c.self.view_is in
    let inside : c.args.index < length c.self.inside.runs.items = omega (arith, len, c.requires.inside) in
    let run : IsRun c.index-run.result.now = run-at c.self.inside.runs.items c.args.index c.index-run.result.now c.self.invariant.0.sound inside c.index-run.ensures in
    let behind : c.args.at ≡ blocks_in (take c.args.index c.self.inside.runs.items) =
    c.requires.at
    ∙ sym (ap (λ (h : Holding). held_blocks h.block (take c.args.index h.list)) c.self.view_is)
    ∙ ap (held_blocks c.self.inside.slots.block) (take-runs_of c.self.inside.slots.block c.self.inside.slots.bytes c.args.index c.self.inside.runs.items)
    ∙ held_blocks-runs c.self.inside.slots.block c.self.inside.slots.bytes (take c.args.index c.self.inside.runs.items) c.self.invariant.0.some_block
    (front-bytes c.self.inside.slots.block c.args.index c.self.inside.slots.bytes c.self.inside.runs.items (bytes_inside c.self.inside.slots.block c.self.inside.slots.count c.self.inside.capacity c.self.inside.used (vec_capacity c.self.inside.runs) c.self.inside.slots.bytes c.self.inside.runs.items c.self.invariant.0)) in
    let k : IsCut c.self.inside.used (vec_capacity c.self.inside.runs) c.index-run.result.now.row c.index-run.result.now.count c.args.index c.args.at c.self.inside.runs.items c.index-run.result.now =
    is_cut c.self.inside.slots.block c.self.inside.slots.count c.self.inside.capacity c.self.inside.used (vec_capacity c.self.inside.runs) c.index-run.result.now.row c.index-run.result.now.count c.args.index c.args.at c.self.inside.slots.bytes c.self.inside.runs.items c.index-run.result.now c.self.invariant.0
    (own-place c.self.inside.runs.items c.args.index c.args.at c.index-run.result.now inside c.index-run.ensures behind) run.filled c.index-run.ensures in
    omega (arith, k.inside)

pub cut-requires-clause-inside : goal.cut-requires-clause-inside
cut-requires-clause-inside c =
    let len : length c.self.inside.runs.items ≡ length c.args.self.now.list =
    sym (length-runs_of c.self.inside.slots.block c.self.inside.slots.bytes c.self.inside.runs.items) ∙ ap (λ (h : Holding). length h.list) c.self.view_is in
    let inside : c.args.index < length c.self.inside.runs.items = omega (arith, len, c.requires.inside) in
    inside

pub cut-requires-clause-fits : goal.cut-requires-clause-fits
cut-requires-clause-fits c =
    let len : length c.self.inside.runs.items ≡ length c.args.self.now.list =
    sym (length-runs_of c.self.inside.slots.block c.self.inside.slots.bytes c.self.inside.runs.items) ∙ ap (λ (h : Holding). length h.list) c.self.view_is in
    let inside : c.args.index < length c.self.inside.runs.items = omega (arith, len, c.requires.inside) in
    let run : IsRun c.index-run.result.now = run-at c.self.inside.runs.items c.args.index c.index-run.result.now c.self.invariant.0.sound inside c.index-run.ensures in
    let behind : c.args.at ≡ blocks_in (take c.args.index c.self.inside.runs.items) =
    c.requires.at
    ∙ sym (ap (λ (h : Holding). held_blocks h.block (take c.args.index h.list)) c.self.view_is)
    ∙ ap (held_blocks c.self.inside.slots.block) (take-runs_of c.self.inside.slots.block c.self.inside.slots.bytes c.args.index c.self.inside.runs.items)
    ∙ held_blocks-runs c.self.inside.slots.block c.self.inside.slots.bytes (take c.args.index c.self.inside.runs.items) c.self.invariant.0.some_block
    (front-bytes c.self.inside.slots.block c.args.index c.self.inside.slots.bytes c.self.inside.runs.items (bytes_inside c.self.inside.slots.block c.self.inside.slots.count c.self.inside.capacity c.self.inside.used (vec_capacity c.self.inside.runs) c.self.inside.slots.bytes c.self.inside.runs.items c.self.invariant.0)) in
    let k : IsCut c.self.inside.used (vec_capacity c.self.inside.runs) c.index-run.result.now.row c.index-run.result.now.count c.args.index c.args.at c.self.inside.runs.items c.index-run.result.now =
    is_cut c.self.inside.slots.block c.self.inside.slots.count c.self.inside.capacity c.self.inside.used (vec_capacity c.self.inside.runs) c.index-run.result.now.row c.index-run.result.now.count c.args.index c.args.at c.self.inside.slots.bytes c.self.inside.runs.items c.index-run.result.now c.self.invariant.0
    (own-place c.self.inside.runs.items c.args.index c.args.at c.index-run.result.now inside c.index-run.ensures behind) run.filled c.index-run.ensures in
    run.fits

pub cut-requires-clause-room : goal.cut-requires-clause-room
cut-requires-clause-room c =
    let len : length c.self.inside.runs.items ≡ length c.args.self.now.list =
    sym (length-runs_of c.self.inside.slots.block c.self.inside.slots.bytes c.self.inside.runs.items) ∙ ap (λ (h : Holding). length h.list) c.self.view_is in
    let inside : c.args.index < length c.self.inside.runs.items = omega (arith, len, c.requires.inside) in
    let run : IsRun c.index-run.result.now = run-at c.self.inside.runs.items c.args.index c.index-run.result.now c.self.invariant.0.sound inside c.index-run.ensures in
    let behind : c.args.at ≡ blocks_in (take c.args.index c.self.inside.runs.items) =
    c.requires.at
    ∙ sym (ap (λ (h : Holding). held_blocks h.block (take c.args.index h.list)) c.self.view_is)
    ∙ ap (held_blocks c.self.inside.slots.block) (take-runs_of c.self.inside.slots.block c.self.inside.slots.bytes c.args.index c.self.inside.runs.items)
    ∙ held_blocks-runs c.self.inside.slots.block c.self.inside.slots.bytes (take c.args.index c.self.inside.runs.items) c.self.invariant.0.some_block
    (front-bytes c.self.inside.slots.block c.args.index c.self.inside.slots.bytes c.self.inside.runs.items (bytes_inside c.self.inside.slots.block c.self.inside.slots.count c.self.inside.capacity c.self.inside.used (vec_capacity c.self.inside.runs) c.self.inside.slots.bytes c.self.inside.runs.items c.self.invariant.0)) in
    let k : IsCut c.self.inside.used (vec_capacity c.self.inside.runs) c.index-run.result.now.row c.index-run.result.now.count c.args.index c.args.at c.self.inside.runs.items c.index-run.result.now =
    is_cut c.self.inside.slots.block c.self.inside.slots.count c.self.inside.capacity c.self.inside.used (vec_capacity c.self.inside.runs) c.index-run.result.now.row c.index-run.result.now.count c.args.index c.args.at c.self.inside.slots.bytes c.self.inside.runs.items c.index-run.result.now c.self.invariant.0
    (own-place c.self.inside.runs.items c.args.index c.args.at c.index-run.result.now inside c.index-run.ensures behind) run.filled c.index-run.ensures in
    k.few

pub overflow_sub-self : goal.overflow_sub-self
overflow_sub-self c =
    let len : length c.self.inside.runs.items ≡ length c.args.self.now.list =
    sym (length-runs_of c.self.inside.slots.block c.self.inside.slots.bytes c.self.inside.runs.items) ∙ ap (λ (h : Holding). length h.list) c.self.view_is in
    let inside : c.args.index < length c.self.inside.runs.items = omega (arith, len, c.requires.inside) in
    let run : IsRun c.index-run.result.now = run-at c.self.inside.runs.items c.args.index c.index-run.result.now c.self.invariant.0.sound inside c.index-run.ensures in
    let behind : c.args.at ≡ blocks_in (take c.args.index c.self.inside.runs.items) =
    c.requires.at
    ∙ sym (ap (λ (h : Holding). held_blocks h.block (take c.args.index h.list)) c.self.view_is)
    ∙ ap (held_blocks c.self.inside.slots.block) (take-runs_of c.self.inside.slots.block c.self.inside.slots.bytes c.args.index c.self.inside.runs.items)
    ∙ held_blocks-runs c.self.inside.slots.block c.self.inside.slots.bytes (take c.args.index c.self.inside.runs.items) c.self.invariant.0.some_block
    (front-bytes c.self.inside.slots.block c.args.index c.self.inside.slots.bytes c.self.inside.runs.items (bytes_inside c.self.inside.slots.block c.self.inside.slots.count c.self.inside.capacity c.self.inside.used (vec_capacity c.self.inside.runs) c.self.inside.slots.bytes c.self.inside.runs.items c.self.invariant.0)) in
    let k : IsCut c.self.inside.used (vec_capacity c.self.inside.runs) c.index-run.result.now.row c.index-run.result.now.count c.args.index c.args.at c.self.inside.runs.items c.index-run.result.now =
    is_cut c.self.inside.slots.block c.self.inside.slots.count c.self.inside.capacity c.self.inside.used (vec_capacity c.self.inside.runs) c.index-run.result.now.row c.index-run.result.now.count c.args.index c.args.at c.self.inside.slots.bytes c.self.inside.runs.items c.index-run.result.now c.self.invariant.0
    (own-place c.self.inside.runs.items c.args.index c.args.at c.index-run.result.now inside c.index-run.ensures behind) run.filled c.index-run.ensures in
    omega (arith, k.inside)

pub invariant_of-self : goal.invariant_of-self
invariant_of-self c =
    let len : length c.self.inside.runs.items ≡ length c.args.self.now.list =
    sym (length-runs_of c.self.inside.slots.block c.self.inside.slots.bytes c.self.inside.runs.items) ∙ ap (λ (h : Holding). length h.list) c.self.view_is in
    let inside : c.args.index < length c.self.inside.runs.items = omega (arith, len, c.requires.inside) in
    let run : IsRun c.index-run.result.now = run-at c.self.inside.runs.items c.args.index c.index-run.result.now c.self.invariant.0.sound inside c.index-run.ensures in
    let behind : c.args.at ≡ blocks_in (take c.args.index c.self.inside.runs.items) =
    c.requires.at
    ∙ sym (ap (λ (h : Holding). held_blocks h.block (take c.args.index h.list)) c.self.view_is)
    ∙ ap (held_blocks c.self.inside.slots.block) (take-runs_of c.self.inside.slots.block c.self.inside.slots.bytes c.args.index c.self.inside.runs.items)
    ∙ held_blocks-runs c.self.inside.slots.block c.self.inside.slots.bytes (take c.args.index c.self.inside.runs.items) c.self.invariant.0.some_block
    (front-bytes c.self.inside.slots.block c.args.index c.self.inside.slots.bytes c.self.inside.runs.items (bytes_inside c.self.inside.slots.block c.self.inside.slots.count c.self.inside.capacity c.self.inside.used (vec_capacity c.self.inside.runs) c.self.inside.slots.bytes c.self.inside.runs.items c.self.invariant.0)) in
    let k : IsCut c.self.inside.used (vec_capacity c.self.inside.runs) c.index-run.result.now.row c.index-run.result.now.count c.args.index c.args.at c.self.inside.runs.items c.index-run.result.now =
    is_cut c.self.inside.slots.block c.self.inside.slots.count c.self.inside.capacity c.self.inside.used (vec_capacity c.self.inside.runs) c.index-run.result.now.row c.index-run.result.now.count c.args.index c.args.at c.self.inside.slots.bytes c.self.inside.runs.items c.index-run.result.now c.self.invariant.0
    (own-place c.self.inside.runs.items c.args.index c.args.at c.index-run.result.now inside c.index-run.ensures behind) run.filled c.index-run.ensures in
    let items : c.cut.new.runs.items ≡ take c.args.index c.self.inside.runs.items ++ drop (c.args.index + 1) c.self.inside.runs.items =
    c.cut.ensures.items ∙ ap (λ (l : List Run). take c.args.index c.self.inside.runs.items ++ (l ++ drop (c.args.index + 1) c.self.inside.runs.items)) (rest-none 0 c.index-run.result.now refl) in (
      subst (λ (s : Slotted). IsTable s.block s.count s.bytes c.self.inside.capacity (c.self.inside.used - c.index-run.result.now.count) (vec_capacity c.cut.new.runs) c.cut.new.runs.items) (sym c.release.ensures)
          (subst (λ (l : List Run). IsTable c.self.inside.slots.block c.self.inside.slots.count (released (c.args.at * c.self.inside.slots.block) (c.index-run.result.now.count * c.self.inside.slots.block) (c.self.inside.used * c.self.inside.slots.block) c.self.inside.slots.bytes) c.self.inside.capacity (c.self.inside.used - c.index-run.result.now.count) (vec_capacity c.cut.new.runs) l) (sym items)
          (table-dropped c.self.inside.slots.block c.self.inside.slots.count c.self.inside.capacity c.self.inside.used (vec_capacity c.self.inside.runs) (vec_capacity c.cut.new.runs) c.args.index c.args.at c.self.inside.slots.bytes c.self.inside.runs.items c.index-run.result.now c.self.invariant.0 k c.cut.ensures.table)),
      subst (AreBetween c.self.inside.first c.self.inside.end) (sym items) (between-dropped c.self.inside.first c.self.inside.end c.args.index c.self.inside.runs.items c.self.invariant.1),
    )

pub returns : goal.returns
returns c =
    let len : length c.self.inside.runs.items ≡ length c.args.self.now.list =
    sym (length-runs_of c.self.inside.slots.block c.self.inside.slots.bytes c.self.inside.runs.items) ∙ ap (λ (h : Holding). length h.list) c.self.view_is in
    let inside : c.args.index < length c.self.inside.runs.items = omega (arith, len, c.requires.inside) in
    let run : IsRun c.index-run.result.now = run-at c.self.inside.runs.items c.args.index c.index-run.result.now c.self.invariant.0.sound inside c.index-run.ensures in
    let behind : c.args.at ≡ blocks_in (take c.args.index c.self.inside.runs.items) =
    c.requires.at
    ∙ sym (ap (λ (h : Holding). held_blocks h.block (take c.args.index h.list)) c.self.view_is)
    ∙ ap (held_blocks c.self.inside.slots.block) (take-runs_of c.self.inside.slots.block c.self.inside.slots.bytes c.args.index c.self.inside.runs.items)
    ∙ held_blocks-runs c.self.inside.slots.block c.self.inside.slots.bytes (take c.args.index c.self.inside.runs.items) c.self.invariant.0.some_block
    (front-bytes c.self.inside.slots.block c.args.index c.self.inside.slots.bytes c.self.inside.runs.items (bytes_inside c.self.inside.slots.block c.self.inside.slots.count c.self.inside.capacity c.self.inside.used (vec_capacity c.self.inside.runs) c.self.inside.slots.bytes c.self.inside.runs.items c.self.invariant.0)) in
    let k : IsCut c.self.inside.used (vec_capacity c.self.inside.runs) c.index-run.result.now.row c.index-run.result.now.count c.args.index c.args.at c.self.inside.runs.items c.index-run.result.now =
    is_cut c.self.inside.slots.block c.self.inside.slots.count c.self.inside.capacity c.self.inside.used (vec_capacity c.self.inside.runs) c.index-run.result.now.row c.index-run.result.now.count c.args.index c.args.at c.self.inside.slots.bytes c.self.inside.runs.items c.index-run.result.now c.self.invariant.0
    (own-place c.self.inside.runs.items c.args.index c.args.at c.index-run.result.now inside c.index-run.ensures behind) run.filled c.index-run.ensures in
    let items : c.cut.new.runs.items ≡ take c.args.index c.self.inside.runs.items ++ drop (c.args.index + 1) c.self.inside.runs.items =
    c.cut.ensures.items ∙ ap (λ (l : List Run). take c.args.index c.self.inside.runs.items ++ (l ++ drop (c.args.index + 1) c.self.inside.runs.items)) (rest-none 0 c.index-run.result.now refl) in
    ap (λ (s : Slotted). holding s.block c.self.inside.capacity s.count (runs_of s.block s.bytes c.cut.new.runs.items)) c.release.ensures
    ∙ ap (λ (l : List Run). holding c.self.inside.slots.block c.self.inside.capacity c.self.inside.slots.count (runs_of c.self.inside.slots.block (released (c.args.at * c.self.inside.slots.block) (c.index-run.result.now.count * c.self.inside.slots.block) (c.self.inside.used * c.self.inside.slots.block) c.self.inside.slots.bytes) l)) items
    ∙ ap (holding c.self.inside.slots.block c.self.inside.capacity c.self.inside.slots.count)
    (list-dropped c.self.inside.slots.block c.self.inside.slots.count c.self.inside.capacity c.self.inside.used (vec_capacity c.self.inside.runs) c.args.index c.args.at c.self.inside.slots.bytes c.self.inside.runs.items c.index-run.result.now c.self.invariant.0 k inside c.index-run.ensures)
    ∙ ap (λ (h : Holding). holding h.block h.capacity h.slots (take c.args.index h.list ++ drop (c.args.index + 1) h.list)) c.self.view_is
