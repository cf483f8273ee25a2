use Rattle.std.proofs.Common.{◌≡◌, ◌*◌, ◌/◌, ◌%◌, ◌≤◌, ◌+◌, ◌-◌, ◌++◌, ℕ, List, take, drop, sym, ap, ◌∙◌, subst, length, false, Some, arith}
use Rattle.xor_buffers.specs.declared.buffer.table.Run.{Run}
use Rattle.xor_buffers.specs.Held.{held_blocks, take_rows, rows_held, holder_of}
use Rattle.xor_buffers.specs.Slots.{Slotted, released}
use Rattle.xor_buffers.specs.Runs.{AreBetween, runs_of, blocks_in, run_holds, run_rest, IsTable, IsPlace}
use Rattle.xor_buffers.specs.Holding.{Holding, room_of, spare_of}
use Rattle.xor_buffers.proofs.HeldViews.{used_is}
use Rattle.std.specs.Vec.{vec_capacity}
use Rattle.std.specs.List.{AllByRecursion}
use Rattle.blocks_core.specs.Lists.{slice}
use Rattle.xor_buffers.proofs.HeldViews.{bytes_inside, holding}
use Rattle.xor_buffers.proofs.TakenRows.{none-holds}
use Rattle.xor_buffers.proofs.Cuts.{between-cut, IsCut, is_cut, whole-blocks, some-blocks, rows-of-cut, list-cut, table-of-cut}
use Rattle.xor_buffers.proofs.buffer.Held.take.Goals as goal

pub returns-in_default-clause-owner : goal.returns-in_default-clause-owner
returns-in_default-clause-owner c =
    let now_block : c.self.inside.slots.block ≡ c.args.self.now.block = ap (λ (h : Holding). h.block) c.self.view_is in
    let whole : length c.args.into.now % c.block.result ≡ 0 = ap (λ (n : ℕ). length c.args.into.now % n) (c.block.ensures.block ∙ now_block) ∙ c.requires.whole in
    let size : length c.args.into.now ≡ (length c.args.into.now / c.block.result) * c.self.inside.slots.block =
    whole-blocks c.block.result (length c.args.into.now) (omega (arith, c.block.ensures.block, c.self.invariant.0.some_block)) whole ∙ ap (λ (n : ℕ). (length c.args.into.now / c.block.result) * n) c.block.ensures.block in
    let some : 1 ≤ (length c.args.into.now / c.block.result) = some-blocks c.self.inside.slots.block (length c.args.into.now) (length c.args.into.now / c.block.result) c.requires.some size in
    let inside : blocks_in c.self.inside.runs.items * c.self.inside.slots.block ≤ length c.self.inside.slots.bytes =
    bytes_inside c.self.inside.slots.block c.self.inside.slots.count c.self.inside.capacity c.self.inside.used (vec_capacity c.self.inside.runs) c.self.inside.slots.bytes c.self.inside.runs.items c.self.invariant.0 in
    let none : AllByRecursion (λ e. run_holds c.args.row (length c.args.into.now / c.block.result) e ≡ false) c.self.inside.runs.items =
    subst (λ (l : List Run). AllByRecursion (λ e. run_holds c.args.row (length c.args.into.now / c.block.result) e ≡ false) l) c.deref.ensures.value c.in_default.ensures in
    ap (λ (n : ℕ). holder_of c.args.self.now.block c.args.row n c.args.self.now.list) size
    ∙ sym (ap (λ (h : Holding). holder_of h.block c.args.row ((length c.args.into.now / c.block.result) * c.self.inside.slots.block) h.list) c.self.view_is)
    ∙ none-holds c.self.inside.slots.block c.args.row (length c.args.into.now / c.block.result) c.self.inside.runs.items c.self.inside.slots.bytes c.self.invariant.0.some_block inside none

pub overflow_add-at : goal.overflow_add-at
overflow_add-at c =
    let now_block : c.self.inside.slots.block ≡ c.args.self.now.block = ap (λ (h : Holding). h.block) c.self.view_is in
    let whole : length c.args.into.now % c.block.result ≡ 0 = ap (λ (n : ℕ). length c.args.into.now % n) (c.block.ensures.block ∙ now_block) ∙ c.requires.whole in
    let size : length c.args.into.now ≡ (length c.args.into.now / c.block.result) * c.self.inside.slots.block =
    whole-blocks c.block.result (length c.args.into.now) (omega (arith, c.block.ensures.block, c.self.invariant.0.some_block)) whole ∙ ap (λ (n : ℕ). (length c.args.into.now / c.block.result) * n) c.block.ensures.block in
    let some : 1 ≤ (length c.args.into.now / c.block.result) = some-blocks c.self.inside.slots.block (length c.args.into.now) (length c.args.into.now / c.block.result) c.requires.some size in
    let place : IsPlace c.args.row (length c.args.into.now / c.block.result) c.self.inside.runs.items c.in-Some.place.index c.in-Some.place.at =
    subst (λ (l : List Run). IsPlace c.args.row (length c.args.into.now / c.block.result) l c.in-Some.place.index c.in-Some.place.at) c.deref.ensures.value c.in-Some.ensures in
    let k : IsCut c.self.inside.used (vec_capacity c.self.inside.runs) c.args.row (length c.args.into.now / c.block.result) c.in-Some.place.index c.in-Some.place.at c.self.inside.runs.items c.index-run.result.now =
    is_cut c.self.inside.slots.block c.self.inside.slots.count c.self.inside.capacity c.self.inside.used (vec_capacity c.self.inside.runs) c.args.row (length c.args.into.now / c.block.result)
    c.in-Some.place.index c.in-Some.place.at c.self.inside.slots.bytes c.self.inside.runs.items c.index-run.result.now c.self.invariant.0 place some c.index-run.ensures in
    omega (arith, k.inside, c.self.invariant.0.within, c.self.invariant.0.few)

pub read-requires-clause-inside : goal.read-requires-clause-inside
read-requires-clause-inside c =
    let now_block : c.self.inside.slots.block ≡ c.args.self.now.block = ap (λ (h : Holding). h.block) c.self.view_is in
    let whole : length c.args.into.now % c.block.result ≡ 0 = ap (λ (n : ℕ). length c.args.into.now % n) (c.block.ensures.block ∙ now_block) ∙ c.requires.whole in
    let size : length c.args.into.now ≡ (length c.args.into.now / c.block.result) * c.self.inside.slots.block =
    whole-blocks c.block.result (length c.args.into.now) (omega (arith, c.block.ensures.block, c.self.invariant.0.some_block)) whole ∙ ap (λ (n : ℕ). (length c.args.into.now / c.block.result) * n) c.block.ensures.block in
    let some : 1 ≤ (length c.args.into.now / c.block.result) = some-blocks c.self.inside.slots.block (length c.args.into.now) (length c.args.into.now / c.block.result) c.requires.some size in
    let place : IsPlace c.args.row (length c.args.into.now / c.block.result) c.self.inside.runs.items c.in-Some.place.index c.in-Some.place.at =
    subst (λ (l : List Run). IsPlace c.args.row (length c.args.into.now / c.block.result) l c.in-Some.place.index c.in-Some.place.at) c.deref.ensures.value c.in-Some.ensures in
    let k : IsCut c.self.inside.used (vec_capacity c.self.inside.runs) c.args.row (length c.args.into.now / c.block.result) c.in-Some.place.index c.in-Some.place.at c.self.inside.runs.items c.index-run.result.now =
    is_cut c.self.inside.slots.block c.self.inside.slots.count c.self.inside.capacity c.self.inside.used (vec_capacity c.self.inside.runs) c.args.row (length c.args.into.now / c.block.result)
    c.in-Some.place.index c.in-Some.place.at c.self.inside.slots.bytes c.self.inside.runs.items c.index-run.result.now c.self.invariant.0 place some c.index-run.ensures in
    omega (arith, k.inside, c.self.invariant.0.within)

pub release-requires-clause-within : goal.release-requires-clause-within
release-requires-clause-within c =
    let now_block : c.self.inside.slots.block ≡ c.args.self.now.block = ap (λ (h : Holding). h.block) c.self.view_is in
    let whole : length c.args.into.now % c.block.result ≡ 0 = ap (λ (n : ℕ). length c.args.into.now % n) (c.block.ensures.block ∙ now_block) ∙ c.requires.whole in
    let size : length c.args.into.now ≡ (length c.args.into.now / c.block.result) * c.self.inside.slots.block =
    whole-blocks c.block.result (length c.args.into.now) (omega (arith, c.block.ensures.block, c.self.invariant.0.some_block)) whole ∙ ap (λ (n : ℕ). (length c.args.into.now / c.block.result) * n) c.block.ensures.block in
    let some : 1 ≤ (length c.args.into.now / c.block.result) = some-blocks c.self.inside.slots.block (length c.args.into.now) (length c.args.into.now / c.block.result) c.requires.some size in
    let place : IsPlace c.args.row (length c.args.into.now / c.block.result) c.self.inside.runs.items c.in-Some.place.index c.in-Some.place.at =
    subst (λ (l : List Run). IsPlace c.args.row (length c.args.into.now / c.block.result) l c.in-Some.place.index c.in-Some.place.at) c.deref.ensures.value c.in-Some.ensures in
    let k : IsCut c.self.inside.used (vec_capacity c.self.inside.runs) c.args.row (length c.args.into.now / c.block.result) c.in-Some.place.index c.in-Some.place.at c.self.inside.runs.items c.index-run.result.now =
    is_cut c.self.inside.slots.block c.self.inside.slots.count c.self.inside.capacity c.self.inside.used (vec_capacity c.self.inside.runs) c.args.row (length c.args.into.now / c.block.result)
    c.in-Some.place.index c.in-Some.place.at c.self.inside.slots.bytes c.self.inside.runs.items c.index-run.result.now c.self.invariant.0 place some c.index-run.ensures in
    k.inside

pub cut-requires-clause-room : goal.cut-requires-clause-room
cut-requires-clause-room c =
    let now_block : c.self.inside.slots.block ≡ c.args.self.now.block = ap (λ (h : Holding). h.block) c.self.view_is in
    let whole : length c.args.into.now % c.block.result ≡ 0 = ap (λ (n : ℕ). length c.args.into.now % n) (c.block.ensures.block ∙ now_block) ∙ c.requires.whole in
    let size : length c.args.into.now ≡ (length c.args.into.now / c.block.result) * c.self.inside.slots.block =
    whole-blocks c.block.result (length c.args.into.now) (omega (arith, c.block.ensures.block, c.self.invariant.0.some_block)) whole ∙ ap (λ (n : ℕ). (length c.args.into.now / c.block.result) * n) c.block.ensures.block in
    let some : 1 ≤ (length c.args.into.now / c.block.result) = some-blocks c.self.inside.slots.block (length c.args.into.now) (length c.args.into.now / c.block.result) c.requires.some size in
    let place : IsPlace c.args.row (length c.args.into.now / c.block.result) c.self.inside.runs.items c.in-Some.place.index c.in-Some.place.at =
    subst (λ (l : List Run). IsPlace c.args.row (length c.args.into.now / c.block.result) l c.in-Some.place.index c.in-Some.place.at) c.deref.ensures.value c.in-Some.ensures in
    let k : IsCut c.self.inside.used (vec_capacity c.self.inside.runs) c.args.row (length c.args.into.now / c.block.result) c.in-Some.place.index c.in-Some.place.at c.self.inside.runs.items c.index-run.result.now =
    is_cut c.self.inside.slots.block c.self.inside.slots.count c.self.inside.capacity c.self.inside.used (vec_capacity c.self.inside.runs) c.args.row (length c.args.into.now / c.block.result)
    c.in-Some.place.index c.in-Some.place.at c.self.inside.slots.bytes c.self.inside.runs.items c.index-run.result.now c.self.invariant.0 place some c.index-run.ensures in
    k.few

pub overflow_sub-self : goal.overflow_sub-self
overflow_sub-self c =
    let now_block : c.self.inside.slots.block ≡ c.args.self.now.block = ap (λ (h : Holding). h.block) c.self.view_is in
    let whole : length c.args.into.now % c.block.result ≡ 0 = ap (λ (n : ℕ). length c.args.into.now % n) (c.block.ensures.block ∙ now_block) ∙ c.requires.whole in
    let size : length c.args.into.now ≡ (length c.args.into.now / c.block.result) * c.self.inside.slots.block =
    whole-blocks c.block.result (length c.args.into.now) (omega (arith, c.block.ensures.block, c.self.invariant.0.some_block)) whole ∙ ap (λ (n : ℕ). (length c.args.into.now / c.block.result) * n) c.block.ensures.block in
    let some : 1 ≤ (length c.args.into.now / c.block.result) = some-blocks c.self.inside.slots.block (length c.args.into.now) (length c.args.into.now / c.block.result) c.requires.some size in
    let place : IsPlace c.args.row (length c.args.into.now / c.block.result) c.self.inside.runs.items c.in-Some.place.index c.in-Some.place.at =
    subst (λ (l : List Run). IsPlace c.args.row (length c.args.into.now / c.block.result) l c.in-Some.place.index c.in-Some.place.at) c.deref.ensures.value c.in-Some.ensures in
    let k : IsCut c.self.inside.used (vec_capacity c.self.inside.runs) c.args.row (length c.args.into.now / c.block.result) c.in-Some.place.index c.in-Some.place.at c.self.inside.runs.items c.index-run.result.now =
    is_cut c.self.inside.slots.block c.self.inside.slots.count c.self.inside.capacity c.self.inside.used (vec_capacity c.self.inside.runs) c.args.row (length c.args.into.now / c.block.result)
    c.in-Some.place.index c.in-Some.place.at c.self.inside.slots.bytes c.self.inside.runs.items c.index-run.result.now c.self.invariant.0 place some c.index-run.ensures in
    omega (arith, k.inside)

pub invariant_of-self : goal.invariant_of-self
invariant_of-self c =
    let now_block : c.self.inside.slots.block ≡ c.args.self.now.block = ap (λ (h : Holding). h.block) c.self.view_is in
    let whole : length c.args.into.now % c.block.result ≡ 0 = ap (λ (n : ℕ). length c.args.into.now % n) (c.block.ensures.block ∙ now_block) ∙ c.requires.whole in
    let size : length c.args.into.now ≡ (length c.args.into.now / c.block.result) * c.self.inside.slots.block =
    whole-blocks c.block.result (length c.args.into.now) (omega (arith, c.block.ensures.block, c.self.invariant.0.some_block)) whole ∙ ap (λ (n : ℕ). (length c.args.into.now / c.block.result) * n) c.block.ensures.block in
    let some : 1 ≤ (length c.args.into.now / c.block.result) = some-blocks c.self.inside.slots.block (length c.args.into.now) (length c.args.into.now / c.block.result) c.requires.some size in
    let place : IsPlace c.args.row (length c.args.into.now / c.block.result) c.self.inside.runs.items c.in-Some.place.index c.in-Some.place.at =
    subst (λ (l : List Run). IsPlace c.args.row (length c.args.into.now / c.block.result) l c.in-Some.place.index c.in-Some.place.at) c.deref.ensures.value c.in-Some.ensures in
    let k : IsCut c.self.inside.used (vec_capacity c.self.inside.runs) c.args.row (length c.args.into.now / c.block.result) c.in-Some.place.index c.in-Some.place.at c.self.inside.runs.items c.index-run.result.now =
    is_cut c.self.inside.slots.block c.self.inside.slots.count c.self.inside.capacity c.self.inside.used (vec_capacity c.self.inside.runs) c.args.row (length c.args.into.now / c.block.result)
    c.in-Some.place.index c.in-Some.place.at c.self.inside.slots.bytes c.self.inside.runs.items c.index-run.result.now c.self.invariant.0 place some c.index-run.ensures in
    let table : IsTable c.self.inside.slots.block c.self.inside.slots.count (released ((c.in-Some.place.at + (c.args.row - c.index-run.result.now.row)) * c.self.inside.slots.block) ((length c.args.into.now / c.block.result) * c.self.inside.slots.block) (c.self.inside.used * c.self.inside.slots.block) c.self.inside.slots.bytes) c.self.inside.capacity (c.self.inside.used - (length c.args.into.now / c.block.result)) (vec_capacity c.cut.new.runs) (take c.in-Some.place.index c.self.inside.runs.items ++ (run_rest (c.args.row - c.index-run.result.now.row) (length c.args.into.now / c.block.result) c.index-run.result.now ++ drop (c.in-Some.place.index + 1) c.self.inside.runs.items)) =
    table-of-cut c.self.inside.slots.block c.self.inside.slots.count c.self.inside.capacity c.self.inside.used (vec_capacity c.self.inside.runs) (vec_capacity c.cut.new.runs) c.args.row (length c.args.into.now / c.block.result) c.in-Some.place.index c.in-Some.place.at
    c.self.inside.slots.bytes c.self.inside.runs.items c.index-run.result.now c.self.invariant.0 k c.cut.ensures.table in (
      subst (λ (s : Slotted). IsTable s.block s.count s.bytes c.self.inside.capacity (c.self.inside.used - (length c.args.into.now / c.block.result)) (vec_capacity c.cut.new.runs) c.cut.new.runs.items) (sym c.release.ensures)
          (subst (λ (l : List Run). IsTable c.self.inside.slots.block c.self.inside.slots.count (released ((c.in-Some.place.at + (c.args.row - c.index-run.result.now.row)) * c.self.inside.slots.block) ((length c.args.into.now / c.block.result) * c.self.inside.slots.block) (c.self.inside.used * c.self.inside.slots.block) c.self.inside.slots.bytes) c.self.inside.capacity (c.self.inside.used - (length c.args.into.now / c.block.result)) (vec_capacity c.cut.new.runs) l) (sym c.cut.ensures.items) table),
      subst (AreBetween c.self.inside.first c.self.inside.end) (sym c.cut.ensures.items)
          (between-cut c.self.inside.first c.self.inside.end c.self.inside.used (vec_capacity c.self.inside.runs) c.args.row (length c.args.into.now / c.block.result) c.in-Some.place.index c.in-Some.place.at c.self.inside.runs.items c.index-run.result.now k c.self.invariant.1),
    )

pub returns-clause-owner : goal.returns-clause-owner
returns-clause-owner c =
    let now_block : c.self.inside.slots.block ≡ c.args.self.now.block = ap (λ (h : Holding). h.block) c.self.view_is in
    let whole : length c.args.into.now % c.block.result ≡ 0 = ap (λ (n : ℕ). length c.args.into.now % n) (c.block.ensures.block ∙ now_block) ∙ c.requires.whole in
    let size : length c.args.into.now ≡ (length c.args.into.now / c.block.result) * c.self.inside.slots.block =
    whole-blocks c.block.result (length c.args.into.now) (omega (arith, c.block.ensures.block, c.self.invariant.0.some_block)) whole ∙ ap (λ (n : ℕ). (length c.args.into.now / c.block.result) * n) c.block.ensures.block in
    let some : 1 ≤ (length c.args.into.now / c.block.result) = some-blocks c.self.inside.slots.block (length c.args.into.now) (length c.args.into.now / c.block.result) c.requires.some size in
    let place : IsPlace c.args.row (length c.args.into.now / c.block.result) c.self.inside.runs.items c.in-Some.place.index c.in-Some.place.at =
    subst (λ (l : List Run). IsPlace c.args.row (length c.args.into.now / c.block.result) l c.in-Some.place.index c.in-Some.place.at) c.deref.ensures.value c.in-Some.ensures in
    let k : IsCut c.self.inside.used (vec_capacity c.self.inside.runs) c.args.row (length c.args.into.now / c.block.result) c.in-Some.place.index c.in-Some.place.at c.self.inside.runs.items c.index-run.result.now =
    is_cut c.self.inside.slots.block c.self.inside.slots.count c.self.inside.capacity c.self.inside.used (vec_capacity c.self.inside.runs) c.args.row (length c.args.into.now / c.block.result)
    c.in-Some.place.index c.in-Some.place.at c.self.inside.slots.bytes c.self.inside.runs.items c.index-run.result.now c.self.invariant.0 place some c.index-run.ensures in
    let rows : (rows_held c.self.inside.slots.block c.index-run.result.now.owner c.args.row ((length c.args.into.now / c.block.result) * c.self.inside.slots.block) (runs_of c.self.inside.slots.block c.self.inside.slots.bytes c.self.inside.runs.items)
    ≡ Some (slice c.self.inside.slots.bytes ((c.in-Some.place.at + (c.args.row - c.index-run.result.now.row)) * c.self.inside.slots.block) ((length c.args.into.now / c.block.result) * c.self.inside.slots.block)))
    × (holder_of c.self.inside.slots.block c.args.row ((length c.args.into.now / c.block.result) * c.self.inside.slots.block) (runs_of c.self.inside.slots.block c.self.inside.slots.bytes c.self.inside.runs.items) ≡ Some c.index-run.result.now.owner) =
    rows-of-cut c.self.inside.slots.block c.self.inside.slots.count c.self.inside.capacity c.self.inside.used (vec_capacity c.self.inside.runs) c.args.row (length c.args.into.now / c.block.result) c.in-Some.place.index c.in-Some.place.at
    c.self.inside.slots.bytes c.self.inside.runs.items c.index-run.result.now c.self.invariant.0 k in
    ap (λ (n : ℕ). holder_of c.args.self.now.block c.args.row n c.args.self.now.list) size
    ∙ sym (ap (λ (h : Holding). holder_of h.block c.args.row ((length c.args.into.now / c.block.result) * c.self.inside.slots.block) h.list) c.self.view_is)
    ∙ rows.1

pub returns-clause-bytes : goal.returns-clause-bytes
returns-clause-bytes c =
    let now_block : c.self.inside.slots.block ≡ c.args.self.now.block = ap (λ (h : Holding). h.block) c.self.view_is in
    let whole : length c.args.into.now % c.block.result ≡ 0 = ap (λ (n : ℕ). length c.args.into.now % n) (c.block.ensures.block ∙ now_block) ∙ c.requires.whole in
    let size : length c.args.into.now ≡ (length c.args.into.now / c.block.result) * c.self.inside.slots.block =
    whole-blocks c.block.result (length c.args.into.now) (omega (arith, c.block.ensures.block, c.self.invariant.0.some_block)) whole ∙ ap (λ (n : ℕ). (length c.args.into.now / c.block.result) * n) c.block.ensures.block in
    let some : 1 ≤ (length c.args.into.now / c.block.result) = some-blocks c.self.inside.slots.block (length c.args.into.now) (length c.args.into.now / c.block.result) c.requires.some size in
    let place : IsPlace c.args.row (length c.args.into.now / c.block.result) c.self.inside.runs.items c.in-Some.place.index c.in-Some.place.at =
    subst (λ (l : List Run). IsPlace c.args.row (length c.args.into.now / c.block.result) l c.in-Some.place.index c.in-Some.place.at) c.deref.ensures.value c.in-Some.ensures in
    let k : IsCut c.self.inside.used (vec_capacity c.self.inside.runs) c.args.row (length c.args.into.now / c.block.result) c.in-Some.place.index c.in-Some.place.at c.self.inside.runs.items c.index-run.result.now =
    is_cut c.self.inside.slots.block c.self.inside.slots.count c.self.inside.capacity c.self.inside.used (vec_capacity c.self.inside.runs) c.args.row (length c.args.into.now / c.block.result)
    c.in-Some.place.index c.in-Some.place.at c.self.inside.slots.bytes c.self.inside.runs.items c.index-run.result.now c.self.invariant.0 place some c.index-run.ensures in
    let rows : (rows_held c.self.inside.slots.block c.index-run.result.now.owner c.args.row ((length c.args.into.now / c.block.result) * c.self.inside.slots.block) (runs_of c.self.inside.slots.block c.self.inside.slots.bytes c.self.inside.runs.items)
    ≡ Some (slice c.self.inside.slots.bytes ((c.in-Some.place.at + (c.args.row - c.index-run.result.now.row)) * c.self.inside.slots.block) ((length c.args.into.now / c.block.result) * c.self.inside.slots.block)))
    × (holder_of c.self.inside.slots.block c.args.row ((length c.args.into.now / c.block.result) * c.self.inside.slots.block) (runs_of c.self.inside.slots.block c.self.inside.slots.bytes c.self.inside.runs.items) ≡ Some c.index-run.result.now.owner) =
    rows-of-cut c.self.inside.slots.block c.self.inside.slots.count c.self.inside.capacity c.self.inside.used (vec_capacity c.self.inside.runs) c.args.row (length c.args.into.now / c.block.result) c.in-Some.place.index c.in-Some.place.at
    c.self.inside.slots.bytes c.self.inside.runs.items c.index-run.result.now c.self.invariant.0 k in
    ap (λ (n : ℕ). rows_held c.args.self.now.block c.index-run.result.now.owner c.args.row n c.args.self.now.list) size
    ∙ sym (ap (λ (h : Holding). rows_held h.block c.index-run.result.now.owner c.args.row ((length c.args.into.now / c.block.result) * c.self.inside.slots.block) h.list) c.self.view_is)
    ∙ rows.0 ∙ ap (λ (l : List ℕ). Some l) (sym c.read.ensures)

pub returns-clause-ok : goal.returns-clause-ok
returns-clause-ok c =
    let now_block : c.self.inside.slots.block ≡ c.args.self.now.block = ap (λ (h : Holding). h.block) c.self.view_is in
    let whole : length c.args.into.now % c.block.result ≡ 0 = ap (λ (n : ℕ). length c.args.into.now % n) (c.block.ensures.block ∙ now_block) ∙ c.requires.whole in
    let size : length c.args.into.now ≡ (length c.args.into.now / c.block.result) * c.self.inside.slots.block =
    whole-blocks c.block.result (length c.args.into.now) (omega (arith, c.block.ensures.block, c.self.invariant.0.some_block)) whole ∙ ap (λ (n : ℕ). (length c.args.into.now / c.block.result) * n) c.block.ensures.block in
    let some : 1 ≤ (length c.args.into.now / c.block.result) = some-blocks c.self.inside.slots.block (length c.args.into.now) (length c.args.into.now / c.block.result) c.requires.some size in
    let place : IsPlace c.args.row (length c.args.into.now / c.block.result) c.self.inside.runs.items c.in-Some.place.index c.in-Some.place.at =
    subst (λ (l : List Run). IsPlace c.args.row (length c.args.into.now / c.block.result) l c.in-Some.place.index c.in-Some.place.at) c.deref.ensures.value c.in-Some.ensures in
    let k : IsCut c.self.inside.used (vec_capacity c.self.inside.runs) c.args.row (length c.args.into.now / c.block.result) c.in-Some.place.index c.in-Some.place.at c.self.inside.runs.items c.index-run.result.now =
    is_cut c.self.inside.slots.block c.self.inside.slots.count c.self.inside.capacity c.self.inside.used (vec_capacity c.self.inside.runs) c.args.row (length c.args.into.now / c.block.result)
    c.in-Some.place.index c.in-Some.place.at c.self.inside.slots.bytes c.self.inside.runs.items c.index-run.result.now c.self.invariant.0 place some c.index-run.ensures in
    let written : holding c.release.new.self.block c.self.inside.capacity c.release.new.self.count (runs_of c.release.new.self.block c.release.new.self.bytes c.cut.new.runs.items)
    ≡ holding c.self.inside.slots.block c.self.inside.capacity c.self.inside.slots.count (runs_of c.self.inside.slots.block (released ((c.in-Some.place.at + (c.args.row - c.index-run.result.now.row)) * c.self.inside.slots.block) ((length c.args.into.now / c.block.result) * c.self.inside.slots.block) (c.self.inside.used * c.self.inside.slots.block) c.self.inside.slots.bytes) (take c.in-Some.place.index c.self.inside.runs.items ++ (run_rest (c.args.row - c.index-run.result.now.row) (length c.args.into.now / c.block.result) c.index-run.result.now ++ drop (c.in-Some.place.index + 1) c.self.inside.runs.items))) =
    ap (λ (s : Slotted). holding s.block c.self.inside.capacity s.count (runs_of s.block s.bytes c.cut.new.runs.items)) c.release.ensures
    ∙ ap (λ (l : List Run). holding c.self.inside.slots.block c.self.inside.capacity c.self.inside.slots.count (runs_of c.self.inside.slots.block (released ((c.in-Some.place.at + (c.args.row - c.index-run.result.now.row)) * c.self.inside.slots.block) ((length c.args.into.now / c.block.result) * c.self.inside.slots.block) (c.self.inside.used * c.self.inside.slots.block) c.self.inside.slots.bytes) l)) c.cut.ensures.items in
    written
    ∙ ap (holding c.self.inside.slots.block c.self.inside.capacity c.self.inside.slots.count)
    (list-cut c.self.inside.slots.block c.self.inside.slots.count c.self.inside.capacity c.self.inside.used (vec_capacity c.self.inside.runs) c.args.row (length c.args.into.now / c.block.result) c.in-Some.place.index c.in-Some.place.at c.self.inside.slots.bytes c.self.inside.runs.items c.index-run.result.now c.self.invariant.0 k)
    ∙ ap (λ (h : Holding). holding h.block h.capacity h.slots (take_rows h.block c.args.row ((length c.args.into.now / c.block.result) * c.self.inside.slots.block) h.list)) c.self.view_is
    ∙ ap (λ (n : ℕ). holding c.args.self.now.block c.args.self.now.capacity c.args.self.now.slots (take_rows c.args.self.now.block c.args.row n c.args.self.now.list)) (sym size)

pub returns-clause-room : goal.returns-clause-room
returns-clause-room c =
    let now_block : c.self.inside.slots.block ≡ c.args.self.now.block = ap (λ (h : Holding). h.block) c.self.view_is in
    let whole : length c.args.into.now % c.block.result ≡ 0 = ap (λ (n : ℕ). length c.args.into.now % n) (c.block.ensures.block ∙ now_block) ∙ c.requires.whole in
    let size : length c.args.into.now ≡ (length c.args.into.now / c.block.result) * c.self.inside.slots.block =
    whole-blocks c.block.result (length c.args.into.now) (omega (arith, c.block.ensures.block, c.self.invariant.0.some_block)) whole ∙ ap (λ (n : ℕ). (length c.args.into.now / c.block.result) * n) c.block.ensures.block in
    let some : 1 ≤ (length c.args.into.now / c.block.result) = some-blocks c.self.inside.slots.block (length c.args.into.now) (length c.args.into.now / c.block.result) c.requires.some size in
    let place : IsPlace c.args.row (length c.args.into.now / c.block.result) c.self.inside.runs.items c.in-Some.place.index c.in-Some.place.at =
    subst (λ (l : List Run). IsPlace c.args.row (length c.args.into.now / c.block.result) l c.in-Some.place.index c.in-Some.place.at) c.deref.ensures.value c.in-Some.ensures in
    let k : IsCut c.self.inside.used (vec_capacity c.self.inside.runs) c.args.row (length c.args.into.now / c.block.result) c.in-Some.place.index c.in-Some.place.at c.self.inside.runs.items c.index-run.result.now =
    is_cut c.self.inside.slots.block c.self.inside.slots.count c.self.inside.capacity c.self.inside.used (vec_capacity c.self.inside.runs) c.args.row (length c.args.into.now / c.block.result)
    c.in-Some.place.index c.in-Some.place.at c.self.inside.slots.bytes c.self.inside.runs.items c.index-run.result.now c.self.invariant.0 place some c.index-run.ensures in
    let table : IsTable c.self.inside.slots.block c.self.inside.slots.count (released ((c.in-Some.place.at + (c.args.row - c.index-run.result.now.row)) * c.self.inside.slots.block) ((length c.args.into.now / c.block.result) * c.self.inside.slots.block) (c.self.inside.used * c.self.inside.slots.block) c.self.inside.slots.bytes) c.self.inside.capacity (c.self.inside.used - (length c.args.into.now / c.block.result)) (vec_capacity c.cut.new.runs) (take c.in-Some.place.index c.self.inside.runs.items ++ (run_rest (c.args.row - c.index-run.result.now.row) (length c.args.into.now / c.block.result) c.index-run.result.now ++ drop (c.in-Some.place.index + 1) c.self.inside.runs.items)) =
    table-of-cut c.self.inside.slots.block c.self.inside.slots.count c.self.inside.capacity c.self.inside.used (vec_capacity c.self.inside.runs) (vec_capacity c.cut.new.runs) c.args.row (length c.args.into.now / c.block.result) c.in-Some.place.index c.in-Some.place.at
    c.self.inside.slots.bytes c.self.inside.runs.items c.index-run.result.now c.self.invariant.0 k c.cut.ensures.table in
    let written : holding c.release.new.self.block c.self.inside.capacity c.release.new.self.count (runs_of c.release.new.self.block c.release.new.self.bytes c.cut.new.runs.items)
    ≡ holding c.self.inside.slots.block c.self.inside.capacity c.self.inside.slots.count (runs_of c.self.inside.slots.block (released ((c.in-Some.place.at + (c.args.row - c.index-run.result.now.row)) * c.self.inside.slots.block) ((length c.args.into.now / c.block.result) * c.self.inside.slots.block) (c.self.inside.used * c.self.inside.slots.block) c.self.inside.slots.bytes) (take c.in-Some.place.index c.self.inside.runs.items ++ (run_rest (c.args.row - c.index-run.result.now.row) (length c.args.into.now / c.block.result) c.index-run.result.now ++ drop (c.in-Some.place.index + 1) c.self.inside.runs.items))) =
    ap (λ (s : Slotted). holding s.block c.self.inside.capacity s.count (runs_of s.block s.bytes c.cut.new.runs.items)) c.release.ensures
    ∙ ap (λ (l : List Run). holding c.self.inside.slots.block c.self.inside.capacity c.self.inside.slots.count (runs_of c.self.inside.slots.block (released ((c.in-Some.place.at + (c.args.row - c.index-run.result.now.row)) * c.self.inside.slots.block) ((length c.args.into.now / c.block.result) * c.self.inside.slots.block) (c.self.inside.used * c.self.inside.slots.block) c.self.inside.slots.bytes) l)) c.cut.ensures.items in
    let used : held_blocks c.self.inside.slots.block (runs_of c.self.inside.slots.block c.self.inside.slots.bytes c.self.inside.runs.items) ≡ c.self.inside.used =
    used_is c.self.inside.slots.block c.self.inside.slots.count c.self.inside.capacity c.self.inside.used (vec_capacity c.self.inside.runs) c.self.inside.slots.bytes c.self.inside.runs.items c.self.invariant.0 in
    let now_used : held_blocks c.self.inside.slots.block (runs_of c.self.inside.slots.block (released ((c.in-Some.place.at + (c.args.row - c.index-run.result.now.row)) * c.self.inside.slots.block) ((length c.args.into.now / c.block.result) * c.self.inside.slots.block) (c.self.inside.used * c.self.inside.slots.block) c.self.inside.slots.bytes) (take c.in-Some.place.index c.self.inside.runs.items ++ (run_rest (c.args.row - c.index-run.result.now.row) (length c.args.into.now / c.block.result) c.index-run.result.now ++ drop (c.in-Some.place.index + 1) c.self.inside.runs.items))) ≡ c.self.inside.used - (length c.args.into.now / c.block.result) =
    used_is c.self.inside.slots.block c.self.inside.slots.count c.self.inside.capacity (c.self.inside.used - (length c.args.into.now / c.block.result)) _ (released ((c.in-Some.place.at + (c.args.row - c.index-run.result.now.row)) * c.self.inside.slots.block) ((length c.args.into.now / c.block.result) * c.self.inside.slots.block) (c.self.inside.used * c.self.inside.slots.block) c.self.inside.slots.bytes) (take c.in-Some.place.index c.self.inside.runs.items ++ (run_rest (c.args.row - c.index-run.result.now.row) (length c.args.into.now / c.block.result) c.index-run.result.now ++ drop (c.in-Some.place.index + 1) c.self.inside.runs.items)) table in
    let count : length c.args.into.now / c.args.self.now.block ≡ (length c.args.into.now / c.block.result) = ap (λ (n : ℕ). length c.args.into.now / n) (sym (c.block.ensures.block ∙ now_block)) in
    ap room_of written ∙ omega (arith, now_used, used, count, k.inside, c.self.invariant.0.room, ap room_of c.self.view_is)

pub returns-clause-spare : goal.returns-clause-spare
returns-clause-spare c =
    let now_block : c.self.inside.slots.block ≡ c.args.self.now.block = ap (λ (h : Holding). h.block) c.self.view_is in
    let whole : length c.args.into.now % c.block.result ≡ 0 = ap (λ (n : ℕ). length c.args.into.now % n) (c.block.ensures.block ∙ now_block) ∙ c.requires.whole in
    let size : length c.args.into.now ≡ (length c.args.into.now / c.block.result) * c.self.inside.slots.block =
    whole-blocks c.block.result (length c.args.into.now) (omega (arith, c.block.ensures.block, c.self.invariant.0.some_block)) whole ∙ ap (λ (n : ℕ). (length c.args.into.now / c.block.result) * n) c.block.ensures.block in
    let some : 1 ≤ (length c.args.into.now / c.block.result) = some-blocks c.self.inside.slots.block (length c.args.into.now) (length c.args.into.now / c.block.result) c.requires.some size in
    let place : IsPlace c.args.row (length c.args.into.now / c.block.result) c.self.inside.runs.items c.in-Some.place.index c.in-Some.place.at =
    subst (λ (l : List Run). IsPlace c.args.row (length c.args.into.now / c.block.result) l c.in-Some.place.index c.in-Some.place.at) c.deref.ensures.value c.in-Some.ensures in
    let k : IsCut c.self.inside.used (vec_capacity c.self.inside.runs) c.args.row (length c.args.into.now / c.block.result) c.in-Some.place.index c.in-Some.place.at c.self.inside.runs.items c.index-run.result.now =
    is_cut c.self.inside.slots.block c.self.inside.slots.count c.self.inside.capacity c.self.inside.used (vec_capacity c.self.inside.runs) c.args.row (length c.args.into.now / c.block.result)
    c.in-Some.place.index c.in-Some.place.at c.self.inside.slots.bytes c.self.inside.runs.items c.index-run.result.now c.self.invariant.0 place some c.index-run.ensures in
    let table : IsTable c.self.inside.slots.block c.self.inside.slots.count (released ((c.in-Some.place.at + (c.args.row - c.index-run.result.now.row)) * c.self.inside.slots.block) ((length c.args.into.now / c.block.result) * c.self.inside.slots.block) (c.self.inside.used * c.self.inside.slots.block) c.self.inside.slots.bytes) c.self.inside.capacity (c.self.inside.used - (length c.args.into.now / c.block.result)) (vec_capacity c.cut.new.runs) (take c.in-Some.place.index c.self.inside.runs.items ++ (run_rest (c.args.row - c.index-run.result.now.row) (length c.args.into.now / c.block.result) c.index-run.result.now ++ drop (c.in-Some.place.index + 1) c.self.inside.runs.items)) =
    table-of-cut c.self.inside.slots.block c.self.inside.slots.count c.self.inside.capacity c.self.inside.used (vec_capacity c.self.inside.runs) (vec_capacity c.cut.new.runs) c.args.row (length c.args.into.now / c.block.result) c.in-Some.place.index c.in-Some.place.at
    c.self.inside.slots.bytes c.self.inside.runs.items c.index-run.result.now c.self.invariant.0 k c.cut.ensures.table in
    let written : holding c.release.new.self.block c.self.inside.capacity c.release.new.self.count (runs_of c.release.new.self.block c.release.new.self.bytes c.cut.new.runs.items)
    ≡ holding c.self.inside.slots.block c.self.inside.capacity c.self.inside.slots.count (runs_of c.self.inside.slots.block (released ((c.in-Some.place.at + (c.args.row - c.index-run.result.now.row)) * c.self.inside.slots.block) ((length c.args.into.now / c.block.result) * c.self.inside.slots.block) (c.self.inside.used * c.self.inside.slots.block) c.self.inside.slots.bytes) (take c.in-Some.place.index c.self.inside.runs.items ++ (run_rest (c.args.row - c.index-run.result.now.row) (length c.args.into.now / c.block.result) c.index-run.result.now ++ drop (c.in-Some.place.index + 1) c.self.inside.runs.items))) =
    ap (λ (s : Slotted). holding s.block c.self.inside.capacity s.count (runs_of s.block s.bytes c.cut.new.runs.items)) c.release.ensures
    ∙ ap (λ (l : List Run). holding c.self.inside.slots.block c.self.inside.capacity c.self.inside.slots.count (runs_of c.self.inside.slots.block (released ((c.in-Some.place.at + (c.args.row - c.index-run.result.now.row)) * c.self.inside.slots.block) ((length c.args.into.now / c.block.result) * c.self.inside.slots.block) (c.self.inside.used * c.self.inside.slots.block) c.self.inside.slots.bytes) l)) c.cut.ensures.items in
    let used : held_blocks c.self.inside.slots.block (runs_of c.self.inside.slots.block c.self.inside.slots.bytes c.self.inside.runs.items) ≡ c.self.inside.used =
    used_is c.self.inside.slots.block c.self.inside.slots.count c.self.inside.capacity c.self.inside.used (vec_capacity c.self.inside.runs) c.self.inside.slots.bytes c.self.inside.runs.items c.self.invariant.0 in
    let now_used : held_blocks c.self.inside.slots.block (runs_of c.self.inside.slots.block (released ((c.in-Some.place.at + (c.args.row - c.index-run.result.now.row)) * c.self.inside.slots.block) ((length c.args.into.now / c.block.result) * c.self.inside.slots.block) (c.self.inside.used * c.self.inside.slots.block) c.self.inside.slots.bytes) (take c.in-Some.place.index c.self.inside.runs.items ++ (run_rest (c.args.row - c.index-run.result.now.row) (length c.args.into.now / c.block.result) c.index-run.result.now ++ drop (c.in-Some.place.index + 1) c.self.inside.runs.items))) ≡ c.self.inside.used - (length c.args.into.now / c.block.result) =
    used_is c.self.inside.slots.block c.self.inside.slots.count c.self.inside.capacity (c.self.inside.used - (length c.args.into.now / c.block.result)) _ (released ((c.in-Some.place.at + (c.args.row - c.index-run.result.now.row)) * c.self.inside.slots.block) ((length c.args.into.now / c.block.result) * c.self.inside.slots.block) (c.self.inside.used * c.self.inside.slots.block) c.self.inside.slots.bytes) (take c.in-Some.place.index c.self.inside.runs.items ++ (run_rest (c.args.row - c.index-run.result.now.row) (length c.args.into.now / c.block.result) c.index-run.result.now ++ drop (c.in-Some.place.index + 1) c.self.inside.runs.items)) table in
    let count : length c.args.into.now / c.args.self.now.block ≡ (length c.args.into.now / c.block.result) = ap (λ (n : ℕ). length c.args.into.now / n) (sym (c.block.ensures.block ∙ now_block)) in
    ap spare_of written ∙ omega (arith, now_used, used, count, k.inside, c.self.invariant.0.within, ap spare_of c.self.view_is)
