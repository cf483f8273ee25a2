use Rattle.std.proofs.Common.{◌≡◌, ◌<◌, ◌≤◌, ◌+◌, ◌-◌, ◌∙◌, List, [], ◌∷◌, ◌++◌, ℕ, Ok, length, length-append, subst, arith}
use Rattle.std.proofs.lemmas.Result.{err_from_is_err_and}
use Rattle.stripe_layout.specs.declared.areas.Area.{Area}
use Rattle.stripe_layout.specs.Layout.{IsArea}
use Rattle.host_scripts.specs.Reading.{Fails, area_at, areas_at}
use Rattle.host_scripts.proofs.AreaLoop.{area-read, first-read, area-broken, first-broken, areas-done, areas-append}
use Rattle.host_scripts.proofs.shape.area_lines.Goals as goal

pub returns-in_err-first-clause-value : goal.returns-in_err-first-clause-value
returns-in_err-first-clause-value c =
    let p = err_from_is_err_and c.from_residual.result c.from_residual.ensures.1 in
    rw (p.1, p.2) (first-broken c.args.count 5 c.args.bytes.now c.in_err-first.field-0.0 c.requires.some c.in_err-first.ensures.value)

pub loop-areas-init : goal.loop-areas-init
loop-areas-init c =
    let shorter = c.in_ok-first.ensures.shorter in
    rw c.new-areas.ensures (record {
      so_far = first-read c.args.count 5 c.args.bytes.now c.in_ok-first.rest.now c.in_ok-first.first c.requires.some c.in_ok-first.ensures.value;
      range = (c.in_ok-first.ensures.range, tt);
      some = omega arith;
      few = c.requires.some;
      shorter = omega (arith, shorter);
    })

pub returns-in_err-area-clause-value : goal.returns-in_err-area-clause-value
returns-in_err-area-clause-value c =
    let p = err_from_is_err_and c.from_residual-in_err-area.result c.from_residual-in_err-area.ensures.1 in
    let front = c.loop-areas.areas in
    let lt : length front < c.args.count = let is = c.len.ensures.value in let less = c.loop-areas-test.true in omega (arith, is, less) in
    let value = subst (λ (k : ℕ). Fails {Y = Area × List ℕ} c.in_err-area.field-0.0 (area_at (5 + k) c.loop-areas.rest.now)) (c.from.ensures ∙ c.len-in-loop-areas.ensures.value) c.in_err-area.ensures.value in
    rw (p.1, p.2) (area-broken front (c.args.count - length front) (5 + length front) c.loop-areas.rest.now c.in_err-area.field-0.0 (areas_at c.args.count 5 c.args.bytes.now) (omega (arith, lt)) value c.loop-areas.invariant.so_far)

pub loop-areas-preserved : goal.loop-areas-preserved
loop-areas-preserved c =
    let front = c.loop-areas.areas in
    let lt : length front < c.args.count = let is = c.len.ensures.value in let less = c.loop-areas-test.true in omega (arith, is, less) in
    let value = subst (λ (k : ℕ). area_at (5 + k) c.loop-areas.rest.now ≡ Ok (c.in_ok-area.area, c.in_ok-area.after.now)) (c.from.ensures ∙ c.len-in-loop-areas.ensures.value) c.in_ok-area.ensures.value in
    let longer : length (front ++ c.in_ok-area.area ∷ []) ≡ length front + 1 = length-append front (c.in_ok-area.area ∷ []) in
    let number : 5 + length (front ++ c.in_ok-area.area ∷ []) ≡ 5 + length front + 1 = omega (arith, longer) in
    let shorter = c.in_ok-area.ensures.shorter in
    let before = c.loop-areas.invariant.shorter in
    rw c.push.ensures (record {
      so_far = rw number (area-read front c.args.count (5 + length front) c.loop-areas.rest.now c.in_ok-area.after.now c.in_ok-area.area (areas_at c.args.count 5 c.args.bytes.now) lt value c.loop-areas.invariant.so_far);
      range = areas-append IsArea front c.in_ok-area.area c.loop-areas.invariant.range c.in_ok-area.ensures.range;
      some = omega (arith, longer);
      few = omega (arith, longer, lt);
      shorter = omega (arith, longer, shorter, before);
    })

pub returns-clause-value : goal.returns-clause-value
returns-clause-value c =
    let front = c.loop-areas.areas in
    let all : c.args.count ≤ length front = let is = c.len.ensures.value in let many = c.loop-areas-test.false in omega (arith, is, many) in
    areas-done front c.args.count (5 + length front) c.loop-areas.rest.now (areas_at c.args.count 5 c.args.bytes.now) all c.loop-areas.invariant.so_far
