use Rattle.std.proofs.Common.{◌≡◌, ◌<◌, ℕ, List, [], length, ap, arith}
use Rattle.std.specs.List.{All}
use Rattle.std.proofs.lemmas.List.Elements.{All-push}
use Rattle.worked_cases.specs.declared.lines.Line.{Line}
use Rattle.worked_cases.specs.Lines.{IsLine}
use Rattle.worked_cases.proofs.LineLaws.{passed-more, line-first}
use Rattle.worked_cases.proofs.lines.lines_of.Goals as goal

-- something is left in the loop
is-some : (rest : List ℕ) → 0 < length rest → rest ≡ [] → ⊥
is-some rest some none = let zero : length rest ≡ 0 = ap length none in omega arith

pub loop-rest-preserved-in_ok-push : goal.loop-rest-preserved-in_ok-push
loop-rest-preserved-in_ok-push c =
    let some : 0 < length c.loop-rest.rest.now = grind arith in
    let line = line-first c.args.list.now c.loop-rest.rest.now c.loop-rest.number c.loop-rest.invariant.passed (is-some c.loop-rest.rest.now some) in
    record {
      bound = omega arith;
      passed = rw c.cut_at.ensures.behind (passed-more c.args.list.now c.loop-rest.rest.now c.loop-rest.number c.loop-rest.invariant.passed (is-some c.loop-rest.rest.now some));
      taken =
          let P : Line → Type 0 = λ line. IsLine c.args.list.now line.number line.text.now in
          let all : All P (c.push.new.self.items) = rw (c.in_ok-push.ensures.items) (All-push P _ _ c.loop-rest.invariant.taken (rw c.cut_at.ensures.front line)) in
          all;
    }

pub loop-rest-preserved : goal.loop-rest-preserved
loop-rest-preserved c =
    let some : 0 < length c.loop-rest.rest.now = grind arith in
    record {
      bound = omega arith;
      passed = rw c.cut_at.ensures.behind (passed-more c.args.list.now c.loop-rest.rest.now c.loop-rest.number c.loop-rest.invariant.passed (is-some c.loop-rest.rest.now some));
      taken = c.loop-rest.invariant.taken;
    }
