use Rattle.std.proofs.Common.{ℕ, List, ◌+◌, ◌∙◌, ap, take}
use Rattle.trace_check.specs.Findings.{line_ends}
use Rattle.trace_check.proofs.Places.{common-front}
use Rattle.trace_check.proofs.checking.lines.differing_line.Goals as goal

pub returns : goal.returns
returns c =
    ap (λ (n : ℕ). n + 1) (c.line_ends.ensures.value
    ∙ ap (λ (t : List ℕ). line_ends t) (ap (λ (n : ℕ). take n c.args.text.now) c.common_len.ensures.value ∙ common-front c.args.text.now c.args.other.now))
