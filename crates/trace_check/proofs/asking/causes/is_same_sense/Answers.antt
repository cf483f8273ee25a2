use Rattle.std.proofs.Common.{◌∙◌, sym, ap}
use Rattle.sense_data.specs.Senses.{spelling}
use Rattle.sense_data.specs.declared.senses.Sense.{Sense}
use Rattle.sense_data.proofs.Answers.{one_sense}
use Rattle.trace_check.proofs.asking.causes.is_same_sense.Goals as goal

pub returns : goal.returns
returns c =
    let a = c.encode-first.ensures in
    let b = c.encode-second.ensures in (
      λ t. one_sense c.args.a.now c.args.b.now a.spells.1 b.spells.1 (sym a.bytes ∙ c.are_same_bytes.ensures.0 t ∙ b.bytes),
      λ e. c.are_same_bytes.ensures.1 (a.bytes ∙ ap (λ (s : Sense). spelling s) e ∙ sym b.bytes),
    )
