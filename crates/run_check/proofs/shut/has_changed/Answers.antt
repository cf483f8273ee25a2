use Rattle.std.proofs.Common.{◌||◌, ap, ◌∙◌}
use Rattle.journal_index.specs.declared.acts_done.ActsDone.{ActsDone}
use Rattle.run_check.proofs.MediumChanged.{changes-some}
use Rattle.run_check.proofs.shut.has_changed.Goals as goal

pub returns : goal.returns
returns c = λ lock command past is. c.is_any.ensures ∙ ap (λ (d : ActsDone). d.put || d.diffed || d.folded) is ∙ changes-some lock command past
