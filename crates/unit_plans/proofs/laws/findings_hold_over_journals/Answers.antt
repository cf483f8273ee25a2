use Rattle.unit_plans.proofs.Knowing.{targets-know, next-later, growth-seen}
use Rattle.unit_plans.proofs.laws.findings_hold_over_journals.Goals as goal

pub returns : goal.returns
returns c = record { knows = targets-know; later = next-later; seen = growth-seen }
