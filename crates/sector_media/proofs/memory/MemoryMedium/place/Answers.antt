use Rattle.sector_media.proofs.Rows.{rows-seen_within}
use Rattle.sector_media.proofs.memory.MemoryMedium.place.Goals as goal

pub returns-clause-fits : goal.returns-clause-fits
returns-clause-fits c = rows-seen_within _ _ _ _ c.args.row c.args.len c.self.view_is c.self.invariant c.requires
