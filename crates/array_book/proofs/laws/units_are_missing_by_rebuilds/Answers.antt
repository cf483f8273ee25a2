use Rattle.array_book.proofs.MissingUnits.{missing-since}
use Rattle.array_book.proofs.laws.units_are_missing_by_rebuilds.Goals as goal

pub returns : goal.returns
returns c = λ target stripe past. missing-since target stripe past
