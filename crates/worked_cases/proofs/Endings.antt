-- What follows of what stopped a list.
use Rattle.std.proofs.Common.{◌≡◌, ℕ, List, Option}
use Rattle.program_status.specs.declared.stops.ProgramStop.{ProgramStop}
use Rattle.program_status.specs.declared.stops.ProgramStop.TheVariants.{Usage, ReadFault, Found, Memory}
use Rattle.program_status.specs.Endings.{Counts, IsNoted, StopsProgram}
use Rattle.program_status.proofs.Endings.{noted-causes, noted-finding}
use Rattle.worked_cases.specs.declared.top.NoList.{NoList}
use Rattle.worked_cases.specs.Endings.{HasListCause, IsNoLineOf, IsNoList, StopsSource, no_list_line, verdict_of}

-- a program without words is stopped by what stops its reading
stops-program : (input : Option (List ℕ)) (before after : ℕ) (stop : ProgramStop NoList) → StopsSource input before after stop → StopsProgram ⊥ (Unit {0}) (Unit {0}) no_list_line (IsNoLineOf input) before after stop
stops-program input before after Usage s = absurd s
stops-program input before after ReadFault s = (tt, s)
stops-program input before after (Found finding note) s = s
stops-program input before after Memory s = tt

pub stop-causes : (input : Option (List ℕ)) (before after : Counts) (stop : ProgramStop NoList) (old new : Option (List ℕ)) (status : ℕ) →
    StopsSource input before.source after.source stop → IsNoted verdict_of stop old new before.notes after.notes status → HasListCause before after status
stop-causes input before after stop old new status s e =
    noted-causes ⊥ (Unit {0}) (Unit {0}) before after verdict_of no_list_line (IsNoLineOf input) stop old new status (stops-program input before.source after.source stop s) e

pub stop-refused : (input : Option (List ℕ)) (source now : ℕ) (stop : ProgramStop NoList) (old new : Option (List ℕ)) (before after status : ℕ) →
    StopsSource input source now stop → IsNoted verdict_of stop old new before after status → status ≡ 2 → IsNoList input old new
stop-refused input source now stop old new before after status s e two =
    let found = noted-finding ⊥ (Unit {0}) (Unit {0}) source now verdict_of no_list_line (IsNoLineOf input) stop old new before after status 2 (stops-program input source now stop s) e two (λ a. cc a) (λ a. cc a) (λ a. cc a) (λ a. cc a) in
    (found.0, (found.1.0, found.1.1.1))
