-- What stops a service, and what out has gained then.
use Rattle.std.specs.Prelude.{◌≡◌, ℕ, List, Option}
use Rattle.std.specs.Io.KnownBytes.{Appends}
use Rattle.outer_io.specs.Outside.{HasRisen, AppendsPrefix}
use Rattle.program_status.specs.declared.stops.ProgramStop.TheVariants.{Usage, ReadFault, Found, Memory}
use Rattle.target_service.specs.declared.findings.ServiceFinding.{ServiceFinding}
use Rattle.target_service.specs.declared.findings.ServiceStop.{ServiceStop}
use Rattle.target_service.specs.declared.findings.ServiceStop.TheVariants.{Noted, WriteFault}
use Rattle.target_service.specs.Found.{finding_line}

-- What stops it is told of how far it went, and of what was found. No word is looked at and nothing is read.
abbrev pub StopsServing : Type 0 → (ServiceFinding → Type 0) → ServiceStop → Type 0
StopsServing Part Is (Noted Usage) = ⊥
StopsServing Part Is (Noted ReadFault) = ⊥
StopsServing Part Is (Noted (Found finding note)) = Is finding × (note ≡ finding_line finding)
StopsServing Part Is (Noted Memory) = Part
StopsServing Part Is WriteFault = Part

-- what out has gained where a service is stopped: these replies, or a beginning of them where a write failed
abbrev pub IsWritten : ServiceStop → Option (List ℕ) → Option (List ℕ) → ℕ → ℕ → List ℕ → Type 0
IsWritten (Noted stop) old new before after replies = Appends old new replies
IsWritten WriteFault old new before after replies = HasRisen before after × AppendsPrefix old new replies

-- a write of this reply failed
abbrev pub IsWriteFault : ServiceStop → Option (List ℕ) → Option (List ℕ) → ℕ → ℕ → List ℕ → Type 0
IsWriteFault (Noted stop) old new before after reply = ⊥
IsWriteFault WriteFault old new before after reply = HasRisen before after × AppendsPrefix old new reply
