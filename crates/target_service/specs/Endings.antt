-- How a service ends, and why.
use Rattle.std.specs.Prelude.{ℕ, ◌≡◌, List, [], ◌∷◌, codes, Option, IfSome}
use Rattle.std.specs.Io.KnownBytes.{Appends}
use Rattle.outer_io.specs.Outside.{HasRisen, AppendsPrefix}
use Rattle.program_status.specs.declared.stops.ProgramStop.{ProgramStop}
use Rattle.program_status.specs.declared.stops.ProgramStop.TheVariants.{Usage, ReadFault, Found, Memory}
use Rattle.program_status.specs.Stops.{note_of}
use Rattle.program_status.specs.Endings.{IsNoted}
use Rattle.target_service.specs.declared.findings.ServiceFinding.{ServiceFinding}
use Rattle.target_service.specs.declared.findings.ServiceStop.{ServiceStop}
use Rattle.target_service.specs.declared.findings.ServiceStop.TheVariants.{Noted, WriteFault}
use Rattle.target_service.specs.Served.{IsBegun, IsReadTo}
use Rattle.target_service.specs.Found.{IsFoundServed, finding_line, finding_status, verdict_of}

-- the words ask for a service
abbrev pub AsksServe : List (List ℕ) → Type 0
AsksServe words = words ≡ codes "serve" ∷ []

-- out has gained replies that are so for the stream, where that is known
abbrev pub Gains : Option (List ℕ) → (List ℕ → List ℕ → Type 0) → Option (List ℕ) → Option (List ℕ) → Type 0
Gains input Are old new = (replies : List ℕ) × (IfSome input (λ stream. Are stream replies) × Appends old new replies)

-- out has gained a beginning of the replies to the first frames of the stream
abbrev pub IsCutShort : Option (List ℕ) → Option (List ℕ) → Option (List ℕ) → Type 0
IsCutShort input old new = (replies : List ℕ) × (IfSome input (λ stream. IsBegun stream replies) × AppendsPrefix old new replies)

-- out has gained the replies to the frames before this was found
abbrev pub GainsFound : Option (List ℕ) → ServiceFinding → Option (List ℕ) → Option (List ℕ) → Type 0
GainsFound input finding old new = Gains input (λ stream replies. IsFoundServed stream finding replies) old new

-- What stops a service, whose words aren't looked at: a read or a write failed, this was found with its line, or memory ran
-- out; and what out has gained then.
abbrev pub StopsRun : Option (List ℕ) → ℕ → ℕ → Option (List ℕ) → Option (List ℕ) → ℕ → ℕ → ServiceStop → Type 0
StopsRun input before after old new out_before out_after (Noted Usage) = ⊥
StopsRun input before after old new out_before out_after (Noted ReadFault) = HasRisen before after × Gains input IsReadTo old new
StopsRun input before after old new out_before out_after (Noted (Found finding note)) = GainsFound input finding old new × (note ≡ finding_line finding)
StopsRun input before after old new out_before out_after (Noted Memory) = Gains input IsBegun old new
StopsRun input before after old new out_before out_after WriteFault = HasRisen out_before out_after × IsCutShort input old new

-- the same of what goes to notes, with the words that are for other programs
abbrev pub StopsNoted : List (List ℕ) → Option (List ℕ) → ℕ → ℕ → Option (List ℕ) → Option (List ℕ) → ProgramStop ServiceFinding → Type 0
StopsNoted words input before after old new Usage = (AsksServe words → ⊥) × (new ≡ old)
StopsNoted words input before after old new ReadFault = AsksServe words × HasRisen before after × Gains input IsReadTo old new
StopsNoted words input before after old new (Found finding note) = AsksServe words × GainsFound input finding old new × (note ≡ finding_line finding)
StopsNoted words input before after old new Memory = AsksServe words × Gains input IsBegun old new

abbrev pub StopsWork : List (List ℕ) → Option (List ℕ) → ℕ → ℕ → Option (List ℕ) → Option (List ℕ) → ℕ → ℕ → ServiceStop → Type 0
StopsWork words input before after old new out_before out_after (Noted stop) = StopsNoted words input before after old new stop
StopsWork words input before after old new out_before out_after WriteFault = AsksServe words × HasRisen out_before out_after × IsCutShort input old new

-- the line of what was found is noted, and it has this status
abbrev pub IsFoundNoted : Option (List ℕ) → ℕ → Option (List ℕ) → Option (List ℕ) → Option (List ℕ) → Option (List ℕ) → Type 0
IsFoundNoted input status old new notes_old notes_new =
    (finding : ServiceFinding) × (GainsFound input finding old new × (finding_status finding ≡ status) × Appends notes_old notes_new (finding_line finding))

-- notes have gained a beginning of the line of what stopped the service
abbrev pub IsNoteCutShort : List (List ℕ) → Option (List ℕ) → ℕ → ℕ → Option (List ℕ) → Option (List ℕ) → Option (List ℕ) → Option (List ℕ) → Type 0
IsNoteCutShort words input before after old new notes_old notes_new =
    (stop : ProgramStop ServiceFinding) × (StopsNoted words input before after old new stop × AppendsPrefix notes_old notes_new (note_of stop))

-- ---- how the process ends then

-- with the line that goes with the stop in notes, or a beginning of it; with 4 and nothing there where a reply wasn't written
abbrev pub IsEnded : ServiceStop → Option (List ℕ) → Option (List ℕ) → ℕ → ℕ → ℕ → Type 0
IsEnded (Noted stop) old new before after status = IsNoted verdict_of stop old new before after status
IsEnded WriteFault old new before after status = (status ≡ 4) × (new ≡ old)
