-- From what was read of a source to the stream that it had.
use Rattle.std.proofs.Common.{◌≡◌, ℕ, List, [], ◌++◌, Option, Some, None, refl, sym, ap, subst, ◌∙◌}
use Rattle.std.specs.Prelude.{IfSome}
use Rattle.std.specs.Io.KnownBytes.{Appends, Consumes, IsAtEnd}
use Rattle.std.proofs.lemmas.List.{append-nil}
use Rattle.program_status.specs.declared.stops.ProgramStop.{ProgramStop}
use Rattle.program_status.specs.declared.stops.ProgramStop.TheVariants.{Usage, ReadFault, Found, Memory}
use Rattle.program_status.specs.Endings.{StopsBy}
use Rattle.target_frames.specs.State.{State, bytes_of}
use Rattle.target_frames.proofs.Streams.{stays_refused}
use Rattle.target_service.specs.declared.findings.ServiceLimit.{ServiceLimit}
use Rattle.target_service.specs.declared.findings.ServiceFinding.{ServiceFinding}
use Rattle.target_service.specs.declared.findings.ServiceFinding.TheVariants.{Refused, Ended, Over}
use Rattle.target_service.specs.declared.findings.ServiceStop.{ServiceStop}
use Rattle.target_service.specs.declared.findings.ServiceStop.TheVariants.{Noted, WriteFault}
use Rattle.target_service.specs.declared.open_service.OpenService.{OpenService}
use Rattle.target_service.specs.Served.{IsServed, IsBegun, IsReadTo}
use Rattle.target_service.specs.Found.{IsFoundServed, finding_line}
use Rattle.target_service.specs.Stops.{IsWritten}
use Rattle.target_service.specs.Progress.{IsAt, StopsStream}
use Rattle.target_service.specs.Endings.{StopsRun}
use Rattle.target_service.proofs.ItemSteps.{served-within}
use Rattle.target_service.proofs.StreamSteps.{begins-longer, at-reads, at-begun}

-- ---- from what was read to the whole stream

begun-longer : (read left replies : List ℕ) → IsBegun read replies → IsBegun (read ++ left) replies
begun-longer read left replies b = record { items = b.items; begins = begins-longer read left b.items b.begins; within = b.within; served = b.served }

-- a refused field and a limit stay what they are, whatever follows; the end doesn't come before the stream's
found-longer : (read left replies : List ℕ) (finding : ServiceFinding) → ((byte : ℕ) → finding ≡ Ended byte → left ≡ []) → IsFoundServed read finding replies → IsFoundServed (read ++ left) finding replies
found-longer read left replies (Refused byte) last (f, served) =
    (record { items = f.items; within = f.within; ends = stays_refused None 0 read left f.items byte f.ends }, served)
found-longer read left replies (Ended byte) last (f, served) =
    let same : read ≡ read ++ left = sym (append-nil read) ∙ ap (λ (t : List ℕ). read ++ t) (sym (last byte refl)) in
    subst (λ (t : List ℕ). IsFoundServed t (Ended byte) replies) same (f, served)
found-longer read left replies (Over limit) last (f, served) =
    (record { items = f.items; within = f.within; ends = (f.ends.0, (begins-longer read left _ f.ends.1.0, f.ends.1.1)) }, served)

-- the same of a stream that may not be known
pub begun-known : (input left : Option (List ℕ)) (read replies : List ℕ) → Consumes input left read → IsBegun read replies → IfSome input (λ stream. IsBegun stream replies)
begun-known None left read replies c b = tt
begun-known (Some stream) None read replies c b = absurd c
begun-known (Some stream) (Some left) read replies c b = subst (λ (t : List ℕ). IsBegun t replies) (sym c) (begun-longer read left replies b)

pub found-known : (input left : Option (List ℕ)) (read replies : List ℕ) (finding : ServiceFinding) → Consumes input left read → ((byte : ℕ) → finding ≡ Ended byte → IsAtEnd left)
    → IsFoundServed read finding replies → IfSome input (λ stream. IsFoundServed stream finding replies)
found-known None left read replies finding c last f = tt
found-known (Some stream) None read replies finding c last f = absurd c
found-known (Some stream) (Some left) read replies finding c last f =
    subst (λ (t : List ℕ). IsFoundServed t finding replies) (sym c) (found-longer read left replies finding last f)

pub served-known : (input left : Option (List ℕ)) (read replies : List ℕ) → Consumes input left read → IsAtEnd left → IsServed read replies → IfSome input (λ stream. IsServed stream replies)
served-known None left read replies c end s = tt
served-known (Some stream) None read replies c end s = absurd c
served-known (Some stream) (Some left) read replies c end s =
    let same : read ≡ stream = sym (append-nil read) ∙ ap (λ (t : List ℕ). read ++ t) (sym end) ∙ sym c in
    subst (λ (t : List ℕ). IsServed t replies) same s

-- a read failed where this was known
pub read-known : (input left : Option (List ℕ)) (read replies : List ℕ) (reader : State) (service : Option OpenService) → Consumes input left read → IsAt read replies reader service
    → IfSome input (λ stream. IsReadTo stream replies)
read-known None left read replies reader service c a = tt
read-known (Some stream) None read replies reader service c a = absurd c
read-known (Some stream) (Some left) read replies reader service c a =
    let both = served-within service a.given replies a.served in
    record {
      read = read;
      left = left;
      parted = c;
      items = a.given;
      rest = bytes_of reader.end;
      reads = at-reads read replies reader service a;
      within = both.0;
      served = both.1;
    }

-- ---- what stops a run

refused-goes_on : (byte n : ℕ) → Refused byte ≡ Ended n → ⊥
refused-goes_on byte n e = absurd cc

limit-goes_on : (limit : ServiceLimit) (n : ℕ) → Over limit ≡ Ended n → ⊥
limit-goes_on limit n e = absurd cc

-- it was stopped in a piece: nothing there is the end of the stream
pub piece-run : (input left : Option (List ℕ)) (before after : ℕ) (old new : Option (List ℕ)) (out_before out_after : ℕ) (read replies : List ℕ) (stop : ServiceStop) → Consumes input left read
    → IsWritten stop old new out_before out_after replies → StopsStream read replies stop
    → StopsRun input before after old new out_before out_after stop
piece-run input left before after old new out_before out_after read replies (Noted Usage) c w s = absurd s
piece-run input left before after old new out_before out_after read replies (Noted ReadFault) c w s = absurd s
piece-run input left before after old new out_before out_after read replies (Noted (Found (Refused byte) note)) c w s =
    ((replies, (found-known input left read replies (Refused byte) c (λ n is. absurd (refused-goes_on byte n is)) s.0, w)), s.1)
piece-run input left before after old new out_before out_after read replies (Noted (Found (Ended byte) note)) c w s = absurd s.0
piece-run input left before after old new out_before out_after read replies (Noted (Found (Over limit) note)) c w s =
    ((replies, (found-known input left read replies (Over limit) c (λ n is. absurd (limit-goes_on limit n is)) s.0, w)), s.1)
piece-run input left before after old new out_before out_after read replies (Noted Memory) c w s = (replies, (begun-known input left read replies c s, w))
piece-run input left before after old new out_before out_after read replies WriteFault c w s = (w.0, (replies, (begun-known input left read replies c s, w.1)))

-- it was stopped at the end
pub end-run : (input left : Option (List ℕ)) (before after : ℕ) (old new : Option (List ℕ)) (out_before out_after : ℕ) (read replies : List ℕ) (reader : State) (service : Option OpenService)
    (stop : ProgramStop ServiceFinding) → Consumes input left read → IsAtEnd left → Appends old new replies → IsAt read replies reader service
    → StopsBy finding_line (λ f. IsFoundServed read f replies) stop → StopsRun input before after old new out_before out_after (Noted stop)
end-run input left before after old new out_before out_after read replies reader service Usage c end w a s = absurd s
end-run input left before after old new out_before out_after read replies reader service ReadFault c end w a s = absurd s
end-run input left before after old new out_before out_after read replies reader service (Found finding note) c end w a s =
    ((replies, (found-known input left read replies finding c (λ byte is. end) s.0, w)), s.1)
end-run input left before after old new out_before out_after read replies reader service Memory c end w a s =
    (replies, (begun-known input left read replies c (at-begun read replies reader service a), w))
