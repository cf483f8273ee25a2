-- A stream that is read piece by piece.
use Rattle.std.proofs.Common.{◌≡◌, ◌≤◌, ℕ, ◌+◌, List, [], ◌++◌, length, take, Option, None, refl, arith}
use Rattle.std.specs.Io.KnownBytes.{Appends, Consumes, IsAtEnd}
use Rattle.std.proofs.lemmas.List.{length-append}
use Rattle.outer_io.specs.Outside.{HasRisen}
use Rattle.outer_io.proofs.Known.{Appends-none, Appends-more, Consumes-none, Consumes-more, Consumes-after_none, HasRisen-since}
use Rattle.program_status.specs.declared.stops.ProgramStop.{ProgramStop}
use Rattle.program_status.specs.declared.stops.ProgramStop.TheVariants.{ReadFault, Memory}
use Rattle.program_status.specs.Endings.{StopsBy}
use Rattle.target_frames.specs.State.{State, Follows, IsReading}
use Rattle.target_service.specs.declared.findings.ServiceFinding.{ServiceFinding}
use Rattle.target_service.specs.declared.findings.ServiceStop.{ServiceStop}
use Rattle.target_service.specs.declared.findings.ServiceStop.TheVariants.{Noted}
use Rattle.target_service.specs.declared.open_service.OpenService.{OpenService}
use Rattle.target_service.specs.Served.{IsServed}
use Rattle.target_service.specs.Found.{IsFoundServed, finding_line}
use Rattle.target_service.specs.Stops.{IsWritten}
use Rattle.target_service.specs.Progress.{IsAt, StopsStream}
use Rattle.target_service.specs.Endings.{Gains, StopsRun}
use Rattle.target_service.proofs.ItemSteps.{written-after}
use Rattle.target_service.proofs.StreamSteps.{at-begun}
use Rattle.target_service.proofs.KnownStreams.{begun-known, served-known, read-known, piece-run, end-run}

-- what is known when some of the source was read: its first bytes, and the replies that out has gained
pub record IsRead (input left before after : Option (List ℕ)) (reader : State) (service : Option OpenService) (bytes : ℕ) : Type 0 where
  pub read : List ℕ
  pub replies : List ℕ
  pub taken : Consumes input left read
  pub written : Appends before after replies
  pub at : IsAt read replies reader service
  pub count : bytes ≡ length read

-- nothing was read
pub none-read : (input before : Option (List ℕ)) (reader : State) → Follows [] [] reader → IsReading reader → IsRead input input before before reader None 0
none-read input before reader follows reading = record {
  read = [];
  replies = [];
  taken = Consumes-none input;
  written = Appends-none before;
  at = record { given = []; follows = follows; reading = reading; known = refl; served = (refl, refl) };
  count = refl;
}

-- a piece was read and served
pub read-next : (input mid left before between after : Option (List ℕ)) (old new : State) (s t : Option OpenService) (bytes count : ℕ) (piece replies : List ℕ) (r : IsRead input mid before between old s bytes)
    → Consumes mid left piece → length piece ≡ count → Appends between after replies
    → ((read sent : List ℕ) → IsAt read sent old s → IsAt (read ++ piece) (sent ++ replies) new t) → IsRead input left before after new t (bytes + count)
read-next input mid left before between after old new s t bytes count piece replies r taken many written next = record {
  read = r.read ++ piece;
  replies = r.replies ++ replies;
  taken = Consumes-more input mid left r.read piece r.taken taken;
  written = Appends-more before between after r.replies replies r.written written;
  at = next r.read r.replies r.at;
  count = omega (arith, r.count, many, length-append r.read piece);
}

-- a piece was read, and the service stopped in it
pub read-stops : (input mid left before between after : Option (List ℕ)) (old : State) (s : Option OpenService) (bytes : ℕ) (first next now source source_now : ℕ) (piece replies : List ℕ) (stop : ServiceStop)
    (r : IsRead input mid before between old s bytes) → Consumes mid left piece → first ≤ next → IsWritten stop between after next now replies
    → ((read sent : List ℕ) → IsAt read sent old s → StopsStream (read ++ piece) (sent ++ replies) stop) → StopsRun input source source_now before after first now stop
read-stops input mid left before between after old s bytes first next now source source_now piece replies stop r taken below written stops =
    piece-run input left source source_now before after first now (r.read ++ piece) (r.replies ++ replies) stop (Consumes-more input mid left r.read piece r.taken taken)
    (written-after stop before between after first next now r.replies replies r.written below written) (stops r.read r.replies r.at)

-- nothing more was read
pub read-none : (input mid left before after : Option (List ℕ)) (reader : State) (s : Option OpenService) (bytes count : ℕ) (buffer : List ℕ) → IsRead input mid before after reader s bytes
    → Consumes mid left (take count buffer) → count ≡ 0 → IsRead input left before after reader s bytes
read-none input mid left before after reader s bytes count buffer r taken none = record {
  read = r.read;
  replies = r.replies;
  taken = Consumes-after_none input mid left r.read buffer count r.taken taken none;
  written = r.written;
  at = r.at;
  count = r.count;
}

-- the end was met, behind whole items
pub read-whole : (input left before after : Option (List ℕ)) (reader : State) (s : Option OpenService) (bytes : ℕ) (r : IsRead input left before after reader s bytes) → IsAtEnd left
    → ((read sent : List ℕ) → IsAt read sent reader s → IsServed read sent) → Gains input IsServed before after
read-whole input left before after reader s bytes r end whole =
    (r.replies, (served-known input left r.read r.replies r.taken end (whole r.read r.replies r.at), r.written))

-- the end was met inside an item
pub read-ended : (input left before after : Option (List ℕ)) (reader : State) (s : Option OpenService) (bytes source source_now first now : ℕ) (stop : ProgramStop ServiceFinding)
    (r : IsRead input left before after reader s bytes) → IsAtEnd left
    → ((read sent : List ℕ) → IsAt read sent reader s → bytes ≡ length read → StopsBy finding_line (λ f. IsFoundServed read f sent) stop)
    → StopsRun input source source_now before after first now (Noted stop)
read-ended input left before after reader s bytes source source_now first now stop r end ended =
    end-run input left source source_now before after first now r.read r.replies reader s stop r.taken end r.written r.at (ended r.read r.replies r.at r.count)

-- a read failed
pub read-failed : (input left before after : Option (List ℕ)) (reader : State) (s : Option OpenService) (bytes source next source_now first now : ℕ) (r : IsRead input left before after reader s bytes)
    → source ≤ next → HasRisen next source_now → StopsRun input source source_now before after first now (Noted ReadFault)
read-failed input left before after reader s bytes source next source_now first now r below risen =
    (HasRisen-since source next source_now below risen, (r.replies, (read-known input left r.read r.replies reader s r.taken r.at, r.written)))

-- there were more reads than are made
pub read-wanting : (input left before after : Option (List ℕ)) (reader : State) (s : Option OpenService) (bytes source source_now first now : ℕ) (r : IsRead input left before after reader s bytes)
    → StopsRun input source source_now before after first now (Noted Memory)
read-wanting input left before after reader s bytes source source_now first now r =
    (r.replies, (begun-known input left r.read r.replies r.taken (at-begun r.read r.replies reader s r.at), r.written))
