-- What follows from what stopped a service, by the status that it ended with.
use Rattle.std.proofs.Common.{◌≡◌, ◌≢◌, ◌⊎◌, ℕ, List, [], ◌∷◌, Option, Some, None, sym, ap, subst, ◌∙◌, inl, inr}
use Rattle.std.specs.Prelude.{IfSome}
use Rattle.std.specs.Io.KnownBytes.{Appends}
use Rattle.outer_io.specs.Outside.{HasRisen}
use Rattle.program_status.specs.declared.stops.ProgramStop.{ProgramStop}
use Rattle.program_status.specs.declared.stops.ProgramStop.TheVariants.{Usage, ReadFault, Found, Memory}
use Rattle.program_status.specs.Statuses.{IsOneOf, verdict_code}
use Rattle.program_status.specs.Stops.{noted_for}
use Rattle.program_status.specs.Endings.{Counts, HasCause, StopsProgram, IsNoted}
use Rattle.program_status.proofs.Endings.{noted-causes, noted-other, not-four, verdict-not_three, verdict-not_five, verdict-not_usage}
use Rattle.target_service.specs.declared.findings.ServiceFinding.{ServiceFinding}
use Rattle.target_service.specs.declared.findings.ServiceFinding.TheVariants as findings
use Rattle.target_service.specs.declared.findings.ServiceStop.{ServiceStop}
use Rattle.target_service.specs.declared.findings.ServiceStop.TheVariants.{Noted, WriteFault}
use Rattle.target_service.specs.Served.{IsWhole, IsServed, IsBegun, IsReadTo}
use Rattle.target_service.specs.Found.{IsFound, IsFoundServed, finding_line, finding_status, verdict_of}
use Rattle.target_service.specs.Endings.{AsksServe, Gains, IsCutShort, StopsNoted, StopsWork, IsFoundNoted, IsNoteCutShort, IsEnded}
use Rattle.target_service.proofs.OneFinding.{one-finding, whole-not_found}

-- ---- statuses: all was served

pub ok-finds : (input old new notes_old notes_new : Option (List ℕ)) (status : ℕ) → Gains input IsServed old new
    → IfSome input (λ stream. (finding : ServiceFinding) → IsFound stream finding → ((status ≡ finding_status finding) × Appends notes_old notes_new (finding_line finding)) ⊎ IsOneOf (3 ∷ 4 ∷ 5 ∷ []) status)
ok-finds None old new notes_old notes_new status g = tt
ok-finds (Some stream) old new notes_old notes_new status g = λ finding f. absurd (whole-not_found stream finding g.1.0.0 f)

pub ok-serves : (input : Option (List ℕ)) (status : ℕ) → status ≡ 0 → IfSome input (λ stream. IsWhole stream → IsOneOf (0 ∷ 3 ∷ 4 ∷ 5 ∷ []) status)
ok-serves None status e = tt
ok-serves (Some stream) status e = λ w. inl e

pub ok-complete : (input : Option (List ℕ)) (source source_now out out_now notes notes_now status : ℕ) → status ≡ 0
    → IfSome input (λ stream. IsWhole stream → ¬ HasRisen source source_now → ¬ HasRisen out out_now → ¬ HasRisen notes notes_now → IsOneOf (0 ∷ 5 ∷ []) status)
ok-complete None source source_now out out_now notes notes_now status e = tt
ok-complete (Some stream) source source_now out out_now notes notes_now status e = λ w read written noted. inl e

-- a status isn't two numbers
clash : {A : Type 0} (status m n : ℕ) → status ≡ m → m ≢ n → status ≡ n → A
clash status m n e apart f = absurd (apart (sym e ∙ f))

pub ok-causes : (words : List (List ℕ)) (before after : Counts) (status : ℕ) → status ≡ 0 → HasCause (AsksServe words → ⊥) (AsksServe words) (AsksServe words) before after status
ok-causes words before after status e = record {
  read_fault = clash status 0 3 e (λ a. cc a);
  write_fault = clash status 0 4 e (λ a. cc a);
  no_memory = clash status 0 5 e (λ a. cc a);
  usage = clash status 0 64 e (λ a. cc a);
}

-- ---- statuses: something went to notes

to-program : (words : List (List ℕ)) (input : Option (List ℕ)) (before after : ℕ) (old new : Option (List ℕ)) (stop : ProgramStop ServiceFinding) → StopsNoted words input before after old new stop
    → StopsProgram (AsksServe words → ⊥) (AsksServe words) (AsksServe words) finding_line (λ f. Unit {0}) before after stop
to-program words input before after old new Usage s = s.0
to-program words input before after old new ReadFault s = (s.0, s.1)
to-program words input before after old new (Found finding note) s = (tt, s.2)
to-program words input before after old new Memory s = s.0

pub stop-causes : (words : List (List ℕ)) (input : Option (List ℕ)) (before after : Counts) (old new : Option (List ℕ)) (stop : ProgramStop ServiceFinding) (notes_old notes_new : Option (List ℕ)) (status : ℕ)
    → StopsNoted words input before.source after.source old new stop → IsNoted verdict_of stop notes_old notes_new before.notes after.notes status
    → HasCause (AsksServe words → ⊥) (AsksServe words) (AsksServe words) before after status
stop-causes words input before after old new stop notes_old notes_new status s noted =
    noted-causes (AsksServe words → ⊥) (AsksServe words) (AsksServe words) before after verdict_of finding_line (λ f. Unit {0}) stop notes_old notes_new status
    (to-program words input before.source after.source old new stop s) noted

module _ (words : List (List ℕ)) (input : Option (List ℕ)) (before after : ℕ) (old new notes_old notes_new : Option (List ℕ)) (notes_before notes_after status : ℕ) where
  -- a finding's status comes with what is found
  pub stop-found : (n : ℕ) (stop : ProgramStop ServiceFinding) → StopsNoted words input before after old new stop → IsNoted verdict_of stop notes_old notes_new notes_before notes_after status
      → status ≡ n → n ≢ 3 → n ≢ 4 → n ≢ 5 → n ≢ 64 → AsksServe words × IsFoundNoted input n old new notes_old notes_new
  stop-found n stop s (inr e) is three four five usage = absurd (four (sym is ∙ e.0))
  stop-found n Usage s (inl e) is three four five usage = absurd (usage (sym is ∙ e.0))
  stop-found n ReadFault s (inl e) is three four five usage = absurd (three (sym is ∙ e.0))
  stop-found n (Found finding note) s (inl e) is three four five usage =
      (s.0, (finding, (s.1, sym e.0 ∙ is, subst (λ (t : List ℕ). Appends notes_old notes_new t) s.2 e.1)))
  stop-found n Memory s (inl e) is three four five usage = absurd (five (sym is ∙ e.0))

  pub stop-read : (stop : ProgramStop ServiceFinding) → StopsNoted words input before after old new stop → IsNoted verdict_of stop notes_old notes_new notes_before notes_after status
      → status ≡ 3 → Gains input IsReadTo old new
  stop-read stop s (inr e) is = clash status 4 3 e.0 (λ a. cc a) is
  stop-read Usage s (inl e) is = clash status 64 3 e.0 (λ a. cc a) is
  stop-read ReadFault s (inl e) is = s.2
  stop-read (Found finding note) s (inl e) is = clash status (verdict_code (verdict_of finding)) 3 e.0 (verdict-not_three (verdict_of finding)) is
  stop-read Memory s (inl e) is = clash status 5 3 e.0 (λ a. cc a) is

  pub stop-memory : (stop : ProgramStop ServiceFinding) → StopsNoted words input before after old new stop → IsNoted verdict_of stop notes_old notes_new notes_before notes_after status
      → status ≡ 5 → Gains input IsBegun old new
  stop-memory stop s (inr e) is = clash status 4 5 e.0 (λ a. cc a) is
  stop-memory Usage s (inl e) is = clash status 64 5 e.0 (λ a. cc a) is
  stop-memory ReadFault s (inl e) is = clash status 3 5 e.0 (λ a. cc a) is
  stop-memory (Found finding note) s (inl e) is = clash status (verdict_code (verdict_of finding)) 5 e.0 (verdict-not_five (verdict_of finding)) is
  stop-memory Memory s (inl e) is = s.1

  pub stop-cut : (stop : ProgramStop ServiceFinding) → StopsNoted words input before after old new stop → IsNoted verdict_of stop notes_old notes_new notes_before notes_after status
      → status ≡ 4 → HasRisen notes_before notes_after × IsNoteCutShort words input before after old new notes_old notes_new
  stop-cut stop s (inl e) is = absurd (not-four verdict_of stop (sym e.0 ∙ is))
  stop-cut stop s (inr e) is = (e.1, (stop, (s, e.2)))

  pub stop-usage : (stop : ProgramStop ServiceFinding) → StopsNoted words input before after old new stop → IsNoted verdict_of stop notes_old notes_new notes_before notes_after status
      → (AsksServe words → ⊥) → IsOneOf (64 ∷ 4 ∷ []) status
  stop-usage stop s (inr e) unasked = inr (inl e.0)
  stop-usage Usage s (inl e) unasked = inl e.0
  stop-usage ReadFault s (inl e) unasked = absurd (unasked s.0)
  stop-usage (Found finding note) s (inl e) unasked = absurd (unasked s.0)
  stop-usage Memory s (inl e) unasked = absurd (unasked s.0)

-- what is found of a known stream is what the service found
one-status : (stream replies : List ℕ) (found finding : ServiceFinding) (note : List ℕ) (status : ℕ) (notes_old notes_new : Option (List ℕ)) → IsFoundServed stream found replies → note ≡ finding_line found
    → status ≡ finding_status found → Appends notes_old notes_new note → IsFound stream finding
    → (status ≡ finding_status finding) × Appends notes_old notes_new (finding_line finding)
one-status stream replies found finding note status notes_old notes_new f line is noted g =
    let same : found ≡ finding = one-finding stream found finding f.0 g in
    (is ∙ ap finding_status same, subst (λ (t : List ℕ). Appends notes_old notes_new t) (line ∙ ap finding_line same) noted)

pub stop-finds : (words : List (List ℕ)) (input : Option (List ℕ)) (before after : ℕ) (old new notes_old notes_new : Option (List ℕ)) (notes_before notes_after status : ℕ) (stop : ProgramStop ServiceFinding)
    → StopsNoted words input before after old new stop → IsNoted verdict_of stop notes_old notes_new notes_before notes_after status → AsksServe words
    → IfSome input (λ stream. (finding : ServiceFinding) → IsFound stream finding → ((status ≡ finding_status finding) × Appends notes_old notes_new (finding_line finding)) ⊎ IsOneOf (3 ∷ 4 ∷ 5 ∷ []) status)
stop-finds words None before after old new notes_old notes_new notes_before notes_after status stop s noted asks = tt
stop-finds words (Some stream) before after old new notes_old notes_new notes_before notes_after status stop s (inr e) asks = λ finding g. inr (inr (inl e.0))
stop-finds words (Some stream) before after old new notes_old notes_new notes_before notes_after status Usage s (inl e) asks = absurd (s.0 asks)
stop-finds words (Some stream) before after old new notes_old notes_new notes_before notes_after status ReadFault s (inl e) asks = λ finding g. inr (inl e.0)
stop-finds words (Some stream) before after old new notes_old notes_new notes_before notes_after status (Found found note) s (inl e) asks =
    λ finding g. inl (one-status stream s.1.0 found finding note status notes_old notes_new s.1.1.0 s.2 e.0 e.1 g)
stop-finds words (Some stream) before after old new notes_old notes_new notes_before notes_after status Memory s (inl e) asks = λ finding g. inr (inr (inr (inl e.0)))

pub stop-serves : (words : List (List ℕ)) (input : Option (List ℕ)) (before after : ℕ) (old new notes_old notes_new : Option (List ℕ)) (notes_before notes_after status : ℕ) (stop : ProgramStop ServiceFinding)
    → StopsNoted words input before after old new stop → IsNoted verdict_of stop notes_old notes_new notes_before notes_after status → AsksServe words
    → IfSome input (λ stream. IsWhole stream → IsOneOf (0 ∷ 3 ∷ 4 ∷ 5 ∷ []) status)
stop-serves words None before after old new notes_old notes_new notes_before notes_after status stop s noted asks = tt
stop-serves words (Some stream) before after old new notes_old notes_new notes_before notes_after status stop s (inr e) asks = λ w. inr (inr (inl e.0))
stop-serves words (Some stream) before after old new notes_old notes_new notes_before notes_after status Usage s (inl e) asks = absurd (s.0 asks)
stop-serves words (Some stream) before after old new notes_old notes_new notes_before notes_after status ReadFault s (inl e) asks = λ w. inr (inl e.0)
stop-serves words (Some stream) before after old new notes_old notes_new notes_before notes_after status (Found found note) s (inl e) asks = λ w. absurd (whole-not_found stream found w s.1.1.0.0)
stop-serves words (Some stream) before after old new notes_old notes_new notes_before notes_after status Memory s (inl e) asks = λ w. inr (inr (inr (inl e.0)))

pub stop-complete : (words : List (List ℕ)) (input : Option (List ℕ)) (before after : ℕ) (old new notes_old notes_new : Option (List ℕ)) (out_before out_after notes_before notes_after status : ℕ) (stop : ProgramStop ServiceFinding)
    → StopsNoted words input before after old new stop → IsNoted verdict_of stop notes_old notes_new notes_before notes_after status → AsksServe words
    → IfSome input (λ stream. IsWhole stream → ¬ HasRisen before after → ¬ HasRisen out_before out_after → ¬ HasRisen notes_before notes_after → IsOneOf (0 ∷ 5 ∷ []) status)
stop-complete words None before after old new notes_old notes_new out_before out_after notes_before notes_after status stop s noted asks = tt
stop-complete words (Some stream) before after old new notes_old notes_new out_before out_after notes_before notes_after status stop s (inr e) asks = λ w source out notes. absurd (notes e.1)
stop-complete words (Some stream) before after old new notes_old notes_new out_before out_after notes_before notes_after status Usage s (inl e) asks = absurd (s.0 asks)
stop-complete words (Some stream) before after old new notes_old notes_new out_before out_after notes_before notes_after status ReadFault s (inl e) asks = λ w source out notes. absurd (source s.1)
stop-complete words (Some stream) before after old new notes_old notes_new out_before out_after notes_before notes_after status (Found found note) s (inl e) asks =
    λ w source out notes. absurd (whole-not_found stream found w s.1.1.0.0)
stop-complete words (Some stream) before after old new notes_old notes_new out_before out_after notes_before notes_after status Memory s (inl e) asks = λ w source out notes. inr (inl e.0)

-- ---- statuses: something stopped it

-- no finding has the status of success
finding-not_zero : (finding : ServiceFinding) → finding_status finding ≢ 0
finding-not_zero (findings.Refused byte) = λ a. cc a
finding-not_zero (findings.Ended byte) = λ a. cc a
finding-not_zero (findings.Over limit) = λ a. cc a

-- it has one of these two
finding-one_of : (finding : ServiceFinding) (status : ℕ) → status ≡ finding_status finding → IsOneOf (0 ∷ 2 ∷ 3 ∷ 4 ∷ 5 ∷ 7 ∷ 64 ∷ []) status
finding-one_of (findings.Refused byte) status e = inr (inl e)
finding-one_of (findings.Ended byte) status e = inr (inl e)
finding-one_of (findings.Over limit) status e = inr (inr (inr (inr (inr (inl e)))))

-- and none of those that go without a finding
finding-apart : (finding : ServiceFinding) (status : ℕ) → IsOneOf (0 ∷ 3 ∷ 5 ∷ 64 ∷ []) status → status ≢ finding_status finding
finding-apart finding status (inl e) = λ f. finding-not_zero finding (sym f ∙ e)
finding-apart finding status (inr (inl e)) = λ f. verdict-not_three (verdict_of finding) (sym f ∙ e)
finding-apart finding status (inr (inr (inl e))) = λ f. verdict-not_five (verdict_of finding) (sym f ∙ e)
finding-apart finding status (inr (inr (inr (inl e)))) = λ f. verdict-not_usage (verdict_of finding) (sym f ∙ e)
finding-apart finding status (inr (inr (inr (inr none)))) = absurd none

four-apart : (status : ℕ) → IsOneOf (0 ∷ 3 ∷ 5 ∷ 64 ∷ []) status → status ≢ 4
four-apart status (inl e) = λ f. clash status 0 4 e (λ a. cc a) f
four-apart status (inr (inl e)) = λ f. clash status 3 4 e (λ a. cc a) f
four-apart status (inr (inr (inl e))) = λ f. clash status 5 4 e (λ a. cc a) f
four-apart status (inr (inr (inr (inl e)))) = λ f. clash status 64 4 e (λ a. cc a) f
four-apart status (inr (inr (inr (inr none)))) = absurd none

stop-not_zero : (stop : ProgramStop ServiceFinding) (notes_old notes_new : Option (List ℕ)) (before after status : ℕ) → IsNoted verdict_of stop notes_old notes_new before after status → status ≢ 0
stop-not_zero stop notes_old notes_new before after status (inr e) = λ f. clash status 4 0 e.0 (λ a. cc a) f
stop-not_zero Usage notes_old notes_new before after status (inl e) = λ f. clash status 64 0 e.0 (λ a. cc a) f
stop-not_zero ReadFault notes_old notes_new before after status (inl e) = λ f. clash status 3 0 e.0 (λ a. cc a) f
stop-not_zero (Found finding note) notes_old notes_new before after status (inl e) = λ f. finding-not_zero finding (sym e.0 ∙ f)
stop-not_zero Memory notes_old notes_new before after status (inl e) = λ f. clash status 5 0 e.0 (λ a. cc a) f

stop-one_of : (stop : ProgramStop ServiceFinding) (notes_old notes_new : Option (List ℕ)) (before after status : ℕ) → IsNoted verdict_of stop notes_old notes_new before after status
    → IsOneOf (0 ∷ 2 ∷ 3 ∷ 4 ∷ 5 ∷ 7 ∷ 64 ∷ []) status
stop-one_of stop notes_old notes_new before after status (inr e) = inr (inr (inr (inl e.0)))
stop-one_of Usage notes_old notes_new before after status (inl e) = inr (inr (inr (inr (inr (inr (inl e.0))))))
stop-one_of ReadFault notes_old notes_new before after status (inl e) = inr (inr (inl e.0))
stop-one_of (Found finding note) notes_old notes_new before after status (inl e) = finding-one_of finding status e.0
stop-one_of Memory notes_old notes_new before after status (inl e) = inr (inr (inr (inr (inl e.0))))

-- with status 4 nothing is said of findings
four-finds : (input notes_old notes_new : Option (List ℕ)) (status : ℕ) → status ≡ 4
    → IfSome input (λ stream. (finding : ServiceFinding) → IsFound stream finding → ((status ≡ finding_status finding) × Appends notes_old notes_new (finding_line finding)) ⊎ IsOneOf (3 ∷ 4 ∷ 5 ∷ []) status)
four-finds None notes_old notes_new status four = tt
four-finds (Some stream) notes_old notes_new status four = λ finding f. inr (inr (inl four))

if-some : (input : Option (List ℕ)) (Said : Type 0) → Said → IfSome input (λ stream. IsWhole stream → Said)
if-some None Said said = tt
if-some (Some stream) Said said = λ w. said

unwritten-complete : (input : Option (List ℕ)) (source source_now out out_now notes notes_now status : ℕ) → HasRisen out out_now
    → IfSome input (λ stream. IsWhole stream → ¬ HasRisen source source_now → ¬ HasRisen out out_now → ¬ HasRisen notes notes_now → IsOneOf (0 ∷ 5 ∷ []) status)
unwritten-complete None source source_now out out_now notes notes_now status risen = tt
unwritten-complete (Some stream) source source_now out out_now notes notes_now status risen = λ w read written noted. absurd (written risen)

pub ended-not_zero : (stop : ServiceStop) (notes_old notes_new : Option (List ℕ)) (notes notes_now status : ℕ) → IsEnded stop notes_old notes_new notes notes_now status → status ≢ 0
ended-not_zero (Noted stop) notes_old notes_new notes notes_now status e = stop-not_zero stop notes_old notes_new notes notes_now status e
ended-not_zero WriteFault notes_old notes_new notes notes_now status e = λ f. clash status 4 0 e.0 (λ a. cc a) f

pub ended-one_of : (stop : ServiceStop) (notes_old notes_new : Option (List ℕ)) (notes notes_now status : ℕ) → IsEnded stop notes_old notes_new notes notes_now status
    → IsOneOf (0 ∷ 2 ∷ 3 ∷ 4 ∷ 5 ∷ 7 ∷ 64 ∷ []) status
ended-one_of (Noted stop) notes_old notes_new notes notes_now status e = stop-one_of stop notes_old notes_new notes notes_now status e
ended-one_of WriteFault notes_old notes_new notes notes_now status e = inr (inr (inr (inl e.0)))

pub ended-noted : (stop : ServiceStop) (notes_old notes_new : Option (List ℕ)) (notes notes_now status : ℕ) → IsEnded stop notes_old notes_new notes notes_now status
    → IsOneOf (0 ∷ 3 ∷ 5 ∷ 64 ∷ []) status → Appends notes_old notes_new (noted_for status)
ended-noted (Noted stop) notes_old notes_new notes notes_now status e one =
    noted-other verdict_of stop notes_old notes_new notes notes_now status e (four-apart status one) (λ finding. finding-apart finding status one)
ended-noted WriteFault notes_old notes_new notes notes_now status e one = absurd (four-apart status one e.0)

-- the same of all that stops it; that a reply wasn't written is status 4
module _ (words : List (List ℕ)) (input : Option (List ℕ)) (source source_now : ℕ) (old new : Option (List ℕ)) (out out_now : ℕ) (notes_old notes_new : Option (List ℕ)) (notes notes_now status : ℕ) where
  pub ended-found : (n : ℕ) (stop : ServiceStop) → StopsWork words input source source_now old new out out_now stop → IsEnded stop notes_old notes_new notes notes_now status
      → status ≡ n → n ≢ 3 → n ≢ 4 → n ≢ 5 → n ≢ 64 → AsksServe words × IsFoundNoted input n old new notes_old notes_new
  ended-found n (Noted stop) s e is three four five usage =
      stop-found words input source source_now old new notes_old notes_new notes notes_now status n stop s e is three four five usage
  ended-found n WriteFault s e is three four five usage = absurd (four (sym is ∙ e.0))

  pub ended-read : (stop : ServiceStop) → StopsWork words input source source_now old new out out_now stop → IsEnded stop notes_old notes_new notes notes_now status
      → status ≡ 3 → Gains input IsReadTo old new
  ended-read (Noted stop) s e is = stop-read words input source source_now old new notes_old notes_new notes notes_now status stop s e is
  ended-read WriteFault s e is = clash status 4 3 e.0 (λ a. cc a) is

  pub ended-write : (stop : ServiceStop) → StopsWork words input source source_now old new out out_now stop → IsEnded stop notes_old notes_new notes notes_now status
      → status ≡ 4 → (HasRisen out out_now × IsCutShort input old new × (notes_new ≡ notes_old))
      ⊎ (HasRisen notes notes_now × IsNoteCutShort words input source source_now old new notes_old notes_new)
  ended-write (Noted stop) s e is = inr (stop-cut words input source source_now old new notes_old notes_new notes notes_now status stop s e is)
  ended-write WriteFault s e is = inl (s.1, s.2, e.1)

  pub ended-memory : (stop : ServiceStop) → StopsWork words input source source_now old new out out_now stop → IsEnded stop notes_old notes_new notes notes_now status
      → status ≡ 5 → Gains input IsBegun old new
  ended-memory (Noted stop) s e is = stop-memory words input source source_now old new notes_old notes_new notes notes_now status stop s e is
  ended-memory WriteFault s e is = clash status 4 5 e.0 (λ a. cc a) is

  pub ended-causes : (stop : ServiceStop) → StopsWork words input source source_now old new out out_now stop → IsEnded stop notes_old notes_new notes notes_now status
      → HasCause (AsksServe words → ⊥) (AsksServe words) (AsksServe words)
      (record { source = source; out = out; notes = notes }) (record { source = source_now; out = out_now; notes = notes_now }) status
  ended-causes (Noted stop) s e = stop-causes words input (record { source = source; out = out; notes = notes }) (record { source = source_now; out = out_now; notes = notes_now }) old new stop notes_old notes_new status s e
  ended-causes WriteFault s e = record {
    read_fault = clash status 4 3 e.0 (λ a. cc a);
    write_fault = λ four. inl s.1;
    no_memory = clash status 4 5 e.0 (λ a. cc a);
    usage = clash status 4 64 e.0 (λ a. cc a);
  }

  pub ended-usage : (stop : ServiceStop) → StopsWork words input source source_now old new out out_now stop → IsEnded stop notes_old notes_new notes notes_now status
      → (AsksServe words → ⊥) → IsOneOf (64 ∷ 4 ∷ []) status
  ended-usage (Noted stop) s e unasked = stop-usage words input source source_now old new notes_old notes_new notes notes_now status stop s e unasked
  ended-usage WriteFault s e unasked = absurd (unasked s.0)

  pub ended-serves : (stop : ServiceStop) → StopsWork words input source source_now old new out out_now stop → IsEnded stop notes_old notes_new notes notes_now status
      → AsksServe words → IfSome input (λ stream. IsWhole stream → IsOneOf (0 ∷ 3 ∷ 4 ∷ 5 ∷ []) status)
  ended-serves (Noted stop) s e asks = stop-serves words input source source_now old new notes_old notes_new notes notes_now status stop s e asks
  ended-serves WriteFault s e asks = if-some input (IsOneOf (0 ∷ 3 ∷ 4 ∷ 5 ∷ []) status) (inr (inr (inl e.0)))

  pub ended-finds : (stop : ServiceStop) → StopsWork words input source source_now old new out out_now stop → IsEnded stop notes_old notes_new notes notes_now status
      → AsksServe words → IfSome input (λ stream. (finding : ServiceFinding) → IsFound stream finding →
      ((status ≡ finding_status finding) × Appends notes_old notes_new (finding_line finding)) ⊎ IsOneOf (3 ∷ 4 ∷ 5 ∷ []) status)
  ended-finds (Noted stop) s e asks = stop-finds words input source source_now old new notes_old notes_new notes notes_now status stop s e asks
  ended-finds WriteFault s e asks = four-finds input notes_old notes_new status e.0

  pub ended-complete : (stop : ServiceStop) → StopsWork words input source source_now old new out out_now stop → IsEnded stop notes_old notes_new notes notes_now status
      → AsksServe words → IfSome input (λ stream. IsWhole stream → ¬ HasRisen source source_now → ¬ HasRisen out out_now → ¬ HasRisen notes notes_now → IsOneOf (0 ∷ 5 ∷ []) status)
  ended-complete (Noted stop) s e asks =
      stop-complete words input source source_now old new notes_old notes_new out out_now notes notes_now status stop s e asks
  ended-complete WriteFault s e asks = unwritten-complete input source source_now out out_now notes notes_now status s.1
