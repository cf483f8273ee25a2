-- Which statuses an input is answered with, one that is accepted and one that isn't.
use Rattle.std.proofs.Common.{◌≡◌, ◌≢◌, ℕ, List, [], ◌∷◌, length, Option, Some, None, inl, inr, ◌⊎◌, ap, sym, subst, ◌∙◌}
use Rattle.std.specs.Prelude.{IfSome}
use Rattle.std.specs.Io.KnownBytes.{Appends}
use Rattle.array_journal.specs.declared.entry.Entry.{Entry}
use Rattle.host_scripts.specs.declared.script.Script.{Script}
use Rattle.outer_io.specs.Outside.{HasRisen}
use Rattle.program_status.specs.declared.stops.ProgramStop.{ProgramStop}
use Rattle.program_status.specs.declared.stops.ProgramStop.TheVariants.{Usage, ReadFault, Found, Memory}
use Rattle.program_status.specs.Statuses.{IsOneOf}
use Rattle.program_status.specs.Endings as endings
use Rattle.program_status.specs.Endings.{AfterReading, IsHanded, IsInputTaken}
use Rattle.program_status.proofs.Endings.{handed-cut_short, noted-after, noted-cut_short, noted-finding}
use Rattle.trace_check.specs.declared.checking.findings.CheckFinding.{CheckFinding}
use Rattle.trace_check.specs.Endings.{AsksCheck, IsCutShort, IsFoundBy, IsNoteCutShort, IsNoted, IsTold, StopsFor, finding_status, verdict_of}
use Rattle.trace_check.specs.Findings.{IsAccepted, IsFound}
use Rattle.trace_check.specs.Notes.{finding_line, accepted_line}
use Rattle.trace_check.proofs.Accepted.{accepted-not, one-run}
use Rattle.trace_check.proofs.OneFinding.{one-finding}

-- what becomes of noting what stopped a check
abbrev pub NotedStop : ℕ → ProgramStop CheckFinding → Option (List ℕ) → Option (List ℕ) → ℕ → ℕ → Type 0
NotedStop status stop old new before after = endings.IsNoted verdict_of stop old new before after status

-- what becomes of handing out the line of a run
abbrev pub HandedOut : ℕ → Option (List ℕ) → Option (List ℕ) → ℕ → ℕ → List ℕ → Type 0
HandedOut status old new before after text = IsHanded 0 text old new before after status

-- the answers to an input that is accepted, and to one that is found to be something else
abbrev pub Accepts : Option (List ℕ) → ℕ → Option (List ℕ) → Option (List ℕ) → Type 0
Accepts left status old new =
    IfSome left (λ input. (script : Script) (journal : List Entry) → IsAccepted input script journal → ((status ≡ 0) × Appends old new (accepted_line (length journal))) ⊎ IsOneOf (3 ∷ 4 ∷ 5 ∷ []) status)

abbrev pub Finds : Option (List ℕ) → ℕ → Option (List ℕ) → Option (List ℕ) → Type 0
Finds left status old new =
    IfSome left (λ input. (f : CheckFinding) → IsFound input f → ((status ≡ finding_status f) × Appends old new (finding_line f)) ⊎ IsOneOf (3 ∷ 4 ∷ 5 ∷ []) status)

-- ---- the input of a run

pub told-accepts : (words : List (List ℕ)) (left : Option (List ℕ)) (text : List ℕ) (status : ℕ) (old new : Option (List ℕ)) (ob oa : ℕ) → IsTold words left text → HandedOut status old new ob oa text → AsksCheck words → Accepts left status old new
told-accepts words None text status old new ob oa told e asks = tt
told-accepts words (Some input) text status old new ob oa told (inr e) asks = λ script journal a. inr (inr (inl e.0))
told-accepts words (Some input) text status old new ob oa told (inl e) asks = λ script journal a.
    let run = told.1.1.0 in
    let same : told.1.0 ≡ length journal = run.1.1.1 ∙ ap (λ (j : List Entry). length j) (one-run input run.0 script run.1.0 journal run.1.1.0.accepted a) in
    inl (e.0, subst (λ (t : List ℕ). Appends old new t) (told.1.1.1 ∙ ap (λ n. accepted_line n) same) e.1)

pub told-finds : (words : List (List ℕ)) (left : Option (List ℕ)) (text : List ℕ) (status : ℕ) (old new : Option (List ℕ)) → IsTold words left text → AsksCheck words → Finds left status old new
told-finds words None text status old new told asks = tt
told-finds words (Some input) text status old new told asks = λ f is. absurd (accepted-not input _ _ told.1.1.0.1.1.0.accepted f is)

-- ---- what stops a check

pub stop-accepts : (words : List (List ℕ)) (left : Option (List ℕ)) (before after status : ℕ) (stop : ProgramStop CheckFinding) (old new : Option (List ℕ)) (nb na : ℕ) (held given : Option (List ℕ)) → StopsFor words left before after stop → NotedStop status stop old new nb na
    → AsksCheck words → Accepts left status held given
stop-accepts words None before after status stop old new nb na held given s e asks = tt
stop-accepts words (Some input) before after status stop old new nb na held given s (inr e) asks = λ script journal a. inr (inr (inl e.0))
stop-accepts words (Some input) before after status Usage old new nb na held given s (inl e) asks = absurd (s asks)
stop-accepts words (Some input) before after status ReadFault old new nb na held given s (inl e) asks = λ script journal a. inr (inl e.0)
stop-accepts words (Some input) before after status (Found f note) old new nb na held given s (inl e) asks = λ script journal a. absurd (accepted-not input script journal a f s.0.1)
stop-accepts words (Some input) before after status Memory old new nb na held given s (inl e) asks = λ script journal a. inr (inr (inr (inl e.0)))

pub stop-finds : (words : List (List ℕ)) (left : Option (List ℕ)) (before after status : ℕ) (stop : ProgramStop CheckFinding) (old new : Option (List ℕ)) (nb na : ℕ) → StopsFor words left before after stop → NotedStop status stop old new nb na
    → AsksCheck words → Finds left status old new
stop-finds words None before after status stop old new nb na s e asks = tt
stop-finds words (Some input) before after status stop old new nb na s (inr e) asks = λ f is. inr (inr (inl e.0))
stop-finds words (Some input) before after status Usage old new nb na s (inl e) asks = absurd (s asks)
stop-finds words (Some input) before after status ReadFault old new nb na s (inl e) asks = λ f is. inr (inl e.0)
stop-finds words (Some input) before after status (Found g note) old new nb na s (inl e) asks = λ f is.
    let same = one-finding input g f s.0.1 is in
    inl (e.0 ∙ ap (λ (x : CheckFinding). finding_status x) same, subst (λ (t : List ℕ). Appends old new t) (s.1 ∙ ap (λ (x : CheckFinding). finding_line x) same) e.1)
stop-finds words (Some input) before after status Memory old new nb na s (inl e) asks = λ f is. inr (inr (inr (inl e.0)))

pub stop-complete : (words : List (List ℕ)) (left : Option (List ℕ)) (before after out_before out_after status : ℕ) (stop : ProgramStop CheckFinding) (old new : Option (List ℕ)) (nb na : ℕ) → StopsFor words left before after stop → NotedStop status stop old new nb na
    → AsksCheck words → IfSome left (λ input. (script : Script) (journal : List Entry) → IsAccepted input script journal → ¬ HasRisen before after → ¬ HasRisen out_before out_after → ¬ HasRisen nb na → IsOneOf (0 ∷ 5 ∷ []) status)
stop-complete words None before after ob oa status stop old new nb na s e asks = tt
stop-complete words (Some input) before after ob oa status stop old new nb na s (inr e) asks = λ script journal a read written noted. absurd (noted e.1)
stop-complete words (Some input) before after ob oa status Usage old new nb na s (inl e) asks = absurd (s asks)
stop-complete words (Some input) before after ob oa status ReadFault old new nb na s (inl e) asks = λ script journal a read written noted. absurd (read s.1)
stop-complete words (Some input) before after ob oa status (Found f note) old new nb na s (inl e) asks = λ script journal a read written noted. absurd (accepted-not input script journal a f s.0.1)
stop-complete words (Some input) before after ob oa status Memory old new nb na s (inl e) asks = λ script journal a read written noted. inr (inl e.0)

-- ---- a write fault

-- what a stop says once the input is read; one that comes of the words says nothing
read-after : (Said : Type 0) (words : List (List ℕ)) (left : Option (List ℕ)) (before after : ℕ) (stop : ProgramStop CheckFinding) → StopsFor words left before after stop → (AsksCheck words → AfterReading Said stop) → AfterReading Said stop
read-after Said words left before after Usage s whole = tt
read-after Said words left before after ReadFault s whole = tt
read-after Said words left before after (Found f note) s whole = whole s.0.0
read-after Said words left before after Memory s whole = tt

pub stop-cut_short : (words : List (List ℕ)) (left rest : Option (List ℕ)) (before after status : ℕ) (stop : ProgramStop CheckFinding) (old new : Option (List ℕ)) (nb na : ℕ) → StopsFor words left before after stop
    → (AsksCheck words → AfterReading (IsInputTaken left rest) stop) → NotedStop status stop old new nb na
    → status ≡ 4 → HasRisen nb na × IsNoteCutShort words left rest before after old new
stop-cut_short words left rest before after status stop old new nb na s whole e four =
    let cut = noted-cut_short verdict_of stop old new nb na status e four in
    (cut.0, (stop, (s, read-after (IsInputTaken left rest) words left before after stop s whole, cut.1)))

pub told-cut_short : (words : List (List ℕ)) (left rest : Option (List ℕ)) (text : List ℕ) (status : ℕ) (old new : Option (List ℕ)) (ob oa : ℕ) → IsTold words left text
    → (AsksCheck words → IsInputTaken left rest) → HandedOut status old new ob oa text → status ≡ 4 → HasRisen ob oa × IsCutShort words left old new × IsInputTaken left rest
told-cut_short words left rest text status old new ob oa told whole e four =
    let cut = handed-cut_short text old new ob oa status e four in
    (cut.0, (text, (told, cut.1)), whole told.0)

-- ---- a status that findings alone have

pub stop-noted : (words : List (List ℕ)) (left : Option (List ℕ)) (before after status n : ℕ) (stop : ProgramStop CheckFinding) (old new : Option (List ℕ)) (nb na : ℕ) → StopsFor words left before after stop → NotedStop status stop old new nb na
    → status ≡ n → n ≢ 3 → n ≢ 4 → n ≢ 5 → n ≢ 64 → IsNoted words left n old new
stop-noted words left before after status n stop old new nb na s e is three four five usage =
    let found = noted-finding (AsksCheck words → ⊥) (AsksCheck words) (AsksCheck words) before after verdict_of finding_line (IsFoundBy words left) stop old new nb na status n s e is three four five usage in
    (found.1.0.0, (found.0, (found.1.0.1, found.1.1)))

-- ---- what is read

-- a status that is none of these
not-read : (status n : ℕ) → status ≡ n → n ≢ 0 → n ≢ 1 → n ≢ 2 → n ≢ 7 → IsOneOf (0 ∷ 1 ∷ 2 ∷ 7 ∷ []) status → ⊥
not-read status n e zero one two seven (inl a) = zero (sym e ∙ a)
not-read status n e zero one two seven (inr (inl a)) = one (sym e ∙ a)
not-read status n e zero one two seven (inr (inr (inl a))) = two (sym e ∙ a)
not-read status n e zero one two seven (inr (inr (inr (inl a)))) = seven (sym e ∙ a)
not-read status n e zero one two seven (inr (inr (inr (inr none)))) = absurd none

pub stop-taken : (Said : Type 0) (status : ℕ) (stop : ProgramStop CheckFinding) (old new : Option (List ℕ)) (nb na : ℕ) → AfterReading Said stop → NotedStop status stop old new nb na → IsOneOf (0 ∷ 1 ∷ 2 ∷ 7 ∷ []) status → Said
stop-taken Said status stop old new nb na said e one =
    noted-after Said verdict_of stop old new nb na status said e
    (λ is. not-read status 3 is (λ a. cc a) (λ a. cc a) (λ a. cc a) (λ a. cc a) one)
    (λ is. not-read status 4 is (λ a. cc a) (λ a. cc a) (λ a. cc a) (λ a. cc a) one)
    (λ is. not-read status 5 is (λ a. cc a) (λ a. cc a) (λ a. cc a) (λ a. cc a) one)
    (λ is. not-read status 64 is (λ a. cc a) (λ a. cc a) (λ a. cc a) (λ a. cc a) one)
