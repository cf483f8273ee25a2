-- Which statuses a command can end with.
use Rattle.std.proofs.Common.{◌≡◌, ◌≢◌, ℕ, ◌⊎◌, ◌≤◌, List, [], ◌∷◌, length, sym, subst, ◌∙◌, ap, inl, inr, arith, Option, Some, None}
use Rattle.std.specs.Prelude.{IfSome}
use Rattle.std.specs.Io.KnownBytes.{Appends, IsAtEnd}
use Rattle.array_journal.specs.declared.entry.Entry.{Entry}
use Rattle.xor_cli.specs.declared.decoding.faults.DecodeFault.{DecodeFault}
use Rattle.xor_cli.specs.declared.decoding.values.DecodedValue.{DecodedValue}
use Rattle.xor_cli.specs.declared.refusals.Refusal.{Refusal}
use Rattle.program_status.specs.declared.notes.Excess.{Excess}
use Rattle.program_status.specs.declared.notes.Excess.TheVariants as excesses
use Rattle.program_status.specs.declared.stops.ProgramStop.{ProgramStop}
use Rattle.program_status.specs.declared.stops.ProgramStop.TheVariants.{Usage, ReadFault, Found, Memory}
use Rattle.program_status.specs.Statuses.{IsOneOf, verdict_code, code_of}
use Rattle.program_status.specs.Stops.{noted_for, note_of, status_of}
use Rattle.program_status.specs.Notes.{excess_line}
use Rattle.program_status.specs.Endings.{IsHanded, IsNoted}
use Rattle.program_status.proofs.Endings.{handed-cut_short, noted-cut_short, noted-other}
use Rattle.xor_cli.specs.declared.findings.ToolFinding.{ToolFinding}
use Rattle.xor_cli.specs.declared.findings.ToolFinding.TheVariants.{Refused, Exceeded, Undecodable}
use Rattle.xor_cli.specs.declared.words.RunCommand.{RunCommand}
use Rattle.xor_cli.specs.declared.words.ToolCommand.TheVariants.{Run, Decode}
use Rattle.outer_io.specs.Outside.{HasRisen, input_limit}
use Rattle.xor_cli.specs.Words.{SpellsNoToolCommand, AskRun, AskReading, IsCommand}
use Rattle.xor_cli.specs.DecodeTexts.{value_line, fault_line}
use Rattle.xor_cli.specs.RefusalTexts.{refusal_line}
use Rattle.xor_cli.specs.Inputs.{Subject, IsAccepted, IsRefused, IsLater, IsExcess}
use Rattle.xor_cli.specs.Endings.{IsRefusalNoted, IsExcessNoted, IsOutput, IsDone, IsCutShort}
use Rattle.xor_cli.specs.Statuses.{StopsFor, IsFoundBy, IsStopOf, IsLeftBy, IsNoteCutShort, IsMadeOf, verdict_of, later_refusal}
use Rattle.std.proofs.KnownBytes.{Appends-nil}
use Rattle.xor_cli.proofs.WordLaws.{run-apart, one-run}
use Rattle.xor_cli.proofs.Inputs.{accepted-refused, accepted-excess, refused-excess, refused-one, excess-one}

-- ---- a command that made something

-- nothing is noted of what was done
pub noted-done : (known : Option (List ℕ)) (status : ℕ) → status ≡ 0 → Appends known known (noted_for status)
noted-done known status e = let P : ℕ → Type 0 = λ s. Appends known known (noted_for s) in subst P (sym e) (Appends-nil known)

-- what was made was asked for
pub made-command : (words : List (List ℕ)) (left : Option (List ℕ)) (journal : List Entry) (text : List ℕ) → IsOutput words left journal text → IsCommand words
made-command words left journal text (inl (run, (subject, has))) = (Run run, has.command)
made-command words left journal text (inr (format, (bytes, (value, (decoded, e))))) = (Decode format bytes, decoded.command)

-- what was run is an input that is accepted
made-accepted : (words : List (List ℕ)) (run : RunCommand) (input : List ℕ) (journal : List Entry) (text : List ℕ) → IsOutput words (Some input) journal text → AskRun run words → (subject : Subject run) × IsAccepted run input subject
made-accepted words run input journal text (inl (other, (subject, has))) w =
    let P : RunCommand → Type 0 = λ r. (subject : Subject r) × IsAccepted r input subject in
    subst P (one-run words other run has.command w) (subject, has.spelt)
made-accepted words run input journal text (inr (format, (bytes, (value, (decoded, e))))) w = absurd (run-apart words format bytes (run, w) decoded.command)

pub made-refuses : (words : List (List ℕ)) (run : RunCommand) (left : Option (List ℕ)) (status : ℕ) (journal : List Entry) (text : List ℕ) (old new : Option (List ℕ)) → IsOutput words left journal text → AskRun run words
    → IfSome left (λ input. (refusal : Refusal) → IsRefused run input refusal → ((status ≡ 2) × Appends old new (refusal_line refusal)) ⊎ IsOneOf (3 ∷ 4 ∷ 5 ∷ []) status)
made-refuses words run None status journal text old new made w = tt
made-refuses words run (Some input) status journal text old new made w = λ refusal refused.
    let accepted = made-accepted words run input journal text made w in absurd (accepted-refused run input accepted.0 refusal accepted.1 refused)

pub made-limits : (words : List (List ℕ)) (run : RunCommand) (left : Option (List ℕ)) (status : ℕ) (journal : List Entry) (text : List ℕ) (old new : Option (List ℕ)) → IsOutput words left journal text → AskRun run words
    → IfSome left (λ input. (excess : Excess) → IsExcess run input excess → ((status ≡ 7) × Appends old new (excess_line excess)) ⊎ IsOneOf (3 ∷ 4 ∷ 5 ∷ []) status)
made-limits words run None status journal text old new made w = tt
made-limits words run (Some input) status journal text old new made w = λ excess is.
    let accepted = made-accepted words run input journal text made w in absurd (accepted-excess run input accepted.0 excess accepted.1 is)

-- what becomes of writing out what was made
abbrev pub WrittenOut : ℕ → Option (List ℕ) → Option (List ℕ) → List ℕ → ℕ → ℕ → Type 0
WrittenOut status old new text before after = IsHanded 0 text old new before after status

-- a value's line was handed out
pub made-decodes : (value : DecodedValue) (status : ℕ) (before after : Option (List ℕ)) (rb ra : ℕ) (journal : List Entry) (text : List ℕ) → IsMadeOf value journal text → WrittenOut status before after text rb ra
    → ((status ≡ 0) × Appends before after (value_line value)) ⊎ IsOneOf (4 ∷ 5 ∷ []) status
made-decodes value status before after rb ra journal text made (inl e) = let P : List ℕ → Type 0 = λ t. Appends before after t in inl (e.0, subst P made.1 e.1)
made-decodes value status before after rb ra journal text made (inr e) = inr (inl e.0)

output-kept : (words : List (List ℕ)) (left : Option (List ℕ)) (journal kept : List Entry) (text : List ℕ) → IsOutput words left journal text → kept ≡ journal → IsOutput words left kept text
output-kept words left journal kept text made same = let P : List Entry → Type 0 = λ j. IsOutput words left j text in subst P (sym same) made

pub made-done : (words : List (List ℕ)) (left before after : Option (List ℕ)) (status rb ra : ℕ) (journal kept : List Entry) (text : List ℕ) → IsOutput words left journal text → kept ≡ journal → WrittenOut status before after text rb ra → status ≡ 0 → IsDone words left before after kept
made-done words left before after status rb ra journal kept text made same (inl e) zero = (text, (output-kept words left journal kept text made same, e.1))
made-done words left before after status rb ra journal kept text made same (inr e) zero = absurd (omega (arith, e.0, zero))

pub made-cut_short : (words : List (List ℕ)) (left before after : Option (List ℕ)) (status rb ra : ℕ) (journal kept : List Entry) (text : List ℕ) → IsOutput words left journal text → kept ≡ journal → WrittenOut status before after text rb ra → status ≡ 4 → HasRisen rb ra × IsCutShort words left before after kept
made-cut_short words left before after status rb ra journal kept text made same e four =
    let cut = handed-cut_short text before after rb ra status e four in
    (cut.0, (text, (output-kept words left journal kept text made same, cut.1)))

-- an input that was run ends with what became of writing its text
pub made-runs : (run : RunCommand) (left before after : Option (List ℕ)) (status rb ra : ℕ) (text : List ℕ) → WrittenOut status before after text rb ra → IfSome left (λ input. (subject : Subject run) → IsAccepted run input subject → IsOneOf (0 ∷ 3 ∷ 4 ∷ 5 ∷ []) status)
made-runs run None before after status rb ra text e = tt
made-runs run (Some input) before after status rb ra text (inl e) = λ subject accepted. inl e.0
made-runs run (Some input) before after status rb ra text (inr e) = λ subject accepted. inr (inr (inl e.0))

pub made-complete : (run : RunCommand) (left before after : Option (List ℕ)) (status sb sa rb ra nb na : ℕ) (text : List ℕ) → WrittenOut status before after text rb ra
    → IfSome left (λ input. (subject : Subject run) → IsAccepted run input subject → ¬ HasRisen sb sa → ¬ HasRisen rb ra → ¬ HasRisen nb na → IsOneOf (0 ∷ 5 ∷ []) status)
made-complete run None before after status sb sa rb ra nb na text e = tt
made-complete run (Some input) before after status sb sa rb ra nb na text (inl e) = λ subject accepted read written note. inl e.0
made-complete run (Some input) before after status sb sa rb ra nb na text (inr e) = λ subject accepted read written note. absurd (written e.1)

-- ---- a command that was stopped

-- what becomes of noting it
abbrev pub NotedStop : ℕ → ProgramStop ToolFinding → Option (List ℕ) → Option (List ℕ) → ℕ → ℕ → Type 0
NotedStop status stop old new before after = IsNoted verdict_of stop old new before after status

pub stop-refused : (words : List (List ℕ)) (left : Option (List ℕ)) (before after status : ℕ) (stop : ProgramStop ToolFinding) (old new : Option (List ℕ)) (nb na : ℕ) → StopsFor words left before after stop → NotedStop status stop old new nb na → status ≡ 2 → IsRefusalNoted words left old new
stop-refused words left before after status Usage old new nb na s (inl e) two = absurd (omega (arith, e.0, two))
stop-refused words left before after status ReadFault old new nb na s (inl e) two = absurd (omega (arith, e.0, two))
stop-refused words left before after status (Found (Refused refusal) note) old new nb na s (inl e) two = (note, (inl (s.0.0, (refusal, (s.0.1.0, s.0.1.1, s.1))), e.1))
stop-refused words left before after status (Found (Exceeded excess) note) old new nb na s (inl e) two = absurd (omega (arith, e.0, two))
stop-refused words left before after status (Found (Undecodable fault) note) old new nb na s (inl e) two = (note, (inr (s.0.0, (s.0.1.0, (fault, (s.0.1.1, s.1)))), e.1))
stop-refused words left before after status Memory old new nb na s (inl e) two = absurd (omega (arith, e.0, two))
stop-refused words left before after status stop old new nb na s (inr e) two = absurd (omega (arith, e.0, two))

pub stop-exceeded : (words : List (List ℕ)) (left : Option (List ℕ)) (before after status : ℕ) (stop : ProgramStop ToolFinding) (old new : Option (List ℕ)) (nb na : ℕ) → StopsFor words left before after stop → NotedStop status stop old new nb na → status ≡ 7 → IsExcessNoted words left old new
stop-exceeded words left before after status Usage old new nb na s (inl e) seven = absurd (omega (arith, e.0, seven))
stop-exceeded words left before after status ReadFault old new nb na s (inl e) seven = absurd (omega (arith, e.0, seven))
stop-exceeded words left before after status (Found (Refused refusal) note) old new nb na s (inl e) seven = absurd (omega (arith, e.0, seven))
stop-exceeded words left before after status (Found (Exceeded excess) note) old new nb na s (inl e) seven =
    let P : List ℕ → Type 0 = λ t. Appends old new t in (s.0.0, (excess, (s.0.1.0, s.0.1.1, subst P s.1 e.1)))
stop-exceeded words left before after status (Found (Undecodable fault) note) old new nb na s (inl e) seven = absurd (omega (arith, e.0, seven))
stop-exceeded words left before after status Memory old new nb na s (inl e) seven = absurd (omega (arith, e.0, seven))
stop-exceeded words left before after status stop old new nb na s (inr e) seven = absurd (omega (arith, e.0, seven))

pub stop-no_other : (status : ℕ) (stop : ProgramStop ToolFinding) (old new : Option (List ℕ)) (nb na : ℕ) → NotedStop status stop old new nb na → IsOneOf (0 ∷ 2 ∷ 3 ∷ 4 ∷ 5 ∷ 7 ∷ 64 ∷ []) status
stop-no_other status Usage old new nb na (inl e) = inr (inr (inr (inr (inr (inr (inl e.0))))))
stop-no_other status ReadFault old new nb na (inl e) = inr (inr (inl e.0))
stop-no_other status (Found (Refused refusal) note) old new nb na (inl e) = inr (inl e.0)
stop-no_other status (Found (Exceeded excess) note) old new nb na (inl e) = inr (inr (inr (inr (inr (inl e.0)))))
stop-no_other status (Found (Undecodable fault) note) old new nb na (inl e) = inr (inl e.0)
stop-no_other status Memory old new nb na (inl e) = inr (inr (inr (inr (inl e.0))))
stop-no_other status stop old new nb na (inr e) = inr (inr (inr (inl e.0)))

-- ---- an input that is accepted

no-command : (words : List (List ℕ)) → SpellsNoToolCommand words → IsCommand words → ⊥
no-command words none (command, spelt) = none command spelt

reading-command : (words : List (List ℕ)) → AskReading words → IsCommand words
reading-command words (run, spelt) = (Run run, spelt)

-- words that ask for a run don't ask what bytes are
run-undecodable : (words : List (List ℕ)) (left : Option (List ℕ)) (fault : DecodeFault) → AskReading words → IsFoundBy words left (Undecodable fault) → ⊥
run-undecodable words left fault w (format, (bytes, has)) = run-apart words format bytes w has.command

-- what is found of the input of a run is found of the run that the words ask for
refused-here : (words : List (List ℕ)) (run : RunCommand) (input : List ℕ) (refusal : Refusal) → AskRun run words → IsFoundBy words (Some input) (Refused refusal) → IsRefused run input refusal
refused-here words run input refusal w (other, (asked, refused)) =
    let P : RunCommand → Type 0 = λ r. IsRefused r input refusal in subst P (one-run words other run asked w) refused

excess-here : (words : List (List ℕ)) (run : RunCommand) (input : List ℕ) (excess : Excess) → AskRun run words → IsFoundBy words (Some input) (Exceeded excess) → IsExcess run input excess
excess-here words run input excess w (other, (asked, is)) =
    let P : RunCommand → Type 0 = λ r. IsExcess r input excess in subst P (one-run words other run asked w) is

-- where an input that is accepted was to be run, a stop is a read fault or want of memory
stop-accepted : (words : List (List ℕ)) (run : RunCommand) (input : List ℕ) (before after status : ℕ) (stop : ProgramStop ToolFinding) (old new : Option (List ℕ)) (nb na : ℕ) (subject : Subject run) → AskRun run words → IsAccepted run input subject → StopsFor words (Some input) before after stop → NotedStop status stop old new nb na → ((status ≡ 3) × HasRisen before after) ⊎ (((status ≡ 4) × HasRisen nb na) ⊎ (status ≡ 5))
stop-accepted words run input before after status stop old new nb na subject w accepted s (inr e) = inr (inl (e.0, e.1))
stop-accepted words run input before after status Usage old new nb na subject w accepted s (inl e) = absurd (no-command words s (Run run, w))
stop-accepted words run input before after status ReadFault old new nb na subject w accepted s (inl e) = inl (e.0, s.1)
stop-accepted words run input before after status (Found (Refused refusal) note) old new nb na subject w accepted s (inl e) = absurd (accepted-refused run input subject refusal accepted (refused-here words run input refusal w s.0))
stop-accepted words run input before after status (Found (Exceeded excess) note) old new nb na subject w accepted s (inl e) = absurd (accepted-excess run input subject excess accepted (excess-here words run input excess w s.0))
stop-accepted words run input before after status (Found (Undecodable fault) note) old new nb na subject w accepted s (inl e) = absurd (run-undecodable words (Some input) fault (run, w) s.0)
stop-accepted words run input before after status Memory old new nb na subject w accepted s (inl e) = inr (inr e.0)

three-of : (before after nb na status : ℕ) → ((status ≡ 3) × HasRisen before after) ⊎ (((status ≡ 4) × HasRisen nb na) ⊎ (status ≡ 5)) → IsOneOf (0 ∷ 3 ∷ 4 ∷ 5 ∷ []) status
three-of before after nb na status (inl e) = inr (inl e.0)
three-of before after nb na status (inr (inl e)) = inr (inr (inl e.0))
three-of before after nb na status (inr (inr e)) = inr (inr (inr (inl e)))

pub stop-runs : (words : List (List ℕ)) (run : RunCommand) (left : Option (List ℕ)) (before after status : ℕ) (stop : ProgramStop ToolFinding) (old new : Option (List ℕ)) (nb na : ℕ) → StopsFor words left before after stop → NotedStop status stop old new nb na → AskRun run words → IfSome left (λ input. (subject : Subject run) → IsAccepted run input subject → IsOneOf (0 ∷ 3 ∷ 4 ∷ 5 ∷ []) status)
stop-runs words run None before after status stop old new nb na s e w = tt
stop-runs words run (Some input) before after status stop old new nb na s e w = λ subject accepted. three-of before after nb na status (stop-accepted words run input before after status stop old new nb na subject w accepted s e)

-- where no count rose, only want of memory keeps it from being run
unrisen : (before after nb na status : ℕ) → ¬ HasRisen before after → ¬ HasRisen nb na → ((status ≡ 3) × HasRisen before after) ⊎ (((status ≡ 4) × HasRisen nb na) ⊎ (status ≡ 5)) → IsOneOf (0 ∷ 5 ∷ []) status
unrisen before after nb na status read note (inl e) = absurd (read e.1)
unrisen before after nb na status read note (inr (inl e)) = absurd (note e.1)
unrisen before after nb na status read note (inr (inr e)) = inr (inl e)

pub stop-complete : (words : List (List ℕ)) (run : RunCommand) (left : Option (List ℕ)) (before after out status : ℕ) (stop : ProgramStop ToolFinding) (old new : Option (List ℕ)) (nb na : ℕ) → StopsFor words left before after stop → NotedStop status stop old new nb na → AskRun run words
    → IfSome left (λ input. (subject : Subject run) → IsAccepted run input subject → ¬ HasRisen before after → ¬ HasRisen out out → ¬ HasRisen nb na → IsOneOf (0 ∷ 5 ∷ []) status)
stop-complete words run None before after out status stop old new nb na s e w = tt
stop-complete words run (Some input) before after out status stop old new nb na s e w = λ subject accepted read written note.
    unrisen before after nb na status read note (stop-accepted words run input before after status stop old new nb na subject w accepted s e)

-- ---- an input that is refused

pub stop-refuses : (words : List (List ℕ)) (run : RunCommand) (left : Option (List ℕ)) (before after status : ℕ) (stop : ProgramStop ToolFinding) (old new : Option (List ℕ)) (nb na : ℕ) → StopsFor words left before after stop → NotedStop status stop old new nb na → AskRun run words
    → IfSome left (λ input. (refusal : Refusal) → IsRefused run input refusal → ((status ≡ 2) × Appends old new (refusal_line refusal)) ⊎ IsOneOf (3 ∷ 4 ∷ 5 ∷ []) status)
stop-refuses words run None before after status stop old new nb na s e w = tt
stop-refuses words run (Some input) before after status stop old new nb na s (inr e) w = λ refusal refused. inr (inr (inl e.0))
stop-refuses words run (Some input) before after status Usage old new nb na s (inl e) w = λ refusal refused. absurd (no-command words s (Run run, w))
stop-refuses words run (Some input) before after status ReadFault old new nb na s (inl e) w = λ refusal refused. inr (inl e.0)
stop-refuses words run (Some input) before after status (Found (Refused first) note) old new nb na s (inl e) w = λ refusal refused.
    let P : List ℕ → Type 0 = λ t. Appends old new t in inl (e.0, subst P (s.1 ∙ ap refusal_line (refused-one run input first refusal (refused-here words run input first w s.0) refused)) e.1)
stop-refuses words run (Some input) before after status (Found (Exceeded excess) note) old new nb na s (inl e) w = λ refusal refused. absurd (refused-excess run input refusal excess refused (excess-here words run input excess w s.0))
stop-refuses words run (Some input) before after status (Found (Undecodable fault) note) old new nb na s (inl e) w = absurd (run-undecodable words (Some input) fault (run, w) s.0)
stop-refuses words run (Some input) before after status Memory old new nb na s (inl e) w = λ refusal refused. inr (inr (inr (inl e.0)))

-- a line that can't be run yet is such a refusal
pub later-refuses : (run : RunCommand) (left : Option (List ℕ)) (status : ℕ) (old new : Option (List ℕ)) → IfSome left (λ input. (refusal : Refusal) → IsRefused run input refusal → ((status ≡ 2) × Appends old new (refusal_line refusal)) ⊎ IsOneOf (3 ∷ 4 ∷ 5 ∷ []) status)
    → IfSome left (λ input. (line : ℕ) → IsLater run input line → ((status ≡ 2) × Appends old new (refusal_line (later_refusal line))) ⊎ IsOneOf (3 ∷ 4 ∷ 5 ∷ []) status)
later-refuses run None status old new h = tt
later-refuses run (Some input) status old new h = λ line later. h (later_refusal line) later

-- ---- an input with too much of something

pub stop-limits : (words : List (List ℕ)) (run : RunCommand) (left : Option (List ℕ)) (before after status : ℕ) (stop : ProgramStop ToolFinding) (old new : Option (List ℕ)) (nb na : ℕ) → StopsFor words left before after stop → NotedStop status stop old new nb na → AskRun run words
    → IfSome left (λ input. (excess : Excess) → IsExcess run input excess → ((status ≡ 7) × Appends old new (excess_line excess)) ⊎ IsOneOf (3 ∷ 4 ∷ 5 ∷ []) status)
stop-limits words run None before after status stop old new nb na s e w = tt
stop-limits words run (Some input) before after status stop old new nb na s (inr e) w = λ excess is. inr (inr (inl e.0))
stop-limits words run (Some input) before after status Usage old new nb na s (inl e) w = λ excess is. absurd (no-command words s (Run run, w))
stop-limits words run (Some input) before after status ReadFault old new nb na s (inl e) w = λ excess is. inr (inl e.0)
stop-limits words run (Some input) before after status (Found (Refused refusal) note) old new nb na s (inl e) w = λ excess is. absurd (refused-excess run input refusal excess (refused-here words run input refusal w s.0) is)
stop-limits words run (Some input) before after status (Found (Exceeded first) note) old new nb na s (inl e) w = λ excess is.
    let P : List ℕ → Type 0 = λ t. Appends old new t in inl (e.0, subst P (s.1 ∙ ap excess_line (excess-one run input first excess (excess-here words run input first w s.0) is)) e.1)
stop-limits words run (Some input) before after status (Found (Undecodable fault) note) old new nb na s (inl e) w = absurd (run-undecodable words (Some input) fault (run, w) s.0)
stop-limits words run (Some input) before after status Memory old new nb na s (inl e) w = λ excess is. inr (inr (inr (inl e.0)))

-- ---- bytes to decode

-- where a value was to be decoded, only want of memory stops it
pub stop-decodes : (value : DecodedValue) (status : ℕ) (stop : ProgramStop ToolFinding) (old new before after : Option (List ℕ)) (nb na : ℕ) → stop ≡ Memory → NotedStop status stop old new nb na → ((status ≡ 0) × Appends before after (value_line value)) ⊎ IsOneOf (4 ∷ 5 ∷ []) status
stop-decodes value status stop old new before after nb na m (inl e) = let P : ProgramStop ToolFinding → Type 0 = λ x. status ≡ code_of (status_of verdict_of x) in inr (inr (inl (subst P m e.0)))
stop-decodes value status stop old new before after nb na m (inr e) = inr (inl e.0)

-- where bytes have a fault, the stop says it, unless memory is wanting
pub stop-faults : (fault : DecodeFault) (status : ℕ) (stop : ProgramStop ToolFinding) (old new : Option (List ℕ)) (nb na : ℕ) → IsStopOf (Undecodable fault) stop → NotedStop status stop old new nb na → ((status ≡ 2) × Appends old new (fault_line fault)) ⊎ IsOneOf (4 ∷ 5 ∷ []) status
stop-faults fault status stop old new nb na s (inr e) = inr (inl e.0)
stop-faults fault status stop old new nb na (inl r) (inl e) =
    let P : ProgramStop ToolFinding → Type 0 = λ x. (status ≡ code_of (status_of verdict_of x)) × Appends old new (note_of x) in inl (subst P r e)
stop-faults fault status stop old new nb na (inr m) (inl e) = let P : ProgramStop ToolFinding → Type 0 = λ x. status ≡ code_of (status_of verdict_of x) in inr (inr (inl (subst P m e.0)))

pub stop-decodes_complete : (status : ℕ) (stop : ProgramStop ToolFinding) (old new : Option (List ℕ)) (nb na : ℕ) → stop ≡ Memory → NotedStop status stop old new nb na → ¬ HasRisen nb na → IsOneOf (0 ∷ 5 ∷ []) status
stop-decodes_complete status stop old new nb na m (inl e) note = let P : ProgramStop ToolFinding → Type 0 = λ x. status ≡ code_of (status_of verdict_of x) in inr (inl (subst P m e.0))
stop-decodes_complete status stop old new nb na m (inr e) note = absurd (note e.1)

-- ---- words that are no command

pub stop-answers_usage : (words : List (List ℕ)) (left : Option (List ℕ)) (before after status : ℕ) (stop : ProgramStop ToolFinding) (old new : Option (List ℕ)) (nb na : ℕ) → StopsFor words left before after stop → NotedStop status stop old new nb na → SpellsNoToolCommand words → IsOneOf (64 ∷ 4 ∷ []) status
stop-answers_usage words left before after status stop old new nb na s (inr e) none = inr (inl e.0)
stop-answers_usage words left before after status Usage old new nb na s (inl e) none = inl e.0
stop-answers_usage words left before after status ReadFault old new nb na s (inl e) none = absurd (no-command words none (reading-command words s.0))
stop-answers_usage words left before after status (Found (Refused refusal) note) old new nb na s (inl e) none = absurd (no-command words none (Run s.0.0, s.0.1.0))
stop-answers_usage words left before after status (Found (Exceeded excess) note) old new nb na s (inl e) none = absurd (no-command words none (Run s.0.0, s.0.1.0))
stop-answers_usage words left before after status (Found (Undecodable fault) note) old new nb na s (inl e) none = absurd (no-command words none (Decode s.0.0 s.0.1.0, s.0.1.1.command))
stop-answers_usage words left before after status Memory old new nb na s (inl e) none = absurd (no-command words none s)

-- ---- what is noted of a stop that is neither a refusal nor a limit

neither : (status : ℕ) → status ≢ 2 → status ≢ 7 → (finding : ToolFinding) → status ≢ verdict_code (verdict_of finding)
neither status two seven (Refused refusal) = two
neither status two seven (Exceeded excess) = seven
neither status two seven (Undecodable fault) = two

pub stop-noted : (status : ℕ) (stop : ProgramStop ToolFinding) (old new : Option (List ℕ)) (nb na : ℕ) → NotedStop status stop old new nb na → status ≢ 2 → status ≢ 7 → status ≢ 4 → Appends old new (noted_for status)
stop-noted status stop old new nb na e two seven four = noted-other verdict_of stop old new nb na status e four (neither status two seven)

-- ---- what is read, and what is noted where that fails

-- what holds, holds of an input that isn't too long
pub in-limit : (left : Option (List ℕ)) (P : Type 0) → P → IfSome left (λ input. length input ≤ input_limit → P)
in-limit None P p = tt
in-limit (Some input) P p = λ short. p

-- a status that is none of these
not-read : (status n : ℕ) → status ≡ n → n ≢ 0 → n ≢ 2 → n ≢ 7 → IsOneOf (0 ∷ 2 ∷ 7 ∷ []) status → ⊥
not-read status n e zero two seven (inl a) = zero (sym e ∙ a)
not-read status n e zero two seven (inr (inl a)) = two (sym e ∙ a)
not-read status n e zero two seven (inr (inr (inl a))) = seven (sym e ∙ a)
not-read status n e zero two seven (inr (inr (inr none))) = absurd none

-- where an input that isn't too long was to be run, a stop with these statuses leaves nothing of it
stop-whole : (words : List (List ℕ)) (input : List ℕ) (rest : Option (List ℕ)) (before after status : ℕ) (stop : ProgramStop ToolFinding) (old new : Option (List ℕ)) (nb na : ℕ) → AskReading words → StopsFor words (Some input) before after stop → IsLeftBy stop rest → NotedStop status stop old new nb na
    → IsOneOf (0 ∷ 2 ∷ 7 ∷ []) status → length input ≤ input_limit → IsAtEnd rest
stop-whole words input rest before after status Usage old new nb na w s left (inl e) one short = absurd (not-read status 64 e.0 (λ a. cc a) (λ a. cc a) (λ a. cc a) one)
stop-whole words input rest before after status ReadFault old new nb na w s left (inl e) one short = absurd (not-read status 3 e.0 (λ a. cc a) (λ a. cc a) (λ a. cc a) one)
stop-whole words input rest before after status (Found (Refused refusal) note) old new nb na w s left (inl e) one short = left
stop-whole words input rest before after status (Found (Exceeded excesses.Input) note) old new nb na w s left (inl e) one short = absurd (omega (arith, s.0.1.1, short))
stop-whole words input rest before after status (Found (Exceeded (excesses.Counted limit)) note) old new nb na w s left (inl e) one short = left
stop-whole words input rest before after status (Found (Undecodable fault) note) old new nb na w s left (inl e) one short = absurd (run-undecodable words (Some input) fault w s.0)
stop-whole words input rest before after status Memory old new nb na w s left (inl e) one short = absurd (not-read status 5 e.0 (λ a. cc a) (λ a. cc a) (λ a. cc a) one)
stop-whole words input rest before after status stop old new nb na w s left (inr e) one short = absurd (not-read status 4 e.0 (λ a. cc a) (λ a. cc a) (λ a. cc a) one)

pub stop-read_whole : (words : List (List ℕ)) (left rest : Option (List ℕ)) (before after status : ℕ) (stop : ProgramStop ToolFinding) (old new : Option (List ℕ)) (nb na : ℕ) → AskReading words → StopsFor words left before after stop → IsLeftBy stop rest → NotedStop status stop old new nb na
    → IsOneOf (0 ∷ 2 ∷ 7 ∷ []) status → IfSome left (λ input. length input ≤ input_limit → IsAtEnd rest)
stop-read_whole words None rest before after status stop old new nb na w s by e one = tt
stop-read_whole words (Some input) rest before after status stop old new nb na w s by e one = stop-whole words input rest before after status stop old new nb na w s by e one

pub stop-cut_short : (words : List (List ℕ)) (left : Option (List ℕ)) (before after status : ℕ) (stop : ProgramStop ToolFinding) (old new : Option (List ℕ)) (nb na : ℕ) → StopsFor words left before after stop → NotedStop status stop old new nb na → status ≡ 4
    → HasRisen nb na × IsNoteCutShort words left before after old new
stop-cut_short words left before after status stop old new nb na s e four = let cut = noted-cut_short verdict_of stop old new nb na status e four in (cut.0, (stop, (s, cut.1)))
