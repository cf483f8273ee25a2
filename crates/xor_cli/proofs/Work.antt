-- From what was read to what the source had left, and from what stops a part to what stops the whole.
use Rattle.std.proofs.Common.{◌≡◌, ℕ, ◌+◌, ◌≤◌, List, length, take, refl, ap, sym, subst, ◌∙◌, inl, inr, length-take, arith, Option, Some, None}
use Rattle.std.proofs.lemmas.List.{take_all}
use Rattle.std.specs.Prelude.{IfSome}
use Rattle.std.specs.Io.KnownBytes.{IsAtEnd}
use Rattle.host_scripts.specs.declared.script.Cause.{Cause}
use Rattle.host_scripts.specs.declared.script.Cause.TheVariants as causes
use Rattle.program_status.specs.declared.stops.ProgramStop.{ProgramStop}
use Rattle.program_status.specs.declared.stops.ProgramStop.TheVariants.{Usage, ReadFault, Found, Memory}
use Rattle.xor_cli.specs.declared.findings.ToolFinding.{ToolFinding}
use Rattle.xor_cli.specs.declared.findings.ToolFinding.TheVariants.{Refused, Exceeded, Undecodable}
use Rattle.xor_cli.specs.declared.decoding.faults.DecodeFault.{DecodeFault}
use Rattle.xor_cli.specs.declared.decoding.values.Format.{Format}
use Rattle.xor_cli.specs.declared.decoding.values.DecodedValue.{DecodedValue}
use Rattle.xor_cli.specs.declared.refusals.Reason.{Reason}
use Rattle.xor_cli.specs.declared.refusals.Refusal.{Refusal}
use Rattle.program_status.specs.declared.notes.Excess.{Excess}
use Rattle.program_status.specs.declared.notes.Excess.TheVariants as excesses
use Rattle.xor_cli.specs.declared.words.RunCommand.{RunCommand}
use Rattle.xor_cli.specs.declared.words.ToolCommand.TheVariants.{Run}
use Rattle.xor_cli.specs.Decoding.{IsValue, IsFault}
use Rattle.xor_cli.specs.RefusalTexts.{reason_of}
use Rattle.xor_cli.specs.Words.{AskRun}
use Rattle.xor_cli.specs.Inputs.{Subject, Refuses, passed_limit, later_line, IsSpelt, IsAccepted, IsRefused, IsExcess}
use Rattle.outer_io.specs.Outside.{input_limit}
use Rattle.xor_cli.specs.Statuses.{StopsFor, StopsSource, StopsRun, StopsSubject, IsFoundIn, IsFoundAhead, IsStopOf, IsLeftBy, later_refusal}
use Rattle.xor_cli.proofs.Inputs.{refused-bound}

-- ---- from what was read to what the source had left

-- what holds of bytes that were read, and of no input that is too long, holds of all that the source had
left-whole : (left : Option (List ℕ)) (bytes : List ℕ) (P : List ℕ → Type 0) → length bytes ≤ input_limit → IfSome left (λ all. bytes ≡ take (input_limit + 1) all) → P bytes → IfSome left P
left-whole None bytes P bound e p = tt
left-whole (Some all) bytes P bound e p =
    let n : length bytes ≡ length (take (input_limit + 1) all) = ap length e in
    let short : length all ≤ input_limit + 1 = omega (arith, length-take (input_limit + 1) all, n, bound) in
    subst P (e ∙ take_all (input_limit + 1) all short) p

pub accepted-left : (run : RunCommand) (left : Option (List ℕ)) (bytes : List ℕ) (subject : Subject run) → IfSome left (λ all. bytes ≡ take (input_limit + 1) all) → IsAccepted run bytes subject → IfSome left (λ all. IsAccepted run all subject)
accepted-left run left bytes subject e accepted = left-whole left bytes (λ b. IsAccepted run b subject) accepted.0.0 e accepted

refused-left : (run : RunCommand) (left : Option (List ℕ)) (bytes : List ℕ) (refusal : Refusal) → IfSome left (λ all. bytes ≡ take (input_limit + 1) all) → IsRefused run bytes refusal → IfSome left (λ all. IsRefused run all refusal)
refused-left run left bytes refusal e refused =
    left-whole left bytes (λ b. IsRefused run b refusal) (refused-bound run bytes refusal.line refusal.reason refused) e refused

excess-left : (run : RunCommand) (left : Option (List ℕ)) (bytes : List ℕ) (excess : Excess) → IfSome left (λ all. bytes ≡ take (input_limit + 1) all) → IsExcess run bytes excess → IfSome left (λ all. IsExcess run all excess)
excess-left run None bytes excess e is = tt
excess-left run (Some all) bytes excesses.Input e is = let n : length bytes ≡ length (take (input_limit + 1) all) = ap length e in omega (arith, length-take (input_limit + 1) all, n, is)
excess-left run (Some all) bytes (excesses.Counted limit) e is = left-whole (Some all) bytes (λ b. IsExcess run b (excesses.Counted limit)) is.1.0.0 e is

-- what is found of the bytes that were read is found of all that the source had
found-left : (run : RunCommand) (left : Option (List ℕ)) (bytes : List ℕ) (finding : ToolFinding) → IfSome left (λ all. bytes ≡ take (input_limit + 1) all) → IsFoundIn run bytes finding → IsFoundAhead run left finding
found-left run left bytes (Refused refusal) e is = refused-left run left bytes refusal e is
found-left run left bytes (Exceeded excess) e is = excess-left run left bytes excess e is
found-left run left bytes (Undecodable fault) e is = absurd is

-- what stops a run of the bytes that were read stops a run of the source
pub stops-source : (run : RunCommand) (left : Option (List ℕ)) (bytes : List ℕ) (before after : ℕ) (stop : ProgramStop ToolFinding) → IfSome left (λ all. bytes ≡ take (input_limit + 1) all) → StopsRun run bytes stop → StopsSource run left before after stop
stops-source run left bytes before after Usage e s = absurd s
stops-source run left bytes before after ReadFault e s = absurd s
stops-source run left bytes before after (Found finding note) e s = (found-left run left bytes finding e s.0, s.1)
stops-source run left bytes before after Memory e s = tt

-- where the bytes that were read aren't too many, they are all that the source had; what stops a run of them leaves nothing
pub stops-left : (run : RunCommand) (left : Option (List ℕ)) (bytes : List ℕ) (stop : ProgramStop ToolFinding) → (length bytes ≤ input_limit → IsAtEnd left) → StopsRun run bytes stop → IsLeftBy stop left
stops-left run left bytes Usage end s = tt
stops-left run left bytes ReadFault end s = tt
stops-left run left bytes (Found (Refused refusal) note) end s = end (refused-bound run bytes refusal.line refusal.reason s.0)
stops-left run left bytes (Found (Exceeded excesses.Input) note) end s = tt
stops-left run left bytes (Found (Exceeded (excesses.Counted limit)) note) end s = end s.0.1.0.0
stops-left run left bytes (Found (Undecodable fault) note) end s = tt
stops-left run left bytes Memory end s = tt

-- what stops a run of the source stops the command
pub stops-for : (words : List (List ℕ)) (run : RunCommand) (left : Option (List ℕ)) (before after : ℕ) (stop : ProgramStop ToolFinding) → AskRun run words → StopsSource run left before after stop → StopsFor words left before after stop
stops-for words run left before after Usage w s = absurd s
stops-for words run left before after ReadFault w s = ((run, w), s)
stops-for words run left before after (Found (Refused refusal) note) w s = ((run, (w, s.0)), s.1)
stops-for words run left before after (Found (Exceeded excess) note) w s = ((run, (w, s.0)), s.1)
stops-for words run left before after (Found (Undecodable fault) note) w s = absurd s.0
stops-for words run left before after Memory w s = (Run run, w)

-- ---- what stops a part

-- a refusal of a line stops a run of these bytes
unspelt-refused : (run : RunCommand) (input : List ℕ) (number : ℕ) (cause : Cause) → length input ≤ input_limit → Refuses run input number cause → IsRefused run input (record { line = number; reason = reason_of cause })
unspelt-refused run input number causes.Form bound r = (bound, r)
unspelt-refused run input number causes.Range bound r = (bound, r)
unspelt-refused run input number causes.Size bound r = (bound, r)

pub stop-unspelt : (run : RunCommand) (input : List ℕ) (number other : ℕ) (cause : Cause) (reason : Reason) (stop : ProgramStop ToolFinding) → length input ≤ input_limit → Refuses run input number cause → other ≡ number → reason ≡ reason_of cause → IsStopOf (Refused (record { line = other; reason = reason })) stop → StopsRun run input stop
stop-unspelt run input number other cause reason stop bound r n c (inl e) =
    let P : ℕ → Type 0 = λ m. IsRefused run input (record { line = m; reason = reason_of cause }) in
    let Q : Reason → Type 0 = λ x. IsRefused run input (record { line = other; reason = x }) in
    let is : IsRefused run input (record { line = other; reason = reason }) = subst Q (sym c) (subst P (sym n) (unspelt-refused run input number cause bound r)) in
    subst (StopsRun run input) (sym e) (is, refl)
stop-unspelt run input number other cause reason stop bound r n c (inr e) = subst (StopsRun run input) (sym e) tt

-- so does a line that can't be run yet
pub stop-later : (run : RunCommand) (subject : Subject run) (number : ℕ) (stop : ProgramStop ToolFinding) → passed_limit run subject ≡ None → later_line run subject ≡ Some number → IsStopOf (Refused (later_refusal number)) stop → StopsSubject run subject stop
stop-later run subject number stop over later (inl e) = subst (StopsSubject run subject) (sym e) ((number, (over, later, refl)), refl)
stop-later run subject number stop over later (inr e) = subst (StopsSubject run subject) (sym e) tt

-- what stops a script or a bench stops its bytes
pub stop-subject : (run : RunCommand) (input : List ℕ) (subject : Subject run) (stop : ProgramStop ToolFinding) → IsSpelt run input subject → StopsSubject run subject stop → StopsRun run input stop
stop-subject run input subject Usage spelt s = absurd s
stop-subject run input subject ReadFault spelt s = absurd s
stop-subject run input subject (Found (Refused refusal) note) spelt (found, said) =
    let P : Refusal → Type 0 = λ x. IsRefused run input x in (subst P (sym found.1.2) (subject, (spelt, found.1.0, found.1.1)), said)
stop-subject run input subject (Found (Exceeded excess) note) spelt (found, said) =
    let P : Excess → Type 0 = λ x. IsExcess run input x in (subst P (sym found.1.1) (subject, (spelt, found.1.0)), said)
stop-subject run input subject (Found (Undecodable fault) note) spelt s = absurd s.0
stop-subject run input subject Memory spelt s = tt

-- ---- decoding

-- a value of bytes in a format is one of the same bytes in the same format
pub value-moved : (f g : Format) (a b c : List ℕ) (value : DecodedValue) → (f ≡ g) × (a ≡ b) → c ≡ b → IsValue f a value → IsValue g c value
value-moved f g a b c value same slice is =
    let P : List ℕ → Type 0 = λ x. IsValue f x value in
    let Q : Format → Type 0 = λ x. IsValue x c value in
    subst Q same.0 (subst P (same.1 ∙ sym slice) is)

pub fault-moved : (f g : Format) (a b c : List ℕ) (fault : DecodeFault) → (f ≡ g) × (a ≡ b) → c ≡ b → IsFault f a fault → IsFault g c fault
fault-moved f g a b c fault same slice is =
    let P : List ℕ → Type 0 = λ x. IsFault f x fault in
    let Q : Format → Type 0 = λ x. IsFault x c fault in
    subst Q same.0 (subst P (same.1 ∙ sym slice) is)
