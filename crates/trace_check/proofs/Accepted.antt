-- What is found of an input, from its parts; and that an input that is accepted is found to be nothing else.
use Rattle.std.proofs.Common.{◌≡◌, ℕ, ◌+◌, ◌≤◌, ◌<◌, List, [], ◌∷◌, ◌++◌, length, take, Option, Some, None, refl, sym, ap, subst, ◌∙◌, length-take, arith}
use Rattle.std.specs.Prelude.{IfSome}
use Rattle.std.specs.List.{flat_map}
use Rattle.std.proofs.lemmas.List.{take_all}
use Rattle.std.proofs.lemmas.Option.{none-some, same_Some}
use Rattle.array_journal.specs.declared.entry.Entry.{Entry}
use Rattle.array_journal.specs.Run.{IsSetting}
use Rattle.array_journal.proofs.runs.GuardedRuns.{guarded_law}
use Rattle.array_journal.proofs.owed.KeptRuns.{conserved_law}
use Rattle.array_journal.proofs.reads.ReadsRight.{legal_law}
use Rattle.host_scripts.specs.declared.script.Script.{Script}
use Rattle.host_scripts.specs.Scripts as scripts
use Rattle.host_scripts.specs.Scripts.{IsScript, spelling}
use Rattle.host_scripts.specs.Limits.{limit_of}
use Rattle.host_scripts.proofs.Again.{script-again}
use Rattle.host_scripts.proofs.Loops.{same-ok}
use Rattle.outer_io.specs.Outside.{input_limit}
use Rattle.host_requests.specs.Settings.{setting_of}
use Rattle.stripe_check.specs.Reports.{report_of}
use Rattle.journal_text.specs.Traces.{entry_line, trace_of}
use Rattle.trace_check.specs.declared.checking.findings.CheckFinding.{CheckFinding}
use Rattle.trace_check.specs.declared.checking.findings.CheckFinding.TheVariants.{TooLong, Refused, Over, TextLine, RunEntry, Unasked, ReportLine}
use Rattle.program_status.specs.declared.stops.ProgramStop.{ProgramStop}
use Rattle.program_status.specs.declared.stops.ProgramStop.TheVariants.{Usage, ReadFault, Found, Memory}
use Rattle.trace_check.specs.Endings.{StopsBy, StopsCheck, IsRunOf}
use Rattle.trace_check.specs.Findings.{line_ends, IsTraceFault, HasJournal, IsRunIn, IsFoundOf, IsFoundFor, IsFoundIn, IsFoundAt, IsFound, IsAccepted, IsSound}
use Rattle.trace_check.specs.Inputs.{Parts, parts_of}
use Rattle.trace_check.proofs.Inputs.{parts-whole}
use Rattle.journal_text.proofs.TraceLaws.{line-longer, no-fault, one-journal}

-- an entry has a line, and a line its end
pub trace-long : (journal : List Entry) → length journal ≤ length (trace_of journal)
unfolding trace_of
trace-long [] = omega arith
trace-long (e ∷ journal) =
    let longer : length (flat_map entry_line journal) < length (entry_line e ++ flat_map entry_line journal) = line-longer _ (flat_map entry_line journal) in
    omega (arith, longer, trace-long journal)

pub setting-is : (script : Script) → IsScript script → IsSetting (setting_of script)
setting-is script is = record { array = is.geometry; least_buffer = is.least_buffer; most_buffer = is.most_buffer }

-- ---- from a journal to the parts, and from the parts to the input

pub found-for : (parts : Parts) (script : Script) (journal : List Entry) → HasJournal parts script journal → (f : CheckFinding) → IsFoundOf script journal parts.report f → IsFoundIn parts f
found-for parts script journal has TooLong is = absurd is
found-for parts script journal has (Refused n cause) is = absurd is
found-for parts script journal has (Over limit) is = absurd is
found-for parts script journal has (TextLine n) is = absurd is
found-for parts script journal has (RunEntry n) is = (script, (journal, (has, is)))
found-for parts script journal has Unasked is = (script, (journal, (has, is)))
found-for parts script journal has (ReportLine n) is = (script, (journal, (has, is)))

-- what a trace is found to be, behind the lines of the script, the border and the report
pub trace-found : (parts : Parts) (script : Script) (ahead : ℕ) → scripts.SpellsScript parts.script script → limit_of script ≡ None →
    ahead ≡ line_ends parts.script + 1 + line_ends parts.report → (f : CheckFinding) → IsTraceFault parts.trace ahead f → IsFoundIn parts f
trace-found parts script ahead spelt within e TooLong is = absurd is
trace-found parts script ahead spelt within e (Refused n cause) is = absurd is
trace-found parts script ahead spelt within e (Over limit) is = absurd is
trace-found parts script ahead spelt within e (TextLine n) is =
    (script, (is.0, record { spelt = spelt; within = within; first = is.1.0; counted = omega (arith, e, is.1.1) }))
trace-found parts script ahead spelt within e (RunEntry n) is = absurd is
trace-found parts script ahead spelt within e Unasked is = absurd is
trace-found parts script ahead spelt within e (ReportLine n) is = absurd is

pub found-at : (input : List ℕ) (parts : Parts) → length input ≤ input_limit → parts_of input ≡ Some parts → (f : CheckFinding) → IsFoundIn parts f → IsFound input f
found-at input parts short e TooLong is = absurd is
found-at input parts short e (Refused n cause) is = (short, let P : Option Parts → Type 0 = λ o. IsFoundAt o (Refused n cause) in subst P (sym e) is)
found-at input parts short e (Over limit) is = (short, let P : Option Parts → Type 0 = λ o. IsFoundAt o (Over limit) in subst P (sym e) is)
found-at input parts short e (TextLine n) is = (short, let P : Option Parts → Type 0 = λ o. IsFoundAt o (TextLine n) in subst P (sym e) is)
found-at input parts short e (RunEntry n) is = (short, let P : Option Parts → Type 0 = λ o. IsFoundAt o (RunEntry n) in subst P (sym e) is)
found-at input parts short e Unasked is = (short, let P : Option Parts → Type 0 = λ o. IsFoundAt o Unasked in subst P (sym e) is)
found-at input parts short e (ReportLine n) is = (short, let P : Option Parts → Type 0 = λ o. IsFoundAt o (ReportLine n) in subst P (sym e) is)

pub run-sound : (input : List ℕ) (parts : Parts) (script : Script) (journal : List Entry) → length input ≤ input_limit → parts_of input ≡ Some parts → IsRunIn parts script journal → IsSound input script journal
run-sound input parts script journal short e run =
    let same : Path Parts parts (record { script = spelling script; report = report_of script journal; trace = trace_of journal }) =
    ap (λ (t : List ℕ). record { script = t; report = parts.report; trace = parts.trace }) run.has.spelt.0
    ∙ ap (λ (t : List ℕ). record { script = spelling script; report = t; trace = parts.trace }) run.report
    ∙ ap (λ (t : List ℕ). record { script = spelling script; report = report_of script journal; trace = t }) run.has.traced.0 in
    let setting = setting-is script run.has.spelt.1 in
    record {
      accepted = record {
        short = short;
        parted = e ∙ ap (λ (p : Parts). Some p) same;
        in_range = run.has.spelt.1;
        within = run.has.within;
        readable = run.has.traced.1;
        run = run.run;
        asked = run.asked;
      };
      whole = parts-whole input _ (e ∙ ap (λ (p : Parts). Some p) same);
      conserved = conserved_law (setting_of script) journal setting run.run;
      legal = legal_law (setting_of script) journal setting run.run;
      guarded = guarded_law (setting_of script) journal run.run;
    }

-- ---- an input that is accepted is found to be nothing else

pub one-script : (bytes : List ℕ) (a b : Script) → scripts.SpellsScript bytes a → scripts.SpellsScript bytes b → a ≡ b
one-script bytes a b f g = same-ok a b (sym (script-again bytes a f) ∙ script-again bytes b g)

-- the parts of an accepted input
abbrev parts_for : Script → List Entry → Parts
parts_for script journal = record { script = spelling script; report = report_of script journal; trace = trace_of journal }

accepted-of : (input : List ℕ) (script other : Script) (journal entries : List Entry) → IsAccepted input script journal → HasJournal (parts_for script journal) other entries → (script ≡ other) × (journal ≡ entries)
accepted-of input script other journal entries a has =
    (one-script (spelling script) script other (refl, a.in_range) has.spelt, one-journal (trace_of journal) journal entries (refl, a.readable) has.traced)

accepted-for : (input : List ℕ) (script : Script) (journal : List Entry) → IsAccepted input script journal → (f : CheckFinding) → IsFoundOf script journal (report_of script journal) f → ⊥
accepted-for input script journal a TooLong is = is
accepted-for input script journal a (Refused n cause) is = is
accepted-for input script journal a (Over limit) is = is
accepted-for input script journal a (TextLine n) is = is
accepted-for input script journal a (RunEntry n) is = is.no_run a.run
accepted-for input script journal a Unasked is = is.1 a.asked
accepted-for input script journal a (ReportLine n) is = is.differs refl

moved : (input : List ℕ) (script : Script) (journal : List Entry) → IsAccepted input script journal → (f : CheckFinding) → IsFoundFor (parts_for script journal) f → ⊥
moved input script journal a f (other, (entries, (has, is))) =
    let same = accepted-of input script other journal entries a has in
    let P : Script → Type 0 = λ s. IsFoundOf s journal (report_of script journal) f in
    let Q : List Entry → Type 0 = λ j. IsFoundOf other j (report_of script journal) f in
    accepted-for input script journal a f (subst P (sym same.0) (subst Q (sym same.1) is))

accepted-in : (input : List ℕ) (script : Script) (journal : List Entry) → IsAccepted input script journal → (f : CheckFinding) → IsFoundIn (parts_for script journal) f → ⊥
accepted-in input script journal a TooLong is = is
accepted-in input script journal a (Refused n cause) is = is.unspelt script (refl, a.in_range)
accepted-in input script journal a (Over limit) (other, (spelt, over)) =
    none-some limit (sym a.within ∙ ap (λ s. limit_of s) (one-script (spelling script) script other (refl, a.in_range) spelt) ∙ over)
accepted-in input script journal a (TextLine n) (other, (line, is)) = no-fault (trace_of journal) line journal is.first (refl, a.readable)
accepted-in input script journal a (RunEntry n) is = moved input script journal a (RunEntry n) is
accepted-in input script journal a Unasked is = moved input script journal a Unasked is
accepted-in input script journal a (ReportLine n) is = moved input script journal a (ReportLine n) is

accepted-at : (input : List ℕ) (script : Script) (journal : List Entry) → IsAccepted input script journal → (f : CheckFinding) → IsFoundAt (parts_of input) f → ⊥
accepted-at input script journal a f is =
    accepted-in input script journal a f (let P : Option Parts → Type 0 = λ o. IsFoundAt o f in subst P a.parted is)

pub accepted-not : (input : List ℕ) (script : Script) (journal : List Entry) → IsAccepted input script journal → (f : CheckFinding) → IsFound input f → ⊥
accepted-not input script journal a TooLong long = omega (arith, a.short, long)
accepted-not input script journal a (Refused n cause) is = accepted-at input script journal a (Refused n cause) is.1
accepted-not input script journal a (Over limit) is = accepted-at input script journal a (Over limit) is.1
accepted-not input script journal a (TextLine n) is = accepted-at input script journal a (TextLine n) is.1
accepted-not input script journal a (RunEntry n) is = accepted-at input script journal a (RunEntry n) is.1
accepted-not input script journal a Unasked is = accepted-at input script journal a Unasked is.1
accepted-not input script journal a (ReportLine n) is = accepted-at input script journal a (ReportLine n) is.1

-- an input is that of one journal
pub one-run : (input : List ℕ) (script other : Script) (journal entries : List Entry) → IsAccepted input script journal → IsAccepted input other entries → journal ≡ entries
one-run input script other journal entries a b =
    let same = same_Some _ _ (sym a.parted ∙ b.parted) in
    one-journal (trace_of journal) journal entries (refl, a.readable) (ap (λ (p : Parts). p.trace) same, b.readable)

-- ---- from the bytes that were read to those that the source had

whole-read : (left bytes : List ℕ) → bytes ≡ take (input_limit + 1) left → length bytes ≤ input_limit → bytes ≡ left
whole-read left bytes e short =
    let l : length bytes ≡ length (take (input_limit + 1) left) = ap (λ (t : List ℕ). length t) e in
    e ∙ take_all (input_limit + 1) left (omega (arith, l, short, length-take (input_limit + 1) left))

found-read : (left bytes : List ℕ) → bytes ≡ take (input_limit + 1) left → (f : CheckFinding) → IsFound bytes f → IsFound left f
found-read left bytes e TooLong long =
    let l : length bytes ≡ length (take (input_limit + 1) left) = ap (λ (t : List ℕ). length t) e in
    omega (arith, l, long, length-take (input_limit + 1) left)
found-read left bytes e (Refused n cause) is = let P : List ℕ → Type 0 = λ b. IsFound b (Refused n cause) in subst P (whole-read left bytes e is.0) is
found-read left bytes e (Over limit) is = let P : List ℕ → Type 0 = λ b. IsFound b (Over limit) in subst P (whole-read left bytes e is.0) is
found-read left bytes e (TextLine n) is = let P : List ℕ → Type 0 = λ b. IsFound b (TextLine n) in subst P (whole-read left bytes e is.0) is
found-read left bytes e (RunEntry n) is = let P : List ℕ → Type 0 = λ b. IsFound b (RunEntry n) in subst P (whole-read left bytes e is.0) is
found-read left bytes e Unasked is = let P : List ℕ → Type 0 = λ b. IsFound b Unasked in subst P (whole-read left bytes e is.0) is
found-read left bytes e (ReportLine n) is = let P : List ℕ → Type 0 = λ b. IsFound b (ReportLine n) in subst P (whole-read left bytes e is.0) is

pub stops-read : (left : Option (List ℕ)) (bytes : List ℕ) (before after : ℕ) (stop : ProgramStop CheckFinding) → IfSome left (λ all. bytes ≡ take (input_limit + 1) all) → StopsBy (IsFound bytes) stop → StopsCheck left before after stop
stops-read left bytes before after Usage e s = absurd s
stops-read left bytes before after ReadFault e s = absurd s
stops-read None bytes before after (Found f note) e s = (tt, s.1)
stops-read (Some left) bytes before after (Found f note) e s = (found-read left bytes e f s.0, s.1)
stops-read left bytes before after Memory e s = tt

pub run-read : (left : Option (List ℕ)) (bytes : List ℕ) (entries : ℕ) → IfSome left (λ all. bytes ≡ take (input_limit + 1) all) → IsRunOf bytes entries → IfSome left (λ all. IsRunOf all entries)
run-read None bytes entries e run = tt
run-read (Some left) bytes entries e (script, (journal, (sound, n))) =
    let P : List ℕ → Type 0 = λ b. IsRunOf b entries in
    subst P (whole-read left bytes e sound.accepted.short) (script, (journal, (sound, n)))
