-- Each input is of one kind.
use Rattle.std.proofs.Common.{◌≡◌, ◌≤◌, ℕ, List, length, Some, None, refl, ap, sym, ◌∙◌, arith}
use Rattle.host_scripts.specs.declared.script.Cause.{Cause}
use Rattle.host_scripts.specs.declared.script.Cause.TheVariants as causes
use Rattle.host_scripts.specs.declared.script.Limit.{Limit}
use Rattle.host_scripts.specs.Refusals.{script_grammar}
use Rattle.host_scripts.specs.Reading.{script_at}
use Rattle.host_scripts.specs.BenchRefusals.{bench_grammar}
use Rattle.host_scripts.specs.BenchReading.{bench_at}
use Rattle.host_scripts.proofs.Refused.{script_reading}
use Rattle.host_scripts.proofs.BenchWalk.{bench_nested, bench_reading}
use Rattle.host_scripts.proofs.BenchClean.{bench-clean}
use Rattle.host_scripts.proofs.OneFirstRefusal.{one-first-refusal}
use Rattle.host_scripts.proofs.OneRefusal.{one-refusal}
use Rattle.host_scripts.proofs.WholeReading.{one-spelling}
use Rattle.xor_cli.specs.declared.refusals.Reason.{Reason}
use Rattle.xor_cli.specs.declared.refusals.Reason.TheVariants as reasons
use Rattle.xor_cli.specs.declared.refusals.Refusal.{Refusal}
use Rattle.xor_cli.specs.declared.words.RunCommand.{RunCommand}
use Rattle.xor_cli.specs.declared.words.RunCommand.TheVariants.{Step, Target}
use Rattle.program_status.specs.declared.notes.Excess.{Excess}
use Rattle.program_status.specs.declared.notes.Excess.TheVariants as excesses
use Rattle.xor_cli.specs.RefusalTexts.{reason_of}
use Rattle.outer_io.specs.Outside.{input_limit}
use Rattle.xor_cli.specs.Inputs.{Subject, Spells, Refuses, passed_limit, later_line, CanRunAs, IsAccepted, IsUnspelt, IsRefusedFor, IsRefused, IsLater, IsExcess}
use Rattle.xor_cli.specs.Statuses.{later_refusal}

-- ---- what is so of each run

-- bytes spell one script or bench at most
same-subject : (run : RunCommand) (input : List ℕ) (a b : Subject run) → Spells run input a → Spells run input b → a ≡ b
same-subject (Step traced) input a b f g = one-spelling script_grammar script_at script_reading a b input f g
same-subject Target input a b f g = one-spelling bench_grammar bench_at bench_reading a b input f g

-- bytes that are refused spell none
refused-unspelt : (run : RunCommand) (input : List ℕ) (number : ℕ) (cause : Cause) (subject : Subject run) → Refuses run input number cause → Spells run input subject → ⊥
refused-unspelt (Step traced) input number cause script r s = r.unspelt script s
refused-unspelt Target input number cause bench r s = r.unspelt bench s

-- they are refused for one line and one cause
one-fault : (run : RunCommand) (input : List ℕ) (m n : ℕ) (c d : Cause) → Refuses run input m c → Refuses run input n d → (m ≡ n) × (c ≡ d)
one-fault (Step traced) input m n c d f g = one-refusal input m n c d f g
one-fault Target input m n c d f g = one-first-refusal bench_grammar bench_nested bench-clean input m n c d f g

-- what can be run is past no limit, and no line of it waits for later
within-limits : (run : RunCommand) (subject : Subject run) → CanRunAs run subject → passed_limit run subject ≡ None
within-limits (Step traced) script can = can.1
within-limits Target bench can = can.1

none-later : (run : RunCommand) (subject : Subject run) → CanRunAs run subject → later_line run subject ≡ None
none-later (Step traced) script can = can.2
none-later Target bench can = refl

-- ---- the kinds leave out one another

-- an input that is refused isn't too long
pub refused-bound : (run : RunCommand) (input : List ℕ) (number : ℕ) (reason : Reason) → IsRefusedFor run input number reason → length input ≤ input_limit
refused-bound run input number reasons.Form h = h.0
refused-bound run input number reasons.Range h = h.0
refused-bound run input number reasons.Size h = h.0
refused-bound run input number reasons.Later h = h.1.0.0

-- what is run has no line that waits for later, nor too much of anything
accepted-later : (run : RunCommand) (input : List ℕ) (subject other : Subject run) (number : ℕ) → Spells run input subject → Spells run input other → later_line run subject ≡ None → later_line run other ≡ Some number → ⊥
accepted-later run input subject other number f g none some =
    let same : subject ≡ other = same-subject run input subject other f g in
    let clash : None ≡ Some number = sym none ∙ ap (later_line run) same ∙ some in
    cc clash

limit-none : (run : RunCommand) (input : List ℕ) (subject other : Subject run) (limit : Limit) → Spells run input subject → Spells run input other → passed_limit run subject ≡ None → passed_limit run other ≡ Some limit → ⊥
limit-none run input subject other limit f g none some =
    let same : subject ≡ other = same-subject run input subject other f g in
    let clash : None ≡ Some limit = sym none ∙ ap (passed_limit run) same ∙ some in
    cc clash

accepted-refused_for : (run : RunCommand) (input : List ℕ) (subject : Subject run) (number : ℕ) (reason : Reason) → IsAccepted run input subject → IsRefusedFor run input number reason → ⊥
accepted-refused_for run input subject number reasons.Form a h = refused-unspelt run input number causes.Form subject h.1 a.0.1
accepted-refused_for run input subject number reasons.Range a h = refused-unspelt run input number causes.Range subject h.1 a.0.1
accepted-refused_for run input subject number reasons.Size a h = refused-unspelt run input number causes.Size subject h.1 a.0.1
accepted-refused_for run input subject number reasons.Later a h = accepted-later run input subject h.0 number a.0.1 h.1.0.1 (none-later run subject a.1) h.1.2

pub accepted-refused : (run : RunCommand) (input : List ℕ) (subject : Subject run) (refusal : Refusal) → IsAccepted run input subject → IsRefused run input refusal → ⊥
accepted-refused run input subject refusal a h = accepted-refused_for run input subject refusal.line refusal.reason a h

pub accepted-excess : (run : RunCommand) (input : List ℕ) (subject : Subject run) (excess : Excess) → IsAccepted run input subject → IsExcess run input excess → ⊥
accepted-excess run input subject excesses.Input a h = omega (arith, a.0.0, h)
accepted-excess run input subject (excesses.Counted limit) a h = limit-none run input subject h.0 limit a.0.1 h.1.0.1 (within-limits run subject a.1) h.1.1

refused_for-excess : (run : RunCommand) (input : List ℕ) (number : ℕ) (reason : Reason) (excess : Excess) → IsRefusedFor run input number reason → IsExcess run input excess → ⊥
refused_for-excess run input number reason excesses.Input r h = omega (arith, refused-bound run input number reason r, h)
refused_for-excess run input number reasons.Form (excesses.Counted limit) r h = refused-unspelt run input number causes.Form h.0 r.1 h.1.0.1
refused_for-excess run input number reasons.Range (excesses.Counted limit) r h = refused-unspelt run input number causes.Range h.0 r.1 h.1.0.1
refused_for-excess run input number reasons.Size (excesses.Counted limit) r h = refused-unspelt run input number causes.Size h.0 r.1 h.1.0.1
refused_for-excess run input number reasons.Later (excesses.Counted limit) r h = limit-none run input r.0 h.0 limit r.1.0.1 h.1.0.1 r.1.1 h.1.1

pub refused-excess : (run : RunCommand) (input : List ℕ) (refusal : Refusal) (excess : Excess) → IsRefused run input refusal → IsExcess run input excess → ⊥
refused-excess run input refusal excess r h = refused_for-excess run input refusal.line refusal.reason excess r h

-- ---- an input is refused for one thing

abbrev refusal_at : ℕ → Reason → Refusal
refusal_at number reason = record { line = number; reason = reason }

both-unspelt : (run : RunCommand) (input : List ℕ) (m n : ℕ) (c d : Cause) → IsUnspelt run input m c → IsUnspelt run input n d → refusal_at m (reason_of c) ≡ refusal_at n (reason_of d)
both-unspelt run input m n c d f g =
    let one = one-fault run input m n c d f.1 g.1 in
    let first : refusal_at m (reason_of c) ≡ refusal_at n (reason_of c) = ap (λ (k : ℕ). refusal_at k (reason_of c)) one.0 in
    first ∙ ap (λ (k : Cause). refusal_at n (reason_of k)) one.1

both-later : (run : RunCommand) (input : List ℕ) (m n : ℕ) → IsLater run input m → IsLater run input n → later_refusal m ≡ later_refusal n
both-later run input m n f g =
    let same : f.0 ≡ g.0 = same-subject run input f.0 g.0 f.1.0.1 g.1.0.1 in
    let lines : Some m ≡ Some n = sym f.1.2 ∙ ap (later_line run) same ∙ g.1.2 in
    let one : m ≡ n = cc lines in
    ap later_refusal one

unspelt-later : (run : RunCommand) (input : List ℕ) (m n : ℕ) (c : Cause) → IsUnspelt run input m c → IsLater run input n → ⊥
unspelt-later run input m n c f g = refused-unspelt run input m c g.0 f.1 g.1.0.1

refused_for-one : (run : RunCommand) (input : List ℕ) (m n : ℕ) (a b : Reason) → IsRefusedFor run input m a → IsRefusedFor run input n b → refusal_at m a ≡ refusal_at n b
refused_for-one run input m n reasons.Form reasons.Form f g = both-unspelt run input m n causes.Form causes.Form f g
refused_for-one run input m n reasons.Form reasons.Range f g = both-unspelt run input m n causes.Form causes.Range f g
refused_for-one run input m n reasons.Form reasons.Size f g = both-unspelt run input m n causes.Form causes.Size f g
refused_for-one run input m n reasons.Range reasons.Form f g = both-unspelt run input m n causes.Range causes.Form f g
refused_for-one run input m n reasons.Range reasons.Range f g = both-unspelt run input m n causes.Range causes.Range f g
refused_for-one run input m n reasons.Range reasons.Size f g = both-unspelt run input m n causes.Range causes.Size f g
refused_for-one run input m n reasons.Size reasons.Form f g = both-unspelt run input m n causes.Size causes.Form f g
refused_for-one run input m n reasons.Size reasons.Range f g = both-unspelt run input m n causes.Size causes.Range f g
refused_for-one run input m n reasons.Size reasons.Size f g = both-unspelt run input m n causes.Size causes.Size f g
refused_for-one run input m n reasons.Form reasons.Later f g = absurd (unspelt-later run input m n causes.Form f g)
refused_for-one run input m n reasons.Range reasons.Later f g = absurd (unspelt-later run input m n causes.Range f g)
refused_for-one run input m n reasons.Size reasons.Later f g = absurd (unspelt-later run input m n causes.Size f g)
refused_for-one run input m n reasons.Later reasons.Form f g = absurd (unspelt-later run input n m causes.Form g f)
refused_for-one run input m n reasons.Later reasons.Range f g = absurd (unspelt-later run input n m causes.Range g f)
refused_for-one run input m n reasons.Later reasons.Size f g = absurd (unspelt-later run input n m causes.Size g f)
refused_for-one run input m n reasons.Later reasons.Later f g = both-later run input m n f g

pub refused-one : (run : RunCommand) (input : List ℕ) (a b : Refusal) → IsRefused run input a → IsRefused run input b → a ≡ b
refused-one run input a b f g = refused_for-one run input a.line b.line a.reason b.reason f g

-- there is too much of one thing
pub excess-one : (run : RunCommand) (input : List ℕ) (a b : Excess) → IsExcess run input a → IsExcess run input b → a ≡ b
excess-one run input excesses.Input excesses.Input f g = refl
excess-one run input excesses.Input (excesses.Counted limit) f g = absurd (omega (arith, f, g.1.0.0))
excess-one run input (excesses.Counted limit) excesses.Input f g = absurd (omega (arith, g, f.1.0.0))
excess-one run input (excesses.Counted limit) (excesses.Counted other) f g =
    let same : f.0 ≡ g.0 = same-subject run input f.0 g.0 f.1.0.1 g.1.0.1 in
    let limits : Some limit ≡ Some other = sym f.1.1 ∙ ap (passed_limit run) same ∙ g.1.1 in
    let one : limit ≡ other = cc limits in
    ap excesses.Counted one
