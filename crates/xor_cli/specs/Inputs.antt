-- What the input of a run is, by its bytes: of five kinds, each of which leaves out the others. It has too many bytes; or it
-- spells nothing that can be run so; or what it spells is past a limit; or a line of it can't be run yet; or it is run.
use Rattle.std.specs.Prelude.{ℕ, ◌≡◌, ◌≤◌, ◌<◌, List, length, Option, Some, None}
use Rattle.host_scripts.specs.declared.script.Script.{Script}
use Rattle.host_scripts.specs.declared.script.Cause.{Cause}
use Rattle.host_scripts.specs.declared.script.Cause.TheVariants as causes
use Rattle.host_scripts.specs.declared.script.Limit.{Limit}
use Rattle.host_scripts.specs.declared.bench.Bench.{Bench}
use Rattle.host_scripts.specs.Scripts.{SpellsScript, IsScript}
use Rattle.host_scripts.specs.Benches.{SpellsBench, IsBench}
use Rattle.host_scripts.specs.Refusals.{IsRefusal}
use Rattle.host_scripts.specs.BenchRefusals.{IsBenchRefusal}
use Rattle.host_scripts.specs.Limits.{limit_of}
use Rattle.host_scripts.specs.BenchLimits.{bench_limit_of}
use Rattle.outer_io.specs.Outside.{input_limit}
use Rattle.xor_cli.specs.declared.refusals.Reason.{Reason}
use Rattle.xor_cli.specs.declared.refusals.Reason.TheVariants as reasons
use Rattle.xor_cli.specs.declared.refusals.Refusal.{Refusal}
use Rattle.xor_cli.specs.declared.words.RunCommand.{RunCommand}
use Rattle.xor_cli.specs.declared.words.RunCommand.TheVariants.{Step, Target}
use Rattle.program_status.specs.declared.notes.Excess.{Excess}
use Rattle.program_status.specs.declared.notes.Excess.TheVariants as excesses
use Rattle.xor_cli.specs.Unsupported.{first_later}

-- ---- what each run reads

-- `step` runs a script, and `target` a bench
abbrev pub Subject : RunCommand → Type 0
Subject (Step traced) = Script
Subject Target = Bench

-- the bytes spell it
abbrev pub Spells : (run : RunCommand) → List ℕ → Subject run → Type 0
Spells (Step traced) input script = SpellsScript input script
Spells Target input bench = SpellsBench input bench

-- the bytes spell none, and this is the first line that is refused, with its first cause
abbrev pub Refuses : RunCommand → List ℕ → ℕ → Cause → Type 0
Refuses (Step traced) input number cause = IsRefusal input number cause
Refuses Target input number cause = IsBenchRefusal input number cause

-- the first limit that it is past
abbrev pub passed_limit : (run : RunCommand) → Subject run → Option Limit
passed_limit (Step traced) script = limit_of script
passed_limit Target bench = bench_limit_of bench

-- the first line of it that can't be run yet; each line of a bench can
abbrev pub later_line : (run : RunCommand) → Subject run → Option ℕ
later_line (Step traced) script = first_later script
later_line Target bench = None

-- a script that is within all limits, and no line of which waits for later
abbrev pub IsRunnable : Script → Type 0
IsRunnable script = IsScript script × (limit_of script ≡ None) × (first_later script ≡ None)

-- it can be run
abbrev pub CanRunAs : (run : RunCommand) → Subject run → Type 0
CanRunAs (Step traced) script = IsRunnable script
CanRunAs Target bench = IsBench bench × (bench_limit_of bench ≡ None)

-- ---- the five kinds

-- the input is no longer than that, and spells this
abbrev pub IsSpelt : (run : RunCommand) → List ℕ → Subject run → Type 0
IsSpelt run input subject = (length input ≤ input_limit) × Spells run input subject

-- the input is what is run
abbrev pub IsAccepted : (run : RunCommand) → List ℕ → Subject run → Type 0
IsAccepted run input subject = IsSpelt run input subject × CanRunAs run subject

-- there is too much of this: the input is longer than it may be, or what it spells is past this limit
abbrev pub IsExcess : RunCommand → List ℕ → Excess → Type 0
IsExcess run input excesses.Input = input_limit < length input
IsExcess run input (excesses.Counted limit) = (subject : Subject run) × (IsSpelt run input subject × (passed_limit run subject ≡ Some limit))

-- the input isn't spelt, and this is the first line that is refused, with its first cause
abbrev pub IsUnspelt : RunCommand → List ℕ → ℕ → Cause → Type 0
IsUnspelt run input number cause = (length input ≤ input_limit) × Refuses run input number cause

-- what the input spells is within all limits, and this is the first line that can't be run yet
abbrev pub IsLater : RunCommand → List ℕ → ℕ → Type 0
IsLater run input number =
    (subject : Subject run) × (IsSpelt run input subject × (passed_limit run subject ≡ None) × (later_line run subject ≡ Some number))

-- the line is refused for this reason
abbrev pub IsRefusedFor : RunCommand → List ℕ → ℕ → Reason → Type 0
IsRefusedFor run input number reasons.Form = IsUnspelt run input number causes.Form
IsRefusedFor run input number reasons.Range = IsUnspelt run input number causes.Range
IsRefusedFor run input number reasons.Size = IsUnspelt run input number causes.Size
IsRefusedFor run input number reasons.Later = IsLater run input number

abbrev pub IsRefused : RunCommand → List ℕ → Refusal → Type 0
IsRefused run input refusal = IsRefusedFor run input refusal.line refusal.reason
