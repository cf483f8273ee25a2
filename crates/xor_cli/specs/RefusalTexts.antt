-- What is noted of a script that isn't run.
use Rattle.std.specs.Prelude.{ℕ, List, codes}
use Rattle.host_scripts.specs.declared.script.Cause.{Cause}
use Rattle.host_scripts.specs.declared.script.Cause.TheVariants as causes
use Rattle.program_status.specs.Notes.{refused_line}
use Rattle.xor_cli.specs.declared.refusals.Reason.{Reason}
use Rattle.xor_cli.specs.declared.refusals.Reason.TheVariants as reasons
use Rattle.xor_cli.specs.declared.refusals.Refusal.{Refusal}

-- the reason that is a cause of the grammar's
abbrev pub reason_of : Cause → Reason
reason_of causes.Form = reasons.Form
reason_of causes.Range = reasons.Range
reason_of causes.Size = reasons.Size

abbrev pub reason_text : Reason → List ℕ
reason_text reasons.Form = codes "form"
reason_text reasons.Range = codes "range"
reason_text reasons.Size = codes "size"
reason_text reasons.Later = codes "later"

abbrev pub refusal_line : Refusal → List ℕ
refusal_line refusal = refused_line refusal.line (reason_text refusal.reason)
