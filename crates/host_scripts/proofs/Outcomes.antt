-- What is known of a reading, and of the readings that follow one another.
use Rattle.std.proofs.Common.{ℕ, Result, Ok, Err}
use Rattle.host_scripts.specs.declared.script.Cause.{Cause}
use Rattle.host_scripts.specs.Reading.{◌>>=◌, Fault}

-- what was read is good, and a line that is refused is bad for that cause
abbrev pub Outcome : {X : Type 0} → (X → Type 0) → (ℕ → Cause → Type 0) → Result X Fault → Type 0
Outcome Good Bad (Ok x) = Good x
Outcome Good Bad (Err e) = Bad e.0 e.1

pub then : {X Y : Type 0} (Good : X → Type 0) (Next : Y → Type 0) (Bad : ℕ → Cause → Type 0) (r : Result X Fault) (f : X → Result Y Fault)
    → Outcome Good Bad r → ((x : X) → Good x → Outcome Next Bad (f x)) → Outcome Next Bad (r >>= f)
then Good Next Bad (Ok x) f h k = k x h
then Good Next Bad (Err e) f h k = h
