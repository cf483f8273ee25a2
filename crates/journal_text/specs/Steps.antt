-- Reading in steps: each gives a value, or nothing is read.
use Rattle.std.specs.Prelude.{ℕ, ◌≡◌, ◌<◌, ◌≤◌, nat_lt, nat_le, ◌==◌, Bool, true, false, Option, Some, None, Result, Ok, Err}
use Rattle.std.proofs.lemmas.Bool.{ltb-true, leb-true, eqb-true}
use Rattle.std.proofs.Common.{refl}
use Rattle.journal_text.specs.declared.fault.LineFault.{LineFault}
use Rattle.journal_text.specs.declared.fault.LineFault.TheVariants as faults

-- a line that isn't spelt says that nothing is read, and want of memory says nothing
abbrev pub Fails : {Y : Type 0} → LineFault → Option Y → Type 0
Fails faults.Unspelt read = read ≡ None
Fails faults.Memory read = Unit {0}

-- the same of a function that may want memory
abbrev pub Gives : {X Y : Type 0} → (X → Y) → Result X LineFault → Option Y → Type 0
Gives view (Ok x) read = read ≡ Some (view x)
Gives view (Err e) read = Fails e read

-- a proof that a number is below another, is at most another, and is the same, where it is
abbrev pub checked_below : (n m : ℕ) (b : Bool) → nat_lt n m ≡ b → Option (n < m)
checked_below n m true e = Some (ltb-true n m e)
checked_below n m false e = None

abbrev pub below : (n m : ℕ) → Option (n < m)
below n m = checked_below n m (nat_lt n m) refl

abbrev pub checked_most : (n m : ℕ) (b : Bool) → nat_le n m ≡ b → Option (n ≤ m)
checked_most n m true e = Some (leb-true n m e)
checked_most n m false e = None

abbrev pub at_most : (n m : ℕ) → Option (n ≤ m)
at_most n m = checked_most n m (nat_le n m) refl

abbrev pub checked_same : (n m : ℕ) (b : Bool) → (n == m) ≡ b → Option (n ≡ m)
checked_same n m true e = Some (eqb-true n m e)
checked_same n m false e = None

abbrev pub same : (n m : ℕ) → Option (n ≡ m)
same n m = checked_same n m (n == m) refl
