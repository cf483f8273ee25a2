-- What is promised of an Ok, where an answer is no Err; and of an Err, where it is one.
use Rattle.std.proofs.Common.{◌≡◌, true, false}
use Rattle.std.specs.Prelude.{Result, Ok, Err, OnOk, OnErr}
use Rattle.std.specs.Result.{is_err}

pub no-err : {T E : Type 0} (r : Result T E) (P : Type 0) → is_err r ≡ false → OnOk r P → P
no-err (Ok x) P h p = p
no-err (Err e) P h p = absurd cc

pub no-ok : {T E : Type 0} (r : Result T E) (P : Type 0) → is_err r ≡ true → OnErr r P → P
no-ok (Ok x) P h p = absurd cc
no-ok (Err e) P h p = p
