-- The clauses of a parser, in any grammar: by what its reading does with bytes that spell a value and with those that don't.
use Rattle.std.proofs.Common.{◌≡◌, ℕ, List, Result, Ok, Err, refl, sym, subst, ◌∙◌}
use Rattle.std.specs.Prelude.{IfOk, IfErr, MatchResult}
use Rattle.host_scripts.specs.declared.script.Cause.{Cause}
use Rattle.host_scripts.specs.declared.script.ScriptFault.{ScriptFault}
use Rattle.host_scripts.specs.declared.script.ScriptFault.TheVariants as faults
use Rattle.host_scripts.specs.Reading.{Fault, Fails, Gives}
use Rattle.host_scripts.specs.FirstRefusals.{Grammar, RefusesFirst}
use Rattle.host_scripts.proofs.Outcomes.{Outcome}
use Rattle.host_scripts.proofs.Loops.{same-ok}
use Rattle.host_scripts.proofs.LinePlaces.{NearIn}

-- what spells a value is read as it; what was read is spelt so, and what is refused is refused at its first line that is
pub record IsReading {V : Type 0} (g : Grammar V) (read : List ℕ → Result V Fault) : Type 0 where
  pub again : (bytes : List ℕ) (v : V) → g.spells bytes v → read bytes ≡ Ok v
  pub outcome : (bytes : List ℕ) → Outcome (λ v. g.spells bytes v) (NearIn g bytes) (read bytes)

good-by : {V : Type 0} (Good : V → Type 0) (Bad : ℕ → Cause → Type 0) (r : Result V Fault) → Outcome Good Bad r → (v : V) → r ≡ Ok v → Good v
good-by Good Bad (Ok t) h v e = subst Good (same-ok t v e) h
good-by Good Bad (Err f) h v e = absurd cc

bad-by : {V : Type 0} (Good : V → Type 0) (Bad : ℕ → Cause → Type 0) (r : Result V Fault) → Outcome Good Bad r → (n : ℕ) (cause : Cause) → r ≡ Err (n, cause) → Bad n cause
bad-by Good Bad (Ok v) h n cause e = absurd cc
bad-by Good Bad (Err f) h n cause e = let same : f ≡ (n, cause) = cc in subst (λ (x : Fault). Bad x.0 x.1) same h

ok-err : {V : Type 0} (v : V) (f : Fault) → ◌≡◌ {A = Result V Fault} (Ok v) (Err f) → ⊥
ok-err v f e = absurd cc

refused : {V : Type 0} (g : Grammar V) (read : List ℕ → Result V Fault) → IsReading g read → (bytes : List ℕ) (e : ScriptFault) → Fails e (read bytes) → RefusesFirst g bytes e
refused g read is bytes faults.Memory h = tt
refused g read is bytes (faults.Refused n cause) h =
    let near = bad-by (λ v. g.spells bytes v) (NearIn g bytes) (read bytes) (is.outcome bytes) n cause h in
    record {
      unspelt = λ v spells. ok-err v (n, cause) (sym (is.again bytes v spells) ∙ h);
      texts = near.texts;
      rest = near.rest;
      split = near.split;
      place = near.place;
      begins = near.begins;
      because = near.because;
    }

-- what is spelt isn't refused
spelt : {V : Type 0} (g : Grammar V) (read : List ℕ → Result V Fault) → IsReading g read → (bytes : List ℕ) (e : ScriptFault) → Fails e (read bytes) → (v : V) → g.spells bytes v → e ≡ faults.Memory
spelt g read is bytes faults.Memory h v spells = refl
spelt g read is bytes (faults.Refused n cause) h v spells = absurd (ok-err v (n, cause) (sym (is.again bytes v spells) ∙ h))

-- ---- what a function returned

pub read-clause : {V : Type 0} (g : Grammar V) (read : List ℕ → Result V Fault) → IsReading g read → (bytes : List ℕ) (r : Result V ScriptFault) → Gives (λ v. v) r (read bytes) → IfOk r (λ v. g.spells bytes v)
read-clause g read is bytes (Ok v) h = good-by (λ v. g.spells bytes v) (NearIn g bytes) (read bytes) (is.outcome bytes) v h
read-clause g read is bytes (Err e) h = tt

pub spelt-clause : {V : Type 0} (g : Grammar V) (read : List ℕ → Result V Fault) → IsReading g read → (bytes : List ℕ) (r : Result V ScriptFault) → Gives (λ v. v) r (read bytes) → (v : V) → g.spells bytes v
    → MatchResult r (λ t. t ≡ v) (λ e. e ≡ faults.Memory)
spelt-clause g read is bytes (Ok t) h v spells = same-ok t v (sym h ∙ is.again bytes v spells)
spelt-clause g read is bytes (Err e) h v spells = spelt g read is bytes e h v spells

pub refused-clause : {V : Type 0} (g : Grammar V) (read : List ℕ → Result V Fault) → IsReading g read → (bytes : List ℕ) (r : Result V ScriptFault) → Gives (λ v. v) r (read bytes) → IfErr r (λ e. RefusesFirst g bytes e)
refused-clause g read is bytes (Ok v) h = tt
refused-clause g read is bytes (Err e) h = refused g read is bytes e h

-- bytes spell at most one value
pub one-spelling : {V : Type 0} (g : Grammar V) (read : List ℕ → Result V Fault) → IsReading g read → (a b : V) (bytes : List ℕ) → g.spells bytes a → g.spells bytes b → a ≡ b
one-spelling g read is a b bytes f h = same-ok a b (sym (is.again bytes a f) ∙ is.again bytes b h)
